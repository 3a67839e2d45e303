-- One turn of each loop of comparisons, and its end.
use Rattle.std.proofs.Common.{◌≡◌, refl, sym, ap, ◌∙◌, ℕ, ◌+◌, ◌<◌, ◌≤◌, List, [], ◌∷◌, ◌++◌, length, get_or, drop, Bool, true, false, cond, Option, Some, None, append_assoc, append-nil}
use Rattle.doc_model.specs.Answers.{Known, Fault, Open}
use Rattle.xpath_syntax.specs.declared.expression.Op.{Op}
use Rattle.xpath_values.specs.declared.atom.Atom.{Atom as AnyAtom}
use Rattle.xpath_values.specs.declared.atom.Atom.TheVariants.{Text}
use Rattle.xpath_meaning.specs.Comparisons.{compare_atoms, some_left, some_right}
use Rattle.xpath_meaning.specs.Outcome.{Outcome, ◌>>=◌, some_holds}
use Rattle.xpath_meaning.specs.Reading.{Reading}
use Rattle.xpath_nodes.specs.Pairs.{atom_of, behind, none_met, meets_some, some_meets}
use Rattle.xpath_nodes.proofs.Turning.{then_then, rest_of, no_rest, some_turns, some_ends}

-- a string-value as an atom, and what is said of it
by_atom : {B : Type 0} (o : Outcome (List ℕ)) (f : AnyAtom → Outcome Bool) (g : Bool → Outcome B) → ((o >>= λ a. f (Text a)) >>= g) ≡ ((o >>= λ a. Known (Text a)) >>= λ a. f a >>= g)
by_atom (Known a) f g = refl
by_atom (Fault e) f g = refl
by_atom (Open m) f g = refl

pub left_turns : (op : Op) (R : Reading) (ns : List ℕ) (i : ℕ) (b : AnyAtom) → i < length ns
    → some_left op R (drop i ns) b ≡ (atom_of R (get_or ns i 0) >>= λ a. compare_atoms op a b >>= λ here. cond here (Known true) (some_left op R (drop (i + 1) ns) b))
left_turns op R ns i b h =
    some_turns (λ n. R.value n >>= λ a. compare_atoms op (Text a) b) ns i 0 h
    ∙ by_atom (R.value (get_or ns i 0)) (λ a. compare_atoms op a b) (λ here. cond here (Known true) (some_left op R (drop (i + 1) ns) b))

pub left_ends : (op : Op) (R : Reading) (ns : List ℕ) (i : ℕ) (b : AnyAtom) → length ns ≤ i → some_left op R (drop i ns) b ≡ Known false
left_ends op R ns i b h = some_ends (λ n. R.value n >>= λ a. compare_atoms op (Text a) b) ns i h

pub right_turns : (op : Op) (R : Reading) (a : AnyAtom) (ns : List ℕ) (i : ℕ) → i < length ns
    → some_right op R a (drop i ns) ≡ (atom_of R (get_or ns i 0) >>= λ b. compare_atoms op a b >>= λ here. cond here (Known true) (some_right op R a (drop (i + 1) ns)))
right_turns op R a ns i h =
    some_turns (λ n. R.value n >>= λ b. compare_atoms op a (Text b)) ns i 0 h
    ∙ by_atom (R.value (get_or ns i 0)) (λ b. compare_atoms op a b) (λ here. cond here (Known true) (some_right op R a (drop (i + 1) ns)))

pub right_ends : (op : Op) (R : Reading) (a : AnyAtom) (ns : List ℕ) (i : ℕ) → length ns ≤ i → some_right op R a (drop i ns) ≡ Known false
right_ends op R a ns i h = some_ends (λ n. R.value n >>= λ b. compare_atoms op a (Text b)) ns i h

-- ---- the right string-values beside the first left one

abbrev pub with_atoms : List AnyAtom → Option (List AnyAtom) → Option (List AnyAtom)
with_atoms atoms None = None
with_atoms atoms (Some rest) = Some (atoms ++ rest)

-- what is left of none_met, behind these atoms
abbrev pub meeting : Op → Reading → AnyAtom → List ℕ → List AnyAtom → Outcome (Option (List AnyAtom))
meeting op R a ns atoms = none_met op R a ns >>= λ rest. Known (with_atoms atoms rest)

meeting_none : (o : Outcome (Option (List AnyAtom))) (none : List AnyAtom) → none ≡ [] → o ≡ (o >>= λ rest. Known (with_atoms none rest))
meeting_none (Known None) none e = refl
meeting_none (Known (Some rest)) none e = ap (λ n. Known (Some (n ++ rest))) (sym e)
meeting_none (Fault f) none e = refl
meeting_none (Open m) none e = refl

pub meeting_starts : (op : Op) (R : Reading) (a : AnyAtom) (ns : List ℕ) (none : List AnyAtom) → none ≡ [] → none_met op R a ns ≡ meeting op R a (drop 0 ns) none
meeting_starts op R a ns none e = meeting_none (none_met op R a ns) none e

meeting_behind : (p : Outcome (Option (List AnyAtom))) (b : AnyAtom) (atoms : List AnyAtom)
    → ((p >>= λ rest. Known (behind b rest)) >>= λ rest. Known (with_atoms atoms rest)) ≡ (p >>= λ rest. Known (with_atoms (atoms ++ b ∷ []) rest))
meeting_behind (Known None) b atoms = refl
meeting_behind (Known (Some rest)) b atoms = ap (λ all. Known (Some all)) (sym (append_assoc atoms (b ∷ []) rest))
meeting_behind (Fault f) b atoms = refl
meeting_behind (Open m) b atoms = refl

meeting_here : (here : Outcome Bool) (p : Outcome (Option (List AnyAtom))) (b : AnyAtom) (atoms : List AnyAtom)
    → ((here >>= λ here. cond here (Known None) (p >>= λ rest. Known (behind b rest))) >>= λ rest. Known (with_atoms atoms rest))
    ≡ (here >>= λ here. cond here (Known None) (p >>= λ rest. Known (with_atoms (atoms ++ b ∷ []) rest)))
meeting_here (Known true) p b atoms = refl
meeting_here (Known false) p b atoms = meeting_behind p b atoms
meeting_here (Fault f) p b atoms = refl
meeting_here (Open m) p b atoms = refl

meeting_at : (o : Outcome AnyAtom) (op : Op) (a : AnyAtom) (p : Outcome (Option (List AnyAtom))) (atoms : List AnyAtom)
    → ((o >>= λ b. compare_atoms op a b >>= λ here. cond here (Known None) (p >>= λ rest. Known (behind b rest))) >>= λ rest. Known (with_atoms atoms rest))
    ≡ (o >>= λ b. compare_atoms op a b >>= λ here. cond here (Known None) (p >>= λ rest. Known (with_atoms (atoms ++ b ∷ []) rest)))
meeting_at (Known b) op a p atoms = meeting_here (compare_atoms op a b) p b atoms
meeting_at (Fault f) op a p atoms = refl
meeting_at (Open m) op a p atoms = refl

pub meeting_turns : (op : Op) (R : Reading) (a : AnyAtom) (ns : List ℕ) (i : ℕ) (atoms : List AnyAtom) → i < length ns
    → meeting op R a (drop i ns) atoms ≡ (atom_of R (get_or ns i 0) >>= λ b. compare_atoms op a b >>= λ here. cond here (Known None) (meeting op R a (drop (i + 1) ns) (atoms ++ b ∷ [])))
meeting_turns op R a ns i atoms h = ap (λ left. meeting op R a left atoms) (rest_of ns i 0 h) ∙ meeting_at (atom_of R (get_or ns i 0)) op a (none_met op R a (drop (i + 1) ns)) atoms

pub meeting_ends : (op : Op) (R : Reading) (a : AnyAtom) (ns : List ℕ) (i : ℕ) (atoms : List AnyAtom) → length ns ≤ i → meeting op R a (drop i ns) atoms ≡ Known (Some atoms)
meeting_ends op R a ns i atoms h = ap (λ left. meeting op R a left atoms) (no_rest ns i h) ∙ ap (λ all. Known (Some all)) (append-nil atoms)

-- ---- the other left nodes

pub meets_turns : (op : Op) (R : Reading) (atoms : List AnyAtom) (ns : List ℕ) (i : ℕ) → i < length ns
    → some_meets op R atoms (drop i ns) ≡ (atom_of R (get_or ns i 0) >>= λ a. meets_some op a atoms >>= λ here. cond here (Known true) (some_meets op R atoms (drop (i + 1) ns)))
meets_turns op R atoms ns i h =
    some_turns (λ n. atom_of R n >>= λ a. meets_some op a atoms) ns i 0 h
    ∙ then_then (atom_of R (get_or ns i 0)) (λ a. meets_some op a atoms) (λ here. cond here (Known true) (some_meets op R atoms (drop (i + 1) ns)))

pub meets_ends : (op : Op) (R : Reading) (atoms : List AnyAtom) (ns : List ℕ) (i : ℕ) → length ns ≤ i → some_meets op R atoms (drop i ns) ≡ Known false
meets_ends op R atoms ns i h = some_ends (λ n. atom_of R n >>= λ a. meets_some op a atoms) ns i h

pub some_turn : (op : Op) (a : AnyAtom) (atoms : List AnyAtom) (i : ℕ) (b : AnyAtom) → i < length atoms → b ≡ get_or atoms i b
    → meets_some op a (drop i atoms) ≡ (compare_atoms op a b >>= λ here. cond here (Known true) (meets_some op a (drop (i + 1) atoms)))
some_turn op a atoms i b h e =
    ap (meets_some op a) (rest_of atoms i b h) ∙ ap (λ k. compare_atoms op a k >>= λ here. cond here (Known true) (meets_some op a (drop (i + 1) atoms))) (sym e)
