-- The pairs of two node-sets, where each string-value is taken once.
use Rattle.std.proofs.Common.{◌≡◌, refl, sym, ap, ◌∙◌, subst, ℕ, ◌<◌, List, [], ◌∷◌, ◌++◌, length, map, Bool, true, false, cond, Option, Some, None, eqb, get_or, take, drop, ◌-◌, ◌≤◌, arith}
use Rattle.std.proofs.lemmas.Bool.{eqb-true}
use Rattle.std.proofs.lemmas.List.{take_all}
use Rattle.doc_model.specs.Answers.{Answer, Known, Fault, Open, Stays}
use Rattle.fault_kinds.specs.declared.fault.FaultKind.{FaultKind}
use Rattle.xpath_syntax.specs.declared.expression.Op.{Op}
use Rattle.xpath_values.specs.declared.atom.Atom.{Atom as AnyAtom}
use Rattle.xpath_values.specs.declared.atom.Atom.TheVariants.{Text}
use Rattle.xpath_meaning.specs.Comparisons.{compare_atoms, pairs, compare_pair}
use Rattle.xpath_meaning.specs.Outcome.{Outcome, ◌>>=◌, some_holds, each_of}
use Rattle.xpath_meaning.specs.Reading.{Reading, Extends}
use Rattle.xpath_laws.proofs.Staying.{bind_stays, stays, if_stays}
use Rattle.key_sources.proofs.Saying.{Keeps}
use Rattle.xpath_nodes.specs.Pairs.{atom_of, behind, none_met, meets_some, some_meets}

-- ---- what is known of a whole is known of its parts

pub known_parts : {A B : Type 0} (o : Outcome A) (f : A → Outcome B) (x : B) → (o >>= f) ≡ Known x → (y : A) × (o ≡ Known y) × (f y ≡ Known x)
known_parts (Known y) f x e = (y, refl, e)
known_parts (Fault fault) f x e = cc
known_parts (Open m) f x e = cc

abbrev told : {A : Type 0} → A → Outcome A
told x = Known x

known_same : {A : Type 0} {x y : A} → told x ≡ Known y → y ≡ x
known_same e = cc

-- ---- parts of lists

pub no_items : (xs : List ℕ) → eqb (length xs) 0 ≡ true → xs ≡ []
no_items [] e = refl
no_items (x ∷ xs) e = absurd (let none : length (x ∷ xs) ≡ 0 = eqb-true (length (x ∷ xs)) 0 e in omega arith)

-- the first, and the others as a pattern of a slice has them
pub cut_first : (ns : List ℕ) → 1 ≤ length ns → ns ≡ get_or ns 0 0 ∷ take (length ns - 1) (drop 1 ns)
cut_first [] h = absurd (omega arith)
cut_first (n ∷ ns) h = ap (λ others. n ∷ others) (sym (take_all (length (n ∷ ns) - 1) ns (omega arith)))

-- ---- lists one behind the other

either : (o p q r : Outcome Bool) → q ≡ (p >>= λ here. cond here (Known true) r) → (o >>= λ h. cond h (Known true) q) ≡ ((o >>= λ h. cond h (Known true) p) >>= λ here. cond here (Known true) r)
either (Known true) p q r e = refl
either (Known false) p q r e = e
either (Fault f) p q r e = refl
either (Open m) p q r e = refl

pub some_append : {A : Type 0} (f : A → Outcome Bool) (xs ys : List A) → some_holds f (xs ++ ys) ≡ (some_holds f xs >>= λ here. cond here (Known true) (some_holds f ys))
some_append f [] ys = refl
some_append f (x ∷ xs) ys = either (f x) (some_holds f xs) (some_holds f (xs ++ ys)) (some_holds f ys) (some_append f xs ys)

pub no_pairs : (left : List ℕ) → pairs left [] ≡ []
no_pairs [] = refl
no_pairs (n ∷ ns) = no_pairs ns

-- ---- one left node

-- the left string-value, and each of the right ones
abbrev pub row : Op → Reading → Outcome (List ℕ) → List ℕ → Outcome Bool
row op R o right = some_holds (λ k. o >>= λ a. R.value k >>= λ b. compare_atoms op (Text a) (Text b)) right

pub row_is : (op : Op) (R : Reading) (n : ℕ) (right : List ℕ) → some_holds (compare_pair op R) (map (λ k. (n, k)) right) ≡ row op R (R.value n) right
row_is op R n [] = refl
row_is op R n (k ∷ ks) = ap (λ rest. compare_pair op R (n, k) >>= λ here. cond here (Known true) rest) (row_is op R n ks)

pub row_stops_fault : (op : Op) (R : Reading) (f : FaultKind) (right : List ℕ) → 0 < length right → row op R (Fault f) right ≡ Fault f
row_stops_fault op R f [] l = absurd (omega arith)
row_stops_fault op R f (k ∷ ks) l = refl

pub row_stops_open : (op : Op) (R : Reading) (m : ℕ) (right : List ℕ) → 0 < length right → row op R (Open m) right ≡ Open m
row_stops_open op R m [] l = absurd (omega arith)
row_stops_open op R m (k ∷ ks) l = refl

-- ---- the first left node

abbrev pub met : Option (List AnyAtom) → Bool
met None = true
met (Some atoms) = false

met_behind : (b : AnyAtom) (p : Outcome (Option (List AnyAtom))) → (p >>= λ left. told (met left)) ≡ ((p >>= λ rest. Known (behind b rest)) >>= λ left. Known (met left))
met_behind b (Known None) = refl
met_behind b (Known (Some atoms)) = refl
met_behind b (Fault f) = refl
met_behind b (Open m) = refl

met_here : (b : AnyAtom) (o q : Outcome Bool) (p : Outcome (Option (List AnyAtom))) → q ≡ (p >>= λ left. Known (met left))
    → (o >>= λ here. cond here (Known true) q) ≡ ((o >>= λ here. cond here (Known None) (p >>= λ rest. Known (behind b rest))) >>= λ left. Known (met left))
met_here b (Known true) q p e = refl
met_here b (Known false) q p e = e ∙ met_behind b p
met_here b (Fault f) q p e = refl
met_here b (Open m) q p e = refl

met_at : (op : Op) (a : List ℕ) (o : Outcome (List ℕ)) (q : Outcome Bool) (p : Outcome (Option (List AnyAtom))) → q ≡ (p >>= λ left. Known (met left))
    → ((o >>= λ b. compare_atoms op (Text a) (Text b)) >>= λ here. cond here (Known true) q)
    ≡ (((o >>= λ bytes. Known (Text bytes)) >>= λ b. compare_atoms op (Text a) b >>= λ here. cond here (Known None) (p >>= λ rest. Known (behind b rest))) >>= λ left. Known (met left))
met_at op a (Known bytes) q p e = met_here (Text bytes) (compare_atoms op (Text a) (Text bytes)) q p e
met_at op a (Fault f) q p e = refl
met_at op a (Open m) q p e = refl

row_met : (op : Op) (R : Reading) (a : List ℕ) (right : List ℕ) → row op R (Known a) right ≡ (none_met op R (Text a) right >>= λ left. Known (met left))
row_met op R a [] = refl
row_met op R a (k ∷ ks) = met_at op a (R.value k) (row op R (Known a) ks) (none_met op R (Text a) ks) (row_met op R a ks)

-- nothing more is asked where the first left node meets some right one
abbrev pub unless_met : Outcome Bool → Option (List AnyAtom) → Outcome Bool
unless_met others None = Known true
unless_met others (Some atoms) = others

met_or : (p : Outcome (Option (List AnyAtom))) (others : Outcome Bool) → ((p >>= λ left. Known (met left)) >>= λ here. cond here (Known true) others) ≡ (p >>= unless_met others)
met_or (Known None) others = refl
met_or (Known (Some atoms)) others = refl
met_or (Fault f) others = refl
met_or (Open m) others = refl

from_row : (op : Op) (R : Reading) (o : Outcome (List ℕ)) (right : List ℕ) (others : Outcome Bool) → 0 < length right
    → (row op R o right >>= λ here. cond here (Known true) others) ≡ ((o >>= λ bytes. Known (Text bytes)) >>= λ a. none_met op R a right >>= unless_met others)
from_row op R (Known a) right others l = ap (λ r. r >>= λ here. cond here (Known true) others) (row_met op R a right) ∙ met_or (none_met op R (Text a) right) others
from_row op R (Fault f) right others l = ap (λ r. r >>= λ here. cond here (Known true) others) (row_stops_fault op R f right l)
from_row op R (Open m) right others l = ap (λ r. r >>= λ here. cond here (Known true) others) (row_stops_open op R m right l)

pub pairs_from : (op : Op) (R : Reading) (n : ℕ) (ns right : List ℕ) → 0 < length right
    → some_holds (compare_pair op R) (pairs (n ∷ ns) right) ≡ (atom_of R n >>= λ a. none_met op R a right >>= unless_met (some_holds (compare_pair op R) (pairs ns right)))
pairs_from op R n ns right l =
    some_append (compare_pair op R) (map (λ k. (n, k)) right) (pairs ns right)
    ∙ ap (λ r. r >>= λ here. cond here (Known true) (some_holds (compare_pair op R) (pairs ns right))) (row_is op R n right)
    ∙ from_row op R (R.value n) right (some_holds (compare_pair op R) (pairs ns right)) l

-- ---- the other left nodes, once the right string-values are known

abbrev pub TellsRight : Reading → List ℕ → List AnyAtom → Type 0
TellsRight R right atoms = each_of (atom_of R) right ≡ Known atoms

kept_here : (b : AnyAtom) (o : Outcome Bool) (p : Outcome (Option (List AnyAtom))) (atoms : List AnyAtom)
    → (o >>= λ here. cond here (Known None) (p >>= λ rest. Known (behind b rest))) ≡ Known (Some atoms)
    → (rest : List AnyAtom) × (p ≡ Known (Some rest)) × (atoms ≡ b ∷ rest)
kept_here b (Known true) p atoms e = cc
kept_here b (Known false) (Known None) atoms e = cc
kept_here b (Known false) (Known (Some rest)) atoms e = (rest, refl, cc)
kept_here b (Known false) (Fault f) atoms e = cc
kept_here b (Known false) (Open m) atoms e = cc
kept_here b (Fault f) p atoms e = cc
kept_here b (Open m) p atoms e = cc

pub kept_right : (op : Op) (R : Reading) (a : AnyAtom) (right : List ℕ) (atoms : List AnyAtom) → none_met op R a right ≡ Known (Some atoms) → TellsRight R right atoms
kept_right op R a [] atoms e = cc
kept_right op R a (k ∷ ks) atoms e =
    let p = known_parts (atom_of R k) (λ b. compare_atoms op a b >>= λ here. cond here (Known None) (none_met op R a ks >>= λ rest. Known (behind b rest))) (Some atoms) e in
    let h = kept_here p.0 (compare_atoms op a p.0) (none_met op R a ks) atoms p.2 in
    ap (λ o. o >>= λ y. each_of (atom_of R) ks >>= λ ys. Known (y ∷ ys)) p.1 ∙ ap (λ o. o >>= λ ys. Known (p.0 ∷ ys)) (kept_right op R a ks h.0 h.1) ∙ ap Known (sym h.2)

tells_parts : (R : Reading) (k : ℕ) (ks : List ℕ) (atoms : List AnyAtom) → TellsRight R (k ∷ ks) atoms
    → (b : AnyAtom) × (rest : List AnyAtom) × (atom_of R k ≡ Known b) × TellsRight R ks rest × (atoms ≡ b ∷ rest)
tells_parts R k ks atoms e =
    let p = known_parts (atom_of R k) (λ y. each_of (atom_of R) ks >>= λ ys. Known (y ∷ ys)) atoms e in
    let q = known_parts (each_of (atom_of R) ks) (λ ys. Known (p.0 ∷ ys)) atoms p.2 in
    (p.0, q.0, p.1, q.1, (known_same q.2))

through_atom : (op : Op) (a : List ℕ) (o : Outcome (List ℕ)) → (o >>= λ b. compare_atoms op (Text a) (Text b)) ≡ ((o >>= λ bytes. Known (Text bytes)) >>= λ b. compare_atoms op (Text a) b)
through_atom op a (Known b) = refl
through_atom op a (Fault f) = refl
through_atom op a (Open m) = refl

row_known : (op : Op) (R : Reading) (a : List ℕ) (right : List ℕ) (atoms : List AnyAtom) → TellsRight R right atoms → row op R (Known a) right ≡ meets_some op (Text a) atoms
row_known op R a [] atoms e = ap (meets_some op (Text a)) (sym (known_same e))
row_known op R a (k ∷ ks) atoms e =
    let p = tells_parts R k ks atoms e in
    ap (λ o. o >>= λ here. cond here (Known true) (row op R (Known a) ks)) (through_atom op a (R.value k) ∙ ap (λ o. o >>= λ b. compare_atoms op (Text a) b) p.2)
    ∙ ap (λ rest. compare_atoms op (Text a) p.0 >>= λ here. cond here (Known true) rest) (row_known op R a ks p.1 p.3)
    ∙ ap (meets_some op (Text a)) (sym p.4)

row_other : (op : Op) (R : Reading) (o : Outcome (List ℕ)) (right : List ℕ) (atoms : List AnyAtom) → 0 < length right → TellsRight R right atoms
    → row op R o right ≡ ((o >>= λ bytes. Known (Text bytes)) >>= λ a. meets_some op a atoms)
row_other op R (Known a) right atoms l e = row_known op R a right atoms e
row_other op R (Fault f) right atoms l e = row_stops_fault op R f right l
row_other op R (Open m) right atoms l e = row_stops_open op R m right l

pub pairs_other : (op : Op) (R : Reading) (ns right : List ℕ) (atoms : List AnyAtom) → 0 < length right → TellsRight R right atoms
    → some_holds (compare_pair op R) (pairs ns right) ≡ some_meets op R atoms ns
pairs_other op R [] right atoms l e = refl
pairs_other op R (n ∷ ns) right atoms l e =
    some_append (compare_pair op R) (map (λ k. (n, k)) right) (pairs ns right)
    ∙ ap (λ r. r >>= λ here. cond here (Known true) (some_holds (compare_pair op R) (pairs ns right))) (row_is op R n right ∙ row_other op R (R.value n) right atoms l e)
    ∙ ap (λ rest. (atom_of R n >>= λ a. meets_some op a atoms) >>= λ here. cond here (Known true) rest) (pairs_other op R ns right atoms l e)

-- ---- what is told stays

pub keeps_atom : (n : ℕ) → Keeps (λ R. atom_of R n)
keeps_atom n = record { stays = λ R Q x. bind_stays (R.value n) (Q.value n) _ _ (x.value n) (λ bytes. refl) }

none_met_stays : (op : Op) (a : AnyAtom) (right : List ℕ) (R Q : Reading) → Extends R Q → Stays (none_met op R a right) (none_met op Q a right)
none_met_stays op a [] R Q x = refl
none_met_stays op a (k ∷ ks) R Q x =
    bind_stays (atom_of R k) (atom_of Q k) _ _ (bind_stays (R.value k) (Q.value k) _ _ (x.value k) (λ bytes. refl))
    (λ b. bind_stays _ _ _ _ (stays (compare_atoms op a b)) (λ here. if_stays here _ _ _ _ refl (bind_stays _ _ _ _ (none_met_stays op a ks R Q x) (λ rest. refl))))

pub keeps_none_met : (op : Op) (a : AnyAtom) (right : List ℕ) → Keeps (λ R. none_met op R a right)
keeps_none_met op a right = record { stays = λ R Q x. none_met_stays op a right R Q x }
