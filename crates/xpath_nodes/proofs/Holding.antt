-- Nodes that are there stay there.
use Rattle.std.proofs.Common.{◌≡◌, sym, ap, ◌∙◌, subst, ℕ, suc, ◌<◌, zero, List, [], ◌∷◌, length, get_or, arith, true, Option, Some, None}
use Rattle.doc_model.specs.declared.step.Step.{Step}
use Rattle.doc_model.specs.declared.strip_rule.StripRule.{StripRule}
use Rattle.doc_model.specs.Lawful.{Grows, IsJoined}
use Rattle.doc_model.specs.Rows.{rows_of}
use Rattle.doc_model.specs.Strip.{is_visible}
use Rattle.doc_model.specs.View.{Seen, Moves}
use Rattle.doc_laws.proofs.Growth.{joined_grows, prefix_rows}
use Rattle.doc_laws.proofs.Visible.{visible_grows}
use Rattle.xpath_laws.specs.Sound.{Rows, Each, IsThere}
use Rattle.xpath_meaning.specs.Conversions.{first_of}
use Rattle.xpath_values.specs.declared.value.Value.{Value}
use Rattle.xpath_values.specs.declared.value.Value.TheVariants.{Nodes, Atom, Fragment}
use Rattle.xpath_nodes.specs.Held.{AllJoined, IsJoinedIf, HasJoined}

pub each_weaker : {A : Type 0} (T U : A → Type 0) (ns : List A) → ((n : A) → T n → U n) → Each T ns → Each U ns
each_weaker T U [] h a = tt
each_weaker T U (n ∷ ns) h a = (h n a.0, each_weaker T U ns h a.1)

pub each_at : (T : Rows) (ns : List ℕ) (i : ℕ) → Each T ns → i < length ns → T (get_or ns i 0)
each_at T [] i a l = absurd (omega arith)
each_at T (n ∷ ns) zero a l = a.0
each_at T (n ∷ ns) (suc i) a l = each_at T ns i a.1 (omega arith)

pub all_on : (p q : List Step) (ns : List ℕ) → Grows p q → AllJoined p ns → AllJoined q ns
all_on p q ns g a = each_weaker (IsJoined p) (IsJoined q) ns (λ n j. joined_grows p q n g j) a

pub value_on : (p q : List Step) (v : Value) → Grows p q → HasJoined p v → HasJoined q v
value_on p q (Nodes nodes) g a = all_on p q nodes g a
value_on p q (Atom atom) g a = tt
value_on p q (Fragment events) g a = tt

pub there_on : {M : Type 0} (s t : Seen M) (n : ℕ) → Moves s t → IsThere s.rules s.steps n → IsThere t.rules t.steps n
there_on s t n m w =
    let r = prefix_rows s.steps t.steps m.grows in
    subst (λ rules. IsThere rules t.steps n) (sym m.rules_stay)
    (joined_grows s.steps t.steps n m.grows w.0, ap (λ rows. is_visible s.rules rows n) r.1 ∙ visible_grows s.rules (rows_of s.steps) (r.0) n w.0 ∙ w.1)

pub all_there_on : {M : Type 0} (s t : Seen M) (ns : List ℕ) → Moves s t → Each (IsThere s.rules s.steps) ns → Each (IsThere t.rules t.steps) ns
all_there_on s t ns m a = each_weaker (IsThere s.rules s.steps) (IsThere t.rules t.steps) ns (λ n w. there_on s t n m w) a

pub there_joined : (rules : List StripRule) (steps : List Step) (ns : List ℕ) → Each (IsThere rules steps) ns → AllJoined steps ns
there_joined rules steps ns a = each_weaker (IsThere rules steps) (IsJoined steps) ns (λ n w. w.0) a

pub first_held : (steps : List Step) (ns : List ℕ) (first : Option ℕ) → AllJoined steps ns → first ≡ first_of ns → IsJoinedIf steps first
first_held steps [] first a e = subst (IsJoinedIf steps) (sym e) tt
first_held steps (n ∷ ns) first a e = subst (IsJoinedIf steps) (sym e) a.0

pub first_there : (rules : List StripRule) (steps : List Step) (ns : List ℕ) (n : ℕ) → Each (IsThere rules steps) ns → first_of ns ≡ Some n → IsThere rules steps n
first_there rules steps [] n a e = absurd (let no : ◌≡◌ {A = Option ℕ} None (Some n) = e in cc)
first_there rules steps (k ∷ ks) n a e = subst (IsThere rules steps) (let same : Some k ≡ Some n = e in cc) a.0
