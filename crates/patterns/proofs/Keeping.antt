-- One turn of each loop over predicates and nodes, and its end.
use Rattle.std.proofs.Common.{◌≡◌, refl, sym, ap, ◌∙◌, ℕ, suc, ◌+◌, ◌<◌, ◌≤◌, List, [], ◌∷◌}
use Rattle.std.proofs.Common.{◌++◌, length, get_or, drop, map, Bool, true, false, cond, ◌||◌, append_assoc, append-nil, add-one, arith}
use Rattle.std.proofs.lemmas.Bool.{eq-eqb, ne_eqb}
use Rattle.std.specs.List.{list_any}
use Rattle.doc_model.specs.Answers.{Known, Fault, Open}
use Rattle.doc_model.specs.Document.{is_member}
use Rattle.xpath_laws.specs.Sound.{Rows, Each}
use Rattle.xpath_meaning.specs.Evaluation.{meant}
use Rattle.xpath_meaning.specs.Match.{size_of, says, position_in, passes}
use Rattle.xpath_meaning.specs.Outcome.{Outcome, ◌>>=◌, with_if, kept_from}
use Rattle.xpath_meaning.specs.Reading.{Reading}
use Rattle.xpath_nodes.proofs.Turning.{rest_of, no_rest}
use Rattle.xpath_syntax.specs.declared.expression.Expr.{Expr}

-- what is left of keeping, behind nodes that were kept
abbrev pub keeping : {A : Type 0} → ℕ → (ℕ → A → Outcome Bool) → List A → List A → Outcome (List A)
keeping position holds left kept = kept_from position holds left >>= λ more. Known (kept ++ more)

keeps_none : {A : Type 0} (o : Outcome (List A)) (none : List A) → none ≡ [] → o ≡ (o >>= λ more. Known (none ++ more))
keeps_none (Known more) none e = ap (λ n. Known (n ++ more)) (sym e)
keeps_none (Fault f) none e = refl
keeps_none (Open m) none e = refl

pub keeping_starts : {A : Type 0} (holds : ℕ → A → Outcome Bool) (nodes none : List A) → none ≡ [] → kept_from 1 holds nodes ≡ keeping (0 + 1) holds (drop 0 nodes) none
keeping_starts holds nodes none e = keeps_none (kept_from 1 holds nodes) none e

-- the nodes that were kept, with one more
abbrev pub kept_with : {A : Type 0} → Bool → A → List A → List A
kept_with here n kept = cond here (kept ++ n ∷ []) kept

keeps_one : {A : Type 0} (here : Outcome Bool) (o : Outcome (List A)) (n : A) (kept : List A)
    → ((here >>= λ here. o >>= λ rest. Known (with_if here n rest)) >>= λ more. Known (kept ++ more)) ≡ (here >>= λ here. o >>= λ more. Known (kept_with here n kept ++ more))
keeps_one (Known true) (Known rest) n kept = ap Known (sym (append_assoc kept (n ∷ []) rest))
keeps_one (Known true) (Fault f) n kept = refl
keeps_one (Known true) (Open m) n kept = refl
keeps_one (Known false) (Known rest) n kept = refl
keeps_one (Known false) (Fault f) n kept = refl
keeps_one (Known false) (Open m) n kept = refl
keeps_one (Fault f) o n kept = refl
keeps_one (Open m) o n kept = refl

pub keeping_turns : (holds : ℕ → ℕ → Outcome Bool) (nodes : List ℕ) (i position : ℕ) (kept : List ℕ) → i < length nodes → position ≡ i + 1
    → keeping (i + 1) holds (drop i nodes) kept ≡ (holds position (get_or nodes i 0) >>= λ here. keeping (i + 1 + 1) holds (drop (i + 1) nodes) (kept_with here (get_or nodes i 0) kept))
keeping_turns holds nodes i position kept l e =
    ap (λ left. keeping (i + 1) holds left kept) (rest_of nodes i 0 l)
    ∙ ap (λ k. (holds (i + 1) (get_or nodes i 0) >>= λ here. kept_from k holds (drop (i + 1) nodes) >>= λ rest. Known (with_if here (get_or nodes i 0) rest)) >>= λ more. Known (kept ++ more))
    (sym (add-one (i + 1)))
    ∙ keeps_one (holds (i + 1) (get_or nodes i 0)) (kept_from (i + 1 + 1) holds (drop (i + 1) nodes)) (get_or nodes i 0) kept
    ∙ ap (λ p. holds p (get_or nodes i 0) >>= λ here. keeping (i + 1 + 1) holds (drop (i + 1) nodes) (kept_with here (get_or nodes i 0) kept)) (sym e)

pub keeping_ends : {A : Type 0} (holds : ℕ → A → Outcome Bool) (nodes : List A) (i position : ℕ) (kept : List A) → length nodes ≤ i → keeping position holds (drop i nodes) kept ≡ Known kept
keeping_ends holds nodes i position kept l = ap (λ left. keeping position holds left kept) (no_rest nodes i l) ∙ ap Known (append-nil kept)

pub kept_each : (T : Rows) (kept : List ℕ) (n : ℕ) → Each T kept → T n → Each T (kept ++ n ∷ [])
kept_each T [] n a t = (t, tt)
kept_each T (k ∷ kept) n a t = (a.0, kept_each T kept n a.1 t)

-- ---- predicates

pub passes_turns : (R : Reading) (known : Bool) (n : ℕ) (predicates : List Expr) (i : ℕ) (predicate : Expr) (left : List ℕ) → i + 1 < length predicates → predicate ≡ get_or predicates i predicate
    → passes R known n (map meant (drop i predicates)) left
    ≡ (kept_from 1 (says R (size_of known left) (meant predicate)) left >>= λ kept. cond (is_member n kept) (passes R known n (map meant (drop (i + 1) predicates)) kept) (Known false))
passes_turns R known n predicates i predicate left l e =
    let next = get_or predicates (i + 1) predicate in
    let rest = rest_of predicates (i + 1) predicate l in
    ap (λ ps. passes R known n (map meant ps) left) (rest_of predicates i predicate (omega arith) ∙ ap (λ p. p ∷ drop (i + 1) predicates) (sym e) ∙ ap (λ ps. predicate ∷ ps) rest)
    ∙ ap (λ ps. kept_from 1 (says R (size_of known left) (meant predicate)) left >>= λ kept. cond (is_member n kept) (passes R known n (map meant ps) kept) (Known false)) (sym rest)

pub passes_last : (R : Reading) (known : Bool) (n : ℕ) (predicates : List Expr) (i : ℕ) (predicate : Expr) (left : List ℕ) → i + 1 ≡ length predicates → predicate ≡ get_or predicates i predicate
    → passes R known n (map meant (drop i predicates)) left ≡ says R (size_of known left) (meant predicate) (position_in 1 n left) n
passes_last R known n predicates i predicate left l e =
    ap (λ ps. passes R known n (map meant ps) left)
    (rest_of predicates i predicate (omega arith) ∙ ap (λ p. p ∷ drop (i + 1) predicates) (sym e) ∙ ap (λ ps. predicate ∷ ps) (no_rest predicates (i + 1) (omega arith)))

pub passes_end : (R : Reading) (known : Bool) (n : ℕ) (predicates : List Expr) (i : ℕ) (left : List ℕ) → length predicates ≤ i → passes R known n (map meant (drop i predicates)) left ≡ Known true
passes_end R known n predicates i left l = ap (λ ps. passes R known n (map meant ps) left) (no_rest predicates i l)

-- ---- a node among others

pub member_here : (n : ℕ) (nodes : List ℕ) (i : ℕ) → i < length nodes → n ≡ get_or nodes i 0 → is_member n (drop i nodes) ≡ true
member_here n nodes i l e = ap (is_member n) (rest_of nodes i 0 l) ∙ ap (λ b. b || is_member n (drop (i + 1) nodes)) (eq-eqb n (get_or nodes i 0) e)

pub member_on : (n : ℕ) (nodes : List ℕ) (i : ℕ) → i < length nodes → (n ≡ get_or nodes i 0 → ⊥) → is_member n (drop i nodes) ≡ is_member n (drop (i + 1) nodes)
member_on n nodes i l e = ap (is_member n) (rest_of nodes i 0 l) ∙ ap (λ b. b || is_member n (drop (i + 1) nodes)) (ne_eqb n (get_or nodes i 0) e)

pub member_end : (n : ℕ) (nodes : List ℕ) (i : ℕ) → length nodes ≤ i → is_member n (drop i nodes) ≡ false
member_end n nodes i l = ap (is_member n) (no_rest nodes i l)

pub place_here : (n : ℕ) (nodes : List ℕ) (i : ℕ) → i < length nodes → n ≡ get_or nodes i 0 → position_in (i + 1) n (drop i nodes) ≡ i + 1
place_here n nodes i l e = ap (position_in (i + 1) n) (rest_of nodes i 0 l) ∙ ap (λ b. cond b (i + 1) (position_in (suc (i + 1)) n (drop (i + 1) nodes))) (eq-eqb n (get_or nodes i 0) e)

pub place_on : (n : ℕ) (nodes : List ℕ) (i : ℕ) → i < length nodes → (n ≡ get_or nodes i 0 → ⊥) → position_in (i + 1) n (drop i nodes) ≡ position_in (i + 1 + 1) n (drop (i + 1) nodes)
place_on n nodes i l e =
    ap (position_in (i + 1) n) (rest_of nodes i 0 l) ∙ ap (λ b. cond b (i + 1) (position_in (suc (i + 1)) n (drop (i + 1) nodes))) (ne_eqb n (get_or nodes i 0) e)
    ∙ ap (λ k. position_in k n (drop (i + 1) nodes)) (sym (add-one (i + 1)))

pub place_end : (n : ℕ) (nodes : List ℕ) (i : ℕ) → length nodes ≤ i → position_in (i + 1) n (drop i nodes) ≡ i + 1
place_end n nodes i l = ap (position_in (i + 1) n) (no_rest nodes i l)

-- ---- one of some expressions

pub any_here : (f : Expr → Bool) (es : List Expr) (i : ℕ) (e : Expr) → i < length es → e ≡ get_or es i e → f e ≡ true → list_any f (drop i es) ≡ true
any_here f es i e l is h = ap (list_any f) (rest_of es i e l) ∙ ap (λ b. b || list_any f (drop (i + 1) es)) (ap f (sym is) ∙ h)

pub any_on : (f : Expr → Bool) (es : List Expr) (i : ℕ) (e : Expr) → i < length es → e ≡ get_or es i e → f e ≡ false → list_any f (drop i es) ≡ list_any f (drop (i + 1) es)
any_on f es i e l is h = ap (list_any f) (rest_of es i e l) ∙ ap (λ b. b || list_any f (drop (i + 1) es)) (ap f (sym is) ∙ h)

pub any_end : (f : Expr → Bool) (es : List Expr) (i : ℕ) → length es ≤ i → list_any f (drop i es) ≡ false
any_end f es i l = ap (list_any f) (no_rest es i l)
