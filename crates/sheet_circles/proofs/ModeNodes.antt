-- The nodes of modes, rule by rule.
use Rattle.std.proofs.Common.{◌≡◌, ◌≢◌, refl, sym, ap, ◌∙◌, ℕ, zero, suc, ◌+◌, ◌<◌, ◌≤◌, Bool, true, false, cond, eqb, List, [], ◌∷◌, ◌++◌, length, map, filter, take, get_or, set, arith, Some}
use Rattle.std.specs.List.{range_with_len}
use Rattle.std.specs.Prelude.{slice_get, unwrap_or}
use Rattle.std.proofs.lemmas.List.Elements.{filter-append}
use Rattle.std.proofs.lemmas.List.{append-nil, length-map, map-append}
use Rattle.std.proofs.lemmas.List.FromFn.{length-range_with_len}
use Rattle.std.proofs.lemmas.Bool.{eq-eqb, eqb-true}
use Rattle.std.proofs.Math.Seq.{take-suc}
use Rattle.global_order.specs.declared.graph.Node.{Node}
use Rattle.sheet_ast.specs.declared.sheet.Rule.{Rule}
use Rattle.sheet_ast.specs.declared.sheet.Sheet.{Sheet}
use Rattle.sheet_graph.specs.Graph.{template_number}
use Rattle.sheet_circles.specs.Modes.{empty_node, naming, node_by, node_of}

same_map : (f g : ℕ → Node) (k c : ℕ) → ((j : ℕ) → k ≤ j → f j ≡ g j) → map f (range_with_len k c) ≡ map g (range_with_len k c)
same_map f g k zero same = refl
same_map f g k (suc c) same =
    ap (λ n. n ∷ map f (range_with_len (k + 1) c)) (same k (omega arith)) ∙ ap (λ ns. g k ∷ ns) (same_map f g (k + 1) c (λ j le. same j (omega (arith, le))))

suc_more : (n : ℕ) → suc n ≡ n + 1
suc_more n = omega arith

-- what differs at one place alone
set_map : (f g : ℕ → Node) (k c at : ℕ) → at < c → ((j : ℕ) → j ≢ k + at → f j ≡ g j) → set (map f (range_with_len k c)) at (g (k + at)) ≡ map g (range_with_len k c)
set_map f g k zero at within same = absurd (omega (arith, within))
set_map f g k (suc c) zero within same =
    ap (λ n. g n ∷ map f (range_with_len (k + 1) c)) (omega arith)
    ∙ ap (λ ns. g k ∷ ns) (same_map f g (k + 1) c (λ j le. same j (λ is. omega (arith, le, is))))
set_map f g k (suc c) (suc at) within same =
    ap (λ n. n ∷ set (map f (range_with_len (k + 1) c)) at (g (k + suc at))) (same k (λ is. omega (arith, is)))
    ∙ ap (λ n. g k ∷ set (map f (range_with_len (k + 1) c)) at (g n)) (omega arith)
    ∙ ap (λ ns. g k ∷ ns) (set_map f g (k + 1) c at (omega (arith, within)) (λ j other. same j (λ is. other (omega (arith, is)))))

-- the same where the first is 0
set_first : (f g : ℕ → Node) (c at : ℕ) → at < c → ((j : ℕ) → j ≢ at → f j ≡ g j) → set (map f (range_with_len 0 c)) at (g at) ≡ map g (range_with_len 0 c)
set_first f g c at within same = ap (λ n. set (map f (range_with_len 0 c)) at (g n)) (sym zero_more) ∙ set_map f g 0 c at within (λ j other. same j (λ is. other (is ∙ sym zero_more)))
  where
    zero_more : 0 + at ≡ at
    zero_more = omega arith

got_map : (f : ℕ → Node) (k c at : ℕ) → at < c → slice_get (map f (range_with_len k c)) at ≡ Some (f (k + at))
got_map f k zero at within = absurd (omega (arith, within))
got_map f k (suc c) zero within = ap (λ n. Some (f n)) (omega arith)
got_map f k (suc c) (suc at) within = got_map f (k + 1) c at (omega (arith, within)) ∙ ap (λ n. Some (f n)) (omega arith)

got_first : (f : ℕ → Node) (c at : ℕ) → at < c → slice_get (map f (range_with_len 0 c)) at ≡ Some (f at)
got_first f c at within = got_map f 0 c at within ∙ ap (λ n. Some (f n)) (omega arith)

abbrev of_mode : ℕ → Rule → Bool
of_mode mode rule = eqb rule.mode mode

abbrev name_of : Sheet → Rule → ℕ
name_of sheet rule = template_number sheet rule.template

-- the mode of a further rule names its template too
one_more : (sheet : Sheet) (rules : List Rule) (rule : Rule) → naming (node_of sheet rules rule.mode) (name_of sheet rule) ≡ node_of sheet (rules ++ rule ∷ []) rule.mode
one_more sheet rules rule =
    ap (λ names. record { is_global = false; names = names })
    (sym (ap (map (name_of sheet)) (filter-append (of_mode rule.mode) rules (rule ∷ []))
    ∙ ap (λ t. map (name_of sheet) (filter (of_mode rule.mode) rules ++ cond t (rule ∷ []) [])) (eq-eqb rule.mode rule.mode refl)
    ∙ map-append (name_of sheet) (filter (of_mode rule.mode) rules) (rule ∷ [])))

other_mode : (sheet : Sheet) (rules : List Rule) (rule : Rule) (mode : ℕ) → mode ≢ rule.mode → node_of sheet rules mode ≡ node_of sheet (rules ++ rule ∷ []) mode
other_mode sheet rules rule mode other =
    ap (λ kept. record { is_global = false; names = map (name_of sheet) kept })
    (sym (filter-append (of_mode mode) rules (rule ∷ []) ∙ ap (λ t. filter (of_mode mode) rules ++ cond t (rule ∷ []) []) (no_mode (eqb rule.mode mode) refl) ∙ append-nil _))
  where
    no_mode : (t : Bool) → eqb rule.mode mode ≡ t → t ≡ false
    no_mode true e = absurd (other (sym (eqb-true rule.mode mode e)))
    no_mode false e = refl

-- a rule more
pub mode_named : (sheet : Sheet) (rules : List Rule) (i count name : ℕ) (rule : Rule) (nodes later : List Node) → i < length rules → rule ≡ get_or rules i rule → rule.mode < count
    → name ≡ template_number sheet rule.template → nodes ≡ map (node_of sheet (take i rules)) (range_with_len 0 count) → later ≡ node_by rule.mode name nodes
    → later ≡ map (node_of sheet (take (i + 1) rules)) (range_with_len 0 count)
mode_named sheet rules i count name rule nodes later within is low named before after =
    let f = node_of sheet (take i rules) in
    let more : take (suc i) rules ≡ take i rules ++ rule ∷ [] = take-suc rules i rule within ∙ ap (λ r. take i rules ++ r ∷ []) (sym is) in
    let got : unwrap_or (slice_get nodes rule.mode) (empty_node rule.mode) ≡ f rule.mode =
    ap (λ ns. unwrap_or (slice_get ns rule.mode) (empty_node rule.mode)) before ∙ ap (λ o. unwrap_or o (empty_node rule.mode)) (got_first f count rule.mode low) in
    after ∙ ap (λ ns. set ns rule.mode (naming (unwrap_or (slice_get nodes rule.mode) (empty_node rule.mode)) name)) before
    ∙ ap (λ node. set (map f (range_with_len 0 count)) rule.mode (naming node name)) got
    ∙ ap (λ n. set (map f (range_with_len 0 count)) rule.mode (naming (f rule.mode) n)) named
    ∙ ap (λ node. set (map f (range_with_len 0 count)) rule.mode node) (one_more sheet (take i rules) rule)
    ∙ set_first f (node_of sheet (take i rules ++ rule ∷ [])) count rule.mode low (λ j other. other_mode sheet (take i rules) rule j other)
    ∙ ap (λ rs. map (node_of sheet rs) (range_with_len 0 count)) (sym more)
    ∙ ap (λ k. map (node_of sheet (take k rules)) (range_with_len 0 count)) (suc_more i)

-- one more node that names nothing
empties : (k count : ℕ) → map empty_node (range_with_len k (suc count)) ≡ map empty_node (range_with_len k count) ++ empty_node 0 ∷ []
empties k zero = refl
empties k (suc count) = ap (λ ns. empty_node 0 ∷ ns) (empties (k + 1) count)

pub one_empty : (count : ℕ) → map empty_node (range_with_len 0 (count + 1)) ≡ map empty_node (range_with_len 0 count) ++ empty_node 0 ∷ []
one_empty count = ap (λ n. map empty_node (range_with_len 0 n)) (sym (suc_more count)) ∙ empties 0 count

-- there is a node at a place that is counted
pub node_there : (nodes : List Node) (f : ℕ → Node) (count at : ℕ) → nodes ≡ map f (range_with_len 0 count) → at < count → at < length nodes
node_there nodes f count at is within =
    let long : length nodes ≡ count = ap length is ∙ length-map _ _ ∙ length-range_with_len 0 count in
    omega (arith, long, within)
