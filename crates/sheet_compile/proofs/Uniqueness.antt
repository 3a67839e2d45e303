-- Bytes have one answer at most.
use Rattle.std.proofs.Common.{◌≡◌, refl, sym, ap, ◌∙◌, subst, ℕ, List, Result, Ok, Err, ◌⊎◌, inl, inr}
use Rattle.std.proofs.lemmas.Bool.{cases_order}
use Rattle.global_order.specs.declared.graph.Node.{Node}
use Rattle.global_order.specs.Needs.{IsCircle}
use Rattle.global_order.specs.Order.{IsOrder}
use Rattle.sheet_ast.specs.declared.sheet.Sheet.{Sheet}
use Rattle.sheet_elements.specs.declared.fault.SheetFault.{SheetFault}
use Rattle.sheet_elements.specs.declared.fault.SheetKind.TheVariants as kind
use Rattle.sheet_graph.specs.Graph.{graph_of}
use Rattle.sheet_reading.specs.declared.tree.Item.{Item}
use Rattle.sheet_reading.specs.Judgement.{fault}
use Rattle.sheet_compile.specs.declared.stop.CompileStop.{CompileStop}
use Rattle.sheet_compile.specs.declared.stop.CompileStop.TheVariants.{Refused, Memory}
use Rattle.sheet_compile.specs.Joining.{HasOrder, InCircle, JoinsAs}
use Rattle.sheet_compile.specs.Lines.{line_of_global}

one_circle : (nodes : List Node) (g h : ℕ) → IsCircle nodes g → IsCircle nodes h → g ≡ h
one_circle nodes g h c d = elim (cases_order g h) [
  | inl same ↦ same
  | inr other ↦ elim other [ inl less ↦ absurd (c.never (d.before g less c.is)) | inr more ↦ absurd (d.never (c.before h more d.is)) ]
]

same_fault : (items : List Item) (a b : Sheet) (f h : SheetFault) → a ≡ b → InCircle items a f → InCircle items b h → f ≡ h
same_fault items a b f h same c d =
    c.at
    ∙ ap (λ (g : ℕ). fault (line_of_global items g) kind.Circle)
    (one_circle (graph_of b) c.global d.global (subst (λ (s : Sheet). IsCircle (graph_of s) c.global) same c.circle) d.circle)
    ∙ sym d.at

-- a list has an order or a circle
abbrev pub NoOrder : Type 0
NoOrder = (nodes : List Node) (order : List ℕ) (g : ℕ) → IsOrder nodes order → IsCircle nodes g → ⊥

either_way : NoOrder → (items : List Item) (a b : Sheet) (f : SheetFault) → a ≡ b → HasOrder a → InCircle items b f → ⊥
either_way apart items a b f same o c = apart (graph_of b) o.order c.global (subst (λ (s : Sheet). IsOrder (graph_of s) o.order) same o.is) c.circle

abbrev pub Circles : Result Sheet SheetFault → List Item → SheetFault → Type 0
Circles meant items f = (sheet : Sheet) × (meant ≡ Ok sheet) × InCircle items sheet f

faults : (meant : Result Sheet SheetFault) (items : List Item) (f h : SheetFault) → ((meant ≡ Err f) ⊎ Circles meant items f) → ((meant ≡ Err h) ⊎ Circles meant items h) → f ≡ h
faults meant items f h (inl p) (inl q) = cc
faults meant items f h (inl p) (inr q) = absurd (let e = q.1 in cc)
faults meant items f h (inr p) (inl q) = absurd (let e = p.1 in cc)
faults meant items f h (inr p) (inr q) = same_fault items p.0 q.0 f h (let d = p.1 in let e = q.1 in cc) p.2 q.2

sheet_then_fault : NoOrder → (meant : Result Sheet SheetFault) (items : List Item) (a : Sheet) (f : SheetFault) → meant ≡ Ok a → HasOrder a
    → ((meant ≡ Err f) ⊎ Circles meant items f) → ⊥
sheet_then_fault apart meant items a f is o (inl q) = cc
sheet_then_fault apart meant items a f is o (inr q) = either_way apart items a q.0 f (let e = q.1 in cc) o q.2

pub same_answer : NoOrder → (meant : Result Sheet SheetFault) (items : List Item) (r s : Result Sheet CompileStop) → JoinsAs meant items r → JoinsAs meant items s
    → (r ≡ Err Memory → ⊥) → (s ≡ Err Memory → ⊥) → r ≡ s
same_answer apart meant items (Ok a) (Ok b) p q m n = let d = p.0 in let e = q.0 in let same : a ≡ b = cc in ap Ok same
same_answer apart meant items (Ok a) (Err (Refused f)) p q m n = absurd (sheet_then_fault apart meant items a f p.0 p.1 q)
same_answer apart meant items (Ok a) (Err Memory) p q m n = absurd (n refl)
same_answer apart meant items (Err (Refused f)) (Ok b) p q m n = absurd (sheet_then_fault apart meant items b f q.0 q.1 p)
same_answer apart meant items (Err (Refused f)) (Err (Refused h)) p q m n = ap (λ (x : SheetFault). Err (Refused x)) (faults meant items f h p q)
same_answer apart meant items (Err (Refused f)) (Err Memory) p q m n = absurd (n refl)
same_answer apart meant items (Err Memory) s p q m n = absurd (m refl)
