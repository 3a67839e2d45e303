-- The stylesheet that elements make (XSLT 1.0, sections 2.2, 6 and 11).
use Rattle.std.specs.Prelude.{◌≡◌, ℕ, List, Result, Ok, Err, ◌⊎◌}
use Rattle.global_order.specs.declared.order.OrderStop.{OrderStop}
use Rattle.global_order.specs.declared.order.OrderStop.TheVariants as order
use Rattle.global_order.specs.Needs.{IsCircle}
use Rattle.sheet_ast.specs.declared.sheet.Sheet.{Sheet}
use Rattle.sheet_elements.specs.declared.fault.SheetFault.{SheetFault}
use Rattle.sheet_elements.specs.declared.fault.SheetKind.TheVariants as kind
use Rattle.sheet_graph.specs.Graph.{graph_of, IsOrderOf}
use Rattle.sheet_making.specs.Sheets.{sheet_of}
use Rattle.sheet_names.specs.Judging.{checked_names}
use Rattle.sheet_reading.specs.declared.tree.Item.{Item}
use Rattle.sheet_reading.specs.Judgement.{◌>>=◌, Judgement, fault, gives}
use Rattle.sheet_scopes.specs.declared.scope.ScopeEntry.{ScopeEntry}
use Rattle.sheet_compile.specs.declared.stop.CompileStop.{CompileStop}
use Rattle.sheet_compile.specs.declared.stop.CompileStop.TheVariants.{Refused, Memory}
use Rattle.sheet_compile.specs.Lines.{line_of_global}

-- the first fault of a name, or else the stylesheet
unfoldable pub sheet_from : List Item → List ScopeEntry → Judgement Sheet
sheet_from items scopes = do
  names ← checked_names items
  gives (sheet_of names scopes items)

-- the globals can be evaluated in an order in which each stands behind those that it needs
pub record HasOrder (sheet : Sheet) : Type 0 where
  pub order : List ℕ
  pub is : IsOrderOf sheet order

-- the fault of the first global that never becomes ready
pub record InCircle (items : List Item) (sheet : Sheet) (f : SheetFault) : Type 0 where
  pub global : ℕ
  pub circle : IsCircle (graph_of sheet) global
  pub at : f ≡ fault (line_of_global items global) kind.Circle

abbrev pub stop_of_order : List Item → OrderStop → CompileStop
stop_of_order items (order.Circle place) = Refused (fault (line_of_global items place) kind.Circle)
stop_of_order items order.Memory = Memory

-- what is answered of the order of a stylesheet's globals
abbrev pub Orders : List Item → Sheet → Result (Unit {0}) CompileStop → Type 0
Orders items sheet (Ok _) = HasOrder sheet
Orders items sheet (Err (Refused f)) = InCircle items sheet f
Orders items sheet (Err Memory) = Unit {0}

-- what is answered of elements: a stylesheet whose globals have an order, the first fault of a name, or else that of a circle
abbrev pub JoinsAs : Judgement Sheet → List Item → Result Sheet CompileStop → Type 0
JoinsAs meant items (Ok sheet) = (meant ≡ Ok sheet) × HasOrder sheet
JoinsAs meant items (Err (Refused f)) = (meant ≡ Err f) ⊎ ((sheet : Sheet) × (meant ≡ Ok sheet) × InCircle items sheet f)
JoinsAs meant items (Err Memory) = Unit {0}

abbrev pub Joins : List Item → List ScopeEntry → Result Sheet CompileStop → Type 0
Joins items scopes result = JoinsAs (sheet_from items scopes) items result
