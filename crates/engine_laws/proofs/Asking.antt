-- What instructions ask of the document stays.
use Rattle.std.proofs.Common.{refl, ℕ, suc, List, [], ◌∷◌, ◌++◌, length, Bool, cond, Option, Some, None}
use Rattle.doc_model.specs.Answers.{Known, Fault, Stays}
use Rattle.fault_kinds.specs.declared.fault.FaultKind.TheVariants as kind
use Rattle.computed_names.specs.Computed.{computed, is_target}
use Rattle.sheet_ast.specs.declared.instruction.SortDecl.{SortDecl}
use Rattle.sheet_ast.specs.declared.sheet.Sheet.{Sheet}
use Rattle.xpath_syntax.specs.declared.expression.Expr.{Expr}
use Rattle.xpath_syntax.specs.declared.pattern.Part.{Part}
use Rattle.xpath_syntax.specs.declared.pattern.Part.TheVariants as part
use Rattle.xpath_values.specs.declared.value.Value.{Value}
use Rattle.xpath_meaning.specs.declared.context.Context.{Context}
use Rattle.xpath_meaning.specs.declared.context.Size.{Size}
use Rattle.xpath_meaning.specs.declared.context.Size.TheVariants as size
use Rattle.xpath_meaning.specs.Evaluation.{meant}
use Rattle.xpath_laws.proofs.Staying.{bind_stays, stays, each_stays}
use Rattle.xpath_laws.proofs.Keeping.{text_keeps, truth_keeps, nodes_keep}
use Rattle.xpath_laws.proofs.Expressions.{expr_keeps, evaluation_stays}
use Rattle.engine_laws.specs.Growing.{Continues}
use Rattle.engine_meaning.specs.Places.{World, Setting, setting, Place, place, at_item}
use Rattle.engine_meaning.specs.Questions.{value_at, text_at, truth_at, nodes_at, part_text, template_text, namespace_text, judged, name_at, target_at, row_here}
use Rattle.engine_meaning.specs.Sorts.{key_part, key_at, rows_from, sorted_nodes}

module _ (sheet : Sheet) (globals : List Value) (w v : World) (y : Continues w v) where
  abbrev W : Setting
  W = setting sheet w globals

  abbrev V : Setting
  V = setting sheet v globals

  pub value_stays : (c : Place) (e : Expr) → Stays (value_at W c e) (value_at V c e)
  value_stays c e = evaluation_stays w.reading v.reading y.reading e (globals ++ c.locals) c.context

  pub text_stays : (c : Place) (e : Expr) → Stays (text_at W c e) (text_at V c e)
  text_stays c e = text_keeps (meant e) (expr_keeps e) w.reading v.reading y.reading (globals ++ c.locals) c.context

  pub truth_stays : (c : Place) (e : Expr) → Stays (truth_at W c e) (truth_at V c e)
  truth_stays c e = truth_keeps (meant e) (expr_keeps e) w.reading v.reading y.reading (globals ++ c.locals) c.context

  pub nodes_stay : (c : Place) (e : Expr) → Stays (nodes_at W c e) (nodes_at V c e)
  nodes_stay c e = nodes_keep (meant e) (expr_keeps e) w.reading v.reading y.reading (globals ++ c.locals) c.context

  part_stays : (c : Place) (p : Part) → Stays (part_text W c p) (part_text V c p)
  part_stays c (part.Plain text) = refl
  part_stays c (part.Value e) = text_stays c e

  pub template_stays : (c : Place) (parts : List Part) → Stays (template_text W c parts) (template_text V c parts)
  template_stays c parts = bind_stays _ _ _ _ (each_stays _ _ parts (part_stays c)) (λ texts. refl)

  namespace_stays : (c : Place) (namespace : Option (List Part)) → Stays (namespace_text W c namespace) (namespace_text V c namespace)
  namespace_stays c None = refl
  namespace_stays c (Some parts) = bind_stays _ _ _ _ (template_stays c parts) (λ uri. refl)

  pub name_stays : (c : Place) (attribute : Bool) (name : List Part) (namespace : Option (List Part)) (scope : ℕ)
      → Stays (name_at W c attribute name namespace scope) (name_at V c attribute name namespace scope)
  name_stays c attribute name namespace scope =
      bind_stays _ _ _ _ (template_stays c name) (λ text. bind_stays _ _ _ _ (namespace_stays c namespace) (λ uri. stays (judged (computed attribute text uri sheet.scopes scope))))

  pub target_stays : (c : Place) (name : List Part) → Stays (target_at W c name) (target_at V c name)
  target_stays c name = bind_stays _ _ _ _ (template_stays c name) (λ text. stays (cond (is_target text) (Known text) (Fault kind.BadName)))

  pub row_stays : (c : Place) → Stays (row_here W c) (row_here V c)
  row_stays c = y.reading.row c.context.node

  pub part_of_key_stays : (c : Place) (item : Context) (sort : SortDecl) → Stays (key_at W c item sort) (key_at V c item sort)
  part_of_key_stays c item sort = bind_stays _ _ _ _ (text_stays (place item c.locals) sort.select) (λ text. stays (key_part sort.number text))

  pub rows_stay : (c : Place) (sorts : List SortDecl) (z : Size) (at : ℕ) (ns : List ℕ) → Stays (rows_from W c sorts z at ns) (rows_from V c sorts z at ns)
  rows_stay c sorts z at [] = refl
  rows_stay c sorts z at (n ∷ ns) =
      bind_stays _ _ _ _ (each_stays _ _ sorts (part_of_key_stays c (at_item z at n))) (λ row. bind_stays _ _ _ _ (rows_stay c sorts z (suc at) ns) (λ rows. refl))

  pub sorted_stay : (c : Place) (e : Expr) (sorts : List SortDecl) → Stays (sorted_nodes W c e sorts) (sorted_nodes V c e sorts)
  sorted_stay c e sorts = bind_stays _ _ _ _ (nodes_stay c e) (λ nodes. bind_stays _ _ _ _ (rows_stay c sorts (size.Known (length nodes)) 1 nodes) (λ rows. refl))
