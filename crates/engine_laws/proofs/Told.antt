-- What instructions ask of the document tells of rows that are there, and waits only for rows that are open.
use Rattle.std.proofs.Common.{ℕ, zero, suc, List, [], ◌∷◌, ◌++◌, map, length, Bool, true, false, Option, Some, None, Result, Ok, Err}
use Rattle.doc_model.specs.Answers.{Known, Fault, Open}
use Rattle.fault_kinds.specs.declared.fault.FaultKind.TheVariants as fault
use Rattle.computed_names.specs.Computed.{computed, is_target}
use Rattle.computed_names.specs.declared.stop.NameStop.{NameStop}
use Rattle.computed_names.specs.declared.stop.NameStop.TheVariants as stop
use Rattle.result_events.specs.declared.event.Name.{Name}
use Rattle.sheet_ast.specs.declared.instruction.SortDecl.{SortDecl}
use Rattle.sheet_ast.specs.declared.sheet.Rule.{Rule}
use Rattle.sheet_ast.specs.declared.sheet.Sheet.{Sheet}
use Rattle.whole_num.specs.Text as numbers
use Rattle.xpath_syntax.specs.declared.expression.Expr.{Expr}
use Rattle.xpath_syntax.specs.declared.pattern.Part.{Part}
use Rattle.xpath_syntax.specs.declared.pattern.Part.TheVariants as part
use Rattle.xpath_values.specs.declared.value.Value.{Value}
use Rattle.xpath_meaning.specs.declared.context.Context.{Context}
use Rattle.xpath_meaning.specs.declared.context.Size.{Size}
use Rattle.xpath_meaning.specs.declared.context.Size.TheVariants as size
use Rattle.xpath_meaning.specs.Evaluation.{meant}
use Rattle.xpath_meaning.specs.Outcome.{Outcome, calculated, each_of}
use Rattle.xpath_meaning.specs.Reading.{Reading}
use Rattle.xpath_laws.specs.Sound.{Rows, Tells, Anything, Each, IsNodeSet, IsValue, AllValues, IsContext, IsReading}
use Rattle.xpath_laws.proofs.Patterns.{path_match_told}
use Rattle.xpath_laws.proofs.Says.{each_anything}
use Rattle.xpath_laws.proofs.Sounding.{Given, text_sound, truth_sound, nodes_sound}
use Rattle.xpath_laws.proofs.Tells.{bind_tells, calculated_tells, if_tells, each_tells, each_append}
use Rattle.xpath_laws.proofs.Trees.{expr_sound}
use Rattle.rule_choice.specs.Choice.{Candidate, tried, first_that, matches, choice_of}
use Rattle.engine_meaning.specs.Places.{World, Setting, setting, Place, place, at_item}
use Rattle.engine_meaning.specs.Questions.{value_at, text_at, truth_at, nodes_at, part_text, template_text, namespace_text, judged, name_at, target_at, row_here}
use Rattle.engine_meaning.specs.Sorts.{key_part, key_at, keys_at, rows_from, node_in, sorted_nodes}

module _ (T O : Rows) (R : Reading) (x : IsReading T O R) where
  first_told : (n : ℕ) → T n → (cs : List Candidate) → Tells O Anything (first_that (matches R n) cs)
  first_told n t [] = tt
  first_told n t (c ∷ cs) = bind_tells O Anything Anything (matches R n c) _ (path_match_told T O R x c.rule.pattern n t) (λ here a. if_tells O Anything here _ _ tt (first_told n t cs))

  pub choice_told : (rules : List Rule) (mode n : ℕ) → T n → Tells O Anything (choice_of R rules mode n)
  choice_told rules mode n t = bind_tells O Anything Anything (first_that (matches R n) (tried rules mode)) _ (first_told n t (tried rules mode)) (λ found a. tt)

-- a place where all is there
pub record IsSound (T : Rows) (c : Place) : Type 0 where
  pub locals : AllValues T c.locals
  pub context : IsContext T c.context

-- of rows that are there a world tells only such rows, and only these are waited for
pub record IsWorld (T O : Rows) (w : World) : Type 0 where
  pub reading : IsReading T O w.reading
  pub copy : (n : ℕ) → T n → Tells O Anything (w.copy n)

module _ (T O : Rows) (sheet : Sheet) (globals : List Value) (w : World) (x : IsWorld T O w) (g : AllValues T globals) where
  abbrev W : Setting
  W = setting sheet w globals

  abbrev R : Reading
  R = w.reading

  pub given_at : (c : Place) → IsSound T c → Given T O R (globals ++ c.locals) c.context
  given_at c p = record { reading = x.reading; bound = each_append (IsValue T) globals c.locals g p.locals; context = p.context }

  pub value_told : (c : Place) → IsSound T c → (e : Expr) → Tells O (IsValue T) (value_at W c e)
  value_told c p e = (expr_sound T O e).value R (globals ++ c.locals) c.context (given_at c p)

  pub text_told : (c : Place) → IsSound T c → (e : Expr) → Tells O Anything (text_at W c e)
  text_told c p e = text_sound T O (meant e) (expr_sound T O e) R (globals ++ c.locals) c.context (given_at c p)

  pub truth_told : (c : Place) → IsSound T c → (e : Expr) → Tells O Anything (truth_at W c e)
  truth_told c p e = truth_sound T O (meant e) (expr_sound T O e) R (globals ++ c.locals) c.context (given_at c p)

  set_each : (o : Outcome (List ℕ)) → Tells O (IsNodeSet T) o → Tells O (Each T) o
  set_each (Known nodes) t = t.1
  set_each (Fault e) t = tt
  set_each (Open m) t = t

  pub nodes_told : (c : Place) → IsSound T c → (e : Expr) → Tells O (Each T) (nodes_at W c e)
  nodes_told c p e = set_each (nodes_at W c e) (nodes_sound T O (meant e) (expr_sound T O e) R (globals ++ c.locals) c.context (given_at c p))

  part_told : (c : Place) → IsSound T c → (k : Part) → Tells O Anything (part_text W c k)
  part_told c p (part.Plain text) = tt
  part_told c p (part.Value e) = text_told c p e

  pub template_told : (c : Place) → IsSound T c → (parts : List Part) → Tells O Anything (template_text W c parts)
  template_told c p parts = bind_tells O (Each Anything) Anything (each_of (part_text W c) parts) _
      (each_tells O Anything Anything (part_text W c) parts (each_anything parts) (λ k a. part_told c p k)) (λ texts a. tt)

  namespace_told : (c : Place) → IsSound T c → (namespace : Option (List Part)) → Tells O Anything (namespace_text W c namespace)
  namespace_told c p None = tt
  namespace_told c p (Some parts) = bind_tells O Anything Anything (template_text W c parts) _ (template_told c p parts) (λ uri a. tt)

  judged_told : (r : Result Name NameStop) → Tells O Anything (judged r)
  judged_told (Ok name) = tt
  judged_told (Err stop.BadName) = tt
  judged_told (Err stop.UnboundPrefix) = tt
  judged_told (Err stop.Memory) = tt

  pub name_told : (c : Place) → IsSound T c → (attribute : Bool) (name : List Part) (namespace : Option (List Part)) (scope : ℕ) → Tells O Anything (name_at W c attribute name namespace scope)
  name_told c p attribute name namespace scope =
      bind_tells O Anything Anything (template_text W c name) _ (template_told c p name)
      (λ text a. bind_tells O Anything Anything (namespace_text W c namespace) _ (namespace_told c p namespace) (λ uri b. judged_told (computed attribute text uri sheet.scopes scope)))

  pub target_told : (c : Place) → IsSound T c → (name : List Part) → Tells O Anything (target_at W c name)
  target_told c p name = bind_tells O Anything Anything (template_text W c name) _ (template_told c p name) (λ text a. if_tells O Anything (is_target text) (Known text) (Fault fault.BadName) tt tt)

  pub row_told : (c : Place) → IsSound T c → Tells O Anything (row_here W c)
  row_told c p = x.reading.row c.context.node p.context.node

  key_part_told : (b : Bool) (text : List ℕ) → Tells O Anything (key_part b text)
  key_part_told true text = bind_tells O Anything Anything (calculated (numbers.number_of text)) _ (calculated_tells O (numbers.number_of text)) (λ number a. tt)
  key_part_told false text = tt

  key_told : (c : Place) → IsSound T c → (item : Context) → IsContext T item → (sort : SortDecl) → Tells O Anything (key_at W c item sort)
  key_told c p item i sort =
      bind_tells O Anything Anything (text_at W (place item c.locals) sort.select) _ (text_told (place item c.locals) (record { locals = p.locals; context = i }) sort.select)
      (λ text a. key_part_told sort.number text)

  rows_told : (c : Place) → IsSound T c → (sorts : List SortDecl) (z : Size) (at : ℕ) (ns : List ℕ) → Each T ns → Tells O Anything (rows_from W c sorts z at ns)
  rows_told c p sorts z at [] a = tt
  rows_told c p sorts z at (n ∷ ns) a =
      bind_tells O (Each Anything) Anything (keys_at W c sorts (at_item z at n)) _
      (each_tells O Anything Anything (key_at W c (at_item z at n)) sorts (each_anything sorts) (λ sort b. key_told c p (at_item z at n) (record { node = a.0; current = a.0 }) sort))
      (λ row b. bind_tells O Anything Anything (rows_from W c sorts z (suc at) ns) _ (rows_told c p sorts z (suc at) ns a.1) (λ rows d. tt))

  got : (nodes : List ℕ) (k : ℕ) → Each T nodes → T (node_in nodes k)
  got [] k a = x.reading.root
  got (n ∷ ns) zero a = a.0
  got (n ∷ ns) (suc k) a = got ns k a.1

  map_each : (nodes places : List ℕ) → Each T nodes → Each T (map (node_in nodes) places)
  map_each nodes [] a = tt
  map_each nodes (k ∷ ks) a = (got nodes k a, map_each nodes ks a)

  pub sorted_told : (c : Place) → IsSound T c → (e : Expr) (sorts : List SortDecl) → Tells O (Each T) (sorted_nodes W c e sorts)
  sorted_told c p e sorts =
      bind_tells O (Each T) (Each T) (nodes_at W c e) _ (nodes_told c p e)
      (λ nodes a. bind_tells O Anything (Each T) (rows_from W c sorts (size.Known (length nodes)) 1 nodes) _ (rows_told c p sorts (size.Known (length nodes)) 1 nodes a) (λ rows b. map_each nodes _ a))
