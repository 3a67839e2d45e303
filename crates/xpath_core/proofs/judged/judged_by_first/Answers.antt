use Rattle.std.proofs.Common.{ap, sym, ◌∙◌, true, false, inl, inr}
use Rattle.xpath_core.proofs.Judging.{no_items, path_items_are, filter_has_none}
use Rattle.xpath_laws.proofs.Equations.{binary_means, minus_means, literal_means, number_means, variable_means, call_means}
use Rattle.xpath_meaning.specs.Evaluation.{meant}
use Rattle.xpath_core.proofs.judged.judged_by_first.Goals as goal
use Rattle.xpath_core.proofs.judged.judged_by_first.Goals.{else-path-via-then-path+else-is_converted, else-path-via-else-path}

pub returns-then-is_converted : goal.returns-then-is_converted
returns-then-is_converted c = record {
  converted = sym c.is_converted.ensures ∙ c.if-is_converted.true;
  is = c.in-Path.is;
  items = path_items_are c.args.e.now c.in-Path.path true c.in-Path.is c.if-path.true;
}

pub returns-else-path : goal.returns-else-path
returns-else-path c = elim c.else-path.branch [
  | else-path-via-then-path+else-is_converted w ↦ inr (sym w.is_converted.ensures ∙ w.if-is_converted.false)
  | else-path-via-else-path w ↦ inl (path_items_are c.args.e.now c.in-Path.path false c.in-Path.is w.if-path.false)
]

pub returns-in-Binary : goal.returns-in-Binary
returns-in-Binary c = inl (no_items c.args.e.now _ (ap meant c.in-Binary.is ∙ binary_means c.in-Binary.op c.in-Binary.left c.in-Binary.right))

pub returns-in-Minus : goal.returns-in-Minus
returns-in-Minus c = inl (no_items c.args.e.now _ (ap meant c.in-Minus.is ∙ minus_means c.in-Minus.field-0))

pub returns-in-Literal : goal.returns-in-Literal
returns-in-Literal c = inl (no_items c.args.e.now _ (ap meant c.in-Literal.is ∙ literal_means c.in-Literal.field-0))

pub returns-in-Number : goal.returns-in-Number
returns-in-Number c = inl (no_items c.args.e.now _ (ap meant c.in-Number.is ∙ number_means c.in-Number.field-0))

pub returns-in-Variable : goal.returns-in-Variable
returns-in-Variable c = inl (no_items c.args.e.now _ (ap meant c.in-Variable.is ∙ variable_means c.in-Variable.field-0))

pub returns-in-Call : goal.returns-in-Call
returns-in-Call c = inl (no_items c.args.e.now _ (ap meant c.in-Call.is ∙ call_means c.in-Call.name c.in-Call.args))

pub returns-in-Filter : goal.returns-in-Filter
returns-in-Filter c = inl (filter_has_none c.args.e.now c.in-Filter.primary c.in-Filter.predicates c.in-Filter.tail c.in-Filter.is)
