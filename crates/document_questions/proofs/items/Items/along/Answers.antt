use Rattle.std.proofs.Common.{◌∙◌, ap, true, false}
use Rattle.document_questions.proofs.Selecting.{no_stream, path_begins, path_streamed}
use Rattle.engine_questions.proofs.Staying.{there_stays}
use Rattle.xpath_core.proofs.Judging.{filter_has_none}
use Rattle.xpath_laws.proofs.Equations.{binary_means, minus_means, literal_means, number_means, variable_means, call_means}
use Rattle.xpath_meaning.specs.Evaluation.{meant}
use Rattle.std.specs.Option.{is_some}
use Rattle.document_questions.proofs.items.Items.along.Goals as goal

pub returns-then-not-path-clause-none : goal.returns-then-not-path-clause-none
returns-then-not-path-clause-none c = path_streamed c.args.select.now c.in-Path.path false c.in-Path.is c.if-not-path.true

pub returns-in_ok-stream-in-Path-clause-none : goal.returns-in_ok-stream-in-Path-clause-none
returns-in_ok-stream-in-Path-clause-none c = path_streamed c.args.select.now c.in-Path.path true c.in-Path.is c.if-not-path.false

pub returns-in_ok-stream-in-Path-clause-begins : goal.returns-in_ok-stream-in-Path-clause-begins
returns-in_ok-stream-in-Path-clause-begins c = λ lookups values rules steps h later g l.
    path_begins c.in-Path.path c.args.context.now c.in_ok-stream-in-Path.stream lookups values rules later c.in_ok-stream-in-Path.ensures c.if-not-path.false
    (there_stays rules steps later c.args.context.now.node g h)

pub returns-in-Binary-clause-none : goal.returns-in-Binary-clause-none
returns-in-Binary-clause-none c = no_stream c.args.select.now _ (ap meant c.in-Binary.is ∙ binary_means c.in-Binary.op c.in-Binary.left c.in-Binary.right)

pub returns-in-Minus-clause-none : goal.returns-in-Minus-clause-none
returns-in-Minus-clause-none c = no_stream c.args.select.now _ (ap meant c.in-Minus.is ∙ minus_means c.in-Minus.field-0)

pub returns-in-Literal-clause-none : goal.returns-in-Literal-clause-none
returns-in-Literal-clause-none c = no_stream c.args.select.now _ (ap meant c.in-Literal.is ∙ literal_means c.in-Literal.field-0)

pub returns-in-Number-clause-none : goal.returns-in-Number-clause-none
returns-in-Number-clause-none c = no_stream c.args.select.now _ (ap meant c.in-Number.is ∙ number_means c.in-Number.field-0)

pub returns-in-Variable-clause-none : goal.returns-in-Variable-clause-none
returns-in-Variable-clause-none c = no_stream c.args.select.now _ (ap meant c.in-Variable.is ∙ variable_means c.in-Variable.field-0)

pub returns-in-Call-clause-none : goal.returns-in-Call-clause-none
returns-in-Call-clause-none c = no_stream c.args.select.now _ (ap meant c.in-Call.is ∙ call_means c.in-Call.name c.in-Call.args)

pub returns-in-Filter-clause-none : goal.returns-in-Filter-clause-none
returns-in-Filter-clause-none c = ap is_some (filter_has_none c.args.select.now c.in-Filter.primary c.in-Filter.predicates c.in-Filter.tail c.in-Filter.is)
