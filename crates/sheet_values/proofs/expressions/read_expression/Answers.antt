use Rattle.std.proofs.Common.{ap, subst, sym, Err}
use Rattle.sheet_values.specs.Answers.{Answers}
use Rattle.sheet_values.specs.Refusals.{or_kind, unparsed}
use Rattle.sheet_values.specs.TreeOf.{tree_of}
use Rattle.xpath_grammar.specs.Productions as rule
use Rattle.xpath_grammar.specs.declared.sign.Precedence.TheVariants as precedence
use Rattle.sheet_values.proofs.Trees.{read_tree, refused_tree}
use Rattle.sheet_values.proofs.expressions.read_expression.Goals as goal

pub returns-in-Ok : goal.returns-in-Ok
returns-in-Ok c = ap (or_kind unparsed) (read_tree (rule.level precedence.Or) c.args.text.now c.in-Ok.tree c.in-Ok.ensures)

pub returns-in-Err : goal.returns-in-Err
returns-in-Err c =
    subst (λ s. Answers (or_kind unparsed (tree_of (rule.level precedence.Or) c.args.text.now)) (Err s)) (sym c.stop_unparsed.ensures)
    (refused_tree (rule.level precedence.Or) c.args.text.now c.in-Err.error c.in-Err.ensures)
