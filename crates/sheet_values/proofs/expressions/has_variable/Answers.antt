use Rattle.std.proofs.Common.{ap, sym, ◌∙◌}
use Rattle.std.specs.List.{list_any}
use Rattle.sheet_values.specs.Expressions.{is_variable}
use Rattle.sheet_values.proofs.Trees.{no_tokens, tokens_are}
use Rattle.sheet_values.proofs.expressions.has_variable.Goals as goal

pub returns-in-Ok : goal.returns-in-Ok
returns-in-Ok c = c.have_variable.ensures ∙ ap (list_any is_variable) (c.as_slice.ensures ∙ sym (tokens_are c.args.text.now c.in-Ok.tokens c.in-Ok.ensures.answer))

pub returns-in-Err-At : goal.returns-in-Err-At
returns-in-Err-At c = ap (list_any is_variable) (sym (no_tokens c.args.text.now c.in-Err-At.field-0-0 (rw c.in-Err-At.field-0-is at c.in-Err-At.ensures.answer)))
