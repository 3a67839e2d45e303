use Rattle.std.proofs.Common.{◌≡◌, ◌++◌, ◌∷◌, ◌∙◌, arith}
use Rattle.std.proofs.lemmas.Grind.{common_steps}
use Rattle.pyx_lines.specs.Escapes.{escape}
use Rattle.pyx_lines.proofs.Ending.{line_ended}
use Rattle.pyx_lines.proofs.writing.escaped.Goals as goal

pub returns-clause-ok : goal.returns-clause-ok
returns-clause-ok c =
    let all : c.escape_onto.new.out.items ≡ c.args.out.now.items ++ (c.args.first ∷ escape c.args.text.now) = grind (arith, common_steps, c.in_ok-push.ensures.items, c.in_ok-escape_onto.ensures.ok) in
    c.in_ok-end_line.ensures.ok ∙ line_ended c.args.out.now.items (c.args.first ∷ escape c.args.text.now)
    c.escape_onto.new.out.items c.len-start.result (grind (arith, common_steps, c.len-start.ensures)) all
