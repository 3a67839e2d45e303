use Rattle.std.proofs.Common.{◌≡◌, ◌++◌, ◌∷◌, ◌∙◌, arith}
use Rattle.std.proofs.lemmas.Grind.{common_steps}
use Rattle.pyx_lines.proofs.Ending.{line_ended}
use Rattle.pyx_lines.proofs.writing.tagged.Goals as goal

pub returns-clause-ok : goal.returns-clause-ok
returns-clause-ok c =
    let all : c.tag.new.out.items ≡ c.args.out.now.items ++ (c.args.first ∷ c.args.name.now) = grind (arith, common_steps, c.in_ok-tag.ensures.ok) in
    c.in_ok-end_line.ensures.ok ∙ line_ended c.args.out.now.items (c.args.first ∷ c.args.name.now) c.tag.new.out.items c.len-start.result (grind (arith, common_steps, c.len-start.ensures)) all
