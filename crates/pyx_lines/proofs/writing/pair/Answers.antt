use Rattle.std.proofs.Common.{◌≡◌, ◌++◌, ◌∷◌, ◌∙◌, ℕ, List, length, arith}
use Rattle.std.proofs.lemmas.Grind.{common_steps}
use Rattle.pyx_lines.specs.Escapes.{escape}
use Rattle.pyx_lines.proofs.Ending.{line_ended}
use Rattle.pyx_lines.proofs.writing.pair.Goals as goal

pub returns-clause-ok : goal.returns-clause-ok
returns-clause-ok c =
    let out = c.args.out.now.items in
    let body : List ℕ = c.args.first ∷ c.args.name.now ++ 32 ∷ escape c.args.value.now in
    let all : c.escape_onto.new.out.items ≡ out ++ body =
    grind (arith, common_steps, c.in_ok-tag.ensures.ok, c.in_ok-push.ensures.items, c.in_ok-escape_onto.ensures.ok) in
    let start : c.len-start.result ≡ length out = grind (arith, common_steps, c.len-start.ensures) in
    c.in_ok-end_line.ensures.ok ∙ line_ended out body c.escape_onto.new.out.items c.len-start.result start all
