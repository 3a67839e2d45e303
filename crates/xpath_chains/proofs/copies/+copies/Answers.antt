use Rattle.std.proofs.Common.{rules, ◌≡◌, ◌∙◌, [], ◌∷◌, ◌++◌}
use Rattle.xpath_syntax.specs.declared.expression.Expr.{the_lemmas}
use Rattle.xpath_chains.specs.declared.copies.Copied.{Copied}
use Rattle.xpath_chains.proofs.Joins.{binary_joined}
use Rattle.xpath_chains.proofs.copies.+copies.Goals as goal

pub copy-loop-at-preserved : goal.copy-loop-at-preserved
copy-loop-at-preserved t c =
    let x : Copied = record { op = c.in-Binary.op; right = c.in_ok-right-in-Binary.right } in
    let pushed : c.push.new.self ≡ c.loop-at.above ++ x ∷ [] = search rules in
    let same : c.in_ok-right-in-Binary.right ≡ c.in-Binary.right = search rules in
    (search (rules, the_lemmas), binary_joined _ _ _ _ _ _ _ pushed c.in-Binary.is same c.get-at.ensures ∙ c.loop-at.invariant.1)
