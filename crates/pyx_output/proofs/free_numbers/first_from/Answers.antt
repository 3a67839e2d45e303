use Rattle.std.proofs.Common.{arith, sym, ◌∙◌}
use Rattle.xml_names.specs.Bindings.{all_bindings}
use Rattle.pyx_output.proofs.FirstFree.{past_length, free_is}
use Rattle.pyx_output.proofs.free_numbers.first_from.Goals as goal

pub loop-next-smaller : goal.loop-next-smaller
loop-next-smaller c =
    let most = past_length (all_bindings c.args.scopes.now.scopes) c.loop-next.number c.loop-next.invariant in
    let next = (c.in-Some.ensures {u = tt}).1 in
    omega arith

pub returns-clause-first : goal.returns-clause-first
returns-clause-first c =
    let same = c.in_ok-is_taken.ensures {u = tt} in
    free_is (all_bindings c.args.scopes.now.scopes) c.loop-next.number c.loop-next.invariant (sym same ∙ c.if-branch.false)
