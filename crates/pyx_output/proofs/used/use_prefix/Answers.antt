use Rattle.std.proofs.Common.{Some}
use Rattle.pyx_output.proofs.UsedPrefixes.{found_after, used_more}
use Rattle.pyx_output.proofs.used.use_prefix.Goals as goal

pub returns : goal.returns
returns c = λ prefixes is.
    rw (← c.in_ok-key.ensures.items)
    (used_more c.in_ok-key.key.items c.args.used.now c.insert.new.self prefixes is
    (found_after c.in_ok-key.key.items c.args.used.now c.insert.new.self (Some 0) c.in_ok-insert.ensures.updates))
