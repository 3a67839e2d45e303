use Rattle.xpath_funcs.proofs.Words.{kept_of-words}
use Rattle.xpath_funcs.proofs.spacing.normalize_space.Goals as goal

pub loop-byte-init : goal.loop-byte-init
loop-byte-init c = rw c.new-kept.ensures (kept_of-words c.args.a.now)
