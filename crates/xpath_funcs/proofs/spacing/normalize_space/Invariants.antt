use Rattle.std.proofs.Common.{◌≡◌, drop}
use Rattle.xpath_funcs.specs.Spaces.{normalized}
use Rattle.xpath_funcs.proofs.Words.{kept_of}
use Rattle.xpath_funcs.proofs.spacing.normalize_space.Given as goal

abbrev pub invariant-loop-byte : goal.invariant-loop-byte
invariant-loop-byte l = kept_of l.kept l.inside (drop l.byte-index l.fn.a) ≡ normalized l.fn.a
