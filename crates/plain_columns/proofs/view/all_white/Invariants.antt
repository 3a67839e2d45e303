use Rattle.std.proofs.Common.{◌≡◌, drop}
use Rattle.doc_model.specs.Strip.{all_white}
use Rattle.plain_columns.proofs.view.all_white.Given as goal

abbrev pub invariant-loop-byte : goal.invariant-loop-byte
invariant-loop-byte l = all_white l.bytes ≡ all_white (drop l.byte-index l.bytes)
