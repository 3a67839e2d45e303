use Rattle.std.proofs.Common.{ap, ◌∙◌, take}
use Rattle.std.specs.Char.{is_ascii_digit}
use Rattle.std.specs.List.{list_all}
use Rattle.whole_num.proofs.Parts.{front_passes}
use Rattle.whole_num.proofs.reading.from_digits.Goals as goal

pub from_point-requires : goal.from_point-requires
from_point-requires c =
    ap (list_all is_ascii_digit) (c.split_at.ensures.front ∙ ap (λ n. take n c.args.bytes.now) c.digits.ensures.value)
    ∙ front_passes is_ascii_digit c.args.bytes.now
