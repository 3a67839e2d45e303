use Rattle.xpath_laws.specs.Sound.{IsThere, IsOpen}
use Rattle.xpath_laws.proofs.Patterns.{match_told}
use Rattle.xpath_laws.proofs.soundness.matches_wait_for_open_rows.Goals as goal

pub returns : goal.returns
returns c = λ rules steps R pattern n x t. match_told (IsThere rules steps) (IsOpen steps) R x pattern n t
