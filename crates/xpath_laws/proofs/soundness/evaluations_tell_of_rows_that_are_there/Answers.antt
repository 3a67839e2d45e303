use Rattle.xpath_laws.specs.Sound.{IsThere, IsOpen}
use Rattle.xpath_laws.proofs.Trees.{evaluation_told}
use Rattle.xpath_laws.proofs.soundness.evaluations_tell_of_rows_that_are_there.Goals as goal

pub returns : goal.returns
returns c = λ rules steps R e values context x a k. evaluation_told (IsThere rules steps) (IsOpen steps) R e values context x a k
