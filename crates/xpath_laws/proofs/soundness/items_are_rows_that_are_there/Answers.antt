use Rattle.xpath_laws.specs.Sound.{IsThere, IsOpen}
use Rattle.xpath_laws.proofs.Trees.{items_told, path_items_told}
use Rattle.xpath_laws.proofs.soundness.items_are_rows_that_are_there.Goals as goal

pub returns-clause-selected : goal.returns-clause-selected
returns-clause-selected c = λ rules steps R e values context x a k. items_told (IsThere rules steps) (IsOpen steps) R e values context x a k

pub returns-clause-path : goal.returns-clause-path
returns-clause-path c = λ rules steps R path values context x a k. path_items_told (IsThere rules steps) (IsOpen steps) R path values context x a k
