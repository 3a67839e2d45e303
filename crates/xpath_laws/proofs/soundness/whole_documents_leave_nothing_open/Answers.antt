use Rattle.xpath_laws.specs.Sound.{Anything, IsValue, IsThere, IsOpen}
use Rattle.xpath_laws.proofs.Complete.{nothing_open, nothing_cut}
use Rattle.xpath_laws.proofs.Patterns.{match_told}
use Rattle.xpath_laws.proofs.There.{reading_told}
use Rattle.xpath_laws.proofs.Trees.{evaluation_told, items_told}
use Rattle.xpath_laws.proofs.soundness.whole_documents_leave_nothing_open.Goals as goal

pub returns-clause-evaluation : goal.returns-clause-evaluation
returns-clause-evaluation c = λ rules keys id steps e values context m w a k is.
    nothing_open steps (IsValue (IsThere rules steps)) _ m w (evaluation_told (IsThere rules steps) (IsOpen steps) _ e values context (reading_told rules keys id steps) a k) is

pub returns-clause-items : goal.returns-clause-items
returns-clause-items c = λ rules keys id steps e values context m w a k is.
    nothing_cut steps (IsThere rules steps) _ m w (items_told (IsThere rules steps) (IsOpen steps) _ e values context (reading_told rules keys id steps) a k) is

pub returns-clause-pattern : goal.returns-clause-pattern
returns-clause-pattern c = λ rules keys id steps pattern n m w t is.
    nothing_open steps Anything _ m w (match_told (IsThere rules steps) (IsOpen steps) _ (reading_told rules keys id steps) pattern n t) is
