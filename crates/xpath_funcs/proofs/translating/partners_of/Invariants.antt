use Rattle.std.proofs.Common.{◌≡◌, ℕ, List, length}
use Rattle.xpath_funcs.specs.Characters.{characters}
use Rattle.xpath_funcs.specs.Translating.{found, either, partner}
use Rattle.xpath_funcs.proofs.translating.partners_of.Given as goal

abbrev pub invariant-loop-character : goal.invariant-loop-character
invariant-loop-character l = (character : List ℕ)
    → either (found character l.partners) (partner character (characters l.left) (characters l.others)) ≡ partner character (characters l.fn.from) (characters l.fn.to)

abbrev pub decreases-loop-character : goal.decreases-loop-character
decreases-loop-character l = length l.left
