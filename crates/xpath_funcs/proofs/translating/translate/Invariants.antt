use Rattle.std.proofs.Common.{◌≡◌, ◌++◌, length}
use Rattle.std.specs.List.{flat_map}
use Rattle.xpath_funcs.specs.Characters.{characters}
use Rattle.xpath_funcs.specs.Translating.{replaced, partner, translated}
use Rattle.xpath_funcs.proofs.translating.translate.Given as goal

abbrev pub invariant-loop-character : goal.invariant-loop-character
invariant-loop-character l = l.made ++ flat_map (λ character. replaced character (partner character (characters l.fn.from) (characters l.fn.to))) (characters l.rest)
    ≡ translated l.fn.a l.fn.from l.fn.to

abbrev pub decreases-loop-character : goal.decreases-loop-character
decreases-loop-character l = length l.rest
