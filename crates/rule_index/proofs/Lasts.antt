-- The last step of a pattern asks for what the first of the steps asks for that are gone through from the last one.
use Rattle.std.proofs.Common.{◌≡◌, refl, sym, ap, ◌∙◌, ◌-◌, List, [], ◌∷◌, length, map, reverse, arith}
use Rattle.std.proofs.Math.Seq.{take-length}
use Rattle.std.proofs.lemmas.Option.{slice_get-get_or}
use Rattle.std.specs.Prelude.{slice_get}
use Rattle.pattern_names.specs.Wanted.{wanted_first}
use Rattle.patterns.proofs.Going.{left_more}
use Rattle.rule_index.specs.Applying.{wanted_if}
use Rattle.xpath_meaning.specs.Match.{match_step}
use Rattle.xpath_syntax.specs.declared.pattern.PatternStep.{PatternStep}

pub last_found : (parts : List PatternStep) → wanted_first (reverse (map match_step parts)) ≡ wanted_if (slice_get parts (length parts - 1))
last_found [] = refl
last_found (p ∷ ps) =
    ap (λ parts. wanted_first (reverse (map match_step parts))) (sym (take-length (p ∷ ps)))
    ∙ ap wanted_first (left_more (p ∷ ps) (length ps) p (omega arith))
    ∙ ap wanted_if (sym (slice_get-get_or (p ∷ ps) (length ps) p (omega arith)))
    ∙ ap (λ k. wanted_if (slice_get (p ∷ ps) k)) (let same : length ps ≡ length (p ∷ ps) - 1 = omega arith in same)
