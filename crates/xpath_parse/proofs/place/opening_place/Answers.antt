use Rattle.std.proofs.Common.{sym, ◌∙◌, arith}
use borrow.Author.Tests.{ltb-true}
use Rattle.xpath_parse.proofs.Places.{short_level, own_level}
use Rattle.xpath_parse.proofs.place.opening_place.Goals as goal
use Rattle.xpath_parse.proofs.place.opening_place.Goals.{in_default-via-then-words-lt2, in_default-via-in-len2-up+else-is_function}

pub returns-in_default : goal.returns-in_default
returns-in_default c = λ text ts are end. c.first_place.ensures text ts are end
    ∙ elim c.in_default.branch [
      | in_default-via-then-words-lt2 w ↦ short_level text ts c.args.words.now are (omega (arith, ltb-true))
      | in_default-via-in-len2-up+else-is_function w ↦ own_level text ts c.args.words.now _ are (sym w.is_function.ensures ∙ w.if-is_function.false)
    ]
