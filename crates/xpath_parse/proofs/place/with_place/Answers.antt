use Rattle.std.proofs.Common.{subst, sym, drop, Err}
use Rattle.xpath_words.specs.Seen.{Whole, seen}
use Rattle.xpath_words.specs.Words.{WordsAre}
use Rattle.xpath_words.specs.declared.stop.ParseStop.TheVariants as stop
use Rattle.xpath_parse.specs.Places.{Answers, place_of}
use Rattle.xpath_parse.proofs.Places.{last_words, refused_at, answers_so}
use Rattle.xpath_parse.proofs.place.with_place.Goals as goal

pub returns-in-Refused : goal.returns-in-Refused
returns-in-Refused c = λ v text ts tokens are end whole.
    let k = c.saturating_sub.result in
    let words = c.args.words.now in
    let cause = c.in-Refused.cause in
    let stopped : Whole v (seen words) (Err (stop.Refused cause c.in-Refused.left)) = subst (λ s. Whole v (seen words) (Err s)) c.in-Refused.is whole in
    let rest : WordsAre text (drop k ts) c.split_at.result.1.now = subst (WordsAre text (drop k ts)) (sym c.split_at.ensures.back) (last_words text ts words k are) in
    subst (λ e. Answers v text (Err e)) (sym (c.refused.ensures text (drop k ts) rest end))
    (answers_so v text cause (place_of text cause (drop k ts)) (refused_at v text ts words cause c.in-Refused.left k tokens are stopped c.saturating_sub.ensures))
