use Rattle.std.proofs.Common.{refl, sym, subst}
use Rattle.xpath_grammar.specs.Productions as rule
use Rattle.xpath_words.specs.Words.{WordsAre}
use Rattle.xpath_parse.proofs.parse.pattern.Goals as goal

pub returns : goal.returns
returns c =
    let v = rule.pattern in
    let text = c.args.text.now in
    let tokens = c.in_ok-tokens.tokens in
    let words = c.in_ok-words.words in
    let slice = c.as_slice-words in
    let are : WordsAre text tokens words =
    subst (λ bytes. WordsAre bytes tokens words) c.as_bytes.ensures.value
    (subst (λ slice. WordsAre c.as_bytes.result.now slice words) c.as_slice.ensures c.in_ok-words.ensures) in
    c.with_place.ensures v text tokens c.in_ok-tokens.ensures.answer (subst (WordsAre text tokens) (sym slice.ensures) are) refl c.in-Err.ensures
