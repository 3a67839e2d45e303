use Rattle.std.proofs.Common.{◌≡◌, ◌∙◌, ◌++◌, [], ◌∷◌, filter, ap, sym, refl}
use Rattle.std.proofs.lemmas.Result.{on_ok_weaker}
use Rattle.xpath_funcs.specs.Spaces.{is_word}
use Rattle.xpath_nodes.proofs.Finding.{words_start, words_left, words_turn, words_end}
use Rattle.xpath_nodes.proofs.lookups.add_words.Goals as goal

pub loop-byte-init : goal.loop-byte-init
loop-byte-init c = ap (λ word. c.args.all.now ++ words_left word c.args.text.now) c.new-word.ensures

pub loop-byte-preserved : goal.loop-byte-preserved
loop-byte-preserved c = words_turn c.loop-byte.all _ c.args.text.now c.loop-byte.byte-index _ c.loop-byte.word _ c.loop-byte-test.true refl c.in_ok-word.ensures.all c.in_ok-word.ensures.word ∙ c.loop-byte.invariant

pub returns : goal.returns
returns c = on_ok_weaker c.add_word.result
    (λ (e : c.add_word.new.all ≡ c.loop-byte.all ++ filter is_word (c.loop-byte.word ∷ [])).
    e ∙ words_end c.loop-byte.all c.args.text.now c.loop-byte.byte-index c.loop-byte.word c.loop-byte-test.false ∙ c.loop-byte.invariant
    ∙ ap (λ ws. c.args.all.now ++ ws) (sym (words_start c.args.text.now)))
    c.add_word.ensures
