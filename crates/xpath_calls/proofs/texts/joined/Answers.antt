use Rattle.std.proofs.Common.{◌≡◌, ◌++◌, ◌+◌, ap, sym, ◌∙◌, map, drop, append-nil}
use Rattle.xpath_meaning.specs.Steps.{joined}
use Rattle.xpath_nodes.proofs.Turning.{no_rest}
use Rattle.xpath_calls.specs.Taken.{text_in}
use Rattle.xpath_calls.proofs.Joining.{joins_one}
use Rattle.xpath_calls.proofs.texts.joined.Goals as goal

pub loop-argument-init : goal.loop-argument-init
loop-argument-init c = ap (λ none. none ++ joined (map text_in c.args.arguments.now)) c.new-text.ensures

pub loop-argument-preserved : goal.loop-argument-preserved
loop-argument-preserved c =
    joins_one c.args.arguments.now c.loop-argument.argument-index c.argument-item.result c.loop-argument.text c.text_in.result.now c.extend_from_slice.new.self c.loop-argument-test.true c.argument-item.is c.text_in.ensures c.in_ok-extend_from_slice.ensures.ok
    ∙ c.loop-argument.invariant

pub returns : goal.returns
returns c = sym (append-nil c.loop-argument.text)
    ∙ ap (λ left. c.loop-argument.text ++ joined (map text_in left)) (sym (no_rest c.args.arguments.now c.loop-argument.argument-index c.loop-argument-test.false)) ∙ c.loop-argument.invariant
