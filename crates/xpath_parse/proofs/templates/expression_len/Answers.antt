use Rattle.std.proofs.Common.{refl, sym, ap, ◌∙◌, get_or, arith, take}
use Rattle.std.specs.Prelude.{None}
use Rattle.xpath_parse.specs.Templates.{Ends, quote_after}
use Rattle.xpath_parse.proofs.Literals.{quote_more, inner_more, inner_nil}
use Rattle.xpath_parse.proofs.templates.expression_len.Goals as goal
use Rattle.xpath_parse.proofs.templates.expression_len.Goals.{else-b-eq125-via-then-b-eq125+else-is_none, else-b-eq125-via-else-b-eq125}

pub loop-at-init : goal.loop-at-init
loop-at-init c = record { quote = refl; inner = inner_nil }

pub loop-at-preserved : goal.loop-at-preserved
loop-at-preserved c =
    let bytes = c.args.bytes.now in let at = c.loop-at.at in
    let open_still : Ends (take at bytes) (get_or bytes at 0) → ⊥ =
    λ ends. elim c.else-b-eq125.branch [
      | else-b-eq125-via-then-b-eq125+else-is_none w ↦ grind
          (arith, w.if-is_none.ensures, c.loop-at.invariant.quote, ends.1)
      | else-b-eq125-via-else-b-eq125 w ↦ w.if-b-eq125.false ends.0
    ] in
    record {
      quote = c.quote_after-quote.ensures ∙ (ap (λ q. quote_after q (get_or bytes at 0)) c.loop-at.invariant.quote ∙ sym (quote_more None bytes at c.loop-at-test.true));
      inner = inner_more bytes at c.loop-at-test.true c.loop-at.invariant.inner open_still;
    }
