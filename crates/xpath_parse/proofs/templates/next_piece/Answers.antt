use Rattle.std.proofs.Common.{sym, ◌∙◌, arith}
use Rattle.xpath_parse.proofs.Fronts.{plain_front, doubled_front, lone_front, opening, unclosed_front}
use Rattle.xpath_parse.proofs.templates.next_piece.Goals as goal

pub returns-then-not-is_brace : goal.returns-then-not-is_brace
returns-then-not-is_brace c = plain_front c.args.b c.args.behind.now (sym c.is_brace.ensures ∙ c.if-not-is_brace.true)

pub returns-then-begins_with : goal.returns-then-begins_with
returns-then-begins_with c = doubled_front c.args.b c.args.behind.now (sym c.is_brace.ensures ∙ c.if-not-is_brace.false) (c.begins_with.ensures.0 c.if-begins_with.true)

pub returns-then-b-eq125 : goal.returns-then-b-eq125
returns-then-b-eq125 c = lone_front c.args.b c.args.behind.now c.if-b-eq125.true (λ h. cc (c.begins_with.ensures.1 h, c.if-begins_with.false))

pub returns-in-None : goal.returns-in-None
returns-in-None c =
    let e = opening c.args.b (sym c.is_brace.ensures ∙ c.if-not-is_brace.false) c.if-b-eq125.false in
    unclosed_front c.args.b _ c.args.behind.now e (λ h. cc (c.begins_with.ensures.1 h, c.if-begins_with.false)) c.in-None.ensures (omega arith)
