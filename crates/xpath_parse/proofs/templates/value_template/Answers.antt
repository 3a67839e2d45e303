use Rattle.std.proofs.Common.{◌≡◌, ◌+◌, ◌∷◌, ◌++◌, [], arith, length, length-drop, take, drop, get_or, ap, sym, ◌∙◌, subst, subst₂, Err}
use Rattle.std.proofs.lemmas.Result.{err_from_is_err_and}
use Rattle.xpath_syntax.specs.declared.pattern.Part.TheVariants as part
use Rattle.xpath_grammar.specs.Productions as rule
use Rattle.xpath_grammar.specs.declared.sign.Precedence.TheVariants as precedence
use Rattle.xpath_parse.specs.declared.templates.Piece.TheVariants as piece
use Rattle.xpath_parse.specs.Pieces.{IsPiece, AnswersValue, plain_part}
use Rattle.xpath_parse.specs.Places.{Spells}
use Rattle.xpath_parse.specs.Templates.{AnswersTemplate, IsTemplate}
use Rattle.xpath_parse.proofs.Rest.{Rest, front, text_more, value_more, stops_in_value, ends}
use Rattle.xpath_parse.proofs.templates.value_template.Goals as goal

pub loop-at-preserved-in-Text : goal.loop-at-preserved-in-Text
loop-at-preserved-in-Text c =
    let text = c.as_bytes-bytes.result.now in let at = c.loop-at.at in let b = c.in-Text.b in let n = c.in-Text.len in
    let is = ap (λ l. get_or text at 0 ∷ l) c.split_at.ensures.back ∙ front text at c.loop-at-test.true in
    let here = subst (λ l. IsPiece l (piece.Text b n)) is c.in-Text.ensures in
    subst (λ l. Rest text c.loop-at.parts l (at + n)) (sym c.in_ok-push-in-Text.ensures.ok) (text_more text c.loop-at.parts c.loop-at.plain at b n c.loop-at.invariant here)

pub returns-in_err-value-in-Value : goal.returns-in_err-value-in-Value
returns-in_err-value-in-Value c =
    let text = c.as_bytes-bytes.result.now in let at = c.loop-at.at in let n = c.in-Value.len in
    let is = ap (λ l. get_or text at 0 ∷ l) c.split_at.ensures.back ∙ front text at c.loop-at-test.true in
    let here = subst (λ l. IsPiece l (piece.Value n)) is c.in-Value.ensures in
    let value = c.as_bytes-bytes.ensures.value in let e = c.in_err-value-in-Value.field-0.0 in
    let answer = subst (λ l. AnswersValue (at + 1) (take n (drop (at + 1) l)) (Err e)) (sym value) c.in_err-value-in-Value.ensures in
    let p = err_from_is_err_and c.from_residual-in_err-value-in-Value.result c.from_residual-in_err-value-in-Value.ensures.1 in
    rw (p.1, p.2) (subst (λ l. AnswersTemplate l (Err e)) value (stops_in_value text c.loop-at.parts c.loop-at.plain at n e c.loop-at.invariant here answer))

pub loop-at-preserved : goal.loop-at-preserved
loop-at-preserved c =
    let text = c.as_bytes-bytes.result.now in let at = c.loop-at.at in let n = c.in-Value.len in
    let is = ap (λ l. get_or text at 0 ∷ l) c.split_at.ensures.back ∙ front text at c.loop-at-test.true in
    let here = subst (λ l. IsPiece l (piece.Value n)) is c.in-Value.ensures in
    let value = c.in_ok-value-in-Value.value in
    let spelled = subst (λ l. Spells (rule.level precedence.Or) (take n (drop (at + 1) l)) value) (sym c.as_bytes-bytes.ensures.value) c.in_ok-value-in-Value.ensures in
    let more = value_more text c.loop-at.parts c.loop-at.plain at n value c.loop-at.invariant here spelled in
    let parts : c.push-in-Value.new.self ≡ (c.loop-at.parts ++ plain_part c.loop-at.plain) ++ part.Value value ∷ [] =
    c.in_ok-push-in-Value.ensures.ok ∙ ap (λ l. l ++ part.Value value ∷ []) c.in_ok-push_plain-in-Value.ensures.0 in
    subst₂ (λ l k. Rest text l k (at + (n + 2))) (sym parts) (sym c.in_ok-push_plain-in-Value.ensures.1) more

pub overflow_add-result : goal.overflow_add-result
overflow_add-result c =
    let text = c.as_bytes-bytes.result.now in let at = c.loop-at.at in
    omega (arith, c.in-Refused.ensures.0, ap length c.split_at.ensures.back, length-drop (at + 1) text)

pub returns : goal.returns
returns c =
    let text = c.as_bytes-bytes.result.now in
    subst₂ IsTemplate c.as_bytes-bytes.ensures.value (sym c.in_ok-push_plain.ensures.0) (ends text c.loop-at.parts c.loop-at.plain c.loop-at.at c.loop-at.invariant c.loop-at-test.false)
