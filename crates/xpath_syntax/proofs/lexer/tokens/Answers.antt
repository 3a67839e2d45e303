use Rattle.std.proofs.Common.{◌≡◌, sym, ◌∙◌, ap, subst, ◌+◌, ◌++◌, ◌∷◌, [], List, ℕ, length, Some, arith}
use Rattle.xpath_syntax.specs.Tokens.{NextIs, NoToken, TokensOf, StuckAt}
use Rattle.xpath_syntax.proofs.Steps.{Rest, space_more, token_more, stops, ends, tokens_within}
use Rattle.xpath_syntax.proofs.lexer.tokens.Goals as goal

pub loop-at-preserved-then-is_space : goal.loop-at-preserved-then-is_space
loop-at-preserved-then-is_space c = space_more c.as_bytes-text.result.now c.loop-at.tokens c.loop-at.at c.loop-at.operand c.loop-at.invariant
    (omega arith) (sym c.is_space.ensures ∙ c.if-is_space.true)

pub returns-in_default-clause-answer : goal.returns-in_default-clause-answer
returns-in_default-clause-answer c =
    let P : List ℕ → Type 0 = λ text. StuckAt text c.loop-at.at in
    subst P c.as_bytes-text.ensures.value (stops c.as_bytes-text.result.now c.loop-at.tokens c.loop-at.at c.loop-at.operand c.loop-at.invariant (omega arith)
    (sym c.is_space.ensures ∙ c.if-is_space.false) (subst (NoToken c.loop-at.operand) c.split_at.ensures.back c.in_default.ensures))

pub loop-at-preserved : goal.loop-at-preserved
loop-at-preserved c =
    let text = c.as_bytes-text.result.now in let out = c.loop-at.tokens in let at = c.loop-at.at in let f = c.in-Some.form in let k = c.in-Some.kind in let n = c.in-Some.len in
    let a = subst (λ bs. NextIs c.loop-at.operand bs (Some (f, k, n))) c.split_at.ensures.back c.in-Some.ensures in
    let m = token_more text out at n c.loop-at.operand f k c.loop-at.invariant a.1 a.2 in
    subst (λ o. Rest text o (at + n) c.ends_operand-operand.result) (sym c.in_ok-push.ensures.ok)
    (subst (Rest text (out ++ record { kind = k; at = at; len = n } ∷ []) (at + n)) (sym c.ends_operand-operand.ensures) m)

pub returns-clause-answer : goal.returns-clause-answer
returns-clause-answer c =
    let P : List ℕ → Type 0 = λ text. TokensOf text c.loop-at.tokens in
    subst P c.as_bytes-text.ensures.value (ends c.as_bytes-text.result.now c.loop-at.tokens c.loop-at.at c.loop-at.operand c.loop-at.invariant (omega arith))

pub returns-clause-within : goal.returns-clause-within
returns-clause-within c =
    let text = c.as_bytes-text.result.now in
    let size : length text ≡ length c.args.text.now = ap length c.as_bytes-text.ensures.value in
    tokens_within (length c.args.text.now) (ends text c.loop-at.tokens c.loop-at.at c.loop-at.operand c.loop-at.invariant (omega arith)) (omega arith)
