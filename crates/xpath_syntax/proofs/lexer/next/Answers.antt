use Rattle.std.proofs.Common.{sym, ◌∙◌, ap, subst, drop, refl, Some, None}
use Rattle.xpath_syntax.specs.Tokens.{kind_of, NextIs}
use Rattle.xpath_syntax.proofs.Steps.{no_token, longest}
use Rattle.xpath_syntax.proofs.lexer.next.Goals as goal

pub returns-in_err-form : goal.returns-in_err-form
returns-in_err-form c = subst (NextIs c.args.operand c.args.rest.now) (sym c.from_residual.ensures) (no_token c.args.operand c.args.rest.now None (sym c.cut.ensures ∙ c.in_err-form.was) refl)

pub split_at-requires : goal.split_at-requires
split_at-requires c = (longest c.args.rest.now c.in_ok-form.form c.in_ok-form.len (sym c.cut.ensures ∙ c.in_ok-form.was)).1.within

pub returns-in_err-kind : goal.returns-in_err-kind
returns-in_err-kind c =
    let bs = c.args.rest.now in let f = c.in_ok-form.form in let n = c.in_ok-form.len in let s = c.split_at.result in
    let t = ap (λ w. kind_of c.args.operand f w (drop n bs)) (sym c.split_at.ensures.front)
    ∙ (ap (kind_of c.args.operand f s.0.now) (sym c.split_at.ensures.back) ∙ (sym c.kind_of.ensures ∙ c.in_err-kind.was)) in
    subst (NextIs c.args.operand bs) (sym c.from_residual-in_err-kind.ensures) (no_token c.args.operand bs (Some (f, n)) (sym c.cut.ensures ∙ c.in_ok-form.was) t)

pub returns : goal.returns
returns c =
    let bs = c.args.rest.now in let f = c.in_ok-form.form in let n = c.in_ok-form.len in let s = c.split_at.result in
    let e = longest bs f n (sym c.cut.ensures ∙ c.in_ok-form.was) in (
      e.0,
      e.1,
      ap (λ w. kind_of c.args.operand f w (drop n bs)) (sym c.split_at.ensures.front)
          ∙ (ap (kind_of c.args.operand f s.0.now) (sym c.split_at.ensures.back) ∙ (sym c.kind_of.ensures ∙ c.in_ok-kind.was)),
    )
