use Rattle.std.proofs.Common.{◌≡◌, ◌∙◌, ap, rules, sym, None}
use Rattle.sheet_values.specs.Priorities.{number_behind, within}
use Rattle.sheet_values.proofs.Numbers.{whole_goes_on, whole_too_great}
use Rattle.sheet_values.proofs.priority.hundredths.Goals as goal

pub returns-in_err-number-clause-number : goal.returns-in_err-number-clause-number
returns-in_err-number-clause-number c =
    let none : c.from_residual.result ≡ None = search rules in
    none ∙ whole_too_great c.args.whole.now c.args.fraction.now (sym c.in_err-number.ensures.number)

pub returns-clause-number : goal.returns-clause-number
returns-clause-number c =
    c.number_behind-2.ensures.number ∙ ap (λ digits. within (number_behind c.in_ok-number.number digits)) c.padded.ensures
    ∙ whole_goes_on c.args.whole.now c.args.fraction.now c.in_ok-number.number (sym c.is_magnitude.ensures ∙ c.if-not-is_magnitude.false) (sym c.in_ok-number.ensures.number)
