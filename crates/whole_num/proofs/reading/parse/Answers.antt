use Rattle.std.proofs.Common.{sym, ap, ◌∙◌, subst, drop, Result}
use Rattle.std.specs.Prelude.{IfOk}
use Rattle.whole_num.specs.declared.number.Num.{Num}
use Rattle.whole_num.specs.declared.number.NumFault.{NumFault}
use Rattle.whole_num.specs.Number.{IsNumber}
use Rattle.whole_num.specs.Text.{number_from_sign}
use Rattle.whole_num.proofs.Numerals.{number_is}
use Rattle.whole_num.proofs.reading.parse.Goals as goal

pub returns-clause-number : goal.returns-clause-number
returns-clause-number c =
    let P : Result Num NumFault → Type 0 = λ r. IfOk r IsNumber in
    subst P (sym (c.from_sign.ensures ∙ ap number_from_sign (c.split_at.ensures.back ∙ ap (λ n. drop n c.args.text.now) c.spaces.ensures.value))) (number_is c.args.text.now)
