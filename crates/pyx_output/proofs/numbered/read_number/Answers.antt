use Rattle.std.proofs.Common.{ℕ, List, ap, ◌∙◌, subst, sym}
use Rattle.std.specs.Result.{result_ok}
use Rattle.std.specs.Fmt.{decimal}
use Rattle.std.specs.Str.{IsUtf8}
use Rattle.std.proofs.lemmas.Fmt.{parse-decimal, IsAscii-decimal}
use Rattle.std.proofs.lemmas.Str.{IsUtf8-from_ascii}
use Rattle.pyx_output.proofs.numbered.read_number.Goals as goal

pub returns-in-Ok : goal.returns-in-Ok
returns-in-Ok c = λ k small is. c.ok.ensures.value ∙ ap result_ok (parse-decimal 64 k c.in-Ok.text.now c.parse.result small small ((c.in-Ok.ensures {u = tt}).cases.0 ∙ is) c.parse.ensures.value.0)

pub returns-in-Err : goal.returns-in-Err
returns-in-Err c = λ k small is. absurd ((c.in-Err.ensures {u = tt}).cases.0 (subst (λ (bytes : List ℕ). IsUtf8 bytes) (sym is) (IsUtf8-from_ascii (decimal k) (IsAscii-decimal k small))))
