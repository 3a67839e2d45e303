use Rattle.std.proofs.Common.{◌≡◌, refl, subst, ℕ, List, Bool, true, false}
use Rattle.std.specs.Str.{is_utf8, IsUtf8}
use Rattle.std.proofs.lemmas.Str.{IsUtf8-from_is_utf8, is_utf8-from_IsUtf8}
use Rattle.xpath_binding.specs.Names.{resolution}
use Rattle.sheet_values.specs.Answers.{Answers}
use Rattle.sheet_values.specs.Values.{read_as, value_of}
use Rattle.sheet_values.proofs.reading.value_of.Goals as goal

no_text : (bytes : List ℕ) (b : Bool) → is_utf8 bytes ≡ b → (IsUtf8 bytes → ⊥) → b ≡ false
no_text bytes true e isnt = absurd (isnt (IsUtf8-from_is_utf8 bytes e))
no_text bytes false e isnt = refl

pub returns-in-Ok : goal.returns-in-Ok
unfolding value_of
returns-in-Ok c =
    rw (is_utf8-from_IsUtf8 c.args.text.now c.in-Ok.ensures.cases.1)
    (subst (λ text. Answers (read_as (resolution c.args.scopes.now) c.args.kind text) c.read_as.result) c.in-Ok.ensures.cases.0 c.read_as.ensures)

pub returns-in-Err : goal.returns-in-Err
unfolding value_of
returns-in-Err c = rw (no_text c.args.text.now (is_utf8 c.args.text.now) refl c.in-Err.ensures.cases.0) refl
