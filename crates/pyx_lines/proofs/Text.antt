-- Whether bytes are UTF-8, as a test that computes.
use Rattle.std.proofs.Common.{◌≡◌, ℕ, List, Bool, true, false, refl, sym}
use Rattle.std.specs.Str.{is_utf8, IsUtf8}
use Rattle.std.proofs.lemmas.Str.{IsUtf8-from_is_utf8, is_utf8-from_IsUtf8}

pub is_text : (bytes : List ℕ) → IsUtf8 bytes → true ≡ is_utf8 bytes
is_text bytes is = sym (is_utf8-from_IsUtf8 bytes is)

no_text_by : (bytes : List ℕ) (b : Bool) → is_utf8 bytes ≡ b → (IsUtf8 bytes → ⊥) → false ≡ b
no_text_by bytes true e isnt = absurd (isnt (IsUtf8-from_is_utf8 bytes e))
no_text_by bytes false e isnt = refl

pub is_no_text : (bytes : List ℕ) → (IsUtf8 bytes → ⊥) → false ≡ is_utf8 bytes
is_no_text bytes isnt = no_text_by bytes (is_utf8 bytes) refl isnt
