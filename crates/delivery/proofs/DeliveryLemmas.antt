-- An answer whose text was written last.
use Rattle.std.proofs.Common.{◌≡◌, ◌≢◌, ◌⊎◌, inl, inr, ℕ, List, [], ◌∷◌, Option, subst, ◌∙◌}
use Rattle.edge.specs.Causes.{Rose}
use Rattle.edge.specs.Outside.{Grows}
use Rattle.delivery.specs.Answer.{Answer}
use Rattle.delivery.specs.Delivery.{Outputs, EachHears, GrowsByFront, IsDelivered}
use Rattle.delivery.proofs.PairLemmas.{Grows-nil}

-- nothing was heard
pub hears_nothing : (heard : List (Option (List (ℕ × List ℕ)))) → EachHears heard heard []
hears_nothing [] = tt
hears_nothing (now ∷ heard) = (Grows-nil now, hears_nothing heard)

-- what was to be put and heard was, and then the text was written, or that write failed
pub said_or_failed : (answer : Answer) (result code : ℕ) (text : List ℕ) (before after : Outputs) → code ≡ answer.status → text ≡ answer.console
    → (result ≡ code) ⊎ (result ≡ 6) → (result ≡ code → Grows before.written after.written text)
    → (result ≡ 6 → Rose before.console after.console × GrowsByFront before.written after.written text)
    → Grows before.puts after.puts answer.puts → EachHears before.heard after.heard answer.messages → IsDelivered answer result before after
said_or_failed answer result code text before after status console (inl is) said failed put heard =
    inl (record { status = is ∙ status; put = put; heard = heard; said = subst (Grows before.written after.written) console (said is) })
said_or_failed answer result code text before after status console (inr six) said failed put heard =
    let it = failed six in
    inr (inr (record { status = six; rose = it.0; put = put; heard = heard; said = subst (GrowsByFront before.written after.written) console it.1 }))
