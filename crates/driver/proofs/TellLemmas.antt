-- An answer whose text has another name.
use Rattle.std.proofs.Common.{◌≡◌, ℕ, List, subst}
use Rattle.delivery.specs.Answer.{text_answer}
use Rattle.delivery.specs.Delivery.{Outputs, IsDelivered}

pub retold : (code result : ℕ) (text text' : List ℕ) (before after : Outputs) → text ≡ text' → IsDelivered (text_answer code text) result before after
    → IsDelivered (text_answer code text') result before after
retold code result text text' before after same it = subst (λ (said : List ℕ). IsDelivered (text_answer code said) result before after) same it
