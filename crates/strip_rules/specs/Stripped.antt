-- What is seen through strip rules.
use Rattle.std.specs.Prelude.{ℕ, List, Some}
use Rattle.doc_model.specs.declared.look.Look.{Look}
use Rattle.doc_model.specs.declared.step.Step.{Step}
use Rattle.doc_model.specs.declared.strip_rule.StripRule.{StripRule}
use Rattle.doc_model.specs.Relations.{sibling_parent}
use Rattle.doc_model.specs.Shown.{first_shown, next_shown}
use Rattle.doc_model.specs.View.{Seen, LinkIs}

-- what the view below sees, under these rules, on the borrow of this name
abbrev pub stripped : {M : Type 0} → ℕ → List StripRule → Seen M → Seen (ℕ × M)
stripped name rules seen = record { steps = seen.steps; whole = seen.whole; types = seen.types; rules = rules; mark = (name, seen.mark) }

-- what is answered of the first visible child under these rules, which row n itself decides
abbrev pub IsFirstUnder : List StripRule → List Step → List Step → ℕ → Look → Type 0
IsFirstUnder rules before later n look = LinkIs (λ rows. first_shown rules rows n) (λ _. Some n) before later look

-- what is answered of the next visible sibling under these rules, which the parent decides
abbrev pub IsNextUnder : List StripRule → List Step → List Step → ℕ → Look → Type 0
IsNextUnder rules before later n look = LinkIs (λ rows. next_shown rules rows n) (λ rows. sibling_parent rows n) before later look
