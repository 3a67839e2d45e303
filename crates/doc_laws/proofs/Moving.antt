-- Calls one after another, and the steps of a call.
use Rattle.std.proofs.Common.{◌≡◌, ℕ, List, [], ◌++◌, refl, ap, sym, ◌∙◌, append_assoc, append-nil}
use Rattle.doc_model.specs.declared.step.Step.{Step}
use Rattle.doc_model.specs.Lawful.{Grows, AtStep}
use Rattle.doc_model.specs.View.{Seen, IsSeen, Moves}
use Rattle.doc_laws.proofs.Growth.{Grows-trans, Grows-refl}

-- calls one after another
pub moves_on : {M : Type 0} (s t u : Seen M) → Moves s t → Moves t u → Moves s u
moves_on s t u m n = record {
  grows = Grows-trans s.steps t.steps u.steps m.grows n.grows;
  types_grow = (m.types_grow.0 ++ n.types_grow.0, more_types s.types t.types u.types m.types_grow n.types_grow);
  whole_stays = n.whole_stays ∙ m.whole_stays;
  rules_stay = n.rules_stay ∙ m.rules_stay;
  mark_stays = n.mark_stays ∙ m.mark_stays;
  seen = n.seen;
}
  where
    more_types : (a b c : List ℕ) (g : (rest : List ℕ) × (a ++ rest ≡ b)) (h : (rest : List ℕ) × (b ++ rest ≡ c)) → a ++ (g.0 ++ h.0) ≡ c
    more_types a b c g h = sym (append_assoc a g.0 h.0) ∙ ap (λ xs. xs ++ h.0) g.1 ∙ h.1

pub moves_none : {M : Type 0} (s : Seen M) → IsSeen s → Moves s s
moves_none s i = record { grows = Grows-refl s.steps; types_grow = ([], append-nil s.types); whole_stays = refl; rules_stay = refl; mark_stays = refl; seen = i }

-- a step of a part of the call is one of the call
pub at_wider : (p q r : List Step) (P : List Step → Type 0) → Grows p q → AtStep q r P → AtStep p r P
at_wider p q r P g a = (a.0, Grows-trans p q a.0 g a.1, a.2, a.3)

pub at_weaker : (p q : List Step) (P Q : List Step → Type 0) → ((s : List Step) → Grows p s → P s → Q s) → AtStep p q P → AtStep p q Q
at_weaker p q P Q f a = (a.0, a.1, a.2, f a.0 a.1 a.3)
