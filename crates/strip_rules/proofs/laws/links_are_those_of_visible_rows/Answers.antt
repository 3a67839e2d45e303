use Rattle.strip_rules.proofs.Among.{first_is_visible, visible_is_first, next_is_visible, visible_is_next, prev_is_visible, visible_is_prev}
use Rattle.strip_rules.proofs.laws.links_are_those_of_visible_rows.Goals as goal

pub returns-clause-first : goal.returns-clause-first
returns-clause-first c = λ rules rows n k. (λ h. first_is_visible rules rows n k h, λ h. visible_is_first rules rows n k h)

pub returns-clause-next : goal.returns-clause-next
returns-clause-next c = λ rules rows m k l. (λ h. next_is_visible rules rows m k l h, λ h. visible_is_next rules rows m k l h)

pub returns-clause-prev : goal.returns-clause-prev
returns-clause-prev c = λ rules rows m k l. (λ h. prev_is_visible rules rows m k l h, λ h. visible_is_prev rules rows m k h)
