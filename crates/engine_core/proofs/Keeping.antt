-- What questions keep, one after the other.
use Rattle.std.proofs.Common.{refl, ◌∙◌, List}
use Rattle.copy_meaning.proofs.Lasting.{copy_lasts}
use Rattle.doc_laws.proofs.Moving.{moves_none, moves_on}
use Rattle.doc_model.specs.Lawful.{Grows, IsLawful}
use Rattle.doc_model.specs.View.{Seen}
use Rattle.doc_model.specs.declared.step.Step.{Step}
use Rattle.doc_model.specs.declared.strip_rule.StripRule.{StripRule}
use Rattle.engine_laws.specs.Growing.{Continues}
use Rattle.engine_questions.proofs.Staying.{worlds_continue}
use Rattle.engine_questions.specs.Asking.{Asked, Kept, world_by}
use Rattle.key_sources.proofs.Values.{value_lasts}
use Rattle.key_sources.specs.Going.{Fits, Lookups, Stands}
use Rattle.xpath_laws.proofs.Reading.{reading_extends}

-- what is seen is seen of every lawful growth
pub world_goes_on : (lookups : Lookups) (rules : List StripRule) (before later : List Step) → Grows before later → IsLawful later → Continues (world_by lookups rules before) (world_by lookups rules later)
world_goes_on lookups rules before later g l =
    worlds_continue lookups rules before later (reading_extends value_lasts rules lookups.keys lookups.id before later g l) (λ n. (copy_lasts rules n).stays before later g l)

-- where nothing was asked
pub kept_none : {M N : Type 0} {seen : Seen M} {asked : Asked N} {fits : Fits} → Stands seen fits → Kept seen seen asked asked fits
kept_none {seen = seen} {asked} s = record {
  moves = moves_none seen s.seen;
  stays = refl;
  stands = s;
  goes_on = λ steps g l. world_goes_on asked.lookups seen.rules seen.steps steps g l;
}

-- one question after the other
pub kept_on : {M N : Type 0} {before mid later : Seen M} {asked now then : Asked N} {fits behind : Fits} → Kept before mid asked now fits → Kept mid later now then behind
    → Kept before later asked then behind
kept_on {later = later} {asked} k h = record {
  moves = moves_on _ _ _ k.moves h.moves;
  stays = h.stays ∙ k.stays;
  stands = h.stands;
  goes_on = λ steps g l. world_goes_on asked.lookups later.rules later.steps steps g l;
}
