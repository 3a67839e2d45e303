-- What a question to a document leaves behind and answers, by what the calls on its view and on its source of keys do.
use Rattle.std.proofs.Common.{ap, ℕ, List, Result, Ok, Err, Option, Some, None}
use Rattle.std.specs.Prelude.{IfOk, OnSome}
use Rattle.copy_meaning.proofs.Lasting.{copy_lasts}
use Rattle.doc_model.specs.declared.step.Step.{Step}
use Rattle.doc_model.specs.declared.strip_rule.StripRule.{StripRule}
use Rattle.doc_model.specs.Lawful.{Grows, IsLawful}
use Rattle.doc_model.specs.View.{Seen, Moves}
use Rattle.document_questions.specs.Answering.{asked_by, seen_by}
use Rattle.engine_laws.specs.Growing.{Continues}
use Rattle.engine_questions.proofs.Staying.{worlds_continue}
use Rattle.engine_questions.specs.Asking.{IsReady, Kept, Shows, UnlessMemory, world_by}
use Rattle.key_sources.proofs.Saying.{FitsOn, went_moves, went_none}
use Rattle.key_sources.proofs.Values.{value_lasts}
use Rattle.key_sources.specs.Going.{Fits, Lookups, Made, Says, Stands, Went}
use Rattle.sheet_ast.specs.declared.sheet.Rule.{Rule}
use Rattle.xpath_core.specs.Ready.{IsReady as IsReadyFor}
use Rattle.xpath_laws.proofs.Reading.{reading_extends}
use Rattle.xpath_meaning.specs.declared.context.Context.{Context}
use Rattle.xpath_meaning.specs.declared.stop.EvalStop.{EvalStop}
use Rattle.xpath_meaning.specs.declared.stop.EvalStop.TheVariants.{NotYet, Fault, Memory}
use Rattle.xpath_meaning.specs.Outcome.{Outcome}
use Rattle.xpath_meaning.specs.Reading.{Reading}
use Rattle.xpath_values.specs.declared.value.Value.{Value}

-- ---- a document and the view that it borrows

-- what is seen is seen of every lawful growth
world_goes_on : (lookups : Lookups) (rules : List StripRule) (before later : List Step) → Grows before later → IsLawful later → Continues (world_by lookups rules before) (world_by lookups rules later)
world_goes_on lookups rules before later g l =
    worlds_continue lookups rules before later (reading_extends value_lasts rules lookups.keys lookups.id before later g l) (λ n. (copy_lasts rules n).stays before later g l)

moves_by : {M : Type 0} {s t : Seen M} (name : ℕ) → Moves s t → Moves (seen_by name s) (seen_by name t)
moves_by {M} name m = record {
  grows = m.grows;
  types_grow = m.types_grow;
  whole_stays = m.whole_stays;
  rules_stay = m.rules_stay;
  mark_stays = ap (λ (mark : M). (name, mark)) m.mark_stays;
  seen = record { lawful = m.seen.lawful; within = m.seen.within; types = m.seen.types };
}

stands_by : {M : Type 0} {s : Seen M} {fits : Fits} (name : ℕ) → Stands s fits → Stands (seen_by name s) fits
stands_by name w = record { seen = record { lawful = w.seen.lawful; within = w.seen.within; types = w.seen.types }; kept = w.kept }

-- what the document may be asked its view may be asked
pub stands_in : {M : Type 0} {s : Seen M} {fits : Fits} (name : ℕ) → Stands (seen_by name s) fits → Stands s fits
stands_in name w = record { seen = record { lawful = w.seen.lawful; within = w.seen.within; types = w.seen.types }; kept = w.kept }

pub ready_in : {M : Type 0} {s : Seen M} {fits : Fits} {values : List Value} {c : Context} (name : ℕ) → IsReady (seen_by name s) fits values c → IsReadyFor s fits values c
ready_in name r = record { stands = stands_in name r.stands; values = r.values; context = r.context }

-- ---- what is kept

pub kept_so : {M N : Type 0} {s t : Seen M} {made now : Made N} {fits : Fits} (name place : ℕ) (rules : List Rule) → Went s t made now fits
    → Kept (seen_by name s) (seen_by name t) (asked_by place rules made) (asked_by place rules now) fits
kept_so {N = N} {t = t} {made} name place rules w = record {
  moves = moves_by name w.moves;
  stays = ap (λ (m : Made N). asked_by place rules m) w.stays;
  stands = stands_by name w.stands;
  goes_on = λ steps g l. world_goes_on made.lookups t.rules t.steps steps g l;
}

-- where the view alone was asked
pub kept_moves : {M N : Type 0} {s t : Seen M} {made : Made N} {fits : Fits} (name place : ℕ) (rules : List Rule) → FitsOn fits → Moves s t → Stands (seen_by name s) fits
    → Kept (seen_by name s) (seen_by name t) (asked_by place rules made) (asked_by place rules made) fits
kept_moves name place rules on m w = kept_so name place rules (went_moves on m (stands_in name w))

-- where nothing was asked
pub kept_none : {M N : Type 0} {s : Seen M} {made : Made N} {fits : Fits} (name place : ℕ) (rules : List Rule) → Stands (seen_by name s) fits
    → Kept (seen_by name s) (seen_by name s) (asked_by place rules made) (asked_by place rules made) fits
kept_none name place rules w = kept_so name place rules (went_none (stands_in name w))

-- ---- what is shown

pub shows : {M A : Type 0} {s t : Seen M} {lookups : Lookups} {means : Reading → Outcome A} (name : ℕ) (result : Result A EvalStop) → Says lookups means s t result
    → Shows lookups (λ w. means w.reading) (seen_by name s) (seen_by name t) result
shows name (Ok x) a = record { answers = a.answers }
shows name (Err (NotYet m)) a = record { answers = a.answers }
shows name (Err (Fault fault)) a = record { answers = a.answers }
shows name (Err Memory) a = record { answers = tt }

pub unless_memory : {A P : Type 0} (result : Result A EvalStop) → P → UnlessMemory P result
unless_memory (Ok x) h = h
unless_memory (Err (NotYet m)) h = h
unless_memory (Err (Fault fault)) h = h
unless_memory (Err Memory) h = tt

pub if_some : {A E P : Type 0} (result : Result (Option A) E) → P → IfOk result (λ item. OnSome item P)
if_some (Ok (Some x)) h = h
if_some (Ok None) h = tt
if_some (Err e) h = tt
