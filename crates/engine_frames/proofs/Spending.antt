-- A built-in rule is opened: its unit, and then what it does.
use Rattle.std.proofs.Common.{◌≡◌, refl, ap, ◌∙◌, ℕ, suc, ◌<◌, List, Result, Ok, Err, None, arith}
use Rattle.doc_model.specs.Answers.{Known}
use Rattle.doc_model.specs.Rows.{row_at, rows_of}
use Rattle.doc_model.specs.View.{Seen}
use Rattle.doc_model.specs.declared.row.Kind.{Kind}
use Rattle.doc_model.specs.declared.step.Step.{Step}
use Rattle.engine_core.proofs.Asking.{still_known}
use Rattle.engine_core.specs.Holding.{Scene, Sound, scene_of, there, world_at}
use Rattle.engine_core.specs.Moving.{Does}
use Rattle.engine_core.specs.Standing.{stand_of, state_in}
use Rattle.engine_core.specs.declared.state.Core.{Core}
use Rattle.engine_frames.proofs.BuiltIn.{row_known}
use Rattle.engine_frames.specs.Opening.{built_in_so, opening_so}
use Rattle.engine_meaning.specs.Execution.{InMode}
use Rattle.engine_meaning.specs.Places.{Given, World}
use Rattle.engine_questions.specs.Asking.{Asked, Kept}
use Rattle.engine_questions.specs.Walks.{Follows, Walk}
use Rattle.frame_meaning.proofs.Opening.{built_in_as}
use Rattle.frames.specs.Depth.{depth}
use Rattle.frames.specs.declared.frame.Frame.{Frame}
use Rattle.key_sources.specs.Going.{Fits}
use Rattle.xpath_meaning.specs.declared.stop.EvalStop.{EvalStop}
use Rattle.xpath_meaning.specs.declared.stop.EvalStop.TheVariants.{NotYet, Fault, Memory}

-- a question leaves how streams stand, by what nodes can be found, and the strip rules
pub scenes_same : {S M N : Type 0} (walks : S → Walk) (follows : S → Follows) {asked now : Asked N} {before later : Seen M} {fits : Fits} → Kept before later asked now fits
    → scene_of walks follows asked before ≡ scene_of walks follows now later
scenes_same walks follows k = rw (k.stays, k.moves.rules_stay) refl

-- with so many units left
abbrev pub spent : {S : Type 0} → Core S → ℕ → Core S
spent m budget = record m { budget = budget }

pub sound_spent : {S : Type 0} {z : Scene S} {steps : List Step} {frames : List Frame} {m : Core S} (budget : ℕ) → Sound z steps frames m → Sound z steps frames (spent m budget)
sound_spent budget s = record { root = s.root; sizes = s.sizes; globals = s.globals; locals = s.locals; context = s.context; holds = s.holds }

module _ {S : Type 0} (z : Scene S) (steps : List Step) (old : Core S) (budget : ℕ) (unit : old.budget ≡ suc budget) (room : depth old.frames < 500) (t : there z steps old.context.node) (k : Kind)
    (of : (row_at (rows_of steps) old.context.node).kind ≡ k) (mode : ℕ) (given : List Given) where
  opens_as : (u : World) → u.reading.row old.context.node ≡ Known (row_at (rows_of steps) old.context.node)
      → opening_so old.sheet.now u old.frames (stand_of old) (InMode mode) given None (state_in old) ≡ built_in_so old.sheet.now u old.frames (stand_of old) k mode (state_in (spent old budget))
  opens_as u is =
      ap (λ b. opening_so old.sheet.now u old.frames (stand_of old) (InMode mode) given None (record { budget = b; events = old.output; messages = old.messages })) unit
      ∙ built_in_as old.sheet.now u old.frames (stand_of old) (InMode mode) given (state_in (spent old budget)) (row_at (rows_of steps) old.context.node) k room is of

  pub opens_by : {A : Type 0} (new : Core S) (r : Result A EvalStop)
      → Does z steps (λ u. built_in_so old.sheet.now u old.frames (stand_of old) k mode (state_in (spent old budget))) 1 (spent old budget) new r
      → Does z steps (λ u. opening_so old.sheet.now u old.frames (stand_of old) (InMode mode) given None (state_in old)) 1 old new r
  opens_by new (Ok x) d = record {
    sheet = d.sheet;
    left = λ u y. opens_as u (still_known _ _ _ (row_known z.lookups z.rules steps old.context.node t) (y.reading.row old.context.node)) ∙ d.left u y;
    lighter = let less = d.lighter in omega (arith, unit, less);
    sound = d.sound;
  }
  opens_by new (Err (Fault e)) d = opens_as (world_at z steps) (row_known z.lookups z.rules steps old.context.node t) ∙ d
  opens_by new (Err (NotYet n)) d = absurd d
  opens_by new (Err Memory) d = tt
