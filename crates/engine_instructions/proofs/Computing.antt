-- Instructions whose name is computed stop where the name does.
use Rattle.std.proofs.Common.{ℕ, List, true, false, Option, map}
use Rattle.std.specs.Borrow.{Bor}
use Rattle.engine_core.proofs.Moves.{Hangs}
use Rattle.engine_core.specs.Standing.{stand_of, state_in}
use Rattle.engine_core.specs.declared.state.Core.{Core}
use Rattle.engine_instructions.proofs.Hanging.{W, behind}
use Rattle.engine_meaning.specs.Events.{outer_text}
use Rattle.engine_meaning.specs.Execution.{Templates, does, made_apart, within}
use Rattle.engine_meaning.specs.Places.{World}
use Rattle.engine_meaning.specs.Questions.{name_at, target_at}
use Rattle.engine_meaning.specs.Runs.{◌>>=◌, ◌>>◌, emit, pure}
use Rattle.frame_meaning.proofs.Asks as asks
use Rattle.frame_meaning.specs.Acted.{acted, room}
use Rattle.frames.specs.Apart.{base}
use Rattle.result_events.specs.declared.event.ResultEvent.TheVariants as event
use Rattle.sheet_ast.specs.declared.instruction.Instruction.{Instruction}
use Rattle.sheet_ast.specs.declared.instruction.Instruction.TheOpen.{Instruction-F}
use Rattle.xpath_syntax.specs.declared.pattern.Part.{Part}

module _ {S : Type 0} (m : Core S) (others : Bor (List Instruction)) (kept : ℕ) (body : Bor (List Instruction)) where
  -- the templates that are above it
  abbrev T : World → Templates
  T u = room m.sheet.now u m.frames (stand_of m)

  pub element_hangs : (name : List Part) (namespace : Option (List Part)) (scope : ℕ) → Hangs (λ u. name_at (W m others kept u) (stand_of m).place false name namespace scope)
      (λ u. acted m.sheet.now u (Instruction-F.Element name namespace scope (map does body.now)) others kept m.frames (stand_of m) (state_in m)) m
  element_hangs name namespace scope = record {
    fails = λ u k is. asks.fails (base m.frames) (state_in m)
        (λ found. emit (event.Start found) >> within (map does body.now) (W m others kept u) (T u) (stand_of m).place >> emit event.End >> pure m.locals) (behind m others kept u) _ k is;
    waits = λ u n is. asks.waits (base m.frames) (state_in m)
        (λ found. emit (event.Start found) >> within (map does body.now) (W m others kept u) (T u) (stand_of m).place >> emit event.End >> pure m.locals) (behind m others kept u) _ n is;
  }

  pub attribute_hangs : (name : List Part) (namespace : Option (List Part)) (scope : ℕ) → Hangs (λ u. name_at (W m others kept u) (stand_of m).place true name namespace scope)
      (λ u. acted m.sheet.now u (Instruction-F.Attribute name namespace scope (map does body.now)) others kept m.frames (stand_of m) (state_in m)) m
  attribute_hangs name namespace scope = record {
    fails = λ u k is. asks.fails (base m.frames) (state_in m)
        (λ found. made_apart (map does body.now) (W m others kept u) (T u) (stand_of m).place >>= λ made. emit (event.Attr found (outer_text made)) >> pure m.locals) (behind m others kept u) _ k is;
    waits = λ u n is. asks.waits (base m.frames) (state_in m)
        (λ found. made_apart (map does body.now) (W m others kept u) (T u) (stand_of m).place >>= λ made. emit (event.Attr found (outer_text made)) >> pure m.locals) (behind m others kept u) _ n is;
  }

  pub processing_hangs : (name : List Part) → Hangs (λ u. target_at (W m others kept u) (stand_of m).place name)
      (λ u. acted m.sheet.now u (Instruction-F.Processing name (map does body.now)) others kept m.frames (stand_of m) (state_in m)) m
  processing_hangs name = record {
    fails = λ u k is. asks.fails (base m.frames) (state_in m)
        (λ target. made_apart (map does body.now) (W m others kept u) (T u) (stand_of m).place >>= λ made. emit (event.Instruction target (outer_text made)) >> pure m.locals)
        (behind m others kept u) _ k is;
    waits = λ u n is. asks.waits (base m.frames) (state_in m)
        (λ target. made_apart (map does body.now) (W m others kept u) (T u) (stand_of m).place >>= λ made. emit (event.Instruction target (outer_text made)) >> pure m.locals)
        (behind m others kept u) _ n is;
  }
