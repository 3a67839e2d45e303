-- Tests, selects and variables stop where what is asked first stops, and else go on in frames.
use Rattle.std.proofs.Common.{◌≡◌, refl, ap, ◌∙◌, ℕ, ◌-◌, List, ◌∷◌, false, map}
use Rattle.std.specs.Borrow.{Bor}
use Rattle.engine_core.proofs.Moves.{Hangs}
use Rattle.engine_core.specs.Standing.{stand_of, state_in}
use Rattle.engine_core.specs.declared.state.Core.{Core}
use Rattle.engine_instructions.proofs.Hanging.{W, behind}
use Rattle.engine_meaning.specs.Execution.{Action, does, if_true, most_nested, within}
use Rattle.engine_meaning.specs.Items.{selected}
use Rattle.engine_meaning.specs.Places.{World, place}
use Rattle.engine_meaning.specs.Questions.{truth_at}
use Rattle.engine_meaning.specs.Runs.{Ran, after, ◌>>◌, pure}
use Rattle.engine_values.specs.Finding.{gives_so}
use Rattle.frame_meaning.proofs.Asks as asks
use Rattle.frame_meaning.proofs.Instructions.{local_moves}
use Rattle.frame_meaning.specs.Acted.{acted, room}
use Rattle.frame_meaning.specs.Apart.{under}
use Rattle.frame_meaning.specs.Rest.{rest}
use Rattle.frame_meaning.specs.Selects.{selects}
use Rattle.frame_meaning.specs.Stand.{Stand}
use Rattle.frames.specs.Apart.{base}
use Rattle.frames.specs.Depth.{depth}
use Rattle.frames.specs.declared.frame.Frame.{Frame}
use Rattle.frames.specs.declared.frame.Frame.TheVariants as f
use Rattle.frames.specs.declared.parts.Use.TheVariants as use_of
use Rattle.frames.specs.declared.parts.Work.TheVariants as work
use Rattle.sheet_ast.specs.declared.instruction.Instruction.{Instruction}
use Rattle.sheet_ast.specs.declared.instruction.Instruction.TheOpen.{Instruction-F}
use Rattle.sheet_ast.specs.declared.instruction.SortDecl.{SortDecl}
use Rattle.sheet_ast.specs.declared.instruction.Variable.{Variable, out-Variable}
use Rattle.engine_meaning.specs.Execution.{binding_of}
use Rattle.xpath_syntax.specs.declared.expression.Expr.{Expr}

module _ {S : Type 0} (m : Core S) (others : Bor (List Instruction)) (kept : ℕ) where
  pub if_hangs : (test : Expr) (body : List Action) → Hangs (λ u. truth_at (W m others kept u) (stand_of m).place test)
      (λ u. acted m.sheet.now u (Instruction-F.If test body) others kept m.frames (stand_of m) (state_in m)) m
  if_hangs test body = record {
    fails = λ u k is. asks.fails (base m.frames) (state_in m)
        (λ holds. if_true holds (within body (W m others kept u) (room m.sheet.now u m.frames (stand_of m)) (stand_of m).place) >> pure m.locals) (behind m others kept u) _ k is;
    waits = λ u n is. asks.waits (base m.frames) (state_in m)
        (λ holds. if_true holds (within body (W m others kept u) (room m.sheet.now u m.frames (stand_of m)) (stand_of m).place) >> pure m.locals) (behind m others kept u) _ n is;
  }

  abbrev pub below : List Frame
  below = f.Body others false kept ∷ m.frames

  -- what a select does, and then the frames
  pub for_each_as : (select : Expr) (sorts : List SortDecl) (body : Bor (List Instruction)) (u : World) (r : Ran Stand)
      → selects m.sheet.now u (stand_of m) select sorts (work.ByBody body) (most_nested - depth m.frames) (state_in m) ≡ r
      → acted m.sheet.now u (Instruction-F.ForEach select sorts (map does body.now)) others kept m.frames (stand_of m) (state_in m) ≡ after (under (base m.frames) r) (rest m.sheet.now u below)
  for_each_as select sorts body u r is =
      asks.flat (base m.frames)
      (selected (W m others kept u) (stand_of m).place select sorts
      (λ item. within (map does body.now) (W m others kept u) (room m.sheet.now u m.frames (stand_of m)) (place item m.locals)) (state_in m)) m.locals (behind m others kept u) (stand_of m)
      (rest m.sheet.now u below) (λ t. refl)
      ∙ ap (λ o. after (under (base m.frames) o) (rest m.sheet.now u below)) is

  -- the value of a variable, which is a local
  pub local_gives : (v : Variable) (u : World)
      → acted m.sheet.now u (Instruction-F.Local (binding_of v)) others kept m.frames (stand_of m) (state_in m)
      ≡ gives_so m.sheet.now u below (stand_of m) (state_in m) (out-Variable v).value use_of.Local
  local_gives v u = local_moves m.sheet.now u others kept m.frames (stand_of m) (state_in m) v
