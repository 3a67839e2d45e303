-- A body on top of what a machine holds.
use Rattle.std.proofs.Common.{◌≡◌, refl, sym, ap, subst, arith, List, [], ◌∷◌, take, length, Bool}
use Rattle.std.specs.Borrow.{Bor}
use Rattle.doc_model.specs.declared.step.Step.{Step}
use Rattle.engine_core.specs.Holding.{Holds, Scene}
use Rattle.frame_meaning.specs.Stand.{Stand, at_place}
use Rattle.frames.specs.declared.frame.Frame.{Frame}
use Rattle.frames.specs.declared.frame.Frame.TheVariants as f
use Rattle.sheet_ast.specs.declared.instruction.Instruction.{Instruction}

pub take_all : {A : Type 0} (xs : List A) → take (length xs) xs ≡ xs
take_all [] = refl
take_all (x ∷ xs) = ap (λ l. x ∷ l) (take_all xs)

-- a body whose locals end with it, at the place where what is below it holds
pub body_on_top : {S : Type 0} (z : Scene S) (steps : List Step) (frames : List Frame) (h : Stand) (streams : List S) (body : Bor (List Instruction)) (begun : Bool)
    → Holds z steps frames h streams → Holds z steps (f.Body body begun (length h.place.locals) ∷ frames) h streams
body_on_top z steps frames h streams body begun k = (omega arith, subst (λ locals. Holds z steps frames (at_place h h.place.context locals) streams) (sym (take_all h.place.locals)) k)
