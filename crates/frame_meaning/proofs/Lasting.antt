-- What is left stays, and goes on; and at the start all is left.
use Rattle.std.proofs.Common.{◌≡◌, refl, sym, ap, ◌∙◌, ℕ, ◌-◌, List, [], ◌∷◌, false, Option, None}
use Rattle.std.specs.Borrow.{Bor}
use Rattle.doc_model.specs.declared.step.Step.{Step}
use Rattle.engine_laws.proofs.Keeping.{begins_refl}
use Rattle.engine_laws.specs.Growing.{Continues}
use Rattle.engine_meaning.specs.Execution.{InMode, most_nested, templates}
use Rattle.engine_meaning.specs.Meaning.{at_first, globals_in, meaning_of, sheet_world, transforms, undone}
use Rattle.engine_meaning.specs.Places.{World, setting}
use Rattle.engine_meaning.specs.Runs.{State, Ran, Done, Faulted, Waits, after}
use Rattle.frame_meaning.proofs.Keeping.{frame_lasts}
use Rattle.frame_meaning.proofs.Surfaces.{Lasts, after_assoc, after_same, under_lasts}
use Rattle.frame_meaning.specs.Apart.{under}
use Rattle.frames.specs.Apart.{base}
use Rattle.frame_meaning.specs.Rest.{rest}
use Rattle.frame_meaning.specs.Stand.{Stand}
use Rattle.frame_meaning.specs.Uses.{at_root}
use Rattle.frames.specs.Depth.{depth}
use Rattle.frames.specs.declared.frame.Frame.{Frame}
use Rattle.frames.specs.declared.frame.Frame.TheVariants as f
use Rattle.sheet_ast.specs.declared.sheet.Sheet.{Sheet}
use Rattle.xpath_meaning.specs.Keys.{alone}

pub rest_lasts : (sheet : Sheet) (w v : World) → Continues w v → (frames : List Frame) (h : Stand) → Lasts (base frames) None (rest sheet w frames h) (rest sheet v frames h)
rest_lasts sheet w v x [] h = record { later = λ s. refl; adds = begins_refl }
rest_lasts sheet w v x (frame ∷ frames) h =
    let k = under_lasts (base (frame ∷ frames)) (base frames) (frame_lasts sheet w v x frame (base frames) (most_nested - depth frames) h) (λ (g : Stand). rest_lasts sheet w v x frames g) in
    record { later = k.later; adds = k.adds }

whole : {A : Type 0} (o : Ran A) → under None o ≡ o
whole (Done x s) = refl
whole (Faulted e s) = refl
whole (Waits m s) = refl

root_so : (o : Ran (Unit {0})) (h : Stand) → after (under None (after o (λ _. λ t. Done h t))) (λ _ t. Done tt t) ≡ o
root_so (Done tt s) h = refl
root_so (Faulted e s) h = refl
root_so (Waits m s) h = refl

-- the globals, and then the template of the root
pub starts_so : (sheet : Sheet) (order : Bor (List ℕ)) (w : World) (s : State)
    → transforms sheet order.now w s ≡ rest sheet w (f.Globals order false ∷ f.Choose 0 [] ∷ []) (at_root (undone sheet)) s
starts_so sheet order w s =
    sym (ap (λ o. after o (rest sheet w (f.Choose 0 [] ∷ []))) (whole _)
    ∙ after_assoc (globals_in sheet w order.now (undone sheet) s) _ _
    ∙ after_same (globals_in sheet w order.now (undone sheet) s) _ _ (λ globals t. root_so (templates most_nested (setting sheet w globals) (InMode 0) [] (alone 0) t) (at_root globals)))

pub meaning_starts : (sheet : Sheet) (order : Bor (List ℕ)) (id : Option (List ℕ)) (steps : List Step) (budget : ℕ)
    → meaning_of sheet order.now id steps budget ≡ rest sheet (sheet_world sheet id steps) (f.Globals order false ∷ f.Choose 0 [] ∷ []) (at_root (undone sheet)) (at_first budget)
unfolding meaning_of
meaning_starts sheet order id steps budget = starts_so sheet order (sheet_world sheet id steps) (at_first budget)
