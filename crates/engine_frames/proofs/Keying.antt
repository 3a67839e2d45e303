-- How the sort keys of items are found, one row of keys after the other.
use Rattle.std.proofs.Common.{◌≡◌, refl, sym, subst, ℕ, suc, ◌+◌, ◌<◌, ◌≤◌, List, [], ◌∷◌, ◌++◌, length, length-append, drop, arith, slice_get, Some, None, Err}
use Rattle.std.proofs.lemmas.Option.{slice_get_within}
use Rattle.std.specs.Borrow.{Bor}
use Rattle.doc_model.specs.Answers as answer
use Rattle.doc_model.specs.declared.step.Step.{Step}
use Rattle.engine_core.proofs.Asking.{Hears, still_known}
use Rattle.engine_core.proofs.Moves.{put_back}
use Rattle.engine_core.specs.Holding.{Scene, Sound, there, world_at}
use Rattle.engine_core.specs.Moving.{Goes, Moved}
use Rattle.engine_core.specs.Standing.{left_with, stand_of, state_in}
use Rattle.engine_core.specs.Weight.{weight_of}
use Rattle.engine_core.specs.declared.state.Core.{Core}
use Rattle.engine_frames.proofs.Listed.{each_get, none_left, one_next}
use Rattle.engine_frames.proofs.Ordering.{each_ordered, length_ordered}
use Rattle.engine_laws.proofs.Asking.{part_of_key_stays}
use Rattle.engine_laws.specs.Growing.{Continues}
use Rattle.engine_meaning.specs.Places.{World, at_item}
use Rattle.engine_meaning.specs.Sorts.{in_key_order, keys_at}
use Rattle.frame_meaning.proofs.Keys.{keys_end, row_fails, row_moves, row_waits}
use Rattle.frame_meaning.specs.Stand.{setting_at}
use Rattle.frames.specs.declared.frame.Frame.{Frame}
use Rattle.frames.specs.declared.frame.Frame.TheVariants as f
use Rattle.frames.specs.declared.parts.Work.{Work}
use Rattle.sheet_ast.specs.declared.instruction.SortDecl.{SortDecl}
use Rattle.sort_keys.specs.declared.key.KeyPart.{KeyPart}
use Rattle.xpath_laws.proofs.Staying.{each_stays}
use Rattle.xpath_meaning.specs.Outcome.{Outcome}
use Rattle.xpath_meaning.specs.declared.context.Context.{Context}
use Rattle.xpath_meaning.specs.declared.context.Size.TheVariants as size
use Rattle.xpath_meaning.specs.declared.stop.EvalStop.{EvalStop}

module _ {S : Type 0} (z : Scene S) (m : Core S) (nodes : List ℕ) (rows : List (List KeyPart)) (sorts : Bor (List SortDecl)) (k : Work) (context : Context) where
  abbrev pub keyed : List (List KeyPart) → Frame
  keyed rows = f.Keys nodes rows sorts k context

  abbrev pub Held : List Step → Type 0
  Held steps = Sound z steps (keyed rows ∷ m.frames) m

  pub keys_over : (steps : List Step) → Held steps → slice_get nodes (length rows) ≡ None → (ordered : List ℕ) → ordered ≡ in_key_order sorts.now nodes rows
      → Moved z steps (left_with (keyed rows ∷ m.frames) m) (weight_of (keyed rows)) m (record m { frames = f.Items ordered 0 k context ∷ m.frames })
  keys_over steps s none ordered is =
      let count : length (in_key_order sorts.now nodes rows) ≡ length rows = length_ordered sorts.now nodes rows in
      let few : length rows ≤ length nodes = s.holds.0 in
      subst (λ ordered. Moved z steps (left_with (keyed rows ∷ m.frames) m) (weight_of (keyed rows)) m (record m { frames = f.Items ordered 0 k context ∷ m.frames })) (sym is) (record {
        sheet = refl;
        left = λ u x. keys_end m.sheet.now u m.frames (stand_of m) (state_in m) nodes sorts k context rows (none_left nodes (length rows) none);
        lighter = omega (arith, count, few);
        sound = record {
          root = s.root;
          sizes = s.sizes;
          globals = s.globals;
          locals = s.locals;
          context = s.context;
          holds = (each_ordered (there z steps) s.root sorts.now nodes rows s.holds.1, s.holds.2, s.holds.3, s.holds.4);
        };
      })

  -- the next item, and its keys
  abbrev pub item_at : ℕ → Context
  item_at n = at_item (size.Known (length nodes)) (suc (length rows)) n

  abbrev pub keys_of : ℕ → World → Outcome (List KeyPart)
  keys_of n u = keys_at (setting_at m.sheet.now u (stand_of m)) (stand_of m).place sorts.now (item_at n)

  pub node_there : (steps : List Step) (n : ℕ) → Held steps → slice_get nodes (length rows) ≡ Some n → there z steps n
  node_there steps n s is = each_get (there z steps) nodes (length rows) n s.holds.1 is

  keys_stay : (n : ℕ) (w u : World) → Continues w u → answer.Stays (keys_of n w) (keys_of n u)
  keys_stay n w u x = each_stays _ _ sorts.now (part_of_key_stays m.sheet.now m.globals w u x (stand_of m).place (item_at n))

  pub keys_on : (steps : List Step) (n : ℕ) (row : List KeyPart) (more : List (List KeyPart)) → more ≡ rows ++ row ∷ [] → Held steps → slice_get nodes (length rows) ≡ Some n
      → keys_of n (world_at z steps) ≡ answer.Known row
      → Moved z steps (left_with (keyed rows ∷ m.frames) m) (weight_of (keyed rows)) m (record m { frames = keyed more ∷ m.frames })
  keys_on steps n row more is s next has =
      let within : length rows < length nodes = slice_get_within nodes (length rows) n next in
      let longer : length (rows ++ row ∷ []) ≡ length rows + 1 = length-append rows (row ∷ []) in
      subst (λ more. Moved z steps (left_with (keyed rows ∷ m.frames) m) (weight_of (keyed rows)) m (record m { frames = keyed more ∷ m.frames })) (sym is) (record {
        sheet = refl;
        left = λ u x. row_moves m.sheet.now u m.frames (stand_of m) (state_in m) nodes sorts k context rows n (drop (suc (length rows)) nodes) row (one_next nodes (length rows) n next)
            (still_known (keys_of n (world_at z steps)) (keys_of n u) row has (keys_stay n (world_at z steps) u x));
        lighter = omega (arith, within, longer);
        sound = record {
          root = s.root;
          sizes = s.sizes;
          globals = s.globals;
          locals = s.locals;
          context = s.context;
          holds = (omega (arith, within, longer), s.holds.1, s.holds.2, s.holds.3, s.holds.4);
        };
      })

  pub keys_back : (before later : List Step) (n : ℕ) (e : EvalStop) (frames : List Frame) → frames ≡ keyed rows ∷ m.frames → Held later → slice_get nodes (length rows) ≡ Some n
      → Hears {A = List KeyPart} z before later (keys_of n) (Err e)
      → Goes {A = Unit {0}} z before later (left_with (keyed rows ∷ m.frames) m) (weight_of (keyed rows)) m (record m { frames = frames }) (Err e)
  keys_back before later n e frames back s next hears =
      subst (λ frames. Goes {A = Unit {0}} z before later (left_with (keyed rows ∷ m.frames) m) (weight_of (keyed rows)) m (record m { frames = frames }) (Err e)) (sym back)
      (put_back (Unit {0}) z before later (keys_of n) (left_with (keyed rows ∷ m.frames) m) (weight_of (keyed rows)) m (record m { frames = keyed rows ∷ m.frames }) e refl (λ u. refl)
      (record { root = s.root; sizes = s.sizes; globals = s.globals; locals = s.locals; context = s.context; holds = s.holds })
      (record {
        fails = λ u e has. row_fails m.sheet.now u m.frames (stand_of m) (state_in m) nodes sorts k context rows n (drop (suc (length rows)) nodes) e (one_next nodes (length rows) n next) has;
        waits = λ u i has. row_waits m.sheet.now u m.frames (stand_of m) (state_in m) nodes sorts k context rows n (drop (suc (length rows)) nodes) i (one_next nodes (length rows) n next) has;
      }) hears)
