-- How values are handed on.
use Rattle.std.proofs.Common.{◌≡◌, refl, sym, ap, ◌∙◌, subst, ℕ, ◌+◌, ◌-◌, ◌<◌, ◌≤◌, List, [], ◌∷◌, ◌++◌, append-nil, length, reverse, arith, Some, Result, Err}
use Rattle.std.proofs.lemmas.List.{reverse-append}
use Rattle.std.specs.Borrow.{Bor}
use Rattle.doc_model.specs.Lawful.{IsLawful}
use Rattle.doc_model.specs.declared.step.Step.{Step}
use Rattle.engine_core.proofs.Moves.{does_goes, does_same}
use Rattle.engine_core.specs.Holding.{Holds, Scene, Sound, there, world_at}
use Rattle.engine_core.specs.Moving.{Does, Goes, Left, Moved}
use Rattle.engine_core.specs.Standing.{left_with, stand_of, state_in}
use Rattle.engine_core.specs.Weight.{use_weight, weight_of}
use Rattle.engine_core.specs.declared.state.Core.{Core}
use Rattle.engine_frames.proofs.Finding.{world_stays}
use Rattle.engine_frames.specs.Opening.{opening_so}
use Rattle.engine_laws.specs.Growing.{Continues}
use Rattle.engine_meaning.specs.Execution.{Named, most_nested}
use Rattle.engine_meaning.specs.Places.{World}
use Rattle.engine_meaning.specs.Runs.{Ran, after, pure}
use Rattle.engine_values.specs.Finding.{FindsSelection, FindsValue, FoundThere, IsFound, IsSelection, SelectionThere, gives_so, select_frame, streams_in, whole_frame, with_found}
use Rattle.engine_values.specs.declared.found.Found.{Found}
use Rattle.engine_values.specs.declared.selection.Selection.{Selection}
use Rattle.engine_values.specs.declared.selection.Selection.TheVariants as selection
use Rattle.frame_meaning.proofs.Opening.{call_opens}
use Rattle.frame_meaning.proofs.Variables.{params_next}
use Rattle.frame_meaning.specs.Acted.{room}
use Rattle.frame_meaning.specs.Apart.{under}
use Rattle.frame_meaning.specs.Rest.{rest}
use Rattle.frame_meaning.specs.Selects.{selects}
use Rattle.frame_meaning.specs.Stand.{Stand, setting_at}
use Rattle.frame_meaning.specs.Uses.{calls, givens, passes}
use Rattle.frames.specs.Apart.{base}
use Rattle.frames.specs.Depth.{depth}
use Rattle.frames.specs.declared.frame.Frame.{Frame}
use Rattle.frames.specs.declared.frame.Frame.TheVariants as f
use Rattle.frames.specs.declared.parts.Call.TheVariants as call
use Rattle.frames.specs.declared.parts.Passing.{Passing}
use Rattle.frames.specs.declared.parts.Purpose.TheVariants as purpose
use Rattle.frames.specs.declared.parts.Use.{Use}
use Rattle.frames.specs.declared.parts.Use.TheVariants as use_of
use Rattle.frames.specs.declared.parts.Work.{Work}
use Rattle.frames.specs.declared.parts.Work.TheVariants as work
use Rattle.sheet_ast.specs.declared.instruction.SortDecl.{SortDecl}
use Rattle.sheet_ast.specs.declared.instruction.Variable.{Variable, out-Variable}
use Rattle.xpath_laws.specs.Sound.{Each}
use Rattle.xpath_meaning.specs.declared.stop.EvalStop.{EvalStop}
use Rattle.xpath_meaning.specs.declared.stop.EvalStop.TheVariants.{NotYet, Fault, Memory}
use Rattle.xpath_syntax.specs.declared.expression.Expr.{Expr}
use Rattle.xpath_syntax.specs.declared.expression.NameRef.{NameRef}

module _ {S : Type 0} (z : Scene S) (before later : List Step) (m : Core S) (p : Passing) where
  abbrev pub passing : Frame
  passing = f.Params p

  abbrev pub Held : List Step → Type 0
  Held steps = Sound z steps (passing ∷ m.frames) m

  abbrev pub Left_here : Left
  Left_here = left_with (passing ∷ m.frames) m

  abbrev pub BackSo : EvalStop → List Frame → Type 0
  BackSo e frames = Goes {A = Unit {0}} z before later Left_here (weight_of passing) m (record m { frames = frames }) (Err e)

  sound_back : Held later → Sound z later (passing ∷ m.frames) (record m { frames = passing ∷ m.frames })
  sound_back s = record { root = s.root; sizes = s.sizes; globals = s.globals; locals = s.locals; context = s.context; holds = s.holds }

  -- the next value

  module _ (more : Bor (List Variable)) (v : Variable) (name : Bor NameRef) (has : p.left.now ≡ v ∷ more.now) (named : name.now ≡ (out-Variable v).name) (s : Held later) where
    abbrev pub using : Use
    using = use_of.Handed name (record { call = p.call; left = more; given = p.given })

    value_left : (u : World) → Left_here u ≡ gives_so m.sheet.now u m.frames (stand_of m) (state_in m) (out-Variable v).value using
    value_left u = params_next m.sheet.now u m.frames (stand_of m) (state_in m) p.call p.left more p.given v name has named

    pub value_found : IsLawful later → (found : Found) (new : Core S) (r : Result (Unit {0}) EvalStop) → IsFound z later m (out-Variable v).value found
        → (Sound z later (f.Apart [] (purpose.Value using) ∷ m.frames) m → FoundThere z later found
        → Does z later (λ u. with_found found m.sheet.now u m.frames (stand_of m) (state_in m) using) (use_weight using + 3) m new r)
        → Goes z before later Left_here (weight_of passing) m new r
    value_found lawful found new r finds gives =
        let what : Left = λ u. with_found found m.sheet.now u m.frames (stand_of m) (state_in m) using in
        let same : (u : World) → Continues (world_at z later) u → Left_here u ≡ what u = λ u x. value_left u ∙ finds.left m.frames (state_in m) using u x in
        let one_less : length p.left.now ≡ length (v ∷ more.now) = ap length has in
        does_goes z before later Left_here (weight_of passing) m new r
        (does_same z later what Left_here (use_weight using + 3) (weight_of passing) m new r same (same (world_at z later) (world_stays z later lawful))
        (λ light. omega (arith, light, one_less))
        (gives (record { root = s.root; sizes = s.sizes; globals = s.globals; locals = s.locals; context = s.context; holds = s.holds }) finds.there))

    value_put_back : (e : EvalStop) → FindsValue z before later m (out-Variable v).value (Err e) → BackSo e (passing ∷ m.frames)
    value_put_back (Fault k) finds = value_left (world_at z later) ∙ finds m.frames (state_in m) using
    value_put_back (NotYet n) finds = record {
      sheet = refl;
      left = λ u x. refl;
      waits = (finds.0, finds.1, finds.2, value_left (world_at z finds.0) ∙ finds.3 m.frames (state_in m) using);
      sound = sound_back s;
    }
    value_put_back Memory finds = tt

    pub value_back : (e : EvalStop) (frames : List Frame) → frames ≡ passing ∷ m.frames → FindsValue z before later m (out-Variable v).value (Err e) → BackSo e frames
    value_back e frames back finds = subst (BackSo e) (sym back) (value_put_back e finds)

  -- a select, at whose items the values are handed on

  module _ (select : Bor Expr) (mode : ℕ) (sorts : Bor (List SortDecl)) (is : p.call ≡ call.Apply select mode sorts) (none : p.left.now ≡ []) (s : Held later) where
    abbrev pub doing : Work
    doing = work.ByMode mode p.given

    -- so much of the run is the select
    abbrev behind : World → Ran Stand → Ran (Unit {0})
    behind u o = after (under (base m.frames) o) (rest m.sheet.now u m.frames)

    select_left : (u : World) → Left_here u ≡ behind u (selects m.sheet.now u (stand_of m) select.now sorts.now doing (most_nested - depth m.frames) (state_in m))
    select_left u =
        ap (λ c. behind u (after (passes c p.left.now (givens p.given) (setting_at m.sheet.now u (stand_of m)) (room m.sheet.now u m.frames (stand_of m)) (stand_of m).place (state_in m))
        (λ _. pure (stand_of m)))) is
        ∙ ap (λ l. behind u (after (passes (call.Apply select mode sorts) l (givens p.given) (setting_at m.sheet.now u (stand_of m)) (room m.sheet.now u m.frames (stand_of m)) (stand_of m).place
        (state_in m)) (λ _. pure (stand_of m)))) none
        ∙ ap (λ g. behind u (after (calls (call.Apply select mode sorts) g (setting_at m.sheet.now u (stand_of m)) (room m.sheet.now u m.frames (stand_of m)) (stand_of m).place (state_in m))
        (λ _. pure (stand_of m)))) (append-nil (givens p.given))

    whole_light : (nodes : List ℕ) (l : List SortDecl) → length nodes < 4294967296 → weight_of (whole_frame nodes sorts l doing m.context) ≤ 21474836482
    whole_light nodes [] few = omega (arith, few)
    whole_light nodes (sort ∷ l) few = omega (arith, few)

    select_light : (found : Selection S) → SelectionThere z later m select.now found → weight_of (select_frame found select sorts doing m.context) ≤ 21474836482
    select_light (selection.Stream stream) t = omega arith
    select_light (selection.Nodes nodes) t = whole_light nodes sorts.now t.1

    whole_holds : (nodes : List ℕ) (l : List SortDecl) → Each (there z later) nodes
        → Holds z later (whole_frame nodes sorts l doing m.context ∷ m.frames) (stand_of m) (reverse m.streams)
    whole_holds nodes [] t = (t, s.holds.0, s.context, s.holds.1)
    whole_holds nodes (sort ∷ l) t = (omega arith, t, s.holds.0, s.context, s.holds.1)

    select_holds : (found : Selection S) → SelectionThere z later m select.now found
        → Holds z later (select_frame found select sorts doing m.context ∷ m.frames) (stand_of m) (reverse (m.streams ++ streams_in found))
    select_holds (selection.Stream stream) t =
        subst (Holds z later (f.Stream (Some select) 0 doing m.context ∷ m.frames) (stand_of m)) (sym (reverse-append m.streams (stream ∷ [])))
        (s.holds.0, s.context, (t.0, t.1, s.holds.1))
    select_holds (selection.Nodes nodes) t =
        subst (λ streams. Holds z later (whole_frame nodes sorts sorts.now doing m.context ∷ m.frames) (stand_of m) (reverse streams)) (sym (append-nil m.streams))
        (whole_holds nodes sorts.now t.0)

    abbrev pub laid : Selection S → Core S
    laid found = record m { frames = select_frame found select sorts doing m.context ∷ m.frames; streams = m.streams ++ streams_in found }

    pub select_found : (found : Selection S) → IsSelection z later m select sorts found → Moved z later Left_here (weight_of passing) m (laid found)
    select_found found finds =
        let light = select_light found finds.there in
        record {
          sheet = refl;
          left = λ u x. select_left u ∙ sym (ap (behind u) (finds.left doing (most_nested - depth m.frames) (state_in m) u x));
          lighter = omega (arith, light);
          sound = record { root = s.root; sizes = s.sizes; globals = s.globals; locals = s.locals; context = s.context; holds = select_holds found finds.there };
        }

    select_put_back : (e : EvalStop) → FindsSelection z before later m select sorts (Err e) → BackSo e (passing ∷ m.frames)
    select_put_back (Fault k) finds = select_left (world_at z later) ∙ ap (behind (world_at z later)) (finds doing (most_nested - depth m.frames) (state_in m))
    select_put_back (NotYet n) finds = record {
      sheet = refl;
      left = λ u x. refl;
      waits = (finds.0, finds.1, finds.2, select_left (world_at z finds.0) ∙ ap (behind (world_at z finds.0)) (finds.3 doing (most_nested - depth m.frames) (state_in m)));
      sound = sound_back s;
    }
    select_put_back Memory finds = tt

    pub select_back : (e : EvalStop) (frames : List Frame) → frames ≡ passing ∷ m.frames → FindsSelection z before later m select sorts (Err e) → BackSo e frames
    select_back e frames back finds = subst (BackSo e) (sym back) (select_put_back e finds)

  -- a template of the sheet

  pub template_goes : (at : ℕ) → p.call ≡ call.Template at → p.left.now ≡ [] → Held later → IsLawful later → (new : Core S) (r : Result (Unit {0}) EvalStop)
      → (Sound z later (f.Choose 0 p.given ∷ m.frames) m
      → Does z later (λ u. opening_so m.sheet.now u m.frames (stand_of m) (Named at) (givens p.given) (Some at) (state_in m)) 1 m new r)
      → Goes z before later Left_here (weight_of passing) m new r
  template_goes at is none s lawful new r opens =
      let what : Left = λ u. opening_so m.sheet.now u m.frames (stand_of m) (Named at) (givens p.given) (Some at) (state_in m) in
      let same : (u : World) → Left_here u ≡ what u = λ u.
      ap (λ c. rest m.sheet.now u (f.Params (record { call = c; left = p.left; given = p.given }) ∷ m.frames) (stand_of m) (state_in m)) is
      ∙ call_opens m.sheet.now u m.frames (stand_of m) (state_in m) at p.left p.given none in
      does_goes z before later Left_here (weight_of passing) m new r
      (does_same z later what Left_here 1 (weight_of passing) m new r (λ u x. same u) (same (world_at z later)) (λ light. omega (arith, light))
      (opens (record { root = s.root; sizes = s.sizes; globals = s.globals; locals = s.locals; context = s.context; holds = s.holds })))
