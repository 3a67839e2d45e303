-- What is done at the items of a select, and what becomes of a variable.
use Rattle.std.proofs.Common.{◌≡◌, refl, sym, ◌∙◌, subst, ℕ, ◌+◌, ◌-◌, ◌<◌, ◌≤◌, List, [], ◌∷◌, ◌++◌, append-nil, false, length, length-append, map, reverse, arith, Some, Result, Ok, Err}
use Rattle.std.proofs.lemmas.List.{reverse-append, take-append-le}
use Rattle.std.specs.Borrow.{Bor}
use Rattle.std.specs.Prelude.{IsErrAnd}
use Rattle.doc_laws.proofs.Growth.{Grows-refl}
use Rattle.doc_model.specs.Lawful.{IsLawful}
use Rattle.doc_model.specs.declared.step.Step.{Step}
use Rattle.engine_core.specs.Holding.{Holds, Scene, there, world_at}
use Rattle.engine_core.proofs.Keeping.{world_goes_on}
use Rattle.engine_core.specs.Moving.{Does, Left, Tries}
use Rattle.engine_core.specs.Standing.{stand_of, state_in}
use Rattle.engine_core.specs.Weight.{weight_of}
use Rattle.engine_core.specs.declared.state.Core.{Core}
use Rattle.engine_instructions.proofs.Choosing.{for_each_as, local_gives}
use Rattle.engine_meaning.specs.Execution.{binding_of, does, most_nested}
use Rattle.engine_meaning.specs.Runs.{Faulted, Waits}
use Rattle.engine_values.specs.Finding.{FindsSelection, FindsValue, IsFound, SelectionThere, select_frame, streams_in, whole_frame, with_found}
use Rattle.engine_values.specs.declared.found.Found.{Found}
use Rattle.engine_values.specs.declared.selection.Selection.{Selection}
use Rattle.engine_values.specs.declared.selection.Selection.TheVariants as selection
use Rattle.frame_meaning.specs.Acted.{acted}
use Rattle.frame_meaning.specs.Stand.{Stand, at_place}
use Rattle.frames.specs.Depth.{depth}
use Rattle.frames.specs.declared.frame.Frame.{Frame}
use Rattle.frames.specs.declared.frame.Frame.TheVariants as f
use Rattle.frames.specs.declared.parts.Use.TheVariants as use_of
use Rattle.frames.specs.declared.parts.Work.{Work}
use Rattle.frames.specs.declared.parts.Work.TheVariants as work
use Rattle.sheet_ast.specs.declared.instruction.Instruction.{Instruction}
use Rattle.sheet_ast.specs.declared.instruction.Instruction.TheOpen.{Instruction-F}
use Rattle.sheet_ast.specs.declared.instruction.SortDecl.{SortDecl}
use Rattle.sheet_ast.specs.declared.instruction.Variable.{Variable, out-Variable}
use Rattle.xpath_laws.specs.Sound.{Each, IsContext}
use Rattle.xpath_meaning.specs.declared.stop.EvalStop.{EvalStop}
use Rattle.xpath_meaning.specs.declared.stop.EvalStop.TheVariants.{NotYet, Fault, Memory}
use Rattle.xpath_syntax.specs.declared.expression.Expr.{Expr}
use Rattle.xpath_values.specs.declared.value.Value.{Value}

module _ {S : Type 0} (z : Scene S) (before later : List Step) (m : Core S) (others : Bor (List Instruction)) (kept : ℕ) where
  -- xsl:for-each

  module _ (select : Bor Expr) (sorts : Bor (List SortDecl)) (body : Bor (List Instruction)) where
    abbrev pub each_item : Left
    each_item u = acted m.sheet.now u (Instruction-F.ForEach select.now sorts.now (map does body.now)) others kept m.frames (stand_of m) (state_in m)

    for_each_stopped : (B : Type 0) (load : ℕ) (e : EvalStop) → FindsSelection z before later m select sorts (Err e) → Tries {A = B} z before later each_item load m m (Err e)
    for_each_stopped B load (Fault k) h = for_each_as m others kept select.now sorts.now body (world_at z later) (Faulted k (state_in m)) (h (work.ByBody body) (most_nested - depth m.frames) (state_in m))
    for_each_stopped B load (NotYet n) h = record {
      same = refl;
      waits = (
        h.0,
        h.1,
        h.2,
        for_each_as m others kept select.now sorts.now body (world_at z h.0) (Waits n (state_in m)) (h.3 (work.ByBody body) (most_nested - depth m.frames) (state_in m)),
      );
    }
    for_each_stopped B load Memory h = tt

    pub for_each_stops : {B : Type 0} (load : ℕ) (e : EvalStop) (r : Result B EvalStop) → FindsSelection z before later m select sorts (Err e) → IsErrAnd r (λ x. x ≡ e)
        → Tries z before later each_item load m m r
    for_each_stops load e (Ok x) h is = absurd is
    for_each_stops {B} load e (Err x) h is = subst (λ x. Tries {A = B} z before later each_item load m m (Err x)) (sym is) (for_each_stopped B load e h)

    abbrev doing : Work
    doing = work.ByBody body

    whole_light : (nodes : List ℕ) (l : List SortDecl) → length nodes < 4294967296 → weight_of (whole_frame nodes sorts l doing m.context) ≤ 21474836482
    whole_light nodes [] few = omega (arith, few)
    whole_light nodes (sort ∷ l) few = omega (arith, few)

    pub select_light : (found : Selection S) → SelectionThere z later m select.now found → weight_of (select_frame found select sorts doing m.context) ≤ 21474836482
    select_light (selection.Stream stream) t = omega arith
    select_light (selection.Nodes nodes) t = whole_light nodes sorts.now t.1

    module _ (frames : List Frame) (context : IsContext (there z later) m.context) (holds : Holds z later frames (stand_of m) (reverse m.streams)) where
      whole_holds : (nodes : List ℕ) (l : List SortDecl) → Each (there z later) nodes → Holds z later (whole_frame nodes sorts l doing m.context ∷ frames) (stand_of m) (reverse m.streams)
      whole_holds nodes [] t = (t, tt, context, holds)
      whole_holds nodes (sort ∷ l) t = (omega arith, t, tt, context, holds)

      pub select_holds : (found : Selection S) → SelectionThere z later m select.now found
          → Holds z later (select_frame found select sorts doing m.context ∷ frames) (stand_of m) (reverse (m.streams ++ streams_in found))
      select_holds (selection.Stream stream) t =
          subst (Holds z later (f.Stream (Some select) 0 doing m.context ∷ frames) (stand_of m)) (sym (reverse-append m.streams (stream ∷ []))) (tt, context, (t.0, t.1, holds))
      select_holds (selection.Nodes nodes) t =
          subst (λ streams. Holds z later (whole_frame nodes sorts sorts.now doing m.context ∷ frames) (stand_of m) (reverse streams)) (sym (append-nil m.streams)) (whole_holds nodes sorts.now t.0)

  -- xsl:variable

  module _ (v : Variable) where
    abbrev pub variable_left : Left
    variable_left u = acted m.sheet.now u (Instruction-F.Local (binding_of v)) others kept m.frames (stand_of m) (state_in m)

    local_stopped : (B : Type 0) (load : ℕ) (e : EvalStop) → FindsValue z before later m (out-Variable v).value (Err e) → Tries {A = B} z before later variable_left load m m (Err e)
    local_stopped B load (Fault k) h = local_gives m others kept v (world_at z later) ∙ h (f.Body others false kept ∷ m.frames) (state_in m) use_of.Local
    local_stopped B load (NotYet n) h = record {
      same = refl;
      waits = (h.0, h.1, h.2, local_gives m others kept v (world_at z h.0) ∙ h.3 (f.Body others false kept ∷ m.frames) (state_in m) use_of.Local);
    }
    local_stopped B load Memory h = tt

    pub local_stops : {B : Type 0} (load : ℕ) (e : EvalStop) (r : Result B EvalStop) → FindsValue z before later m (out-Variable v).value (Err e) → IsErrAnd r (λ x. x ≡ e)
        → Tries z before later variable_left load m m r
    local_stops load e (Ok x) h is = absurd is
    local_stops {B} load e (Err x) h is = subst (λ x. Tries {A = B} z before later variable_left load m m (Err x)) (sym is) (local_stopped B load e h)

    -- the others of the body, below which comes what the value is used for
    abbrev pub pushed : Core S
    pushed = record m { frames = f.Body others false kept ∷ m.frames }

    pub local_given : {A : Type 0} (found : Found) (new : Core S) (r : Result A EvalStop) → IsLawful later → IsFound z later m (out-Variable v).value found
        → Does z later (λ u. with_found found m.sheet.now u pushed.frames (stand_of m) (state_in m) use_of.Local) 3 pushed new r → Tries z before later variable_left 73786976294838206464 m new r
    local_given found new (Ok x) lawful h d = record {
      sheet = d.sheet;
      left = λ u y. local_gives m others kept v u ∙ h.left pushed.frames (state_in m) use_of.Local u y ∙ d.left u y;
      lighter = omega (arith, d.lighter);
      sound = d.sound;
    }
    local_given found new (Err (Fault k)) lawful h d =
        local_gives m others kept v (world_at z later)
        ∙ h.left pushed.frames (state_in m) use_of.Local (world_at z later) (world_goes_on z.lookups z.rules later later (Grows-refl later) lawful)
        ∙ d
    local_given found new (Err (NotYet n)) lawful h d = absurd d
    local_given found new (Err Memory) lawful h d = tt

-- one more local leaves what the others of a body stand on
pub local_holds : {S : Type 0} (z : Scene S) (steps : List Step) (others : Bor (List Instruction)) (kept : ℕ) (frames : List Frame) (h : Stand) (streams : List S)
    → Holds z steps (f.Body others false kept ∷ frames) h streams
    → (value : Value) → Holds z steps (f.Body others false kept ∷ frames) (at_place h h.place.context (h.place.locals ++ value ∷ [])) streams
local_holds z steps others kept frames h streams k value =
    let longer : length (h.place.locals ++ value ∷ []) ≡ length h.place.locals + 1 = length-append h.place.locals (value ∷ []) in
    let few : kept ≤ length h.place.locals = k.0 in
    (omega (arith, few, longer), subst (λ locals. Holds z steps frames (at_place h h.place.context locals) streams) (sym (take-append-le kept h.place.locals (value ∷ []) k.0)) k.1)
