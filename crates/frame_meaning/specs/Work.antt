-- What each frame does.
use Rattle.std.specs.Prelude.{ℕ, suc, List, [], ◌∷◌, ◌++◌, drop, length, map, take, Bool, true, false, Option, Some, None}
use Rattle.std.specs.Borrow.{Bor}
use Rattle.engine_meaning.specs.Execution.{InMode, Templates, Action, Giving, Binding, Case, acts, attributes_in, binding_of, body_does, case_of}
use Rattle.engine_meaning.specs.Execution.{chosen_case, copies_in, does, giving_of, templates, within}
use Rattle.engine_meaning.specs.Items.{AtItem, children_by, each, over}
use Rattle.engine_meaning.specs.Places.{World, Setting, place}
use Rattle.engine_meaning.specs.Runs.{Run, ◌>>=◌, ◌>>◌, pure, ask, emit, with_events}
use Rattle.engine_meaning.specs.Sorts.{rows_from, in_key_order}
use Rattle.engine_questions.specs.Walks.{flow, select_of}
use Rattle.frame_meaning.specs.Stand.{Stand, at_place, setting_at}
use Rattle.frame_meaning.specs.Uses.{at_root, declares, givens, globals_left, passes, receives}
use Rattle.frames.specs.declared.frame.Frame.{Frame}
use Rattle.frames.specs.declared.frame.Frame.TheVariants as f
use Rattle.frames.specs.declared.parts.Work.{Work}
use Rattle.frames.specs.declared.parts.Work.TheVariants as work
use Rattle.result_events.specs.declared.event.ResultEvent.TheVariants as event
use Rattle.sheet_ast.specs.declared.instruction.Instruction.{Instruction, out-Instruction}
use Rattle.sheet_ast.specs.declared.instruction.Instruction.TheOpen.{Instruction-F}
use Rattle.sheet_ast.specs.declared.instruction.Instruction.TheFolds.{map-Instruction}
use Rattle.sheet_ast.specs.declared.instruction.Variable.{Variable}
use Rattle.sheet_ast.specs.declared.instruction.VarValue.{VarValue}
use Rattle.sheet_ast.specs.declared.instruction.When.{When}
use Rattle.sheet_ast.specs.declared.sheet.Sheet.{Sheet}
use Rattle.xpath_meaning.specs.Streams.{Whole}
use Rattle.xpath_meaning.specs.declared.context.Size.TheVariants as size
use Rattle.xpath_values.specs.declared.value.Value.{Value}

-- an instruction, with what those in it do in their place
abbrev pub layer : Instruction → Instruction-F Action Giving Binding Case
layer i = map-Instruction Instruction VarValue Variable When Action Giving Binding Case does giving_of binding_of case_of (out-Instruction i)

-- the instructions of a body; where it is begun, the first has its unit
abbrev pub left_does : Bool → List Instruction → Action
left_does false is W t c = body_does is W t c
left_does true [] W t c = pure c.locals
left_does true (i ∷ is) W t c = acts (layer i) W t c >>= λ locals. body_does is W t (place c.context locals)

abbrev pub bodies_of : Option (Bor (List Instruction)) → Option (List Action)
bodies_of None = None
bodies_of (Some body) = Some (map does body.now)

-- what is done at an item, where these are the locals
abbrev pub work_does : Work → Setting → Templates → List Value → AtItem
work_does (work.ByMode mode given) W t locals x = t (InMode mode) (givens given) x
work_does (work.ByBody body) W t locals x = within (map does body.now) W t (place x locals)

-- what a frame does where templates may be nested so much deeper: a run, which gives where it leaves off
abbrev pub frame_does : Frame → Sheet → World → ℕ → Stand → Run Stand
frame_does (f.Template locals context) sheet w more h = pure (at_place h context locals)
frame_does (f.Body rest begun locals) sheet w more h =
    left_does begun rest.now (setting_at sheet w h) (templates more (setting_at sheet w h)) h.place >>= λ after_it. pure (at_place h h.place.context (take locals after_it))
frame_does f.Close sheet w more h = emit event.End >> pure h
frame_does (f.Literal attributes body) sheet w more h =
    attributes_in attributes.now (setting_at sheet w h) h.place >> within (map does body.now) (setting_at sheet w h) (templates more (setting_at sheet w h)) h.place >> emit event.End >> pure h
frame_does (f.Whens whens otherwise) sheet w more h =
    chosen_case (map case_of whens.now) (bodies_of otherwise) (setting_at sheet w h) (templates more (setting_at sheet w h)) h.place >> pure h
frame_does (f.Params p) sheet w more h = passes p.call p.left.now (givens p.given) (setting_at sheet w h) (templates more (setting_at sheet w h)) h.place >> pure h
frame_does (f.Choose mode given) sheet w more h = templates more (setting_at sheet w h) (InMode mode) (givens given) h.place.context >> pure h
frame_does (f.Declared d) sheet w more h =
    declares d.begun d.left.now (givens d.given) d.body.now (setting_at sheet w h) (templates more (setting_at sheet w h)) h.place >> pure (at_place h h.place.context [])
frame_does (f.Stream select taken k context) sheet w more h =
    each (work_does k (setting_at sheet w h) (templates more (setting_at sheet w h)) h.place.locals) size.Unasked (suc taken)
    (drop taken (flow (select_of select) w.reading (h.globals ++ h.place.locals) context).items) (flow (select_of select) w.reading (h.globals ++ h.place.locals) context).ending
    >> pure (at_place h context h.place.locals)
frame_does (f.Items nodes next k context) sheet w more h =
    each (work_does k (setting_at sheet w h) (templates more (setting_at sheet w h)) h.place.locals) (size.Known (length nodes)) (suc next) (drop next nodes) Whole
    >> pure (at_place h context h.place.locals)
frame_does (f.Children mode) sheet w more h = children_by true (setting_at sheet w h) h.place.context.node (templates more (setting_at sheet w h) (InMode mode) []) >> pure h
frame_does (f.Keys nodes rows sorts k context) sheet w more h =
    (ask (rows_from (setting_at sheet w h) h.place sorts.now (size.Known (length nodes)) (suc (length rows)) (drop (length rows) nodes))
    >>= λ others. over (work_does k (setting_at sheet w h) (templates more (setting_at sheet w h)) h.place.locals) (in_key_order sorts.now nodes (rows ++ others)))
    >> pure (at_place h context h.place.locals)
frame_does (f.Copies nodes next) sheet w more h = copies_in w (drop next nodes) >> pure h
frame_does (f.Apart outer purpose) sheet w more h = λ s. receives purpose s.events sheet w more h (with_events s outer)
frame_does (f.Globals left begun) sheet w more h = globals_left begun left.now sheet w h.globals >>= λ globals. pure (at_root globals)
