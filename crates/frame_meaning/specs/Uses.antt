-- What is done with values and events.
use Rattle.std.specs.Prelude.{ℕ, List, [], ◌∷◌, ◌++◌, map, Bool, true, false, Option, Some, None, slice_get, slice_set}
use Rattle.engine_meaning.specs.Events.{outer_text}
use Rattle.engine_meaning.specs.Execution.{InMode, Named, Templates, Binding, binding_of, does, giving_of, handed, or_own, params_in, templates, terminated, within, most_nested}
use Rattle.engine_meaning.specs.Items.{selected}
use Rattle.engine_meaning.specs.Meaning.{globals_in}
use Rattle.engine_meaning.specs.Places.{World, Setting, setting, Place, place, with_local, Given, given_as}
use Rattle.engine_meaning.specs.Runs.{Run, ◌>>=◌, ◌>>◌, pure, emit, tell}
use Rattle.frame_meaning.specs.Stand.{Stand, stand, at_place, setting_at}
use Rattle.frames.specs.declared.parts.Call.{Call}
use Rattle.frames.specs.declared.parts.Call.TheVariants as call
use Rattle.frames.specs.declared.parts.Handed.{Handed}
use Rattle.frames.specs.declared.parts.Purpose.{Purpose}
use Rattle.frames.specs.declared.parts.Purpose.TheVariants as purpose
use Rattle.frames.specs.declared.parts.Use.{Use}
use Rattle.frames.specs.declared.parts.Use.TheVariants as use_of
use Rattle.result_events.specs.declared.event.ResultEvent.{ResultEvent}
use Rattle.result_events.specs.declared.event.ResultEvent.TheVariants as event
use Rattle.sheet_ast.specs.declared.instruction.Instruction.{Instruction}
use Rattle.sheet_ast.specs.declared.instruction.Variable.{Variable}
use Rattle.sheet_ast.specs.declared.sheet.Global.{Global}
use Rattle.sheet_ast.specs.declared.sheet.Sheet.{Sheet}
use Rattle.xpath_meaning.specs.Keys.{alone}
use Rattle.xpath_values.specs.Fragments as fragments
use Rattle.xpath_values.specs.declared.value.Value.{Value}
use Rattle.xpath_values.specs.declared.value.Value.TheVariants.{Fragment}

abbrev pub given_of : Handed → Given
given_of handed = record { name = handed.name.now; value = handed.value }

abbrev pub givens : List Handed → List Given
givens given = map given_of given

-- values are handed on: to the templates of the items of a select, or to one template
abbrev pub calls : Call → List Given → Setting → Templates → Place → Run (Unit {0})
calls (call.Apply select mode sorts) given W t c = selected W c select.now sorts.now (t (InMode mode) given)
calls (call.Template template) given W t c = t (Named template) given c.context

-- those that are left are evaluated first, behind these
abbrev pub passes : Call → List Variable → List Given → Setting → Templates → Place → Run (Unit {0})
passes to left given W t c = handed (map binding_of left) W t c >>= λ more. calls to (given ++ more) W t c

-- the parameters of a template; where it is begun, the first has its unit
abbrev pub params_left : Bool → List Binding → List Given → Setting → Templates → Place → Run (List Value)
params_left false bs given W t c = params_in bs given W t c
params_left true [] given W t c = pure c.locals
params_left true (p ∷ ps) given W t c = or_own (given_as p.name given) (p.value W t c) >>= λ value. params_in ps given W t (with_local c value)

-- the parameters of a template, and its body behind them
abbrev pub declares : Bool → List Variable → List Given → List Instruction → Setting → Templates → Place → Run (Unit {0})
declares begun left given body W t c = params_left begun (map binding_of left) given W t c >>= λ locals. within (map does body) W t (place c.context locals)

abbrev pub begun_global : Sheet → World → Option Global → ℕ → List Value → Run (List Value)
begun_global sheet w None at values = pure values
begun_global sheet w (Some global) at values =
    giving_of global.value (setting sheet w values) (templates most_nested (setting sheet w values)) (place (alone 0) []) >>= λ value. pure (slice_set values at value)

-- the globals at these places; where it is begun, the first has its unit
abbrev pub globals_left : Bool → List ℕ → Sheet → World → List Value → Run (List Value)
globals_left false order sheet w values = globals_in sheet w order values
globals_left true [] sheet w values = pure values
globals_left true (at ∷ order) sheet w values = begun_global sheet w (slice_get sheet.globals at) at values >>= λ later. globals_in sheet w order later

-- behind the globals the context is the root, without locals
abbrev pub at_root : List Value → Stand
at_root globals = stand globals (place (alone 0) [])

-- what is done with the value of a variable, where templates may be nested so much deeper
abbrev pub used : Use → Value → Sheet → World → ℕ → Stand → Run Stand
used use_of.Local value sheet w more h = pure (at_place h h.place.context (h.place.locals ++ value ∷ []))
used (use_of.Handed name p) value sheet w more h =
    passes p.call p.left.now (givens p.given ++ record { name = name.now; value = value } ∷ []) (setting_at sheet w h) (templates more (setting_at sheet w h)) h.place >> pure h
used (use_of.Declared d) value sheet w more h =
    declares false d.left.now (givens d.given) d.body.now (setting_at sheet w h) (templates more (setting_at sheet w h)) (with_local h.place value) >> pure (at_place h h.place.context [])
used (use_of.Global at left) value sheet w more h = globals_in sheet w left.now (slice_set h.globals at value) >>= λ globals. pure (at_root globals)

-- what is done with the events of a body that was run apart
abbrev pub receives : Purpose → List ResultEvent → Sheet → World → ℕ → Stand → Run Stand
receives (purpose.Value u) made sheet w more h = used u (Fragment made) sheet w more h
receives (purpose.Attribute name) made sheet w more h = emit (event.Attr name (outer_text made)) >> pure h
receives (purpose.Processing target) made sheet w more h = emit (event.Instruction target (outer_text made)) >> pure h
receives purpose.Comment made sheet w more h = emit (event.Comment (outer_text made)) >> pure h
receives (purpose.Message terminate) made sheet w more h = tell (fragments.text_of made) >> terminated terminate >> pure h
