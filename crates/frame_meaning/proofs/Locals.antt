-- A body only adds locals.
use Rattle.std.proofs.Common.{◌≡◌, refl, sym, ap, ◌∙◌, List, [], ◌∷◌, ◌++◌, append_assoc, append-nil, take, length, true, false}
use Rattle.engine_meaning.specs.Events.{outer_text, name_of}
use Rattle.engine_meaning.specs.Execution.{InMode, Named, Templates, Action, Giving, Binding, Case, acts, attributes_in, body_does, chosen_case}
use Rattle.engine_meaning.specs.Execution.{does, handed, if_true, made_apart, shallow, terminated, value_copied, within}
use Rattle.engine_meaning.specs.Items.{selected}
use Rattle.engine_meaning.specs.Places.{Setting, Place, place}
use Rattle.engine_meaning.specs.Questions.{value_at, text_at, truth_at, name_at, target_at, row_here}
use Rattle.engine_meaning.specs.Runs.{State, Ran, Done, Faulted, Waits, Run, after, ◌>>=◌, ◌>>◌, pure, ask, spend, emit, tell}
use Rattle.frame_meaning.proofs.Layers.{does_is}
use Rattle.frame_meaning.specs.Work.{layer}
use Rattle.result_events.specs.declared.event.ResultEvent.TheVariants as event
use Rattle.sheet_ast.specs.declared.instruction.Instruction.{Instruction}
use Rattle.sheet_ast.specs.declared.instruction.Instruction.TheOpen.{Instruction-F}
use Rattle.xpath_values.specs.Fragments as fragments
use Rattle.xpath_values.specs.declared.value.Value.{Value}

pub record More (ls l : List Value) : Type 0 where
  pub more : List Value
  pub is : l ≡ ls ++ more

abbrev AddsIn : List Value → Ran (List Value) → Type 0
AddsIn ls (Done l t) = More ls l
AddsIn ls (Faulted e t) = Unit {0}
AddsIn ls (Waits m t) = Unit {0}

-- the locals behind a run begin with these
pub record Adds (ls : List Value) (o : Ran (List Value)) : Type 0 where
  pub locals : AddsIn ls o

same : (ls : List Value) (t : State) → Adds ls (Done ls t)
same ls t = record { locals = record { more = []; is = sym (append-nil ls) } }

one_more : (ls : List Value) (v : Value) (t : State) → Adds ls (Done (ls ++ v ∷ []) t)
one_more ls v t = record { locals = record { more = v ∷ []; is = refl } }

-- behind a run that gives no locals
adds_after : {A : Type 0} (ls : List Value) (o : Ran A) (k : A → Run (List Value)) → ((x : A) (t : State) → Adds ls (k x t)) → Adds ls (after o k)
adds_after ls (Done x t) k h = h x t
adds_after ls (Faulted e t) k h = record { locals = tt }
adds_after ls (Waits m t) k h = record { locals = tt }

-- the locals are those before
keeps_locals : {A : Type 0} (ls : List Value) (o : Ran A) → Adds ls (after o (λ _. pure ls))
keeps_locals ls o = adds_after ls o (λ _. pure ls) (λ x t. same ls t)

further : (ls l : List Value) (o : Ran (List Value)) → More ls l → Adds l o → AddsIn ls o
further ls l (Done k t) m a = record { more = m.more ++ a.locals.more; is = a.locals.is ∙ ap (λ x. x ++ a.locals.more) m.is ∙ append_assoc ls m.more a.locals.more }
further ls l (Faulted e t) m a = tt
further ls l (Waits n t) m a = tt

adds_then : (ls : List Value) (o : Ran (List Value)) (k : List Value → Run (List Value)) → Adds ls o → ((l : List Value) (t : State) → Adds l (k l t)) → Adds ls (after o k)
adds_then ls (Done l t) k a h = record { locals = further ls l (k l t) a.locals (h l t) }
adds_then ls (Faulted e t) k a h = record { locals = tt }
adds_then ls (Waits m t) k a h = record { locals = tt }

abbrev Layer : Type 0
Layer = Instruction-F Action Giving Binding Case

pub acts_add : (y : Layer) (W : Setting) (t : Templates) (c : Place) (s : State) → Adds c.locals (acts y W t c s)
acts_add (Instruction-F.LiteralText bytes) W t c s = keeps_locals c.locals (emit (event.Text bytes) s)
acts_add (Instruction-F.LiteralElement name attributes body) W t c s =
    keeps_locals c.locals ((emit (event.Start (name_of name)) >> attributes_in attributes W c >> within body W t c >> emit event.End) s)
acts_add (Instruction-F.ValueOf select) W t c s =
    adds_after c.locals (ask (text_at W c select) s) (λ string. emit (event.Text string) >> pure c.locals) (λ string u. keeps_locals c.locals (emit (event.Text string) u))
acts_add (Instruction-F.CopyOf select) W t c s =
    adds_after c.locals (ask (value_at W c select) s) (λ value. value_copied W.world value >> pure c.locals) (λ value u. keeps_locals c.locals (value_copied W.world value u))
acts_add (Instruction-F.Copy body) W t c s =
    adds_after c.locals (ask (row_here W c) s) (λ row. shallow row.kind row body W t c >> pure c.locals) (λ row u. keeps_locals c.locals (shallow row.kind row body W t c u))
acts_add (Instruction-F.Element name namespace scope body) W t c s =
    adds_after c.locals (ask (name_at W c false name namespace scope) s) (λ found. emit (event.Start found) >> within body W t c >> emit event.End >> pure c.locals)
    (λ found u. keeps_locals c.locals ((emit (event.Start found) >> within body W t c >> emit event.End) u))
acts_add (Instruction-F.Attribute name namespace scope body) W t c s =
    adds_after c.locals (ask (name_at W c true name namespace scope) s) (λ found. made_apart body W t c >>= λ made. emit (event.Attr found (outer_text made)) >> pure c.locals)
    (λ found u. adds_after c.locals (made_apart body W t c u) (λ made. emit (event.Attr found (outer_text made)) >> pure c.locals)
    (λ made z. keeps_locals c.locals (emit (event.Attr found (outer_text made)) z)))
acts_add (Instruction-F.Processing name body) W t c s =
    adds_after c.locals (ask (target_at W c name) s) (λ target. made_apart body W t c >>= λ made. emit (event.Instruction target (outer_text made)) >> pure c.locals)
    (λ target u. adds_after c.locals (made_apart body W t c u) (λ made. emit (event.Instruction target (outer_text made)) >> pure c.locals)
    (λ made z. keeps_locals c.locals (emit (event.Instruction target (outer_text made)) z)))
acts_add (Instruction-F.Comment body) W t c s =
    adds_after c.locals (made_apart body W t c s) (λ made. emit (event.Comment (outer_text made)) >> pure c.locals) (λ made u. keeps_locals c.locals (emit (event.Comment (outer_text made)) u))
acts_add (Instruction-F.Message terminate body) W t c s =
    adds_after c.locals (made_apart body W t c s) (λ made. tell (fragments.text_of made) >> terminated terminate >> pure c.locals)
    (λ made u. keeps_locals c.locals ((tell (fragments.text_of made) >> terminated terminate) u))
acts_add (Instruction-F.If test body) W t c s =
    adds_after c.locals (ask (truth_at W c test) s) (λ holds. if_true holds (within body W t c) >> pure c.locals) (λ holds u. keeps_locals c.locals (if_true holds (within body W t c) u))
acts_add (Instruction-F.Choose whens otherwise) W t c s = keeps_locals c.locals (chosen_case whens otherwise W t c s)
acts_add (Instruction-F.Local variable) W t c s =
    adds_after c.locals (variable.value W t c s) (λ value. pure (c.locals ++ value ∷ [])) (λ value u. one_more c.locals value u)
acts_add (Instruction-F.Apply select mode sorts params) W t c s =
    adds_after c.locals (handed params W t c s) (λ given. selected W c select sorts (t (InMode mode) given) >> pure c.locals)
    (λ given u. keeps_locals c.locals (selected W c select sorts (t (InMode mode) given) u))
acts_add (Instruction-F.ForEach select sorts body) W t c s = keeps_locals c.locals (selected W c select sorts (λ item. within body W t (place item c.locals)) s)
acts_add (Instruction-F.CallTemplate template params) W t c s =
    adds_after c.locals (handed params W t c s) (λ given. t (Named template) given c.context >> pure c.locals) (λ given u. keeps_locals c.locals (t (Named template) given c.context u))

does_add : (i : Instruction) (W : Setting) (t : Templates) (c : Place) (s : State) → Adds c.locals (does i W t c s)
does_add i W t c s = rw (does_is i) (adds_after c.locals (spend s) (λ _. acts (layer i) W t c) (λ x u. acts_add (layer i) W t c u))

pub body_adds : (is : List Instruction) (W : Setting) (t : Templates) (c : Place) (s : State) → Adds c.locals (body_does is W t c s)
body_adds [] W t c s = same c.locals s
body_adds (i ∷ is) W t c s = adds_then c.locals (does i W t c s) _ (does_add i W t c s) (λ l u. body_adds is W t (place c.context l) u)

take_front : (ls more : List Value) → take (length ls) (ls ++ more) ≡ ls
take_front [] more = refl
take_front (x ∷ ls) more = ap (λ l. x ∷ l) (take_front ls more)

pub take_back : (ls l : List Value) → More ls l → take (length ls) l ≡ ls
take_back ls l m = ap (take (length ls)) m.is ∙ take_front ls m.more
