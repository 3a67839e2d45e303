-- Where instructions are executed.
use Rattle.std.specs.Prelude.{ℕ, List, [], ◌∷◌, ◌++◌, if◌then◌else◌, Option, Some, None}
use Rattle.result_events.specs.declared.event.ResultEvent.{ResultEvent}
use Rattle.sheet_ast.specs.declared.sheet.Sheet.{Sheet}
use Rattle.xpath_syntax.specs.declared.expression.NameRef.{NameRef}
use Rattle.xpath_values.specs.declared.value.Value.{Value}
use Rattle.xpath_meaning.specs.declared.context.Context.{Context}
use Rattle.xpath_meaning.specs.declared.context.Size.{Size}
use Rattle.xpath_meaning.specs.Keys.{same_name}
use Rattle.xpath_meaning.specs.Outcome.{Outcome}
use Rattle.xpath_meaning.specs.Reading.{Reading}

-- what instructions see of a document that may still grow: what expressions read, and the copy of each node
pub record World : Type 0 where
  pub reading : Reading
  pub copy : ℕ → Outcome (List ResultEvent)

-- what stays as it is while instructions are executed: the stylesheet, what is seen of the document, and the values of the globals
pub record Setting : Type 0 where
  pub sheet : Sheet
  pub world : World
  pub globals : List Value

abbrev pub setting : Sheet → World → List Value → Setting
setting sheet world globals = record { sheet = sheet; world = world; globals = globals }

-- where an instruction is executed: its context, and the values of the locals in scope, the innermost last
pub record Place : Type 0 where
  pub context : Context
  pub locals : List Value

abbrev pub place : Context → List Value → Place
place context locals = record { context = context; locals = locals }

-- one more local
abbrev pub with_local : Place → Value → Place
with_local c value = place c.context (c.locals ++ value ∷ [])

-- the values of variables by their slots: globals first
abbrev pub values_at : Setting → Place → List Value
values_at W c = W.globals ++ c.locals

-- an item of a list, which is the current node (XSLT 1.0, sections 5.4 and 8)
abbrev pub at_item : Size → ℕ → ℕ → Context
at_item size position n = record { node = n; position = position; size = size; current = n }

-- a value that is handed on to a template (XSLT 1.0, section 11.6)
pub record Given : Type 0 where
  pub name : NameRef
  pub value : Value

abbrev pub or_later : Option Value → Given → NameRef → Option Value
or_later (Some later) given name = Some later
or_later None given name = if same_name given.name name then Some given.value else None

-- the value that is handed on under a name: of several the last
abbrev pub given_as : NameRef → List Given → Option Value
given_as name [] = None
given_as name (given ∷ more) = or_later (given_as name more) given name
