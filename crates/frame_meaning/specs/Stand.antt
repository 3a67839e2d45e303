-- Where a transformation stands.
use Rattle.std.specs.Prelude.{List}
use Rattle.engine_meaning.specs.Places.{World, Setting, setting, Place, place}
use Rattle.sheet_ast.specs.declared.sheet.Sheet.{Sheet}
use Rattle.xpath_meaning.specs.declared.context.Context.{Context}
use Rattle.xpath_values.specs.declared.value.Value.{Value}

-- the values of the globals, the context, and the values of the locals
pub record Stand : Type 0 where
  pub globals : List Value
  pub place : Place

abbrev pub stand : List Value → Place → Stand
stand globals place = record { globals = globals; place = place }

-- the same globals, at another place
abbrev pub at_place : Stand → Context → List Value → Stand
at_place h context locals = stand h.globals (place context locals)

abbrev pub setting_at : Sheet → World → Stand → Setting
setting_at sheet w h = setting sheet w h.globals
