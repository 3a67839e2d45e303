-- The stylesheet that bytes are, or the first fault.
use Rattle.std.specs.Prelude.{ℕ, List, [], Result, Ok, Err}
use Rattle.sheet_ast.specs.declared.sheet.Sheet.{Sheet}
use Rattle.sheet_reading.specs.declared.tree.Item.{Item}
use Rattle.sheet_reading.specs.Judgement.{◌>>=◌, Judgement}
use Rattle.sheet_compile.specs.declared.modules.Module.{Module}
use Rattle.sheet_compile.specs.declared.stop.CompileStop.{CompileStop}
use Rattle.sheet_compile.specs.Joining.{JoinsAs, sheet_from}
use Rattle.sheet_compile.specs.Modules.{module_of, top_level}

-- the first fault of the lines, of an element by itself, or of a name, or else the stylesheet
unfoldable pub sheet_or_fault : List ℕ → Judgement Sheet
sheet_or_fault bytes = do
  m ← module_of bytes
  sheet_from (top_level m) m.scopes

-- the elements of the source; none where it has a fault
abbrev pub items_in : Judgement Module → List Item
items_in (Ok m) = top_level m
items_in (Err f) = []

-- what is answered of bytes: a stylesheet whose globals have an order, or the first fault, of which a circle of globals comes last
abbrev pub Compiles : List ℕ → Result Sheet CompileStop → Type 0
Compiles bytes result = JoinsAs (sheet_or_fault bytes) (items_in (module_of bytes)) result
