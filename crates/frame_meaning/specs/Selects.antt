-- What a select does at its items.
use Rattle.std.specs.Prelude.{ℕ, List}
use Rattle.engine_meaning.specs.Execution.{templates}
use Rattle.engine_meaning.specs.Items.{selected}
use Rattle.engine_meaning.specs.Places.{World}
use Rattle.engine_meaning.specs.Runs.{Run, ◌>>◌, pure}
use Rattle.frame_meaning.specs.Stand.{Stand, setting_at}
use Rattle.frame_meaning.specs.Work.{work_does}
use Rattle.frames.specs.declared.parts.Work.{Work}
use Rattle.sheet_ast.specs.declared.instruction.SortDecl.{SortDecl}
use Rattle.sheet_ast.specs.declared.sheet.Sheet.{Sheet}
use Rattle.xpath_syntax.specs.declared.expression.Expr.{Expr}

-- the work at the items of a select, in their order, where templates may be nested so much deeper; it leaves off where it began
abbrev pub selects : Sheet → World → Stand → Expr → List SortDecl → Work → ℕ → Run Stand
selects sheet w h select sorts k more = selected (setting_at sheet w h) h.place select sorts (work_does k (setting_at sheet w h) (templates more (setting_at sheet w h)) h.place.locals) >> pure h
