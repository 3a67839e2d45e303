-- A template that was chosen is instantiated.
use Rattle.std.specs.Prelude.{ℕ, zero, suc, List, Option}
use Rattle.engine_meaning.specs.Execution.{Called, template_does, templates}
use Rattle.engine_meaning.specs.Places.{Setting, Given}
use Rattle.engine_meaning.specs.Runs.{Run, ◌>>◌, fail, spend}
use Rattle.fault_kinds.specs.declared.fault.FaultKind.TheVariants.{TooDeep}
use Rattle.xpath_meaning.specs.declared.context.Context.{Context}

-- where so many more may be nested: TooDeep, where none may; a unit; and then what the template does
abbrev pub opened : ℕ → Setting → Called → List Given → Context → Option ℕ → Run (Unit {0})
opened zero W called given x template = fail TooDeep
opened (suc more) W called given x template = spend >> template_does template called given W (templates more W) x
