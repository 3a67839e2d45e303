-- What a stylesheet needs so that it can run.
use Rattle.std.specs.Prelude.{◌≡◌, true, []}
use Rattle.doc_model.specs.Strip.{all_spelled}
use Rattle.engine_meaning.specs.Meaning.{strip_rules_of}
use Rattle.sheet_ast.specs.declared.sheet.Sheet.{Sheet}
use Rattle.sheet_compile.specs.Joining.{HasOrder}

-- its globals can be evaluated in an order, nothing has to be found by a key, and a view can be laid under its rules for whitespace
pub record CanRun (sheet : Sheet) : Type 0 where
  pub ordered : HasOrder sheet
  pub keyless : sheet.keys ≡ []
  pub spelled : all_spelled (strip_rules_of sheet) ≡ true
