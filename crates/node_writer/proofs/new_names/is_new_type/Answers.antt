use Rattle.std.proofs.Common.{◌∙◌, sym}
use Rattle.node_writer.proofs.Knowing.{named_new}
use Rattle.node_writer.proofs.new_names.is_new_type.Goals as goal

pub returns-then-has_name : goal.returns-then-has_name
returns-then-has_name c names h = named_new names c.args.row.now c.args.found c.is_none.result c.is_none.ensures h (sym c.has_name.ensures ∙ c.if-has_name.true)
