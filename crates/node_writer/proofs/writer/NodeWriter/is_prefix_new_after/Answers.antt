use Rattle.std.proofs.Common.{◌∷◌}
use Rattle.doc_model.specs.Rows.{rows_of}
use Rattle.node_writer.proofs.Adding.{prefix_still_new, prefix_not_new}
use Rattle.node_writer.proofs.writer.NodeWriter.is_prefix_new_after.Goals as goal

pub returns-then-is_new_prefix : goal.returns-then-is_new_prefix
returns-then-is_new_prefix c limits cells s =
    prefix_still_new (rows_of cells.steps) (c.args.element.now ∷ c.args.attributes.now) c.args.row.now c.is_new_prefix.result c.has_prefix.result
    (c.is_new_prefix.ensures limits cells s) c.has_prefix.ensures c.if-is_new_prefix.true

pub returns-else-is_new_prefix : goal.returns-else-is_new_prefix
returns-else-is_new_prefix c limits cells s =
    prefix_not_new (rows_of cells.steps) (c.args.element.now ∷ c.args.attributes.now) c.args.row.now c.is_new_prefix.result (c.is_new_prefix.ensures limits cells s) c.if-is_new_prefix.false
