use Rattle.std.proofs.Common.{ap, ◌∙◌, subst, List}
use Rattle.sheet_reading.specs.declared.tree.Item.{Item}
use Rattle.sheet_compile.specs.Joining.{Joins}
use Rattle.sheet_compile.specs.Modules.{children_of_first}
use Rattle.sheet_compile.proofs.joining.join.Goals as goal

pub returns : goal.returns
returns c = subst (λ (items : List Item). Joins items c.args.source.scopes c.joined.result) (c.children_of_first.ensures ∙ ap children_of_first c.as_slice.ensures) c.joined.ensures
