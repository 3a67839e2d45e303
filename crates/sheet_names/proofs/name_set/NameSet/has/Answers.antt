use Rattle.std.proofs.Common.{ap, ◌∙◌}
use Rattle.std.specs.List.{list_any}
use Rattle.sheet_names.specs.contracts.name_set.ExpandedNamePartialEq.TheImpl.{eq-value}
use Rattle.sheet_names.specs.Keys.{name_of_key}
use Rattle.sheet_names.specs.Names.{expanded, same_name}
use Rattle.sheet_names.proofs.Keys.{same_key}
use Rattle.sheet_names.proofs.Lists.{any_stands}
use Rattle.sheet_names.proofs.name_set.NameSet.has.Goals as goal

pub returns : goal.returns
returns c =
    c.contains.ensures
    ∙ any_stands name_of_key (eq-value.it c.in_ok-key.key) (same_name (expanded c.args.name.now)) (same_key c.in_ok-key.key (expanded c.args.name.now) c.in_ok-key.ensures)
    c.self.inside.names.keys
    ∙ ap (list_any (same_name (expanded c.args.name.now))) c.self.view_is
