use Rattle.std.proofs.Common.{ap, ◌∙◌}
use Rattle.std.specs.Prelude.{position}
use Rattle.sheet_names.specs.contracts.name_set.ExpandedNamePartialEq.TheImpl.{eq-value}
use Rattle.sheet_names.specs.Keys.{name_of_key}
use Rattle.sheet_names.specs.Names.{expanded, same_name}
use Rattle.sheet_names.proofs.Keys.{same_key}
use Rattle.sheet_names.proofs.Lists.{place_stands}
use Rattle.sheet_names.proofs.name_set.NameSet.place_of.Goals as goal

pub returns : goal.returns
returns c =
    c.get_index_of.ensures.index
    ∙ place_stands name_of_key (eq-value.it c.in_ok-key.key) (same_name (expanded c.args.name.now)) (same_key c.in_ok-key.key (expanded c.args.name.now) c.in_ok-key.ensures)
    c.self.inside.names.keys
    ∙ ap (position (same_name (expanded c.args.name.now))) c.self.view_is
