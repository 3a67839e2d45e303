use Rattle.std.proofs.Common.{ap, ◌∙◌, map, List}
use Rattle.sheet_names.specs.contracts.name_set.ExpandedNamePartialEq.TheImpl.{eq-value}
use Rattle.sheet_names.specs.Keys.{name_of_key}
use Rattle.sheet_names.specs.Names.{Name, expanded, with_name}
use Rattle.sheet_names.proofs.Keys.{same_key}
use Rattle.sheet_names.proofs.Lists.{stands_with}
use Rattle.sheet_names.proofs.name_set.NameSet.add.Goals as goal

pub returns : goal.returns
returns c =
    ap (map name_of_key) c.in_ok-insert.ensures.keys
    ∙ stands_with c.in_ok-key.key (expanded c.args.name.now) c.self.inside.names.keys (eq-value.it c.in_ok-key.key) c.in_ok-key.ensures
    (same_key c.in_ok-key.key (expanded c.args.name.now) c.in_ok-key.ensures)
    ∙ ap (λ (names : List Name). with_name names (expanded c.args.name.now)) c.self.view_is
