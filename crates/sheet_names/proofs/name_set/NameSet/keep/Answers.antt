use Rattle.std.proofs.Common.{sym, ap, ◌∙◌, map, take}
use Rattle.std.proofs.lemmas.List.{take-map}
use Rattle.sheet_names.specs.Keys.{name_of_key}
use Rattle.sheet_names.proofs.name_set.NameSet.keep.Goals as goal

pub returns : goal.returns
returns c = ap (map name_of_key) c.truncate.ensures.keys ∙ sym (take-map name_of_key c.args.len c.self.inside.names.keys) ∙ ap (take c.args.len) c.self.view_is
