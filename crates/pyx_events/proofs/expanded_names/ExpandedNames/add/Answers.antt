use Rattle.std.proofs.Common.{◌||◌, not, ℕ, List, ap, ◌∙◌}
use Rattle.std.specs.List.{list_any}
use Rattle.std.specs.Prelude.{◌==◌, ◌&&◌}
use Rattle.std.specs.Str.{bytes_eq}
use Rattle.pyx_events.specs.declared.expanded_names.ExpandedName.{ExpandedName}
use Rattle.pyx_events.proofs.Expanded.{is_name, contained, put}
use Rattle.pyx_events.proofs.expanded_names.ExpandedNames.add.Goals as goal

pub returns-clause-new : goal.returns-clause-new
returns-clause-new c =
    let keys = c.args.self.now.names.keys in
    let key : ExpandedName = record { uri = c.args.uri; local = c.in_ok-local.local } in
    c.in_ok-new.ensures.added ∙ ap not (contained keys key) ∙ ap (λ (text : List ℕ). not (list_any (is_name c.args.uri text) keys)) c.in_ok-local.ensures.items

pub returns-clause-added : goal.returns-clause-added
returns-clause-added c other name =
    let keys = c.args.self.now.names.keys in
    let key : ExpandedName = record { uri = c.args.uri; local = c.in_ok-local.local } in
    ap (λ (all : List ExpandedName). list_any (is_name other name) all) c.in_ok-new.ensures.keys
    ∙ put keys key other name
    ∙ ap (λ (text : List ℕ). (other == c.args.uri && bytes_eq name text) || list_any (is_name other name) keys) c.in_ok-local.ensures.items
