use Rattle.std.proofs.Common.{sym, ap, ◌∙◌}
use Rattle.edge.proofs.HeardLemmas.{none_put, none_heard}
use Rattle.edge.proofs.memory_listener.MemoryListener.is_empty.Goals as goal

pub returns : goal.returns
returns c =
    let seen = ap (λ listener. listener.heard) c.self.view_is in
    let sheets = c.self.inside.sheets.items in
    let puts = c.self.inside.lines.puts in
    (λ so. sym seen ∙ none_put sheets puts (c.is_empty.ensures.0 so), λ none. c.is_empty.ensures.1 (none_heard sheets puts c.self.invariant.0 (seen ∙ none)))
