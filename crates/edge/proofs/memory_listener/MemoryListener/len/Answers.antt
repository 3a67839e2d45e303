use Rattle.std.proofs.Common.{◌≡◌, length, sym, ap, ◌∙◌, arith}
use Rattle.edge.proofs.HeardLemmas.{length_messages}
use Rattle.edge.proofs.memory_listener.MemoryListener.len.Goals as goal

pub returns : goal.returns
returns c =
    let kept : c.len.result ≡ length c.self.inside.sheets.items = omega arith in
    kept ∙ sym (length_messages c.self.inside.sheets.items c.self.inside.lines.puts c.self.invariant.0) ∙ ap (λ listener. length listener.heard) c.self.view_is
