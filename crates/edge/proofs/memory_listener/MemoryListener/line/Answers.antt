use Rattle.std.proofs.Common.{ℕ, List, map, length, sym, ap, ◌∙◌, arith}
use Rattle.std.specs.Prelude.{slice_get}
use Rattle.edge.proofs.HeardLemmas.{length_messages, lines_of}
use Rattle.edge.proofs.memory_listener.MemoryListener.line.Goals as goal

pub bytes-requires : goal.bytes-requires
bytes-requires c =
    omega (arith, c.requires, ap (λ listener. length listener.heard) c.self.view_is, length_messages c.self.inside.sheets.items c.self.inside.lines.puts c.self.invariant.0, c.self.invariant.0)

pub returns : goal.returns
returns c =
    ap (λ listener. slice_get (map (λ (message : ℕ × List ℕ). message.1) listener.heard) c.args.index) (sym c.self.view_is)
    ∙ ap (λ lines. slice_get lines c.args.index) (lines_of c.self.inside.sheets.items c.self.inside.lines.puts c.self.invariant.0)
    ∙ c.bytes.ensures
