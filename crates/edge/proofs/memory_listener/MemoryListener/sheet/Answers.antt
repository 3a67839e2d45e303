use Rattle.std.proofs.Common.{◌<◌, ℕ, List, map, length, refl, sym, ap, ◌∙◌, arith}
use Rattle.std.specs.Prelude.{slice_get}
use Rattle.std.proofs.lemmas.Option.{slice_get_read}
use Rattle.edge.proofs.HeardLemmas.{length_messages, sheets_of}
use Rattle.edge.proofs.memory_listener.MemoryListener.sheet.Goals as goal

pub index-requires : goal.index-requires
index-requires c =
    omega (arith, c.requires, ap (λ listener. length listener.heard) c.self.view_is, length_messages c.self.inside.sheets.items c.self.inside.lines.puts c.self.invariant.0)

pub returns : goal.returns
returns c =
    let sheets = c.self.inside.sheets.items in
    let within : c.args.index < length sheets =
    omega (arith, c.requires, ap (λ listener. length listener.heard) c.self.view_is, length_messages sheets c.self.inside.lines.puts c.self.invariant.0) in
    ap (λ listener. slice_get (map (λ (message : ℕ × List ℕ). message.0) listener.heard) c.args.index) (sym c.self.view_is)
    ∙ ap (λ all. slice_get all c.args.index) (sheets_of sheets c.self.inside.lines.puts c.self.invariant.0)
    ∙ slice_get_read sheets (length sheets) c.args.index c.index.result.now refl within c.index.ensures
