use Rattle.std.proofs.Common.{◌≡◌, Some, arith}
use Rattle.std.specs.Prelude.{None}
use Rattle.std.proofs.lemmas.Grind.{common_steps}
use Rattle.edge.proofs.PairLemmas.{named}
use Rattle.edge.proofs.memory_shelf.MemoryShelfShelf.fetch.Goals as goal

pub returns-in_default-clause-found : goal.returns-in_default-clause-found
returns-in_default-clause-found c =
    let found = rw (c.in_default.is, c.deref.ensures.value) at c.find_named.ensures in
    rw (← c.self.view_is) (named c.args.name.now c.self.inside.pairs.items None found)

pub returns-clause-found : goal.returns-clause-found
returns-clause-found c =
    let found = rw (c.in-Some.is, c.deref.ensures.value) at c.find_named.ensures in
    let copied : c.in_ok-bytes.bytes.items ≡ c.in-Some.pair.now.bytes.items = grind (arith, common_steps) in
    rw (← c.self.view_is, copied) (named c.args.name.now c.self.inside.pairs.items (Some c.in-Some.pair.now) found)
