use Rattle.edge.proofs.PlaceLemmas.{bytes_at}
use Rattle.edge.proofs.memory_drawer.MemoryDrawer.bytes.Goals as goal

pub returns : goal.returns
returns c = let inside = rw (← c.self.view_is) at c.requires in rw (← c.self.view_is, c.deref.ensures.value) (bytes_at _ _ _ _ inside c.index-place.ensures)
