-- Bytes that go from a source to a reader, read by read.
use Rattle.std.proofs.Common.{◌≡◌, ℕ, List, ◌++◌, Option, Some, None, refl, append_assoc}
use Rattle.std.specs.Io.KnownBytes.{Consumes}
use Rattle.pyx_source.specs.Moving.{Moves}

pub moved : (held xs held' ys : List ℕ) → Moves held (Some xs) held' (Some ys) → held ++ xs ≡ held' ++ ys
moved held xs held' ys m = rw (m.added, m.taken, append_assoc held m.bytes ys) refl

consumes_more : (left mid left' : Option (List ℕ)) (bytes more : List ℕ) → Consumes left mid bytes → Consumes mid left' more → Consumes left left' (bytes ++ more)
consumes_more None mid left' bytes more first second = tt
consumes_more (Some xs) None left' bytes more first second = absurd first
consumes_more (Some xs) (Some ys) None bytes more first second = absurd second
consumes_more (Some xs) (Some ys) (Some zs) bytes more first second = rw (first, second, append_assoc bytes more zs) refl

pub moves_more : (held mid held' : List ℕ) (left between left' : Option (List ℕ)) (more : List ℕ) → Moves held left mid between → held' ≡ mid ++ more → Consumes between left' more
    → Moves held left held' left'
moves_more held mid held' left between left' more m added taken = record {
  bytes = m.bytes ++ more;
  added = rw (added, m.added, append_assoc held m.bytes more) refl;
  taken = consumes_more left between left' m.bytes more m.taken taken;
}
