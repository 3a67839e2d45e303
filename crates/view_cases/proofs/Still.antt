-- What a call on a table that stands still tells of its rows and of a stream.
use Rattle.std.proofs.Common.{◌≡◌, ℕ, ◌≤◌, length, Some, IfSome, sym, subst, arith}
use Rattle.std.specs.Prelude.{⊤}
use Rattle.doc_model.specs.declared.look.Look.{Look}
use Rattle.doc_model.specs.declared.look.Look.TheVariants.{Node, Nothing, NotYet}
use Rattle.doc_model.specs.Cells.{Cells}
use Rattle.doc_model.specs.Lawful.{Grows, IsJoined}
use Rattle.doc_model.specs.Relations.{extent_of}
use Rattle.doc_model.specs.Rows.{rows_of}
use Rattle.doc_model.specs.Shown.{first_shown}
use Rattle.doc_model.specs.View.{Seen, Moves}
use Rattle.doc_laws.proofs.Ends.{extent_le}
use Rattle.doc_laws.proofs.Still.{Grows-antisym}
use Rattle.plain_columns.specs.Seen.{seen_of}
use Rattle.axis_walkers.specs.declared.child_stream.ChildStream.{ChildStream}
use Rattle.axis_walkers.specs.Streams.{IsStream, StandsTo, StreamIs}
use Rattle.axis_walkers.proofs.Facts.{first_is}

steps_stay : (cells : Cells) (u : Seen ⊤) → Moves (seen_of cells) u → u.steps ≡ cells.steps
steps_stay cells u m = Grows-antisym cells.steps u.steps m.grows (subst (λ whole. IfSome whole (λ steps. Grows u.steps steps)) m.whole_stays m.seen.within)

pub extent_within : (cells : Cells) (u : Seen ⊤) (end : ℕ) → Moves (seen_of cells) u → end ≡ extent_of (rows_of u.steps) 0 → end ≤ length (rows_of cells.steps)
extent_within cells u end m e = subst (λ steps. end ≤ length (rows_of steps)) (steps_stay cells u m) (let l = extent_le (rows_of u.steps) 0 (omega arith) in omega (arith, e, l))

pub child_joined : (cells : Cells) (u : Seen ⊤) (n k : ℕ) → Moves (seen_of cells) u → first_shown u.rules (rows_of u.steps) n ≡ Some k → IsJoined cells.steps k
child_joined cells u n k m h = subst (λ steps. IsJoined steps k) (steps_stay cells u m) ((first_is u.rules (rows_of u.steps) n k h).within)

pub stream_stands : (cells : Cells) (u : Seen ⊤) (old new : ChildStream) (look : Look) → Moves (seen_of cells) u → IsStream (seen_of cells) old
    → StreamIs (seen_of cells) u old new look → IsStream (seen_of cells) new
stream_stands cells u old new (Node k) m s h = (
  subst (λ steps. IsJoined steps new.n) (steps_stay cells u m) (h.3.0),
  subst (λ rules. StandsTo rules (rows_of cells.steps) new.n new.last) m.rules_stay (subst (λ steps. StandsTo u.rules (rows_of steps) new.n new.last) (steps_stay cells u m) (h.3.1)),
)
stream_stands cells u old new Nothing m s h = subst (λ stream. IsStream (seen_of cells) stream) (sym (h.2)) s
stream_stands cells u old new NotYet m s h = subst (λ stream. IsStream (seen_of cells) stream) (sym (h.1)) s
