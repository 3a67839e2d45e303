-- A stream that was asked stands again, and says what is behind the items that it has given.
use Rattle.std.proofs.Common.{◌≡◌, sym, ap, ◌∙◌, subst, ℕ, ◌+◌, List, length, arith, Result, Ok, Err, Option}
use Rattle.std.specs.Prelude.{IsErrAnd}
use Rattle.doc_laws.proofs.Growth.{Grows-trans}
use Rattle.doc_model.specs.View.{Seen, Moves}
use Rattle.key_sources.specs.Going.{Lookups, reading_by, Says}
use Rattle.xpath_core.proofs.Standing.{says_steps}
use Rattle.xpath_core.proofs.Streaming.{behind_result}
use Rattle.xpath_core.specs.declared.path_stream.PathStream.{PathStream}
use Rattle.xpath_core.specs.Left.{IsLeft, IsPlace, IsStreaming, Took, behind_first, item_behind, left_at, taken_in}
use Rattle.xpath_meaning.specs.declared.context.Context.{Context}
use Rattle.xpath_meaning.specs.declared.stop.EvalStop.{EvalStop}
use Rattle.xpath_meaning.specs.Evaluation.{path_items_of}
use Rattle.xpath_meaning.specs.Streams.{first_item}
use Rattle.xpath_syntax.specs.declared.expression.Path.{Path, out-Path}
use Rattle.xpath_values.specs.declared.value.Value.{Value}

-- what is said of the place is said of the items behind those that were given
pub streamed : {M : Type 0} {lookups : Lookups} {s t : Seen M} {values : List Value} (stream : PathStream) (result : Result (Option ℕ) EvalStop) → Moves s t
    → IsStreaming lookups s.rules s.steps values stream
    → Says lookups (λ R. first_item (left_at (out-Path stream.path.now).parts stream.place R values stream.context)) s t result
    → Says lookups (λ R. item_behind R stream.path.now stream.given values stream.context) s t result
streamed {lookups = lookups} {s} {t} {values} stream result m w a =
    says_steps result m
    (λ q g l. ap first_item
    (subst (λ rules. behind_first stream.given (path_items_of (reading_by lookups rules q) stream.path.now values stream.context)
    ≡ left_at (out-Path stream.path.now).parts stream.place (reading_by lookups rules q) values stream.context)
    (sym m.rules_stay) (w.left q g l)))
    a

-- a call that stopped gave nothing
pub gave_none : (P : EvalStop → Type 0) (given : ℕ) (result : Result (Option ℕ) EvalStop) → IsErrAnd result P → given ≡ given + length (taken_in result)
gave_none P given (Ok x) is = absurd is
gave_none P given (Err e) is = omega arith

pub streams_on : {M : Type 0} {lookups : Lookups} {s t : Seen M} {values : List Value} (old new : PathStream) (result : Result (Option ℕ) EvalStop) → Moves s t
    → IsStreaming lookups s.rules s.steps values old → Took old new result
    → IsPlace t.rules t.steps (out-Path old.path.now).parts new.place → IsLeft lookups t.rules t.steps (out-Path old.path.now).parts values old.context old.place new.place result
    → IsStreaming lookups t.rules t.steps values new
streams_on {lookups = lookups} {s} {t} {values} old new result m w k p f = record {
  place = subst (λ (path : Path). IsPlace t.rules t.steps (out-Path path).parts new.place) (sym k.path) p;
  left = λ q g l.
      let R = reading_by lookups t.rules q in
      ap (λ n. behind_first n (path_items_of R new.path.now values new.context)) k.given
      ∙ ap (λ path. behind_first (old.given + length (taken_in result)) (path_items_of R path values new.context)) k.path
      ∙ ap (λ (c : Context). behind_first (old.given + length (taken_in result)) (path_items_of R old.path.now values c)) k.context
      ∙ behind_result old.given (path_items_of R old.path.now values old.context) (left_at (out-Path old.path.now).parts new.place R values old.context) result
      (subst (λ rules. behind_first old.given (path_items_of (reading_by lookups rules q) old.path.now values old.context)
      ≡ left_at (out-Path old.path.now).parts old.place (reading_by lookups rules q) values old.context)
      (sym m.rules_stay) (w.left q (Grows-trans s.steps t.steps q m.grows g) l)
      ∙ f.left q g l)
      ∙ ap (λ (c : Context). left_at (out-Path old.path.now).parts new.place R values c) (sym k.context)
      ∙ ap (λ (path : Path). left_at (out-Path path).parts new.place R values new.context) (sym k.path);
}
