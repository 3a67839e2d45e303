use Rattle.std.proofs.Common.{◌≡◌, ◌+◌, ◌<◌, ℕ, List, [], ◌∷◌, ◌++◌, Option, length, get_or, take, ap, sym, ◌∙◌, subst, arith}
use Rattle.std.proofs.lemmas.List.{take_all, take_more}
use Rattle.std.proofs.lemmas.Option.{get_or_from_slice_get}
use Rattle.doc_model.specs.declared.row.Row.{Row}
use Rattle.node_writer.specs.Known.{AreFound, names_in}
use Rattle.node_writer.proofs.Knowing.{found_more}
use Rattle.dtm_builder.proofs.Recalling.{number_here}
use Rattle.dtm_builder.proofs.recall.recall_rows.Goals as goal

pub returns-in_err-one-clause-recalled : goal.returns-in_err-one-clause-recalled
returns-in_err-one-clause-recalled c uris recalls are =
    let rows : List Row = c.args.row.now ∷ c.args.attributes.now in
    let within : c.loop-at.at < length rows = omega (arith, c.loop-at-test.true, c.requires) in
    c.in_err-one.ensures.recalled uris (c.loop-at.invariant uris recalls are).0
    (number_here uris rows c.args.numbers.now c.loop-at.at 0 c.row_at.result.now are within c.row_at.ensures)

pub returns-in_err-push-clause-recalled : goal.returns-in_err-push-clause-recalled
returns-in_err-push-clause-recalled c uris recalls are =
    let rows : List Row = c.args.row.now ∷ c.args.attributes.now in
    let within : c.loop-at.at < length rows = omega (arith, c.loop-at-test.true, c.requires) in
    c.in_ok-one.ensures.recalled uris (c.loop-at.invariant uris recalls are).0
    (number_here uris rows c.args.numbers.now c.loop-at.at 0 c.row_at.result.now are within c.row_at.ensures)

pub loop-at-preserved : goal.loop-at-preserved
loop-at-preserved c uris recalls are =
    let names = names_in c.args.writer.now in
    let rows : List Row = c.args.row.now ∷ c.args.attributes.now in
    let k = c.loop-at.at in
    let x = c.row_at.result.now in
    let within : k < length rows = omega (arith, c.loop-at-test.true, c.requires) in
    let same : get_or rows k x ≡ x = get_or_from_slice_get rows k x x c.row_at.ensures in
    let one : take (k + 1) rows ≡ take k rows ++ x ∷ [] = take_more rows k x within ∙ ap (λ (y : Row). take k rows ++ y ∷ []) same in
    let here = number_here uris rows c.args.numbers.now k 0 x are within c.row_at.ensures in
    let before = c.loop-at.invariant uris recalls are in (
      c.in_ok-one.ensures.recalled uris before.0 here,
      subst (λ (all : List Row). AreFound names all c.push.new.self) (sym one)
          (subst (λ (all : List (Option ℕ)). AreFound names (take k rows ++ x ∷ []) all) (sym c.in_ok-push.ensures.ok)
          (found_more names (take k rows) c.loop-at.found x c.in_ok-one.one (c.in_ok-one.ensures.found uris before.0 here) before.1)),
    )

pub returns-clause-found : goal.returns-clause-found
returns-clause-found c uris recalls are =
    let rows : List Row = c.args.row.now ∷ c.args.attributes.now in
    subst (λ (all : List Row). AreFound (names_in c.args.writer.now) all c.loop-at.found) (take_all c.loop-at.at rows (omega (arith, c.loop-at-test.false, c.requires)))
    (c.loop-at.invariant uris recalls are).1
