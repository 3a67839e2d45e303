use Rattle.std.proofs.Common.{refl, sym, ap, ◌+◌, [], ◌∷◌, ◌++◌, drop}
use Rattle.doc_laws.proofs.Moving.{moves_none}
use Rattle.engine_meaning.specs.Places.{place, setting}
use Rattle.engine_meaning.specs.Sorts as means
use Rattle.value_templates.proofs.Asking.{kept_none, kept_twice, leaves_end, leaves_on, leaves_same, leaves_start, leaves_stops, ready_on, shows_exit}
use Rattle.value_templates.proofs.Parts.{giving, each_ends, each_starts, each_turns}
use Rattle.value_templates.proofs.Stable.{key_stable}
use Rattle.value_templates.proofs.keys.key_row.Goals as goal

pub loop-sort-init : goal.loop-sort-init
loop-sort-init g c = record {
  kept = kept_none c.requires.stands;
  leaves = λ sheet x. leaves_start (λ w. each_starts (means.key_at (setting sheet w c.args.env.now.globals.now) (place x c.args.env.now.locals.now) c.args.item.now) c.args.sorts.now
      c.new-row.result c.new-row.ensures);
}

pub key_at-requires : goal.key_at-requires
key_at-requires g c κs = ((refl, tt), ready_on c.requires c.loop-sort.invariant.kept)

pub returns-in_err-key-clause-kept : goal.returns-in_err-key-clause-kept
returns-in_err-key-clause-kept g c = kept_twice c.loop-sort.invariant.kept c.in_err-key.ensures.kept

pub returns-in_err-key-clause-answers : goal.returns-in_err-key-clause-answers
returns-in_err-key-clause-answers g c =
    let sorts = c.args.sorts.now in
    let i = c.loop-sort.sort-index in
    let row = c.loop-sort.row in
    let env = c.args.env.now in
    λ sheet x. shows_exit c.from_residual.result c.from_residual.ensures.1
    (leaves_stops (λ w key. giving (means.key_at (setting sheet w env.globals.now) (place x env.locals.now) c.args.item.now) (drop (i + 1) sorts) (row ++ key ∷ []))
    (c.loop-sort.invariant.leaves sheet x)
    (λ w. each_turns (means.key_at (setting sheet w env.globals.now) (place x env.locals.now) c.args.item.now) sorts i c.sort-item.result row c.loop-sort-test.true c.sort-item.is)
    c.loop-sort.invariant.kept c.in_err-key.ensures.kept (c.in_err-key.ensures.answers sheet x))

pub returns-in_err-push-clause-kept : goal.returns-in_err-push-clause-kept
returns-in_err-push-clause-kept g c = kept_twice c.loop-sort.invariant.kept c.in_ok-key.ensures.kept

pub loop-sort-preserved : goal.loop-sort-preserved
loop-sort-preserved g c =
    let sorts = c.args.sorts.now in
    let i = c.loop-sort.sort-index in
    let row = c.loop-sort.row in
    let env = c.args.env.now in
    record {
      kept = kept_twice c.loop-sort.invariant.kept c.in_ok-key.ensures.kept;
      leaves = λ sheet x. leaves_same
          (λ w. ap (giving (means.key_at (setting sheet w env.globals.now) (place x env.locals.now) c.args.item.now) (drop (i + 1) sorts)) (sym c.in_ok-push.ensures.ok))
          (leaves_on (λ w key. giving (means.key_at (setting sheet w env.globals.now) (place x env.locals.now) c.args.item.now) (drop (i + 1) sorts) (row ++ key ∷ []))
          (c.loop-sort.invariant.leaves sheet x)
          (λ w. each_turns (means.key_at (setting sheet w env.globals.now) (place x env.locals.now) c.args.item.now) sorts i c.sort-item.result row c.loop-sort-test.true c.sort-item.is)
          (key_stable sheet env.globals.now (place x env.locals.now) c.args.item.now c.sort-item.result) c.loop-sort.invariant.kept c.in_ok-key.ensures.kept
          (c.in_ok-key.ensures.answers sheet x));
    }

pub returns-clause-kept : goal.returns-clause-kept
returns-clause-kept g c = c.loop-sort.invariant.kept

pub returns-clause-answers : goal.returns-clause-answers
returns-clause-answers g c =
    λ sheet x. leaves_end (c.loop-sort.invariant.leaves sheet x) (moves_none _ c.loop-sort.invariant.kept.moves.seen)
    (λ w. each_ends (means.key_at (setting sheet w c.args.env.now.globals.now) (place x c.args.env.now.locals.now) c.args.item.now) c.args.sorts.now c.loop-sort.sort-index c.loop-sort.row
    c.loop-sort-test.false)
