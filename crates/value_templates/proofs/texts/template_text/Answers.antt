use Rattle.std.proofs.Common.{refl, ◌+◌, drop}
use Rattle.doc_laws.proofs.Moving.{moves_none}
use Rattle.engine_meaning.specs.Places.{place, setting}
use Rattle.engine_meaning.specs.Questions as means
use Rattle.value_templates.proofs.Asking.{kept_none, kept_twice, leaves_end, leaves_on, leaves_start, leaves_stops, ready_on, shows_exit}
use Rattle.value_templates.proofs.Parts.{joining, texts_end, texts_start, texts_turn}
use Rattle.value_templates.proofs.Stable.{part_stable}
use Rattle.value_templates.proofs.texts.template_text.Goals as goal

pub loop-part-init : goal.loop-part-init
loop-part-init g c = record {
  kept = kept_none c.requires.stands;
  leaves = λ sheet. leaves_start (λ w. texts_start (means.part_text (setting sheet w c.args.env.now.globals.now) (place c.args.context.now c.args.env.now.locals.now)) c.args.parts.now
      c.new-text.result c.new-text.ensures);
}

pub add_part-requires : goal.add_part-requires
add_part-requires g c κs = ((refl, tt), ready_on c.requires c.loop-part.invariant.kept)

pub returns-in_err-add_part-clause-kept : goal.returns-in_err-add_part-clause-kept
returns-in_err-add_part-clause-kept g c = kept_twice c.loop-part.invariant.kept c.in_err-add_part.ensures.kept

pub returns-in_err-add_part-clause-answers : goal.returns-in_err-add_part-clause-answers
returns-in_err-add_part-clause-answers g c =
    let parts = c.args.parts.now in
    let i = c.loop-part.part-index in
    let globals = c.args.env.now.globals.now in
    let here = place c.args.context.now c.args.env.now.locals.now in
    λ sheet. shows_exit c.from_residual.result c.from_residual.ensures.1
    (leaves_stops (λ w. joining (means.part_text (setting sheet w globals) here) (drop (i + 1) parts)) (c.loop-part.invariant.leaves sheet)
    (λ w. texts_turn (means.part_text (setting sheet w globals) here) parts i c.part-item.result c.loop-part.text c.loop-part-test.true c.part-item.is)
    c.loop-part.invariant.kept c.in_err-add_part.ensures.kept (c.in_err-add_part.ensures.answers sheet))

pub loop-part-preserved : goal.loop-part-preserved
loop-part-preserved g c =
    let parts = c.args.parts.now in
    let i = c.loop-part.part-index in
    let globals = c.args.env.now.globals.now in
    let here = place c.args.context.now c.args.env.now.locals.now in
    record {
      kept = kept_twice c.loop-part.invariant.kept c.in_ok-add_part.ensures.kept;
      leaves = λ sheet. leaves_on (λ w. joining (means.part_text (setting sheet w globals) here) (drop (i + 1) parts)) (c.loop-part.invariant.leaves sheet)
          (λ w. texts_turn (means.part_text (setting sheet w globals) here) parts i c.part-item.result c.loop-part.text c.loop-part-test.true c.part-item.is)
          (part_stable sheet globals here c.part-item.result c.loop-part.text) c.loop-part.invariant.kept c.in_ok-add_part.ensures.kept (c.in_ok-add_part.ensures.answers sheet);
    }

pub returns-clause-kept : goal.returns-clause-kept
returns-clause-kept g c = c.loop-part.invariant.kept

pub returns-clause-answers : goal.returns-clause-answers
returns-clause-answers g c =
    λ sheet. leaves_end (c.loop-part.invariant.leaves sheet) (moves_none _ c.loop-part.invariant.kept.moves.seen)
    (λ w. texts_end (means.part_text (setting sheet w c.args.env.now.globals.now) (place c.args.context.now c.args.env.now.locals.now)) c.args.parts.now c.loop-part.part-index c.loop-part.text
    c.loop-part-test.false)
