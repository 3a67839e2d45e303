use Rattle.std.proofs.Common.{refl, sym, ap, ◌∙◌}
use Rattle.std.specs.Borrow.{Bor}
use Rattle.engine_questions.specs.Asking.{Asked}
use Rattle.sheet_ast.specs.declared.sheet.Sheet.{Sheet}
use Rattle.engine_core.proofs.Keeping.{kept_none, kept_on}
use Rattle.template_engine.proofs.Running.{more_moved, ready_again, stopped}
use Rattle.template_engine.proofs.moves.run.Goals as goal

pub loop-init : goal.loop-init
loop-init g c = record { kept = kept_none c.requires.ready.stands; rules = c.requires.rules; sheet = refl; sound = c.requires.ready.sound; left = λ u x. refl }

pub step-requires : goal.step-requires
step-requires g c = λ κs. ((refl, tt), (ready_again g.S.ItemStream.walks g.S.ItemStream.follows c.loop.invariant.kept c.loop.invariant.sound, c.loop.invariant.rules))

pub returns-in_err-step-clause-kept : goal.returns-in_err-step-clause-kept
returns-in_err-step-clause-kept g c = kept_on c.loop.invariant.kept c.in_err-step.ensures.kept

pub returns-in_err-step-clause-runs : goal.returns-in_err-step-clause-runs
returns-in_err-step-clause-runs g c =
    stopped g.S.ItemStream.walks g.S.ItemStream.follows c.loop.invariant.kept c.args.core.now c.loop.core c.loop.invariant.sheet c.loop.invariant.left c.in_err-step.ensures.kept c.step.new.core c.in_err-step.field-0.0 _
    c.in_err-step.ensures.steps c.from_residual.ensures.1

pub loop-preserved : goal.loop-preserved
loop-preserved g c =
    let moved = more_moved g.S.ItemStream.walks g.S.ItemStream.follows c.loop.invariant.kept c.args.core.now c.loop.core c.loop.invariant.sheet c.loop.invariant.left c.in_ok-step.ensures.kept c.step.new.core c.in_ok-step.field-0
    c.if-branch.true c.in_ok-step.ensures.steps in
    record {
      kept = kept_on c.loop.invariant.kept c.in_ok-step.ensures.kept;
      rules = ap (λ (a : Asked _). a.rules) c.in_ok-step.ensures.kept.stays ∙ c.loop.invariant.rules ∙ ap (λ (s : Bor Sheet). s.now.rules) (sym moved.sheet);
      sheet = moved.sheet ∙ c.loop.invariant.sheet;
      sound = moved.sound;
      left = moved.left;
    }

pub returns-clause-kept : goal.returns-clause-kept
returns-clause-kept g c = kept_on c.loop.invariant.kept c.in_ok-step.ensures.kept
