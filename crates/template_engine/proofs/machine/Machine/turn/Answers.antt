use Rattle.std.proofs.Common.{refl, sym, ap, ◌∙◌}
use Rattle.std.specs.Borrow.{Bor}
use Rattle.engine_core.specs.Holding.{scene_of}
use Rattle.sheet_ast.specs.declared.sheet.Sheet.{Sheet}
use Rattle.engine_core.proofs.Keeping.{kept_none}
use Rattle.engine_laws.proofs.Keeping.{begins_refl}
use Rattle.template_engine.proofs.Turning.{adds_done, adds_faulted, adds_waiting, goes_on, is_done, is_faulted, is_waiting, stays_so}
use Rattle.template_engine.proofs.machine.Machine.turn.Goals as goal

pub returns-in-Some-Done-clause-kept : goal.returns-in-Some-Done-clause-kept
returns-in-Some-Done-clause-kept g c =
    kept_none c.requires.stands

pub returns-in-Some-Faulted-clause-kept : goal.returns-in-Some-Faulted-clause-kept
returns-in-Some-Faulted-clause-kept g c =
    kept_none c.requires.stands

pub returns-in-Some-Spent-clause-kept : goal.returns-in-Some-Spent-clause-kept
returns-in-Some-Spent-clause-kept g c =
    kept_none c.requires.stands

pub returns-in-Some-Done-clause-adds : goal.returns-in-Some-Done-clause-adds
returns-in-Some-Done-clause-adds g c =
    begins_refl _

pub returns-in-Some-Faulted-clause-adds : goal.returns-in-Some-Faulted-clause-adds
returns-in-Some-Faulted-clause-adds g c =
    begins_refl _

pub returns-in-Ok-clause-answers : goal.returns-in-Ok-clause-answers
returns-in-Ok-clause-answers g c =
    is_done g.S.ItemStream.walks g.S.ItemStream.follows c.in-Ok.ensures.kept c.args.self.now c.in-None.is c.requires.is c.run.new.core c.in-Ok.ensures.runs

pub returns-in-Ok-clause-is : goal.returns-in-Ok-clause-is
returns-in-Ok-clause-is g c =
    record { is = is_done g.S.ItemStream.walks g.S.ItemStream.follows c.in-Ok.ensures.kept c.args.self.now c.in-None.is c.requires.is c.run.new.core c.in-Ok.ensures.runs }

pub returns-in-Ok-clause-adds : goal.returns-in-Ok-clause-adds
returns-in-Ok-clause-adds g c =
    adds_done g.S.ItemStream.walks g.S.ItemStream.follows c.in-Ok.ensures.kept c.args.self.now c.in-None.is c.requires.is c.run.new.core c.in-Ok.ensures.runs

pub returns-in-Err-Fault-clause-answers : goal.returns-in-Err-Fault-clause-answers
returns-in-Err-Fault-clause-answers g c =
    is_faulted g.S.ItemStream.walks g.S.ItemStream.follows c.in-Err-Fault.ensures.kept c.args.self.now c.in-None.is c.requires.is c.run.new.core c.in-Err-Fault.fault (rw c.in-Err-Fault.field-0-is at c.in-Err-Fault.ensures.runs)

pub returns-in-Err-Fault-clause-is : goal.returns-in-Err-Fault-clause-is
returns-in-Err-Fault-clause-is g c =
    record { is = is_faulted g.S.ItemStream.walks g.S.ItemStream.follows c.in-Err-Fault.ensures.kept c.args.self.now c.in-None.is c.requires.is c.run.new.core c.in-Err-Fault.fault (rw c.in-Err-Fault.field-0-is at c.in-Err-Fault.ensures.runs) }

pub returns-in-Err-Fault-clause-adds : goal.returns-in-Err-Fault-clause-adds
returns-in-Err-Fault-clause-adds g c =
    adds_faulted g.S.ItemStream.walks g.S.ItemStream.follows c.in-Err-Fault.ensures.kept c.args.self.now c.in-None.is c.requires.is c.run.new.core c.in-Err-Fault.fault (rw c.in-Err-Fault.field-0-is at c.in-Err-Fault.ensures.runs)

pub returns-in-Err-NotYet-clause-answers : goal.returns-in-Err-NotYet-clause-answers
returns-in-Err-NotYet-clause-answers g c =
    is_waiting g.S.ItemStream.walks g.S.ItemStream.follows c.in-Err-NotYet.ensures.kept c.args.self.now c.in-None.is c.requires.is c.run.new.core c.in-Err-NotYet.m (rw c.in-Err-NotYet.field-0-is at c.in-Err-NotYet.ensures.runs)

pub returns-in-Err-NotYet-clause-is : goal.returns-in-Err-NotYet-clause-is
returns-in-Err-NotYet-clause-is g c =
    stays_so g.S.ItemStream.walks g.S.ItemStream.follows c.in-Err-NotYet.ensures.kept c.args.self.now c.in-None.is c.requires.is c.run.new.core c.in-Err-NotYet.m (rw c.in-Err-NotYet.field-0-is at c.in-Err-NotYet.ensures.runs)

pub returns-in-Err-NotYet-clause-adds : goal.returns-in-Err-NotYet-clause-adds
returns-in-Err-NotYet-clause-adds g c =
    adds_waiting g.S.ItemStream.walks g.S.ItemStream.follows c.in-Err-NotYet.ensures.kept c.args.self.now c.in-None.is c.requires.is c.run.new.core c.in-Err-NotYet.m (rw c.in-Err-NotYet.field-0-is at c.in-Err-NotYet.ensures.runs)

pub run-requires : goal.run-requires
run-requires g c =
    let z = scene_of g.S.ItemStream.walks g.S.ItemStream.follows (g.Q.Questions.asked c.args.v.now) (g.Q.Questions.sees c.args.v.now) in
    let on = goes_on z (g.Q.Questions.sees c.args.v.now).steps c.args.self.now c.in-None.is c.requires.is in
    λ κs. ((refl, tt), (record { stands = c.requires.stands; sound = on.sound }, c.requires.rules ∙ ap (λ (s : Bor Sheet). s.now.rules) (sym on.sheet)))
