use Rattle.std.proofs.Common.{refl}
use Rattle.std.proofs.lemmas.List.{nil_from_length}
use Rattle.engine_core.proofs.Asking.{sound_behind}
use Rattle.engine_core.proofs.Keeping.{kept_none}
use Rattle.engine_meaning.specs.Execution.{Named}
use Rattle.sheet_ast.specs.declared.instruction.Variable.{out-Variable}
use Rattle.engine_frames.proofs.Handing.{value_found, value_back, select_found, select_back, template_goes}
use Rattle.engine_frames.proofs.passing.params.Goals as goal

pub returns-in-Ok-clause-goes : goal.returns-in-Ok-clause-goes
returns-in-Ok-clause-goes g c =
    value_found _ _ _ c.args.core.now c.args.passing c.in-Some.more c.in-Some.first.now _ c.in-Some.ensures.cases.0 refl
    (sound_behind g.S.ItemStream.walks g.S.ItemStream.follows c.find_value.ensures.kept g.met.S.ItemStream.goes_on c.requires.sound) c.find_value.ensures.kept.moves.seen.lawful
    c.in-Ok.found c.give.new.core c.give.result c.in-Ok.ensures.found (c.give.ensures _ _ _)

pub returns-in_ok-push-in-Err-clause-goes : goal.returns-in_ok-push-in-Err-clause-goes
returns-in_ok-push-in-Err-clause-goes g c =
    value_back _ _ _ c.args.core.now c.args.passing c.in-Some.more c.in-Some.first.now
    (record { ref_ptr = c.in-Some.first.ref_ptr; now = (out-Variable c.in-Some.first.now).name }) c.in-Some.ensures.cases.0 refl
    (sound_behind g.S.ItemStream.walks g.S.ItemStream.follows c.find_value.ensures.kept g.met.S.ItemStream.goes_on c.requires.sound) c.in-Err.stop _ c.in_ok-push-in-Err.ensures.ok c.in-Err.ensures.found

pub returns-in_ok-lay-in-Ok-find_nodes-clause-goes : goal.returns-in_ok-lay-in-Ok-find_nodes-clause-goes
returns-in_ok-lay-in-Ok-find_nodes-clause-goes g c =
    rw c.in_ok-lay-in-Ok-find_nodes.ensures
    (select_found _ (g.Q.Questions.sees c.args.v.now).steps _ c.args.core.now c.args.passing c.in-Apply.select c.in-Apply.mode c.in-Apply.sorts c.in-Apply.is (nil_from_length c.args.passing.left.now c.in_default.ensures.cases)
    (sound_behind g.S.ItemStream.walks g.S.ItemStream.follows c.find_nodes.ensures.kept g.met.S.ItemStream.goes_on c.requires.sound) c.in-Ok-find_nodes.found c.in-Ok-find_nodes.ensures.found)

pub returns-in_ok-push-in-Err-find_nodes-clause-goes : goal.returns-in_ok-push-in-Err-find_nodes-clause-goes
returns-in_ok-push-in-Err-find_nodes-clause-goes g c =
    select_back _ _ _ c.args.core.now c.args.passing c.in-Apply.select c.in-Apply.mode c.in-Apply.sorts c.in-Apply.is (nil_from_length c.args.passing.left.now c.in_default.ensures.cases)
    (sound_behind g.S.ItemStream.walks g.S.ItemStream.follows c.find_nodes.ensures.kept g.met.S.ItemStream.goes_on c.requires.sound) c.in-Err-find_nodes.stop _
    c.in_ok-push-in-Err-find_nodes.ensures.ok c.in-Err-find_nodes.ensures.found

pub returns-in-Template-clause-kept : goal.returns-in-Template-clause-kept
returns-in-Template-clause-kept g c = kept_none c.requires.stands

pub returns-in-Template-clause-goes : goal.returns-in-Template-clause-goes
returns-in-Template-clause-goes g c =
    template_goes _ _ _ c.args.core.now c.args.passing c.in-Template.at c.in-Template.is (nil_from_length c.args.passing.left.now c.in_default.ensures.cases) c.requires.sound
    c.requires.stands.seen.lawful c.open_template.new.core c.open_template.result (c.open_template.ensures _ _ _ (Named c.in-Template.at))
