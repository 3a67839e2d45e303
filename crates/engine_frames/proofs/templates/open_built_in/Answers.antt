use Rattle.std.proofs.Common.{◌≡◌, ◌-◌, ◌<◌, suc, refl, ap, ◌∙◌, sym, subst, arith, Ok}
use Rattle.doc_model.specs.Document.{is_parent}
use Rattle.doc_model.specs.declared.row.Kind.TheVariants as kind
use Rattle.doc_model.specs.declared.row.Row.{Row}
use Rattle.engine_core.proofs.Asking.{ready_behind, sound_behind}
use Rattle.engine_core.proofs.Keeping.{kept_none, kept_on}
use Rattle.engine_core.specs.Holding.{Scene, scene_of}
use Rattle.engine_core.specs.Moving.{Does}
use Rattle.engine_core.specs.Standing.{stand_of, state_in}
use Rattle.engine_frames.specs.Opening.{built_in_so}
use Rattle.frames.specs.Depth.{depth}
use Rattle.engine_frames.proofs.BuiltIn.{row_later}
use Rattle.engine_frames.proofs.Spending.{opens_by, scenes_same, sound_spent, spent}
use Rattle.engine_frames.proofs.templates.open_built_in.Goals as goal

pub returns-then-depth-ge500-clause-kept : goal.returns-then-depth-ge500-clause-kept
returns-then-depth-ge500-clause-kept g c = kept_none c.requires.stands

pub returns-then-core-eq0-clause-kept : goal.returns-then-core-eq0-clause-kept
returns-then-core-eq0-clause-kept g c = kept_none c.requires.stands

pub apply_to_children-requires : goal.apply_to_children-requires
apply_to_children-requires g c =
    let m = c.args.core.now in
    let k = c.in-Root.ensures.kept in
    let s = sound_behind g.S.ItemStream.walks g.S.ItemStream.follows k g.met.S.ItemStream.goes_on c.requires.sound in
    let deep = c.if-depth-ge500.false in
    let room : depth m.frames < 500 = omega (arith, deep) in
    λ κs. ((refl, tt), (ready_behind g.S.ItemStream.walks g.S.ItemStream.follows k (sound_spent (m.budget - 1) s), room))

pub apply_to_children-requires-in-Element : goal.apply_to_children-requires-in-Element
apply_to_children-requires-in-Element g c =
    let m = c.args.core.now in
    let k = c.in-Element.ensures.kept in
    let s = sound_behind g.S.ItemStream.walks g.S.ItemStream.follows k g.met.S.ItemStream.goes_on c.requires.sound in
    let deep = c.if-depth-ge500.false in
    let room : depth m.frames < 500 = omega (arith, deep) in
    λ κs. ((refl, tt), (ready_behind g.S.ItemStream.walks g.S.ItemStream.follows k (sound_spent (m.budget - 1) s), room))

pub copy_text-requires : goal.copy_text-requires
copy_text-requires g c =
    let m = c.args.core.now in
    let k = c.in-Attribute.ensures.kept in
    let s = sound_behind g.S.ItemStream.walks g.S.ItemStream.follows k g.met.S.ItemStream.goes_on c.requires.sound in
    λ κs. ((refl, tt), (ready_behind g.S.ItemStream.walks g.S.ItemStream.follows k (sound_spent (m.budget - 1) s), ap is_parent (sym c.in-Attribute.ensures.value)))

pub copy_text-requires-in-Text : goal.copy_text-requires-in-Text
copy_text-requires-in-Text g c =
    let m = c.args.core.now in
    let k = c.in-Text.ensures.kept in
    let s = sound_behind g.S.ItemStream.walks g.S.ItemStream.follows k g.met.S.ItemStream.goes_on c.requires.sound in
    λ κs. ((refl, tt), (ready_behind g.S.ItemStream.walks g.S.ItemStream.follows k (sound_spent (m.budget - 1) s), ap is_parent (sym c.in-Text.ensures.value)))

pub returns-in-Root-clause-does : goal.returns-in-Root-clause-does
returns-in-Root-clause-does g c =
    let z = scene_of g.S.ItemStream.walks g.S.ItemStream.follows (g.Q.Questions.asked c.args.v.now) (g.Q.Questions.sees c.args.v.now) in
    let later = (g.Q.Questions.sees c.kind.new.self).steps in
    let m = c.args.core.now in
    let k = c.in-Root.ensures.kept in
    let s = sound_behind g.S.ItemStream.walks g.S.ItemStream.follows k g.met.S.ItemStream.goes_on c.requires.sound in
    let deep = c.if-depth-ge500.false in
    let room : depth m.frames < 500 = omega (arith, deep) in
    let some = c.if-core-eq0.false in
    let unit : m.budget ≡ suc (m.budget - 1) = omega (arith, some) in
    let moves = subst (λ (z : Scene g.row.S.Denot). Does z later (λ u. built_in_so m.sheet.now u m.frames (stand_of m) kind.Root c.args.mode (state_in (spent m (m.budget - 1)))) 1
    (spent m (m.budget - 1)) c.apply_to_children.new.core c.apply_to_children.result) (sym (scenes_same g.S.ItemStream.walks g.S.ItemStream.follows k)) c.apply_to_children.ensures in
    λ given. opens_by z later m (m.budget - 1) unit room s.context.node kind.Root (sym c.in-Root.ensures.value) c.args.mode given _ _ moves

pub returns-in-Element-clause-does : goal.returns-in-Element-clause-does
returns-in-Element-clause-does g c =
    let z = scene_of g.S.ItemStream.walks g.S.ItemStream.follows (g.Q.Questions.asked c.args.v.now) (g.Q.Questions.sees c.args.v.now) in
    let later = (g.Q.Questions.sees c.kind.new.self).steps in
    let m = c.args.core.now in
    let k = c.in-Element.ensures.kept in
    let s = sound_behind g.S.ItemStream.walks g.S.ItemStream.follows k g.met.S.ItemStream.goes_on c.requires.sound in
    let deep = c.if-depth-ge500.false in
    let room : depth m.frames < 500 = omega (arith, deep) in
    let some = c.if-core-eq0.false in
    let unit : m.budget ≡ suc (m.budget - 1) = omega (arith, some) in
    let moves = subst (λ (z : Scene g.row.S.Denot). Does z later (λ u. built_in_so m.sheet.now u m.frames (stand_of m) kind.Element c.args.mode (state_in (spent m (m.budget - 1)))) 1
    (spent m (m.budget - 1)) c.apply_to_children-in-Element.new.core c.apply_to_children-in-Element.result) (sym (scenes_same g.S.ItemStream.walks g.S.ItemStream.follows k)) c.apply_to_children-in-Element.ensures in
    λ given. opens_by z later m (m.budget - 1) unit room s.context.node kind.Element (sym c.in-Element.ensures.value) c.args.mode given _ _ moves

pub returns-in-Attribute-clause-kept : goal.returns-in-Attribute-clause-kept
returns-in-Attribute-clause-kept g c = kept_on c.in-Attribute.ensures.kept c.copy_text.ensures.kept

pub returns-in-Attribute-clause-does : goal.returns-in-Attribute-clause-does
returns-in-Attribute-clause-does g c =
    let z = scene_of g.S.ItemStream.walks g.S.ItemStream.follows (g.Q.Questions.asked c.args.v.now) (g.Q.Questions.sees c.args.v.now) in
    let mid = (g.Q.Questions.sees c.kind.new.self).steps in
    let later = (g.Q.Questions.sees c.copy_text.new.v).steps in
    let m = c.args.core.now in
    let k = c.in-Attribute.ensures.kept in
    let s = sound_behind g.S.ItemStream.walks g.S.ItemStream.follows k g.met.S.ItemStream.goes_on c.requires.sound in
    let deep = c.if-depth-ge500.false in
    let room : depth m.frames < 500 = omega (arith, deep) in
    let some = c.if-core-eq0.false in
    let unit : m.budget ≡ suc (m.budget - 1) = omega (arith, some) in
    let h = c.copy_text.ensures.kept in
    let after_it = sound_behind g.S.ItemStream.walks g.S.ItemStream.follows (kept_on k h) g.met.S.ItemStream.goes_on c.requires.sound in
    let moves = subst (λ (z : Scene g.row.S.Denot). Does z later (λ u. built_in_so m.sheet.now u m.frames (stand_of m) kind.Attribute c.args.mode (state_in (spent m (m.budget - 1)))) 1
    (spent m (m.budget - 1)) c.copy_text.new.core c.copy_text.result) (sym (scenes_same g.S.ItemStream.walks g.S.ItemStream.follows k)) (c.copy_text.ensures.does c.args.mode) in
    λ given. opens_by z later m (m.budget - 1) unit room after_it.context.node kind.Attribute
    (ap (λ (r : Row). r.kind) (row_later mid later m.context.node h.moves.grows s.context.node.0) ∙ sym c.in-Attribute.ensures.value) c.args.mode given _ _ moves

pub returns-in-Text-clause-kept : goal.returns-in-Text-clause-kept
returns-in-Text-clause-kept g c = kept_on c.in-Text.ensures.kept c.copy_text-in-Text.ensures.kept

pub returns-in-Text-clause-does : goal.returns-in-Text-clause-does
returns-in-Text-clause-does g c =
    let z = scene_of g.S.ItemStream.walks g.S.ItemStream.follows (g.Q.Questions.asked c.args.v.now) (g.Q.Questions.sees c.args.v.now) in
    let mid = (g.Q.Questions.sees c.kind.new.self).steps in
    let later = (g.Q.Questions.sees c.copy_text-in-Text.new.v).steps in
    let m = c.args.core.now in
    let k = c.in-Text.ensures.kept in
    let s = sound_behind g.S.ItemStream.walks g.S.ItemStream.follows k g.met.S.ItemStream.goes_on c.requires.sound in
    let deep = c.if-depth-ge500.false in
    let room : depth m.frames < 500 = omega (arith, deep) in
    let some = c.if-core-eq0.false in
    let unit : m.budget ≡ suc (m.budget - 1) = omega (arith, some) in
    let h = c.copy_text-in-Text.ensures.kept in
    let after_it = sound_behind g.S.ItemStream.walks g.S.ItemStream.follows (kept_on k h) g.met.S.ItemStream.goes_on c.requires.sound in
    let moves = subst (λ (z : Scene g.row.S.Denot). Does z later (λ u. built_in_so m.sheet.now u m.frames (stand_of m) kind.Text c.args.mode (state_in (spent m (m.budget - 1)))) 1
    (spent m (m.budget - 1)) c.copy_text-in-Text.new.core c.copy_text-in-Text.result) (sym (scenes_same g.S.ItemStream.walks g.S.ItemStream.follows k)) (c.copy_text-in-Text.ensures.does c.args.mode) in
    λ given. opens_by z later m (m.budget - 1) unit room after_it.context.node kind.Text
    (ap (λ (r : Row). r.kind) (row_later mid later m.context.node h.moves.grows s.context.node.0) ∙ sym c.in-Text.ensures.value) c.args.mode given _ _ moves

pub returns-in-Instruction-clause-does : goal.returns-in-Instruction-clause-does
returns-in-Instruction-clause-does g c =
    let z = scene_of g.S.ItemStream.walks g.S.ItemStream.follows (g.Q.Questions.asked c.args.v.now) (g.Q.Questions.sees c.args.v.now) in
    let later = (g.Q.Questions.sees c.kind.new.self).steps in
    let m = c.args.core.now in
    let k = c.in-Instruction.ensures.kept in
    let s = sound_behind g.S.ItemStream.walks g.S.ItemStream.follows k g.met.S.ItemStream.goes_on c.requires.sound in
    let deep = c.if-depth-ge500.false in
    let room : depth m.frames < 500 = omega (arith, deep) in
    let some = c.if-core-eq0.false in
    let unit : m.budget ≡ suc (m.budget - 1) = omega (arith, some) in
    λ given. opens_by z later m (m.budget - 1) unit room s.context.node kind.Instruction (sym c.in-Instruction.ensures.value) c.args.mode given (spent m (m.budget - 1)) (Ok (tt {0}))
    (record { sheet = refl; left = λ u x. refl; lighter = omega arith; sound = sound_spent (m.budget - 1) s })

pub returns-in-Comment-clause-does : goal.returns-in-Comment-clause-does
returns-in-Comment-clause-does g c =
    let z = scene_of g.S.ItemStream.walks g.S.ItemStream.follows (g.Q.Questions.asked c.args.v.now) (g.Q.Questions.sees c.args.v.now) in
    let later = (g.Q.Questions.sees c.kind.new.self).steps in
    let m = c.args.core.now in
    let k = c.in-Comment.ensures.kept in
    let s = sound_behind g.S.ItemStream.walks g.S.ItemStream.follows k g.met.S.ItemStream.goes_on c.requires.sound in
    let deep = c.if-depth-ge500.false in
    let room : depth m.frames < 500 = omega (arith, deep) in
    let some = c.if-core-eq0.false in
    let unit : m.budget ≡ suc (m.budget - 1) = omega (arith, some) in
    λ given. opens_by z later m (m.budget - 1) unit room s.context.node kind.Comment (sym c.in-Comment.ensures.value) c.args.mode given (spent m (m.budget - 1)) (Ok (tt {0}))
    (record { sheet = refl; left = λ u x. refl; lighter = omega arith; sound = sound_spent (m.budget - 1) s })
