use Rattle.engine_core.proofs.Keeping.{kept_none}
use Rattle.engine_core.proofs.Moves.{does_tries}
use Rattle.engine_instructions.proofs.Layering.{bodies_as, layer-LiteralText, layer-LiteralElement, layer-ValueOf, layer-CopyOf, layer-Copy, layer-Element}
use Rattle.engine_instructions.proofs.Layering.{layer-Attribute, layer-Processing, layer-Comment, layer-Message, layer-If, layer-Choose, layer-Local, layer-Apply, layer-ForEach, layer-CallTemplate}
use Rattle.engine_instructions.proofs.dispatch.act.Goals as goal

pub returns-in-LiteralText-clause-kept : goal.returns-in-LiteralText-clause-kept
returns-in-LiteralText-clause-kept g c = kept_none c.requires.stands

pub returns-in-LiteralText-clause-tries : goal.returns-in-LiteralText-clause-tries
returns-in-LiteralText-clause-tries g c = rw (layer-LiteralText c.args.first.now _ c.in-LiteralText.is, ← c.as_slice.ensures) (does_tries _ _ _ _ _ _ _ c.literal_text.result (c.literal_text.ensures _ _ _ c.requires.sound))

pub returns-in-LiteralElement-clause-kept : goal.returns-in-LiteralElement-clause-kept
returns-in-LiteralElement-clause-kept g c = kept_none c.requires.stands

pub returns-in-LiteralElement-clause-tries : goal.returns-in-LiteralElement-clause-tries
returns-in-LiteralElement-clause-tries g c = rw (layer-LiteralElement c.args.first.now _ _ _ c.in-LiteralElement.is, ← c.as_slice-in-LiteralElement.ensures, ← c.as_slice-in-LiteralElement-2.ensures) (does_tries _ _ _ _ _ _ _ c.literal_element.result (c.literal_element.ensures _ _ _ c.requires.sound))

pub returns-in-ValueOf-clause-tries : goal.returns-in-ValueOf-clause-tries
returns-in-ValueOf-clause-tries g c = rw (layer-ValueOf c.args.first.now _ c.in-ValueOf.is) c.value_of.ensures.tries

pub returns-in-CopyOf-clause-tries : goal.returns-in-CopyOf-clause-tries
returns-in-CopyOf-clause-tries g c = rw (layer-CopyOf c.args.first.now _ c.in-CopyOf.is) c.copy_of.ensures.tries

pub returns-in-Copy-clause-tries : goal.returns-in-Copy-clause-tries
returns-in-Copy-clause-tries g c = rw (layer-Copy c.args.first.now _ c.in-Copy.is, ← c.as_slice-in-Copy.ensures) c.copy.ensures.tries

pub returns-in-Element-clause-tries : goal.returns-in-Element-clause-tries
returns-in-Element-clause-tries g c = rw (layer-Element c.args.first.now _ _ _ _ c.in-Element.is, ← c.as_slice-in-Element.ensures, ← c.as_slice-in-Element-2.ensures) c.element.ensures.tries

pub returns-in-Attribute-clause-tries : goal.returns-in-Attribute-clause-tries
returns-in-Attribute-clause-tries g c = rw (layer-Attribute c.args.first.now _ _ _ _ c.in-Attribute.is, ← c.as_slice-in-Attribute.ensures, ← c.as_slice-in-Attribute-2.ensures) c.attribute.ensures.tries

pub returns-in-Processing-clause-tries : goal.returns-in-Processing-clause-tries
returns-in-Processing-clause-tries g c = rw (layer-Processing c.args.first.now _ _ c.in-Processing.is, ← c.as_slice-in-Processing.ensures, ← c.as_slice-in-Processing-2.ensures) c.processing.ensures.tries

pub returns-in-Comment-clause-kept : goal.returns-in-Comment-clause-kept
returns-in-Comment-clause-kept g c = kept_none c.requires.stands

pub returns-in-Comment-clause-tries : goal.returns-in-Comment-clause-tries
returns-in-Comment-clause-tries g c = rw (layer-Comment c.args.first.now _ c.in-Comment.is, ← c.as_slice-in-Comment.ensures) (does_tries _ _ _ _ _ _ _ c.comment.result (c.comment.ensures _ _ _ c.requires.sound))

pub returns-in-Message-clause-kept : goal.returns-in-Message-clause-kept
returns-in-Message-clause-kept g c = kept_none c.requires.stands

pub returns-in-Message-clause-tries : goal.returns-in-Message-clause-tries
returns-in-Message-clause-tries g c = rw (layer-Message c.args.first.now _ _ c.in-Message.is, ← c.as_slice-in-Message.ensures) (does_tries _ _ _ _ _ _ _ c.message.result (c.message.ensures _ _ _ c.requires.sound))

pub returns-in-If-clause-tries : goal.returns-in-If-clause-tries
returns-in-If-clause-tries g c = rw (layer-If c.args.first.now _ _ c.in-If.is, ← c.as_slice-in-If.ensures) c.if_true.ensures.tries

pub returns-in-Choose-clause-kept : goal.returns-in-Choose-clause-kept
returns-in-Choose-clause-kept g c = kept_none c.requires.stands

pub returns-in-Choose-clause-tries : goal.returns-in-Choose-clause-tries
returns-in-Choose-clause-tries g c = rw (layer-Choose c.args.first.now _ _ c.in-Choose.is, ← c.as_slice-in-Choose.ensures, ← bodies_as c.body_in.result c.in-Choose.otherwise c.body_in.ensures) (does_tries _ _ _ _ _ _ _ c.choose.result (c.choose.ensures _ _ _ c.requires.sound))

pub returns-in-Local-clause-tries : goal.returns-in-Local-clause-tries
returns-in-Local-clause-tries g c = rw (layer-Local c.args.first.now _ c.in-Local.is) c.local.ensures.tries

pub returns-in-Apply-clause-kept : goal.returns-in-Apply-clause-kept
returns-in-Apply-clause-kept g c = kept_none c.requires.stands

pub returns-in-Apply-clause-tries : goal.returns-in-Apply-clause-tries
returns-in-Apply-clause-tries g c = rw (layer-Apply c.args.first.now _ _ _ _ c.in-Apply.is, ← c.as_slice-in-Apply.ensures, ← c.as_slice-in-Apply-2.ensures) (does_tries _ _ _ _ _ _ _ c.apply.result (c.apply.ensures _ _ _ c.requires.sound))

pub returns-in-ForEach-clause-tries : goal.returns-in-ForEach-clause-tries
returns-in-ForEach-clause-tries g c = rw (layer-ForEach c.args.first.now _ _ _ c.in-ForEach.is, ← c.as_slice-in-ForEach.ensures, ← c.as_slice-in-ForEach-2.ensures) c.for_each.ensures.tries

pub returns-in-CallTemplate-clause-kept : goal.returns-in-CallTemplate-clause-kept
returns-in-CallTemplate-clause-kept g c = kept_none c.requires.stands

pub returns-in-CallTemplate-clause-tries : goal.returns-in-CallTemplate-clause-tries
returns-in-CallTemplate-clause-tries g c = rw (layer-CallTemplate c.args.first.now _ _ c.in-CallTemplate.is, ← c.as_slice-in-CallTemplate.ensures) (does_tries _ _ _ _ _ _ _ c.call_template.result (c.call_template.ensures _ _ _ c.requires.sound))
