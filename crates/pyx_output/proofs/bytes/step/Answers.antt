use Rattle.std.proofs.Common.{◌++◌, ◌∷◌, [], List, ℕ, ap, sym, ◌∙◌, refl, map, subst, Option}
use Rattle.pyx_lines.specs.declared.line.Line.TheVariants as line
use Rattle.result_events.specs.declared.event.ResultEvent.TheVariants as made_event
use Rattle.pyx_lines.specs.Writing.{written}
use Rattle.pyx_output.specs.Declaring.{element_name, element_choice, declaration_line}
use Rattle.pyx_output.specs.declared.heading.Heading.{Heading}
use Rattle.pyx_output.specs.Bytes.{in_force, Element, bytes_of_lines, end_lines, lines_from}
use Rattle.pyx_output.specs.Heading.{held_in, Stands}
use Rattle.pyx_output.proofs.Stepping.{stepped, after_line, started, attributed}
use Rattle.pyx_output.proofs.bytes.step.Goals as goal

pub returns-in_ok-heading-in-Start : goal.returns-in_ok-heading-in-Start
returns-in_ok-heading-in-Start c = λ state stands.
    let is = c.in-Start.is in
    let outer = in_force c.args.nest.now in
    let made = written (line.Start (element_name outer c.in-Start.name)) ++ bytes_of_lines (map declaration_line (element_choice outer c.in-Start.name).declared) in
    rw is
    (started state c.args.nest.now c.begin.new.nest c.args.heading c.in_ok-heading-in-Start.heading c.in-Start.name c.args.out.now.items c.begin.new.out.items stands c.in_ok-heading-in-Start.ensures.stands
    (c.in_ok-heading-in-Start.ensures.out ∙ ap (λ (front : List ℕ). front ++ made) c.in_ok-flush-in-Start.ensures))

pub returns-in_ok-heading-in-Some : goal.returns-in_ok-heading-in-Some
returns-in_ok-heading-in-Some c = λ state stands.
    let is = c.in-Attr.is in
    rw is
    (attributed state c.args.nest.now c.attribute.new.nest c.in-Some.heading c.in_ok-heading-in-Some.heading c.in-Attr.name c.in-Attr.value c.args.out.now.items c.attribute.new.out.items
    (subst (λ (heading : Option Heading). Stands state c.args.nest.now heading) c.in-Some.is stands) c.in_ok-heading-in-Some.ensures.stands c.in_ok-heading-in-Some.ensures.out)

pub returns-in_ok-write_text-in-Text : goal.returns-in_ok-write_text-in-Text
returns-in_ok-write_text-in-Text c = λ state stands.
    let is = c.in-Text.is in
    let added = c.in_ok-write_text-in-Text.ensures.ok ∙ ap (λ (text : List ℕ). c.flush-in-Text.new.out.items ++ written (line.Text text)) c.as_slice.ensures in
    rw is
    (stepped state c.args.nest.now c.args.nest.now c.args.heading (made_event.Text c.in-Text.text) c.args.out.now.items c.write_text.new.out.items
    (line.Text c.in-Text.text ∷ []) stands (λ later. refl) (λ later. refl)
    (after_line c.args.out.now.items (held_in c.args.heading) c.flush-in-Text.new.out.items c.write_text.new.out.items (line.Text c.in-Text.text) c.in_ok-flush-in-Text.ensures added))

pub returns-in_ok-write_instruction-in-Instruction : goal.returns-in_ok-write_instruction-in-Instruction
returns-in_ok-write_instruction-in-Instruction c = λ state stands.
    let is = c.in-Instruction.is in
    let added =
    c.in_ok-write_instruction-in-Instruction.ensures.ok
    ∙ (ap (λ (target : List ℕ). c.flush-in-Instruction.new.out.items ++ written (line.Instruction target c.as_slice-in-Instruction-2.result.now)) c.as_slice-in-Instruction.ensures
    ∙ ap (λ (value : List ℕ). c.flush-in-Instruction.new.out.items ++ written (line.Instruction c.in-Instruction.target value)) c.as_slice-in-Instruction-2.ensures) in
    rw is
    (stepped state c.args.nest.now c.args.nest.now c.args.heading
    (made_event.Instruction c.in-Instruction.target c.in-Instruction.value) c.args.out.now.items c.write_instruction.new.out.items
    (line.Instruction c.in-Instruction.target c.in-Instruction.value ∷ []) stands (λ later. refl) (λ later. refl)
    (after_line c.args.out.now.items (held_in c.args.heading) c.flush-in-Instruction.new.out.items c.write_instruction.new.out.items
    (line.Instruction c.in-Instruction.target c.in-Instruction.value) c.in_ok-flush-in-Instruction.ensures added))

pub returns-in_ok-write_comment-in-Comment : goal.returns-in_ok-write_comment-in-Comment
returns-in_ok-write_comment-in-Comment c = λ state stands.
    let is = c.in-Comment.is in
    let added = c.in_ok-write_comment-in-Comment.ensures.ok ∙ ap (λ (text : List ℕ). c.flush-in-Comment.new.out.items ++ written (line.Comment text)) c.as_slice-in-Comment.ensures in
    rw is
    (stepped state c.args.nest.now c.args.nest.now c.args.heading (made_event.Comment c.in-Comment.text) c.args.out.now.items c.write_comment.new.out.items
    (line.Comment c.in-Comment.text ∷ []) stands (λ later. refl) (λ later. refl)
    (after_line c.args.out.now.items (held_in c.args.heading) c.flush-in-Comment.new.out.items c.write_comment.new.out.items (line.Comment c.in-Comment.text) c.in_ok-flush-in-Comment.ensures added))

pub returns-in_ok-finish-in-End : goal.returns-in_ok-finish-in-End
returns-in_ok-finish-in-End c = λ state stands.
    let is = c.in-End.is in
    rw is
    (stepped state c.args.nest.now c.finish.new.nest c.args.heading made_event.End c.args.out.now.items c.finish.new.out.items (end_lines c.args.nest.now) stands (λ later. refl)
    (λ later. ap (λ (outer : List Element). end_lines c.args.nest.now ++ lines_from outer later) (sym c.in_ok-finish-in-End.ensures.nest))
    (c.in_ok-finish-in-End.ensures.out ∙ ap (λ (front : List ℕ). front ++ bytes_of_lines (end_lines c.args.nest.now)) c.in_ok-flush-in-End.ensures))
