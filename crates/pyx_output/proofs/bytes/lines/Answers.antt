use Rattle.std.proofs.Common.{◌≡◌, ◌+◌, ◌++◌, ◌∷◌, [], List, ℕ, ap, sym, ◌∙◌, refl, drop, arith, subst}
use Rattle.std.proofs.lemmas.Grind.{common_steps}
use Rattle.std.proofs.lemmas.List.{append-nil}
use Rattle.result_events.specs.declared.event.ResultEvent.{ResultEvent}
use Rattle.pyx_output.specs.Bytes.{lines_from, bytes_of_lines}
use Rattle.pyx_output.specs.Heading.{plain, rest, held_in}
use Rattle.pyx_output.proofs.Stepping.{settled, has_element}
use Rattle.pyx_output.proofs.bytes.lines.Goals as goal

pub loop-event-init : goal.loop-event-init
loop-event-init c = (plain [], c.in_ok-nest.ensures, ap (λ (bytes : List ℕ). bytes ++ bytes_of_lines (lines_from [] c.args.events.now)) c.new-out.ensures.items)

pub step-requires : goal.step-requires
step-requires c = let old = c.loop-event.invariant in has_element old.0 c.loop-event.nest c.loop-event.heading old.1

pub loop-event-preserved : goal.loop-event-preserved
loop-event-preserved c =
    let old = c.loop-event.invariant in
    let later = drop (c.loop-event.event-index + 1) c.args.events.now in
    let front : drop c.loop-event.event-index c.args.events.now ≡ c.event-item.result ∷ later = grind (arith, common_steps) in
    let steps = c.in_ok-heading.ensures old.0 old.1 in (
      steps.next,
      steps.stands,
      steps.adds later ∙ subst (λ (events : List ResultEvent). c.loop-event.out.items ++ rest old.0 events ≡ bytes_of_lines (lines_from [] c.args.events.now)) front old.2,
    )

pub returns : goal.returns
returns c =
    let old = c.loop-event.invariant in
    let over : drop c.loop-event.event-index c.args.events.now ≡ [] = grind (arith, common_steps) in
    let whole = subst (λ (events : List ResultEvent). c.loop-event.out.items ++ rest old.0 events ≡ bytes_of_lines (lines_from [] c.args.events.now)) over old.2 in
    let held = settled old.0 c.loop-event.nest c.loop-event.heading [] old.1 refl in
    c.from_vec.ensures ∙ (c.in_ok-flush.ensures ∙ (ap (λ (bytes : List ℕ). c.loop-event.out.items ++ bytes) (sym (append-nil (held_in c.loop-event.heading)) ∙ sym held) ∙ whole))
