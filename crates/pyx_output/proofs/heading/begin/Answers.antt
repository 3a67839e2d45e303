use Rattle.std.proofs.Common.{◌≡◌, ◌∷◌, [], List, ℕ, ap, ◌∙◌}
use Rattle.pyx_output.specs.Bytes.{Element, in_force}
use Rattle.pyx_output.specs.Choosing.{choice_of}
use Rattle.pyx_output.specs.Declaring.{element_name, element_choice, qualified}
use Rattle.pyx_output.specs.Heading.{with_all}
use Rattle.pyx_output.proofs.Heads.{begun_nest, begun_own, begun_used}
use Rattle.pyx_output.proofs.heading.begin.Goals as goal

pub returns-clause-stands : goal.returns-clause-stands
returns-clause-stands c =
    let outer = c.args.nest.now in
    let uri = c.args.name.now.uri in
    let chosen = c.in_ok-chosen.chosen in
    let choice = element_choice (in_force outer) c.args.name.now in
    let prefix = c.in_ok-chosen.ensures.prefix in
    let same = c.in_ok-chosen.ensures.choice in
    let name : c.in_ok-written.written ≡ element_name (in_force outer) c.args.name.now =
    c.in_ok-written.ensures ∙ (ap (λ (front : List ℕ). qualified front c.as_slice-2.result.now) (c.as_slice.ensures ∙ prefix)
    ∙ ap (λ (local : List ℕ). qualified choice.prefix local) c.as_slice-2.ensures) in
    let opened : c.open.new.self ≡ record { name = element_name (in_force outer) c.args.name.now; bound = in_force outer } ∷ outer =
    c.in_ok-open.ensures ∙ ap (λ (name : List ℕ). record { name = name; bound = in_force outer } ∷ outer) name in (
      c.in_ok-take.ensures.nest ∙ (ap (λ (elements : List Element). with_all (choice_of chosen uri).declared elements) opened
          ∙ begun_nest chosen uri (element_name (in_force outer) c.args.name.now) outer choice same),
      begun_used c.take.new.used chosen.prefix choice.prefix prefix (c.in_ok-take.ensures.used [] c.none_used-used.ensures),
      c.new.ensures.items,
      begun_own chosen uri choice same,
    )
