use Rattle.std.proofs.Common.{◌≡◌, ◌<◌, ◌∙◌, sym, ap, length, Some, None, reverse, arith}
use Rattle.std.specs.Prelude.{slice_get}
use Rattle.std.proofs.lemmas.List.{length-reverse}
use Rattle.xml_names.specs.Bindings.{resolved, unless_empty}
use Rattle.xml_names.specs.Kept.{place_of}
use Rattle.xml_names.proofs.Numbered.{numbered_at, if_some}
use Rattle.xml_names.proofs.Places.{place_within, seen_unbound, seen_uri}
use Rattle.xml_names.proofs.scopes.Scopes.find.Goals as goal

pub index-requires : goal.index-requires
index-requires c =
    let back = reverse c.self.inside.declarations.items in
    let place = c.in-Some.place.now in
    let is : place_of c.args.prefix.now back ≡ Some place = sym (c.in-Some.ensures.value ∙ c.self.invariant.indexed.finds c.args.prefix.now) in
    let within : place < length c.self.inside.declarations.items = rw (← length-reverse c.self.inside.declarations.items) (place_within c.args.prefix.now back place is) in
    grind (arith, within)

pub returns-in-Some-clause-uri : goal.returns-in-Some-clause-uri
returns-in-Some-clause-uri c =
    let all = c.self.inside.declarations.items in
    let starts = reverse c.self.inside.starts.items in
    let place = c.in-Some.place.now in
    let is : place_of c.args.prefix.now (reverse all) ≡ Some place = sym (c.in-Some.ensures.value ∙ c.self.invariant.indexed.finds c.args.prefix.now) in
    c.numbered.ensures.uri
    ∙ ap (λ uri. unless_empty (Some uri)) (ap (λ d. d.binding.uri) c.index.ensures)
    ∙ ap unless_empty (sym (seen_uri c.args.prefix.now starts all place c.index.result.now is))
    ∙ ap (λ seen. resolved seen.scopes c.args.prefix.now) c.self.view_is

pub returns-in-Some-clause-number : goal.returns-in-Some-clause-number
returns-in-Some-clause-number c =
    let all = c.self.inside.declarations.items in
    let place = c.in-Some.place.now in
    let d = c.index.result.now in
    let is : place_of c.args.prefix.now (reverse all) ≡ Some place = sym (c.in-Some.ensures.value ∙ c.self.invariant.indexed.finds c.args.prefix.now) in
    let within : place < length all = rw (← length-reverse all) (place_within c.args.prefix.now (reverse all) place is) in
    let here : slice_get c.args.self.now.uris d.number ≡ Some d.binding.uri =
    sym (ap (λ seen. slice_get seen.uris d.number) c.self.view_is)
    ∙ ap (λ it. slice_get c.self.inside.uris it.number) c.index.ensures
    ∙ numbered_at c.self.inside.uris all place d within c.self.invariant.numbered
    ∙ ap (λ it. Some it.binding.uri) (sym c.index.ensures) in
    if_some c.numbered.result (λ it same. ap (slice_get c.args.self.now.uris) same.0 ∙ here ∙ ap Some (sym same.1)) c.numbered.ensures.number

pub returns-in-None-clause-uri : goal.returns-in-None-clause-uri
returns-in-None-clause-uri c =
    let all = c.self.inside.declarations.items in
    let starts = reverse c.self.inside.starts.items in
    let is : place_of c.args.prefix.now (reverse all) ≡ None = sym (c.in-None.ensures.value ∙ c.self.invariant.indexed.finds c.args.prefix.now) in
    ap unless_empty (sym (seen_unbound c.args.prefix.now starts all is)) ∙ ap (λ seen. resolved seen.scopes c.args.prefix.now) c.self.view_is
