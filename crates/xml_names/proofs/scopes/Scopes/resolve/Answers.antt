use Rattle.std.proofs.Common.{◌≡◌, ◌<◌, ◌∙◌, sym, ap, length, Some, None, reverse, arith}
use Rattle.std.proofs.lemmas.List.{length-reverse}
use Rattle.xml_names.specs.Bindings.{resolved, unless_empty}
use Rattle.xml_names.specs.Kept.{place_of}
use Rattle.xml_names.proofs.Fixed.{xml_resolved, xmlns_resolved}
use Rattle.xml_names.proofs.Places.{place_within, seen_unbound, seen_uri}
use Rattle.xml_names.proofs.scopes.Scopes.resolve.Goals as goal

pub index-requires : goal.index-requires
index-requires c =
    let back = reverse c.self.inside.declarations.items in
    let place = c.in-Some.place.now in
    let is : place_of c.args.prefix.now back ≡ Some place = sym (c.in-Some.ensures.value ∙ c.self.invariant.indexed.finds c.args.prefix.now) in
    let within : place < length c.self.inside.declarations.items = rw (← length-reverse c.self.inside.declarations.items) (place_within c.args.prefix.now back place is) in
    grind (arith, within)

pub returns-in-Some-clause-innermost : goal.returns-in-Some-clause-innermost
returns-in-Some-clause-innermost c =
    let all = c.self.inside.declarations.items in
    let starts = reverse c.self.inside.starts.items in
    let place = c.in-Some.place.now in
    let is : place_of c.args.prefix.now (reverse all) ≡ Some place = sym (c.in-Some.ensures.value ∙ c.self.invariant.indexed.finds c.args.prefix.now) in
    c.unless_empty.ensures
    ∙ ap (λ uri. unless_empty (Some uri)) (ap (λ d. d.binding.uri) c.index.ensures)
    ∙ ap unless_empty (sym (seen_uri c.args.prefix.now starts all place c.index.result.now is))
    ∙ ap (λ seen. resolved seen.scopes c.args.prefix.now) c.self.view_is

pub returns-in-None-clause-innermost : goal.returns-in-None-clause-innermost
returns-in-None-clause-innermost c =
    let all = c.self.inside.declarations.items in
    let starts = reverse c.self.inside.starts.items in
    let is : place_of c.args.prefix.now (reverse all) ≡ None = sym (c.in-None.ensures.value ∙ c.self.invariant.indexed.finds c.args.prefix.now) in
    ap unless_empty (sym (seen_unbound c.args.prefix.now starts all is)) ∙ ap (λ seen. resolved seen.scopes c.args.prefix.now) c.self.view_is

pub returns-in-Some-clause-xml : goal.returns-in-Some-clause-xml
returns-in-Some-clause-xml c = xml_resolved c.args.self.now.scopes _ c.self.inside.declarations.items c.self.invariant.fixed (ap (λ seen. seen.scopes) c.self.view_is)

pub returns-in-Some-clause-xmlns : goal.returns-in-Some-clause-xmlns
returns-in-Some-clause-xmlns c = xmlns_resolved c.args.self.now.scopes _ c.self.inside.declarations.items c.self.invariant.fixed (ap (λ seen. seen.scopes) c.self.view_is)

pub returns-in-None-clause-xml : goal.returns-in-None-clause-xml
returns-in-None-clause-xml c = xml_resolved c.args.self.now.scopes _ c.self.inside.declarations.items c.self.invariant.fixed (ap (λ seen. seen.scopes) c.self.view_is)

pub returns-in-None-clause-xmlns : goal.returns-in-None-clause-xmlns
returns-in-None-clause-xmlns c = xmlns_resolved c.args.self.now.scopes _ c.self.inside.declarations.items c.self.invariant.fixed (ap (λ seen. seen.scopes) c.self.view_is)
