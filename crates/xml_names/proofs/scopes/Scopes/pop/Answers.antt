use Rattle.std.proofs.Common.{length, subst, ◌≡◌, ◌∷◌, [], ◌++◌, ◌∙◌, sym, ap, reverse, drop}
use Rattle.std.specs.Option.{option_to_list}
use Rattle.std.proofs.lemmas.List.{reverse-append, length-take-le}
use Rattle.xml_names.specs.Kept.{AreStarts, scopes_of, bindings_of}
use Rattle.xml_names.proofs.Fixed.{fixed_before, starts_some}
use Rattle.xml_names.proofs.Numbered.{numbered_before}
use Rattle.xml_names.proofs.Views.{seen_left}
use Rattle.xml_names.proofs.scopes.Scopes.pop.Goals as goal

pub invariant_of-self : goal.invariant_of-self
invariant_of-self c =
    let all = c.self.inside.declarations.items in
    let start = c.unwrap-start.result in
    let outer = c.pop.new.self.items in
    let last : c.self.inside.starts.items ≡ outer ++ start ∷ [] = c.pop.ensures.items ∙ ap (λ popped. outer ++ option_to_list popped) c.unwrap-start.ensures in
    let nested : AreStarts (start ∷ reverse outer) (length all) = subst (λ starts. AreStarts starts (length all)) (ap reverse last ∙ reverse-append outer (start ∷ [])) c.self.invariant.nested in
    record {
      nested = rw (c.withdraw.ensures.kept, length-take-le start all nested.0) nested.1;
      indexed = c.withdraw.ensures.indexed;
      fixed = rw c.withdraw.ensures.kept (fixed_before start all (starts_some (reverse outer) start nested.1) nested.0 c.self.invariant.fixed);
      empty = c.self.invariant.empty;
      numbered = rw c.withdraw.ensures.kept (numbered_before _ start all c.self.invariant.numbered);
    }

pub returns-clause-scopes : goal.returns-clause-scopes
returns-clause-scopes c =
    let all = c.self.inside.declarations.items in
    let start = c.unwrap-start.result in
    let outer = c.pop.new.self.items in
    let last : c.self.inside.starts.items ≡ outer ++ start ∷ [] = c.pop.ensures.items ∙ ap (λ popped. outer ++ option_to_list popped) c.unwrap-start.ensures in (
      reverse (drop start (bindings_of all)),
      sym (ap (λ seen. seen.scopes) c.self.view_is) ∙ ap (λ starts. scopes_of (reverse starts) (bindings_of all)) last ∙ seen_left outer start all
          ∙ ap (λ kept. reverse (drop start (bindings_of all)) ∷ scopes_of (reverse outer) (bindings_of kept)) (sym c.withdraw.ensures.kept),
    )
