use Rattle.std.proofs.Common.{◌∙◌, length, sym, ap, subst, reverse, ◌∷◌, []}
use Rattle.shared_texts.specs.Numbers.{with_text}
use Rattle.xml_names.specs.Bindings.{bound_in}
use Rattle.xml_names.specs.Kept.{AreStarts, AreNumbered, KeepsFixed, scopes_of, bindings_of}
use Rattle.xml_names.specs.declared.index.Declaration.{Declaration}
use Rattle.std.proofs.lemmas.List.{reverse-append}
use Rattle.xml_names.proofs.Fixed.{fixed_more}
use Rattle.xml_names.proofs.Numbered.{numbered_kept, numbered_more}
use Rattle.xml_names.proofs.Views.{starts_bound, seen_bound}
use Rattle.xml_names.proofs.scopes.Scopes.bind.Goals as goal

pub invariant_of-self : goal.invariant_of-self
invariant_of-self c =
    let same = c.in_err-declare.ensures.err in
    let before = c.self.inside.declarations.items in
    let starts = reverse c.self.inside.starts.items in
    record {
      nested = subst (λ all. AreStarts starts (length all)) (sym same) c.self.invariant.nested;
      indexed = c.declare.ensures.indexed;
      fixed = subst (λ all. KeepsFixed (reverse all)) (sym same) c.self.invariant.fixed;
      empty = c.declare.ensures.keeps _ 0 c.self.invariant.empty;
      numbered = subst (AreNumbered c.declare.new.uris) (sym same) (numbered_kept _ _ before c.declare.ensures.keeps c.self.invariant.numbered);
    }

pub invariant_of-self-2 : goal.invariant_of-self-2
invariant_of-self-2 c =
    let made = c.in_ok-declare.ensures.ok in
    let it : Declaration = record { binding = record { prefix = c.args.prefix.now; uri = c.args.uri.now }; number = made.1; hidden = made.0 } in
    let before = c.self.inside.declarations.items in
    let starts = reverse c.self.inside.starts.items in
    record {
      nested = subst (λ all. AreStarts starts (length all)) (sym made.4) (starts_bound starts before it c.self.invariant.nested);
      indexed = c.declare.ensures.indexed;
      fixed = rw (made.4, reverse-append before (it ∷ [])) (fixed_more it (reverse before) c.requires c.self.invariant.fixed);
      empty = c.declare.ensures.keeps _ 0 c.self.invariant.empty;
      numbered = subst (AreNumbered c.declare.new.uris) (sym made.4) (numbered_more c.declare.new.uris before it made.2 (numbered_kept _ _ before c.declare.ensures.keeps c.self.invariant.numbered));
    }

pub returns-clause-ok : goal.returns-clause-ok
returns-clause-ok c =
    let made = c.in_ok-declare.ensures.ok in
    let it : Declaration = record { binding = record { prefix = c.args.prefix.now; uri = c.args.uri.now }; number = made.1; hidden = made.0 } in
    let starts = reverse c.self.inside.starts.items in
    ap (λ all. scopes_of starts (bindings_of all)) made.4
    ∙ seen_bound starts c.self.inside.declarations.items it c.self.invariant.nested
    ∙ ap (λ seen. bound_in seen.scopes it.binding) c.self.view_is

pub returns-clause-uris : goal.returns-clause-uris
returns-clause-uris c = c.in_ok-declare.ensures.ok.3 ∙ ap (λ seen. with_text seen.uris c.args.uri.now) c.self.view_is
