use Rattle.std.proofs.Common.{◌∙◌, ◌≤◌, length, sym, ap, subst, take, arith}
use Rattle.std.proofs.lemmas.List.{take-append-le}
use Rattle.xml_names.specs.Kept.{IsIndexed}
use Rattle.xml_names.proofs.Indexing.{found_last, indexed_less}
use Rattle.xml_names.proofs.index.withdraw.Goals as goal

pub reveal-requires : goal.reveal-requires
reveal-requires c =
    let before = subst (λ all. IsIndexed all c.loop-declarations.latest) c.in-Some.ensures.items c.loop-declarations.invariant.0 in
    rw c.as_slice.ensures (found_last c.pop.new.self.items c.loop-declarations.latest c.in-Some.declaration before)

pub loop-declarations-preserved-in-Some : goal.loop-declarations-preserved-in-Some
loop-declarations-preserved-in-Some c =
    let before = subst (λ all. IsIndexed all c.loop-declarations.latest) c.in-Some.ensures.items c.loop-declarations.invariant.0 in
    let within : c.args.start ≤ length c.pop.new.self.items = grind (arith, c.in-Some.ensures.items, c.loop-declarations-test.true) in (
      indexed_less c.pop.new.self.items c.loop-declarations.latest c.reveal.new.latest c.in-Some.declaration before (λ prefix. rw (← c.as_slice.ensures) (c.reveal.ensures prefix)),
      sym (take-append-le c.args.start c.pop.new.self.items _ within) ∙ ap (take c.args.start) (sym c.in-Some.ensures.items) ∙ c.loop-declarations.invariant.1,
    )

pub loop-declarations-preserved-in-Some-2 : goal.loop-declarations-preserved-in-Some-2
loop-declarations-preserved-in-Some-2 c =
    let before = subst (λ all. IsIndexed all c.loop-declarations.latest) c.in-Some.ensures.items c.loop-declarations.invariant.0 in
    let within : c.args.start ≤ length c.pop.new.self.items = grind (arith, c.in-Some.ensures.items, c.loop-declarations-test.true) in (
      indexed_less c.pop.new.self.items c.loop-declarations.latest c.reveal.new.latest c.in-Some.declaration before (λ prefix. rw (← c.as_slice.ensures) (c.reveal.ensures prefix)),
      sym (take-append-le c.args.start c.pop.new.self.items _ within) ∙ ap (take c.args.start) (sym c.in-Some.ensures.items) ∙ c.loop-declarations.invariant.1,
    )
