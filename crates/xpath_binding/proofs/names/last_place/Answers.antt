use Rattle.std.proofs.Common.{arith, ◌≡◌, sym, ap, ◌∙◌, ◌-◌, ◌<◌, ℕ, length, take, get_or, true, false, suc, List}
use Rattle.xpath_syntax.specs.declared.expression.NameRef.{NameRef}
use Rattle.xpath_binding.specs.Names.{is_named}
use Rattle.xpath_binding.specs.Places.{last_place}
use Rattle.xpath_binding.proofs.Last.{last_fails, last_holds}
use Rattle.xpath_binding.proofs.names.last_place.Goals as goal

pub returns-then-is_named : goal.returns-then-is_named
returns-then-is_named c =
    let f = is_named c.args.uri.now c.args.local.now in
    let k : ℕ = c.loop-left.left - 1 in
    let x : NameRef = c.index-as_slice-left.result in
    let held : f (get_or c.args.names.now k x) ≡ true =
    sym (ap f (c.index-as_slice-left.is ∙ ap (λ (xs : List NameRef). get_or xs k x) c.as_slice.ensures)) ∙ sym c.if-is_named.ensures in
    let next : c.loop-left.left ≡ suc k = omega (arith, c.loop-left-test.true) in
    let within : k < length c.args.names.now = omega (arith, c.loop-left.invariant.0, c.loop-left-test.true) in
    sym (c.loop-left.invariant.1 ∙ last_holds f c.args.names.now x k c.loop-left.left next within held)

pub loop-left-preserved : goal.loop-left-preserved
loop-left-preserved c =
    let f = is_named c.args.uri.now c.args.local.now in
    let k : ℕ = c.loop-left.left - 1 in
    let x : NameRef = c.index-as_slice-left.result in
    let fails : f (get_or c.args.names.now k x) ≡ false =
    sym (ap f (c.index-as_slice-left.is ∙ ap (λ (xs : List NameRef). get_or xs k x) c.as_slice.ensures)) ∙ sym c.if-is_named.ensures in
    let next : c.loop-left.left ≡ suc k = omega (arith, c.loop-left-test.true) in
    let within : k < length c.args.names.now = omega (arith, c.loop-left.invariant.0, c.loop-left-test.true) in
    (omega (arith, c.loop-left.invariant.0), c.loop-left.invariant.1 ∙ last_fails f c.args.names.now x k c.loop-left.left next within fails)

pub returns : goal.returns
returns c =
    let f = is_named c.args.uri.now c.args.local.now in
    let none : c.loop-left.left ≡ 0 = omega (arith, c.loop-left-test.false) in
    sym (c.loop-left.invariant.1 ∙ ap (λ n. last_place f (take n c.args.names.now)) none)
