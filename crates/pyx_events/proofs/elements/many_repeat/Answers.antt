use Rattle.std.proofs.Common.{◌≡◌, ◌==◌, ◌&&◌, ◌||◌, not, ℕ, List, Some, get_or, sym, ap, ◌∙◌}
use Rattle.std.specs.Prelude.{slice_get}
use Rattle.std.specs.Str.{bytes_eq}
use Rattle.doc_model.specs.declared.row.Row.{Row}
use Rattle.pyx_events.specs.Expanded.{has_name}
use Rattle.pyx_events.proofs.Numbered.{numbered_at}
use Rattle.pyx_events.proofs.Expanded.{again_at, apart_at, has_more, has_next, denied}
use Rattle.pyx_events.proofs.elements.many_repeat.Goals as goal

pub returns-then-not-branch : goal.returns-then-not-branch
returns-then-not-branch c =
    let uris = c.args.scopes.now.uris in
    let rows = c.args.rows.now in
    let names = c.loop-i.names in
    let x = c.index-rows-i.result in
    let m : ℕ = get_or c.args.numbers.now c.loop-i.i 0 in
    let here : slice_get uris m ≡ Some x.uri =
    numbered_at uris rows c.args.numbers.now c.loop-i.i x 0 c.requires c.loop-i-test.true ∙ ap (λ (row : Row). Some row.uri) (sym c.index-rows-i.is) in
    let local : c.as_slice.result.now ≡ x.local = c.as_slice.ensures ∙ ap (λ (row : Row). row.local) (sym c.index-rows-i.is) in
    let new : c.in_ok-add.field-0 ≡ not (has_name names m x.local) = c.in_ok-add.ensures.new ∙ ap (λ (text : List ℕ). not (has_name names m text)) local in
    again_at rows c.loop-i.i x c.loop-i-test.true c.index-rows-i.is
    (sym (c.loop-i.invariant.1 x m here) ∙ denied _ _ new ∙ ap not c.if-not-branch.true)

pub loop-i-preserved : goal.loop-i-preserved
loop-i-preserved c =
    let uris = c.args.scopes.now.uris in
    let rows = c.args.rows.now in
    let names = c.loop-i.names in
    let x = c.index-rows-i.result in
    let m : ℕ = get_or c.args.numbers.now c.loop-i.i 0 in
    let here : slice_get uris m ≡ Some x.uri =
    numbered_at uris rows c.args.numbers.now c.loop-i.i x 0 c.requires c.loop-i-test.true ∙ ap (λ (row : Row). Some row.uri) (sym c.index-rows-i.is) in
    let local : c.as_slice.result.now ≡ x.local = c.as_slice.ensures ∙ ap (λ (row : Row). row.local) (sym c.index-rows-i.is) in
    let new : c.in_ok-add.field-0 ≡ not (has_name names m x.local) = c.in_ok-add.ensures.new ∙ ap (λ (text : List ℕ). not (has_name names m text)) local in
    let added : (other : ℕ) (name : List ℕ) → has_name c.add.new.self other name ≡ ((other == m && bytes_eq name x.local) || has_name names other name) =
    λ other name. c.in_ok-add.ensures.added other name ∙ ap (λ (text : List ℕ). (other == m && bytes_eq name text) || has_name names other name) local in (
      apart_at rows c.loop-i.i x c.loop-i-test.true c.index-rows-i.is c.loop-i.invariant.0
          (sym (c.loop-i.invariant.1 x m here) ∙ denied _ _ new ∙ ap not c.if-not-branch.false),
      has_next uris rows c.loop-i.i x c.add.new.self c.loop-i-test.true c.index-rows-i.is
          (has_more uris _ x m names c.add.new.self c.numbers_tell_uris.ensures.told here c.loop-i.invariant.1 added),
    )
