use Rattle.std.proofs.Common.{◌≡◌, ◌∙◌, ◌-◌, ◌≤◌, ◌++◌, length, filter, sym, ap, arith, append_assoc}
use Rattle.doc_model.specs.Relations.{numbers}
use Rattle.doc_model.specs.Rows.{rows_of}
use Rattle.doc_laws.proofs.Moving.{moves_on}
use Rattle.doc_laws.proofs.Root.{length_grows}
use Rattle.axis_walkers.specs.Offered.{only_if, is_plain}
use Rattle.axis_walkers.proofs.Offering.{range_on, range_moves}
use Rattle.axis_walkers.proofs.selection.Selection.offer_range.Goals as goal

pub offer_plain-requires-clause-joined : goal.offer_plain-requires-clause-joined
offer_plain-requires-clause-joined g c = omega (arith, c.requires.within, length_grows _ _ c.loop-k.invariant.moved.grows)

pub offer_plain-requires-clause-seen : goal.offer_plain-requires-clause-seen
offer_plain-requires-clause-seen g c = c.loop-k.invariant.moved.seen

pub offer_plain-requires-clause-met : goal.offer_plain-requires-clause-met
offer_plain-requires-clause-met g c = c.loop-k.invariant.met

pub loop-k-preserved : goal.loop-k-preserved
loop-k-preserved g c =
    let inv = c.loop-k.invariant in
    let m = c.offer_plain.ensures.moves in
    let s = g.V.NodeView.sees c.offer_plain.new.view in
    let f = is_plain s.rules (rows_of s.steps) c.args.test.now in
    let k = c.loop-k.k in
    let fits : c.loop-k.k ≤ length (rows_of (g.V.NodeView.sees c.loop-k.view).steps) = omega (arith, c.requires.within, length_grows _ _ inv.moved.grows) in
    record {
      moved = moves_on _ _ _ inv.moved m;
      met = c.offer_plain.ensures.met;
      found =
          c.in_ok-offer_plain.ensures.rows ∙ ap (λ xs. xs ++ only_if (f k) k) (inv.found ∙ ap (λ xs. c.args.self.now.rows ++ xs) (sym (range_moves _ _ c.args.test.now c.args.from k m fits)))
          ∙ append_assoc c.args.self.now.rows (filter f (numbers c.args.from (k - c.args.from))) (only_if (f k) k)
          ∙ ap (λ xs. c.args.self.now.rows ++ xs) (sym (range_on f c.args.from k (omega arith)));
    }

pub returns-clause-rows : goal.returns-clause-rows
returns-clause-rows g c =
    let s = g.V.NodeView.sees c.loop-k.view in
    let f = is_plain s.rules (rows_of s.steps) c.args.test.now in
    let e : c.loop-k.k ≡ c.args.to = omega (arith, c.requires.order) in
    c.loop-k.invariant.found ∙ ap (λ k. c.args.self.now.rows ++ filter f (numbers c.args.from (k - c.args.from))) e
