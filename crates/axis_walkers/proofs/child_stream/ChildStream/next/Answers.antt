use Rattle.std.proofs.Common.{◌∙◌, ◌++◌, ◌∷◌, [], refl, sym, ap, subst}
use Rattle.std.proofs.lemmas.Bool.{not-false, not-true}
use Rattle.doc_model.specs.Rows.{rows_of}
use Rattle.doc_laws.proofs.Growth.{joined_grows}
use Rattle.axis_walkers.specs.Streams.{given_to, StandsTo}
use Rattle.axis_walkers.proofs.Given.{stands_later, first_given, first_all, next_given, next_all, next_decides, next_all_at}
use Rattle.axis_walkers.proofs.child_stream.ChildStream.next.Goals as goal

pub returns-in-Node-clause-value : goal.returns-in-Node-clause-value
returns-in-Node-clause-value g c =
    let m = c.next.ensures.moves in
    let n = c.args.self.now.n in
    let u = g.V.NodeView.sees c.next.new.self in
    let s = stands_later _ _ n c.in-Some.last _ m c.in-Some.is c.requires.1 in
    let t = next_given u.rules (rows_of u.steps) n c.in-Some.last c.in-Node.k s c.in-Node.ensures.value in
    (t.0 ∙ ap (λ o. given_to u.rules (rows_of u.steps) n o ++ c.in-Node.k ∷ []) (sym c.in-Some.is), refl, refl, (joined_grows _ _ n m.grows c.requires.0, t.1))

pub returns-in-Nothing-clause-value : goal.returns-in-Nothing-clause-value
returns-in-Nothing-clause-value g c =
    let m = c.next.ensures.moves in
    let n = c.args.self.now.n in
    let u = g.V.NodeView.sees c.next.new.self in
    let s = stands_later _ _ n c.in-Some.last _ m c.in-Some.is c.requires.1 in
    let v = c.in-Nothing.ensures.value in
    (ap (given_to u.rules (rows_of u.steps) n) c.in-Some.is ∙ next_all u.rules (rows_of u.steps) n c.in-Some.last s v.0, not-true _ (next_decides u.rules u.steps n c.in-Some.last _ s v.1), refl)

pub returns-in-NotYet-clause-value : goal.returns-in-NotYet-clause-value
returns-in-NotYet-clause-value g c =
    let a = c.in-NotYet.ensures.value in
    ((a.0, a.1, a.2, next_all_at _ _ (a.0) c.args.self.now.n c.in-Some.last _ c.next.ensures.moves c.in-Some.is c.requires.1 a.1 a.3), refl)

pub returns-in-Node-first-clause-value : goal.returns-in-Node-first-clause-value
returns-in-Node-first-clause-value g c =
    let m = c.first.ensures.moves in
    let n = c.args.self.now.n in
    let u = g.V.NodeView.sees c.first.new.self in
    let t = first_given u.rules (rows_of u.steps) n c.in-Node-first.k c.in-Node-first.ensures.value in
    (t.0 ∙ ap (λ o. given_to u.rules (rows_of u.steps) n o ++ c.in-Node-first.k ∷ []) (sym c.in-None.is), refl, refl, (joined_grows _ _ n m.grows c.requires.0, t.1))

pub next-requires : goal.next-requires
next-requires g c =
    let s = g.V.NodeView.sees c.args.view.now in
    (subst (λ o. StandsTo s.rules (rows_of s.steps) c.args.self.now.n o) c.in-Some.is c.requires.1).0

pub first-requires : goal.first-requires
first-requires g c = c.requires.0

pub returns-in-Node-clause-moves : goal.returns-in-Node-clause-moves
returns-in-Node-clause-moves g c = c.next.ensures.moves

pub returns-in-Nothing-clause-moves : goal.returns-in-Nothing-clause-moves
returns-in-Nothing-clause-moves g c = c.next.ensures.moves

pub returns-in-NotYet-clause-moves : goal.returns-in-NotYet-clause-moves
returns-in-NotYet-clause-moves g c = c.next.ensures.moves

pub returns-in-Node-first-clause-moves : goal.returns-in-Node-first-clause-moves
returns-in-Node-first-clause-moves g c = c.first.ensures.moves

pub returns-in-Nothing-first-clause-moves : goal.returns-in-Nothing-first-clause-moves
returns-in-Nothing-first-clause-moves g c = c.first.ensures.moves

pub returns-in-NotYet-first-clause-moves : goal.returns-in-NotYet-first-clause-moves
returns-in-NotYet-first-clause-moves g c = c.first.ensures.moves

pub returns-in-Nothing-first-clause-value : goal.returns-in-Nothing-first-clause-value
returns-in-Nothing-first-clause-value g c =
    let u = g.V.NodeView.sees c.first.new.self in
    let n = c.args.self.now.n in
    let v = c.in-Nothing-first.ensures.value in
    (ap (given_to u.rules (rows_of u.steps) n) c.in-None.is ∙ first_all u.rules (rows_of u.steps) n v.0, not-true _ v.1, refl)

pub returns-in-NotYet-first-clause-value : goal.returns-in-NotYet-first-clause-value
returns-in-NotYet-first-clause-value g c =
    let u = g.V.NodeView.sees c.first.new.self in
    let n = c.args.self.now.n in
    let a = c.in-NotYet-first.ensures.value in
    ((a.0, a.1, a.2, (ap (given_to u.rules (rows_of (a.0)) n) c.in-None.is ∙ first_all u.rules (rows_of (a.0)) n a.3.0, not-false _ a.3.1)), refl)
