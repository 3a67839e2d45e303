use Rattle.std.proofs.Common.{sym, subst, arith, ◌+◌, ◌≡◌, add-one}
use Rattle.document_questions.proofs.Following.{gave, ended, waits, left_same}
use Rattle.document_questions.specs.Following.{AreLeft}
use Rattle.document_questions.proofs.children.next_child.Goals as goal

pub returns-in-Node-clause-answers : goal.returns-in-Node-clause-answers
returns-in-Node-clause-answers g c =
    let one = gave _ _ c.args.stream.now c.next.new.self c.args.n c.args.taken c.in-Node.child c.in-Node.ensures.moves c.requires c.in-Node.ensures.value in
    λ lookups. record { answers = one.next lookups }

pub returns-in-Node-clause-left : goal.returns-in-Node-clause-left
returns-in-Node-clause-left g c =
    let t = g.V.NodeView.sees c.next.new.view in
    let one = gave _ _ c.args.stream.now c.next.new.self c.args.n c.args.taken c.in-Node.child c.in-Node.ensures.moves c.requires c.in-Node.ensures.value in
    subst (λ k. AreLeft t.rules t.steps c.next.new.self c.args.n k) (sym (add-one c.args.taken)) one.left

pub returns-in-Node-clause-there : goal.returns-in-Node-clause-there
returns-in-Node-clause-there g c =
    let one = gave _ _ c.args.stream.now c.next.new.self c.args.n c.args.taken c.in-Node.child c.in-Node.ensures.moves c.requires c.in-Node.ensures.value in
    one.there

pub returns-in-Nothing-clause-answers : goal.returns-in-Nothing-clause-answers
returns-in-Nothing-clause-answers g c =
    λ lookups. record { answers = ended _ _ c.args.stream.now c.next.new.self c.args.n c.args.taken c.in-Nothing.ensures.moves c.requires c.in-Nothing.ensures.value lookups }

pub returns-in-Nothing-clause-left : goal.returns-in-Nothing-clause-left
returns-in-Nothing-clause-left g c =
    let same : c.args.taken + 0 ≡ c.args.taken = omega arith in
    left_same _ _ c.args.stream.now c.next.new.self c.args.n c.args.taken _ c.in-Nothing.ensures.moves c.requires c.in-Nothing.ensures.value.2 same

pub returns-in-NotYet-clause-answers : goal.returns-in-NotYet-clause-answers
returns-in-NotYet-clause-answers g c = waits _ _ c.args.stream.now c.next.new.self c.args.n c.args.taken c.in-NotYet.ensures.moves c.requires c.in-NotYet.ensures.value

pub returns-in-NotYet-clause-left : goal.returns-in-NotYet-clause-left
returns-in-NotYet-clause-left g c =
    let same : c.args.taken + 0 ≡ c.args.taken = omega arith in
    left_same _ _ c.args.stream.now c.next.new.self c.args.n c.args.taken _ c.in-NotYet.ensures.moves c.requires c.in-NotYet.ensures.value.1 same
