use Rattle.std.proofs.Common.{arith, refl, sym, ap, subst, ◌≡◌, ◌+◌, length, Ok, Err}
use Rattle.key_sources.proofs.Saying.{says_exit, says_same}
use Rattle.xpath_core.proofs.Giving.{streamed, gave_none, streams_on}
use Rattle.xpath_core.proofs.path_stream.PathStream.next.Goals as goal
use Rattle.xpath_core.specs.Left.{IsLeft, IsPlace, left_at, taken_in}
use Rattle.xpath_meaning.specs.Readings.{values_of}
use Rattle.xpath_meaning.specs.Streams.{first_item}

pub next_item-requires-clause-ready : goal.next_item-requires-clause-ready
next_item-requires-clause-ready g c = c.requires.ready

pub next_item-requires-clause-place : goal.next_item-requires-clause-place
next_item-requires-clause-place g c =
    let s = g.V.NodeView.sees c.args.view.now in
    subst (λ ps. IsPlace s.rules s.steps ps c.args.self.now.place) (sym c.as_slice-parts.ensures) c.requires.stands.place

pub returns-in_err-item-clause-went : goal.returns-in_err-item-clause-went
returns-in_err-item-clause-went g c = c.in_err-item.ensures.went

pub returns-in_err-item-clause-answers : goal.returns-in_err-item-clause-answers
returns-in_err-item-clause-answers g c = says_exit c.from_residual.result c.from_residual.ensures.1
    (streamed c.args.self.now _ c.in_err-item.ensures.went.moves c.requires.stands
    (says_same (λ R. ap (λ ps. first_item (left_at ps c.args.self.now.place R (values_of c.args.env.now) c.args.self.now.context)) (sym c.as_slice-parts.ensures)) c.in_err-item.ensures.answers))

pub returns-in_err-item-clause-took : goal.returns-in_err-item-clause-took
returns-in_err-item-clause-took g c =
    record { path = refl; context = refl; given = gave_none (λ d. d ≡ c.in_err-item.field-0.0) c.args.self.now.given c.from_residual.result c.from_residual.ensures.1 }

pub returns-in_err-item-clause-stands : goal.returns-in_err-item-clause-stands
returns-in_err-item-clause-stands g c =
    let t = g.V.NodeView.sees c.next_item.new.view in
    let place = subst (λ ps. IsPlace t.rules t.steps ps c.next_item.new.place) c.as_slice-parts.ensures c.in_err-item.ensures.place in
    let left = subst (λ ps. IsLeft (g.K.KeySource.made c.args.keys.now).lookups t.rules t.steps ps
    (values_of c.args.env.now) c.args.self.now.context c.args.self.now.place c.next_item.new.place (Err c.in_err-item.field-0.0)) c.as_slice-parts.ensures c.in_err-item.ensures.left in
    let stopped : c.args.self.now.given ≡ c.args.self.now.given + length (taken_in (Err c.in_err-item.field-0.0)) = omega arith in
    streams_on c.args.self.now (record c.args.self.now { place = c.next_item.new.place }) (Err c.in_err-item.field-0.0) c.in_err-item.ensures.went.moves c.requires.stands
    (record { path = refl; context = refl; given = stopped }) place left

pub returns-clause-went : goal.returns-clause-went
returns-clause-went g c = c.in_ok-item.ensures.went

pub returns-clause-answers : goal.returns-clause-answers
returns-clause-answers g c =
    streamed c.args.self.now _ c.in_ok-item.ensures.went.moves c.requires.stands
    (says_same (λ R. ap (λ ps. first_item (left_at ps c.args.self.now.place R (values_of c.args.env.now) c.args.self.now.context)) (sym c.as_slice-parts.ensures)) c.in_ok-item.ensures.answers)

pub returns-clause-took : goal.returns-clause-took
returns-clause-took g c = record { path = refl; context = refl; given = c.counted-self.ensures }

pub returns-clause-stands : goal.returns-clause-stands
returns-clause-stands g c =
    let t = g.V.NodeView.sees c.next_item.new.view in
    let place = subst (λ ps. IsPlace t.rules t.steps ps c.next_item.new.place) c.as_slice-parts.ensures c.in_ok-item.ensures.place in
    let left = subst (λ ps. IsLeft (g.K.KeySource.made c.args.keys.now).lookups t.rules t.steps ps
    (values_of c.args.env.now) c.args.self.now.context c.args.self.now.place c.next_item.new.place (Ok c.in_ok-item.item)) c.as_slice-parts.ensures c.in_ok-item.ensures.left in
    streams_on c.args.self.now (record c.args.self.now { place = c.next_item.new.place; given = c.counted-self.result }) (Ok c.in_ok-item.item) c.in_ok-item.ensures.went.moves c.requires.stands
    (record { path = refl; context = refl; given = c.counted-self.ensures }) place left
