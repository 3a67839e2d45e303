use Rattle.std.proofs.Common.{sym, subst}
use Rattle.plain_columns.specs.Seen.{seen_of}
use Rattle.plain_columns.specs.Value.{Table}
use Rattle.axis_walkers.specs.Streams.{IsStream}
use Rattle.view_cases.proofs.Still.{stream_stands}
use Rattle.view_cases.proofs.tests.look.Goals as goal

pub returns : goal.returns
returns c =
    let before = subst (λ (table : Table). IsStream (seen_of table.cells) c.args.stream.now) (sym c.view.ensures) c.requires in
    subst (λ (table : Table). IsStream (seen_of table.cells) c.next.new.self) c.view.ensures
    (stream_stands c.view.result.cells (seen_of c.next.new.view.cells) c.args.stream.now c.next.new.self c.next.result c.next.ensures.moves before c.next.ensures.value)
