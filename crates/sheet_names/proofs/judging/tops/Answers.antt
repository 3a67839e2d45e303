use Rattle.std.proofs.Common.{◌≡◌, Err, arith, rules}
use Rattle.sheet_names.specs.Declaring.{no_names}
use Rattle.sheet_names.specs.Judging.{tops}
use Rattle.sheet_names.proofs.Turns.{told, top_ends, top_goes_on, top_stops}
use Rattle.sheet_reading.specs.declared.stop.ReadStop.{ReadStop}
use Rattle.sheet_names.proofs.judging.tops.Goals as goal

pub loop-item-preserved : goal.loop-item-preserved
loop-item-preserved c = top_goes_on c.args.names.now c.loop-item.earlier c.add_item.new.names c.args.items.now c.loop-item.item-index c.item-item.result _ _
    c.loop-item-test.true c.item-item.is c.loop-item.invariant c.in_ok-top_item.ensures c.in_ok-add_item.ensures

pub returns-in_err-top_item : goal.returns-in_err-top_item
returns-in_err-top_item c =
    let stop : ReadStop = c.in_err-top_item.field-0.0 in
    let given : c.from_residual.result ≡ Err stop = search rules in
    told (tops c.args.names.now no_names c.args.items.now) c.from_residual.result stop given
    (top_stops c.args.names.now c.loop-item.earlier c.args.items.now c.loop-item.item-index c.item-item.result stop _
    c.loop-item-test.true c.item-item.is c.loop-item.invariant c.in_err-top_item.ensures)

pub returns : goal.returns
returns c = top_ends c.args.names.now c.loop-item.earlier c.args.items.now c.loop-item.item-index _ (omega (arith, c.loop-item-test.false)) c.loop-item.invariant
