use Rattle.std.proofs.Common.{rules, ◌≡◌, Err}
use Rattle.sheet_compile.specs.declared.stop.CompileStop.{CompileStop}
use Rattle.sheet_compile.specs.Compiling.{items_in, sheet_or_fault}
use Rattle.sheet_compile.specs.Modules.{module_of}
use Rattle.sheet_compile.proofs.Exits.{joins_told, source_joins, source_stops}
use Rattle.sheet_compile.proofs.compiling.compile.Goals as goal

pub returns-in_err-source : goal.returns-in_err-source
returns-in_err-source c =
    let stop : CompileStop = c.in_err-source.field-0.0 in
    let given : c.from_residual.result ≡ Err stop = search rules in
    joins_told (sheet_or_fault c.args.bytes.now) (items_in (module_of c.args.bytes.now)) c.from_residual.result stop given
    (source_stops c.args.bytes.now stop c.in_err-source.ensures)

pub returns : goal.returns
returns c = source_joins c.args.bytes.now c.in_ok-source.source c.join.result c.in_ok-source.ensures c.join.ensures
