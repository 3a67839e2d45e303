use Rattle.std.proofs.Common.{rules, ◌≡◌, Err}
use Rattle.sheet_compile.specs.Modules.{module_from}
use Rattle.sheet_compile.specs.Stops.{stop_of_reading}
use Rattle.sheet_compile.proofs.Exits.{element_stops, elements_give, told}
use Rattle.sheet_compile.proofs.modules.elements.Goals as goal

pub returns-in_err-root : goal.returns-in_err-root
returns-in_err-root c =
    let given : c.from_residual.result ≡ Err (stop_of_reading c.in_err-root.field-0.0) = search rules in
    told (module_from c.args.document) c.from_residual.result (stop_of_reading c.in_err-root.field-0.0) given
    (element_stops c.args.document c.in_err-root.field-0.0 c.in_err-root.ensures)

pub returns : goal.returns
returns c = elements_give c.args.document c.in_ok-root.root c.in_ok-root.ensures
