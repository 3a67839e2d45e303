use Rattle.std.proofs.Common.{rules, ◌≡◌, Err}
use Rattle.sheet_compile.specs.Modules.{module_of}
use Rattle.sheet_compile.specs.Stops.{stop_of_source}
use Rattle.sheet_compile.proofs.Exits.{document_gives, flaw_stops, told}
use Rattle.sheet_compile.proofs.modules.read_module.Goals as goal

pub returns-in_err-document : goal.returns-in_err-document
returns-in_err-document c =
    let given : c.from_residual.result ≡ Err (stop_of_source c.in_err-document.field-0.0) = search rules in
    told (module_of c.args.bytes.now) c.from_residual.result (stop_of_source c.in_err-document.field-0.0) given
    (flaw_stops c.args.bytes.now c.in_err-document.field-0.0 c.in_err-document.ensures)

pub returns : goal.returns
returns c = document_gives c.args.bytes.now c.in_ok-document.document c.elements.result c.in_ok-document.ensures c.elements.ensures
