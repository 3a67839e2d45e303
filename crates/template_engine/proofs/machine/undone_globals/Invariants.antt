use Rattle.std.proofs.Common.{◌≡◌, map, take, []}
use Rattle.template_engine.proofs.machine.undone_globals.Given as goal
use Rattle.sheet_ast.specs.declared.sheet.Global.{Global}
use Rattle.xpath_meaning.specs.Conversions.{text}

abbrev pub invariant-loop-global : goal.invariant-loop-global
invariant-loop-global l = l.values ≡ map (λ (global : Global). text []) (take l._global-index l.fn.globals)
