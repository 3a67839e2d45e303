-- The start of a transformation.
use Rattle.std.proofs.Common.{refl, List, [], ◌∷◌, map, arith}
use Rattle.doc_model.specs.Rows.{rows_of}
use Rattle.doc_model.specs.declared.step.Step.{Step}
use Rattle.doc_model.specs.declared.strip_rule.StripRule.{StripRule}
use Rattle.sheet_ast.specs.declared.sheet.Global.{Global}
use Rattle.xpath_laws.proofs.There.{seen_if_no_text}
use Rattle.xpath_laws.specs.Sound.{AllValues, IsThere, Rows}
use Rattle.xpath_meaning.specs.Conversions.{text}

pub root_there : (rules : List StripRule) (steps : List Step) → IsThere rules steps 0
root_there rules steps = (omega arith, seen_if_no_text rules (rows_of steps) 0 refl)

pub undone_there : (is : Rows) (globals : List Global) → AllValues is (map (λ (global : Global). text []) globals)
undone_there is [] = tt
undone_there is (global ∷ globals) = (tt, undone_there is globals)
