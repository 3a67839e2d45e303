-- The template rules of a stylesheet (XSLT 1.0, sections 5.3 and 5.5).
use Rattle.std.specs.Prelude.{ℕ, ℤ, pos, negsuc, Bool, List, [], ◌∷◌, map, Option, Some, None, unwrap_or}
use Rattle.sheet_ast.specs.declared.sheet.Rule.{Rule}
use Rattle.sheet_elements.specs.declared.tag.Word.TheVariants as word
use Rattle.sheet_names.specs.declared.declaring.Names.{Names}
use Rattle.sheet_names.specs.Declaring.{mode_name}
use Rattle.sheet_reading.specs.declared.tree.Judged.{Judged}
use Rattle.xpath_binding.specs.Marks.{marked}
use Rattle.xpath_syntax.specs.declared.expression.Expr.{Expr}
use Rattle.xpath_syntax.specs.declared.expression.StepExpr.{StepExpr, out-StepExpr, roll-StepExpr}
use Rattle.xpath_syntax.specs.declared.expression.TestExpr.{TestExpr}
use Rattle.xpath_syntax.specs.declared.expression.TestExpr.TheVariants as test
use Rattle.xpath_syntax.specs.declared.pattern.Pattern.{Pattern}
use Rattle.xpath_syntax.specs.declared.pattern.PatternPath.{PatternPath}
use Rattle.xpath_syntax.specs.declared.pattern.PatternStart.{PatternStart}
use Rattle.xpath_syntax.specs.declared.pattern.PatternStart.TheVariants as start
use Rattle.xpath_syntax.specs.declared.pattern.PatternStep.{PatternStep}
use Rattle.sheet_making.specs.Attributes.{mode_number, pattern_in, priority_in}
use Rattle.sheet_names.specs.Values.{first_value}

-- the priority of a node test, in hundredths
abbrev pub test_priority : TestExpr → ℤ
test_priority (test.Name name) = pos 0
test_priority (test.Instruction (Some target)) = pos 0
test_priority (test.InPrefix name) = negsuc 24
test_priority _ = negsuc 49

abbrev pub step_priority : TestExpr → List Expr → ℤ
step_priority t [] = test_priority t
step_priority t (predicate ∷ predicates) = pos 50

-- of one step without predicates by its node test, and of all other patterns 50
abbrev pub parts_priority : List PatternStep → ℤ
parts_priority (step ∷ []) = step_priority (out-StepExpr step.part).test (out-StepExpr step.part).predicates
parts_priority _ = pos 50

abbrev pub default_by : PatternStart → List PatternStep → ℤ
default_by start.Relative parts = parts_priority parts
default_by _ parts = pos 50

abbrev pub default_priority : PatternPath → ℤ
default_priority path = default_by path.start path.parts

-- a predicate whose paths are marked
abbrev pub marked_predicate : Bool → Expr → Expr
marked_predicate streams e = marked streams e

abbrev pub marked_part : Bool → StepExpr → StepExpr
marked_part streams part =
    roll-StepExpr (record { axis = (out-StepExpr part).axis; test = (out-StepExpr part).test; predicates = map (marked_predicate streams) (out-StepExpr part).predicates })

abbrev pub marked_pattern_step : Bool → PatternStep → PatternStep
marked_pattern_step streams step = record { deep = step.deep; part = marked_part streams step.part }

abbrev pub marked_pattern : Bool → PatternPath → PatternPath
marked_pattern streams path = record { start = path.start; parts = map (marked_pattern_step streams) path.parts }

-- one rule of a template, which stands at a place among all
abbrev pub rule : Names → Bool → Judged → ℕ → PatternPath → Rule
rule names streams e place path = record {
  pattern = marked_pattern streams path;
  mode = mode_number names.modes (mode_name e);
  priority = unwrap_or (first_value priority_in word.Priority e.given) (default_priority path);
  precedence = 0;
  template = place;
}

abbrev pub alternatives : Option Pattern → List PatternPath
alternatives None = []
alternatives (Some pattern) = pattern.alternatives

-- one for each alternative of its pattern
abbrev pub rules : Names → Bool → Judged → ℕ → List Rule
rules names streams e place = map (rule names streams e place) (alternatives (first_value pattern_in word.Match e.given))
