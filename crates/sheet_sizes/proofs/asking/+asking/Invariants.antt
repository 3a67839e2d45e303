use Rattle.std.proofs.Common.{◌≡◌, take, false}
use Rattle.std.specs.List.{list_any}
use Rattle.engine_meaning.specs.Sizes.{instruction_asks, variable_asks}
use Rattle.sheet_sizes.specs.Contents.{when_asks}
use Rattle.sheet_sizes.proofs.asking.+asking.Given as goal

abbrev pub invariant-body_asks-loop-instruction : goal.invariant-body_asks-loop-instruction
invariant-body_asks-loop-instruction l = list_any instruction_asks (take l.instruction-index l.instruction-items) ≡ false

abbrev pub invariant-whens_ask-loop-when : goal.invariant-whens_ask-loop-when
invariant-whens_ask-loop-when l = list_any when_asks (take l.when-index l.when-items) ≡ false

abbrev pub invariant-variables_ask-loop-variable : goal.invariant-variables_ask-loop-variable
invariant-variables_ask-loop-variable l = list_any variable_asks (take l.variable-index l.variable-items) ≡ false
