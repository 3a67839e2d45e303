-- Why an expression gave no value.
use Rattle.doc_model.specs.Answers.{Stop, ByFault, ByOpen, ByMemory}
use Rattle.fault_kinds.specs.declared.fault.FaultKind.{FaultKind}
use Rattle.xpath_meaning.specs.declared.stop.EvalStop.{EvalStop}
use Rattle.xpath_meaning.specs.declared.stop.EvalStop.TheVariants.{NotYet, Fault, Memory}

abbrev pub stop_of : EvalStop → Stop FaultKind
stop_of (NotYet m) = ByOpen m
stop_of (Fault fault) = ByFault fault
stop_of Memory = ByMemory
