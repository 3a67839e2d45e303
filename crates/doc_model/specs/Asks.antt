-- Why a call on a view gave no value.
use Rattle.doc_model.specs.Answers.{Stop, ByOpen, ByMemory}
use Rattle.doc_model.specs.declared.ask.Ask.{Ask}
use Rattle.doc_model.specs.declared.ask.Ask.TheVariants.{NotYet, Memory}

abbrev pub stop_of : Ask → Stop ⊥
stop_of (NotYet m) = ByOpen m
stop_of Memory = ByMemory
