-- Why an expression stops where a call below it stopped.
use Rattle.doc_model.specs.declared.ask.Ask.{Ask}
use Rattle.doc_model.specs.declared.ask.Ask.TheVariants as ask
use Rattle.xpath_meaning.specs.declared.stop.EvalStop.{EvalStop}
use Rattle.xpath_meaning.specs.declared.stop.EvalStop.TheVariants.{NotYet, Memory}

-- as a call on a view did
abbrev pub stop_for : Ask → EvalStop
stop_for (ask.NotYet m) = NotYet m
stop_for ask.Memory = Memory
