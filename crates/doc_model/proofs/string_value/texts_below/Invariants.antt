use Rattle.std.proofs.Common.{[]}
use Rattle.doc_model.proofs.Texts.{Going}
use Rattle.doc_model.proofs.string_value.texts_below.Given as goal

abbrev pub invariant-loop-k : goal.invariant-loop-k
invariant-loop-k l = Going [] l.fn.rows l.fn.n l.k l.value
