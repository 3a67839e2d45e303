use Rattle.std.proofs.Common.{subst}
use Rattle.doc_model.specs.Lawful.{Grows}
use Rattle.doc_laws.proofs.Still.{Grows-antisym}
use Rattle.doc_laws.proofs.answers.still_tables_do_not_grow.Goals as goal

pub returns : goal.returns
returns c = λ before later whole g h e. Grows-antisym before later g (subst (λ xs. Grows later xs) e h)
