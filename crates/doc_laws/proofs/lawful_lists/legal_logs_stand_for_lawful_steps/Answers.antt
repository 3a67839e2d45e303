use Rattle.doc_laws.proofs.Legality.{stands_lawful}
use Rattle.doc_laws.proofs.lawful_lists.legal_logs_stand_for_lawful_steps.Goals as goal

pub returns : goal.returns
returns c = λ log steps s f. record { each = stands_lawful log steps s; few = f }
