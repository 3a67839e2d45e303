use Rattle.key_sources.proofs.Saying.{says_as, went_moves}
use Rattle.key_sources.proofs.Whole.{no_id}
use Rattle.key_sources.proofs.no_keys.NoKeysKeySource.by_id.Goals as goal

pub none_once_whole-requires : goal.none_once_whole-requires
none_once_whole-requires g c = c.requires.seen

pub returns-clause-went : goal.returns-clause-went
returns-clause-went g c = went_moves (λ rules before later fit grows lawful. tt) c.none_once_whole.ensures.moves c.requires

pub returns-clause-answers : goal.returns-clause-answers
returns-clause-answers g c = says_as (λ rules steps. no_id rules steps c.args._value.now) (c.none_once_whole.ensures.answers _)
