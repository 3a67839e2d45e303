use Rattle.xpath_laws.proofs.Expressions.{evaluation_stays}
use Rattle.xpath_laws.proofs.Matching.{match_stays}
use Rattle.xpath_laws.proofs.Reading.{reading_extends, without_keys_extends, key_stays, id_stays}
use Rattle.xpath_laws.proofs.growth.what_is_read_stays.Goals as goal

pub returns-clause-evaluation : goal.returns-clause-evaluation
returns-clause-evaluation c = λ rules keys id e values context. record {
  stays = λ p q g l. evaluation_stays _ _ (reading_extends c.known_values_stay.ensures rules keys id p q g l) e values context;
}

pub returns-clause-pattern : goal.returns-clause-pattern
returns-clause-pattern c = λ rules keys id pattern n. record { stays = λ p q g l. match_stays _ _ (reading_extends c.known_values_stay.ensures rules keys id p q g l) pattern n }

pub returns-clause-key : goal.returns-clause-key
returns-clause-key c = λ rules keys id key value. record {
  stays = λ p q g l. key_stays _ _ (without_keys_extends c.known_values_stay.ensures rules id p q g l) rules keys p q key value g l;
}

pub returns-clause-id : goal.returns-clause-id
returns-clause-id c = λ id value. record { stays = λ p q g l. id_stays id p q value g l }
