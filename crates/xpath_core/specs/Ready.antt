-- When an expression may be evaluated.
use Rattle.std.specs.Prelude.{List}
use Rattle.doc_model.specs.View.{Seen}
use Rattle.key_sources.specs.Going.{Fits, Stands}
use Rattle.xpath_laws.specs.Sound.{IsThere, AllValues, IsContext}
use Rattle.xpath_meaning.specs.declared.context.Context.{Context}
use Rattle.xpath_values.specs.declared.value.Value.{Value}

-- the source of keys may be asked, and the nodes of the variables and of the context are there and visible, those of the variables in document order
pub record IsReady {M : Type 0} (seen : Seen M) (fits : Fits) (bound : List Value) (c : Context) : Type 0 where
  pub stands : Stands seen fits
  pub values : AllValues (IsThere seen.rules seen.steps) bound
  pub context : IsContext (IsThere seen.rules seen.steps) c
