-- What steps and predicates mean stays once it is known, and tells of nodes that are there.
use Rattle.std.proofs.Common.{ℕ, List, [], ◌∷◌, map}
use Rattle.key_sources.proofs.Saying as saying
use Rattle.xpath_laws.specs.Sound.{Rows, Each}
use Rattle.xpath_laws.proofs.Expressions.{expr_keeps, step_keeps}
use Rattle.xpath_laws.proofs.Keeping.{Keeps, AllKeep, AllStepsKeep}
use Rattle.xpath_laws.proofs.Keeping as keeping
use Rattle.xpath_laws.proofs.Sounding.{MeantSound, StepSound}
use Rattle.xpath_laws.proofs.Trees.{expr_sound, step_sound}
use Rattle.xpath_laws.proofs.Walking.{kept_by_keeps, filtered_keeps, step_nodes_keep, tested_keeps}
use Rattle.xpath_meaning.specs.declared.context.Context.{Context}
use Rattle.xpath_meaning.specs.Evaluation.{meant, meant_step}
use Rattle.xpath_meaning.specs.Items.{tested}
use Rattle.xpath_meaning.specs.Meanings.{Meaning, holds_at, nodes_at}
use Rattle.xpath_meaning.specs.Outcome.{Outcome}
use Rattle.xpath_meaning.specs.Steps.{kept_by, filtered, step_nodes}
use Rattle.xpath_syntax.specs.declared.expression.Expr.{Expr}
use Rattle.xpath_syntax.specs.declared.expression.StepExpr.{StepExpr}
use Rattle.xpath_values.specs.declared.value.Value.{Value}

pub all_keep : (es : List Expr) → AllKeep (map meant es)
all_keep [] = tt
all_keep (e ∷ es) = (expr_keeps e, all_keep es)

pub all_steps_keep : (ss : List StepExpr) → AllStepsKeep (map meant_step ss)
all_steps_keep [] = tt
all_steps_keep (s ∷ ss) = (step_keeps s, all_steps_keep ss)

-- for these variables and this context
pub kept : {A : Type 0} (means : Meaning (Outcome A)) → Keeps means → (values : List Value) (c : Context) → saying.Keeps (λ R. means R values c)
kept means k values c = record { stays = λ R Q x. k R Q x values c }

pub holds_kept : (e : Expr) (values : List Value) (c : Context) → saying.Keeps (λ R. holds_at (meant e) R values c)
holds_kept e values c = kept (holds_at (meant e)) (keeping.holds_keeps (meant e) (expr_keeps e)) values c

pub nodes_kept : (e : Expr) (values : List Value) (c : Context) → saying.Keeps (λ R. nodes_at (meant e) R values c)
nodes_kept e values c = kept (nodes_at (meant e)) (keeping.nodes_keep (meant e) (expr_keeps e)) values c

pub kept_by_kept : (e : Expr) (nodes : List ℕ) (values : List Value) (c : Context) → saying.Keeps (λ R. kept_by (meant e) nodes R values c)
kept_by_kept e nodes values c = kept (kept_by (meant e) nodes) (kept_by_keeps (meant e) (expr_keeps e) nodes) values c

pub filtered_kept : (es : List Expr) (nodes : List ℕ) (values : List Value) (c : Context) → saying.Keeps (λ R. filtered (map meant es) nodes R values c)
filtered_kept es nodes values c = kept (filtered (map meant es) nodes) (filtered_keeps (map meant es) (all_keep es) nodes) values c

pub step_nodes_kept : (s : StepExpr) (nodes : List ℕ) (values : List Value) (c : Context) → saying.Keeps (λ R. step_nodes (meant_step s) nodes R values c)
step_nodes_kept s nodes values c = kept (step_nodes (meant_step s) nodes) (step_nodes_keep (meant_step s) (step_keeps s) nodes) values c

pub tested_kept : (es : List Expr) (counts : List ℕ) (n : ℕ) (values : List Value) (c : Context) → saying.Keeps (λ R. tested (map meant es) counts n R values c)
tested_kept es counts n values c = kept (tested (map meant es) counts n) (tested_keeps (map meant es) (all_keep es) counts n) values c

module _ (T O : Rows) where
  pub all_sound : (es : List Expr) → Each (MeantSound T O) (map meant es)
  all_sound [] = tt
  all_sound (e ∷ es) = (expr_sound T O e, all_sound es)

  pub all_steps_sound : (ss : List StepExpr) → Each (StepSound T O) (map meant_step ss)
  all_steps_sound [] = tt
  all_steps_sound (s ∷ ss) = (step_sound T O s, all_steps_sound ss)
