use Rattle.std.proofs.Common.{◌≡◌, ◌≤◌, ℕ, length, reverse, Some}
use Rattle.doc_model.specs.Answers.{Known}
use Rattle.doc_model.specs.View.{Moves}
use Rattle.xpath_syntax.specs.declared.pattern.PatternPath.{PatternPath}
use Rattle.patterns.specs.Places.{AllThere, AllWithin, weight, GoesAs}
use Rattle.patterns.specs.Trials.{resumed}
use Rattle.patterns.proofs.trials.Search.resume.Given as goal

abbrev pub invariant-loop-fork : goal.invariant-loop-fork
invariant-loop-fork g l = record {
  moved : Moves (g.V.NodeView.sees l.fn.view) (g.V.NodeView.sees l.view);
  tried : l.self.tried ≡ l.fn.self.tried;
  there : AllThere (g.V.NodeView.sees l.view) l.self.forks;
  within : (count : ℕ) → AllWithin count l.fn.self.forks → AllWithin count l.self.forks;
  lighter : weight l.self.forks ≤ weight l.fn.self.forks;
  goes : (path : PatternPath) → GoesAs (g.V.NodeView.sees l.view) (λ R. Known (Some l.fn.self.tried)) (λ R. resumed R path (reverse l.fn.self.forks))
      (λ R. resumed R path (reverse l.self.forks) (Some l.fn.self.tried));
}

abbrev pub decreases-loop-fork : goal.decreases-loop-fork
decreases-loop-fork g l = length l.self.forks
