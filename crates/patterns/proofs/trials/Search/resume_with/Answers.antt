use Rattle.std.proofs.Common.{arith, sym, ◌∙◌, subst}
use Rattle.doc_laws.proofs.Moving.{moves_none}
use Rattle.patterns.specs.Places.{PlaceIsThere, AllThere, AllWithin, IsWithin}
use Rattle.patterns.proofs.Forking.{forks_each, lighter_some, fork_goes}
use Rattle.patterns.proofs.trials.Search.resume_with.Goals as goal

pub returns-in_err-fork-clause-moves : goal.returns-in_err-fork-clause-moves
returns-in_err-fork-clause-moves g c = moves_none _ c.requires.seen

pub resume-requires : goal.resume-requires
resume-requires g c = record {
  there = subst (AllThere (g.V.NodeView.sees c.args.view.now)) (sym c.in_ok-fork.ensures.forks)
      (forks_each (PlaceIsThere (g.V.NodeView.sees c.args.view.now)) c.args.place c.args.self.now.tried c.args.self.now.forks c.requires.there c.requires.place);
}

pub returns-clause-within : goal.returns-clause-within
returns-clause-within g c = λ count a t.
    c.resume.ensures.within count (subst (AllWithin count) (sym c.in_ok-fork.ensures.forks) (forks_each (IsWithin count) c.args.place c.args.self.now.tried c.args.self.now.forks a t))

pub returns-clause-lighter : goal.returns-clause-lighter
returns-clause-lighter g c =
    lighter_some c.args.place c.args.self.now.tried c.resume.new.self.tried c.args.self.now.forks c.fork.new.self.forks c.resume.new.self.forks c.resume.result (omega arith)
    (c.resume.ensures.tried ∙ c.in_ok-fork.ensures.tried) c.in_ok-fork.ensures.forks
    c.resume.ensures.lighter

pub returns-clause-goes : goal.returns-clause-goes
returns-clause-goes g c =
    fork_goes (g.V.NodeView.sees c.resume.new.view) c.args.place c.args.self.now.tried c.fork.new.self.tried c.resume.new.self.tried c.args.self.now.forks c.fork.new.self.forks
    c.resume.new.self.forks c.resume.result
    c.in_ok-fork.ensures.tried c.in_ok-fork.ensures.forks c.resume.ensures.tried c.resume.ensures.goes
