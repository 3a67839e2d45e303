use Rattle.std.proofs.Common.{IfOk, Some, reverse, subst, sym}
use Rattle.doc_laws.proofs.Moving.{moves_none}
use Rattle.xpath_syntax.specs.declared.pattern.PatternPath.{PatternPath}
use Rattle.patterns.specs.Places.{TurnIsThere, TurnIsWithin, IsLighter, GoesAs}
use Rattle.patterns.specs.Trials.{turned, resumed, gone}
use Rattle.patterns.proofs.Forking.{missed_goes}
use Rattle.patterns.proofs.trials.Search.next_place.Goals as goal

pub returns-in-Missed-clause-within : goal.returns-in-Missed-clause-within
returns-in-Missed-clause-within g c = λ count a t. c.resume.ensures.within count a

pub returns-in-Missed-clause-goes : goal.returns-in-Missed-clause-goes
returns-in-Missed-clause-goes g c =
    missed_goes (g.V.NodeView.sees c.resume.new.view) c.args.turn c.args.self.now.tried c.resume.new.self.tried c.args.self.now.forks c.resume.new.self.forks c.resume.result c.in-Missed.is
    c.resume.ensures.tried c.resume.ensures.goes

pub returns-in-Up-clause-moves : goal.returns-in-Up-clause-moves
returns-in-Up-clause-moves g c = moves_none _ c.requires.seen

pub returns-in-Up-clause-there : goal.returns-in-Up-clause-there
returns-in-Up-clause-there g c = c.requires.there

pub returns-in-Up-clause-found : goal.returns-in-Up-clause-found
returns-in-Up-clause-found g c = subst (TurnIsThere (g.V.NodeView.sees c.args.view.now)) c.in-Up.is c.requires.turn

pub resume_with-requires-clause-place : goal.resume_with-requires-clause-place
resume_with-requires-clause-place g c = subst (TurnIsThere (g.V.NodeView.sees c.args.view.now)) c.in-Fork.is c.requires.turn

pub returns-in-Fork-clause-within : goal.returns-in-Fork-clause-within
returns-in-Fork-clause-within g c = λ count a t. c.resume_with.ensures.within count a (subst (TurnIsWithin count) c.in-Fork.is t)

pub returns-in-Fork-clause-lighter : goal.returns-in-Fork-clause-lighter
returns-in-Fork-clause-lighter g c =
    subst (λ turn. IfOk c.resume_with.result (λ found. IsLighter c.args.self.now.tried c.args.self.now.forks turn c.resume_with.new.self.tried c.resume_with.new.self.forks found))
    (sym c.in-Fork.is) c.resume_with.ensures.lighter

pub returns-in-Fork-clause-goes : goal.returns-in-Fork-clause-goes
returns-in-Fork-clause-goes g c =
    subst (λ turn. IfOk c.resume_with.result (λ found. (path : PatternPath)
    → GoesAs (g.V.NodeView.sees c.resume_with.new.view) (λ R. turned R path c.args.self.now.tried (Some turn)) (λ R. resumed R path (reverse c.args.self.now.forks))
    (λ R. gone R path c.resume_with.new.self.tried c.resume_with.new.self.forks found)))
    (sym c.in-Fork.is) c.resume_with.ensures.goes
