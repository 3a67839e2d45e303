use Rattle.std.proofs.Common.{◌<◌, ℕ, length, get_or, refl, sym, subst}
use Rattle.std.proofs.lemmas.List.{length-map}
use Rattle.sessions.specs.declared.follower.Follower.{Follower}
use Rattle.sessions.specs.Standing.{counts_of}
use Rattle.text_walk.specs.Walking.{IsBehind}
use Rattle.sessions.proofs.Readers.{made_by, behind_at, behind_set, counted, set_same}
use Rattle.sessions.proofs.session.Session.run.Goals as goal

pub run-requires : goal.run-requires
run-requires c =
    let steps = c.args.self.now.table.cells.steps in
    let followers = c.args.self.now.followers.items in
    let below : c.args.i < length followers = subst (λ (n : ℕ). c.args.i < n) (length-map followers made_by) c.requires.below in
    subst (λ (follower : Follower). IsBehind follower.walker steps follower.text.items) (sym c.index_mut.ensures.value) (behind_at steps followers c.args.i _ c.requires.holds.runs below)

pub returns-then-has_starved-clause-starved : goal.returns-then-has_starved-clause-starved
returns-then-has_starved-clause-starved c = (get_or (counts_of c.args.self.now) c.args.i 0, set_same (counts_of c.args.self.now) c.args.i 0 c.requires.below)

pub returns-in-Ok-clause-counts : goal.returns-in-Ok-clause-counts
returns-in-Ok-clause-counts c = counted c.args.self.now.followers.items c.args.i c.run.new.self _ c.in-Ok.ensures.made

pub returns-in-Err-clause-starved : goal.returns-in-Err-clause-starved
returns-in-Err-clause-starved c = (c.run.new.self.walker.made, counted c.args.self.now.followers.items c.args.i c.run.new.self _ refl)

pub returns-in-Ok-clause-holds : goal.returns-in-Ok-clause-holds
returns-in-Ok-clause-holds c = record {
  fills = c.requires.holds.fills;
  runs = behind_set c.args.self.now.table.cells.steps c.args.self.now.followers.items c.args.i c.run.new.self c.requires.holds.runs c.run.ensures.behind;
}

pub returns-in-Err-clause-holds : goal.returns-in-Err-clause-holds
returns-in-Err-clause-holds c = record {
  fills = λ none. let kept = c.starve.ensures.kept in cc;
  runs = behind_set c.args.self.now.table.cells.steps c.args.self.now.followers.items c.args.i c.run.new.self c.requires.holds.runs c.run.ensures.behind;
}
