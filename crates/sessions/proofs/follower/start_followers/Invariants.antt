use Rattle.std.proofs.Common.{◌≡◌, [], map, replicate}
use Rattle.sessions.specs.Running.{AreBehind}
use Rattle.sessions.proofs.Readers.{made_by}
use Rattle.sessions.proofs.follower.start_followers.Given as goal

abbrev pub invariant-loop : goal.invariant-loop
invariant-loop l = (map made_by l.followers.items ≡ replicate l.counter 0) × AreBehind [] l.followers.items
