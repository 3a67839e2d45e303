use Rattle.std.proofs.Common.{◌≡◌, ◌∙◌, true, sym, refl, map, length, string_bytes}
use Rattle.std.proofs.lemmas.List.{length-map}
use Rattle.std.specs.Option.{option_copied, option_map}
use Rattle.cmd_words.specs.Items.{items_of}
use Rattle.cmd_words.specs.Words.{are_parts}
use Rattle.cmd_words.proofs.Limits.{within_limits, plan_of_made}
use Rattle.cmd_words.proofs.words.plan.Goals as goal

pub returns-clause-plan : goal.returns-clause-plan
returns-clause-plan c =
    let list = option_copied c.split.result.0 in
    let pairs = map string_bytes c.split.result.1.now in
    let are : are_parts list pairs ≡ true = sym c.are_parts.ensures ∙ c.if-not-are_parts.false in
    let turns : c.in_ok-turns.turns ≡ option_map (items_of (length pairs)) list = rw (length-map c.split.result.1.now string_bytes) c.in_ok-turns.ensures in
    plan_of_made list pairs (map string_bytes c.args.words.now) _ are c.split.ensures (rw (turns, c.in_ok-pairs.ensures) refl)

pub returns-clause-limits : goal.returns-clause-limits
returns-clause-limits c =
    let list = option_copied c.split.result.0 in
    let pairs = map string_bytes c.split.result.1.now in
    let are : are_parts list pairs ≡ true = sym c.are_parts.ensures ∙ c.if-not-are_parts.false in
    let turns : c.in_ok-turns.turns ≡ option_map (items_of (length pairs)) list = rw (length-map c.split.result.1.now string_bytes) c.in_ok-turns.ensures in
    rw (turns, c.in_ok-pairs.ensures) (within_limits list pairs are)
