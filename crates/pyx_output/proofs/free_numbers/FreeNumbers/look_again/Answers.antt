use Rattle.std.proofs.Common.{◌≡◌, ◌+◌, ◌∷◌, [], ℕ, List, drop, slice_index, subst, arith}
use Rattle.std.proofs.lemmas.Grind.{common_steps}
use Rattle.xml_names.specs.Bindings.{all_bindings}
use Rattle.pyx_output.specs.FreeNumbers.{Tells}
use Rattle.pyx_output.proofs.free_numbers.FreeNumbers.look_again.Goals as goal

pub loop-number-preserved : goal.loop-number-preserved
loop-number-preserved c =
    let bound = all_bindings c.args.scopes.now.scopes in
    let at = c.loop-number.number-index in
    let front : drop at c.args.numbers.now ≡ slice_index c.args.numbers.now at ∷ drop (at + 1) c.args.numbers.now = grind (arith, common_steps) in
    c.look_at.ensures.tells (drop (at + 1) c.args.numbers.now) (subst (λ (numbers : List ℕ). Tells c.loop-number.self numbers bound) front c.loop-number.invariant)

pub returns-in_err-look_at : goal.returns-in_err-look_at
returns-in_err-look_at c = (c.in_err-look_at.ensures {u = tt}).err (all_bindings c.args.scopes.now.scopes)

pub returns : goal.returns
returns c =
    let over : drop c.loop-number.number-index c.args.numbers.now ≡ [] = grind (arith, common_steps) in
    subst (λ (numbers : List ℕ). Tells c.loop-number.self numbers (all_bindings c.args.scopes.now.scopes)) over c.loop-number.invariant
