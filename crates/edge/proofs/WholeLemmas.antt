-- A reader that is cut at a limit has given all that it had where it gave fewer bytes than the limit.
use Rattle.std.proofs.Common.{◌≡◌, ◌≤◌, ◌<◌, ℕ, List, length, take, arith, Some, IfSome, ap}
use Rattle.std.specs.Prelude.{None, Option, option_map}
use Rattle.std.proofs.lemmas.List.{length-take, take_all}

pub whole_below : (told : Option (List ℕ)) (limit : ℕ) (bytes : List ℕ) → length bytes < limit →
    IfSome (option_map (take limit) told) (λ xs. bytes ≡ xs) → IfSome told (λ all. bytes ≡ all)
whole_below None limit bytes short is = tt
whole_below (Some all) limit bytes short is =
    let given : bytes ≡ take limit all = is in
    let cut : length bytes ≡ length (take limit all) = ap length given in
    let fits : length all ≤ limit = omega (arith, length-take limit all) in
    rw given (take_all limit all fits)
