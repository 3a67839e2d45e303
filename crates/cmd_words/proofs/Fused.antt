-- A count or a choice over a list that a function maps.
use Rattle.std.proofs.Common.{◌≡◌, ◌+◌, ℕ, List, [], ◌∷◌, Bool, Option, cond, map, refl, ap}
use Rattle.std.specs.List.{count_by, filter_map, cons_option}
use Rattle.std.proofs.lemmas.List.Folds.{fold-map}

pub count_by-map : {X Y : Type 0} (p : Y → Bool) (f : X → Y) (xs : List X) → count_by p (map f xs) ≡ count_by (λ x. p (f x)) xs
count_by-map p f xs = fold-map (λ a y. a + cond (p y) 1 0) f 0 xs
