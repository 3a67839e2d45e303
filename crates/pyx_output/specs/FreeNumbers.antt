-- Which of the numbered prefixes are free, as a writer keeps them: those below a mark.
use Rattle.std.specs.Prelude.{◌≡◌, ℕ, ◌<◌, ◌^◌, List, Bool, true, false, not, ◌==◌}
use Rattle.std.specs.List.{list_any}
use Rattle.std.specs.BTreeSet.{contains}
use Rattle.std.specs.Ordering.{nat_cmp}
use Rattle.xml_names.specs.declared.scopes.Binding.{Binding}
use Rattle.pyx_output.specs.Declaring.{is_bound}
use Rattle.pyx_output.specs.Numbered.{numbered}
use Rattle.pyx_output.specs.declared.free_numbers.FreeNumbers.{FreeNumbers}

-- each of these prefixes before a number is bound
abbrev pub IsPast : List Binding → ℕ → Type 0
IsPast bound number = (k : ℕ) → k < number → is_bound bound (numbered k) ≡ true

abbrev pub has_number : ℕ → List ℕ → Bool
has_number k numbers = list_any (λ other. other == k) numbers

-- of each number below the mark, but of the doubtful ones, the set tells whether its prefix is free
pub record Tells (numbers : FreeNumbers) (doubtful : List ℕ) (bound : List Binding) : Type 0 where
  pub small : numbers.mark < 2 ^ 64
  pub below : (k : ℕ) → contains nat_cmp numbers.free k ≡ true → k < numbers.mark
  pub told : (k : ℕ) → k < numbers.mark → has_number k doubtful ≡ false → contains nat_cmp numbers.free k ≡ not (is_bound bound (numbered k))
