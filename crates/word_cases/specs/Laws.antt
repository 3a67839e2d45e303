-- The laws of the discipline that a link is set only after the datum of its row.
use Rattle.std.specs.Prelude.{◌≡◌, ℕ, List, [], ◌∷◌, refl}
use Rattle.std.proofs.Common.{subst}
use mathlib.Core.List.{IsPrefix}
use Rattle.link_cells.specs.declared.entry.Entry.{Entry}
use Rattle.link_cells.proofs.Prefixes.{prefix_trans}
use Rattle.word_cases.specs.Links.{HasDataFirst}

-- there is a set
abbrev HasSome : List Entry → Type 0
HasSome [] = ⊥
HasSome (e ∷ es) = Unit {0}

-- it holds where nothing is set
pub nothing_linked : (n : ℕ) → HasDataFirst n []
nothing_linked n [] p r below linked = absurd (linked refl)
nothing_linked n (e ∷ es) p r below linked = absurd (subst HasSome p.1 tt)

-- it holds of the beginnings of a list that it holds of
pub beginning_linked : (n : ℕ) (before log : List Entry) → IsPrefix before log → HasDataFirst n log → HasDataFirst n before
beginning_linked n before log p first sooner q = first sooner (prefix_trans sooner before log q p)
