-- The rows of a list of steps.
use Rattle.std.specs.Prelude.{ℕ, List, [], ◌∷◌, ◌++◌, slice_index_or}
use Rattle.doc_model.specs.declared.row.Kind.TheVariants.{Root}
use Rattle.doc_model.specs.declared.row.Row.{Row}
use Rattle.doc_model.specs.declared.step.Step.{Step}
use Rattle.doc_model.specs.declared.step.Step.TheVariants.{Node, Shut, End}

-- the root row: depth 0, and all else empty
abbrev pub root_row : Row
root_row = record { kind = Root; prefix = []; uri = []; local = []; value = []; depth = 0 }

-- the rows that a step gives: a Node its row and its attributes, and no other step any
abbrev pub rows_of_step : Step → List Row
rows_of_step (Node row attributes) = row ∷ attributes
rows_of_step Shut = []
rows_of_step (End verdict) = []

-- the rows that the steps give, in order
abbrev pub rows_given : List Step → List Row
rows_given [] = []
rows_given (step ∷ steps) = rows_of_step step ++ rows_given steps

-- the rows of the steps, numbered from 0: the root, which no step gives, and then the rows given
abbrev pub rows_of : List Step → List Row
rows_of steps = root_row ∷ rows_given steps

-- row n; the root row past the last
abbrev pub row_at : List Row → ℕ → Row
row_at rows n = slice_index_or rows n root_row
