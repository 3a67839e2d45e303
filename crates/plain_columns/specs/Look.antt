-- What a link word says.
use Rattle.std.specs.Prelude.{ℕ, zero, suc, Bool, true, false}
use Rattle.doc_model.specs.declared.look.Look.{Look}
use Rattle.doc_model.specs.declared.look.Look.TheVariants.{Node, Nothing, NotYet}

-- the row, or by the extent word of the row that decides whether there can be one
abbrev pub look_of : ℕ → Bool → ℕ → Look
look_of (suc k) parent extent = Node (suc k)
look_of zero false extent = Nothing
look_of zero true zero = NotYet
look_of zero true (suc e) = Nothing
