-- Lists of nodes in document order, which is the order of the numbers of rows (XPath 1.0, section 5).
use Rattle.std.specs.Prelude.{ℕ, suc, nat_le, if◌then◌else◌, List, [], ◌∷◌, filter}
use Rattle.doc_model.specs.Document.{is_member}
use Rattle.doc_model.specs.Relations.{numbers}

-- a number above all of these
abbrev pub bound_of : List ℕ → ℕ
bound_of [] = 0
bound_of (n ∷ ns) = if nat_le (bound_of ns) n then suc n else bound_of ns

-- the nodes in document order, each once: the numbers that are among them
abbrev pub document_order : List ℕ → List ℕ
document_order nodes = filter (λ n. is_member n nodes) (numbers 0 (bound_of nodes))
