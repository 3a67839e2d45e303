-- Nodes that are found by strings.
use Rattle.std.specs.Prelude.{ℕ, List}
use Rattle.doc_model.specs.Answers.{Known}
use Rattle.xpath_meaning.specs.DocumentOrder.{document_order}
use Rattle.xpath_meaning.specs.Outcome.{Outcome, ◌>>=◌, each_of}
use Rattle.xpath_meaning.specs.Reading.{Reading}
use Rattle.xpath_meaning.specs.Steps.{joined}

-- what each string finds, in document order, once the root is shut
abbrev pub found : Reading → (List ℕ → Outcome (List ℕ)) → List (List ℕ) → Outcome (List ℕ)
found R finds texts = R.whole >>= λ shut. each_of finds texts >>= λ lists. Known (document_order (joined lists))
