-- What the nodes in an element make, by what it is.
use Rattle.std.specs.Prelude.{List, [], ◌∷◌, ◌++◌, Option, Some, None}
use Rattle.sheet_ast.specs.declared.instruction.Instruction.{Instruction}
use Rattle.sheet_making.specs.declared.content.Content.{Content}
use Rattle.sheet_making.specs.declared.made.Made.{Made}
use Rattle.sheet_making.specs.declared.made.Made.TheVariants.{Does, Binds, Sorts, Cases, Else, Nothing}

abbrev pub no_content : Content
no_content = record { body = []; variables = []; sorts = []; cases = []; otherwise = None }

-- the first counts
abbrev pub or_first : Option (List Instruction) → List Instruction → Option (List Instruction)
or_first None body = Some body
or_first (Some first) body = Some first

-- one more node
abbrev pub with_made : Content → Made → Content
with_made c (Does i) = record c { body = c.body ++ i ∷ [] }
with_made c (Binds v) = record c { variables = c.variables ++ v ∷ [] }
with_made c (Sorts s) = record c { sorts = c.sorts ++ s ∷ [] }
with_made c (Cases w) = record c { cases = c.cases ++ w ∷ [] }
with_made c (Else body) = record c { otherwise = or_first c.otherwise body }
with_made c Nothing = c

abbrev pub content_from : Content → List Made → Content
content_from c [] = c
content_from c (m ∷ ms) = content_from (with_made c m) ms

-- what nodes make, in document order
abbrev pub content : List Made → Content
content made = content_from no_content made
