-- Comparisons of two node-sets in which each string-value is taken once.
use Rattle.std.specs.Prelude.{ℕ, List, [], ◌∷◌, Bool, true, false, if◌then◌else◌, Option, Some, None}
use Rattle.doc_model.specs.Answers.{Known}
use Rattle.xpath_syntax.specs.declared.expression.Op.{Op}
use Rattle.xpath_values.specs.declared.atom.Atom.{Atom as AnyAtom}
use Rattle.xpath_values.specs.declared.atom.Atom.TheVariants.{Text}
use Rattle.xpath_meaning.specs.Comparisons.{compare_atoms}
use Rattle.xpath_meaning.specs.Outcome.{Outcome, ◌>>=◌, some_holds}
use Rattle.xpath_meaning.specs.Reading.{Reading}

-- the string-value of a node as an atom
abbrev pub atom_of : Reading → ℕ → Outcome AnyAtom
atom_of R n = R.value n >>= λ bytes. Known (Text bytes)

abbrev pub behind : AnyAtom → Option (List AnyAtom) → Option (List AnyAtom)
behind a None = None
behind a (Some rest) = Some (a ∷ rest)

-- the string-values of the right nodes, if the left one meets none of them
abbrev pub none_met : Op → Reading → AnyAtom → List ℕ → Outcome (Option (List AnyAtom))
none_met op R a [] = Known (Some [])
none_met op R a (k ∷ ks) = atom_of R k >>= λ b. compare_atoms op a b >>= λ here. if here then Known None else (none_met op R a ks >>= λ rest. Known (behind b rest))

-- an atom meets some of these
abbrev pub meets_some : Op → AnyAtom → List AnyAtom → Outcome Bool
meets_some op a atoms = some_holds (λ b. compare_atoms op a b) atoms

-- the string-value of some node meets some of these
abbrev pub some_meets : Op → Reading → List AnyAtom → List ℕ → Outcome Bool
some_meets op R atoms nodes = some_holds (λ n. atom_of R n >>= λ a. meets_some op a atoms) nodes
