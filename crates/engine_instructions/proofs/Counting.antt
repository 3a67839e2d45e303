-- Nodes in document order are fewer than rows can be.
use Rattle.std.proofs.Common.{ℕ, suc, ◌+◌, ◌<◌, ◌≤◌, List, [], ◌∷◌, length, arith}
use Rattle.doc_laws.specs.Ordered.{AscendsFrom}
use Rattle.doc_model.specs.Lawful.{IsLawful}
use Rattle.doc_model.specs.Rows.{rows_of}
use Rattle.doc_model.specs.declared.step.Step.{Step}
use Rattle.doc_model.specs.declared.strip_rule.StripRule.{StripRule}
use Rattle.xpath_laws.specs.Sound.{Each, IsNodeSet, IsThere}

-- numbers that ascend below a bound are no more than that
few_below : (bound a : ℕ) (ns : List ℕ) → a ≤ bound → AscendsFrom a ns → Each (λ n. n < bound) ns → a + length ns ≤ bound
few_below bound a [] l s e = omega (arith, l)
few_below bound a (n ∷ ns) l s e =
    let below = e.0 in
    let from = s.0 in
    let rest = few_below bound (suc n) ns (omega (arith, below)) s.1 e.1 in
    omega (arith, rest, from)

each_below : (rules : List StripRule) (steps : List Step) (ns : List ℕ) → Each (IsThere rules steps) ns → Each (λ n. n < length (rows_of steps)) ns
each_below rules steps [] a = tt
each_below rules steps (n ∷ ns) a = (a.0.0, each_below rules steps ns a.1)

-- nodes in document order are fewer than 4,294,967,296
pub few_nodes : (rules : List StripRule) (steps : List Step) (nodes : List ℕ) → IsLawful steps → IsNodeSet (IsThere rules steps) nodes → length nodes < 4294967296
few_nodes rules steps nodes l a =
    let few = l.few in
    let most = few_below (length (rows_of steps)) 0 nodes (omega arith) a.0 (each_below rules steps nodes a.1) in
    omega (arith, few, most)
