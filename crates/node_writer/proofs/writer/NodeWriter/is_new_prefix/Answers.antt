use Rattle.std.proofs.Common.{◌≡◌, ◌↔◌, ℕ, Bool, true, false, not, ◌||◌, List, [], ◌∷◌, Option, Some, None, IfNone, refl, ap, sym, ◌∙◌}
use Rattle.std.specs.Prelude.{is_some}
use Rattle.std.specs.Str.{bytes_eq}
use Rattle.doc_model.specs.Legible.{is_empty}
use Rattle.name_pool.specs.Names.{Pool, IsPrefixNumber}
use Rattle.name_pool.specs.Numbers.{IsNew}
use Rattle.node_writer.specs.Taken.{is_prefix_of}
use Rattle.node_writer.proofs.Names.{prefix_found, prefix_absent}
use Rattle.node_writer.proofs.writer.NodeWriter.is_new_prefix.Goals as goal

turned : (a b : Bool) → a ≡ not b → b ≡ not a
turned a true e = ap not (sym e)
turned a false e = ap not (sym e)

-- the empty prefix is that of the empty bytes
empty_eq : (prefix : List ℕ) → bytes_eq prefix [] ≡ is_empty prefix
empty_eq [] = refl
empty_eq (b ∷ prefix) = refl

found_is : (pool : Pool) (prefix : List ℕ) (found : Option ℕ) → ((n : ℕ) → (found ≡ Some n) ↔ IsPrefixNumber pool n prefix) → IfNone found (IsNew ([] ∷ pool.prefixes) prefix)
    → is_some found ≡ is_prefix_of prefix ([] ∷ pool.prefixes)
found_is pool prefix None number new = sym (prefix_absent ([] ∷ pool.prefixes) prefix new)
found_is pool prefix (Some n) number new = sym (prefix_found ([] ∷ pool.prefixes) prefix n ((number n).0 refl))

pub returns : goal.returns
returns c limits cells s =
    let prefix = c.args.row.now.prefix in
    turned _ _ (sym (found_is c.args.self.now.filler.pool prefix c.prefix_number.result (rw c.as_slice.ensures at c.prefix_number.ensures.number)
    (rw c.as_slice.ensures at c.prefix_number.ensures.new)) ∙ c.is_none.ensures)
    ∙ ap (λ b. not (b || is_prefix_of prefix c.args.self.now.filler.pool.prefixes)) (empty_eq prefix)
    ∙ ap (λ (prefixes : List (List ℕ)). not (is_empty prefix || is_prefix_of prefix prefixes)) s.prefixes
