use Rattle.std.proofs.Common.{◌≡◌, ◌↔◌, ℕ, Bool, true, false, not, Option, Some, None, IfNone, refl, ap, sym, ◌∙◌, List}
use Rattle.std.specs.Prelude.{is_some}
use Rattle.name_pool.specs.Names.{Name, Pool, IsTypeNumber}
use Rattle.name_pool.specs.Numbers.{IsNew}
use Rattle.node_writer.specs.Taken.{is_name_of}
use Rattle.node_writer.proofs.Names.{name_found, name_absent}
use Rattle.node_writer.proofs.writer.NodeWriter.is_new_name.Goals as goal

turned : (a b : Bool) → a ≡ not b → b ≡ not a
turned a true e = ap not (sym e)
turned a false e = ap not (sym e)

found_is : (pool : Pool) (name : Name) (found : Option ℕ) → ((n : ℕ) → (found ≡ Some n) ↔ IsTypeNumber pool n name) → IfNone found (IsNew pool.names name) → is_some found ≡ is_name_of name pool.names
found_is pool name None number new = sym (name_absent pool.names name new)
found_is pool name (Some n) number new = sym (name_found pool.names name _ ((number n).0 refl).1)

pub returns : goal.returns
returns c limits cells s =
    let name : Name = record { kind = c.args.kind; uri = c.args.uri.now; local = c.args.local.now } in
    turned _ _ (sym (found_is c.args.self.now.filler.pool name c.find.result c.find.ensures.number c.find.ensures.new) ∙ c.is_none.ensures)
    ∙ ap (λ (names : List Name). not (is_name_of name names)) s.names
