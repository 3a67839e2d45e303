use Rattle.std.proofs.Common.{◌≡◌, ◌++◌, ◌∷◌, [], length, Some, sym, ap, ◌∙◌, subst}
use Rattle.std.specs.BTreeMap as tree
use Rattle.name_pool.specs.Keys.{key_number, key_cmp}
use Rattle.name_pool.specs.Numbers.{Numbers, IsNew}
use Rattle.name_pool.proofs.Numbering.{numbers_push}
use Rattle.name_pool.proofs.Lookups.{puts_key}
use Rattle.name_pool.proofs.type_numbers.TypeNumbers.add.Goals as goal

pub invariant_of-self-2 : goal.invariant_of-self-2
invariant_of-self-2 c =
    let old = c.self.inside.keys.items in
    let before = c.self.inside.numbers in
    let after = c.insert.new.self in
    let key = c.args.key in
    let count : c.len-number.result ≡ length old = c.len-number.ensures ∙ c.self.inside.keys.ok.0 in
    let puts = puts_key before after key (length old) (subst (λ n. tree.Updates key_cmp before after key (Some n)) count c.in_ok-insert.ensures.updates) in
    let pushed = numbers_push (key_number before) (key_number after) old key c.self.invariant (subst (λ xs. IsNew xs key) (sym c.self.view_is) c.requires.new) puts in
    subst (λ xs. Numbers (key_number after) xs) (sym (c.push_reserved.ensures.items ∙ ap (λ xs. xs ++ key ∷ []) c.reserve.ensures.items)) pushed
