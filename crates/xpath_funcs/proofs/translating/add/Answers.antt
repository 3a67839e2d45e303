use Rattle.std.proofs.Common.{◌≡◌, None}
use Rattle.xpath_funcs.specs.Translating.{found}
use Rattle.xpath_funcs.proofs.Partners.{mentioned}
use Rattle.xpath_funcs.proofs.translating.add.Goals as goal

pub returns : goal.returns
returns c =
    let none : found c.in_ok-key.key.items c.args.partners.now ≡ None = rw c.in_ok-key.ensures.items c.requires in
    rw (← c.in_ok-key.ensures.items, ← c.in_ok-from_slice.ensures)
    (mentioned c.in_ok-key.key.items c.in_ok-from_slice.field-0 c.args.partners.now c.insert.new.self none c.in_ok-insert.ensures.updates)
