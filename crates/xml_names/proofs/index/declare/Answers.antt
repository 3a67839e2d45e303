use Rattle.std.proofs.Common.{◌≡◌, Some, length, arith}
use Rattle.xml_names.proofs.Indexing.{found_after, indexed_more}
use Rattle.xml_names.proofs.index.declare.Goals as goal

pub returns-clause-indexed : goal.returns-clause-indexed
returns-clause-indexed c =
    let count : c.len.result ≡ length c.args.declarations.now.items = grind (arith, c.in_ok-reserve.ensures.items) in
    rw (c.push_reserved.ensures.items, c.in_ok-reserve.ensures.items)
    (indexed_more c.args.declarations.now.items c.args.latest.now c.insert.new.self _ c.requires
    (λ prefix. rw (c.in_ok-from_slice.ensures, ← c.in_ok-key.ensures.items, ← count)
    (found_after c.in_ok-key.key.items c.args.latest.now c.insert.new.self (Some c.len.result) c.in_ok-hidden.ensures.updates prefix))
    (rw (c.in_ok-from_slice.ensures, ← c.in_ok-key.ensures.items) c.in_ok-hidden.ensures.old))
