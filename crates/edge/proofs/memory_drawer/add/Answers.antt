use Rattle.std.proofs.Common.{◌≡◌, ◌++◌, length, refl, arith}
use Rattle.edge.proofs.PlaceLemmas.{puts_at-add}
use Rattle.edge.proofs.memory_drawer.add.Goals as goal

pub returns-clause-puts : goal.returns-clause-puts
returns-clause-puts c =
    let named : c.extend_from_slice.new.self.items ≡ c.args.kept.now.items ++ c.args.name.now =
    rw (c.extend_from_slice.ensures.items, c.unwrap.ensures, c.as_bytes.ensures.value) refl in
    let both : c.extend_from_slice-2.new.self.items ≡ (c.args.kept.now.items ++ c.args.name.now) ++ c.args.bytes.now =
    rw (c.extend_from_slice-2.ensures.items, c.unwrap-2.ensures, named) refl in
    let start : c.len-start.result ≡ length c.args.kept.now.items = omega arith in
    let middle : c.len-middle.result ≡ length c.extend_from_slice.new.self.items = omega arith in
    let end : c.len-end.result ≡ length c.extend_from_slice-2.new.self.items = omega arith in
    rw (c.push.ensures.items, c.unwrap-3.ensures, both)
    (puts_at-add _ _ _ _ _ c.requires.within start (rw named at middle) (rw both at end))
