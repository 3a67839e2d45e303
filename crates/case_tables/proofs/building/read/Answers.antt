use Rattle.std.proofs.Common.{sym, inl, inr}
use Rattle.case_tables.proofs.building.read.Goals as goal

pub returns-in-Ok : goal.returns-in-Ok
returns-in-Ok c = c.what_is_read_is_readable.ensures c.args.text.now c.in-Ok.line (elim c.in-Ok.ensures.answer [ inl e ↦ sym e | inr e ↦ absurd (cc) ])
