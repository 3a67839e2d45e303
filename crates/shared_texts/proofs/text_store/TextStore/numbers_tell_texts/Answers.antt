use Rattle.std.proofs.Common.{subst}
use Rattle.shared_texts.specs.Numbers.{text_number, NoRepeats}
use Rattle.shared_texts.proofs.Lookups.{told}
use Rattle.shared_texts.proofs.text_store.TextStore.numbers_tell_texts.Goals as goal

pub returns : goal.returns
returns c = subst NoRepeats c.self.view_is (told (text_number c.self.inside.numbers) c.self.inside.texts.items c.self.invariant)
