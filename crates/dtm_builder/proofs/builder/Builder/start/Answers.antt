use Rattle.std.proofs.Common.{refl}
use Rattle.dtm_builder.proofs.builder.Builder.start.Goals as goal

pub returns : goal.returns
returns c = record {
  going = refl;
  limited = refl;
  lines = refl;
  flawless = tt;
  readable = tt;
  checked = c.in-Ok.ensures;
  written = c.in_ok-writer.ensures;
  names = record { count = refl; bytes = refl };
  steps = refl;
  recalled = λ kind number local n knows. absurd (c.new.ensures kind number local n knows);
}
