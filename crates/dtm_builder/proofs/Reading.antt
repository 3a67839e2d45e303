-- Lines that were read can be taken.
use Rattle.std.proofs.Common.{◌≡◌, ◌≢◌, List, ℕ, Ok}
use Rattle.pyx_lines.specs.declared.line.Line.{Line}
use Rattle.pyx_lines.specs.declared.line.Line.TheVariants.{Start, End, Attr, Text, Instruction, Comment, Passed}
use Rattle.pyx_lines.specs.Spelling.{line_of}
use Rattle.pyx_lines.specs.Writing.{CanBeWritten}
use Rattle.pyx_lines.proofs.Written.{read_can}
use Rattle.dtm_builder.specs.Lines.{IsReadable}

written_readable : (line : Line) → (line ≢ Passed → CanBeWritten line) → IsReadable line
written_readable (Start name) h = h (λ e. cc)
written_readable (End name) h = h (λ e. cc)
written_readable (Attr name value) h = h (λ e. cc)
written_readable (Text text) h = h (λ e. cc)
written_readable (Instruction target value) h = h (λ e. cc)
written_readable (Comment text) h = h (λ e. cc)
written_readable Passed h = tt

pub readable : (bytes : List ℕ) (line : Line) → line_of bytes ≡ Ok line → IsReadable line
readable bytes line h = written_readable line (read_can bytes line h)
