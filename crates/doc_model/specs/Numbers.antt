-- The numbers of kinds, as a word of a table keeps them.
use Rattle.std.specs.Prelude.{ℕ}
use Rattle.doc_model.specs.declared.flaw.FlawKind.{FlawKind}
use Rattle.doc_model.specs.declared.flaw.FlawKind.TheVariants as flaw
use Rattle.doc_model.specs.declared.row.Kind.{Kind}
use Rattle.doc_model.specs.declared.row.Kind.TheVariants as kind

-- the kinds of rows, numbered from 0
abbrev pub kind_number : Kind → ℕ
kind_number kind.Root = 0
kind_number kind.Element = 1
kind_number kind.Attribute = 2
kind_number kind.Text = 3
kind_number kind.Instruction = 4
kind_number kind.Comment = 5

-- the kinds of flaws, numbered from 1
abbrev pub flaw_number : FlawKind → ℕ
flaw_number flaw.TooManyLines = 1
flaw_number flaw.LongLine = 2
flaw_number flaw.NotUtf8 = 3
flaw_number flaw.UnknownLine = 4
flaw_number flaw.NoSpace = 5
flaw_number flaw.BadName = 6
flaw_number flaw.UnboundPrefix = 7
flaw_number flaw.DuplicateAttr = 8
flaw_number flaw.TooManyNames = 9
flaw_number flaw.TooMuchText = 10
flaw_number flaw.SecondRoot = 11
flaw_number flaw.TooDeep = 12
flaw_number flaw.TooManyNodes = 13
flaw_number flaw.AttrPlace = 14
flaw_number flaw.TooManyAttrs = 15
flaw_number flaw.TextOutside = 16
flaw_number flaw.WrongEnd = 17
flaw_number flaw.NoRoot = 18
flaw_number flaw.Unclosed = 19
