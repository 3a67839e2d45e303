-- The flaws that what is delivered may have when it is read: those of documents that have no single root element, and of the limits.
use Rattle.std.specs.Prelude.{Bool, true, false, Option, Some, None}
use Rattle.doc_model.specs.declared.flaw.Flaw.{Flaw}
use Rattle.doc_model.specs.declared.flaw.FlawKind.{FlawKind}
use Rattle.doc_model.specs.declared.flaw.FlawKind.TheVariants as kind

abbrev pub may_come : FlawKind → Bool
may_come kind.NoRoot = true
may_come kind.SecondRoot = true
may_come kind.TextOutside = true
may_come kind.LongLine = true
may_come kind.TooManyLines = true
may_come kind.TooDeep = true
may_come kind.TooManyAttrs = true
may_come kind.TooManyNodes = true
may_come kind.TooManyNames = true
may_come kind.TooMuchText = true
may_come kind.NotUtf8 = false
may_come kind.UnknownLine = false
may_come kind.NoSpace = false
may_come kind.BadName = false
may_come kind.UnboundPrefix = false
may_come kind.DuplicateAttr = false
may_come kind.AttrPlace = false
may_come kind.WrongEnd = false
may_come kind.Unclosed = false

abbrev pub kind_may_come : Option FlawKind → Bool
kind_may_come None = true
kind_may_come (Some kind) = may_come kind

abbrev pub flaw_may_come : Option Flaw → Bool
flaw_may_come None = true
flaw_may_come (Some flaw) = may_come flaw.kind
