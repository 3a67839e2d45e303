-- The names of the flaws, as console lines print them.
use Rattle.std.specs.Prelude.{ℕ, List, codes}
use Rattle.doc_model.specs.declared.flaw.FlawKind.{FlawKind}
use Rattle.doc_model.specs.declared.flaw.FlawKind.TheVariants.{TooManyLines, LongLine, NotUtf8, UnknownLine, NoSpace, BadName, UnboundPrefix, DuplicateAttr, TooManyNames, TooMuchText, SecondRoot, TooDeep, TooManyNodes, AttrPlace, TooManyAttrs, TextOutside, WrongEnd, NoRoot, Unclosed}

-- the name of the variant
abbrev pub flaw_name : FlawKind → List ℕ
flaw_name TooManyLines = codes "TooManyLines"
flaw_name LongLine = codes "LongLine"
flaw_name NotUtf8 = codes "NotUtf8"
flaw_name UnknownLine = codes "UnknownLine"
flaw_name NoSpace = codes "NoSpace"
flaw_name BadName = codes "BadName"
flaw_name UnboundPrefix = codes "UnboundPrefix"
flaw_name DuplicateAttr = codes "DuplicateAttr"
flaw_name TooManyNames = codes "TooManyNames"
flaw_name TooMuchText = codes "TooMuchText"
flaw_name SecondRoot = codes "SecondRoot"
flaw_name TooDeep = codes "TooDeep"
flaw_name TooManyNodes = codes "TooManyNodes"
flaw_name AttrPlace = codes "AttrPlace"
flaw_name TooManyAttrs = codes "TooManyAttrs"
flaw_name TextOutside = codes "TextOutside"
flaw_name WrongEnd = codes "WrongEnd"
flaw_name NoRoot = codes "NoRoot"
flaw_name Unclosed = codes "Unclosed"
