-- The kinds of faults.
use Rattle.std.specs.Prelude.{ℕ, List, codes}
use Rattle.doc_model.specs.declared.flaw.FlawKind.{FlawKind}
use Rattle.doc_model.specs.declared.flaw.FlawKind.TheVariants as flaw
use Rattle.sheet_elements.specs.declared.fault.SheetKind.{SheetKind}
use Rattle.sheet_elements.specs.declared.fault.SheetKind.TheVariants as kind

-- the name of the kind
abbrev pub kind_name : SheetKind → List ℕ
kind_name kind.TooManyLines = codes "TooManyLines"
kind_name kind.LongLine = codes "LongLine"
kind_name kind.NotUtf8 = codes "NotUtf8"
kind_name kind.UnknownLine = codes "UnknownLine"
kind_name kind.NoSpace = codes "NoSpace"
kind_name kind.BadName = codes "BadName"
kind_name kind.UnboundPrefix = codes "UnboundPrefix"
kind_name kind.DuplicateAttr = codes "DuplicateAttr"
kind_name kind.TooMuchText = codes "TooMuchText"
kind_name kind.SecondRoot = codes "SecondRoot"
kind_name kind.TooDeep = codes "TooDeep"
kind_name kind.TooManyNodes = codes "TooManyNodes"
kind_name kind.AttrPlace = codes "AttrPlace"
kind_name kind.TooManyAttrs = codes "TooManyAttrs"
kind_name kind.TextOutside = codes "TextOutside"
kind_name kind.WrongEnd = codes "WrongEnd"
kind_name kind.NoRoot = codes "NoRoot"
kind_name kind.Unclosed = codes "Unclosed"
kind_name kind.SheetTooDeep = codes "SheetTooDeep"
kind_name kind.NotStylesheet = codes "NotStylesheet"
kind_name kind.BadElement = codes "BadElement"
kind_name kind.Unsupported = codes "Unsupported"
kind_name kind.BadAttribute = codes "BadAttribute"
kind_name kind.MissingAttribute = codes "MissingAttribute"
kind_name kind.BadVersion = codes "BadVersion"
kind_name kind.Lex = codes "Lex"
kind_name kind.Syntax = codes "Syntax"
kind_name kind.FractionLiteral = codes "FractionLiteral"
kind_name kind.NumberLimit = codes "NumberLimit"
kind_name kind.ExprTooDeep = codes "ExprTooDeep"
kind_name kind.UnknownFunction = codes "UnknownFunction"
kind_name kind.WrongArgs = codes "WrongArgs"
kind_name kind.VariableInPattern = codes "VariableInPattern"
kind_name kind.KeyInKey = codes "KeyInKey"
kind_name kind.DuplicateTemplate = codes "DuplicateTemplate"
kind_name kind.DuplicateVariable = codes "DuplicateVariable"
kind_name kind.UnknownTemplate = codes "UnknownTemplate"
kind_name kind.UnknownKey = codes "UnknownKey"
kind_name kind.UnknownVariable = codes "UnknownVariable"
kind_name kind.Circle = codes "Circle"

-- the kind of a flaw; no name of a stylesheet is counted, so TooManyNames never comes
abbrev pub kind_of_flaw : FlawKind → SheetKind
kind_of_flaw flaw.TooManyLines = kind.TooManyLines
kind_of_flaw flaw.LongLine = kind.LongLine
kind_of_flaw flaw.NotUtf8 = kind.NotUtf8
kind_of_flaw flaw.UnknownLine = kind.UnknownLine
kind_of_flaw flaw.NoSpace = kind.NoSpace
kind_of_flaw flaw.BadName = kind.BadName
kind_of_flaw flaw.UnboundPrefix = kind.UnboundPrefix
kind_of_flaw flaw.DuplicateAttr = kind.DuplicateAttr
kind_of_flaw flaw.TooManyNames = kind.TooMuchText
kind_of_flaw flaw.TooMuchText = kind.TooMuchText
kind_of_flaw flaw.SecondRoot = kind.SecondRoot
kind_of_flaw flaw.TooDeep = kind.TooDeep
kind_of_flaw flaw.TooManyNodes = kind.TooManyNodes
kind_of_flaw flaw.AttrPlace = kind.AttrPlace
kind_of_flaw flaw.TooManyAttrs = kind.TooManyAttrs
kind_of_flaw flaw.TextOutside = kind.TextOutside
kind_of_flaw flaw.WrongEnd = kind.WrongEnd
kind_of_flaw flaw.NoRoot = kind.NoRoot
kind_of_flaw flaw.Unclosed = kind.Unclosed
