-- What the value of an attribute is, or its first fault.
use Rattle.std.specs.Prelude.{ℕ, ℤ, List, Bool, true, false, ◌==◌, if◌then◌else◌, length, Option, Some, None, Result, Ok, Err, codes}
use Rattle.std.specs.Str.{bytes_eq, is_utf8}
use Rattle.xpath_binding.specs.Names.{Resolution}
use Rattle.sheet_elements.specs.declared.fault.SheetKind.{SheetKind}
use Rattle.sheet_elements.specs.declared.fault.SheetKind.TheVariants as kind
use Rattle.sheet_elements.specs.declared.table.Kind.{Kind}
use Rattle.sheet_elements.specs.declared.table.Kind.TheVariants as of
use Rattle.sheet_values.specs.declared.value.Value.{Value}
use Rattle.sheet_values.specs.declared.value.Value.TheVariants as value
use Rattle.sheet_values.specs.Expressions.{expression_of, pattern_of, template_of}
use Rattle.sheet_values.specs.Names.{name_of, name_tests}
use Rattle.sheet_values.specs.Priorities.{hundredths_of}
use Rattle.sheet_values.specs.Refusals.{◌>>=◌}

-- which of two values that are listed a value is
abbrev pub is_second : List ℕ → List ℕ → List ℕ → Result Bool SheetKind
is_second first second text =
    if bytes_eq text second then Ok true else
    if bytes_eq text first then Ok false else Err kind.BadAttribute

abbrev pub or_bad : Option ℤ → Result Value SheetKind
or_bad None = Err kind.BadAttribute
or_bad (Some hundredths) = Ok (value.Priority hundredths)

abbrev pub nothing : List ℕ → Result Value SheetKind
nothing text = if length text == 0 then Ok value.Unused else Err kind.BadAttribute

-- by what it is to be, where each prefix is bound so
abbrev pub read_as : Resolution → Kind → List ℕ → Result Value SheetKind
read_as R of.Version text = Ok value.Unused
read_as R of.Expression text = expression_of R text >>= λ e. Ok (value.Expression e)
read_as R of.Pattern text = pattern_of R text >>= λ p. Ok (value.Pattern p)
read_as R of.Template text = template_of R text >>= λ ps. Ok (value.Template ps)
read_as R of.Name text = name_of R text >>= λ name. Ok (value.Name name)
read_as R of.NameTests text = name_tests R text >>= λ tests. Ok (value.NameTests tests)
read_as R of.Priority text = or_bad (hundredths_of text)
read_as R of.Method text = is_second (codes "xml") (codes "text") text >>= λ b. Ok (value.IsText b)
read_as R of.DataType text = is_second (codes "text") (codes "number") text >>= λ b. Ok (value.IsNumber b)
read_as R of.Order text = is_second (codes "ascending") (codes "descending") text >>= λ b. Ok (value.IsDescending b)
read_as R of.YesOrNo text = is_second (codes "no") (codes "yes") text >>= λ b. Ok (value.IsYes b)
read_as R of.Nothing text = nothing text
read_as R of.Unused text = Ok value.Unused

-- the lines of a stylesheet are UTF-8, so the last case never comes there
unfoldable pub value_of : Resolution → Kind → List ℕ → Result Value SheetKind
value_of R k text = if is_utf8 text then read_as R k text else Err kind.NotUtf8
