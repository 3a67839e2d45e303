-- What a fragment of a result tree is as a string, as a number and beside an atom (XSLT 1.0, section 11.1).
use Rattle.std.specs.Prelude.{◌≡◌, ℕ, true, List, [], Result, Ok, Err}
use Rattle.std.specs.List.{flat_map}
use Rattle.result_events.specs.declared.event.ResultEvent.{ResultEvent}
use Rattle.result_events.specs.declared.event.ResultEvent.TheVariants as event
use Rattle.whole_num.specs.Text.{number_of}
use Rattle.whole_num.specs.declared.number.Num.{Num}
use Rattle.xpath_values.specs.declared.atom.Atom.{Atom}
use Rattle.xpath_values.specs.declared.atom.Atom.TheVariants.{Text, Number, Truth}
use Rattle.xpath_values.specs.declared.fragment.ConversionError.{ConversionError}
use Rattle.xpath_values.specs.declared.fragment.ConversionError.TheVariants.{Fault, Memory}

-- the text that an event adds
abbrev pub text_in : ResultEvent → List ℕ
text_in (event.Text text) = text
text_in (event.Start name) = []
text_in (event.Attr name value) = []
text_in (event.Instruction target value) = []
text_in (event.Comment value) = []
text_in event.End = []

-- all texts, nested ones too
abbrev pub text_of : List ResultEvent → List ℕ
text_of events = flat_map text_in events

-- an answer is the number of the fragment's string, or its fault, or want of memory
abbrev pub Converts : List ResultEvent → Result Num ConversionError → Type 0
Converts events (Ok number) = number_of (text_of events) ≡ Ok number
Converts events (Err (Fault fault)) = number_of (text_of events) ≡ Err fault
Converts events (Err Memory) = Unit {0}

-- beside a boolean a fragment is true, beside any other atom its string
abbrev pub beside : List ResultEvent → Atom → Atom
beside events (Truth truth) = Truth true
beside events (Number number) = Text (text_of events)
beside events (Text text) = Text (text_of events)
