-- The lines and the bytes that events are written as.
use Rattle.std.specs.Prelude.{ℕ, List, [], ◌∷◌, ◌++◌, Bool, true, false}
use Rattle.std.specs.List.{flat_map}
use Rattle.result_events.specs.declared.event.Attribute.{Attribute}
use Rattle.result_events.specs.declared.event.ResultEvent.{ResultEvent}
use Rattle.result_events.specs.declared.event.ResultEvent.TheVariants.{Start, Attr, Text, Instruction, Comment, End}
use Rattle.pyx_lines.specs.declared.line.Line.{Line}
use Rattle.pyx_lines.specs.declared.line.Line.TheVariants as line
use Rattle.pyx_lines.specs.Writing.{written}
use Rattle.xml_names.specs.declared.scopes.Binding.{Binding}
use Rattle.xml_names.specs.Bindings.{xml_binding}
use Rattle.pyx_output.specs.Declaring.{first_head, head_after, element_name, element_lines}

-- an open element: its name as written, and the bindings in force in it, the latest first
pub record Element : Type 0 where
  pub name : List ℕ
  pub bound : List Binding

-- the bindings in force, the innermost element first
abbrev pub in_force : List Element → List Binding
in_force [] = xml_binding ∷ []
in_force (element ∷ outer) = element.bound

-- the attributes with which the events begin
abbrev pub leading : List ResultEvent → List Attribute
leading [] = []
leading (Attr name value ∷ events) = record { name = name; value = value } ∷ leading events
leading (Start name ∷ events) = []
leading (Text text ∷ events) = []
leading (Instruction target value ∷ events) = []
leading (Comment text ∷ events) = []
leading (End ∷ events) = []

abbrev pub end_lines : List Element → List Line
end_lines [] = []
end_lines (element ∷ outer) = line.End element.name ∷ []

abbrev pub closed : List Element → List Element
closed [] = []
closed (element ∷ outer) = outer

-- the lines of events: an element's attributes stand with its start
abbrev pub lines_from : List Element → List ResultEvent → List Line
lines_from elements [] = []
lines_from elements (Start name ∷ events) =
    element_lines (in_force elements) name (leading events)
    ++ lines_from (record {
      name = element_name (in_force elements) name;
      bound = (head_after (in_force elements) (first_head (in_force elements) name) (leading events)).own ++ in_force elements;
    } ∷ elements) events
lines_from elements (Attr name value ∷ events) = lines_from elements events
lines_from elements (Text text ∷ events) = line.Text text ∷ lines_from elements events
lines_from elements (Instruction target value ∷ events) = line.Instruction target value ∷ lines_from elements events
lines_from elements (Comment text ∷ events) = line.Comment text ∷ lines_from elements events
lines_from elements (End ∷ events) = end_lines elements ++ lines_from (closed elements) events

-- the text values, one after the other
abbrev pub texts_of : List ResultEvent → List ℕ
texts_of [] = []
texts_of (Start name ∷ events) = texts_of events
texts_of (Attr name value ∷ events) = texts_of events
texts_of (Text text ∷ events) = text ++ texts_of events
texts_of (Instruction target value ∷ events) = texts_of events
texts_of (Comment text ∷ events) = texts_of events
texts_of (End ∷ events) = texts_of events

-- the bytes of lines
abbrev pub bytes_of_lines : List Line → List ℕ
bytes_of_lines lines = flat_map written lines

-- the bytes of events by a method, text or lines
abbrev pub bytes_of : Bool → List ResultEvent → List ℕ
bytes_of true events = texts_of events
bytes_of false events = bytes_of_lines (lines_from [] events)
