-- Events in order: attributes where they may stand and once each, and one text where several meet (XSLT 1.0, sections 7.1.3 and 7.2).
use Rattle.std.specs.Prelude.{ℕ, List, [], ◌∷◌, ◌++◌, Bool, true, ◌&&◌, not, if◌then◌else◌, map}
use Rattle.std.specs.List.{list_any}
use Rattle.std.specs.Str.{bytes_eq}
use Rattle.result_events.specs.declared.event.Name.{Name}
use Rattle.result_events.specs.declared.event.Attribute.{Attribute}
use Rattle.result_events.specs.declared.event.ResultEvent.{ResultEvent}
use Rattle.result_events.specs.declared.event.ResultEvent.TheVariants.{Start, Attr, Text, Instruction, Comment, End}

-- one expanded name: local name and URI
abbrev pub same_expanded : Name → Name → Bool
same_expanded a b = bytes_eq a.local b.local && bytes_eq a.uri b.uri

-- one more attribute, in the place of the one with its expanded name, or else at the end
abbrev pub placed : Attribute → List Attribute → List Attribute
placed new [] = new ∷ []
placed new (old ∷ later) = if same_expanded old.name new.name then new ∷ later else old ∷ placed new later

-- the attributes of an element: those before, and those with which these events begin
abbrev pub attributes_from : List Attribute → List ResultEvent → List Attribute
attributes_from before [] = before
attributes_from before (Attr name value ∷ events) = attributes_from (placed (record { name = name; value = value }) before) events
attributes_from before (Start name ∷ events) = before
attributes_from before (Text text ∷ events) = before
attributes_from before (Instruction target value ∷ events) = before
attributes_from before (Comment text ∷ events) = before
attributes_from before (End ∷ events) = before

abbrev pub event_of : Attribute → ResultEvent
event_of attribute = Attr attribute.name attribute.value

abbrev pub events_of : List Attribute → List ResultEvent
events_of attributes = map event_of attributes

-- a text before these events, one with the text that they begin with
abbrev pub joined : List ℕ → List ResultEvent → List ResultEvent
joined text [] = Text text ∷ []
joined text (Text more ∷ events) = Text (text ++ more) ∷ events
joined text (Start name ∷ events) = Text text ∷ Start name ∷ events
joined text (Attr name value ∷ events) = Text text ∷ Attr name value ∷ events
joined text (Instruction target value ∷ events) = Text text ∷ Instruction target value ∷ events
joined text (Comment more ∷ events) = Text text ∷ Comment more ∷ events
joined text (End ∷ events) = Text text ∷ End ∷ events

-- the events in order: an element's attributes stand with its start, and any other is left out
abbrev pub tidy_of : List ResultEvent → List ResultEvent
tidy_of [] = []
tidy_of (Start name ∷ events) = Start name ∷ events_of (attributes_from [] events) ++ tidy_of events
tidy_of (Attr name value ∷ events) = tidy_of events
tidy_of (Text text ∷ events) = joined text (tidy_of events)
tidy_of (Instruction target value ∷ events) = Instruction target value ∷ tidy_of events
tidy_of (Comment text ∷ events) = Comment text ∷ tidy_of events
tidy_of (End ∷ events) = End ∷ tidy_of events

-- an attribute of this expanded name is among these
abbrev pub has_name : Name → List Attribute → Bool
has_name name attributes = list_any (λ other. same_expanded other.name name) attributes

-- no two of the attributes have one expanded name
abbrev pub are_distinct : List Attribute → Bool
are_distinct [] = true
are_distinct (attribute ∷ later) = not (has_name attribute.name later) && are_distinct later
