-- What a buffer holds after one more event.
use Rattle.std.specs.Prelude.{List, [], ◌∷◌, ◌++◌, Bool, false, if◌then◌else◌, ◌==◌, length}
use Rattle.result_events.specs.declared.event.ResultEvent.{ResultEvent}
use Rattle.result_events.specs.declared.event.ResultEvent.TheVariants.{Start, Attr, Text, Instruction, Comment, End}

abbrev pub is_empty_text : ResultEvent → Bool
is_empty_text (Start name) = false
is_empty_text (Attr name value) = false
is_empty_text (Text text) = length text == 0
is_empty_text (Instruction target value) = false
is_empty_text (Comment text) = false
is_empty_text End = false

-- one more event; an empty text is none
abbrev pub pushed : List ResultEvent → ResultEvent → List ResultEvent
pushed events event = if is_empty_text event then events else events ++ event ∷ []
