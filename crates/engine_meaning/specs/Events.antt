-- The names and the texts of result events (XSLT 1.0, sections 7 and 13).
use Rattle.std.specs.Prelude.{ℕ, zero, suc, pred, List, [], ◌∷◌, ◌++◌}
use Rattle.result_events.specs.declared.event.Name.{Name}
use Rattle.result_events.specs.declared.event.ResultEvent.{ResultEvent}
use Rattle.result_events.specs.declared.event.ResultEvent.TheVariants.{Start, Attr, Text, Instruction, Comment, End}
use Rattle.xpath_syntax.specs.declared.expression.NameRef.{NameRef}
use Rattle.xpath_meaning.specs.Tests.{bound_uri}

-- the name of a literal result element or of its attribute
abbrev pub name_of : NameRef → Name
name_of name = record { prefix = name.prefix; uri = bound_uri name.uri; local = name.local }

abbrev pub if_outside : ℕ → List ℕ → List ℕ
if_outside zero text = text
if_outside (suc depth) text = []

-- the texts outside elements, one after the other, where so many elements are open
abbrev pub text_outside : ℕ → List ResultEvent → List ℕ
text_outside depth [] = []
text_outside depth (Start name ∷ events) = text_outside (suc depth) events
text_outside depth (Attr name value ∷ events) = text_outside depth events
text_outside depth (Text text ∷ events) = if_outside depth text ++ text_outside depth events
text_outside depth (Instruction target value ∷ events) = text_outside depth events
text_outside depth (Comment text ∷ events) = text_outside depth events
text_outside depth (End ∷ events) = text_outside (pred depth) events

-- what the body of xsl:attribute, xsl:processing-instruction and xsl:comment counts by: its texts outside elements
abbrev pub outer_text : List ResultEvent → List ℕ
outer_text events = text_outside 0 events
