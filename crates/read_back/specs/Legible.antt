-- Events that can be delivered as lines.
use Rattle.std.specs.Prelude.{ℕ, zero, suc, ◌==◌, List, [], ◌∷◌, Bool, true, false, not, ◌&&◌, ◌||◌, IsTrue, length, codes}
use Rattle.std.specs.List.{list_all}
use Rattle.std.specs.Str.{is_utf8, bytes_eq}
use Rattle.name_grammar.specs.Names.{is_ncname}
use Rattle.result_events.specs.declared.event.Name.{Name}
use Rattle.result_events.specs.declared.event.ResultEvent.{ResultEvent}
use Rattle.result_events.specs.declared.event.ResultEvent.TheVariants.{Start, Attr, Text, Instruction, Comment, End}

-- an NCName in UTF-8
abbrev pub is_part : List ℕ → Bool
is_part bytes = is_ncname bytes && is_utf8 bytes

-- a name of the line format, with or without a prefix, and a URI in UTF-8
abbrev pub is_legible_name : Name → Bool
is_legible_name name = (length name.prefix == 0 || is_part name.prefix) && (is_part name.local && is_utf8 name.uri)

-- an attribute that would be written as a declaration
abbrev pub would_declare : Name → Bool
would_declare name = length name.uri == 0 && bytes_eq name.local (codes "xmlns")

-- names, targets, URIs, values and texts are those of lines, and no text is empty
abbrev pub is_legible : ResultEvent → Bool
is_legible (Start name) = is_legible_name name
is_legible (Attr name value) = is_legible_name name && (not (would_declare name) && is_utf8 value)
is_legible (Text text) = is_utf8 text && not (length text == 0)
is_legible (Instruction target value) = is_part target && is_utf8 value
is_legible (Comment text) = is_utf8 text
is_legible End = true

-- each end closes an open element, where so many are open before, and none stays open
abbrev pub balances : ℕ → List ResultEvent → Bool
balances zero [] = true
balances (suc depth) [] = false
balances depth (Start name ∷ events) = balances (suc depth) events
balances zero (End ∷ events) = false
balances (suc depth) (End ∷ events) = balances depth events
balances depth (Attr name value ∷ events) = balances depth events
balances depth (Text text ∷ events) = balances depth events
balances depth (Instruction target value ∷ events) = balances depth events
balances depth (Comment text ∷ events) = balances depth events

pub record IsLegible (events : List ResultEvent) : Type 0 where
  pub balanced : IsTrue (balances 0 events)
  pub legible : IsTrue (list_all is_legible events)
