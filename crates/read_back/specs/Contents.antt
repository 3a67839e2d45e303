-- What a node is made of, apart from its prefix and its depth.
use Rattle.std.specs.Prelude.{ℕ, suc, ◌-◌, ◌==◌, List, [], ◌∷◌, if◌then◌else◌}
use Rattle.doc_model.specs.declared.row.Kind.{Kind}
use Rattle.doc_model.specs.declared.row.Kind.TheVariants as kind
use Rattle.doc_model.specs.declared.row.Row.{Row}
use Rattle.result_events.specs.declared.event.Name.{Name}
use Rattle.result_events.specs.declared.event.Attribute.{Attribute}
use Rattle.result_events.specs.declared.event.ResultEvent.{ResultEvent}
use Rattle.result_events.specs.declared.event.ResultEvent.TheVariants.{Start, Attr, Text, Instruction, Comment, End}

pub record Content : Type 0 where
  pub kind : Kind
  pub uri : List ℕ
  pub local : List ℕ
  pub value : List ℕ

abbrev pub content_of : Row → Content
content_of row = record { kind = row.kind; uri = row.uri; local = row.local; value = row.value }

abbrev pub element_content : Name → Content
element_content name = record { kind = kind.Element; uri = name.uri; local = name.local; value = [] }

abbrev pub attribute_content : Attribute → Content
attribute_content attribute = record { kind = kind.Attribute; uri = attribute.name.uri; local = attribute.name.local; value = attribute.value }

abbrev pub text_content : List ℕ → Content
text_content text = record { kind = kind.Text; uri = []; local = []; value = text }

abbrev pub instruction_content : List ℕ → List ℕ → Content
instruction_content target value = record { kind = kind.Instruction; uri = []; local = target; value = value }

abbrev pub comment_content : List ℕ → Content
comment_content text = record { kind = kind.Comment; uri = []; local = []; value = text }

-- the nodes of events in their order, where so many elements are open before; texts outside elements are none
abbrev pub contents : ℕ → List ResultEvent → List Content
contents depth [] = []
contents depth (Start name ∷ events) = element_content name ∷ contents (suc depth) events
contents depth (Attr name value ∷ events) = attribute_content (record { name = name; value = value }) ∷ contents depth events
contents depth (Text text ∷ events) = if depth == 0 then contents depth events else text_content text ∷ contents depth events
contents depth (Instruction target value ∷ events) = instruction_content target value ∷ contents depth events
contents depth (Comment text ∷ events) = comment_content text ∷ contents depth events
contents depth (End ∷ events) = contents (depth - 1) events
