-- The names of elements and attributes (XSLT 1.0, appendix B).
use Rattle.std.specs.Prelude.{ℕ, Bool, ◌||◌, ◌==◌, if◌then◌else◌, List, [], ◌∷◌, Option, Some, None, unwrap_or, codes}
use Rattle.std.specs.Str.{bytes_eq}
use Rattle.sheet_elements.specs.declared.tag.Tag.{Tag}
use Rattle.sheet_elements.specs.declared.tag.Tag.TheVariants as tag
use Rattle.sheet_elements.specs.declared.tag.Word.{Word}
use Rattle.sheet_elements.specs.declared.tag.Word.TheVariants as word

-- the namespace of stylesheets (section 2.1)
abbrev pub is_xsl : List ℕ → Bool
is_xsl uri = bytes_eq uri (codes "http://www.w3.org/1999/XSL/Transform")

-- what a name has in a list of names, or nothing
abbrev pub named_in : {A : Type 0} → List (List ℕ × A) → List ℕ → Option A
named_in [] name = None
named_in (entry ∷ entries) name = if bytes_eq name entry.0 then Some entry.1 else named_in entries name

-- instructions that make nodes, those that choose and go on, parts of others, and top-level elements
abbrev pub node_instructions : List (List ℕ × Tag)
node_instructions =
    (codes "value-of", tag.ValueOf) ∷ (codes "copy-of", tag.CopyOf) ∷ (codes "copy", tag.Copy)
    ∷ (codes "element", tag.Element) ∷ (codes "attribute", tag.Attribute) ∷ (codes "processing-instruction", tag.ProcessingInstruction)
    ∷ (codes "comment", tag.Comment)
    ∷ []

abbrev pub flow_instructions : List (List ℕ × Tag)
flow_instructions =
    (codes "apply-templates", tag.ApplyTemplates) ∷ (codes "call-template", tag.CallTemplate) ∷ (codes "for-each", tag.ForEach)
    ∷ (codes "if", tag.If) ∷ (codes "choose", tag.Choose) ∷ (codes "message", tag.Message)
    ∷ (codes "text", tag.Text)
    ∷ node_instructions

abbrev pub parts : List (List ℕ × Tag)
parts =
    (codes "variable", tag.Variable) ∷ (codes "param", tag.Param) ∷ (codes "with-param", tag.WithParam)
    ∷ (codes "sort", tag.Sort) ∷ (codes "when", tag.When) ∷ (codes "otherwise", tag.Otherwise)
    ∷ flow_instructions

abbrev pub top_elements : List (List ℕ × Tag)
top_elements =
    (codes "stylesheet", tag.Stylesheet) ∷ (codes "transform", tag.Stylesheet) ∷ (codes "output", tag.Output)
    ∷ (codes "strip-space", tag.StripSpace) ∷ (codes "preserve-space", tag.PreserveSpace) ∷ (codes "template", tag.Template)
    ∷ parts

-- the element of the namespace that has this name
unfoldable pub tag_of : List ℕ → Option Tag
tag_of name = named_in top_elements name

-- names of attributes
abbrev pub other_words : List (List ℕ × Word)
other_words =
    (codes "order", word.Order) ∷ (codes "lang", word.Lang) ∷ (codes "case-order", word.CaseOrder)
    ∷ (codes "disable-output-escaping", word.DisableOutputEscaping) ∷ (codes "namespace", word.Namespace) ∷ (codes "terminate", word.Terminate)
    ∷ (codes "test", word.Test)
    ∷ []

abbrev pub main_words : List (List ℕ × Word)
main_words =
    (codes "name", word.Name) ∷ (codes "match", word.Match) ∷ (codes "priority", word.Priority)
    ∷ (codes "mode", word.Mode) ∷ (codes "select", word.Select) ∷ (codes "data-type", word.DataType)
    ∷ other_words

abbrev pub output_words : List (List ℕ × Word)
output_words =
    (codes "standalone", word.Standalone) ∷ (codes "doctype-public", word.DoctypePublic) ∷ (codes "doctype-system", word.DoctypeSystem)
    ∷ (codes "cdata-section-elements", word.CdataSectionElements) ∷ (codes "indent", word.Indent) ∷ (codes "media-type", word.MediaType)
    ∷ (codes "elements", word.Elements)
    ∷ main_words

abbrev pub sheet_words : List (List ℕ × Word)
sheet_words =
    (codes "version", word.Version) ∷ (codes "id", word.Id) ∷ (codes "exclude-result-prefixes", word.ExcludeResultPrefixes)
    ∷ (codes "extension-element-prefixes", word.ExtensionElementPrefixes) ∷ (codes "method", word.Method) ∷ (codes "encoding", word.Encoding)
    ∷ (codes "omit-xml-declaration", word.OmitXmlDeclaration)
    ∷ output_words

-- the attribute that has this name
unfoldable pub word_of : List ℕ → Word
word_of name = unwrap_or (named_in sheet_words name) word.Other

-- elements of the namespace that are known and not supported
unfoldable pub is_left_out : List ℕ → Bool
is_left_out name =
    bytes_eq name (codes "key")
    || bytes_eq name (codes "import")
    || bytes_eq name (codes "include")
    || bytes_eq name (codes "apply-imports")
    || bytes_eq name (codes "attribute-set")
    || bytes_eq name (codes "decimal-format")
    || bytes_eq name (codes "namespace-alias")
    || bytes_eq name (codes "number")
    || bytes_eq name (codes "fallback")

-- a number for each of these names
abbrev pub word_number : Word → ℕ
word_number word.Version = 0
word_number word.Id = 1
word_number word.ExcludeResultPrefixes = 2
word_number word.ExtensionElementPrefixes = 3
word_number word.Method = 4
word_number word.Encoding = 5
word_number word.OmitXmlDeclaration = 6
word_number word.Standalone = 7
word_number word.DoctypePublic = 8
word_number word.DoctypeSystem = 9
word_number word.CdataSectionElements = 10
word_number word.Indent = 11
word_number word.MediaType = 12
word_number word.Elements = 13
word_number word.Name = 14
word_number word.Match = 15
word_number word.Priority = 16
word_number word.Mode = 17
word_number word.Select = 18
word_number word.DataType = 19
word_number word.Order = 20
word_number word.Lang = 21
word_number word.CaseOrder = 22
word_number word.DisableOutputEscaping = 23
word_number word.Namespace = 24
word_number word.Terminate = 25
word_number word.Test = 26
word_number word.Other = 27

abbrev pub same_word : Word → Word → Bool
same_word v w = word_number v == word_number w

abbrev pub tag_number : Tag → ℕ
tag_number tag.Stylesheet = 0
tag_number tag.Output = 1
tag_number tag.StripSpace = 2
tag_number tag.PreserveSpace = 3
tag_number tag.Template = 4
tag_number tag.Variable = 5
tag_number tag.Param = 6
tag_number tag.WithParam = 7
tag_number tag.ApplyTemplates = 8
tag_number tag.CallTemplate = 9
tag_number tag.ForEach = 10
tag_number tag.Sort = 11
tag_number tag.ValueOf = 12
tag_number tag.CopyOf = 13
tag_number tag.Copy = 14
tag_number tag.Element = 15
tag_number tag.Attribute = 16
tag_number tag.ProcessingInstruction = 17
tag_number tag.Comment = 18
tag_number tag.Text = 19
tag_number tag.Message = 20
tag_number tag.If = 21
tag_number tag.Choose = 22
tag_number tag.When = 23
tag_number tag.Otherwise = 24
tag_number tag.Literal = 25

abbrev pub same_tag : Tag → Tag → Bool
same_tag t u = tag_number t == tag_number u
