-- What may stand in each element (XSLT 1.0, appendix B).
use Rattle.std.specs.Prelude.{Bool, true, false, ◌||◌, Option, Some, None, if◌then◌else◌}
use Rattle.sheet_elements.specs.declared.places.Place.{Place}
use Rattle.sheet_elements.specs.declared.places.Place.TheVariants as place
use Rattle.sheet_elements.specs.declared.tag.Tag.{Tag}
use Rattle.sheet_elements.specs.declared.tag.Tag.TheVariants as tag
use Rattle.sheet_elements.specs.Names.{same_tag}

-- what an element's content begins with
abbrev pub content : Tag → Place
content tag.Stylesheet = place.Top
content tag.Output = place.Nothing
content tag.StripSpace = place.Nothing
content tag.PreserveSpace = place.Nothing
content tag.Template = place.Params
content tag.Variable = place.Body
content tag.Param = place.Body
content tag.WithParam = place.Body
content tag.ApplyTemplates = place.SortsAndParams
content tag.CallTemplate = place.WithParams
content tag.ForEach = place.Sorts
content tag.Sort = place.Nothing
content tag.ValueOf = place.Nothing
content tag.CopyOf = place.Nothing
content tag.Copy = place.Body
content tag.Element = place.Body
content tag.Attribute = place.Body
content tag.ProcessingInstruction = place.Body
content tag.Comment = place.Body
content tag.Text = place.TextAlone
content tag.Message = place.Body
content tag.If = place.Body
content tag.Choose = place.Whens
content tag.When = place.Body
content tag.Otherwise = place.Body
content tag.Literal = place.Body

-- what may stand in a body
abbrev pub is_instruction : Tag → Bool
is_instruction tag.Variable = true
is_instruction tag.ApplyTemplates = true
is_instruction tag.CallTemplate = true
is_instruction tag.ForEach = true
is_instruction tag.ValueOf = true
is_instruction tag.CopyOf = true
is_instruction tag.Copy = true
is_instruction tag.Element = true
is_instruction tag.Attribute = true
is_instruction tag.ProcessingInstruction = true
is_instruction tag.Comment = true
is_instruction tag.Text = true
is_instruction tag.Message = true
is_instruction tag.If = true
is_instruction tag.Choose = true
is_instruction tag.Literal = true
is_instruction _ = false

abbrev pub then_place : Bool → Place → Option Place
then_place test p = if test then Some p else None

abbrev pub behind_instruction : Tag → Option Place
behind_instruction t = then_place (is_instruction t) place.Body

-- what may stand in the root element
abbrev pub is_top_level : Tag → Bool
is_top_level tag.Output = true
is_top_level tag.StripSpace = true
is_top_level tag.PreserveSpace = true
is_top_level tag.Template = true
is_top_level tag.Variable = true
is_top_level tag.Param = true
is_top_level _ = false

-- what may stand behind an element that stands at a place, and None where it may not stand there
abbrev pub behind : Place → Tag → Option Place
behind place.Root t = then_place (same_tag t tag.Stylesheet) place.Nothing
behind place.Top t = then_place (is_top_level t) place.Top
behind place.Params t = if same_tag t tag.Param then Some place.Params else behind_instruction t
behind place.Sorts t = if same_tag t tag.Sort then Some place.Sorts else behind_instruction t
behind place.Body t = behind_instruction t
behind place.SortsAndParams t = then_place (same_tag t tag.Sort || same_tag t tag.WithParam) place.SortsAndParams
behind place.WithParams t = then_place (same_tag t tag.WithParam) place.WithParams
behind place.Whens t = if same_tag t tag.When then Some place.Whens else then_place (same_tag t tag.Otherwise) place.Nothing
behind place.TextAlone t = None
behind place.Nothing t = None

-- where text may stand, and what may stand behind it
abbrev pub behind_text : Place → Option Place
behind_text place.Params = Some place.Body
behind_text place.Sorts = Some place.Body
behind_text place.Body = Some place.Body
behind_text place.TextAlone = Some place.TextAlone
behind_text _ = None

-- a place in the root element or in a body
abbrev pub tells_left_out : Place → Bool
tells_left_out place.Top = true
tells_left_out place.Params = true
tells_left_out place.Sorts = true
tells_left_out place.Body = true
tells_left_out _ = false
