-- The table of elements: the attributes of each, and what the value of each is (XSLT 1.0, appendix B).
use Rattle.std.specs.Prelude.{List, [], ◌∷◌}
use Rattle.sheet_elements.specs.declared.table.Row.{Row}
use Rattle.sheet_elements.specs.declared.table.Kind.{Kind}
use Rattle.sheet_elements.specs.declared.table.Kind.TheVariants as of
use Rattle.sheet_elements.specs.declared.table.Need.TheVariants as need
use Rattle.sheet_elements.specs.declared.tag.Tag.{Tag}
use Rattle.sheet_elements.specs.declared.tag.Tag.TheVariants as tag
use Rattle.sheet_elements.specs.declared.tag.Word.{Word}
use Rattle.sheet_elements.specs.declared.tag.Word.TheVariants as word

abbrev pub required : Word → Kind → Row
required w k = record { word = w; need = need.Required; kind = k }

-- it, or another one of its element's that is marked so
abbrev pub either : Word → Kind → Row
either w k = record { word = w; need = need.Either; kind = k }

abbrev pub optional : Word → Kind → Row
optional w k = record { word = w; need = need.Optional; kind = k }

abbrev pub rows : Tag → List Row
rows tag.Stylesheet =
    required word.Version of.Version
    ∷ optional word.Id of.Unused
    ∷ optional word.ExcludeResultPrefixes of.Unused
    ∷ optional word.ExtensionElementPrefixes of.Nothing
    ∷ []
rows tag.Output =
    optional word.Method of.Method
    ∷ optional word.Version of.Unused
    ∷ optional word.Encoding of.Unused
    ∷ optional word.OmitXmlDeclaration of.Unused
    ∷ optional word.Standalone of.Unused
    ∷ optional word.DoctypePublic of.Unused
    ∷ optional word.DoctypeSystem of.Unused
    ∷ optional word.CdataSectionElements of.Unused
    ∷ optional word.Indent of.Unused
    ∷ optional word.MediaType of.Unused
    ∷ []
rows tag.StripSpace = required word.Elements of.NameTests ∷ []
rows tag.PreserveSpace = required word.Elements of.NameTests ∷ []
rows tag.Template = either word.Match of.Pattern ∷ either word.Name of.Name ∷ optional word.Priority of.Priority ∷ optional word.Mode of.Name ∷ []
rows tag.Variable = required word.Name of.Name ∷ optional word.Select of.Expression ∷ []
rows tag.Param = required word.Name of.Name ∷ optional word.Select of.Expression ∷ []
rows tag.WithParam = required word.Name of.Name ∷ optional word.Select of.Expression ∷ []
rows tag.ApplyTemplates = optional word.Select of.Expression ∷ optional word.Mode of.Name ∷ []
rows tag.CallTemplate = required word.Name of.Name ∷ []
rows tag.ForEach = required word.Select of.Expression ∷ []
rows tag.Sort =
    optional word.Select of.Expression
    ∷ optional word.DataType of.DataType
    ∷ optional word.Order of.Order
    ∷ optional word.Lang of.Unused
    ∷ optional word.CaseOrder of.Unused
    ∷ []
rows tag.ValueOf = required word.Select of.Expression ∷ optional word.DisableOutputEscaping of.Unused ∷ []
rows tag.CopyOf = required word.Select of.Expression ∷ []
rows tag.Copy = []
rows tag.Element = required word.Name of.Template ∷ optional word.Namespace of.Template ∷ []
rows tag.Attribute = required word.Name of.Template ∷ optional word.Namespace of.Template ∷ []
rows tag.ProcessingInstruction = required word.Name of.Template ∷ []
rows tag.Comment = []
rows tag.Text = optional word.DisableOutputEscaping of.Unused ∷ []
rows tag.Message = optional word.Terminate of.YesOrNo ∷ []
rows tag.If = required word.Test of.Expression ∷ []
rows tag.Choose = []
rows tag.When = required word.Test of.Expression ∷ []
rows tag.Otherwise = []
rows tag.Literal = []
