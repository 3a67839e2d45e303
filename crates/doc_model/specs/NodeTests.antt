-- Node tests (XPath 1.0, section 2.3).
use Rattle.std.specs.Prelude.{[], Bool, true, false, ◌&&◌, Some, None}
use Rattle.doc_model.specs.declared.node_test.Test.{Test}
use Rattle.doc_model.specs.declared.node_test.Test.TheVariants as test
use Rattle.doc_model.specs.declared.row.Axis.{Axis}
use Rattle.doc_model.specs.declared.row.Axis.TheVariants as axis
use Rattle.doc_model.specs.declared.row.Kind.{Kind}
use Rattle.doc_model.specs.declared.row.Kind.TheVariants.{Root, Element, Attribute, Text, Instruction, Comment}
use Rattle.doc_model.specs.declared.row.Row.{Row}
use Rattle.doc_model.specs.Document.{is_attribute}
use Rattle.doc_model.specs.Strip.{is_text, is_element, is_named}

abbrev pub is_root : Kind → Bool
is_root Root = true
is_root Element = false
is_root Attribute = false
is_root Text = false
is_root Instruction = false
is_root Comment = false

abbrev pub is_instruction : Kind → Bool
is_instruction Root = false
is_instruction Element = false
is_instruction Attribute = false
is_instruction Text = false
is_instruction Instruction = true
is_instruction Comment = false

abbrev pub is_comment : Kind → Bool
is_comment Root = false
is_comment Element = false
is_comment Attribute = false
is_comment Text = false
is_comment Instruction = false
is_comment Comment = true

-- the second kind is the first
abbrev pub is_kind : Kind → Kind → Bool
is_kind Root kind = is_root kind
is_kind Element kind = is_element kind
is_kind Attribute kind = is_attribute kind
is_kind Text kind = is_text kind
is_kind Instruction kind = is_instruction kind
is_kind Comment kind = is_comment kind

-- the principal kind of the axis: attributes on the attribute axis, else elements
abbrev pub principal_of : Axis → Kind
principal_of axis.Attribute = Attribute
principal_of _ = Element

-- the row meets the test, where this is the principal kind
abbrev pub meets : Kind → Test → Row → Bool
meets principal test.Any row = true
meets principal (test.Kind kind) row = is_kind kind row.kind
meets principal (test.Name uri local) row = is_named row uri (Some local) && is_kind principal row.kind
meets principal (test.InUri uri) row = is_named row uri None && is_kind principal row.kind
meets principal test.AnyName row = is_kind principal row.kind
meets principal (test.Target target) row = is_named row [] (Some target) && is_kind Instruction row.kind
