-- Axes and node tests as they are written (XPath 1.0, sections 2.2 and 2.3).
use Rattle.std.specs.Prelude.{ℕ, List, [], Option, Some, None}
use Rattle.doc_model.specs.declared.node_test.Test.{Test}
use Rattle.doc_model.specs.declared.node_test.Test.TheVariants as test
use Rattle.doc_model.specs.declared.row.Axis.{Axis}
use Rattle.doc_model.specs.declared.row.Axis.TheVariants as axis
use Rattle.doc_model.specs.declared.row.Kind.TheVariants as kind
use Rattle.doc_model.specs.Answers.{Known}
use Rattle.xpath_syntax.specs.declared.expression.AxisName.{AxisName}
use Rattle.xpath_syntax.specs.declared.expression.AxisName.TheVariants as name
use Rattle.xpath_syntax.specs.declared.expression.TestExpr.{TestExpr}
use Rattle.xpath_syntax.specs.declared.expression.TestExpr.TheVariants as written
use Rattle.xpath_meaning.specs.Outcome.{Outcome}
use Rattle.xpath_meaning.specs.Reading.{Reading}

-- the URI that a name is bound to; empty where it is not bound
abbrev pub bound_uri : Option (List ℕ) → List ℕ
bound_uri None = []
bound_uri (Some uri) = uri

abbrev pub test_of : TestExpr → Test
test_of written.AnyName = test.AnyName
test_of (written.InPrefix name) = test.InUri (bound_uri name.uri)
test_of (written.Name name) = test.Name (bound_uri name.uri) name.local
test_of written.Node = test.Any
test_of written.Text = test.Kind kind.Text
test_of written.Comment = test.Kind kind.Comment
test_of (written.Instruction None) = test.Kind kind.Instruction
test_of (written.Instruction (Some target)) = test.Target target

-- the axis of this name; the namespace axis is none
abbrev pub axis_of : AxisName → Option Axis
axis_of name.Itself = Some axis.Itself
axis_of name.Child = Some axis.Child
axis_of name.Parent = Some axis.Parent
axis_of name.Descendant = Some axis.Descendant
axis_of name.DescendantOrSelf = Some axis.DescendantOrSelf
axis_of name.Ancestor = Some axis.Ancestor
axis_of name.AncestorOrSelf = Some axis.AncestorOrSelf
axis_of name.Following = Some axis.Following
axis_of name.Preceding = Some axis.Preceding
axis_of name.FollowingSibling = Some axis.FollowingSibling
axis_of name.PrecedingSibling = Some axis.PrecedingSibling
axis_of name.Attribute = Some axis.Attribute
axis_of name.Namespace = None

abbrev pub on_axis : Reading → Option Axis → Test → ℕ → Outcome (List ℕ)
on_axis R None test n = Known []
on_axis R (Some axis) test n = R.axis axis test n

-- the nodes on an axis of a node that meet a test, as both are written, in the order of the axis
abbrev pub nodes_on : Reading → AxisName → TestExpr → ℕ → Outcome (List ℕ)
nodes_on R axis test n = on_axis R (axis_of axis) (test_of test) n
