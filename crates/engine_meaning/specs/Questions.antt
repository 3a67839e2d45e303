-- What instructions ask of the document.
use Rattle.std.specs.Prelude.{ℕ, List, Bool, if◌then◌else◌, Option, Some, None, Result, Ok, Err}
use Rattle.doc_model.specs.Answers.{Known, Fault}
use Rattle.doc_model.specs.declared.row.Row.{Row}
use Rattle.fault_kinds.specs.declared.fault.FaultKind.TheVariants as kind
use Rattle.computed_names.specs.Computed.{computed, is_target}
use Rattle.computed_names.specs.declared.stop.NameStop.{NameStop}
use Rattle.computed_names.specs.declared.stop.NameStop.TheVariants as stop
use Rattle.result_events.specs.declared.event.Name.{Name}
use Rattle.xpath_syntax.specs.declared.expression.Expr.{Expr}
use Rattle.xpath_syntax.specs.declared.pattern.Part.{Part}
use Rattle.xpath_syntax.specs.declared.pattern.Part.TheVariants as part
use Rattle.xpath_values.specs.declared.value.Value.{Value}
use Rattle.xpath_meaning.specs.Evaluation.{meant, evaluation_of}
use Rattle.xpath_meaning.specs.Meanings as meaning
use Rattle.xpath_meaning.specs.Outcome.{Outcome, ◌>>=◌, each_of}
use Rattle.xpath_meaning.specs.Steps.{joined}
use Rattle.engine_meaning.specs.Places.{Setting, Place, values_at}

-- the value of an expression, whole
abbrev pub value_at : Setting → Place → Expr → Outcome Value
value_at W c e = evaluation_of W.world.reading e (values_at W c) c.context

-- an expression as a string; a path whose nodes may be taken one by one is judged by its first item
abbrev pub text_at : Setting → Place → Expr → Outcome (List ℕ)
text_at W c e = meaning.text_at (meant e) W.world.reading (values_at W c) c.context

-- an expression as a boolean; so is such a path
abbrev pub truth_at : Setting → Place → Expr → Outcome Bool
truth_at W c e = meaning.truth_at (meant e) W.world.reading (values_at W c) c.context

-- the node-set of an expression, whole; no other value is one
abbrev pub nodes_at : Setting → Place → Expr → Outcome (List ℕ)
nodes_at W c e = meaning.nodes_at (meant e) W.world.reading (values_at W c) c.context

abbrev pub part_text : Setting → Place → Part → Outcome (List ℕ)
part_text W c (part.Plain text) = Known text
part_text W c (part.Value e) = text_at W c e

-- the text of an attribute value template (XSLT 1.0, section 7.6.2): its parts from the left
abbrev pub template_text : Setting → Place → List Part → Outcome (List ℕ)
template_text W c parts = each_of (part_text W c) parts >>= λ texts. Known (joined texts)

abbrev pub namespace_text : Setting → Place → Option (List Part) → Outcome (Option (List ℕ))
namespace_text W c None = Known None
namespace_text W c (Some parts) = template_text W c parts >>= λ uri. Known (Some uri)

-- a computed name, or why there is none; it never wants memory
abbrev pub judged : Result Name NameStop → Outcome Name
judged (Ok name) = Known name
judged (Err stop.BadName) = Fault kind.BadName
judged (Err stop.UnboundPrefix) = Fault kind.UnboundPrefix
judged (Err stop.Memory) = Fault kind.BadName

-- the name of xsl:element or xsl:attribute (XSLT 1.0, sections 7.1.2 and 7.1.3): the text of the name, then that of the namespace where one is given, and then it is judged
abbrev pub name_at : Setting → Place → Bool → List Part → Option (List Part) → ℕ → Outcome Name
name_at W c attribute name namespace scope =
    template_text W c name >>= λ text. namespace_text W c namespace >>= λ uri. judged (computed attribute text uri W.sheet.scopes scope)

-- the target of xsl:processing-instruction (XSLT 1.0, section 7.3)
abbrev pub target_at : Setting → Place → List Part → Outcome (List ℕ)
target_at W c name = template_text W c name >>= λ text. if is_target text then Known text else Fault kind.BadName

-- the row of the current node
abbrev pub row_here : Setting → Place → Outcome Row
row_here W c = W.world.reading.row c.context.node
