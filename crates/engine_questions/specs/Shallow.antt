-- What xsl:copy makes of the current node, beside its content (XSLT 1.0, section 7.5).
use Rattle.std.specs.Prelude.{[]}
use Rattle.copy_meaning.specs.Copies.{made_of, result_name}
use Rattle.doc_model.specs.declared.row.Kind.{Kind}
use Rattle.doc_model.specs.declared.row.Kind.TheVariants as kind
use Rattle.doc_model.specs.declared.row.Row.{Row}
use Rattle.engine_questions.specs.declared.shallow.Shallow.{Shallow}
use Rattle.engine_questions.specs.declared.shallow.Shallow.TheVariants.{Content, Around, Alone}

-- of the root the content alone; of an element its start and its end around the content; any other node by itself
abbrev pub shallow_by : Kind → Row → Shallow
shallow_by kind.Root row = Content
shallow_by kind.Element row = Around (result_name row)
shallow_by kind.Attribute row = Alone (made_of kind.Attribute row [] [])
shallow_by kind.Text row = Alone (made_of kind.Text row [] [])
shallow_by kind.Instruction row = Alone (made_of kind.Instruction row [] [])
shallow_by kind.Comment row = Alone (made_of kind.Comment row [] [])
