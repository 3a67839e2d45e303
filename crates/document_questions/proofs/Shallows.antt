-- What xsl:copy makes of a node, as the copy of a node begins.
use Rattle.std.proofs.Common.{◌≡◌, sym, ap, ◌∙◌, List, [], ◌++◌, Result, Ok, Err, ◌⊎◌, inl, inr}
use Rattle.std.proofs.lemmas.Bool.{false≢true}
use Rattle.std.specs.Prelude.{IfOk, IsErr}
use Rattle.copy_meaning.specs.Copies.{result_name}
use Rattle.copy_meaning.specs.Passes.{beginning, beginning_as}
use Rattle.doc_model.specs.declared.row.Kind.{Kind}
use Rattle.doc_model.specs.declared.row.Kind.TheVariants as kind
use Rattle.doc_model.specs.declared.row.Row.{Row}
use Rattle.engine_questions.specs.Shallow.{shallow_by}
use Rattle.engine_questions.specs.declared.shallow.Shallow.TheVariants.{Around, Alone}
use Rattle.result_events.specs.declared.event.Name.{Name}
use Rattle.result_events.specs.declared.event.ResultEvent.{ResultEvent}

-- a call that failed gave nothing
pub if_failed : {A E : Type 0} (P : A → Type 0) (result : Result A E) → IsErr result → IfOk result P
if_failed P (Ok x) is = absurd (false≢true is)
if_failed P (Err e) is = tt

pub around_is : (name : Name) (row : Row) → row.kind ≡ kind.Element → name ≡ result_name row → Around name ≡ shallow_by row.kind row
around_is name row k e = ap Around e ∙ ap (λ x. shallow_by x row) (sym k)

-- a node that stands by itself
abbrev pub StandsAlone : Kind → Type 0
StandsAlone k = (k ≡ kind.Attribute) ⊎ ((k ≡ kind.Text) ⊎ ((k ≡ kind.Instruction) ⊎ (k ≡ kind.Comment)))

alone_as : (k : Kind) (row : Row) → StandsAlone k → Alone (beginning_as k row) ≡ shallow_by k row
alone_as k row (inl e) = ap (λ x. Alone (beginning_as x row)) e ∙ ap (λ x. shallow_by x row) (sym e)
alone_as k row (inr (inl e)) = ap (λ x. Alone (beginning_as x row)) e ∙ ap (λ x. shallow_by x row) (sym e)
alone_as k row (inr (inr (inl e))) = ap (λ x. Alone (beginning_as x row)) e ∙ ap (λ x. shallow_by x row) (sym e)
alone_as k row (inr (inr (inr e))) = ap (λ x. Alone (beginning_as x row)) e ∙ ap (λ x. shallow_by x row) (sym e)

pub alone_is : (made old : List ResultEvent) (k : Kind) (row : Row) → row.kind ≡ k → StandsAlone k → old ≡ [] → made ≡ old ++ beginning row → Alone made ≡ shallow_by row.kind row
alone_is made old k row e a none m =
    ap Alone (m ∙ ap (λ events. events ++ beginning row) none) ∙ ap (λ x. Alone (beginning_as x row)) e ∙ alone_as k row a ∙ ap (λ x. shallow_by x row) (sym e)
