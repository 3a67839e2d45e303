-- What a buffer holds after the events of one row.
use Rattle.std.proofs.Common.{◌≡◌, ℕ, true, false, cond, eqb, List, [], ◌∷◌, ◌++◌, length, ap, sym, ◌∙◌, arith, append-nil}
use Rattle.std.proofs.lemmas.Bool.Decides.{nat_tests}
use Rattle.doc_model.specs.declared.row.Kind.{Kind}
use Rattle.doc_model.specs.declared.row.Row.{Row}
use Rattle.doc_model.specs.declared.step.Step.{Step}
use Rattle.doc_model.specs.declared.strip_rule.StripRule.{StripRule}
use Rattle.doc_model.specs.Lawful.{Grows, IsJoined, IsLawful}
use Rattle.doc_model.specs.Rows.{rows_of, row_at}
use Rattle.doc_model.specs.Strip.{is_text, is_visible}
use Rattle.doc_laws.proofs.Staying.{data_stay}
use Rattle.result_events.specs.Pushed.{pushed}
use Rattle.result_events.specs.declared.event.ResultEvent.{ResultEvent}
use Rattle.result_events.specs.declared.event.ResultEvent.TheVariants as event
use Rattle.copy_meaning.specs.Copies.{text_events}
use Rattle.copy_meaning.specs.Passes.{beginning, beginning_as, beginning_shown}
use Rattle.copy_meaning.proofs.Subtrees.{other_visible}
use Rattle.engine_content.proofs.Rows.{row_later}

some_bytes : (byte : ℕ) (bytes : List ℕ) → eqb (length (byte ∷ bytes)) 0 ≡ false
some_bytes byte bytes = grind (arith, nat_tests)

-- an empty text adds nothing
pub text_pushed : (made : List ResultEvent) (text : List ℕ) → pushed made (event.Text text) ≡ made ++ text_events text
text_pushed made [] = sym (append-nil made)
text_pushed made (byte ∷ bytes) = ap (λ b. cond b made (made ++ event.Text (byte ∷ bytes) ∷ [])) (some_bytes byte bytes)

-- how a row begins whose kind was told before
pub beginning_is : (p q : List Step) (k : ℕ) (kind told : Kind) → Grows p q → IsJoined p k → kind ≡ (row_at (rows_of p) k).kind → kind ≡ told
    → beginning (row_at (rows_of q) k) ≡ beginning_as told (row_at (rows_of q) k)
beginning_is p q k kind told g j h e = ap (λ x. beginning_as x (row_at (rows_of q) k)) (ap (λ (r : Row). r.kind) (row_later p q k g j) ∙ sym h ∙ e)

-- what a row begins with where it is visible, is no text, and is hidden
pub other_shown : (rules : List StripRule) (p q : List Step) (k : ℕ) (kind : Kind) → Grows p q → IsJoined p k → kind ≡ (row_at (rows_of p) k).kind → is_text kind ≡ false
    → beginning_shown rules (rows_of q) k ≡ beginning (row_at (rows_of q) k)
other_shown rules p q k kind g j h e =
    ap (λ b. cond b (beginning (row_at (rows_of q) k)) []) (other_visible rules (rows_of q) k (ap (λ (r : Row). is_text r.kind) (row_later p q k g j) ∙ sym (ap is_text h) ∙ e))

pub seen_shown : (rules : List StripRule) (p q : List Step) (k : ℕ) → Grows p q → IsLawful q → IsJoined p k → is_visible rules (rows_of p) k ≡ true
    → beginning_shown rules (rows_of q) k ≡ beginning (row_at (rows_of q) k)
seen_shown rules p q k g l j e = ap (λ b. cond b (beginning (row_at (rows_of q) k)) []) ((data_stay rules p q k g l j).visible ∙ e)

pub hidden_shown : (rules : List StripRule) (rows : List Row) (k : ℕ) → is_visible rules rows k ≡ false → beginning_shown rules rows k ≡ []
hidden_shown rules rows k e = ap (λ b. cond b (beginning (row_at rows k)) []) e
