-- What a copy of the current node leaves, by what xsl:copy makes of the node.
use Rattle.std.proofs.Common.{◌≡◌, refl, ap, ◌∙◌, ℕ, List, ◌∷◌, ◌++◌, [], map, cond, length, false}
use Rattle.std.proofs.lemmas.Bool.{lt-ltb}
use Rattle.std.specs.Borrow.{Bor}
use Rattle.copy_meaning.specs.Copies.{made_of, result_name}
use Rattle.doc_model.specs.Answers.{Known, Open}
use Rattle.doc_model.specs.Rows.{row_at, rows_of}
use Rattle.doc_model.specs.declared.row.Kind.{Kind}
use Rattle.doc_model.specs.declared.row.Kind.TheVariants as kind
use Rattle.doc_model.specs.declared.row.Row.{Row}
use Rattle.doc_model.specs.declared.step.Step.{Step}
use Rattle.doc_model.specs.declared.strip_rule.StripRule.{StripRule}
use Rattle.engine_meaning.specs.Execution.{does}
use Rattle.engine_meaning.specs.Places.{World}
use Rattle.engine_meaning.specs.Questions.{row_here}
use Rattle.engine_meaning.specs.Runs.{State, with_events}
use Rattle.engine_questions.specs.Shallow.{shallow_by}
use Rattle.engine_questions.specs.declared.shallow.Shallow.TheVariants.{Content, Around, Alone}
use Rattle.frame_meaning.proofs.Instructions.{copy_by, copy_element, copy_root, with_event}
use Rattle.frame_meaning.specs.Acted.{acted}
use Rattle.frame_meaning.specs.Rest.{rest}
use Rattle.frame_meaning.specs.Stand.{Stand, setting_at}
use Rattle.frames.specs.declared.frame.Frame.{Frame}
use Rattle.frames.specs.declared.frame.Frame.TheVariants as f
use Rattle.key_sources.specs.Going.{Lookups, reading_by}
use Rattle.result_events.specs.declared.event.Name.{Name}
use Rattle.result_events.specs.declared.event.ResultEvent.{ResultEvent}
use Rattle.result_events.specs.declared.event.ResultEvent.TheVariants as event
use Rattle.sheet_ast.specs.declared.instruction.Instruction.{Instruction}
use Rattle.sheet_ast.specs.declared.instruction.Instruction.TheOpen.{Instruction-F}
use Rattle.sheet_ast.specs.declared.sheet.Sheet.{Sheet}
use Rattle.xpath_laws.specs.Sound.{IsThere}
use Rattle.xpath_meaning.specs.Readings.{reading_of}

-- the row of a node that is there is known
pub row_known : (lookups : Lookups) (rules : List StripRule) (steps : List Step) (n : ℕ) → IsThere rules steps n → (reading_by lookups rules steps).row n ≡ Known (row_at (rows_of steps) n)
unfolding reading_of
row_known lookups rules steps n t = ap (λ b. cond b (Known (row_at (rows_of steps) n)) (Open n)) (lt-ltb n (length (rows_of steps)) t.0)

-- only the root is its content alone
root_of : (k : Kind) (row : Row) → shallow_by k row ≡ Content → k ≡ kind.Root
root_of kind.Root row e = refl
root_of kind.Element row e = absurd (let no : Around (result_name row) ≡ Content = e in cc)
root_of kind.Attribute row e = absurd (let no : Alone (made_of kind.Attribute row [] []) ≡ Content = e in cc)
root_of kind.Text row e = absurd (let no : Alone (made_of kind.Text row [] []) ≡ Content = e in cc)
root_of kind.Instruction row e = absurd (let no : Alone (made_of kind.Instruction row [] []) ≡ Content = e in cc)
root_of kind.Comment row e = absurd (let no : Alone (made_of kind.Comment row [] []) ≡ Content = e in cc)

-- only an element goes around its content
element_of : (k : Kind) (row : Row) (name : Name) → shallow_by k row ≡ Around name → (k ≡ kind.Element) × (result_name row ≡ name)
element_of kind.Root row name e = absurd (let no : Content ≡ Around name = e in cc)
element_of kind.Element row name e = (refl, let same : Around (result_name row) ≡ Around name = e in cc)
element_of kind.Attribute row name e = absurd (let no : Alone (made_of kind.Attribute row [] []) ≡ Around name = e in cc)
element_of kind.Text row name e = absurd (let no : Alone (made_of kind.Text row [] []) ≡ Around name = e in cc)
element_of kind.Instruction row name e = absurd (let no : Alone (made_of kind.Instruction row [] []) ≡ Around name = e in cc)
element_of kind.Comment row name e = absurd (let no : Alone (made_of kind.Comment row [] []) ≡ Around name = e in cc)

module _ (sheet : Sheet) (w : World) (others : Bor (List Instruction)) (kept : ℕ) (frames : List Frame) (h : Stand) (s : State) (body : Bor (List Instruction)) (row : Row) where
  abbrev below : List Frame
  below = f.Body others false kept ∷ frames

  pub content_moves : row_here (setting_at sheet w h) h.place ≡ Known row → shallow_by row.kind row ≡ Content
      → acted sheet w (Instruction-F.Copy (map does body.now)) others kept frames h s ≡ rest sheet w (f.Body body false (length h.place.locals) ∷ below) h s
  content_moves is e = copy_root sheet w others kept frames h s body row is (root_of row.kind row e)

  pub around_moves : (name : Name) → row_here (setting_at sheet w h) h.place ≡ Known row → shallow_by row.kind row ≡ Around name
      → acted sheet w (Instruction-F.Copy (map does body.now)) others kept frames h s
      ≡ rest sheet w (f.Body body false (length h.place.locals) ∷ f.Close ∷ below) h (with_event s (event.Start name))
  around_moves name is e =
      let of = element_of row.kind row name e in
      copy_element sheet w others kept frames h s body row is of.0
      ∙ ap (λ n. rest sheet w (f.Body body false (length h.place.locals) ∷ f.Close ∷ below) h (with_event s (event.Start n))) of.1

  alone_by : (k : Kind) (events : List ResultEvent) → row_here (setting_at sheet w h) h.place ≡ Known row → row.kind ≡ k → shallow_by k row ≡ Alone events
      → acted sheet w (Instruction-F.Copy (map does body.now)) others kept frames h s ≡ rest sheet w below h (with_events s (s.events ++ events))
  alone_by kind.Root events is of e = absurd (let no : Content ≡ Alone events = e in cc)
  alone_by kind.Element events is of e = absurd (let no : Around (result_name row) ≡ Alone events = e in cc)
  alone_by kind.Attribute events is of e =
      copy_by sheet w others kept frames h s body row kind.Attribute is of
      ∙ ap (λ made. rest sheet w below h (with_events s (s.events ++ made))) (let same : Alone (made_of kind.Attribute row [] []) ≡ Alone events = e in cc)
  alone_by kind.Text events is of e =
      copy_by sheet w others kept frames h s body row kind.Text is of
      ∙ ap (λ made. rest sheet w below h (with_events s (s.events ++ made))) (let same : Alone (made_of kind.Text row [] []) ≡ Alone events = e in cc)
  alone_by kind.Instruction events is of e =
      copy_by sheet w others kept frames h s body row kind.Instruction is of
      ∙ ap (λ made. rest sheet w below h (with_events s (s.events ++ made))) (let same : Alone (made_of kind.Instruction row [] []) ≡ Alone events = e in cc)
  alone_by kind.Comment events is of e =
      copy_by sheet w others kept frames h s body row kind.Comment is of
      ∙ ap (λ made. rest sheet w below h (with_events s (s.events ++ made))) (let same : Alone (made_of kind.Comment row [] []) ≡ Alone events = e in cc)

  pub alone_moves : (events : List ResultEvent) → row_here (setting_at sheet w h) h.place ≡ Known row → shallow_by row.kind row ≡ Alone events
      → acted sheet w (Instruction-F.Copy (map does body.now)) others kept frames h s ≡ rest sheet w below h (with_events s (s.events ++ events))
  alone_moves events is e = alone_by row.kind events is refl e
