-- What is tidy stays as it is.
use Rattle.std.proofs.Common.{◌≡◌, ℕ, List, [], ◌∷◌, ◌++◌, Bool, true, false, refl, sym, ap, ◌∙◌, append_assoc}
use Rattle.result_events.specs.declared.event.Attribute.{Attribute}
use Rattle.result_events.specs.declared.event.ResultEvent.{ResultEvent}
use Rattle.result_events.specs.declared.event.ResultEvent.TheVariants.{Start, Attr, Text, Instruction, Comment, End}
use Rattle.std.proofs.lemmas.List.{append-nil}
use Rattle.result_events.specs.Tidy.{attributes_from, events_of, joined, tidy_of, are_distinct}
use Rattle.result_events.proofs.Placing.{attributes_distinct, placed_new}

pub joined-joined : (text more : List ℕ) (events : List ResultEvent) → joined text (joined more events) ≡ joined (text ++ more) events
joined-joined text more [] = refl
joined-joined text more (Text last ∷ events) = ap (λ (all : List ℕ). Text all ∷ events) (sym (append_assoc text more last))
joined-joined text more (Start name ∷ events) = refl
joined-joined text more (Attr name value ∷ events) = refl
joined-joined text more (Instruction target value ∷ events) = refl
joined-joined text more (Comment last ∷ events) = refl
joined-joined text more (End ∷ events) = refl

pub tidy-joined : (text : List ℕ) (events : List ResultEvent) → tidy_of (joined text events) ≡ joined text (tidy_of events)
tidy-joined text [] = refl
tidy-joined text (Text more ∷ events) = sym (joined-joined text more (tidy_of events))
tidy-joined text (Start name ∷ events) = refl
tidy-joined text (Attr name value ∷ events) = refl
tidy-joined text (Instruction target value ∷ events) = refl
tidy-joined text (Comment more ∷ events) = refl
tidy-joined text (End ∷ events) = refl

pub tidy-attributes : (attributes : List Attribute) (events : List ResultEvent) → tidy_of (events_of attributes ++ events) ≡ tidy_of events
tidy-attributes [] events = refl
tidy-attributes (attribute ∷ attributes) events = tidy-attributes attributes events

-- the events begin with an attribute
abbrev pub begins_late : List ResultEvent → Bool
begins_late [] = false
begins_late (Attr name value ∷ events) = true
begins_late (Start name ∷ events) = false
begins_late (Text text ∷ events) = false
begins_late (Instruction target value ∷ events) = false
begins_late (Comment text ∷ events) = false
begins_late (End ∷ events) = false

joined_begins : (text : List ℕ) (events : List ResultEvent) → begins_late (joined text events) ≡ false
joined_begins text [] = refl
joined_begins text (Text more ∷ events) = refl
joined_begins text (Start name ∷ events) = refl
joined_begins text (Attr name value ∷ events) = refl
joined_begins text (Instruction target value ∷ events) = refl
joined_begins text (Comment more ∷ events) = refl
joined_begins text (End ∷ events) = refl

pub tidy_begins : (events : List ResultEvent) → begins_late (tidy_of events) ≡ false
tidy_begins [] = refl
tidy_begins (Start name ∷ events) = refl
tidy_begins (Attr name value ∷ events) = tidy_begins events
tidy_begins (Text text ∷ events) = joined_begins text (tidy_of events)
tidy_begins (Instruction target value ∷ events) = refl
tidy_begins (Comment text ∷ events) = refl
tidy_begins (End ∷ events) = refl

none_late : (before : List Attribute) (events : List ResultEvent) → begins_late events ≡ false → attributes_from before events ≡ before
none_late before [] plain = refl
none_late before (Attr name value ∷ events) plain = absurd (cc)
none_late before (Start name ∷ events) plain = refl
none_late before (Text text ∷ events) plain = refl
none_late before (Instruction target value ∷ events) plain = refl
none_late before (Comment text ∷ events) plain = refl
none_late before (End ∷ events) plain = refl

-- attributes whose names differ are read as they stand
pub attributes_from-events : (before attributes : List Attribute) (events : List ResultEvent) → are_distinct (before ++ attributes) ≡ true → begins_late events ≡ false
    → attributes_from before (events_of attributes ++ events) ≡ before ++ attributes
attributes_from-events before [] events distinct plain = none_late before events plain ∙ sym (append-nil before)
attributes_from-events before (attribute ∷ attributes) events distinct plain =
    let last = placed_new attribute before attributes distinct in
    let next = attributes_from-events (before ++ attribute ∷ []) attributes events (rw (append_assoc before (attribute ∷ []) attributes) distinct) plain in
    rw last (next ∙ append_assoc before (attribute ∷ []) attributes)

pub tidy-tidy : (events : List ResultEvent) → tidy_of (tidy_of events) ≡ tidy_of events
tidy-tidy [] = refl
tidy-tidy (Start name ∷ events) =
    let attributes = attributes_from [] events in
    let read = attributes_from-events [] attributes (tidy_of events) (attributes_distinct [] events refl) (tidy_begins events) in
    let rest = tidy-attributes attributes (tidy_of events) ∙ tidy-tidy events in
    rw (read, rest) refl
tidy-tidy (Attr name value ∷ events) = tidy-tidy events
tidy-tidy (Text text ∷ events) = tidy-joined text (tidy_of events) ∙ ap (joined text) (tidy-tidy events)
tidy-tidy (Instruction target value ∷ events) = ap (λ (all : List ResultEvent). Instruction target value ∷ all) (tidy-tidy events)
tidy-tidy (Comment text ∷ events) = ap (λ (all : List ResultEvent). Comment text ∷ all) (tidy-tidy events)
tidy-tidy (End ∷ events) = ap (λ (all : List ResultEvent). End ∷ all) (tidy-tidy events)
