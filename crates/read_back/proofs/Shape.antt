-- What the events of a tidy list look like.
use Rattle.std.proofs.Common.{◌≡◌, ℕ, zero, suc, ◌-◌, ◌==◌, ◌&&◌, List, [], ◌∷◌, ◌++◌, Bool, true, false, not, if◌then◌else◌, length, map, refl, ap, ◌∙◌, arith}
use Rattle.std.specs.List.{list_all}
use Rattle.std.specs.Str.{is_utf8}
use Rattle.std.proofs.lemmas.Bool.{and_parts, and_from}
use Rattle.std.proofs.lemmas.Bool.Decides.{nat_tests}
use Rattle.std.proofs.lemmas.Str.{IsUtf8-append, IsUtf8-from_is_utf8, is_utf8-from_IsUtf8}
use Rattle.result_events.specs.declared.event.Attribute.{Attribute}
use Rattle.result_events.specs.declared.event.ResultEvent.{ResultEvent}
use Rattle.result_events.specs.declared.event.ResultEvent.TheVariants.{Start, Attr, Text, Instruction, Comment, End}
use Rattle.result_events.specs.Tidy.{same_expanded, placed, attributes_from, events_of, joined, tidy_of, are_distinct}
use Rattle.result_events.proofs.Placing.{attributes_distinct}
use Rattle.result_events.proofs.Tidied.{begins_late, tidy_begins}
use Rattle.pyx_output.specs.Bytes.{leading}
use Rattle.read_back.specs.Contents.{Content, element_content, attribute_content, text_content, instruction_content, comment_content, contents}
use Rattle.read_back.specs.Legible.{is_legible, balances}
use Rattle.read_back.proofs.Heads.{is_legible_attribute}

-- the next event is a text, attributes passed over
abbrev pub text_next : List ResultEvent → Bool
text_next [] = false
text_next (Start name ∷ events) = false
text_next (Attr name value ∷ events) = text_next events
text_next (Text text ∷ events) = true
text_next (Instruction target value ∷ events) = false
text_next (Comment text ∷ events) = false
text_next (End ∷ events) = false

-- attributes of one element have names that differ, and no text follows a text
abbrev pub is_tidy : List ResultEvent → Bool
is_tidy [] = true
is_tidy (Start name ∷ events) = are_distinct (leading events) && is_tidy events
is_tidy (Attr name value ∷ events) = is_tidy events
is_tidy (Text text ∷ events) = not (text_next events) && is_tidy events
is_tidy (Instruction target value ∷ events) = is_tidy events
is_tidy (Comment text ∷ events) = is_tidy events
is_tidy (End ∷ events) = is_tidy events

-- the nodes, each element's attributes with its start
abbrev pub contents_ahead : ℕ → List ResultEvent → List Content
contents_ahead depth [] = []
contents_ahead depth (Start name ∷ events) = element_content name ∷ map attribute_content (leading events) ++ contents_ahead (suc depth) events
contents_ahead depth (Attr name value ∷ events) = contents_ahead depth events
contents_ahead depth (Text text ∷ events) = if depth == 0 then contents_ahead depth events else text_content text ∷ contents_ahead depth events
contents_ahead depth (Instruction target value ∷ events) = instruction_content target value ∷ contents_ahead depth events
contents_ahead depth (Comment text ∷ events) = comment_content text ∷ contents_ahead depth events
contents_ahead depth (End ∷ events) = contents_ahead (depth - 1) events

no_leading : (events : List ResultEvent) → begins_late events ≡ false → leading events ≡ []
no_leading [] plain = refl
no_leading (Start name ∷ events) plain = refl
no_leading (Attr name value ∷ events) plain = absurd (cc)
no_leading (Text text ∷ events) plain = refl
no_leading (Instruction target value ∷ events) plain = refl
no_leading (Comment text ∷ events) plain = refl
no_leading (End ∷ events) plain = refl

leading-events : (attributes : List Attribute) (events : List ResultEvent) → begins_late events ≡ false → leading (events_of attributes ++ events) ≡ attributes
leading-events [] events plain = no_leading events plain
leading-events (attribute ∷ attributes) events plain = ap (λ (all : List Attribute). attribute ∷ all) (leading-events attributes events plain)

is_tidy-events : (attributes : List Attribute) (events : List ResultEvent) → is_tidy (events_of attributes ++ events) ≡ is_tidy events
is_tidy-events [] events = refl
is_tidy-events (attribute ∷ attributes) events = is_tidy-events attributes events

joined_tidy : (text : List ℕ) (events : List ResultEvent) → begins_late events ≡ false → is_tidy events ≡ true → is_tidy (joined text events) ≡ true
joined_tidy text [] plain is = refl
joined_tidy text (Start name ∷ events) plain is = is
joined_tidy text (Attr name value ∷ events) plain is = absurd (cc)
joined_tidy text (Text more ∷ events) plain is = is
joined_tidy text (Instruction target value ∷ events) plain is = is
joined_tidy text (Comment more ∷ events) plain is = is
joined_tidy text (End ∷ events) plain is = is

pub tidy_is : (events : List ResultEvent) → is_tidy (tidy_of events) ≡ true
tidy_is [] = refl
tidy_is (Start name ∷ events) =
    let attributes = attributes_from [] events in
    let lead : leading (events_of attributes ++ tidy_of events) ≡ attributes = leading-events attributes (tidy_of events) (tidy_begins events) in
    let distinct : are_distinct (leading (events_of attributes ++ tidy_of events)) ≡ true = ap are_distinct lead ∙ attributes_distinct [] events refl in
    and_from (are_distinct (leading (events_of attributes ++ tidy_of events))) _ distinct (is_tidy-events attributes (tidy_of events) ∙ tidy_is events)
tidy_is (Attr name value ∷ events) = tidy_is events
tidy_is (Text text ∷ events) = joined_tidy text (tidy_of events) (tidy_begins events) (tidy_is events)
tidy_is (Instruction target value ∷ events) = tidy_is events
tidy_is (Comment text ∷ events) = tidy_is events
tidy_is (End ∷ events) = tidy_is events

-- tidying keeps the balance
balances-events : (depth : ℕ) (attributes : List Attribute) (events : List ResultEvent) → balances depth (events_of attributes ++ events) ≡ balances depth events
balances-events depth [] events = refl
balances-events depth (attribute ∷ attributes) events = balances-events depth attributes events

balances-joined : (depth : ℕ) (text : List ℕ) (events : List ResultEvent) → balances depth (joined text events) ≡ balances depth events
balances-joined depth text [] = refl
balances-joined depth text (Start name ∷ events) = refl
balances-joined depth text (Attr name value ∷ events) = refl
balances-joined depth text (Text more ∷ events) = refl
balances-joined depth text (Instruction target value ∷ events) = refl
balances-joined depth text (Comment more ∷ events) = refl
balances-joined depth text (End ∷ events) = refl

pub balances-tidy : (depth : ℕ) (events : List ResultEvent) → balances depth (tidy_of events) ≡ balances depth events
balances-tidy depth [] = refl
balances-tidy depth (Start name ∷ events) = balances-events (suc depth) (attributes_from [] events) (tidy_of events) ∙ balances-tidy (suc depth) events
balances-tidy depth (Attr name value ∷ events) = balances-tidy depth events
balances-tidy depth (Text text ∷ events) = balances-joined depth text (tidy_of events) ∙ balances-tidy depth events
balances-tidy depth (Instruction target value ∷ events) = balances-tidy depth events
balances-tidy depth (Comment text ∷ events) = balances-tidy depth events
balances-tidy zero (End ∷ events) = refl
balances-tidy (suc depth) (End ∷ events) = balances-tidy depth events

-- tidying keeps what is legible
legible_placed : (new : Attribute) (attributes : List Attribute) → is_legible_attribute new ≡ true → list_all is_legible_attribute attributes ≡ true
    → list_all is_legible_attribute (placed new attributes) ≡ true
legible_placed new [] one all = and_from (is_legible_attribute new) true one refl
legible_placed new (old ∷ later) one all =
    let parts = and_parts (is_legible_attribute old) (list_all is_legible_attribute later) all in
    by (same_expanded old.name new.name) parts.0 parts.1 (legible_placed new later one parts.1)
  where
    by : (same : Bool) → is_legible_attribute old ≡ true → list_all is_legible_attribute later ≡ true → list_all is_legible_attribute (placed new later) ≡ true
        → list_all is_legible_attribute (if same then new ∷ later else old ∷ placed new later) ≡ true
    by true first rest next = and_from (is_legible_attribute new) _ one rest
    by false first rest next = and_from (is_legible_attribute old) _ first next

legible_from : (before : List Attribute) (events : List ResultEvent) → list_all is_legible_attribute before ≡ true → list_all is_legible events ≡ true
    → list_all is_legible_attribute (attributes_from before events) ≡ true
legible_from before [] one all = one
legible_from before (Start name ∷ events) one all = one
legible_from before (Attr name value ∷ events) one all =
    let parts = and_parts (is_legible (Attr name value)) (list_all is_legible events) all in
    legible_from (placed (record { name = name; value = value }) before) events (legible_placed (record { name = name; value = value }) before parts.0 one) parts.1
legible_from before (Text text ∷ events) one all = one
legible_from before (Instruction target value ∷ events) one all = one
legible_from before (Comment text ∷ events) one all = one
legible_from before (End ∷ events) one all = one

legible_events : (attributes : List Attribute) (events : List ResultEvent) → list_all is_legible_attribute attributes ≡ true → list_all is_legible events ≡ true
    → list_all is_legible (events_of attributes ++ events) ≡ true
legible_events [] events one all = all
legible_events (attribute ∷ attributes) events one all =
    let parts = and_parts (is_legible_attribute attribute) (list_all is_legible_attribute attributes) one in
    and_from (is_legible_attribute attribute) _ parts.0 (legible_events attributes events parts.1 all)

-- two texts that are legible are legible as one
one_text : (text more : List ℕ) → is_legible (Text text) ≡ true → is_legible (Text more) ≡ true → is_legible (Text (text ++ more)) ≡ true
one_text [] more one two = let none : false ≡ true = (and_parts (is_utf8 []) false one).1 in absurd (cc)
one_text (b ∷ text) more one two =
    let first = and_parts (is_utf8 (b ∷ text)) (not (length (b ∷ text) == 0)) one in
    let second = and_parts (is_utf8 more) (not (length more == 0)) two in
    let some : length (b ∷ (text ++ more)) == 0 ≡ false = grind (arith, nat_tests) in
    and_from (is_utf8 (b ∷ (text ++ more))) _ (is_utf8-from_IsUtf8 (b ∷ (text ++ more)) (IsUtf8-append (b ∷ text) more (IsUtf8-from_is_utf8 (b ∷ text) first.0) (IsUtf8-from_is_utf8 more second.0)))
    (rw some refl)

legible_joined : (text : List ℕ) (events : List ResultEvent) → is_legible (Text text) ≡ true → list_all is_legible events ≡ true → list_all is_legible (joined text events) ≡ true
legible_joined text [] one all = and_from (is_legible (Text text)) true one refl
legible_joined text (Start name ∷ events) one all = and_from (is_legible (Text text)) _ one all
legible_joined text (Attr name value ∷ events) one all = and_from (is_legible (Text text)) _ one all
legible_joined text (Text more ∷ events) one all =
    let parts = and_parts (is_legible (Text more)) (list_all is_legible events) all in
    and_from (is_legible (Text (text ++ more))) _ (one_text text more one parts.0) parts.1
legible_joined text (Instruction target value ∷ events) one all = and_from (is_legible (Text text)) _ one all
legible_joined text (Comment more ∷ events) one all = and_from (is_legible (Text text)) _ one all
legible_joined text (End ∷ events) one all = and_from (is_legible (Text text)) _ one all

pub legible_tidy : (events : List ResultEvent) → list_all is_legible events ≡ true → list_all is_legible (tidy_of events) ≡ true
legible_tidy [] all = refl
legible_tidy (Start name ∷ events) all =
    let parts = and_parts (is_legible (Start name)) (list_all is_legible events) all in
    and_from (is_legible (Start name)) _ parts.0 (legible_events (attributes_from [] events) (tidy_of events) (legible_from [] events refl parts.1) (legible_tidy events parts.1))
legible_tidy (Attr name value ∷ events) all = legible_tidy events (and_parts (is_legible (Attr name value)) (list_all is_legible events) all).1
legible_tidy (Text text ∷ events) all =
    let parts = and_parts (is_legible (Text text)) (list_all is_legible events) all in
    legible_joined text (tidy_of events) parts.0 (legible_tidy events parts.1)
legible_tidy (Instruction target value ∷ events) all =
    let parts = and_parts (is_legible (Instruction target value)) (list_all is_legible events) all in
    and_from (is_legible (Instruction target value)) _ parts.0 (legible_tidy events parts.1)
legible_tidy (Comment text ∷ events) all =
    let parts = and_parts (is_legible (Comment text)) (list_all is_legible events) all in
    and_from (is_legible (Comment text)) _ parts.0 (legible_tidy events parts.1)
legible_tidy (End ∷ events) all = legible_tidy events all

-- the attributes that stand with a start
pub legible_leading : (events : List ResultEvent) → list_all is_legible events ≡ true → list_all is_legible_attribute (leading events) ≡ true
legible_leading [] all = refl
legible_leading (Start name ∷ events) all = refl
legible_leading (Attr name value ∷ events) all =
    let parts = and_parts (is_legible (Attr name value)) (list_all is_legible events) all in
    and_from (is_legible_attribute (record { name = name; value = value })) _ parts.0 (legible_leading events parts.1)
legible_leading (Text text ∷ events) all = refl
legible_leading (Instruction target value ∷ events) all = refl
legible_leading (Comment text ∷ events) all = refl
legible_leading (End ∷ events) all = refl

-- attributes stand with starts alone; whether one may stand next
abbrev pub in_place : Bool → List ResultEvent → Bool
in_place may [] = true
in_place may (Start name ∷ events) = in_place true events
in_place may (Attr name value ∷ events) = may && in_place may events
in_place may (Text text ∷ events) = in_place false events
in_place may (Instruction target value ∷ events) = in_place false events
in_place may (Comment text ∷ events) = in_place false events
in_place may (End ∷ events) = in_place false events

in_place-events : (attributes : List Attribute) (events : List ResultEvent) → in_place true (events_of attributes ++ events) ≡ in_place true events
in_place-events [] events = refl
in_place-events (attribute ∷ attributes) events = in_place-events attributes events

in_place-joined : (may : Bool) (text : List ℕ) (events : List ResultEvent) → in_place false events ≡ true → in_place may (joined text events) ≡ true
in_place-joined may text [] is = refl
in_place-joined may text (Start name ∷ events) is = is
in_place-joined may text (Attr name value ∷ events) is = absurd (cc)
in_place-joined may text (Text more ∷ events) is = is
in_place-joined may text (Instruction target value ∷ events) is = is
in_place-joined may text (Comment more ∷ events) is = is
in_place-joined may text (End ∷ events) is = is

pub in_place-tidy : (may : Bool) (events : List ResultEvent) → in_place may (tidy_of events) ≡ true
in_place-tidy may [] = refl
in_place-tidy may (Start name ∷ events) = in_place-events (attributes_from [] events) (tidy_of events) ∙ in_place-tidy true events
in_place-tidy may (Attr name value ∷ events) = in_place-tidy may events
in_place-tidy may (Text text ∷ events) = in_place-joined may text (tidy_of events) (in_place-tidy false events)
in_place-tidy may (Instruction target value ∷ events) = in_place-tidy false events
in_place-tidy may (Comment text ∷ events) = in_place-tidy false events
in_place-tidy may (End ∷ events) = in_place-tidy false events

not_leading : (events : List ResultEvent) → in_place false events ≡ true → leading events ≡ []
not_leading [] is = refl
not_leading (Start name ∷ events) is = refl
not_leading (Attr name value ∷ events) is = absurd (cc)
not_leading (Text text ∷ events) is = refl
not_leading (Instruction target value ∷ events) is = refl
not_leading (Comment text ∷ events) is = refl
not_leading (End ∷ events) is = refl

plainly : (depth : ℕ) (events : List ResultEvent) → in_place false events ≡ true → contents depth events ≡ map attribute_content (leading events) ++ contents_ahead depth events
    → contents depth events ≡ contents_ahead depth events
plainly depth events is told = told ∙ ap (λ (all : List Attribute). map attribute_content all ++ contents_ahead depth events) (not_leading events is)

-- the nodes are the same, each element's attributes told with its start
told_ahead : (may : Bool) (depth : ℕ) (events : List ResultEvent) → in_place may events ≡ true → contents depth events ≡ map attribute_content (leading events) ++ contents_ahead depth events
told_ahead may depth [] is = refl
told_ahead may depth (Start name ∷ events) is = ap (λ (all : List Content). element_content name ∷ all) (told_ahead true (suc depth) events is)
told_ahead may depth (Attr name value ∷ events) is =
    let parts = and_parts may (in_place may events) is in
    ap (λ (all : List Content). attribute_content (record { name = name; value = value }) ∷ all) (told_ahead may depth events parts.1)
told_ahead may depth (Text text ∷ events) is =
    ap (λ (all : List Content). if depth == 0 then all else text_content text ∷ all) (plainly depth events is (told_ahead false depth events is))
told_ahead may depth (Instruction target value ∷ events) is =
    ap (λ (all : List Content). instruction_content target value ∷ all) (plainly depth events is (told_ahead false depth events is))
told_ahead may depth (Comment text ∷ events) is = ap (λ (all : List Content). comment_content text ∷ all) (plainly depth events is (told_ahead false depth events is))
told_ahead may depth (End ∷ events) is = plainly (depth - 1) events is (told_ahead false (depth - 1) events is)

pub contents_told : (depth : ℕ) (events : List ResultEvent) → contents depth (tidy_of events) ≡ contents_ahead depth (tidy_of events)
contents_told depth events = plainly depth (tidy_of events) (in_place-tidy false events) (told_ahead false depth (tidy_of events) (in_place-tidy false events))
