-- One node more is judged: what the rest answers, the whole answers.
use Rattle.std.proofs.Common.{◌≡◌, sym, ap, ◌∙◌, ℕ, ◌+◌, ◌<◌, ◌≤◌, List, ◌∷◌, length, get_or, drop, subst, Result, Ok, Err}
use Rattle.std.proofs.lemmas.List.{at_drop_more, at_drop_all}
use Rattle.sheet_reading.specs.declared.stop.ReadStop.{ReadStop}
use Rattle.sheet_reading.specs.declared.stop.ReadStop.TheVariants.{Refused, Memory}
use Rattle.sheet_reading.specs.declared.tree.Item.{Item}
use Rattle.sheet_reading.specs.declared.tree.Judged.{Judged}
use Rattle.sheet_reading.specs.Judgement.{◌>>=◌, Answers, Judgement}
use Rattle.sheet_names.specs.declared.declaring.Names.{Names}
use Rattle.sheet_names.specs.Declaring.{with_item}
use Rattle.sheet_names.specs.Judging.{all, behind, item_of, top_item, tops}
use Rattle.sheet_names.specs.Names.{Name}

-- the error that a step hands on
pub told : {A : Type 0} (meant : Judgement A) (r : Result A ReadStop) (stop : ReadStop) → r ≡ Err stop → Answers meant (Err stop) → Answers meant r
told {A} meant r stop is h = subst (λ (s : Result A ReadStop). Answers meant s) (sym is) h

-- the first of the nodes that are left
at_next : (f : List Name → Judged → Judgement (Unit {0})) (locals : List Name) (items : List Item) (i : ℕ) (x : Item) (whole : Judgement (Unit {0}))
    → i < length items → x ≡ get_or items i x → whole ≡ all f locals (drop i items)
    → whole ≡ (item_of f locals x >>= (λ (u : Unit {0}). all f (behind locals x) (drop (i + 1) items)))
at_next f locals items i x whole within is left =
    left ∙ at_drop_more (all f locals) items i x within ∙ ap (λ (y : Item). all f locals (y ∷ drop (i + 1) items)) (sym is)

pub goes_on : (f : List Name → Judged → Judgement (Unit {0})) (before between after : List Name) (items : List Item) (i : ℕ) (x : Item) (u : Unit {0}) (whole : Judgement (Unit {0}))
    → i < length items → x ≡ get_or items i x → whole ≡ all f before (drop i items) → item_of f before x ≡ Ok u → between ≡ before → after ≡ behind between x
    → whole ≡ all f after (drop (i + 1) items)
goes_on f before between after items i x u whole within is left ok kept entered =
    at_next f before items i x whole within is left
    ∙ ap (λ (r : Judgement (Unit {0})). r >>= (λ (v : Unit {0}). all f (behind before x) (drop (i + 1) items))) ok
    ∙ ap (λ (locals : List Name). all f locals (drop (i + 1) items)) (sym (entered ∙ ap (λ (locals : List Name). behind locals x) kept))

pub stops : (f : List Name → Judged → Judgement (Unit {0})) (locals : List Name) (items : List Item) (i : ℕ) (x : Item) (stop : ReadStop) (whole : Judgement (Unit {0}))
    → i < length items → x ≡ get_or items i x → whole ≡ all f locals (drop i items) → Answers (item_of f locals x) (Err stop) → Answers whole (Err stop)
stops f locals items i x (Refused fault) whole within is left bad =
    at_next f locals items i x whole within is left ∙ ap (λ (r : Judgement (Unit {0})). r >>= (λ (v : Unit {0}). all f (behind locals x) (drop (i + 1) items))) bad
stops f locals items i x Memory whole within is left bad = tt

pub ends : (f : List Name → Judged → Judgement (Unit {0})) (locals : List Name) (items : List Item) (i : ℕ) (whole : Judgement (Unit {0}))
    → length items ≤ i → whole ≡ all f locals (drop i items) → whole ≡ Ok tt
ends f locals items i whole past left = left ∙ at_drop_all (all f locals) items i past

-- the same of top-level nodes
top_next : (names earlier : Names) (items : List Item) (i : ℕ) (x : Item) (whole : Judgement (Unit {0})) → i < length items → x ≡ get_or items i x
    → whole ≡ tops names earlier (drop i items) → whole ≡ (top_item names earlier x >>= (λ (u : Unit {0}). tops names (with_item earlier x) (drop (i + 1) items)))
top_next names earlier items i x whole within is left =
    left ∙ at_drop_more (tops names earlier) items i x within ∙ ap (λ (y : Item). tops names earlier (y ∷ drop (i + 1) items)) (sym is)

pub top_goes_on : (names before after : Names) (items : List Item) (i : ℕ) (x : Item) (u : Unit {0}) (whole : Judgement (Unit {0})) → i < length items → x ≡ get_or items i x
    → whole ≡ tops names before (drop i items) → top_item names before x ≡ Ok u → after ≡ with_item before x → whole ≡ tops names after (drop (i + 1) items)
top_goes_on names before after items i x u whole within is left ok added =
    top_next names before items i x whole within is left
    ∙ ap (λ (r : Judgement (Unit {0})). r >>= (λ (v : Unit {0}). tops names (with_item before x) (drop (i + 1) items))) ok
    ∙ ap (λ (earlier : Names). tops names earlier (drop (i + 1) items)) (sym added)

pub top_stops : (names earlier : Names) (items : List Item) (i : ℕ) (x : Item) (stop : ReadStop) (whole : Judgement (Unit {0})) → i < length items → x ≡ get_or items i x
    → whole ≡ tops names earlier (drop i items) → Answers (top_item names earlier x) (Err stop) → Answers whole (Err stop)
top_stops names earlier items i x (Refused fault) whole within is left bad =
    top_next names earlier items i x whole within is left ∙ ap (λ (r : Judgement (Unit {0})). r >>= (λ (v : Unit {0}). tops names (with_item earlier x) (drop (i + 1) items))) bad
top_stops names earlier items i x Memory whole within is left bad = tt

pub top_ends : (names earlier : Names) (items : List Item) (i : ℕ) (whole : Judgement (Unit {0})) → length items ≤ i → whole ≡ tops names earlier (drop i items) → whole ≡ Ok tt
top_ends names earlier items i whole past left = left ∙ at_drop_all (tops names earlier) items i past
