-- Streams go on, if their parts do.
use Rattle.std.proofs.Common.{◌≡◌, refl, sym, ap, ◌∙◌, subst, ℕ, List, [], ◌∷◌, ◌++◌, append_assoc, append-nil}
use Rattle.doc_model.specs.Answers as answer
use Rattle.doc_model.specs.Answers.{Stays}
use Rattle.xpath_meaning.specs.Outcome.{Outcome}
use Rattle.xpath_meaning.specs.Streams.{Stream, Ending, Whole, Fault, Cut, behind, then_stream, stream_of, first_in, first_item, GoesOnFrom, GoesOn}

pub same_goes_on : (s : Stream) → GoesOn s s
same_goes_on s = by_ending s.items s.ending where
  by_ending : (items : List ℕ) (ending : Ending) → GoesOnFrom items ending (record { items = items; ending = ending })
  by_ending items Whole = refl
  by_ending items (Fault e) = refl
  by_ending items (Cut m) = ([], sym (append-nil items))

-- what lies behind begins with the same items
behind_begins : (items : List ℕ) (ending : Ending) (next : Stream) → (more : List ℕ) × ((behind items ending next).items ≡ items ++ more)
behind_begins items Whole next = (next.items, refl)
behind_begins items (Fault e) next = ([], sym (append-nil items))
behind_begins items (Cut m) next = ([], sym (append-nil items))

behind_whole : (items found : List ℕ) (ending : Ending) (t : Stream) → GoesOnFrom found ending t → GoesOnFrom (items ++ found) ending (record { items = items ++ t.items; ending = t.ending })
behind_whole items found Whole t l = ap (λ (s : Stream). record { items = items ++ s.items; ending = s.ending }) l
behind_whole items found (Fault e) t l = ap (λ (s : Stream). record { items = items ++ s.items; ending = s.ending }) l
behind_whole items found (Cut m) t l = (l.0, ap (λ x. items ++ x) l.1 ∙ sym (append_assoc items found l.0))

behind_goes_on : (found : List ℕ) (ending : Ending) (t next later : Stream) → GoesOnFrom found ending t → GoesOn next later → GoesOn (behind found ending next) (behind t.items t.ending later)
behind_goes_on found Whole t next later l k = subst (λ (s : Stream). GoesOn (behind found Whole next) (behind s.items s.ending later)) (sym l) (behind_whole found next.items next.ending later k)
behind_goes_on found (Fault e) t next later l k = ap (λ (s : Stream). behind s.items s.ending later) l
behind_goes_on found (Cut m) t next later l k =
    let b = behind_begins t.items t.ending later in
    (l.0 ++ b.0, b.1 ∙ ap (λ x. x ++ b.0) l.1 ∙ append_assoc found l.0 b.0)

pub then_goes_on : (s t next later : Stream) → GoesOn s t → GoesOn next later → GoesOn (then_stream s next) (then_stream t later)
then_goes_on s t next later l k = behind_goes_on s.items s.ending t next later l k

pub stream_goes_on : {A : Type 0} (a b : Outcome A) (f g : A → Stream) → Stays a b → ((x : A) → GoesOn (f x) (g x)) → GoesOn (stream_of a f) (stream_of b g)
stream_goes_on (answer.Known x) b f g s l = subst (λ w. GoesOn (f x) (stream_of w g)) (sym s) (l x)
stream_goes_on (answer.Fault e) b f g s l = ap (λ w. stream_of w g) s
stream_goes_on (answer.Open m) b f g s l = ((stream_of b g).items, refl)

-- where a stream has an item, the later one has it, and the rest goes on too
pub rest_goes_on : (n : ℕ) (ns : List ℕ) (t : Stream) (ending : Ending) → GoesOnFrom (n ∷ ns) ending t
    → (rest : List ℕ) × (t.items ≡ n ∷ rest) × GoesOnFrom ns ending (record { items = rest; ending = t.ending })
rest_goes_on n ns t Whole h = (ns, ap (λ (u : Stream). u.items) h, ap (λ (u : Stream). record { items = ns; ending = u.ending }) h)
rest_goes_on n ns t (Fault e) h = (ns, ap (λ (u : Stream). u.items) h, ap (λ (u : Stream). record { items = ns; ending = u.ending }) h)
rest_goes_on n ns t (Cut m) h = (ns ++ h.0, h.1, (h.0, refl))

first_stays_from : (items : List ℕ) (ending : Ending) (t : Stream) → GoesOnFrom items ending t → Stays (first_in items ending) (first_in t.items t.ending)
first_stays_from (n ∷ ns) ending t h = ap (λ items. first_in items t.ending) (rest_goes_on n ns t ending h).1
first_stays_from [] Whole t h = ap (λ (u : Stream). first_in u.items u.ending) h
first_stays_from [] (Fault e) t h = ap (λ (u : Stream). first_in u.items u.ending) h
first_stays_from [] (Cut m) t h = tt

pub first_stays : (s t : Stream) → GoesOn s t → Stays (first_item s) (first_item t)
first_stays s t h = first_stays_from s.items s.ending t h
