-- What one world tells, and a second beyond it, the second tells too.
use Rattle.std.proofs.Common.{◌≡◌, refl, sym, ap, ◌∙◌, subst, ℕ, List, [], ◌++◌, append_assoc, append-nil}
use Rattle.doc_model.specs.Answers.{Answer, Known, Fault, Open, Stays}
use Rattle.engine_laws.specs.Growing.{Continues}
use Rattle.engine_meaning.specs.Places.{World}
use Rattle.xpath_meaning.specs.Streams as stream
use Rattle.xpath_meaning.specs.Streams.{GoesOn, GoesOnFrom, Stream, Ending}

stays_on : {F A : Type 0} (o p q : Answer F A) → Stays o p → Stays p q → Stays o q
stays_on (Known x) p q h k = subst (λ r. Stays r q) h k
stays_on (Fault f) p q h k = subst (λ r. Stays r q) h k
stays_on (Open m) p q h k = tt

more_of : (ns : List ℕ) (ending : Ending) (t : Stream) → GoesOnFrom ns ending t → (more : List ℕ) × (t.items ≡ ns ++ more)
more_of ns stream.Whole t h = ([], ap (λ (s : Stream). s.items) h ∙ sym (append-nil ns))
more_of ns (stream.Fault e) t h = ([], ap (λ (s : Stream). s.items) h ∙ sym (append-nil ns))
more_of ns (stream.Cut m) t h = h

flows_from : (ns : List ℕ) (ending : Ending) (t u : Stream) → GoesOnFrom ns ending t → GoesOn t u → GoesOnFrom ns ending u
flows_from ns stream.Whole t u h k = subst (λ t. GoesOn t u) h k
flows_from ns (stream.Fault e) t u h k = subst (λ t. GoesOn t u) h k
flows_from ns (stream.Cut m) t u h k =
    let more = more_of t.items t.ending u k in
    (h.0 ++ more.0, more.1 ∙ ap (λ l. l ++ more.0) h.1 ∙ append_assoc ns h.0 more.0)

flows_on : (s t u : Stream) → GoesOn s t → GoesOn t u → GoesOn s u
flows_on s t u h k = flows_from s.items s.ending t u h k

pub continues_on : (w v u : World) → Continues w v → Continues v u → Continues w u
continues_on w v u x y = record {
  reading = record {
    axis = λ axis test n. stays_on _ _ _ (x.reading.axis axis test n) (y.reading.axis axis test n);
    children = λ test n. flows_on _ _ _ (x.reading.children test n) (y.reading.children test n);
    row = λ n. stays_on _ _ _ (x.reading.row n) (y.reading.row n);
    value = λ n. stays_on _ _ _ (x.reading.value n) (y.reading.value n);
    whole = stays_on _ _ _ x.reading.whole y.reading.whole;
    by_key = λ key value. stays_on _ _ _ (x.reading.by_key key value) (y.reading.by_key key value);
    by_id = λ value. stays_on _ _ _ (x.reading.by_id value) (y.reading.by_id value);
  };
  copy = λ n. stays_on _ _ _ (x.copy n) (y.copy n);
}

stays_same : {F A : Type 0} (o : Answer F A) → Stays o o
stays_same (Known x) = refl
stays_same (Fault f) = refl
stays_same (Open m) = tt

flows_same : (ns : List ℕ) (ending : Ending) → GoesOnFrom ns ending (record { items = ns; ending = ending })
flows_same ns stream.Whole = refl
flows_same ns (stream.Fault e) = refl
flows_same ns (stream.Cut m) = ([], sym (append-nil ns))

pub continues_same : (w : World) → Continues w w
continues_same w = record {
  reading = record {
    axis = λ axis test n. stays_same _;
    children = λ test n. flows_same _ _;
    row = λ n. stays_same _;
    value = λ n. stays_same _;
    whole = stays_same _;
    by_key = λ key value. stays_same _;
    by_id = λ value. stays_same _;
  };
  copy = λ n. stays_same _;
}
