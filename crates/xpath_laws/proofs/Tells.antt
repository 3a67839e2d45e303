-- What is told of parts makes what is told of the whole.
use Rattle.std.proofs.Common.{◌≡◌, ℕ, suc, ◌≤◌, Bool, true, false, cond, ◌||◌, eqb, List, [], ◌∷◌, ◌++◌, Option, Some, None, Result, Ok, Err, refl, sym, ap, ◌∙◌, subst, arith, inl, inr}
use Rattle.std.proofs.lemmas.Bool.{eqb-true, eq-eqb, false≢true}
use Rattle.std.specs.Prelude.{⊤}
use Rattle.doc_laws.specs.Ordered.{AscendsFrom}
use Rattle.doc_model.specs.Answers.{Known, Fault, Open}
use Rattle.doc_model.specs.Document.{is_member}
use Rattle.whole_num.specs.declared.number.NumFault.{NumFault}
use Rattle.xpath_meaning.specs.DocumentOrder.{document_order}
use Rattle.xpath_meaning.specs.Outcome.{Outcome, ◌>>=◌, calculated, some_holds, each_of, kept_from, with_if}
use Rattle.xpath_meaning.specs.Steps.{joined}
use Rattle.xpath_meaning.specs.Streams as stream
use Rattle.xpath_meaning.specs.Streams.{Stream, Ending, behind, then_stream, stream_of, first_in, first_item}
use Rattle.xpath_laws.specs.Sound.{Rows, Tells, Anything, Each, IsNodeSet, EndsAt, Flows}
use Rattle.xpath_laws.proofs.Order.{order_ascends, order_members, or_cases, or_right}

pub each_append : {A : Type 0} (V : A → Type 0) (xs ys : List A) → Each V xs → Each V ys → Each V (xs ++ ys)
each_append V [] ys a b = b
each_append V (x ∷ xs) ys a b = (a.0, each_append V xs ys a.1 b)

pub joined_each : (T : Rows) (lists : List (List ℕ)) → Each (Each T) lists → Each T (joined lists)
joined_each T [] a = tt
joined_each T (ns ∷ lists) a = each_append T ns (joined lists) a.0 (joined_each T lists a.1)

-- each member of a list has what each item has
pub member_has : (T : Rows) (ns : List ℕ) (k : ℕ) → Each T ns → is_member k ns ≡ true → T k
member_has T [] k a h = absurd (false≢true h)
member_has T (n ∷ ns) k a h = elim (or_cases (eqb k n) (is_member k ns) h) [
  | inl e ↦ subst T (sym (eqb-true k n e)) a.0
  | inr m ↦ member_has T ns k a.1 m
]

pub each_by_members : (T : Rows) (ns : List ℕ) → ((k : ℕ) → is_member k ns ≡ true → T k) → Each T ns
each_by_members T [] h = tt
each_by_members T (n ∷ ns) h = (h n (ap (λ b. b || is_member n ns) (eq-eqb n n refl)), each_by_members T ns (λ k m. h k (or_right (eqb k n) (is_member k ns) m)))

pub ordered_set : (T : Rows) (ns : List ℕ) → Each T ns → IsNodeSet T (document_order ns)
ordered_set T ns a = (order_ascends ns, each_by_members T (document_order ns) (λ k m. member_has T ns k a (sym (order_members ns k) ∙ m)))

-- what is left of a list of nodes
pub record Left (T : Rows) (ns ms : List ℕ) : Type 0 where
  pub each : Each T ms
  pub order : (a : ℕ) → AscendsFrom a ns → AscendsFrom a ms

ascends_lower : (a b : ℕ) (ns : List ℕ) → a ≤ b → AscendsFrom b ns → AscendsFrom a ns
ascends_lower a b [] l s = tt
ascends_lower a b (n ∷ ns) l s = (let m = s.0 in omega (arith, l, m), s.1)

left_with : (T : Rows) (b : Bool) (n : ℕ) (ns ms : List ℕ) → T n → Left T ns ms → Left T (n ∷ ns) (with_if b n ms)
left_with T true n ns ms t l = record { each = (t, l.each); order = λ a s. (s.0, l.order (suc n) s.1) }
left_with T false n ns ms t l = record { each = l.each; order = λ a s. ascends_lower a (suc n) ms (let m = s.0 in omega (arith, m)) (l.order (suc n) s.1) }

-- the row, if there is one
abbrev pub Perhaps : Rows → Option ℕ → Type 0
Perhaps T None = ⊤
Perhaps T (Some n) = T n

module _ (O : Rows) where
  pub bind_tells : {A B : Type 0} (V : A → Type 0) (W : B → Type 0) (a : Outcome A) (f : A → Outcome B) → Tells O V a → ((x : A) → V x → Tells O W (f x)) → Tells O W (a >>= f)
  bind_tells V W (Known x) f s h = h x s
  bind_tells V W (Fault e) f s h = tt
  bind_tells V W (Open m) f s h = s

  pub calculated_tells : {A : Type 0} (r : Result A NumFault) → Tells O Anything (calculated r)
  calculated_tells (Ok x) = tt
  calculated_tells (Err e) = tt

  pub if_tells : {A : Type 0} (V : A → Type 0) (b : Bool) (x y : Outcome A) → Tells O V x → Tells O V y → Tells O V (cond b x y)
  if_tells V true x y s t = s
  if_tells V false x y s t = t

  pub some_tells : {A : Type 0} (T : A → Type 0) (f : A → Outcome Bool) (ns : List A) → Each T ns → ((n : A) → T n → Tells O Anything (f n)) → Tells O Anything (some_holds f ns)
  some_tells T f [] a h = tt
  some_tells T f (n ∷ ns) a h = bind_tells Anything Anything (f n) _ (h n a.0) (λ here any. if_tells Anything here _ _ tt (some_tells T f ns a.1 h))

  pub each_tells : {A B : Type 0} (T : A → Type 0) (W : B → Type 0) (f : A → Outcome B) (ns : List A) → Each T ns → ((n : A) → T n → Tells O W (f n)) → Tells O (Each W) (each_of f ns)
  each_tells T W f [] a h = tt
  each_tells T W f (n ∷ ns) a h = bind_tells W (Each W) (f n) _ (h n a.0) (λ y w. bind_tells (Each W) (Each W) (each_of f ns) _ (each_tells T W f ns a.1 h) (λ ys ws. (w, ws)))

  pub kept_tells : (T : Rows) (at : ℕ) (f : ℕ → ℕ → Outcome Bool) (ns : List ℕ) → Each T ns → ((k n : ℕ) → T n → Tells O Anything (f k n)) → Tells O (Left T ns) (kept_from at f ns)
  kept_tells T at f [] a h = record { each = tt; order = λ b s. s }
  kept_tells T at f (n ∷ ns) a h =
      bind_tells Anything (Left T (n ∷ ns)) (f at n) _ (h at n a.0)
      (λ here any. bind_tells (Left T ns) (Left T (n ∷ ns)) (kept_from (suc at) f ns) _ (kept_tells T (suc at) f ns a.1 h) (λ rest l. left_with T here n ns rest a.0 l))

  behind_flows : (T : Rows) (ns : List ℕ) (ending : Ending) (next : Stream) → Each T ns → EndsAt O ending → Flows T O next → Flows T O (behind ns ending next)
  behind_flows T ns stream.Whole next a e f = record { items = each_append T ns next.items a f.items; ending = f.ending }
  behind_flows T ns (stream.Fault x) next a e f = record { items = a; ending = tt }
  behind_flows T ns (stream.Cut m) next a e f = record { items = a; ending = e }

  pub then_flows : (T : Rows) (s next : Stream) → Flows T O s → Flows T O next → Flows T O (then_stream s next)
  then_flows T s next f g = behind_flows T s.items s.ending next f.items f.ending g

  pub stream_flows : (T : Rows) {A : Type 0} (V : A → Type 0) (a : Outcome A) (f : A → Stream) → Tells O V a → ((x : A) → V x → Flows T O (f x)) → Flows T O (stream_of a f)
  stream_flows T V (Known x) f s h = h x s
  stream_flows T V (Fault e) f s h = record { items = tt; ending = tt }
  stream_flows T V (Open m) f s h = record { items = tt; ending = s }

  first_in_tells : (T : Rows) (ns : List ℕ) (ending : Ending) → Each T ns → EndsAt O ending → Tells O (Perhaps T) (first_in ns ending)
  first_in_tells T (n ∷ ns) ending a e = a.0
  first_in_tells T [] stream.Whole a e = tt
  first_in_tells T [] (stream.Fault x) a e = tt
  first_in_tells T [] (stream.Cut m) a e = e

  pub first_tells : (T : Rows) (s : Stream) → Flows T O s → Tells O (Perhaps T) (first_item s)
  first_tells T s f = first_in_tells T s.items s.ending f.items f.ending
