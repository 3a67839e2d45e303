-- How far a walk along an axis has come, upwards or downwards.
use Rattle.std.proofs.Common.{◌≡◌, ℕ, suc, ◌+◌, ◌-◌, ◌<◌, ◌≤◌, Bool, true, false, cond, ◌&&◌, List, [], ◌∷◌, ◌++◌, length, Option, Some, None}
use Rattle.std.proofs.Common.{filter, reverse, refl, ap, sym, ◌∙◌, arith, append-nil, append_assoc}
use Rattle.std.proofs.lemmas.Bool.{lt-ltb, not-true}
use Rattle.std.proofs.lemmas.List.{reverse-append}
use Rattle.doc_model.specs.declared.node_test.Test.{Test}
use Rattle.doc_model.specs.declared.row.Axis.{Axis}
use Rattle.doc_model.specs.declared.row.Kind.TheVariants.{Element}
use Rattle.doc_model.specs.declared.step.Step.{Step}
use Rattle.doc_model.specs.declared.strip_rule.StripRule.{StripRule}
use Rattle.doc_model.specs.Answers.{Known, Open, once_shut}
use Rattle.doc_model.specs.Axes.{is_node, is_on, is_selected, is_reverse, axis_rows, need_of, axis_of}
use Rattle.doc_model.specs.Document.{is_open}
use Rattle.doc_model.specs.Lawful.{IsJoined}
use Rattle.doc_model.specs.NodeTests.{principal_of, meets}
use Rattle.doc_model.specs.Relations.{numbers}
use Rattle.doc_model.specs.Rows.{rows_of, row_at}
use Rattle.doc_model.specs.Strip.{is_visible}
use Rattle.doc_model.specs.View.{Seen, Moves, is_settled}
use Rattle.doc_laws.proofs.Growth.{joined_grows}
use Rattle.doc_laws.proofs.Known.{selected_later}
use Rattle.doc_laws.proofs.Moving.{moves_on, moves_none}
use Rattle.doc_laws.proofs.Numbers.{filter_same, filter_nothing, filter-split}
use Rattle.doc_laws.proofs.Root.{length_grows}
use Rattle.axis_walkers.specs.Offered.{Judged, KnowsNothing, IsMet, only_if, is_plain}
use Rattle.axis_walkers.proofs.Offering.{met_fresh, met_moves, row_later}

-- the rows below a number that are selected
abbrev pub below : {M : Type 0} → Seen M → ℕ → Axis → Test → ℕ → List ℕ
below s n a t at = filter (is_selected s.rules (rows_of s.steps) n a t) (numbers 0 at)

-- filters of numbers in parts
pub filter_skip : (f : ℕ → Bool) (at to : ℕ) → at ≤ to → ((k : ℕ) → at ≤ k → k < to → f k ≡ false) → filter f (numbers 0 to) ≡ filter f (numbers 0 at)
filter_skip f at to l h =
    let e : to ≡ at + (to - at) = omega arith in
    ap (λ c. filter f (numbers 0 c)) e ∙ filter-split f 0 at (to - at)
    ∙ ap (λ xs. filter f (numbers 0 at) ++ xs) (filter_nothing f (0 + at) (to - at) (λ k a b. h k (omega arith) (omega arith))) ∙ append-nil (filter f (numbers 0 at))

pub filter_on : (f : ℕ → Bool) (at : ℕ) → filter f (numbers 0 (suc at)) ≡ filter f (numbers 0 at) ++ only_if (f at) at
filter_on f at =
    let e : suc at ≡ at + 1 = omega arith in
    let z : 0 + at ≡ at = omega arith in
    ap (λ c. filter f (numbers 0 c)) e ∙ filter-split f 0 at 1 ∙ ap (λ j. filter f (numbers 0 at) ++ filter f (j ∷ [])) z

pub filter_range : (f g : ℕ → Bool) (at to : ℕ) → at ≤ to → ((k : ℕ) → at ≤ k → k < to → f k ≡ g k) → filter f (numbers 0 to) ≡ filter f (numbers 0 at) ++ filter g (numbers at (to - at))
filter_range f g at to l h =
    let e : to ≡ at + (to - at) = omega arith in
    let z : 0 + at ≡ at = omega arith in
    ap (λ c. filter f (numbers 0 c)) e ∙ filter-split f 0 at (to - at) ∙ ap (λ j. filter f (numbers 0 at) ++ filter f (numbers j (to - at))) z
    ∙ ap (λ xs. filter f (numbers 0 at) ++ xs) (filter_same f g at (to - at) (λ k a b. h k a (omega arith)))

reverse_one : (b : Bool) (k : ℕ) → reverse (only_if b k) ≡ only_if b k
reverse_one true k = refl
reverse_one false k = refl

pub selected_is : (v m o : Bool) → v ≡ true → o ≡ true → (v && (m && o)) ≡ m
selected_is v m o a b = ap (λ x. x && (m && o)) a ∙ ap (λ x. m && x) b ∙ and_true m
  where
    and_true : (m : Bool) → (m && true) ≡ m
    and_true true = refl
    and_true false = refl

-- what is known at one of the later steps
below_moves : {M : Type 0} (s t : Seen M) (n : ℕ) (a : Axis) (x : Test) (at : ℕ) → IsJoined s.steps n → at ≤ length (rows_of s.steps) → Moves s t → below t n a x at ≡ below s n a x at
below_moves s t n a x at j l m =
    ap (λ rules. filter (is_selected rules (rows_of t.steps) n a x) (numbers 0 at)) m.rules_stay
    ∙ filter_same (is_selected s.rules (rows_of t.steps) n a x) (is_selected s.rules (rows_of s.steps) n a x) 0 at (λ k b c. selected_later s.rules s.steps t.steps n a x k m.grows j (omega arith))

-- a walk upwards has found what is selected below a number
pub record GoesUp {M : Type 0} (first last : Seen M) (n : ℕ) (a : Axis) (x : Test) (at : ℕ) (id : Judged) (xs : List ℕ) : Type 0 where
  pub moved : Moves first last
  pub joined : IsJoined last.steps n
  pub within : at ≤ length (rows_of last.steps)
  pub known : IsMet last (meets (principal_of a) x) id
  pub found : xs ≡ below last n a x at

-- a selection that is new
pub record IsFresh (id : Judged) (xs : List ℕ) : Type 0 where
  pub none : KnowsNothing id
  pub empty : xs ≡ []

pub up_start : {M : Type 0} (s t : Seen M) (n : ℕ) (a : Axis) (x : Test) (id : Judged) (xs : List ℕ) → IsFresh id xs → IsJoined s.steps n → Moves s t → GoesUp s t n a x 0 id xs
up_start s t n a x id xs f j m = record {
  moved = m;
  joined = joined_grows s.steps t.steps n m.grows j;
  within = omega arith;
  known = met_fresh t (meets (principal_of a) x) id f.none;
  found = f.empty;
}

pub up_moves : {M : Type 0} (s t u : Seen M) (n : ℕ) (a : Axis) (x : Test) (at : ℕ) (id : Judged) (xs : List ℕ) → GoesUp s t n a x at id xs → Moves t u → GoesUp s u n a x at id xs
up_moves s t u n a x at id xs w m = record {
  moved = moves_on s t u w.moved m;
  joined = joined_grows t.steps u.steps n m.grows w.joined;
  within = omega (arith, w.within, length_grows t.steps u.steps m.grows);
  known = met_moves t u (meets (principal_of a) x) id w.moved.seen m w.known;
  found = w.found ∙ sym (below_moves t u n a x at w.joined w.within m);
}

pub up_skip : {M : Type 0} (s t : Seen M) (n : ℕ) (a : Axis) (x : Test) (at to : ℕ) (id : Judged) (xs : List ℕ) → GoesUp s t n a x at id xs → at ≤ to → to ≤ length (rows_of t.steps)
    → ((k : ℕ) → at ≤ k → k < to → is_selected t.rules (rows_of t.steps) n a x k ≡ false) → GoesUp s t n a x to id xs
up_skip s t n a x at to id xs w l h f = record {
  moved = w.moved;
  joined = w.joined;
  within = h;
  known = w.known;
  found = w.found ∙ sym (filter_skip (is_selected t.rules (rows_of t.steps) n a x) at to l f);
}

-- whether a row that was there is selected
selected_moves : {M : Type 0} (t u : Seen M) (n : ℕ) (a : Axis) (x : Test) (k : ℕ) → IsJoined t.steps n → IsJoined t.steps k → Moves t u
    → is_visible t.rules (rows_of t.steps) k ≡ true → is_on a (rows_of t.steps) n k ≡ true
    → is_selected u.rules (rows_of u.steps) n a x k ≡ meets (principal_of a) x (row_at (rows_of u.steps) k)
selected_moves t u n a x k j l m v o =
    ap (λ rules. is_selected rules (rows_of u.steps) n a x k) m.rules_stay
    ∙ selected_later t.rules t.steps u.steps n a x k m.grows j l
    ∙ selected_is (is_visible t.rules (rows_of t.steps) k) (meets (principal_of a) x (row_at (rows_of t.steps) k)) (is_on a (rows_of t.steps) n k) v o
    ∙ ap (meets (principal_of a) x) (sym (row_later t.steps u.steps k m.grows l))

-- the row at the number is visible and on the axis, and was offered
pub up_take : {M : Type 0} (s t u : Seen M) (n : ℕ) (a : Axis) (x : Test) (at : ℕ) (id id2 : Judged) (xs ys : List ℕ) → GoesUp s t n a x at id xs → Moves t u → IsJoined t.steps at
    → is_visible t.rules (rows_of t.steps) at ≡ true → is_on a (rows_of t.steps) n at ≡ true
    → IsMet u (meets (principal_of a) x) id2 → ys ≡ xs ++ only_if (meets (principal_of a) x (row_at (rows_of u.steps) at)) at → GoesUp s u n a x (suc at) id2 ys
up_take s t u n a x at id id2 xs ys w m j v o k e =
    let moved = up_moves s t u n a x at id xs w m in
    record {
      moved = moved.moved;
      joined = moved.joined;
      within = (let l = joined_grows t.steps u.steps at m.grows j in omega arith);
      known = k;
      found =
          e ∙ ap (λ zs. zs ++ only_if (meets (principal_of a) x (row_at (rows_of u.steps) at)) at) moved.found
          ∙ ap (λ b. below u n a x at ++ only_if b at) (sym (selected_moves t u n a x at w.joined j m v o))
          ∙ sym (filter_on (is_selected u.rules (rows_of u.steps) n a x) at);
    }

-- where the row itself is on the axis, and was offered
itself_is : (v m o : Bool) → o ≡ true → (v && m) ≡ (v && (m && o))
itself_is v m o h = ap (λ y. v && y) (sym (selected_is true m o refl h))

pub up_itself : {M : Type 0} (s u : Seen M) (n : ℕ) (a : Axis) (x : Test) (id id2 : Judged) (xs ys : List ℕ) → GoesUp s u n a x n id xs → is_on a (rows_of u.steps) n n ≡ true
    → IsMet u (meets (principal_of a) x) id2 → ys ≡ xs ++ only_if (is_visible u.rules (rows_of u.steps) n && meets (principal_of a) x (row_at (rows_of u.steps) n)) n → GoesUp s u n a x (suc n) id2 ys
up_itself s u n a x id id2 xs ys w o k e = record {
  moved = w.moved;
  joined = w.joined;
  within = w.joined;
  known = k;
  found =
      e ∙ ap (λ zs. zs ++ only_if (is_visible u.rules (rows_of u.steps) n && meets (principal_of a) x (row_at (rows_of u.steps) n)) n) w.found
      ∙ ap (λ b. below u n a x n ++ only_if b n) (itself_is (is_visible u.rules (rows_of u.steps) n) (meets (principal_of a) x (row_at (rows_of u.steps) n)) (is_on a (rows_of u.steps) n n) o)
      ∙ sym (filter_on (is_selected u.rules (rows_of u.steps) n a x) n);
}

-- the rows of a range were offered, of which just the attributes are not on the axis
pub up_range : {M : Type 0} (s t u : Seen M) (n : ℕ) (a : Axis) (x : Test) (at to : ℕ) (id : Judged) (xs ys : List ℕ) → GoesUp s t n a x at id xs → Moves t u → at ≤ to → to ≤ length (rows_of t.steps)
    → principal_of a ≡ Element → ((k : ℕ) → at ≤ k → k < to → is_on a (rows_of u.steps) n k ≡ is_node (rows_of u.steps) k)
    → ys ≡ xs ++ filter (is_plain u.rules (rows_of u.steps) x) (numbers at (to - at)) → GoesUp s u n a x to id ys
up_range s t u n a x at to id xs ys w m l h p o e =
    let moved = up_moves s t u n a x at id xs w m in
    record {
      moved = moved.moved;
      joined = moved.joined;
      within = omega (arith, h, length_grows t.steps u.steps m.grows);
      known = moved.known;
      found =
          e ∙ ap (λ zs. zs ++ filter (is_plain u.rules (rows_of u.steps) x) (numbers at (to - at))) moved.found
          ∙ sym (filter_range (is_selected u.rules (rows_of u.steps) n a x) (is_plain u.rules (rows_of u.steps) x) at to l (λ k b c.
          ap (λ y. is_visible u.rules (rows_of u.steps) k && (meets (principal_of a) x (row_at (rows_of u.steps) k) && y)) (o k b c)
          ∙ ap (λ y. is_visible u.rules (rows_of u.steps) k && (meets y x (row_at (rows_of u.steps) k) && is_node (rows_of u.steps) k)) p));
    }

-- the answer of an axis whose need is shut, or of one that has none
settled_answer : (p : List Step) (o : Option ℕ) (xs : List ℕ) → is_settled p o ≡ true → once_shut p o xs ≡ Known xs
settled_answer p None xs h = refl
settled_answer p (Some m) xs h = ap (λ b. cond b (Open m) (Known xs)) (not-true (is_open p m) h)

pub known_at : (rules : List StripRule) (p : List Step) (n : ℕ) (a : Axis) (x : Test) (xs : List ℕ) → IsJoined p n → is_settled p (need_of a (rows_of p) n) ≡ true
    → axis_rows rules (rows_of p) n a x ≡ xs → axis_of rules p n a x ≡ Known xs
known_at rules p n a x xs j s e =
    ap (λ b. cond b (once_shut p (need_of a (rows_of p) n) (axis_rows rules (rows_of p) n a x)) (Open n)) (lt-ltb n (length (rows_of p)) j)
    ∙ settled_answer p (need_of a (rows_of p) n) (axis_rows rules (rows_of p) n a x) s ∙ ap Known e

pub open_at : (rules : List StripRule) (p : List Step) (n m : ℕ) (a : Axis) (x : Test) → IsJoined p n → need_of a (rows_of p) n ≡ Some m → is_open p m ≡ true → axis_of rules p n a x ≡ Open m
open_at rules p n m a x j e o =
    ap (λ b. cond b (once_shut p (need_of a (rows_of p) n) (axis_rows rules (rows_of p) n a x)) (Open n)) (lt-ltb n (length (rows_of p)) j)
    ∙ ap (λ y. once_shut p y (axis_rows rules (rows_of p) n a x)) e ∙ ap (λ b. cond b (Open m) (Known (axis_rows rules (rows_of p) n a x))) o

-- the walk is over: no row at the number or past it is selected
pub up_end : {M : Type 0} (s t : Seen M) (n : ℕ) (a : Axis) (x : Test) (at : ℕ) (id : Judged) (xs : List ℕ) → GoesUp s t n a x at id xs → is_reverse a ≡ false
    → is_settled t.steps (need_of a (rows_of t.steps) n) ≡ true
    → ((k : ℕ) → at ≤ k → k < length (rows_of t.steps) → is_selected t.rules (rows_of t.steps) n a x k ≡ false) → axis_of t.rules t.steps n a x ≡ Known xs
up_end s t n a x at id xs w r h f =
    known_at t.rules t.steps n a x xs w.joined h
    (ap (λ b. cond b (reverse (below t n a x (length (rows_of t.steps)))) (below t n a x (length (rows_of t.steps)))) r
    ∙ filter_skip (is_selected t.rules (rows_of t.steps) n a x) at (length (rows_of t.steps)) w.within f ∙ sym w.found)

-- a walk downwards has found what is selected from a number up to the row
pub record GoesDown {M : Type 0} (first last : Seen M) (n : ℕ) (a : Axis) (x : Test) (at : ℕ) (id : Judged) (xs : List ℕ) : Type 0 where
  pub moved : Moves first last
  pub joined : IsJoined last.steps n
  pub within : at ≤ suc n
  pub known : IsMet last (meets (principal_of a) x) id
  pub rest : xs ++ reverse (below last n a x at) ≡ reverse (below last n a x (suc n))

pub down_start : {M : Type 0} (s t : Seen M) (n : ℕ) (a : Axis) (x : Test) (id : Judged) (xs : List ℕ) → IsFresh id xs → IsJoined s.steps n → Moves s t → GoesDown s t n a x (suc n) id xs
down_start s t n a x id xs f j m = record {
  moved = m;
  joined = joined_grows s.steps t.steps n m.grows j;
  within = omega arith;
  known = met_fresh t (meets (principal_of a) x) id f.none;
  rest = ap (λ ys. ys ++ reverse (below t n a x (suc n))) f.empty;
}

pub down_moves : {M : Type 0} (s t u : Seen M) (n : ℕ) (a : Axis) (x : Test) (at : ℕ) (id : Judged) (xs : List ℕ) → GoesDown s t n a x at id xs → Moves t u → GoesDown s u n a x at id xs
down_moves s t u n a x at id xs w m =
    let l : at ≤ length (rows_of t.steps) = omega (arith, w.within, w.joined) in
    record {
      moved = moves_on s t u w.moved m;
      joined = joined_grows t.steps u.steps n m.grows w.joined;
      within = w.within;
      known = met_moves t u (meets (principal_of a) x) id w.moved.seen m w.known;
      rest = ap (λ ys. xs ++ reverse ys) (below_moves t u n a x at w.joined l m) ∙ w.rest ∙ ap reverse (sym (below_moves t u n a x (suc n) w.joined w.joined m));
    }

pub down_skip : {M : Type 0} (s t : Seen M) (n : ℕ) (a : Axis) (x : Test) (at to : ℕ) (id : Judged) (xs : List ℕ) → GoesDown s t n a x at id xs → to ≤ at
    → ((k : ℕ) → to ≤ k → k < at → is_selected t.rules (rows_of t.steps) n a x k ≡ false) → GoesDown s t n a x to id xs
down_skip s t n a x at to id xs w l f = record {
  moved = w.moved;
  joined = w.joined;
  within = omega (arith, w.within);
  known = w.known;
  rest = ap (λ ys. xs ++ reverse ys) (sym (filter_skip (is_selected t.rules (rows_of t.steps) n a x) to at l f)) ∙ w.rest;
}

-- the selected rows below one more number, backwards
down_on : (f : ℕ → Bool) (k : ℕ) → reverse (filter f (numbers 0 (suc k))) ≡ only_if (f k) k ++ reverse (filter f (numbers 0 k))
down_on f k = ap reverse (filter_on f k) ∙ reverse-append (filter f (numbers 0 k)) (only_if (f k) k) ∙ ap (λ ys. ys ++ reverse (filter f (numbers 0 k))) (reverse_one (f k) k)

-- the row below the number was given as far as it is selected
pub down_give : {M : Type 0} (s t u : Seen M) (n : ℕ) (a : Axis) (x : Test) (k : ℕ) (id id2 : Judged) (xs ys : List ℕ) → GoesDown s t n a x (suc k) id xs → Moves t u
    → IsMet u (meets (principal_of a) x) id2 → ys ≡ xs ++ only_if (is_selected u.rules (rows_of u.steps) n a x k) k → GoesDown s u n a x k id2 ys
down_give s t u n a x k id id2 xs ys w m i e =
    let moved = down_moves s t u n a x (suc k) id xs w m in
    let one = only_if (is_selected u.rules (rows_of u.steps) n a x k) k in
    record {
      moved = moved.moved;
      joined = moved.joined;
      within = omega (arith, moved.within);
      known = i;
      rest =
          ap (λ zs. zs ++ reverse (below u n a x k)) e ∙ append_assoc xs one (reverse (below u n a x k))
          ∙ ap (λ zs. xs ++ zs) (sym (down_on (is_selected u.rules (rows_of u.steps) n a x) k)) ∙ moved.rest;
    }

pub down_take : {M : Type 0} (s t u : Seen M) (n : ℕ) (a : Axis) (x : Test) (k : ℕ) (id id2 : Judged) (xs ys : List ℕ) → GoesDown s t n a x (suc k) id xs → Moves t u
    → is_visible t.rules (rows_of t.steps) k ≡ true → is_on a (rows_of t.steps) n k ≡ true
    → IsMet u (meets (principal_of a) x) id2 → ys ≡ xs ++ only_if (meets (principal_of a) x (row_at (rows_of u.steps) k)) k → GoesDown s u n a x k id2 ys
down_take s t u n a x k id id2 xs ys w m v o i e =
    let l : IsJoined t.steps k = omega (arith, w.within, w.joined) in
    down_give s t u n a x k id id2 xs ys w m i (e ∙ ap (λ b. xs ++ only_if b k) (sym (selected_moves t u n a x k w.joined l m v o)))

pub down_itself : {M : Type 0} (s u : Seen M) (n : ℕ) (a : Axis) (x : Test) (id id2 : Judged) (xs ys : List ℕ) → GoesDown s u n a x (suc n) id xs → is_on a (rows_of u.steps) n n ≡ true
    → IsMet u (meets (principal_of a) x) id2 → ys ≡ xs ++ only_if (is_visible u.rules (rows_of u.steps) n && meets (principal_of a) x (row_at (rows_of u.steps) n)) n → GoesDown s u n a x n id2 ys
down_itself s u n a x id id2 xs ys w o k e = down_give s u u n a x n id id2 xs ys w (moves_none u w.moved.seen) k
    (e ∙ ap (λ b. xs ++ only_if b n) (itself_is (is_visible u.rules (rows_of u.steps) n) (meets (principal_of a) x (row_at (rows_of u.steps) n)) (is_on a (rows_of u.steps) n n) o))

-- the row is a node of the axis, unless it is an attribute
pub down_plain : {M : Type 0} (s t u : Seen M) (n : ℕ) (a : Axis) (x : Test) (k : ℕ) (id id2 : Judged) (xs ys : List ℕ) → GoesDown s t n a x (suc k) id xs → Moves t u
    → principal_of a ≡ Element → is_on a (rows_of u.steps) n k ≡ is_node (rows_of u.steps) k
    → IsMet u (meets (principal_of a) x) id2 → ys ≡ xs ++ only_if (is_plain u.rules (rows_of u.steps) x k) k → GoesDown s u n a x k id2 ys
down_plain s t u n a x k id id2 xs ys w m p o i e = down_give s t u n a x k id id2 xs ys w m i
    (e ∙ ap (λ b. xs ++ only_if b k)
    (ap (λ y. is_visible u.rules (rows_of u.steps) k && (meets y x (row_at (rows_of u.steps) k) && is_node (rows_of u.steps) k)) (sym p)
    ∙ ap (λ y. is_visible u.rules (rows_of u.steps) k && (meets (principal_of a) x (row_at (rows_of u.steps) k) && y)) (sym o)))

pub down_end : {M : Type 0} (s t : Seen M) (n : ℕ) (a : Axis) (x : Test) (id : Judged) (xs : List ℕ) → GoesDown s t n a x 0 id xs → is_reverse a ≡ true
    → is_settled t.steps (need_of a (rows_of t.steps) n) ≡ true
    → ((k : ℕ) → suc n ≤ k → k < length (rows_of t.steps) → is_selected t.rules (rows_of t.steps) n a x k ≡ false) → axis_of t.rules t.steps n a x ≡ Known xs
down_end s t n a x id xs w r h f =
    let g = is_selected t.rules (rows_of t.steps) n a x in
    let all = below t n a x (length (rows_of t.steps)) in
    known_at t.rules t.steps n a x xs w.joined h
    (ap (λ b. cond b (reverse all) all) r ∙ ap reverse (filter_skip g (suc n) (length (rows_of t.steps)) w.joined f) ∙ sym w.rest ∙ append-nil xs)
