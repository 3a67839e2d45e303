-- Streams of paths by the items that they have given.
use Rattle.std.proofs.Common.{◌≡◌, refl, sym, ap, ◌∙◌, subst, ℕ, zero, suc, ◌+◌, List, [], ◌∷◌, ◌++◌, length, drop, map, arith, Result, Ok, Err, Option, Some, None, add-one}
use Rattle.doc_laws.proofs.Growth.{Grows-trans}
use Rattle.doc_model.specs.declared.step.Step.{Step}
use Rattle.doc_model.specs.declared.strip_rule.StripRule.{StripRule}
use Rattle.doc_model.specs.Answers as answer
use Rattle.doc_model.specs.Answers.{Stays}
use Rattle.doc_model.specs.Lawful.{IsLawful, Grows}
use Rattle.key_sources.specs.Going.{Lookups, reading_by}
use Rattle.xpath_core.specs.declared.levels.Place.{Place}
use Rattle.xpath_core.specs.declared.path_stream.PathStream.{PathStream}
use Rattle.xpath_core.proofs.Standing.{place_later}
use Rattle.xpath_core.specs.Left.{behind_first, left_of, left_at, IsLevel, IsEntered, IsPlace, IsBegun, IsStarted, IsStreaming, taken_in}
use Rattle.xpath_laws.specs.Sound.{Each, IsThere}
use Rattle.xpath_laws.proofs.Equations.{meant_path_is}
use Rattle.xpath_laws.proofs.Going.{first_stays}
use Rattle.xpath_meaning.specs.declared.context.Context.{Context}
use Rattle.xpath_meaning.specs.declared.stop.EvalStop.{EvalStop}
use Rattle.xpath_meaning.specs.Evaluation.{meant_path, meant_step, path_items_of}
use Rattle.xpath_meaning.specs.Items.{steps_items}
use Rattle.xpath_meaning.specs.Meanings.{MeantPath}
use Rattle.xpath_meaning.specs.Outcome.{Outcome}
use Rattle.xpath_meaning.specs.Reading.{Reading}
use Rattle.xpath_meaning.specs.Steps.{start_of}
use Rattle.xpath_meaning.specs.Streams.{Stream, Ending, Whole, Fault, Cut, all_of, then_stream, first_in, first_item, GoesOnFrom, GoesOn}
use Rattle.xpath_syntax.specs.declared.expression.Path.{Path, out-Path}
use Rattle.xpath_syntax.specs.declared.expression.StepExpr.{StepExpr}
use Rattle.xpath_values.specs.declared.value.Value.{Value}

-- ---- lists

rest_drops : (n : ℕ) (ns : List ℕ) (k : ℕ) (xs : List ℕ) → drop k xs ≡ n ∷ ns → drop (suc k) xs ≡ ns
rest_drops n ns zero [] e = absurd (let no : ◌≡◌ {A = List ℕ} [] (n ∷ ns) = e in cc)
rest_drops n ns zero (x ∷ xs) e = let same : x ∷ xs ≡ n ∷ ns = e in cc
rest_drops n ns (suc k) [] e = absurd (let no : ◌≡◌ {A = List ℕ} [] (n ∷ ns) = e in cc)
rest_drops n ns (suc k) (x ∷ xs) e = rest_drops n ns k xs e

-- ---- behind one more item

pub behind_taken : (k n : ℕ) (s r : Stream) → behind_first k s ≡ then_stream (all_of (n ∷ [])) r → behind_first (k + 1) s ≡ r
behind_taken k n s r e =
    ap (λ m. behind_first m s) (add-one k)
    ∙ ap (λ xs. record { items = xs; ending = s.ending }) (rest_drops n r.items k s.items (ap (λ (t : Stream). t.items) e))
    ∙ ap (λ ending. record { items = r.items; ending = ending }) (ap (λ (t : Stream). t.ending) e)

pub behind_result : (k : ℕ) (s r : Stream) (result : Result (Option ℕ) EvalStop) → behind_first k s ≡ then_stream (all_of (taken_in result)) r → behind_first (k + length (taken_in result)) s ≡ r
behind_result k s r (Ok (Some n)) e = behind_taken k n s r e
behind_result k s r (Ok None) e = ap (λ m. behind_first m s) (let z : k + 0 ≡ k = omega arith in z) ∙ e
behind_result k s r (Err stop) e = ap (λ m. behind_first m s) (let z : k + 0 ≡ k = omega arith in z) ∙ e

first_known : (k n : ℕ) (xs : List ℕ) (ending : Ending) → first_in xs ending ≡ answer.Known (Some n) → (rest : List ℕ) × (xs ≡ n ∷ rest)
first_known k n [] Whole e = absurd (let no : ◌≡◌ {A = Outcome (Option ℕ)} (answer.Known None) (answer.Known (Some n)) = e in cc)
first_known k n [] (Fault f) e = absurd (let no : ◌≡◌ {A = Outcome (Option ℕ)} (answer.Fault f) (answer.Known (Some n)) = e in cc)
first_known k n [] (Cut m) e = absurd (let no : ◌≡◌ {A = Outcome (Option ℕ)} (answer.Open m) (answer.Known (Some n)) = e in cc)
first_known k n (x ∷ xs) ending e = (xs, ap (λ y. y ∷ xs) (let same : ◌≡◌ {A = Outcome (Option ℕ)} (answer.Known (Some x)) (answer.Known (Some n)) = e in let is : x ≡ n = cc in is))

pub rest_is : (k n : ℕ) (s : Stream) → first_item (behind_first k s) ≡ answer.Known (Some n) → behind_first k s ≡ then_stream (all_of (n ∷ [])) (behind_first (suc k) s)
rest_is k n s e =
    let f = first_known k n (drop k s.items) s.ending e in
    ap (λ xs. record { items = xs; ending = s.ending }) f.1 ∙ ap (λ xs. record { items = n ∷ xs; ending = s.ending }) (sym (rest_drops n f.0 k s.items f.1))

-- ---- later

drops_more : (k : ℕ) (xs more : List ℕ) → (rest : List ℕ) × (drop k (xs ++ more) ≡ drop k xs ++ rest)
drops_more zero xs more = (more, refl)
drops_more (suc k) [] more = (drop (suc k) more, refl)
drops_more (suc k) (x ∷ xs) more = drops_more k xs more

behind_goes_on : (k : ℕ) (items : List ℕ) (ending : Ending) (t : Stream) → GoesOnFrom items ending t → GoesOnFrom (drop k items) ending (behind_first k t)
behind_goes_on k items Whole t e = ap (behind_first k) e
behind_goes_on k items (Fault f) t e = ap (behind_first k) e
behind_goes_on k items (Cut m) t e = let d = drops_more k items e.0 in (d.0, ap (drop k) e.1 ∙ d.1)

pub item_stays : (k : ℕ) (s t : Stream) → GoesOn s t → Stays (first_item (behind_first k s)) (first_item (behind_first k t))
item_stays k s t g = first_stays (behind_first k s) (behind_first k t) (behind_goes_on k s.items s.ending t g)

-- ---- streams stand

pub begun_place : (rules : List StripRule) (steps : List Step) (parts : List StepExpr) (n : ℕ) (place : Place) → IsThere rules steps n → IsBegun parts n place → IsPlace rules steps parts place
begun_place rules steps parts n place h b = record {
  tests = b.tests;
  few = let e = ap length b.levels in omega (arith, e);
  levels = subst (Each (IsLevel rules steps)) (sym b.levels) tt;
  entering = subst (IsEntered rules steps) (sym b.entering) h;
}

pub begun_left : (path : Path) (place : Place) (R : Reading) (values : List Value) (c : Context) → IsBegun (out-Path path).parts (start_of (meant_path path) c) place
    → path_items_of R path values c ≡ left_at (out-Path path).parts place R values c
begun_left path place R values c b =
    ap (λ (p : MeantPath). steps_items p.parts (start_of (meant_path path) c) R values c) (meant_path_is path)
    ∙ ap (λ n. left_of (map meant_step (out-Path path).parts) [] n R values c) (sym b.entering)
    ∙ ap (λ levels. left_of (map meant_step (out-Path path).parts) levels place.entering R values c) (sym b.levels)

pub begins : (lookups : Lookups) (rules : List StripRule) (steps : List Step) (values : List Value) (path : Path) (c : Context) (stream : PathStream) → IsStarted path c stream
    → IsThere rules steps (start_of (meant_path path) c) → IsStreaming lookups rules steps values stream
begins lookups rules steps values path c stream s h = record {
  place = subst (λ (p : Path). IsPlace rules steps (out-Path p).parts stream.place) (sym s.path) (begun_place rules steps (out-Path path).parts _ stream.place h s.place);
  left = λ q g l.
      let R = reading_by lookups rules q in
      ap (λ k. behind_first k (path_items_of R stream.path.now values stream.context)) s.given
      ∙ ap (λ p. path_items_of R p values stream.context) s.path
      ∙ ap (λ x. path_items_of R path values x) s.context
      ∙ begun_left path stream.place R values c s.place
      ∙ ap (λ x. left_at (out-Path path).parts stream.place R values x) (sym s.context)
      ∙ ap (λ (p : Path). left_at (out-Path p).parts stream.place R values stream.context) (sym s.path);
}

pub stays : (lookups : Lookups) (rules : List StripRule) (before later : List Step) (values : List Value) (stream : PathStream) → IsStreaming lookups rules before values stream
    → Grows before later → IsLawful later → IsStreaming lookups rules later values stream
stays lookups rules before later values stream s g l = record {
  place = place_later rules before later (out-Path stream.path.now).parts stream.place g s.place;
  left = λ q h k. s.left q (Grows-trans before later q g h) k;
}
