-- Nodes that are taken one by one go on as the document grows.
use Rattle.std.proofs.Common.{◌≡◌, sym, ap, ◌∙◌, subst, ℕ, zero, suc, List, [], ◌∷◌, drop, true, false, Err, Option, Some, None}
use Rattle.axis_walkers.specs.declared.child_stream.ChildStream.{ChildStream}
use Rattle.axis_walkers.specs.Streams.{given_to, StandsTo, StreamIs}
use Rattle.axis_walkers.proofs.Given.{stands_moves}
use Rattle.doc_laws.proofs.Growth.{joined_grows, Grows-trans, Grows-refl}
use Rattle.doc_laws.proofs.Root.{lawful_before}
use Rattle.doc_model.specs.declared.look.Look.TheVariants as look
use Rattle.doc_model.specs.declared.node_test.Test.TheVariants as test
use Rattle.doc_model.specs.declared.step.Step.{Step}
use Rattle.doc_model.specs.declared.strip_rule.StripRule.{StripRule}
use Rattle.doc_model.specs.Answers as answer
use Rattle.doc_model.specs.Document.{is_open}
use Rattle.doc_model.specs.Lawful.{IsLawful, Grows}
use Rattle.doc_model.specs.Rows.{rows_of}
use Rattle.doc_model.specs.Shown.{shown_of}
use Rattle.doc_model.specs.View.{Seen, Moves}
use Rattle.document_questions.specs.declared.items.Items.{Items}
use Rattle.document_questions.specs.declared.items.Nodes.{Nodes}
use Rattle.document_questions.specs.declared.items.Nodes.TheVariants.{OfPath, Children}
use Rattle.document_questions.specs.Following.{AreLeft, FollowNodes, Follows}
use Rattle.key_sources.specs.Going.{Lookups, reading_by, SaysAlways}
use Rattle.xpath_core.specs.declared.levels.Level.{Level}
use Rattle.xpath_core.specs.Left.{behind_node, IsLevel}
use Rattle.xpath_core.proofs.Kids.{none_behind}
use Rattle.xpath_core.proofs.Standing.{stepped, stepped_there, kid_behind, children_are}
use Rattle.xpath_core.proofs.Streaming.{stays}
use Rattle.xpath_laws.specs.Sound.{IsThere}
use Rattle.xpath_meaning.specs.declared.context.Context.{Context}
use Rattle.xpath_meaning.specs.declared.stop.EvalStop.TheVariants.{NotYet}
use Rattle.xpath_meaning.specs.Streams.{Ending, Stream, Whole, Cut, first_in}
use Rattle.xpath_values.specs.declared.value.Value.{Value}

-- ---- children

left_on : (rules : List StripRule) (p q : List Step) (stream : ChildStream) (n taken : ℕ) → AreLeft rules p stream n taken → Grows p q → AreLeft rules q stream n taken
left_on rules p q stream n taken a g = record {
  node = a.node;
  joined = joined_grows p q n g a.joined;
  stands = stands_moves rules p q n stream.last g a.stands;
  left = λ lookups later h l. a.left lookups later (Grows-trans p q later g h) l;
}

left_moves : {M : Type 0} (s t : Seen M) (stream : ChildStream) (n taken : ℕ) → Moves s t → AreLeft s.rules s.steps stream n taken → AreLeft t.rules t.steps stream n taken
left_moves s t stream n taken m a = subst (λ rules. AreLeft rules t.steps stream n taken) (sym m.rules_stay) (left_on s.rules s.steps t.steps stream n taken a m.grows)

rest_drops : (n : ℕ) (ns : List ℕ) (k : ℕ) (xs : List ℕ) → drop k xs ≡ n ∷ ns → drop (suc k) xs ≡ ns
rest_drops n ns zero [] e = absurd (let no : ◌≡◌ {A = List ℕ} [] (n ∷ ns) = e in cc)
rest_drops n ns zero (x ∷ xs) e = let same : x ∷ xs ≡ n ∷ ns = e in cc
rest_drops n ns (suc k) [] e = absurd (let no : ◌≡◌ {A = List ℕ} [] (n ∷ ns) = e in cc)
rest_drops n ns (suc k) (x ∷ xs) e = rest_drops n ns k xs e

-- as a level without predicates
abbrev level_of : ChildStream → ℕ → Level
level_of stream n = record { node = n; children = stream; counts = [] }

level_is : (rules : List StripRule) (steps : List Step) (stream : ChildStream) (n taken : ℕ) → AreLeft rules steps stream n taken → IsLevel rules steps (level_of stream n)
level_is rules steps stream n taken a = record { node = a.node; joined = a.joined; stands = a.stands; counts = tt }

-- one more child was given
pub record Gave {M : Type 0} (t : Seen M) (old new : ChildStream) (n taken k : ℕ) : Type 0 where
  pub left : AreLeft t.rules t.steps new n (suc taken)
  pub there : IsThere t.rules t.steps k
  pub next : (lookups : Lookups)
      → first_in (drop taken ((reading_by lookups t.rules t.steps).children test.Any n).items) ((reading_by lookups t.rules t.steps).children test.Any n).ending ≡ answer.Known (Some k)

first_is : (k : ℕ) (ns xs : List ℕ) (ending : Ending) → xs ≡ k ∷ ns → first_in xs ending ≡ answer.Known (Some k)
first_is k ns xs ending e = ap (λ ys. first_in ys ending) e

pub gave : {M : Type 0} (s t : Seen M) (old new : ChildStream) (n taken k : ℕ) → Moves s t → AreLeft s.rules s.steps old n taken → StreamIs s t old new (look.Node k) → Gave t old new n taken k
gave s t old new n taken k m a i =
    let p = stepped s t (level_of old n) new k m (level_is s.rules s.steps old n taken a) i in
    let on = left_moves s t old n taken m a in
    let items = λ (lookups : Lookups) (q : List Step). ((reading_by lookups t.rules q).children test.Any n).items in
    let one = λ (lookups : Lookups) (q : List Step) (g : Grows t.steps q) (l : IsLawful q). on.left lookups q g l ∙ kid_behind lookups t.rules t.steps q n test.Any old.last k g p.0 in
    record {
      left = record {
        node = p.1;
        joined = on.joined;
        stands = subst (λ o. StandsTo t.rules (rows_of t.steps) n o) (sym p.2) p.0.now;
        left = λ lookups q g l. rest_drops k (behind_node (Some k) (items lookups q)) taken (items lookups q) (one lookups q g l) ∙ ap (λ o. behind_node o (items lookups q)) (sym p.2);
      };
      there = stepped_there t.rules t.steps n old.last k p.0;
      next = λ lookups. first_is k (behind_node (Some k) (items lookups t.steps)) _ _ (one lookups t.steps (Grows-refl t.steps) m.seen.lawful);
    }

-- what is next where all that there are were given
at_end : (s : Stream) (last : Option ℕ) (taken : ℕ) (ns : List ℕ) (ending : Ending) → s ≡ record { items = ns; ending = ending } → drop taken s.items ≡ behind_node last s.items
    → behind_node last ns ≡ [] → first_in (drop taken s.items) s.ending ≡ first_in [] ending
at_end s last taken ns ending e d b = ap (λ xs. first_in xs s.ending) (d ∙ ap (λ (u : Stream). behind_node last u.items) e ∙ b) ∙ ap (λ (u : Stream). first_in [] u.ending) e

pub ended : {M : Type 0} (s t : Seen M) (old new : ChildStream) (n taken : ℕ) → Moves s t → AreLeft s.rules s.steps old n taken → StreamIs s t old new look.Nothing → (lookups : Lookups)
    → first_in (drop taken ((reading_by lookups t.rules t.steps).children test.Any n).items) ((reading_by lookups t.rules t.steps).children test.Any n).ending ≡ answer.Known None
ended s t old new n taken m a i lookups =
    let on = left_moves s t old n taken m a in
    let shut = ap (is_open t.steps) (sym a.node) ∙ i.1 in
    let all = ap (λ k. given_to t.rules (rows_of t.steps) k old.last) (sym a.node) ∙ i.0 ∙ ap (shown_of t.rules (rows_of t.steps)) a.node in
    at_end _ old.last taken _ Whole (children_are lookups t.rules t.steps test.Any n false on.joined shut) (on.left lookups t.steps (Grows-refl t.steps) m.seen.lawful)
    (none_behind t.rules (rows_of t.steps) n test.Any old.last on.stands all)

-- or where more may come
pub waits : {M : Type 0} (s t : Seen M) (old new : ChildStream) (n taken : ℕ) → Moves s t → AreLeft s.rules s.steps old n taken → StreamIs s t old new look.NotYet
    → SaysAlways {A = Option ℕ} (λ R. first_in (drop taken (R.children test.Any n).items) (R.children test.Any n).ending) s t (Err (NotYet n))
waits s t old new n taken m a i lookups =
    let p = i.0.0 in
    let g = i.0.1 in
    let on = left_on t.rules s.steps p old n taken (subst (λ rules. AreLeft rules s.steps old n taken) (sym m.rules_stay) a) g in
    let opened = ap (is_open p) (sym a.node) ∙ i.0.3.1 in
    let all = ap (λ k. given_to t.rules (rows_of p) k old.last) (sym a.node) ∙ i.0.3.0 ∙ ap (shown_of t.rules (rows_of p)) a.node in
    record {
      answers = (
        p,
        g,
        i.0.2,
        at_end _ old.last taken _ (Cut n) (children_are lookups t.rules p test.Any n true on.joined opened) (on.left lookups p (Grows-refl p) (lawful_before p t.steps i.0.2 m.seen.lawful))
            (none_behind t.rules (rows_of p) n test.Any old.last on.stands all),
      );
    }

-- none was given
pub left_same : {M : Type 0} (s t : Seen M) (old new : ChildStream) (n taken count : ℕ) → Moves s t → AreLeft s.rules s.steps old n taken → new ≡ old → count ≡ taken
    → AreLeft t.rules t.steps new n count
left_same s t old new n taken count m a e f =
    subst (λ k. AreLeft t.rules t.steps new n k) (sym f) (subst (λ o. AreLeft t.rules t.steps o n taken) (sym e) (left_moves s t old n taken m a))

-- ---- paths and children

follow_nodes_on : (nodes : Nodes) (c : Context) (taken : ℕ) (lookups : Lookups) (values : List Value) (rules : List StripRule) (p q : List Step)
    → FollowNodes nodes c taken lookups values rules p → Grows p q → IsLawful q → FollowNodes nodes c taken lookups values rules q
follow_nodes_on (OfPath stream) c taken lookups values rules p q f g l = (f.0, f.1, f.2, stays lookups rules p q values stream f.3 g l)
follow_nodes_on (Children stream) c taken lookups values rules p q f g l = left_on rules p q stream c.node taken f g

pub follows_on : (items : Items) (lookups : Lookups) (values : List Value) (rules : List StripRule) (steps : List Step) → FollowNodes items.nodes items.context items.taken lookups values rules steps
    → Follows items lookups values rules steps
follows_on items lookups values rules steps f = λ q g l. follow_nodes_on items.nodes items.context items.taken lookups values rules steps q f g l
