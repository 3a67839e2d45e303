-- The select whose nodes are taken one by one.
use Rattle.std.proofs.Common.{◌≡◌, refl, sym, ap, ◌∙◌, subst, ℕ, zero, suc, List, [], ◌∷◌, drop, cond, Bool, true, false, Result, Ok, Err, Option, Some, None}
use Rattle.std.specs.Option.{is_some}
use Rattle.std.specs.Prelude.{⊤, IfOk, MatchOption}
use Rattle.axis_walkers.specs.declared.child_stream.ChildStream.{ChildStream}
use Rattle.doc_model.specs.Answers as answer
use Rattle.doc_model.specs.View.{Seen}
use Rattle.doc_model.specs.declared.step.Step.{Step}
use Rattle.doc_model.specs.declared.strip_rule.StripRule.{StripRule}
use Rattle.engine_questions.specs.Walks.{is_streamed, walk}
use Rattle.document_questions.specs.Following.{AreLeft, FollowNodes, next_in}
use Rattle.document_questions.specs.declared.items.Nodes.TheVariants.{OfPath, Children}
use Rattle.key_sources.specs.Going.{Fits, Lookups, Made, Says, Went, reading_by}
use Rattle.xpath_core.proofs.Judging.{no_items, path_items_are}
use Rattle.xpath_core.proofs.Ready.{ready_on}
use Rattle.xpath_core.proofs.Streaming.{begins}
use Rattle.xpath_core.specs.Left.{IsStarted, item_behind}
use Rattle.xpath_core.specs.Ready.{IsReady}
use Rattle.xpath_core.specs.declared.path_stream.PathStream.{PathStream}
use Rattle.xpath_laws.proofs.There.{reading_told}
use Rattle.xpath_laws.proofs.Trees.{path_items_told}
use Rattle.xpath_laws.specs.Sound.{Each, IsOpen, IsThere, Rows}
use Rattle.xpath_meaning.specs.declared.context.Context.{Context}
use Rattle.xpath_meaning.specs.Evaluation.{items_by, meant, meant_path, path_items_of}
use Rattle.xpath_meaning.specs.declared.stop.EvalStop.{EvalStop}
use Rattle.xpath_meaning.specs.Meanings.{Meaning, MeantPath, plain}
use Rattle.xpath_meaning.specs.Outcome.{Outcome}
use Rattle.xpath_meaning.specs.Reading.{Reading}
use Rattle.xpath_meaning.specs.Steps.{start_of}
use Rattle.xpath_meaning.specs.Streams.{Ending, Stream, Whole, Fault, Cut, first_in}
use Rattle.xpath_syntax.specs.declared.expression.Expr.{Expr}
use Rattle.xpath_syntax.specs.declared.expression.Expr.TheVariants as expr
use Rattle.xpath_syntax.specs.declared.expression.Path.{Path, out-Path}
use Rattle.xpath_values.specs.declared.value.Value.{Value}

-- the items of a path that may be taken one by one
pub next_is : (path : Path) (c : Context) (taken : ℕ) (values : List Value) (R : Reading) → (out-Path path).streams ≡ true
    → next_in (walk (Some (expr.Path path)) c taken) values R ≡ item_behind R path taken values c
next_is path c taken values R s =
    ap (λ (items : Option (Meaning Stream)).
    let found = items_by items (meant (expr.Path path)).value R values c in first_in (drop taken found.items) found.ending)
    (path_items_are (expr.Path path) path true refl s)

-- no other expression has items
pub no_stream : (e : Expr) (f : Meaning (Outcome Value)) → meant e ≡ plain f → is_streamed e ≡ false
no_stream e f h = ap is_some (no_items e f h)

-- and a path has them where it may be taken so
pub path_streamed : (e : Expr) (path : Path) (b : Bool) → e ≡ expr.Path path → (out-Path path).streams ≡ b → is_streamed e ≡ b
path_streamed e path true is h = ap is_some (path_items_are e path true is h)
path_streamed e path false is h = ap is_some (path_items_are e path false is h)

-- ---- at first

start_there : (rules : List StripRule) (steps : List Step) (path : MeantPath) (c : Context) → IsThere rules steps c.node → IsThere rules steps (start_of path c)
start_there rules steps path c h = by_start path.absolute
  where
    by_start : (b : Bool) → IsThere rules steps (cond b 0 c.node)
    by_start true = (reading_told rules [] None steps).root
    by_start false = h

-- a path of which no node was given
pub path_begins : (path : Path) (c : Context) (stream : PathStream) (lookups : Lookups) (values : List Value) (rules : List StripRule) (steps : List Step) → IsStarted path c stream
    → (out-Path path).streams ≡ true → IsThere rules steps c.node → FollowNodes (OfPath stream) c 0 lookups values rules steps
path_begins path c stream lookups values rules steps s e h = (
  s.context,
  s.given,
  ap (λ p. (out-Path p).streams) s.path ∙ e,
  begins lookups rules steps values path c stream s (start_there rules steps (meant_path path) c h),
)

-- children of which none was given
pub children_begin : (stream : ChildStream) (c : Context) (lookups : Lookups) (values : List Value) (rules : List StripRule) (steps : List Step) → stream ≡ record { n = c.node; last = None }
    → IsThere rules steps c.node → FollowNodes (Children stream) c 0 lookups values rules steps
children_begin stream c lookups values rules steps e h = subst (λ s. AreLeft rules steps s c.node 0) (sym e) (record { node = refl; joined = h.0; stands = tt; left = λ l q g k. refl })

-- ---- nodes that were given are there

each_dropped : (T : Rows) (k : ℕ) (ns : List ℕ) → Each T ns → Each T (drop k ns)
each_dropped T zero ns a = a
each_dropped T (suc k) [] a = tt
each_dropped T (suc k) (n ∷ ns) a = each_dropped T k ns a.1

first_there : (T : Rows) (n : ℕ) (ns : List ℕ) (ending : Ending) → Each T ns → first_in ns ending ≡ answer.Known (Some n) → T n
first_there T n [] Whole a e = absurd (let no : ◌≡◌ {A = Outcome (Option ℕ)} (answer.Known None) (answer.Known (Some n)) = e in cc)
first_there T n [] (Fault fault) a e = absurd (let no : ◌≡◌ {A = Outcome (Option ℕ)} (answer.Fault fault) (answer.Known (Some n)) = e in cc)
first_there T n [] (Cut m) a e = absurd (let no : ◌≡◌ {A = Outcome (Option ℕ)} (answer.Open m) (answer.Known (Some n)) = e in cc)
first_there T n (k ∷ ks) ending a e = subst T (let same : ◌≡◌ {A = Outcome (Option ℕ)} (answer.Known (Some k)) (answer.Known (Some n)) = e in let is : k ≡ n = cc in is) a.0

pub path_there : {M N : Type 0} {s t : Seen M} {made now : Made N} {fits later : Fits} {values : List Value} {c : Context} (path : Path) (given : ℕ)
    (result : Result (Option ℕ) EvalStop) → IsReady s fits values c → Went s t made now later → Says made.lookups (λ R. item_behind R path given values c) s t result → IfOk result (λ item. MatchOption item ⊤ (λ n. IsThere t.rules t.steps n))
path_there {t = t} {made} {values = values} {c} path given (Ok (Some n)) r w a =
    let on = ready_on r w in
    let R = reading_by made.lookups t.rules t.steps in
    let flows = path_items_told (IsThere t.rules t.steps) (IsOpen t.steps) R path values c (reading_told t.rules made.lookups.keys made.lookups.id t.steps) on.values on.context in
    first_there (IsThere t.rules t.steps) n (drop given (path_items_of R path values c).items) (path_items_of R path values c).ending
    (each_dropped (IsThere t.rules t.steps) given (path_items_of R path values c).items flows.items) a.answers
path_there path given (Ok None) r w a = tt
path_there path given (Err stop) r w a = tt
