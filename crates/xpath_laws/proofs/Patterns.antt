-- Whether a node matches waits only for rows that are open.
use Rattle.std.proofs.Common.{ℕ, List, [], ◌∷◌, map, reverse, Bool, true, false, Option, Some, None}
use Rattle.std.specs.Prelude.{◌||◌}
use mathlib.Core.List.{reverse_aux}
use Rattle.doc_model.specs.declared.node_test.Test.{Test}
use Rattle.doc_model.specs.declared.node_test.Test.TheVariants as test
use Rattle.doc_model.specs.declared.row.Axis.TheVariants as axis
use Rattle.doc_model.specs.Document.{is_member}
use Rattle.xpath_funcs.specs.Spaces.{words}
use Rattle.xpath_syntax.specs.declared.pattern.Pattern.{Pattern}
use Rattle.xpath_syntax.specs.declared.pattern.PatternPath.{PatternPath}
use Rattle.xpath_syntax.specs.declared.pattern.PatternStart.{PatternStart}
use Rattle.xpath_syntax.specs.declared.pattern.PatternStart.TheVariants as start
use Rattle.xpath_syntax.specs.declared.pattern.PatternStep.{PatternStep}
use Rattle.xpath_meaning.specs.declared.context.Size.{Size}
use Rattle.xpath_meaning.specs.Conversions.{first_of}
use Rattle.xpath_meaning.specs.Match.{MatchStep, match_step, fits, beside, size_of, context_at, says, position_in, passes, passes_all, fits_below}
use Rattle.xpath_meaning.specs.Match.{is_step_to, sources, is_found_by_ids, is_found_by_key, starts, leads, match_path, match_of}
use Rattle.xpath_meaning.specs.Meanings.{Meant}
use Rattle.xpath_meaning.specs.Outcome.{each_of, kept_from}
use Rattle.xpath_meaning.specs.Reading.{Reading}
use Rattle.xpath_laws.specs.Sound.{Rows, Tells, Anything, Each, IsReading}
use Rattle.xpath_laws.proofs.Tells.{Left, Perhaps, bind_tells, if_tells, some_tells, each_tells, kept_tells, each_append}
use Rattle.xpath_laws.proofs.Sounding.{MeantSound, holds_sound, first_perhaps}
use Rattle.xpath_laws.proofs.Trees.{step_sound}
use Rattle.xpath_laws.proofs.Says.{each_anything}

reversed_each : (T : Rows) (ns done : List ℕ) → Each T ns → Each T done → Each T (reverse_aux ns done)
reversed_each T [] done a d = d
reversed_each T (n ∷ ns) done a d = reversed_each T ns (n ∷ done) a.1 (a.0, d)

module _ (T O : Rows) (R : Reading) (x : IsReading T O R) where
  beside_told : (attribute whole : Bool) (test : Test) (above n : ℕ) → T above → T n → Tells O (Each T) (beside attribute whole test R above n)
  beside_told true whole test above n u t = x.axis axis.Attribute test above u
  beside_told false true test above n u t = x.axis axis.Child test above u
  beside_told false false test above n u t =
      bind_tells O (Each T) (Each T) (R.axis axis.PrecedingSibling test n) _ (x.axis axis.PrecedingSibling test n t)
      (λ before a. each_append T (reverse before) (n ∷ []) (reversed_each T before [] a tt) (t, tt))

  says_told : (size : Size) (m : Meant) → MeantSound T O m → (position n : ℕ) → T n → Tells O Anything (says R size m position n)
  says_told size m k position n t = holds_sound T O m k R [] (context_at size position n) (record { reading = x; bound = tt; context = record { node = t; current = t } })

  passes_told : (known : Bool) (n : ℕ) → T n → (predicates : List Meant) → Each (MeantSound T O) predicates → (nodes : List ℕ) → Each T nodes → Tells O Anything (passes R known n predicates nodes)
  passes_told known n t [] k nodes a = tt
  passes_told known n t (m ∷ []) k nodes a = says_told (size_of known nodes) m k.0 (position_in 1 n nodes) n t
  passes_told known n t (m ∷ l ∷ later) k nodes a =
      bind_tells O (Left T nodes) Anything (kept_from 1 (says R (size_of known nodes) m) nodes) _ (kept_tells O T 1 (says R (size_of known nodes) m) nodes a (says_told (size_of known nodes) m k.0))
      (λ left b. if_tells O Anything (is_member n left) _ _ (passes_told known n t (l ∷ later) k.1 left b.each) tt)

  passes_all_told : (step : MatchStep) (above n : ℕ) → T above → T n → (predicates : List Meant) → Each (MeantSound T O) predicates → Tells O Anything (passes_all R step above n predicates)
  passes_all_told step above n u t [] k = tt
  passes_all_told step above n u t (m ∷ ms) k =
      bind_tells O (Each T) Anything (beside step.attribute step.whole step.test R above n) _ (beside_told step.attribute step.whole step.test above n u t)
      (λ nodes a. passes_told (step.attribute || step.whole) n t (m ∷ ms) k nodes a)

  below_told : (step : MatchStep) → Each (MeantSound T O) step.predicates → (n : ℕ) → T n → (above : Option ℕ) → Perhaps T above → Tells O Anything (fits_below R step n above)
  below_told step k n t None p = tt
  below_told step k n t (Some above) p =
      bind_tells O Anything Anything (R.row n) _ (x.row n t) (λ row a. if_tells O Anything (fits step.attribute step.test row) _ _ (passes_all_told step above n p t step.predicates k) tt)

  step_to_told : (step : MatchStep) → Each (MeantSound T O) step.predicates → (n : ℕ) → T n → Tells O Anything (is_step_to R step n)
  step_to_told step k n t = bind_tells O (Each T) Anything (R.axis axis.Parent test.Any n) _ (x.axis axis.Parent test.Any n t)
      (λ above a. below_told step k n t (first_of above) (first_perhaps T O above a))

  sources_told : (deep : Bool) (n : ℕ) → T n → Tells O (Each T) (sources R deep n)
  sources_told true n t = x.axis axis.Ancestor test.Any n t
  sources_told false n t = x.axis axis.Parent test.Any n t

  by_ids_told : (ids : List ℕ) (n : ℕ) → Tells O Anything (is_found_by_ids R ids n)
  by_ids_told ids n =
      bind_tells O Anything Anything R.whole _ x.whole
      (λ shut p. bind_tells O (Each (Each T)) Anything (each_of (λ id. R.by_id id) (words ids)) _
      (each_tells O Anything (Each T) (λ id. R.by_id id) (words ids) (each_anything (words ids)) (λ id q. x.by_id id)) (λ lists b. tt))

  by_key_told : (slot : Option ℕ) (value : List ℕ) (n : ℕ) → Tells O Anything (is_found_by_key R slot value n)
  by_key_told None value n = tt
  by_key_told (Some key) value n = bind_tells O (Each T) Anything (R.by_key key value) _ (x.by_key key value) (λ nodes a. tt)

  starts_told : (s : PatternStart) (n : ℕ) → Tells O Anything (starts R s n)
  starts_told start.Relative n = tt
  starts_told start.Root n = tt
  starts_told start.Deep n = tt
  starts_told (start.Id ids) n = by_ids_told ids n
  starts_told (start.Key name value) n = by_key_told name.slot value n

  abbrev AllFit : List MatchStep → Type 0
  AllFit steps = Each (λ (step : MatchStep). Each (MeantSound T O) step.predicates) steps

  leads_told : (s : PatternStart) (steps : List MatchStep) → AllFit steps → (n : ℕ) → T n → Tells O Anything (leads R s steps n)
  leads_told s [] k n t = starts_told s n
  leads_told s (step ∷ steps) k n t =
      bind_tells O Anything Anything (is_step_to R step n) _ (step_to_told step k.0 n t)
      (λ here a. if_tells O Anything here _ _
      (bind_tells O (Each T) Anything (sources R step.deep n) _ (sources_told step.deep n t) (λ above b. some_tells O T (leads R s steps) above b (leads_told s steps k.1))) tt)

  all_fit : (steps : List PatternStep) → AllFit (map match_step steps)
  all_fit [] = tt
  all_fit (step ∷ steps) = (step_sound T O step.part, all_fit steps)

  reversed_fit : (steps done : List MatchStep) → AllFit steps → AllFit done → AllFit (reverse_aux steps done)
  reversed_fit [] done k d = d
  reversed_fit (step ∷ steps) done k d = reversed_fit steps (step ∷ done) k.1 (k.0, d)

  pub path_match_told : (path : PatternPath) (n : ℕ) → T n → Tells O Anything (match_path R path n)
  path_match_told path n t = leads_told path.start (reverse (map match_step path.parts)) (reversed_fit (map match_step path.parts) [] (all_fit path.parts) tt) n t

  pub match_told : (pattern : Pattern) (n : ℕ) → T n → Tells O Anything (match_of R pattern n)
  match_told pattern n t = some_tells O Anything (λ path. match_path R path n) pattern.alternatives (each_anything pattern.alternatives) (λ path a. path_match_told path n t)
