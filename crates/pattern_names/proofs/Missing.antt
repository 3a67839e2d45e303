-- A node of another name than the one that is asked for does not match.
use Rattle.std.proofs.Common.{◌≡◌, refl, ap, ◌∙◌, ℕ, List, [], ◌∷◌, map, reverse, Bool, true, false, cond, ◌&&◌, Option, Some, None}
use Rattle.std.proofs.lemmas.Bool.{and_left, and_right}
use Rattle.std.specs.Prelude.{bytes_eq}
use Rattle.doc_model.specs.declared.node_test.Test.{Test}
use Rattle.doc_model.specs.declared.node_test.Test.TheVariants as test
use Rattle.doc_model.specs.declared.row.Axis.TheVariants as axis
use Rattle.doc_model.specs.declared.row.Kind.{Kind}
use Rattle.doc_model.specs.declared.row.Kind.TheVariants as kind
use Rattle.doc_model.specs.declared.row.Row.{Row}
use Rattle.doc_model.specs.declared.step.Step.{Step}
use Rattle.doc_model.specs.declared.strip_rule.StripRule.{StripRule}
use Rattle.doc_model.specs.Answers.{Known}
use Rattle.doc_model.specs.Document.{is_attribute}
use Rattle.doc_model.specs.NodeTests.{meets, is_kind}
use Rattle.doc_model.specs.Relations.{parent_of}
use Rattle.doc_model.specs.Rows.{rows_of, row_at}
use Rattle.doc_model.specs.Strip.{has_part, is_named}
use Rattle.key_sources.specs.Going.{Lookups, reading_by}
use Rattle.pattern_names.specs.Wanted.{wanted_of, wanted_first, wanted_by}
use Rattle.xpath_laws.specs.Sound.{IsThere}
use Rattle.xpath_laws.proofs.Short.{dots_are, no_dots}
use Rattle.xpath_meaning.specs.Conversions.{first_of}
use Rattle.xpath_meaning.specs.Match.{MatchStep, match_step, fits, fits_below, passes_all, is_step_to, sources, leads, match_path}
use Rattle.xpath_meaning.specs.Outcome.{Outcome, ◌>>=◌, some_holds}
use Rattle.xpath_meaning.specs.Reading.{Reading}
use Rattle.xpath_nodes.proofs.ByView.{row_is}
use Rattle.xpath_syntax.specs.declared.pattern.PatternPath.{PatternPath}
use Rattle.xpath_syntax.specs.declared.pattern.PatternStart.{PatternStart}

-- ---- tests

named_otherwise : (row : Row) (uri local : List ℕ) (k : Bool) → has_part (Some local) row.local ≡ false → (is_named row uri (Some local) && k) ≡ false
named_otherwise row uri local k e = and_left (is_named row uri (Some local)) k (and_right (bytes_eq row.uri uri) (has_part (Some local) row.local) e)

not_met : (principal : Kind) (t : Test) (row : Row) → has_part (wanted_of t) row.local ≡ false → meets principal t row ≡ false
not_met principal test.Any row e = cc
not_met principal (test.Kind k) row e = cc
not_met principal (test.Name uri local) row e = named_otherwise row uri local (is_kind principal row.kind) e
not_met principal (test.InUri uri) row e = cc
not_met principal test.AnyName row e = cc
not_met principal (test.Target target) row e = named_otherwise row [] target (is_kind kind.Instruction row.kind) e

not_fitting : (attribute : Bool) (t : Test) (row : Row) → has_part (wanted_of t) row.local ≡ false → fits attribute t row ≡ false
not_fitting true t row e = and_right (is_attribute row.kind) (meets kind.Attribute t row) (not_met kind.Attribute t row e)
not_fitting false t row e = and_right _ (meets kind.Element t row) (not_met kind.Element t row e)

-- ---- steps

module _ (lookups : Lookups) (rules : List StripRule) (steps : List Step) (n : ℕ) (there : IsThere rules steps n) where
  abbrev here : Row
  here = row_at (rows_of steps) n

  abbrev R : Reading
  R = reading_by lookups rules steps

  not_below : (step : MatchStep) (above : Option ℕ) → has_part (wanted_of step.test) here.local ≡ false → fits_below R step n above ≡ Known false
  not_below step None e = refl
  not_below step (Some above) e =
      ap (λ o. o >>= λ row. cond (fits step.attribute step.test row) (passes_all R step above n step.predicates) (Known false)) (row_is lookups rules steps n there.0)
      ∙ ap (λ b. cond b (passes_all R step above n step.predicates) (Known false)) (not_fitting step.attribute step.test here e)

  not_led : (step : MatchStep) → has_part (wanted_of step.test) here.local ≡ false → is_step_to R step n ≡ Known false
  not_led step e = by (parent_of (rows_of steps) n) refl
    where
      by : (o : Option ℕ) → parent_of (rows_of steps) n ≡ o → is_step_to R step n ≡ Known false
      by None p = ap (λ o. o >>= λ above. fits_below R step n (first_of above)) (no_dots rules lookups.keys lookups.id steps n there p)
      by (Some m) p = ap (λ o. o >>= λ above. fits_below R step n (first_of above)) (dots_are rules lookups.keys lookups.id steps n m there p) ∙ not_below step (Some m) e

  not_lead : (start : PatternStart) (ms : List MatchStep) → has_part (wanted_first ms) here.local ≡ false → leads R start ms n ≡ Known false
  not_lead start [] e = cc
  not_lead start (step ∷ ms) e = ap (λ o. o >>= λ is. cond is (sources R step.deep n >>= λ above. some_holds (leads R start ms) above) (Known false)) (not_led step e)

  pub not_matching : (path : PatternPath) → has_part (wanted_by path) here.local ≡ false → match_path R path n ≡ Known false
  not_matching path e = not_lead path.start (reverse (map match_step path.parts)) e
