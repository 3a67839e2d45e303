use Rattle.std.proofs.Common.{subst}
use Rattle.engine_core.proofs.Asking.{heard}
use Rattle.engine_core.proofs.Keeping.{kept_none}
use Rattle.engine_values.proofs.Values.{at_select, content_found, empty_found, select_found, select_stops}
use Rattle.xpath_laws.specs.Sound.{IsThere, IsValue}
use Rattle.engine_values.proofs.found.find_value.Goals as goal

pub returns-in_err-value-in-Select-clause-found : goal.returns-in_err-value-in-Select-clause-found
returns-in_err-value-in-Select-clause-found g c =
    select_stops _ _ _ c.args.core.now c.args.value.now c.in-Select.e c.in_err-value-in-Select.field-0.0 _ c.in-Select.is
    (heard g.S.ItemStream.walks g.S.ItemStream.follows c.value.ensures.kept {at = at_select c.args.core.now c.in-Select.e} _ c.in_err-value-in-Select.ensures.answers) c.from_residual.ensures.1

pub returns-in_ok-value-in-Select-clause-found : goal.returns-in_ok-value-in-Select-clause-found
returns-in_ok-value-in-Select-clause-found g c =
    select_found _ (g.Q.Questions.sees c.args.v.now).steps _ c.args.core.now c.args.value.now c.in-Select.e c.in_ok-value-in-Select.field-0 c.in-Select.is
    (heard g.S.ItemStream.walks g.S.ItemStream.follows c.value.ensures.kept {at = at_select c.args.core.now c.in-Select.e} _ c.in_ok-value-in-Select.ensures.answers)
    (subst (λ rules. IsValue (IsThere rules (g.Q.Questions.sees c.value.new.self).steps) c.in_ok-value-in-Select.field-0) c.value.ensures.kept.moves.rules_stay
    c.in_ok-value-in-Select.ensures.there)

pub returns-in-Content-clause-kept : goal.returns-in-Content-clause-kept
returns-in-Content-clause-kept g c = kept_none c.requires.stands

pub returns-in-Content-clause-found : goal.returns-in-Content-clause-found
returns-in-Content-clause-found g c =
    let steps = (g.Q.Questions.sees c.args.v.now).steps in content_found _ steps steps c.args.core.now c.args.value.now c.as_slice.result _ c.in-Content.is c.as_slice.ensures

pub returns-in-Empty-clause-kept : goal.returns-in-Empty-clause-kept
returns-in-Empty-clause-kept g c = kept_none c.requires.stands

pub returns-in-Empty-clause-found : goal.returns-in-Empty-clause-found
returns-in-Empty-clause-found g c =
    let steps = (g.Q.Questions.sees c.args.v.now).steps in rw c.new.ensures (empty_found _ steps steps c.args.core.now c.args.value.now c.in-Empty.is)
