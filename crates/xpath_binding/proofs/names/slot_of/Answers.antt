use Rattle.std.proofs.Common.{arith, ◌≡◌, sym, ap, ◌∙◌, ◌+◌, ℕ, None, Ok}
use Rattle.xpath_binding.specs.Names.{is_named}
use Rattle.xpath_binding.specs.Places.{last_place}
use Rattle.xpath_binding.specs.Scope.{or_unknown}
use Rattle.xpath_binding.proofs.Answered.{also}
use Rattle.xpath_binding.proofs.Slots.{last_of_both, last_of_first}
use Rattle.xpath_binding.proofs.names.slot_of.Goals as goal

pub returns-in-Some : goal.returns-in-Some
returns-in-Some c =
    let f = is_named c.args.uri.now c.args.local.now in let vars = c.args.vars.now in
    also _ _ _ (ap or_unknown (last_of_both f vars.globals vars.locals c.in-Some.place (sym c.last_place.ensures ∙ c.in-Some.is))
    ∙ ap (λ (n : ℕ). Ok (n + c.in-Some.place)) (sym c.len.ensures)) c.numbered.ensures

pub returns-in-Some-last_place : goal.returns-in-Some-last_place
returns-in-Some-last_place c =
    let f = is_named c.args.uri.now c.args.local.now in let vars = c.args.vars.now in let k = c.in-Some-last_place.place in
    let none : last_place f vars.locals ≡ None = sym c.last_place.ensures ∙ c.in_default.is in
    let same : k ≡ 0 + k = omega arith in
    also _ _ _ (ap or_unknown (last_of_first f vars.globals vars.locals none ∙ (sym c.last_place-2.ensures ∙ c.in-Some-last_place.is)) ∙ ap Ok same)
    c.numbered-in-Some-last_place.ensures

pub returns-in-None : goal.returns-in-None
returns-in-None c =
    let f = is_named c.args.uri.now c.args.local.now in let vars = c.args.vars.now in
    let none : last_place f vars.locals ≡ None = sym c.last_place.ensures ∙ c.in_default.is in
    ap or_unknown (last_of_first f vars.globals vars.locals none ∙ (sym c.last_place-2.ensures ∙ c.in-None.is))
