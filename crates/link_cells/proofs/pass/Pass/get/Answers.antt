use Rattle.std.proofs.Common.{rules, ℕ, sym, ◌∙◌, subst}
use Rattle.link_cells.specs.Log.{IsTheSet}
use Rattle.link_cells.proofs.Keeps.{gets}
use Rattle.link_cells.proofs.Values.{the_set, unset_of, value_of_unset}
use Rattle.link_cells.proofs.pass.Pass.get.Goals as goal

pub load-requires : goal.load-requires
load-requires g c = (search rules, search rules, gets _ _ _ _ _ _ (search rules) (search rules) (search rules))

pub returns-clause-one : goal.returns-clause-one
returns-clause-one g c given =
    let told = c.load.ensures.2 in
    let seen = c.load.new.seat.me.0.seen in
    subst (λ (v : ℕ). IsTheSet c.args.at v seen) (sym told.2) (the_set c.args.at seen told.3 (λ none. given (told.2 ∙ none)))

pub returns-clause-none : goal.returns-clause-none
returns-clause-none g c =
    let told = c.load.ensures.2 in
    let seen = c.load.new.seat.me.0.seen in
    ((λ none. unset_of c.args.at seen told.3 (sym told.2 ∙ none)), λ none. told.2 ∙ value_of_unset c.args.at seen none)
