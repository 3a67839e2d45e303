use Rattle.std.proofs.Common.{List, ◌++◌, ap, subst, sym}
use Rattle.key_sources.proofs.Saying.{says_same}
use Rattle.xpath_laws.specs.Sound.{AllValues, IsThere}
use Rattle.xpath_meaning.specs.Evaluation.{meant}
use Rattle.xpath_meaning.specs.Match.{context_at}
use Rattle.xpath_meaning.specs.Meanings.{holds_at}
use Rattle.xpath_values.specs.declared.value.Value.{Value}
use Rattle.patterns.proofs.siblings.says.Goals as goal

pub holds-requires : goal.holds-requires
holds-requires g c =
    let t = g.V.NodeView.sees c.args.view.now in
    record {
      stands = c.requires.stands;
      values = subst (AllValues (IsThere t.rules t.steps)) (sym (ap (λ (vs : List Value). vs ++ vs) c.new-none.ensures)) tt;
      context = record { node = c.requires.there; current = c.requires.there };
    }

pub returns-clause-answers : goal.returns-clause-answers
returns-clause-answers g c = says_same
    (λ R. ap (λ vs. holds_at (meant c.args.predicate.now) R vs (context_at c.args.size c.args.position c.args.n)) (sym (ap (λ (vs : List Value). vs ++ vs) c.new-none.ensures))) c.holds.ensures.answers
