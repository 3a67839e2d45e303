-- One word of look-ahead is enough.
use Rattle.std.proofs.Common.{◌≡◌, refl, true}
use Rattle.xpath_grammar.specs.declared.sign.Sign.{Sign}
use Rattle.xpath_grammar.specs.declared.sign.Precedence.TheVariants as precedence
use Rattle.xpath_grammar.specs.Productions.{Nonterminal, level, more, primary, predicates, relative_tail, call, arguments, more_arguments, location}
use Rattle.xpath_grammar.specs.Productions.{steps, more_steps, step, tested, node_test, pattern, more_patterns, pattern_path, pattern_steps}
use Rattle.xpath_grammar.specs.Productions.{more_pattern_steps, pattern_step}
use Rattle.xpath_grammar.specs.Grammar.{production}
use Rattle.xpath_grammar.proofs.AllSigns.{by_all}
use Rattle.xpath_grammar.proofs.Fill.{implies}
use Rattle.xpath_grammar.proofs.Firsts.{starts, is_empty, eats, begins, fades, Fits}

pub fitting : (v : Nonterminal) → Fits v (production v) (eats v)
fitting (level precedence.Path) = (
  (λ x. (
    (λ x. ((λ x. (tt, by_all _ refl, (by_all _ refl, refl))), by_all _ refl, (by_all _ refl, refl))),
    by_all _ refl,
    (by_all _ refl, refl),
  )),
  (λ x. (tt, by_all _ refl, (by_all _ refl, refl))),
  refl,
  by_all _ refl,
)
fitting (level precedence.Union) = (λ x. ((λ x. (tt, by_all _ refl, (by_all _ refl, refl))), by_all _ refl, (by_all _ refl, refl)))
fitting (level precedence.Unary) = ((λ w x. (tt, by_all _ refl)), (λ x. (tt, by_all _ refl, (by_all _ refl, refl))), by_all _ refl)
fitting (level precedence.Multiplicative) = (λ x. ((λ x. (tt, by_all _ refl, (by_all _ refl, refl))), by_all _ refl, (by_all _ refl, refl)))
fitting (level precedence.Additive) = (λ x. ((λ x. (tt, by_all _ refl, (by_all _ refl, refl))), by_all _ refl, (by_all _ refl, refl)))
fitting (level precedence.Relational) = (λ x. ((λ x. (tt, by_all _ refl, (by_all _ refl, refl))), by_all _ refl, (by_all _ refl, refl)))
fitting (level precedence.Equality) = (λ x. ((λ x. (tt, by_all _ refl, (by_all _ refl, refl))), by_all _ refl, (by_all _ refl, refl)))
fitting (level precedence.And) = (λ x. ((λ x. (tt, by_all _ refl, (by_all _ refl, refl))), by_all _ refl, (by_all _ refl, refl)))
fitting (level precedence.Or) = (λ x. ((λ x. (tt, by_all _ refl, (by_all _ refl, refl))), by_all _ refl, (by_all _ refl, refl)))
fitting (more precedence.Path left) = ((λ w. (λ x. ((λ x. (tt, by_all _ refl, (by_all _ refl, refl))), by_all _ refl, (by_all _ refl, refl)))), tt, refl, by_all _ refl)
fitting (more precedence.Union left) = ((λ w. (λ x. ((λ x. (tt, by_all _ refl, (by_all _ refl, refl))), by_all _ refl, (by_all _ refl, refl)))), tt, refl, by_all _ refl)
fitting (more precedence.Unary left) = ((λ w. (λ x. ((λ x. (tt, by_all _ refl, (by_all _ refl, refl))), by_all _ refl, (by_all _ refl, refl)))), tt, refl, by_all _ refl)
fitting (more precedence.Multiplicative left) = ((λ w. (λ x. ((λ x. (tt, by_all _ refl, (by_all _ refl, refl))), by_all _ refl, (by_all _ refl, refl)))), tt, refl, by_all _ refl)
fitting (more precedence.Additive left) = ((λ w. (λ x. ((λ x. (tt, by_all _ refl, (by_all _ refl, refl))), by_all _ refl, (by_all _ refl, refl)))), tt, refl, by_all _ refl)
fitting (more precedence.Relational left) = ((λ w. (λ x. ((λ x. (tt, by_all _ refl, (by_all _ refl, refl))), by_all _ refl, (by_all _ refl, refl)))), tt, refl, by_all _ refl)
fitting (more precedence.Equality left) = ((λ w. (λ x. ((λ x. (tt, by_all _ refl, (by_all _ refl, refl))), by_all _ refl, (by_all _ refl, refl)))), tt, refl, by_all _ refl)
fitting (more precedence.And left) = ((λ w. (λ x. ((λ x. (tt, by_all _ refl, (by_all _ refl, refl))), by_all _ refl, (by_all _ refl, refl)))), tt, refl, by_all _ refl)
fitting (more precedence.Or left) = ((λ w. (λ x. ((λ x. (tt, by_all _ refl, (by_all _ refl, refl))), by_all _ refl, (by_all _ refl, refl)))), tt, refl, by_all _ refl)
fitting primary = ((λ w x. ((λ w. tt), by_all _ refl)), ((λ w x. (tt, by_all _ refl)), ((λ w. tt), ((λ w. tt), (λ w. tt), by_all _ refl), refl, by_all _ refl), by_all _ refl), by_all _ refl)
fitting predicates = ((λ w x. ((λ w. (λ x. (tt, by_all _ refl, (by_all _ refl, refl)))), by_all _ refl)), tt, by_all _ refl)
fitting relative_tail = ((λ w. (λ x. (tt, by_all _ refl, (by_all _ refl, refl)))), ((λ w. (λ x. (tt, by_all _ refl, (by_all _ refl, refl)))), tt, refl, by_all _ refl), refl, by_all _ refl)
fitting call = (λ w. (λ x. ((λ w. tt), by_all _ refl, (by_all _ refl, refl))))
fitting arguments = ((λ x. ((λ x. (tt, by_all _ refl, (by_all _ refl, refl))), by_all _ refl, (by_all _ refl, refl))), tt, refl, by_all _ refl)
fitting more_arguments = ((λ w. (λ x. ((λ x. (tt, by_all _ refl, (by_all _ refl, refl))), by_all _ refl, (by_all _ refl, refl)))), tt, refl, by_all _ refl)
fitting location = (
  (λ w. ((λ x. (tt, by_all _ refl, (by_all _ refl, refl))), tt, refl, by_all _ refl)),
  ((λ w. (λ x. (tt, by_all _ refl, (by_all _ refl, refl)))), (λ x. (tt, by_all _ refl, (by_all _ refl, refl))), refl, by_all _ refl),
  refl,
  by_all _ refl,
)
fitting steps = (λ x. ((λ x. (tt, by_all _ refl, (by_all _ refl, refl))), by_all _ refl, (by_all _ refl, refl)))
fitting more_steps = ((λ w. (λ x. (tt, by_all _ refl, (by_all _ refl, refl)))), ((λ w. (λ x. (tt, by_all _ refl, (by_all _ refl, refl)))), tt, refl, by_all _ refl), refl, by_all _ refl)
fitting step = (
  (λ w. tt),
  (
    (λ w. tt),
    (
      (λ w. (λ x. (tt, by_all _ refl, (by_all _ refl, refl)))),
      ((λ w. (λ w. (λ x. (tt, by_all _ refl, (by_all _ refl, refl))))), (λ x. (tt, by_all _ refl, (by_all _ refl, refl))), refl, by_all _ refl),
      refl,
      by_all _ refl,
    ),
    refl,
    by_all _ refl,
  ),
  refl,
  by_all _ refl,
)
fitting (tested a) = (λ x. ((λ x. (tt, by_all _ refl, (by_all _ refl, refl))), by_all _ refl, (by_all _ refl, refl)))
fitting node_test = (
  (λ w. tt),
  (
    (λ w. tt),
    (
      (λ w. (λ w. (λ w. tt))),
      ((λ w. (λ w. ((λ w. (λ w. tt)), (λ w. tt), refl, by_all _ refl))), (λ w. tt), refl, by_all _ refl),
      refl,
      by_all _ refl,
    ),
    refl,
    by_all _ refl,
  ),
  refl,
  by_all _ refl,
)
fitting pattern = (λ x. ((λ x. (tt, by_all _ refl, (by_all _ refl, refl))), by_all _ refl, (by_all _ refl, refl)))
fitting more_patterns = ((λ w. (λ x. ((λ x. (tt, by_all _ refl, (by_all _ refl, refl))), by_all _ refl, (by_all _ refl, refl)))), tt, refl, by_all _ refl)
fitting pattern_path = (
  (λ w. ((λ x. (tt, by_all _ refl, (by_all _ refl, refl))), tt, refl, by_all _ refl)),
  (
    (λ w. (λ x. (tt, by_all _ refl, (by_all _ refl, refl)))),
    (
      (λ w. (λ w. (λ w. (λ w. (λ x. (tt, by_all _ refl, (by_all _ refl, refl))))))),
      (
        (λ w. (λ w. (λ w. (λ w. (λ w. (λ w. (λ x. (tt, by_all _ refl, (by_all _ refl, refl))))))))),
        (λ x. (tt, by_all _ refl, (by_all _ refl, refl))),
        refl,
        by_all _ refl,
      ),
      refl,
      by_all _ refl,
    ),
    refl,
    by_all _ refl,
  ),
  refl,
  by_all _ refl,
)
fitting pattern_steps = (λ x. ((λ x. (tt, by_all _ refl, (by_all _ refl, refl))), by_all _ refl, (by_all _ refl, refl)))
fitting more_pattern_steps = (
  (λ w. (λ x. ((λ x. (tt, by_all _ refl, (by_all _ refl, refl))), by_all _ refl, (by_all _ refl, refl)))),
  ((λ w. (λ x. ((λ x. (tt, by_all _ refl, (by_all _ refl, refl))), by_all _ refl, (by_all _ refl, refl)))), tt, refl, by_all _ refl),
  refl,
  by_all _ refl,
)
fitting pattern_step = (
  (λ w. (λ x. (tt, by_all _ refl, (by_all _ refl, refl)))),
  ((λ w. (λ w. (λ x. (tt, by_all _ refl, (by_all _ refl, refl))))), (λ x. (tt, by_all _ refl, (by_all _ refl, refl))), refl, by_all _ refl),
  refl,
  by_all _ refl,
)

pub begin_there : (v : Nonterminal) (s : Sign) → implies (begins v (production v) s) (starts v s) ≡ true
begin_there (level precedence.Path) = by_all _ refl
begin_there (level precedence.Union) = by_all _ refl
begin_there (level precedence.Unary) = by_all _ refl
begin_there (level precedence.Multiplicative) = by_all _ refl
begin_there (level precedence.Additive) = by_all _ refl
begin_there (level precedence.Relational) = by_all _ refl
begin_there (level precedence.Equality) = by_all _ refl
begin_there (level precedence.And) = by_all _ refl
begin_there (level precedence.Or) = by_all _ refl
begin_there (more precedence.Path left) = by_all _ refl
begin_there (more precedence.Union left) = by_all _ refl
begin_there (more precedence.Unary left) = by_all _ refl
begin_there (more precedence.Multiplicative left) = by_all _ refl
begin_there (more precedence.Additive left) = by_all _ refl
begin_there (more precedence.Relational left) = by_all _ refl
begin_there (more precedence.Equality left) = by_all _ refl
begin_there (more precedence.And left) = by_all _ refl
begin_there (more precedence.Or left) = by_all _ refl
begin_there primary = by_all _ refl
begin_there predicates = by_all _ refl
begin_there relative_tail = by_all _ refl
begin_there call = by_all _ refl
begin_there arguments = by_all _ refl
begin_there more_arguments = by_all _ refl
begin_there location = by_all _ refl
begin_there steps = by_all _ refl
begin_there more_steps = by_all _ refl
begin_there step = by_all _ refl
begin_there (tested a) = by_all _ refl
begin_there node_test = by_all _ refl
begin_there pattern = by_all _ refl
begin_there more_patterns = by_all _ refl
begin_there pattern_path = by_all _ refl
begin_there pattern_steps = by_all _ refl
begin_there more_pattern_steps = by_all _ refl
begin_there pattern_step = by_all _ refl

pub fade_there : (v : Nonterminal) → implies (fades v (production v)) (is_empty v) ≡ true
fade_there (level precedence.Path) = refl
fade_there (level precedence.Union) = refl
fade_there (level precedence.Unary) = refl
fade_there (level precedence.Multiplicative) = refl
fade_there (level precedence.Additive) = refl
fade_there (level precedence.Relational) = refl
fade_there (level precedence.Equality) = refl
fade_there (level precedence.And) = refl
fade_there (level precedence.Or) = refl
fade_there (more precedence.Path left) = refl
fade_there (more precedence.Union left) = refl
fade_there (more precedence.Unary left) = refl
fade_there (more precedence.Multiplicative left) = refl
fade_there (more precedence.Additive left) = refl
fade_there (more precedence.Relational left) = refl
fade_there (more precedence.Equality left) = refl
fade_there (more precedence.And left) = refl
fade_there (more precedence.Or left) = refl
fade_there primary = refl
fade_there predicates = refl
fade_there relative_tail = refl
fade_there call = refl
fade_there arguments = refl
fade_there more_arguments = refl
fade_there location = refl
fade_there steps = refl
fade_there more_steps = refl
fade_there step = refl
fade_there (tested a) = refl
fade_there node_test = refl
fade_there pattern = refl
fade_there more_patterns = refl
fade_there pattern_path = refl
fade_there pattern_steps = refl
fade_there more_pattern_steps = refl
fade_there pattern_step = refl
