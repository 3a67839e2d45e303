-- The rule of a node stays.
use Rattle.std.proofs.Common.{refl, ℕ, List, [], ◌∷◌}
use Rattle.doc_model.specs.Answers.{Stays}
use Rattle.sheet_ast.specs.declared.sheet.Rule.{Rule}
use Rattle.xpath_meaning.specs.Reading.{Reading, Extends}
use Rattle.xpath_laws.proofs.Staying.{bind_stays, if_stays}
use Rattle.xpath_laws.proofs.Matching.{path_match_stays}
use Rattle.rule_choice.specs.Choice.{Candidate, tried, first_that, matches, choice_of}

first_stays : (R Q : Reading) → Extends R Q → (n : ℕ) (cs : List Candidate) → Stays (first_that (matches R n) cs) (first_that (matches Q n) cs)
first_stays R Q x n [] = refl
first_stays R Q x n (c ∷ cs) = bind_stays _ _ _ _ (path_match_stays R Q x c.rule.pattern n) (λ here. if_stays here _ _ _ _ refl (first_stays R Q x n cs))

pub choice_stays : (R Q : Reading) → Extends R Q → (rules : List Rule) (mode n : ℕ) → Stays (choice_of R rules mode n) (choice_of Q rules mode n)
choice_stays R Q x rules mode n = bind_stays _ _ _ _ (first_stays R Q x n (tried rules mode)) (λ found. refl)
