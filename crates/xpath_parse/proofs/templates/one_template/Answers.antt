use Rattle.xpath_parse.proofs.OneTemplate.{one_list, one_first, never_both}
use Rattle.xpath_parse.proofs.ATemplate.{parts_answered, refusal_answered}
use Rattle.xpath_parse.proofs.templates.one_template.Goals as goal

pub returns-clause-parts : goal.returns-clause-parts
returns-clause-parts c = λ text ps qs t u. one_list t qs u

pub returns-clause-refusal : goal.returns-clause-refusal
returns-clause-refusal c = λ text e f t u. one_first t f u

pub returns-clause-not_both : goal.returns-clause-not_both
returns-clause-not_both c = λ text ps e t u. never_both t e u

pub returns-clause-only : goal.returns-clause-only
returns-clause-only c = λ text ps r t a n. parts_answered text ps r t a n

pub returns-clause-refused : goal.returns-clause-refused
returns-clause-refused c = λ text e r u a n. refusal_answered text e r u a n
