use Rattle.std.proofs.Common.{◌∙◌, ap, sym}
use Rattle.doc_model.specs.Strip.{has_part}
use Rattle.rule_index.specs.Applying.{wanted_if}
use Rattle.rule_index.proofs.Lasts.{last_found}
use Rattle.rule_index.proofs.naming.may_be_named.Goals as goal

pub returns-in-Some : goal.returns-in-Some
returns-in-Some c = c.name_fits.ensures ∙ sym (ap (λ wanted. has_part wanted c.args.local.now) (last_found c.args.path.now.parts ∙ ap wanted_if (sym c.in-Some.ensures)))

pub returns-in-None : goal.returns-in-None
returns-in-None c = sym (ap (λ wanted. has_part wanted c.args.local.now) (last_found c.args.path.now.parts ∙ ap wanted_if (sym c.in-None.ensures)))
