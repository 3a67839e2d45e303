use Rattle.std.proofs.Common.{◌∙◌, sym, ap, cond}
use Rattle.xpath_laws.proofs.Equations.{meant_path_is}
use Rattle.xpath_meaning.specs.Meanings.{MeantPath}
use Rattle.xpath_core.proofs.places.start_of.Goals as goal

pub returns-then-path : goal.returns-then-path
returns-then-path c = sym (ap (λ (p : MeantPath). cond p.absolute 0 c.args.ctx.now.node) (meant_path_is c.args.path.now) ∙ ap (λ b. cond b 0 c.args.ctx.now.node) c.if-path.true)

pub returns-else-path : goal.returns-else-path
returns-else-path c = sym (ap (λ (p : MeantPath). cond p.absolute 0 c.args.ctx.now.node) (meant_path_is c.args.path.now) ∙ ap (λ b. cond b 0 c.args.ctx.now.node) c.if-path.false)
