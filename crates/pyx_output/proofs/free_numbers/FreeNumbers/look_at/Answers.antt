use Rattle.std.proofs.Common.{sym, ◌∙◌}
use Rattle.xml_names.specs.Bindings.{all_bindings}
use Rattle.pyx_output.proofs.Telling.{looked_added, told_rest}
use Rattle.pyx_output.proofs.free_numbers.FreeNumbers.look_at.Goals as goal

pub returns-in-Ok-false-clause-tells : goal.returns-in-Ok-false-clause-tells
returns-in-Ok-false-clause-tells c = λ rest tells.
    let bound = all_bindings c.args.scopes.now.scopes in
    looked_added c.add.result c.args.self.now c.add.new.self c.args.number bound rest c.add.ensures.ok c.add.ensures.mark (c.add.ensures.err bound) c.if-number-self.false
    (sym (c.in-Ok-false.ensures {u = tt}) ∙ c.in-Ok-false.field-0-test) tells

pub returns-in-Err-clause-tells : goal.returns-in-Err-clause-tells
returns-in-Err-clause-tells c = λ rest tells. let bound = all_bindings c.args.scopes.now.scopes in told_rest c.forget.new.self bound rest (c.forget.ensures bound)
