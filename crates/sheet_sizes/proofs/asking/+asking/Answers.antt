use Rattle.std.proofs.Common.{refl, sym, ap, ◌∙◌}
use Rattle.engine_meaning.specs.Sizes.{instruction_asks, value_asks}
use Rattle.sheet_sizes.proofs.Bodies as bodies
use Rattle.sheet_sizes.proofs.Bodies.{first_asks, first_holds, second_decides}
use Rattle.sheet_sizes.proofs.asking.+asking.Goals as goal

pub instruction_asks-returns-in-LiteralText : goal.instruction_asks-returns-in-LiteralText
instruction_asks-returns-in-LiteralText t c = sym (ap instruction_asks c.in-LiteralText.is ∙ bodies.of_text _)

pub instruction_asks-returns-then-attributes_ask : goal.instruction_asks-returns-then-attributes_ask
instruction_asks-returns-then-attributes_ask t c = first_holds _ _ _ _ (ap instruction_asks c.in-LiteralElement.is ∙ bodies.of_element _ _ _) c.attributes_ask.ensures c.if-attributes_ask.true

pub instruction_asks-returns-else-attributes_ask : goal.instruction_asks-returns-else-attributes_ask
instruction_asks-returns-else-attributes_ask t c =
    second_decides _ _ _ _ (ap instruction_asks c.in-LiteralElement.is ∙ bodies.of_element _ _ _) (sym c.attributes_ask.ensures ∙ c.if-attributes_ask.false) c.body_asks.ensures

pub instruction_asks-returns-in-ValueOf : goal.instruction_asks-returns-in-ValueOf
instruction_asks-returns-in-ValueOf t c = c.uses_last_outside_predicates-in-ValueOf.ensures ∙ sym (bodies.of_either _ _ c.in-ValueOf.is)

pub instruction_asks-returns-in-Copy : goal.instruction_asks-returns-in-Copy
instruction_asks-returns-in-Copy t c = c.body_asks-in-Copy.ensures ∙ sym (bodies.of_body _ _ c.in-Copy.is)

pub instruction_asks-returns-then-name_asks : goal.instruction_asks-returns-then-name_asks
instruction_asks-returns-then-name_asks t c = first_holds _ _ _ _ (bodies.of_computed _ _ _ _ c.in-Element.is) c.name_asks.ensures c.if-name_asks.true

pub instruction_asks-returns-else-name_asks : goal.instruction_asks-returns-else-name_asks
instruction_asks-returns-else-name_asks t c = second_decides _ _ _ _ (bodies.of_computed _ _ _ _ c.in-Element.is) (sym c.name_asks.ensures ∙ c.if-name_asks.false) c.body_asks-else-name_asks.ensures

pub instruction_asks-returns-then-parts_ask : goal.instruction_asks-returns-then-parts_ask
instruction_asks-returns-then-parts_ask t c = first_holds _ _ _ _ (ap instruction_asks c.in-Processing.is ∙ bodies.of_processing _ _) c.parts_ask.ensures c.if-parts_ask.true

pub instruction_asks-returns-else-parts_ask : goal.instruction_asks-returns-else-parts_ask
instruction_asks-returns-else-parts_ask t c =
    second_decides _ _ _ _ (ap instruction_asks c.in-Processing.is ∙ bodies.of_processing _ _) (sym c.parts_ask.ensures ∙ c.if-parts_ask.false) c.body_asks-else-parts_ask.ensures

pub instruction_asks-returns-in-Message : goal.instruction_asks-returns-in-Message
instruction_asks-returns-in-Message t c = c.body_asks-in-Message.ensures ∙ sym (ap instruction_asks c.in-Message.is ∙ bodies.of_message _ _)

pub instruction_asks-returns-then-uses_last_outside_predicates : goal.instruction_asks-returns-then-uses_last_outside_predicates
instruction_asks-returns-then-uses_last_outside_predicates t c =
    first_holds _ _ _ _ (ap instruction_asks c.in-If.is ∙ bodies.of_if _ _) c.uses_last_outside_predicates.ensures c.if-uses_last_outside_predicates.true

pub instruction_asks-returns-else-uses_last_outside_predicates : goal.instruction_asks-returns-else-uses_last_outside_predicates
instruction_asks-returns-else-uses_last_outside_predicates t c =
    second_decides _ _ _ _ (ap instruction_asks c.in-If.is ∙ bodies.of_if _ _) (sym c.uses_last_outside_predicates.ensures ∙ c.if-uses_last_outside_predicates.false)
    c.body_asks-else-uses_last_outside_predicates.ensures

pub instruction_asks-returns-then-whens_ask : goal.instruction_asks-returns-then-whens_ask
instruction_asks-returns-then-whens_ask t c = first_asks _ _ _ (ap instruction_asks c.in-Choose.is ∙ bodies.of_choose _ _) (sym c.if-whens_ask.ensures)

pub instruction_asks-returns-in-None : goal.instruction_asks-returns-in-None
instruction_asks-returns-in-None t c = second_decides _ _ _ _ (bodies.of_cases _ _ _ c.in-Choose.is c.in-None.is) (sym c.if-whens_ask.ensures) refl

pub instruction_asks-returns-in-Some : goal.instruction_asks-returns-in-Some
instruction_asks-returns-in-Some t c = second_decides _ _ _ _ (bodies.of_all_cases _ _ _ _ c.in-Choose.is c.in-Some.is) (sym c.if-whens_ask.ensures) c.body_asks-in-Some.ensures

pub instruction_asks-returns-in-Local : goal.instruction_asks-returns-in-Local
instruction_asks-returns-in-Local t c = c.variable_asks.ensures ∙ sym (ap instruction_asks c.in-Local.is ∙ bodies.of_local _)

pub instruction_asks-returns-then-select_asks : goal.instruction_asks-returns-then-select_asks
instruction_asks-returns-then-select_asks t c = first_holds _ _ _ _ (bodies.of_applied _ _ _ _ _ c.in-Apply.is) c.select_asks.ensures c.if-select_asks.true

pub instruction_asks-returns-else-select_asks : goal.instruction_asks-returns-else-select_asks
instruction_asks-returns-else-select_asks t c = second_decides _ _ _ _ (bodies.of_applied _ _ _ _ _ c.in-Apply.is) (sym c.select_asks.ensures ∙ c.if-select_asks.false) c.variables_ask.ensures

pub instruction_asks-returns-then-select_asks-2 : goal.instruction_asks-returns-then-select_asks-2
instruction_asks-returns-then-select_asks-2 t c = first_holds _ _ _ _ (bodies.of_repeated _ _ _ _ c.in-ForEach.is) c.select_asks-in-ForEach.ensures c.if-select_asks-2.true

pub instruction_asks-returns-else-select_asks-2 : goal.instruction_asks-returns-else-select_asks-2
instruction_asks-returns-else-select_asks-2 t c =
    second_decides _ _ _ _ (bodies.of_repeated _ _ _ _ c.in-ForEach.is) (sym c.select_asks-in-ForEach.ensures ∙ c.if-select_asks-2.false) c.body_asks-else-select_asks-2.ensures

pub instruction_asks-returns-in-CallTemplate : goal.instruction_asks-returns-in-CallTemplate
instruction_asks-returns-in-CallTemplate t c = c.variables_ask-in-CallTemplate.ensures ∙ sym (ap instruction_asks c.in-CallTemplate.is ∙ bodies.of_call _ _)

pub value_asks-returns-in-Select : goal.value_asks-returns-in-Select
value_asks-returns-in-Select t c = c.uses_last_outside_predicates.ensures ∙ sym (ap value_asks c.in-Select.is ∙ bodies.of_select _)

pub value_asks-returns-in-Content : goal.value_asks-returns-in-Content
value_asks-returns-in-Content t c = c.body_asks.ensures ∙ sym (ap value_asks c.in-Content.is ∙ bodies.of_content _)

pub value_asks-returns-in-Empty : goal.value_asks-returns-in-Empty
value_asks-returns-in-Empty t c = sym (ap value_asks c.in-Empty.is ∙ bodies.of_nothing)

pub variable_asks-returns : goal.variable_asks-returns
variable_asks-returns t c = c.value_asks.ensures ∙ sym (bodies.of_variable c.args.variable.now)

pub when_asks-returns-then-uses_last_outside_predicates : goal.when_asks-returns-then-uses_last_outside_predicates
when_asks-returns-then-uses_last_outside_predicates t c = first_holds _ _ _ _ (bodies.of_when c.args.when.now) c.uses_last_outside_predicates.ensures c.if-uses_last_outside_predicates.true

pub when_asks-returns-else-uses_last_outside_predicates : goal.when_asks-returns-else-uses_last_outside_predicates
when_asks-returns-else-uses_last_outside_predicates t c =
    second_decides _ _ _ _ (bodies.of_when c.args.when.now) (sym c.uses_last_outside_predicates.ensures ∙ c.if-uses_last_outside_predicates.false) c.body_asks.ensures
