use Rattle.std.proofs.Common.{◌≡◌, sym, ap, ◌∙◌}
use Rattle.std.proofs.lemmas.List.{append-nil}
use Rattle.sheet_graph.specs.Mentions.{instruction_mentions, value_mentions}
use Rattle.sheet_circles.proofs.Contents as contents
use Rattle.sheet_circles.proofs.Naming.{one_named, two_named, three_named, four_named}
use Rattle.sheet_circles.proofs.Operands.{if_ok}
use Rattle.sheet_circles.proofs.bodies.+bodies.Goals as goal

pub name_instruction-returns-in-LiteralText : goal.name_instruction-returns-in-LiteralText
name_instruction-returns-in-LiteralText t c =
    one_named c.args.sheet.now _ _ _ _ (ap instruction_mentions c.in-LiteralText.is ∙ contents.of_text _) (sym (append-nil c.args.names.now))

pub name_instruction-returns-in_ok-name_attributes-in-LiteralElement : goal.name_instruction-returns-in_ok-name_attributes-in-LiteralElement
name_instruction-returns-in_ok-name_attributes-in-LiteralElement t c = if_ok c.name_body.result c.name_body.ensures
    (two_named c.args.sheet.now _ _ _ _ _ _ (ap instruction_mentions c.in-LiteralElement.is ∙ contents.of_element _ _ _) c.in_ok-name_attributes-in-LiteralElement.ensures)

pub name_instruction-returns-in_ok-name_parts-in-Processing : goal.name_instruction-returns-in_ok-name_parts-in-Processing
name_instruction-returns-in_ok-name_parts-in-Processing t c = if_ok c.name_body-in-Processing.result c.name_body-in-Processing.ensures
    (two_named c.args.sheet.now _ _ _ _ _ _ (ap instruction_mentions c.in-Processing.is ∙ contents.of_processing _ _) c.in_ok-name_parts-in-Processing.ensures)

pub name_instruction-returns-in-Message : goal.name_instruction-returns-in-Message
name_instruction-returns-in-Message t c = if_ok c.name_body-in-Message.result c.name_body-in-Message.ensures
    (one_named c.args.sheet.now _ _ _ _ (ap instruction_mentions c.in-Message.is ∙ contents.of_message _ _))

pub name_instruction-returns-in_ok-name_expression-in-If : goal.name_instruction-returns-in_ok-name_expression-in-If
name_instruction-returns-in_ok-name_expression-in-If t c = if_ok c.name_body-in-If.result c.name_body-in-If.ensures
    (two_named c.args.sheet.now _ _ _ _ _ _ (ap instruction_mentions c.in-If.is ∙ contents.of_if _ _) c.in_ok-name_expression-in-If.ensures)

pub name_instruction-returns-in-Local : goal.name_instruction-returns-in-Local
name_instruction-returns-in-Local t c = if_ok c.name_variable.result c.name_variable.ensures
    (one_named c.args.sheet.now _ _ _ _ (ap instruction_mentions c.in-Local.is ∙ contents.of_local _))

pub name_instruction-returns-in_ok-name_variables-in-Apply : goal.name_instruction-returns-in_ok-name_variables-in-Apply
name_instruction-returns-in_ok-name_variables-in-Apply t c = if_ok c.name_mode.result c.name_mode.ensures
    (four_named c.args.sheet.now _ _ _ _ _ _ _ _ _ _ (ap instruction_mentions c.in-Apply.is ∙ contents.of_apply _ _ _ _) c.in_ok-name_expression-in-Apply.ensures
    c.in_ok-name_sorts-in-Apply.ensures c.in_ok-name_variables-in-Apply.ensures)

pub name_instruction-returns-in_ok-name_sorts-in-ForEach : goal.name_instruction-returns-in_ok-name_sorts-in-ForEach
name_instruction-returns-in_ok-name_sorts-in-ForEach t c = if_ok c.name_body-in-ForEach.result c.name_body-in-ForEach.ensures
    (three_named c.args.sheet.now _ _ _ _ _ _ _ _ (ap instruction_mentions c.in-ForEach.is ∙ contents.of_for_each _ _ _) c.in_ok-name_expression-in-ForEach.ensures
    c.in_ok-name_sorts-in-ForEach.ensures)

pub name_instruction-returns-in_ok-name_variables-in-CallTemplate : goal.name_instruction-returns-in_ok-name_variables-in-CallTemplate
name_instruction-returns-in_ok-name_variables-in-CallTemplate t c = if_ok c.name_template.result c.name_template.ensures
    (two_named c.args.sheet.now _ _ _ _ _ _ (ap instruction_mentions c.in-CallTemplate.is ∙ contents.of_call _ _) c.in_ok-name_variables-in-CallTemplate.ensures)

pub name_instruction-returns-in_ok-name_some_parts-in-Element : goal.name_instruction-returns-in_ok-name_some_parts-in-Element
name_instruction-returns-in_ok-name_some_parts-in-Element t c = if_ok c.name_body-in-Element.result c.name_body-in-Element.ensures
    (three_named c.args.sheet.now _ _ _ _ _ _ _ _ (contents.of_computed _ _ _ _ c.in-Element.is) c.in_ok-name_parts-in-Element.ensures c.in_ok-name_some_parts-in-Element.ensures)

pub name_instruction-returns-in-Copy : goal.name_instruction-returns-in-Copy
name_instruction-returns-in-Copy t c = if_ok c.name_body-in-Copy.result c.name_body-in-Copy.ensures (one_named c.args.sheet.now _ _ _ _ (contents.of_body _ _ c.in-Copy.is))

pub name_instruction-returns-in-ValueOf : goal.name_instruction-returns-in-ValueOf
name_instruction-returns-in-ValueOf t c =
    if_ok c.name_expression-in-ValueOf.result c.name_expression-in-ValueOf.ensures (one_named c.args.sheet.now _ _ _ _ (contents.of_either _ _ c.in-ValueOf.is))

pub name_value-returns-in-Select : goal.name_value-returns-in-Select
name_value-returns-in-Select t c = if_ok c.name_expression.result c.name_expression.ensures
    (one_named c.args.sheet.now _ _ _ _ (ap value_mentions c.in-Select.is ∙ contents.of_select _))

pub name_value-returns-in-Content : goal.name_value-returns-in-Content
name_value-returns-in-Content t c = if_ok c.name_body.result c.name_body.ensures (one_named c.args.sheet.now _ _ _ _ (ap value_mentions c.in-Content.is ∙ contents.of_content _))

pub name_value-returns-in-Empty : goal.name_value-returns-in-Empty
name_value-returns-in-Empty t c = one_named c.args.sheet.now _ _ _ _ (ap value_mentions c.in-Empty.is ∙ contents.of_nothing) (sym (append-nil c.args.names.now))

pub name_variable-returns : goal.name_variable-returns
name_variable-returns t c = if_ok c.name_value.result c.name_value.ensures (one_named c.args.sheet.now _ _ _ _ (contents.of_variable c.args.variable.now))

pub name_when-returns : goal.name_when-returns
name_when-returns t c = if_ok c.name_body.result c.name_body.ensures
    (two_named c.args.sheet.now _ _ _ _ _ _ (contents.of_when c.args.when.now) c.in_ok-name_expression.ensures)

pub name_instruction-returns-in-None : goal.name_instruction-returns-in-None
name_instruction-returns-in-None t c =
    one_named c.args.sheet.now _ _ _ _ (contents.of_cases _ _ _ c.in-Choose.is c.in-None.is) c.in_ok-name_whens-in-Choose.ensures

pub name_instruction-returns-in-Some : goal.name_instruction-returns-in-Some
name_instruction-returns-in-Some t c = if_ok c.name_body-in-Some.result c.name_body-in-Some.ensures
    (two_named c.args.sheet.now _ _ _ _ _ _ (contents.of_all_cases _ _ _ _ c.in-Choose.is c.in-Some.is) c.in_ok-name_whens-in-Choose.ensures)
