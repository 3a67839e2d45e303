-- The equations of what instructions mention.
use Rattle.std.proofs.Common.{◌≡◌, refl, ap, ◌∙◌, ℕ, Bool, List, [], ◌∷◌, ◌++◌, map, Option, Some, None, ◌⊎◌, inl, inr}
use Rattle.std.specs.List.{flat_map}
use Rattle.std.proofs.lemmas.List.{append-nil}
use Rattle.sheet_ast.specs.declared.instruction.Instruction.{Instruction, out-Instruction}
use Rattle.sheet_ast.specs.declared.instruction.Instruction.TheFolds.{map-Instruction, map-VarValue, map-Variable, map-When, fold_out-Instruction, fold_out-VarValue, fold_out-Variable, fold_out-When}
use Rattle.sheet_ast.specs.declared.instruction.Instruction.TheOpen.{Instruction-F, VarValue-F}
use Rattle.sheet_ast.specs.declared.instruction.LiteralAttr.{LiteralAttr}
use Rattle.sheet_ast.specs.declared.instruction.SortDecl.{SortDecl}
use Rattle.sheet_ast.specs.declared.instruction.VarValue.{VarValue, out-VarValue}
use Rattle.sheet_ast.specs.declared.instruction.Variable.{Variable, out-Variable}
use Rattle.sheet_ast.specs.declared.instruction.When.{When, out-When}
use Rattle.sheet_ast.specs.declared.instruction.Instruction.TheVariants as i
use Rattle.sheet_ast.specs.declared.instruction.Instruction.TheVariants.{outs-LiteralText, outs-LiteralElement, outs-ValueOf, outs-CopyOf, outs-Copy, outs-Element, outs-Attribute, outs-Processing}
use Rattle.sheet_ast.specs.declared.instruction.Instruction.TheVariants.{outs-Comment, outs-Message, outs-If, outs-Choose, outs-Local, outs-Apply, outs-ForEach, outs-CallTemplate}
use Rattle.sheet_ast.specs.declared.instruction.VarValue.TheVariants as v
use Rattle.sheet_ast.specs.declared.instruction.VarValue.TheVariants.{outs-Select, outs-Content, outs-Empty}
use Rattle.xpath_syntax.specs.declared.expression.Expr.{Expr}
use Rattle.xpath_syntax.specs.declared.expression.NameRef.{NameRef}
use Rattle.xpath_syntax.specs.declared.pattern.Part.{Part}
use Rattle.sheet_graph.specs.Mentions.{Mentions, OfMode, OfTemplate, joined, instruction_layer, value_layer, variable_layer, when_layer, instruction_mentions, value_mentions, variable_mentions}
use Rattle.sheet_graph.specs.Mentions.{attribute_mentions, sort_mentions, parts_mention, some_parts_mention, expr_mentions}
use Rattle.sheet_circles.specs.Contents.{when_mentions, otherwise_mentions}
use Rattle.sheet_circles.proofs.Equations.{joined_map}

by_layer : (x : Instruction) (y : Instruction-F Instruction VarValue Variable When) → out-Instruction x ≡ y
    → instruction_mentions x ≡ instruction_layer
    (map-Instruction Instruction VarValue Variable When Mentions Mentions Mentions Mentions instruction_mentions value_mentions variable_mentions when_mentions y)
unfolding instruction_mentions value_mentions variable_mentions when_mentions
by_layer x y is = fold_out-Instruction Mentions Mentions Mentions Mentions instruction_layer value_layer variable_layer when_layer x
    ∙ ap (λ z. instruction_layer (map-Instruction Instruction VarValue Variable When Mentions Mentions Mentions Mentions instruction_mentions value_mentions variable_mentions when_mentions z)) is

-- what a body mentions behind something else
behind : (m : Mentions) (body : List Instruction) → m ++ joined (map instruction_mentions body) ≡ m ++ flat_map instruction_mentions body
behind m body = ap (λ more. m ++ more) (joined_map instruction_mentions body)

pub of_text : (text : List ℕ) → instruction_mentions (i.LiteralText text) ≡ []
of_text text = by_layer _ _ (outs-LiteralText text)

pub of_element : (name : NameRef) (attributes : List LiteralAttr) (body : List Instruction)
    → instruction_mentions (i.LiteralElement name attributes body) ≡ flat_map attribute_mentions attributes ++ flat_map instruction_mentions body
of_element name attributes body = by_layer _ _ (outs-LiteralElement name attributes body) ∙ behind _ body

pub of_value_of : (select : Expr) → instruction_mentions (i.ValueOf select) ≡ expr_mentions select
of_value_of select = by_layer _ _ (outs-ValueOf select)

pub of_copy_of : (select : Expr) → instruction_mentions (i.CopyOf select) ≡ expr_mentions select
of_copy_of select = by_layer _ _ (outs-CopyOf select)

pub of_copy : (body : List Instruction) → instruction_mentions (i.Copy body) ≡ flat_map instruction_mentions body
of_copy body = by_layer _ _ (outs-Copy body) ∙ joined_map instruction_mentions body

pub of_computed_element : (name : List Part) (namespace : Option (List Part)) (scopes : ℕ) (body : List Instruction)
    → instruction_mentions (i.Element name namespace scopes body) ≡ parts_mention name ++ some_parts_mention namespace ++ flat_map instruction_mentions body
of_computed_element name None scopes body = by_layer _ _ (outs-Element name None scopes body) ∙ behind _ body
of_computed_element name (Some parts) scopes body = by_layer _ _ (outs-Element name (Some parts) scopes body) ∙ behind _ body

pub of_attribute : (name : List Part) (namespace : Option (List Part)) (scopes : ℕ) (body : List Instruction)
    → instruction_mentions (i.Attribute name namespace scopes body) ≡ parts_mention name ++ some_parts_mention namespace ++ flat_map instruction_mentions body
of_attribute name None scopes body = by_layer _ _ (outs-Attribute name None scopes body) ∙ behind _ body
of_attribute name (Some parts) scopes body = by_layer _ _ (outs-Attribute name (Some parts) scopes body) ∙ behind _ body

pub of_processing : (name : List Part) (body : List Instruction) → instruction_mentions (i.Processing name body) ≡ parts_mention name ++ flat_map instruction_mentions body
of_processing name body = by_layer _ _ (outs-Processing name body) ∙ behind _ body

pub of_comment : (body : List Instruction) → instruction_mentions (i.Comment body) ≡ flat_map instruction_mentions body
of_comment body = by_layer _ _ (outs-Comment body) ∙ joined_map instruction_mentions body

pub of_message : (terminate : Bool) (body : List Instruction) → instruction_mentions (i.Message terminate body) ≡ flat_map instruction_mentions body
of_message terminate body = by_layer _ _ (outs-Message terminate body) ∙ joined_map instruction_mentions body

pub of_if : (test : Expr) (body : List Instruction) → instruction_mentions (i.If test body) ≡ expr_mentions test ++ flat_map instruction_mentions body
of_if test body = by_layer _ _ (outs-If test body) ∙ behind _ body

pub of_choose : (whens : List When) (otherwise : Option (List Instruction))
    → instruction_mentions (i.Choose whens otherwise) ≡ flat_map when_mentions whens ++ otherwise_mentions otherwise
of_choose whens None = by_layer _ _ (outs-Choose whens None) ∙ ap (λ m. m ++ []) (joined_map when_mentions whens)
of_choose whens (Some body) =
    by_layer _ _ (outs-Choose whens (Some body)) ∙ behind _ body ∙ ap (λ m. m ++ flat_map instruction_mentions body) (joined_map when_mentions whens)

pub of_local : (variable : Variable) → instruction_mentions (i.Local variable) ≡ variable_mentions variable
of_local variable = by_layer _ _ (outs-Local variable)

pub of_apply : (select : Expr) (mode : ℕ) (sorts : List SortDecl) (params : List Variable)
    → instruction_mentions (i.Apply select mode sorts params) ≡ expr_mentions select ++ flat_map sort_mentions sorts ++ flat_map variable_mentions params ++ OfMode mode ∷ []
of_apply select mode sorts params = by_layer _ _ (outs-Apply select mode sorts params)
    ∙ ap (λ m. expr_mentions select ++ flat_map sort_mentions sorts ++ m ++ OfMode mode ∷ []) (joined_map variable_mentions params)

pub of_for_each : (select : Expr) (sorts : List SortDecl) (body : List Instruction)
    → instruction_mentions (i.ForEach select sorts body) ≡ expr_mentions select ++ flat_map sort_mentions sorts ++ flat_map instruction_mentions body
of_for_each select sorts body = by_layer _ _ (outs-ForEach select sorts body) ∙ behind _ body

pub of_call : (template : ℕ) (params : List Variable) → instruction_mentions (i.CallTemplate template params) ≡ flat_map variable_mentions params ++ OfTemplate template ∷ []
of_call template params = by_layer _ _ (outs-CallTemplate template params) ∙ ap (λ m. m ++ OfTemplate template ∷ []) (joined_map variable_mentions params)

pub of_variable : (variable : Variable) → variable_mentions variable ≡ value_mentions (out-Variable variable).value
unfolding instruction_mentions value_mentions variable_mentions when_mentions
of_variable variable = fold_out-Variable Mentions Mentions Mentions Mentions instruction_layer value_layer variable_layer when_layer variable

pub of_when : (when : When) → when_mentions when ≡ expr_mentions (out-When when).test ++ flat_map instruction_mentions (out-When when).body
unfolding instruction_mentions value_mentions variable_mentions when_mentions
of_when when = fold_out-When Mentions Mentions Mentions Mentions instruction_layer value_layer variable_layer when_layer when ∙ behind _ (out-When when).body

value_by_layer : (x : VarValue) (y : VarValue-F Instruction VarValue Variable When) → out-VarValue x ≡ y
    → value_mentions x ≡ value_layer (map-VarValue Instruction VarValue Variable When Mentions Mentions Mentions Mentions instruction_mentions value_mentions variable_mentions when_mentions y)
unfolding instruction_mentions value_mentions variable_mentions when_mentions
value_by_layer x y is = fold_out-VarValue Mentions Mentions Mentions Mentions instruction_layer value_layer variable_layer when_layer x
    ∙ ap (λ z. value_layer (map-VarValue Instruction VarValue Variable When Mentions Mentions Mentions Mentions instruction_mentions value_mentions variable_mentions when_mentions z)) is

pub of_select : (select : Expr) → value_mentions (v.Select select) ≡ expr_mentions select
of_select select = value_by_layer _ _ (outs-Select select)

pub of_content : (body : List Instruction) → value_mentions (v.Content body) ≡ flat_map instruction_mentions body
of_content body = value_by_layer _ _ (outs-Content body) ∙ joined_map instruction_mentions body

pub of_nothing : value_mentions v.Empty ≡ []
of_nothing = value_by_layer _ _ outs-Empty

-- one of two instructions with the same parts
pub of_computed : (x : Instruction) (name : List Part) (namespace : Option (List Part)) (body : List Instruction)
    → ((scopes : ℕ) × (x ≡ i.Element name namespace scopes body)) ⊎ ((scopes : ℕ) × (x ≡ i.Attribute name namespace scopes body))
    → instruction_mentions x ≡ parts_mention name ++ some_parts_mention namespace ++ flat_map instruction_mentions body
of_computed x name namespace body (inl is) = ap instruction_mentions is.1 ∙ of_computed_element name namespace is.0 body
of_computed x name namespace body (inr is) = ap instruction_mentions is.1 ∙ of_attribute name namespace is.0 body

pub of_body : (x : Instruction) (body : List Instruction) → (x ≡ i.Copy body) ⊎ (x ≡ i.Comment body) → instruction_mentions x ≡ flat_map instruction_mentions body
of_body x body (inl is) = ap instruction_mentions is ∙ of_copy body
of_body x body (inr is) = ap instruction_mentions is ∙ of_comment body

pub of_either : (x : Instruction) (select : Expr) → (x ≡ i.ValueOf select) ⊎ (x ≡ i.CopyOf select) → instruction_mentions x ≡ expr_mentions select
of_either x select (inl is) = ap instruction_mentions is ∙ of_value_of select
of_either x select (inr is) = ap instruction_mentions is ∙ of_copy_of select

pub of_cases : (x : Instruction) (whens : List When) (otherwise : Option (List Instruction)) → x ≡ i.Choose whens otherwise → otherwise ≡ None
    → instruction_mentions x ≡ flat_map when_mentions whens
of_cases x whens otherwise is none =
    ap instruction_mentions is ∙ of_choose whens otherwise ∙ ap (λ o. flat_map when_mentions whens ++ otherwise_mentions o) none ∙ append-nil (flat_map when_mentions whens)

pub of_all_cases : (x : Instruction) (whens : List When) (otherwise : Option (List Instruction)) (body : List Instruction) → x ≡ i.Choose whens otherwise → otherwise ≡ Some body
    → instruction_mentions x ≡ flat_map when_mentions whens ++ flat_map instruction_mentions body
of_all_cases x whens otherwise body is some =
    ap instruction_mentions is ∙ of_choose whens otherwise ∙ ap (λ o. flat_map when_mentions whens ++ otherwise_mentions o) some
