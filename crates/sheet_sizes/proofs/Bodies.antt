-- The equations of what instructions ask for.
use Rattle.std.proofs.Common.{◌≡◌, refl, sym, ap, ◌∙◌, ℕ, Bool, false, true, List, [], ◌∷◌, map, Option, Some, None, ◌⊎◌, inl, inr}
use Rattle.std.specs.Prelude.{◌||◌}
use Rattle.std.proofs.Math.Bool.{or_assoc}
use Rattle.std.specs.List.{list_any}
use Rattle.sheet_ast.specs.declared.instruction.Instruction.{Instruction, out-Instruction}
use Rattle.sheet_ast.specs.declared.instruction.Instruction.TheFolds.{map-Instruction, map-VarValue, fold_out-Instruction, fold_out-VarValue, fold_out-Variable, fold_out-When}
use Rattle.sheet_ast.specs.declared.instruction.Instruction.TheOpen.{Instruction-F, VarValue-F}
use Rattle.sheet_ast.specs.declared.instruction.LiteralAttr.{LiteralAttr}
use Rattle.sheet_ast.specs.declared.instruction.SortDecl.{SortDecl}
use Rattle.sheet_ast.specs.declared.instruction.VarValue.{VarValue, out-VarValue}
use Rattle.sheet_ast.specs.declared.instruction.VarValue.TheVariants as v
use Rattle.sheet_ast.specs.declared.instruction.VarValue.TheVariants.{outs-Select, outs-Content, outs-Empty}
use Rattle.sheet_ast.specs.declared.instruction.Variable.{Variable, out-Variable}
use Rattle.sheet_ast.specs.declared.instruction.When.{When, out-When}
use Rattle.sheet_ast.specs.declared.instruction.Instruction.TheVariants as i
use Rattle.sheet_ast.specs.declared.instruction.Instruction.TheVariants.{outs-LiteralText, outs-LiteralElement, outs-ValueOf, outs-CopyOf, outs-Copy, outs-Element, outs-Attribute, outs-Processing}
use Rattle.sheet_ast.specs.declared.instruction.Instruction.TheVariants.{outs-Comment, outs-Message, outs-If, outs-Choose, outs-Local, outs-Apply, outs-ForEach, outs-CallTemplate}
use Rattle.xpath_chains.specs.Mentions.{any, last_outside}
use Rattle.xpath_syntax.specs.declared.expression.Expr.{Expr}
use Rattle.xpath_syntax.specs.declared.expression.NameRef.{NameRef}
use Rattle.xpath_syntax.specs.declared.pattern.Part.{Part}
use Rattle.engine_meaning.specs.Sizes.{layer_asks, value_layer_asks, variable_layer_asks, when_layer_asks, instruction_asks}
use Rattle.engine_meaning.specs.Sizes.{variable_asks, value_asks, attribute_asks, sort_asks, parts_ask, some_parts_ask}
use Rattle.sheet_sizes.specs.Contents.{when_asks, otherwise_asks}

by_layer : (x : Instruction) (y : Instruction-F Instruction VarValue Variable When) → out-Instruction x ≡ y
    → instruction_asks x ≡ layer_asks (map-Instruction Instruction VarValue Variable When Bool Bool Bool Bool instruction_asks value_asks variable_asks when_asks y)
unfolding instruction_asks value_asks variable_asks when_asks
by_layer x y is = fold_out-Instruction Bool Bool Bool Bool layer_asks value_layer_asks variable_layer_asks when_layer_asks x
    ∙ ap (λ z. layer_asks (map-Instruction Instruction VarValue Variable When Bool Bool Bool Bool instruction_asks value_asks variable_asks when_asks z)) is

any_map : {A : Type 0} (f : A → Bool) (xs : List A) → any (map f xs) ≡ list_any f xs
any_map f [] = refl
any_map f (x ∷ xs) = ap (λ b. f x || b) (any_map f xs)

or_any : {A : Type 0} (b : Bool) (f : A → Bool) (xs : List A) → (b || any (map f xs)) ≡ (b || list_any f xs)
or_any b f xs = ap (λ c. b || c) (any_map f xs)

or_or_any : {A : Type 0} (a b : Bool) (f : A → Bool) (xs : List A) → (a || (b || any (map f xs))) ≡ (a || (b || list_any f xs))
or_or_any a b f xs = ap (λ c. a || c) (or_any b f xs)

pub of_text : (text : List ℕ) → instruction_asks (i.LiteralText text) ≡ false
of_text text = by_layer _ _ (outs-LiteralText text)

pub of_element : (name : NameRef) (attributes : List LiteralAttr) (body : List Instruction)
    → instruction_asks (i.LiteralElement name attributes body) ≡ (list_any attribute_asks attributes || list_any instruction_asks body)
of_element name attributes body = by_layer _ _ (outs-LiteralElement name attributes body) ∙ or_any _ instruction_asks body

pub of_value_of : (select : Expr) → instruction_asks (i.ValueOf select) ≡ last_outside select
of_value_of select = by_layer _ _ (outs-ValueOf select)

pub of_copy_of : (select : Expr) → instruction_asks (i.CopyOf select) ≡ last_outside select
of_copy_of select = by_layer _ _ (outs-CopyOf select)

pub of_copy : (body : List Instruction) → instruction_asks (i.Copy body) ≡ list_any instruction_asks body
of_copy body = by_layer _ _ (outs-Copy body) ∙ any_map instruction_asks body

pub of_computed_element : (name : List Part) (namespace : Option (List Part)) (scopes : ℕ) (body : List Instruction)
    → instruction_asks (i.Element name namespace scopes body) ≡ (parts_ask name || (some_parts_ask namespace || list_any instruction_asks body))
of_computed_element name None scopes body = by_layer _ _ (outs-Element name None scopes body) ∙ or_or_any (parts_ask name) false instruction_asks body
of_computed_element name (Some parts) scopes body = by_layer _ _ (outs-Element name (Some parts) scopes body) ∙ or_or_any (parts_ask name) (parts_ask parts) instruction_asks body

pub of_attribute : (name : List Part) (namespace : Option (List Part)) (scopes : ℕ) (body : List Instruction)
    → instruction_asks (i.Attribute name namespace scopes body) ≡ (parts_ask name || (some_parts_ask namespace || list_any instruction_asks body))
of_attribute name None scopes body = by_layer _ _ (outs-Attribute name None scopes body) ∙ or_or_any (parts_ask name) false instruction_asks body
of_attribute name (Some parts) scopes body = by_layer _ _ (outs-Attribute name (Some parts) scopes body) ∙ or_or_any (parts_ask name) (parts_ask parts) instruction_asks body

pub of_processing : (name : List Part) (body : List Instruction) → instruction_asks (i.Processing name body) ≡ (parts_ask name || list_any instruction_asks body)
of_processing name body = by_layer _ _ (outs-Processing name body) ∙ or_any _ instruction_asks body

pub of_comment : (body : List Instruction) → instruction_asks (i.Comment body) ≡ list_any instruction_asks body
of_comment body = by_layer _ _ (outs-Comment body) ∙ any_map instruction_asks body

pub of_message : (terminate : Bool) (body : List Instruction) → instruction_asks (i.Message terminate body) ≡ list_any instruction_asks body
of_message terminate body = by_layer _ _ (outs-Message terminate body) ∙ any_map instruction_asks body

pub of_if : (test : Expr) (body : List Instruction) → instruction_asks (i.If test body) ≡ (last_outside test || list_any instruction_asks body)
of_if test body = by_layer _ _ (outs-If test body) ∙ or_any _ instruction_asks body

pub of_choose : (whens : List When) (otherwise : Option (List Instruction)) → instruction_asks (i.Choose whens otherwise) ≡ (list_any when_asks whens || otherwise_asks otherwise)
of_choose whens None = by_layer _ _ (outs-Choose whens None) ∙ ap (λ b. b || false) (any_map when_asks whens)
of_choose whens (Some body) =
    by_layer _ _ (outs-Choose whens (Some body)) ∙ or_any _ instruction_asks body ∙ ap (λ b. b || list_any instruction_asks body) (any_map when_asks whens)

pub of_local : (variable : Variable) → instruction_asks (i.Local variable) ≡ variable_asks variable
of_local variable = by_layer _ _ (outs-Local variable)

pub of_apply : (select : Expr) (mode : ℕ) (sorts : List SortDecl) (params : List Variable)
    → instruction_asks (i.Apply select mode sorts params) ≡ (last_outside select || (list_any sort_asks sorts || list_any variable_asks params))
of_apply select mode sorts params = by_layer _ _ (outs-Apply select mode sorts params) ∙ or_or_any (last_outside select) (list_any sort_asks sorts) variable_asks params

pub of_for_each : (select : Expr) (sorts : List SortDecl) (body : List Instruction)
    → instruction_asks (i.ForEach select sorts body) ≡ (last_outside select || (list_any sort_asks sorts || list_any instruction_asks body))
of_for_each select sorts body = by_layer _ _ (outs-ForEach select sorts body) ∙ or_or_any (last_outside select) (list_any sort_asks sorts) instruction_asks body

pub of_call : (template : ℕ) (params : List Variable) → instruction_asks (i.CallTemplate template params) ≡ list_any variable_asks params
of_call template params = by_layer _ _ (outs-CallTemplate template params) ∙ any_map variable_asks params

pub of_variable : (variable : Variable) → variable_asks variable ≡ value_asks (out-Variable variable).value
unfolding instruction_asks value_asks variable_asks when_asks
of_variable variable = fold_out-Variable Bool Bool Bool Bool layer_asks value_layer_asks variable_layer_asks when_layer_asks variable

pub of_when : (when : When) → when_asks when ≡ (last_outside (out-When when).test || list_any instruction_asks (out-When when).body)
unfolding instruction_asks value_asks variable_asks when_asks
of_when when = fold_out-When Bool Bool Bool Bool layer_asks value_layer_asks variable_layer_asks when_layer_asks when ∙ or_any _ instruction_asks (out-When when).body

value_by_layer : (x : VarValue) (y : VarValue-F Instruction VarValue Variable When) → out-VarValue x ≡ y
    → value_asks x ≡ value_layer_asks (map-VarValue Instruction VarValue Variable When Bool Bool Bool Bool instruction_asks value_asks variable_asks when_asks y)
unfolding instruction_asks value_asks variable_asks when_asks
value_by_layer x y is = fold_out-VarValue Bool Bool Bool Bool layer_asks value_layer_asks variable_layer_asks when_layer_asks x
    ∙ ap (λ z. value_layer_asks (map-VarValue Instruction VarValue Variable When Bool Bool Bool Bool instruction_asks value_asks variable_asks when_asks z)) is

pub of_select : (select : Expr) → value_asks (v.Select select) ≡ last_outside select
of_select select = value_by_layer _ _ (outs-Select select)

pub of_content : (body : List Instruction) → value_asks (v.Content body) ≡ list_any instruction_asks body
of_content body = value_by_layer _ _ (outs-Content body) ∙ any_map instruction_asks body

pub of_nothing : value_asks v.Empty ≡ false
of_nothing = value_by_layer _ _ outs-Empty

-- what asks by its first part, or by its second
pub first_asks : (whole a b : Bool) → whole ≡ (a || b) → a ≡ true → true ≡ whole
first_asks whole a b is h = sym (is ∙ ap (λ c. c || b) h)

pub first_holds : (whole a b r : Bool) → whole ≡ (a || b) → r ≡ a → r ≡ true → r ≡ whole
first_holds whole a b r is same h = h ∙ first_asks whole a b is (sym same ∙ h)

pub second_decides : (whole a b r : Bool) → whole ≡ (a || b) → a ≡ false → r ≡ b → r ≡ whole
second_decides whole a b r is h same = same ∙ sym (is ∙ ap (λ c. c || b) h)

-- one of two instructions with the same parts
pub of_computed : (x : Instruction) (name : List Part) (namespace : Option (List Part)) (body : List Instruction)
    → ((scopes : ℕ) × (x ≡ i.Element name namespace scopes body)) ⊎ ((scopes : ℕ) × (x ≡ i.Attribute name namespace scopes body))
    → instruction_asks x ≡ ((parts_ask name || some_parts_ask namespace) || list_any instruction_asks body)
of_computed x name namespace body (inl is) =
    ap instruction_asks is.1 ∙ of_computed_element name namespace is.0 body ∙ sym (or_assoc (parts_ask name) (some_parts_ask namespace) (list_any instruction_asks body))
of_computed x name namespace body (inr is) =
    ap instruction_asks is.1 ∙ of_attribute name namespace is.0 body ∙ sym (or_assoc (parts_ask name) (some_parts_ask namespace) (list_any instruction_asks body))

pub of_body : (x : Instruction) (body : List Instruction) → (x ≡ i.Copy body) ⊎ (x ≡ i.Comment body) → instruction_asks x ≡ list_any instruction_asks body
of_body x body (inl is) = ap instruction_asks is ∙ of_copy body
of_body x body (inr is) = ap instruction_asks is ∙ of_comment body

pub of_either : (x : Instruction) (select : Expr) → (x ≡ i.ValueOf select) ⊎ (x ≡ i.CopyOf select) → instruction_asks x ≡ last_outside select
of_either x select (inl is) = ap instruction_asks is ∙ of_value_of select
of_either x select (inr is) = ap instruction_asks is ∙ of_copy_of select

pub of_applied : (x : Instruction) (select : Expr) (mode : ℕ) (sorts : List SortDecl) (params : List Variable) → x ≡ i.Apply select mode sorts params
    → instruction_asks x ≡ ((last_outside select || list_any sort_asks sorts) || list_any variable_asks params)
of_applied x select mode sorts params is =
    ap instruction_asks is ∙ of_apply select mode sorts params ∙ sym (or_assoc (last_outside select) (list_any sort_asks sorts) (list_any variable_asks params))

pub of_repeated : (x : Instruction) (select : Expr) (sorts : List SortDecl) (body : List Instruction) → x ≡ i.ForEach select sorts body
    → instruction_asks x ≡ ((last_outside select || list_any sort_asks sorts) || list_any instruction_asks body)
of_repeated x select sorts body is =
    ap instruction_asks is ∙ of_for_each select sorts body ∙ sym (or_assoc (last_outside select) (list_any sort_asks sorts) (list_any instruction_asks body))

pub of_cases : (x : Instruction) (whens : List When) (otherwise : Option (List Instruction)) → x ≡ i.Choose whens otherwise → otherwise ≡ None
    → instruction_asks x ≡ (list_any when_asks whens || false)
of_cases x whens otherwise is none = ap instruction_asks is ∙ of_choose whens otherwise ∙ ap (λ o. list_any when_asks whens || otherwise_asks o) none

pub of_all_cases : (x : Instruction) (whens : List When) (otherwise : Option (List Instruction)) (body : List Instruction) → x ≡ i.Choose whens otherwise → otherwise ≡ Some body
    → instruction_asks x ≡ (list_any when_asks whens || list_any instruction_asks body)
of_all_cases x whens otherwise body is some = ap instruction_asks is ∙ of_choose whens otherwise ∙ ap (λ o. list_any when_asks whens || otherwise_asks o) some
