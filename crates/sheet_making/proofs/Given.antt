-- What an attribute gives, where it is there and where it is missing.
use Rattle.std.proofs.Common.{◌≡◌, sym, ap, ◌∙◌, subst, List, [], Option, Some, None, Result}
use Rattle.std.specs.Prelude.{IfOk, option_map, unwrap_or}
use Rattle.sheet_elements.specs.declared.tag.Word.{Word}
use Rattle.sheet_names.specs.Values.{first_value}
use Rattle.sheet_reading.specs.declared.tree.Given.{Given}
use Rattle.xpath_syntax.specs.declared.expression.Expr.{Expr}
use Rattle.xpath_syntax.specs.declared.pattern.Part.{Part}
use Rattle.sheet_making.specs.Attributes.{expression_in, expression_or, ready, ready_parts, some_template, template, template_in}
use Rattle.sheet_making.specs.Scopes.{Scope}

pub with_expression : {E : Type 0} (missing : Expr) (S : Scope) (w : Word) (given : List Given) (e : Expr) (r : Result Expr E) → first_value expression_in w given ≡ Some e
    → IfOk r (λ (made : Expr). made ≡ ready S e) → IfOk r (λ (made : Expr). made ≡ expression_or missing S w given)
with_expression missing S w given e r is h = subst (λ (o : Option Expr). IfOk r (λ (made : Expr). made ≡ ready S (unwrap_or o missing))) (sym is) h

pub without_expression : {E : Type 0} (missing : Expr) (S : Scope) (w : Word) (given : List Given) (e : Expr) (r : Result Expr E) → first_value expression_in w given ≡ None → e ≡ missing
    → IfOk r (λ (made : Expr). made ≡ ready S e) → IfOk r (λ (made : Expr). made ≡ expression_or missing S w given)
without_expression missing S w given e r is same h =
    subst (λ (f : Expr). IfOk r (λ (made : Expr). made ≡ f)) (ap (ready S) same ∙ ap (λ (o : Option Expr). ready S (unwrap_or o missing)) (sym is)) h

pub with_template : {E : Type 0} (S : Scope) (w : Word) (given : List Given) (parts : List Part) (r : Result (List Part) E) → first_value template_in w given ≡ Some parts
    → IfOk r (λ (made : List Part). made ≡ ready_parts S parts) → IfOk r (λ (made : List Part). made ≡ template S w given)
with_template S w given parts r is h =
    subst (λ (o : Option (List Part)). IfOk r (λ (made : List Part). made ≡ unwrap_or (option_map (ready_parts S) o) [])) (sym is) h

pub template_given : (S : Scope) (w : Word) (given : List Given) (parts made : List Part) → first_value template_in w given ≡ Some parts → made ≡ ready_parts S parts
    → Some made ≡ some_template S w given
template_given S w given parts made is h = ap Some h ∙ ap (option_map (ready_parts S)) (sym is)

pub no_template : (S : Scope) (w : Word) (given : List Given) → first_value template_in w given ≡ None → None ≡ some_template S w given
no_template S w given is = ap (option_map (ready_parts S)) (sym is)
