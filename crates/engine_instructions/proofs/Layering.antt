-- One layer of each instruction.
use Rattle.std.proofs.Common.{◌≡◌, ap, ◌∙◌, ℕ, List, Bool, map, Option, Some, None}
use Rattle.std.specs.Borrow.{Bor}
use Rattle.std.specs.Prelude.{option_map}
use Rattle.engine_meaning.specs.Execution.{Action, Giving, Binding, Case, binding_of, case_of, does, giving_of}
use Rattle.frame_meaning.specs.Work.{bodies_of, layer}
use Rattle.sheet_ast.specs.declared.instruction.Instruction.{Instruction}
use Rattle.sheet_ast.specs.declared.instruction.Instruction.TheFolds.{map-Instruction}
use Rattle.sheet_ast.specs.declared.instruction.Instruction.TheOpen.{Instruction-F}
use Rattle.sheet_ast.specs.declared.instruction.Instruction.TheVariants as i
use Rattle.sheet_ast.specs.declared.instruction.Instruction.TheVariants.{outs-LiteralText, outs-LiteralElement, outs-ValueOf, outs-CopyOf, outs-Copy, outs-Element, outs-Attribute, outs-Processing}
use Rattle.sheet_ast.specs.declared.instruction.Instruction.TheVariants.{outs-Comment, outs-Message, outs-If, outs-Choose, outs-Local, outs-Apply, outs-ForEach, outs-CallTemplate}
use Rattle.sheet_ast.specs.declared.instruction.LiteralAttr.{LiteralAttr}
use Rattle.sheet_ast.specs.declared.instruction.SortDecl.{SortDecl}
use Rattle.sheet_ast.specs.declared.instruction.VarValue.{VarValue}
use Rattle.sheet_ast.specs.declared.instruction.Variable.{Variable}
use Rattle.sheet_ast.specs.declared.instruction.When.{When}
use Rattle.xpath_syntax.specs.declared.expression.Expr.{Expr}
use Rattle.xpath_syntax.specs.declared.expression.NameRef.{NameRef}
use Rattle.xpath_syntax.specs.declared.pattern.Part.{Part}

abbrev mapped : Instruction-F Instruction VarValue Variable When → Instruction-F Action Giving Binding Case
mapped y = map-Instruction Instruction VarValue Variable When Action Giving Binding Case does giving_of binding_of case_of y

pub layer-LiteralText : (x : Instruction) (bytes : List ℕ) → x ≡ i.LiteralText bytes → layer x ≡ Instruction-F.LiteralText bytes
layer-LiteralText x bytes is = ap layer is ∙ ap mapped (outs-LiteralText bytes)

pub layer-LiteralElement : (x : Instruction) (name : NameRef) (attributes : List LiteralAttr) (body : List Instruction) → x ≡ i.LiteralElement name attributes body → layer x ≡ Instruction-F.LiteralElement name attributes (map does body)
layer-LiteralElement x name attributes body is = ap layer is ∙ ap mapped (outs-LiteralElement name attributes body)

pub layer-ValueOf : (x : Instruction) (select : Expr) → x ≡ i.ValueOf select → layer x ≡ Instruction-F.ValueOf select
layer-ValueOf x select is = ap layer is ∙ ap mapped (outs-ValueOf select)

pub layer-CopyOf : (x : Instruction) (select : Expr) → x ≡ i.CopyOf select → layer x ≡ Instruction-F.CopyOf select
layer-CopyOf x select is = ap layer is ∙ ap mapped (outs-CopyOf select)

pub layer-Copy : (x : Instruction) (body : List Instruction) → x ≡ i.Copy body → layer x ≡ Instruction-F.Copy (map does body)
layer-Copy x body is = ap layer is ∙ ap mapped (outs-Copy body)

pub layer-Element : (x : Instruction) (name : List Part) (namespace : Option (List Part)) (scopes : ℕ) (body : List Instruction) → x ≡ i.Element name namespace scopes body → layer x ≡ Instruction-F.Element name namespace scopes (map does body)
layer-Element x name namespace scopes body is = ap layer is ∙ ap mapped (outs-Element name namespace scopes body)

pub layer-Attribute : (x : Instruction) (name : List Part) (namespace : Option (List Part)) (scopes : ℕ) (body : List Instruction) → x ≡ i.Attribute name namespace scopes body → layer x ≡ Instruction-F.Attribute name namespace scopes (map does body)
layer-Attribute x name namespace scopes body is = ap layer is ∙ ap mapped (outs-Attribute name namespace scopes body)

pub layer-Processing : (x : Instruction) (name : List Part) (body : List Instruction) → x ≡ i.Processing name body → layer x ≡ Instruction-F.Processing name (map does body)
layer-Processing x name body is = ap layer is ∙ ap mapped (outs-Processing name body)

pub layer-Comment : (x : Instruction) (body : List Instruction) → x ≡ i.Comment body → layer x ≡ Instruction-F.Comment (map does body)
layer-Comment x body is = ap layer is ∙ ap mapped (outs-Comment body)

pub layer-Message : (x : Instruction) (terminate : Bool) (body : List Instruction) → x ≡ i.Message terminate body → layer x ≡ Instruction-F.Message terminate (map does body)
layer-Message x terminate body is = ap layer is ∙ ap mapped (outs-Message terminate body)

pub layer-If : (x : Instruction) (test : Expr) (body : List Instruction) → x ≡ i.If test body → layer x ≡ Instruction-F.If test (map does body)
layer-If x test body is = ap layer is ∙ ap mapped (outs-If test body)

abbrev pub otherwise_of : Option (List Instruction) → Option (List Action)
otherwise_of None = None
otherwise_of (Some body) = Some (map does body)

pub layer-Choose : (x : Instruction) (whens : List When) (otherwise : Option (List Instruction)) → x ≡ i.Choose whens otherwise
    → layer x ≡ Instruction-F.Choose (map case_of whens) (otherwise_of otherwise)
layer-Choose x whens None is = ap layer is ∙ ap mapped (outs-Choose whens None)
layer-Choose x whens (Some body) is = ap layer is ∙ ap mapped (outs-Choose whens (Some body))

pub layer-Local : (x : Instruction) (variable : Variable) → x ≡ i.Local variable → layer x ≡ Instruction-F.Local (binding_of variable)
layer-Local x variable is = ap layer is ∙ ap mapped (outs-Local variable)

pub layer-Apply : (x : Instruction) (select : Expr) (mode : ℕ) (sorts : List SortDecl) (params : List Variable) → x ≡ i.Apply select mode sorts params → layer x ≡ Instruction-F.Apply select mode sorts (map binding_of params)
layer-Apply x select mode sorts params is = ap layer is ∙ ap mapped (outs-Apply select mode sorts params)

pub layer-ForEach : (x : Instruction) (select : Expr) (sorts : List SortDecl) (body : List Instruction) → x ≡ i.ForEach select sorts body → layer x ≡ Instruction-F.ForEach select sorts (map does body)
layer-ForEach x select sorts body is = ap layer is ∙ ap mapped (outs-ForEach select sorts body)

pub layer-CallTemplate : (x : Instruction) (template : ℕ) (params : List Variable) → x ≡ i.CallTemplate template params → layer x ≡ Instruction-F.CallTemplate template (map binding_of params)
layer-CallTemplate x template params is = ap layer is ∙ ap mapped (outs-CallTemplate template params)

pub bodies_as : (bodies : Option (Bor (List Instruction))) (otherwise : Option (List Instruction)) → option_map (λ (b : Bor (List Instruction)). b.now) bodies ≡ otherwise
    → bodies_of bodies ≡ otherwise_of otherwise
bodies_as None otherwise is = ap otherwise_of is
bodies_as (Some body) otherwise is = ap otherwise_of is
