-- How an operand, and a predicate, is made of a value or of a first item.
use Rattle.std.proofs.Common.{◌≡◌, refl, sym, ap, ◌∙◌, ℕ, List, Bool, true, false, Option, Some, None, inl, inr}
use Rattle.std.proofs.lemmas.Bool.{false≢true}
use Rattle.std.specs.Option.{is_some}
use Rattle.doc_model.specs.Answers.{Known, Fault, Open}
use Rattle.whole_num.specs.Text as numbers
use Rattle.xpath_core.specs.Judged.{JudgedByValue, JudgedByFirst}
use Rattle.xpath_meaning.specs.declared.context.Context.{Context}
use Rattle.xpath_meaning.specs.Conversions.{holds, nodes_of, text_of_first}
use Rattle.xpath_meaning.specs.Evaluation.{meant, meant_path, path_items_of}
use Rattle.xpath_meaning.specs.Items.{path_items}
use Rattle.xpath_meaning.specs.Meanings.{Meaning, Meant, plain, holds_at}
use Rattle.xpath_meaning.specs.Outcome.{Outcome, ◌>>=◌, calculated}
use Rattle.xpath_meaning.specs.Reading.{Reading}
use Rattle.xpath_meaning.specs.Streams.{Stream, first_item}
use Rattle.xpath_operations.proofs.Operating.{by_kind}
use Rattle.xpath_operations.specs.Operands.{is_converted, operand_as, operand_by, operand_of_first}
use Rattle.xpath_operations.specs.declared.operand.Operand.TheVariants.{Truth, Number, Nodes, Text}
use Rattle.xpath_operations.specs.declared.operand.OperandKind.{OperandKind}
use Rattle.xpath_operations.specs.declared.operand.OperandKind.TheVariants as kind
use Rattle.xpath_syntax.specs.declared.expression.Expr.{Expr}
use Rattle.xpath_laws.proofs.Equations.{location_means, filter_means, tail_means, meant_path_is}
use Rattle.xpath_meaning.specs.Items.{if_streams}
use Rattle.xpath_meaning.specs.Meanings.{MeantPath}
use Rattle.xpath_syntax.specs.declared.expression.Expr.TheVariants as expr
use Rattle.xpath_syntax.specs.declared.expression.Path.{Path, out-Path}
use Rattle.xpath_values.specs.declared.value.Value.{Value}

-- what has no items is plain
is_plain : (m : Meant) → m.items ≡ None → m ≡ plain m.value
is_plain m e = ap (λ (items : Option (Meaning Stream)). record { value = m.value; items = items }) e

then_nodes : (p : Outcome Value) → ((p >>= nodes_of) >>= λ nodes. Known (Nodes nodes)) ≡ (p >>= λ v. nodes_of v >>= λ nodes. Known (Nodes nodes))
then_nodes (Known v) = refl
then_nodes (Fault e) = refl
then_nodes (Open m) = refl

by_no_conversion : (k : OperandKind) (m : Meant) (R : Reading) (values : List Value) (c : Context) → is_converted k ≡ false → operand_as k m R values c ≡ (m.value R values c >>= λ v. operand_by k R v)
by_no_conversion kind.Truth m R values c e = absurd (false≢true (sym e))
by_no_conversion kind.Number m R values c e = absurd (false≢true (sym e))
by_no_conversion kind.Nodes m R values c e = then_nodes (m.value R values c)
by_no_conversion kind.Whole m R values c e = refl
by_no_conversion kind.Text m R values c e = absurd (false≢true (sym e))

pub operand_by_value : (k : OperandKind) (e : Expr) → JudgedByValue k e → (R : Reading) (values : List Value) (c : Context)
    → operand_as k (meant e) R values c ≡ ((meant e).value R values c >>= λ v. operand_by k R v)
operand_by_value k e (inl n) R values c = ap (λ (m : Meant). operand_as k m R values c) (is_plain (meant e) n) ∙ by_kind k (meant e).value R values c
operand_by_value k e (inr n) R values c = by_no_conversion k (meant e) R values c n

truth_first : (o : Outcome (Option ℕ)) → ((o >>= λ first. Known (is_some first)) >>= λ b. Known (Truth b)) ≡ (o >>= λ first. Known (Truth (is_some first)))
truth_first (Known first) = refl
truth_first (Fault e) = refl
truth_first (Open m) = refl

number_first : (R : Reading) (o : Outcome (Option ℕ)) → (((o >>= text_of_first R) >>= λ bytes. calculated (numbers.number_of bytes)) >>= λ n. Known (Number n))
    ≡ (o >>= λ first. (text_of_first R first >>= λ bytes. calculated (numbers.number_of bytes)) >>= λ n. Known (Number n))
number_first R (Known first) = refl
number_first R (Fault e) = refl
number_first R (Open m) = refl

text_first : (R : Reading) (o : Outcome (Option ℕ)) → ((o >>= text_of_first R) >>= λ bytes. Known (Text bytes)) ≡ (o >>= λ first. text_of_first R first >>= λ bytes. Known (Text bytes))
text_first R (Known first) = refl
text_first R (Fault e) = refl
text_first R (Open m) = refl

by_first : (k : OperandKind) (value : Meaning (Outcome Value)) (items : Meaning Stream) (R : Reading) (values : List Value) (c : Context) → is_converted k ≡ true
    → operand_as k (record { value = value; items = Some items }) R values c ≡ (first_item (items R values c) >>= λ first. operand_of_first k R first)
by_first kind.Truth value items R values c e = truth_first (first_item (items R values c))
by_first kind.Number value items R values c e = number_first R (first_item (items R values c))
by_first kind.Nodes value items R values c e = absurd (false≢true e)
by_first kind.Whole value items R values c e = absurd (false≢true e)
by_first kind.Text value items R values c e = text_first R (first_item (items R values c))

has_items : (m : Meant) (items : Meaning Stream) → m.items ≡ Some items → m ≡ record { value = m.value; items = Some items }
has_items m items e = ap (λ (some : Option (Meaning Stream)). record { value = m.value; items = some }) e

pub operand_by_first : (k : OperandKind) (e : Expr) (path : Path) → JudgedByFirst k e path → (R : Reading) (values : List Value) (c : Context)
    → operand_as k (meant e) R values c ≡ (first_item (path_items_of R path values c) >>= λ first. operand_of_first k R first)
operand_by_first k e path j R values c =
    ap (λ (m : Meant). operand_as k m R values c) (has_items (meant e) (path_items (meant_path path)) j.items) ∙ by_first k (meant e).value (path_items (meant_path path)) R values c j.converted

pub holds_by_value : (e : Expr) → JudgedByValue kind.Truth e → (R : Reading) (values : List Value) (c : Context)
    → holds_at (meant e) R values c ≡ ((meant e).value R values c >>= λ v. Known (holds v c.position))
holds_by_value e (inl n) R values c = ap (λ (m : Meant). holds_at m R values c) (is_plain (meant e) n)
holds_by_value e (inr n) R values c = absurd (false≢true (sym n))

pub holds_by_first : (e : Expr) (path : Path) → JudgedByFirst kind.Truth e path → (R : Reading) (values : List Value) (c : Context)
    → holds_at (meant e) R values c ≡ (first_item (path_items_of R path values c) >>= λ first. Known (is_some first))
holds_by_first e path j R values c = ap (λ (m : Meant). holds_at m R values c) (has_items (meant e) (path_items (meant_path path)) j.items)

-- ---- which expressions have items

pub no_items : (e : Expr) (f : Meaning (Outcome Value)) → meant e ≡ plain f → (meant e).items ≡ None
no_items e f h = ap (λ (m : Meant). m.items) h

pub path_items_are : (e : Expr) (path : Path) (b : Bool) → e ≡ expr.Path path → (out-Path path).streams ≡ b → (meant e).items ≡ if_streams b (meant_path path)
path_items_are e path b is h =
    ap (λ (m : Meant). m.items) (ap meant is ∙ location_means path) ∙ ap (λ (b : Bool). if_streams b (meant_path path)) (ap (λ (p : MeantPath). p.streams) (meant_path_is path) ∙ h)

pub filter_has_none : (e primary : Expr) (predicates : List Expr) (tail : Option Path) → e ≡ expr.Filter primary predicates tail → (meant e).items ≡ None
filter_has_none e primary predicates None is = ap (λ (m : Meant). m.items) (ap meant is ∙ filter_means primary predicates)
filter_has_none e primary predicates (Some path) is = ap (λ (m : Meant). m.items) (ap meant is ∙ tail_means primary predicates path)
