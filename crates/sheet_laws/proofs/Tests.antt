-- A name test that gives a local name gives a namespace.
use Rattle.std.proofs.Common.{◌≡◌, refl, subst, ℕ, ℤ, Bool, true, false, cond, not, List, length, Option, Some, None, Result, Ok, Err, eqb}
use Rattle.std.specs.List.{list_all}
use Rattle.std.specs.Str.{is_utf8}
use Rattle.doc_model.specs.Strip.{parts_spelled}
use Rattle.xpath_binding.specs.Names.{Resolution}
use Rattle.xpath_funcs.specs.Spaces.{words}
use Rattle.name_grammar.specs.Names.{prefix_of}
use Rattle.sheet_elements.specs.declared.fault.SheetKind.{SheetKind}
use Rattle.sheet_elements.specs.declared.fault.SheetKind.TheVariants as kind
use Rattle.sheet_elements.specs.declared.table.Kind.{Kind}
use Rattle.sheet_elements.specs.declared.table.Kind.TheVariants as of
use Rattle.sheet_values.specs.declared.value.NameTest.{NameTest}
use Rattle.sheet_values.specs.declared.value.Value.{Value}
use Rattle.sheet_values.specs.declared.value.Value.TheVariants as value
use Rattle.sheet_values.specs.Expressions.{expression_of, pattern_of, template_of}
use Rattle.sheet_values.specs.Names.{any_name, bound_test, is_star, is_test, name_of, name_tests, test_of, uri_of}
use Rattle.sheet_values.specs.Priorities.{hundredths_of}
use Rattle.sheet_values.specs.Refusals.{◌>>=◌, each}
use Rattle.sheet_values.specs.Values.{or_bad, read_as, value_of}
use Rattle.sheet_laws.proofs.Steps.{Each, each_valued, no_ok, of_value, same_ok}

abbrev pub TestSpelled : NameTest → Type 0
TestSpelled t = parts_spelled t.uri t.local ≡ true

abbrev pub ValueSpelled : Value → Type 0
ValueSpelled (value.NameTests tests) = Each TestSpelled tests
ValueSpelled _ = Unit {0}

bound_spelled : (R : Resolution) (word : List ℕ) (t : NameTest) → bound_test R word ≡ Ok t → TestSpelled t
bound_spelled R word t is = let u = of_value (uri_of R (prefix_of word)) _ t is in subst TestSpelled (same_ok _ t u.2) refl

test_spelled : (R : Resolution) (word : List ℕ) (t : NameTest) → test_of R word ≡ Ok t → TestSpelled t
unfolding test_of
test_spelled R word t is = by (is_star word) is
  where
    by : (b : Bool) → cond b (Ok any_name) (bound_test R word) ≡ Ok t → TestSpelled t
    by true h = subst TestSpelled (same_ok any_name t h) refl
    by false h = bound_spelled R word t h

tests_spelled : (R : Resolution) (text : List ℕ) (ts : List NameTest) → name_tests R text ≡ Ok ts → Each TestSpelled ts
unfolding name_tests
tests_spelled R text ts is = by (not (list_all is_test (words text))) is
  where
    by : (b : Bool) → cond b (Err kind.BadAttribute) (each (test_of R) (words text)) ≡ Ok ts → Each TestSpelled ts
    by true h = absurd (no_ok kind.BadAttribute ts h)
    by false h = each_valued TestSpelled (test_of R) (test_spelled R) (words text) ts h

-- a value that is made of what was read
made : {A : Type 0} (m : Result A SheetKind) (f : A → Value) (v : Value) → ((a : A) → ValueSpelled (f a)) → (m >>= (λ a. Ok (f a))) ≡ Ok v → ValueSpelled v
made m f v h is = let r = of_value m (λ a. Ok (f a)) v is in subst ValueSpelled (same_ok (f (r.0)) v r.2) (h (r.0))

priority_spelled : (o : Option ℤ) (v : Value) → or_bad o ≡ Ok v → ValueSpelled v
priority_spelled None v is = absurd (no_ok kind.BadAttribute v is)
priority_spelled (Some hundredths) v is = subst ValueSpelled (same_ok (value.Priority hundredths) v is) tt

nothing_spelled : (b : Bool) (v : Value) → cond b (Ok value.Unused) (Err kind.BadAttribute) ≡ Ok v → ValueSpelled v
nothing_spelled true v is = subst ValueSpelled (same_ok value.Unused v is) tt
nothing_spelled false v is = absurd (no_ok kind.BadAttribute v is)

names_spelled : (R : Resolution) (text : List ℕ) (v : Value) → (name_tests R text >>= (λ tests. Ok (value.NameTests tests))) ≡ Ok v → ValueSpelled v
names_spelled R text v is =
    let r = of_value (name_tests R text) (λ tests. Ok (value.NameTests tests)) v is in
    subst ValueSpelled (same_ok (value.NameTests (r.0)) v r.2) (tests_spelled R text (r.0) r.1)

read_spelled : (R : Resolution) (k : Kind) (text : List ℕ) (v : Value) → read_as R k text ≡ Ok v → ValueSpelled v
read_spelled R of.Version text v is = subst ValueSpelled (same_ok value.Unused v is) tt
read_spelled R of.Expression text v is = made (expression_of R text) (λ e. value.Expression e) v (λ e. tt) is
read_spelled R of.Pattern text v is = made (pattern_of R text) (λ p. value.Pattern p) v (λ p. tt) is
read_spelled R of.Template text v is = made (template_of R text) (λ ps. value.Template ps) v (λ ps. tt) is
read_spelled R of.Name text v is = made (name_of R text) (λ name. value.Name name) v (λ name. tt) is
read_spelled R of.NameTests text v is = names_spelled R text v is
read_spelled R of.Priority text v is = priority_spelled (hundredths_of text) v is
read_spelled R of.Method text v is = made _ (λ b. value.IsText b) v (λ b. tt) is
read_spelled R of.DataType text v is = made _ (λ b. value.IsNumber b) v (λ b. tt) is
read_spelled R of.Order text v is = made _ (λ b. value.IsDescending b) v (λ b. tt) is
read_spelled R of.YesOrNo text v is = made _ (λ b. value.IsYes b) v (λ b. tt) is
read_spelled R of.Nothing text v is = nothing_spelled (eqb (length text) 0) v is
read_spelled R of.Unused text v is = subst ValueSpelled (same_ok value.Unused v is) tt

pub value_spelled : (R : Resolution) (k : Kind) (text : List ℕ) (v : Value) → value_of R k text ≡ Ok v → ValueSpelled v
unfolding value_of
value_spelled R k text v is = by (is_utf8 text) is
  where
    by : (b : Bool) → cond b (read_as R k text) (Err kind.NotUtf8) ≡ Ok v → ValueSpelled v
    by true h = read_spelled R k text v h
    by false h = absurd (no_ok kind.NotUtf8 v h)
