-- A call by its arguments.
use Rattle.std.proofs.Common.{◌≡◌, refl, sym, ap, ◌∙◌, ℕ, zero, suc, List, [], ◌∷◌, map, length, Bool, true, false, Option, Some, None, arith, eqb, leb, ◌≤◌, inl, inr}
use Rattle.std.proofs.lemmas.Bool.{eqb-true, leb-true, false≢true}
use Rattle.doc_model.specs.Answers.{Known, Fault, Open}
use Rattle.whole_num.specs.Text as numbers
use Rattle.whole_num.specs.declared.number.Num.{Num}
use Rattle.xpath_binding.specs.declared.functions.Function.{Function}
use Rattle.xpath_binding.specs.declared.functions.Function.TheVariants as function
use Rattle.xpath_laws.proofs.Order.{or_cases}
use Rattle.xpath_meaning.specs.declared.context.Context.{Context}
use Rattle.xpath_meaning.specs.Calls.{nothing, called, called_if, function_of, call}
use Rattle.xpath_meaning.specs.Conversions.{text, number}
use Rattle.xpath_meaning.specs.Meanings.{Meant, text_at, truth_at, number_at, nodes_at}
use Rattle.xpath_meaning.specs.Outcome.{Outcome, ◌>>=◌, calculated, each_of}
use Rattle.xpath_meaning.specs.Reading.{Reading}
use Rattle.xpath_meaning.specs.Steps.{joined}
use Rattle.xpath_operations.specs.declared.operand.Operand.{Operand}
use Rattle.xpath_operations.specs.declared.operand.Operand.TheVariants.{Truth, Number, Nodes, Whole, Text, Name}
use Rattle.xpath_syntax.specs.declared.expression.NameRef.{NameRef}
use Rattle.xpath_values.specs.declared.value.Value.{Value}
use Rattle.xpath_calls.specs.Given.{given}
use Rattle.xpath_calls.specs.Taken.{text_in}
use Rattle.xpath_calls.specs.Taking.{accepts, accepted_by, accepted, call_of, arguments, completed}

-- ---- one argument, the context node's, two and three

one : {A : Type 0} (made : A → Operand) (o : Outcome A) (G : List Operand → Outcome Value)
    → (((o >>= λ a. Known (made a)) >>= λ x. Known (x ∷ [])) >>= G) ≡ (o >>= λ a. G (made a ∷ []))
one made (Known a) G = refl
one made (Fault f) G = refl
one made (Open m) G = refl

own_number : (o : Outcome (List ℕ)) (G : List Operand → Outcome Value)
    → ((((o >>= λ bytes. calculated (numbers.number_of bytes)) >>= λ n. Known (Number n)) >>= λ x. Known (x ∷ [])) >>= G)
    ≡ (o >>= λ bytes. calculated (numbers.number_of bytes) >>= λ n. G (Number n ∷ []))
own_number (Known bytes) G = one Number (calculated (numbers.number_of bytes)) G
own_number (Fault f) G = refl
own_number (Open m) G = refl

two : {A B : Type 0} (made : A → Operand) (also : B → Operand) (o : Outcome A) (p : Outcome B) (G : List Operand → Outcome Value)
    → (((o >>= λ a. Known (made a)) >>= λ x. ((p >>= λ b. Known (also b)) >>= λ y. Known (y ∷ [])) >>= λ ys. Known (x ∷ ys)) >>= G) ≡ (o >>= λ a. p >>= λ b. G (made a ∷ also b ∷ []))
two made also (Known a) (Known b) G = refl
two made also (Known a) (Fault f) G = refl
two made also (Known a) (Open m) G = refl
two made also (Fault f) p G = refl
two made also (Open m) p G = refl

second : (p : Outcome Value) (G : List Operand → Outcome Value) → ((((p >>= λ b. Known (Whole b)) >>= λ y. Known (y ∷ [])) >>= λ ys. Known (Name ∷ ys)) >>= G) ≡ (p >>= λ b. G (Name ∷ Whole b ∷ []))
second (Known b) G = refl
second (Fault f) G = refl
second (Open m) G = refl

three : {A B C : Type 0} (made : A → Operand) (also : B → Operand) (last : C → Operand) (o : Outcome A) (p : Outcome B) (q : Outcome C) (G : List Operand → Outcome Value)
    → (((o >>= λ a. Known (made a)) >>= λ x. ((p >>= λ b. Known (also b)) >>= λ y. ((q >>= λ c. Known (last c)) >>= λ z. Known (z ∷ [])) >>= λ zs. Known (y ∷ zs)) >>= λ ys. Known (x ∷ ys)) >>= G)
    ≡ (o >>= λ a. p >>= λ b. q >>= λ c. G (made a ∷ also b ∷ last c ∷ []))
three made also last (Known a) (Known b) (Known c) G = refl
three made also last (Known a) (Known b) (Fault f) G = refl
three made also last (Known a) (Known b) (Open m) G = refl
three made also last (Known a) (Fault f) q G = refl
three made also last (Known a) (Open m) q G = refl
three made also last (Fault f) p q G = refl
three made also last (Open m) p q G = refl

-- ---- any number of strings

text_next : (o : Outcome (List ℕ)) (ts : Outcome (List (List ℕ)))
    → ((o >>= λ bytes. Known (Text bytes)) >>= λ x. (ts >>= λ ts. Known (map Text ts)) >>= λ xs. Known (x ∷ xs)) ≡ ((o >>= λ y. ts >>= λ ys. Known (y ∷ ys)) >>= λ ts. Known (map Text ts))
text_next (Known bytes) (Known ts) = refl
text_next (Known bytes) (Fault f) = refl
text_next (Known bytes) (Open m) = refl
text_next (Fault f) ts = refl
text_next (Open m) ts = refl

texts_are : (at : ℕ) (args : List Meant) (R : Reading) (values : List Value) (c : Context)
    → arguments function.Concat at args R values c ≡ (each_of (λ m. text_at m R values c) args >>= λ ts. Known (map Text ts))
texts_are at [] R values c = refl
texts_are at (m ∷ ms) R values c =
    ap (λ o. (text_at m R values c >>= λ bytes. Known (Text bytes)) >>= λ x. o >>= λ xs. Known (x ∷ xs)) (texts_are (suc at) ms R values c)
    ∙ text_next (text_at m R values c) (each_of (λ m. text_at m R values c) ms)

texts_back : (ts : List (List ℕ)) → map text_in (map Text ts) ≡ ts
texts_back [] = refl
texts_back (t ∷ ts) = ap (λ us. t ∷ us) (texts_back ts)

concat_given : (slot : Option ℕ) (R : Reading) (c : Context) (ts : List (List ℕ)) → Known (text (joined ts)) ≡ (completed function.Concat (map Text ts) R c >>= λ ys. given function.Concat slot ys R c)
concat_given slot R c [] = refl
concat_given slot R c (t ∷ ts) = ap (λ us. Known (text (joined (t ∷ us)))) (sym (texts_back ts))

concat_all : (slot : Option ℕ) (R : Reading) (c : Context) (o : Outcome (List (List ℕ)))
    → (o >>= λ ts. Known (text (joined ts))) ≡ ((o >>= λ ts. Known (map Text ts)) >>= λ xs. completed function.Concat xs R c >>= λ ys. given function.Concat slot ys R c)
concat_all slot R c (Known ts) = concat_given slot R c ts
concat_all slot R c (Fault f) = refl
concat_all slot R c (Open m) = refl

-- ---- each function

-- behind the arguments
abbrev answer : Function → Option ℕ → Reading → Context → List Operand → Outcome Value
answer f slot R c xs = completed f xs R c >>= λ ys. given f slot ys R c

abbrev Made : Function → NameRef → List Meant → Reading → List Value → Context → Type 0
Made f name args R values c = called f name args R values c ≡ (arguments f 0 args R values c >>= answer f name.slot R c)

no_eq : {A : Type 0} (a b : ℕ) → eqb a b ≡ true → (a ≡ b → ⊥) → A
no_eq a b h n = absurd (n (eqb-true a b h))

no_le : {A : Type 0} (a b : ℕ) → leb a b ≡ true → (a ≤ b → ⊥) → A
no_le a b h n = absurd (n (leb-true a b h))

last_is : (name : NameRef) (args : List Meant) (R : Reading) (values : List Value) (c : Context) → accepts function.Last (length args) ≡ true → Made function.Last name args R values c
last_is name [] R values c h = refl
last_is name (m ∷ ms) R values c h = no_eq (suc (length ms)) 0 h (λ e. omega (arith, e))

position_is : (name : NameRef) (args : List Meant) (R : Reading) (values : List Value) (c : Context) → accepts function.Position (length args) ≡ true → Made function.Position name args R values c
position_is name [] R values c h = refl
position_is name (m ∷ ms) R values c h = no_eq (suc (length ms)) 0 h (λ e. omega (arith, e))

true_is : (name : NameRef) (args : List Meant) (R : Reading) (values : List Value) (c : Context) → accepts function.True (length args) ≡ true → Made function.True name args R values c
true_is name [] R values c h = refl
true_is name (m ∷ ms) R values c h = no_eq (suc (length ms)) 0 h (λ e. omega (arith, e))

false_is : (name : NameRef) (args : List Meant) (R : Reading) (values : List Value) (c : Context) → accepts function.False (length args) ≡ true → Made function.False name args R values c
false_is name [] R values c h = refl
false_is name (m ∷ ms) R values c h = no_eq (suc (length ms)) 0 h (λ e. omega (arith, e))

current_is : (name : NameRef) (args : List Meant) (R : Reading) (values : List Value) (c : Context) → accepts function.Current (length args) ≡ true → Made function.Current name args R values c
current_is name [] R values c h = refl
current_is name (m ∷ ms) R values c h = no_eq (suc (length ms)) 0 h (λ e. omega (arith, e))

count_is : (name : NameRef) (args : List Meant) (R : Reading) (values : List Value) (c : Context) → accepts function.Count (length args) ≡ true → Made function.Count name args R values c
count_is name [] R values c h = no_eq (0) 1 h (λ e. omega (arith, e))
count_is name (m ∷ []) R values c h = sym (one Nodes (nodes_at m R values c) (answer function.Count name.slot R c))
count_is name (m ∷ k ∷ ms) R values c h = no_eq (suc (suc (length ms))) 1 h (λ e. omega (arith, e))

sum_is : (name : NameRef) (args : List Meant) (R : Reading) (values : List Value) (c : Context) → accepts function.Sum (length args) ≡ true → Made function.Sum name args R values c
sum_is name [] R values c h = no_eq (0) 1 h (λ e. omega (arith, e))
sum_is name (m ∷ []) R values c h = sym (one Nodes (nodes_at m R values c) (answer function.Sum name.slot R c))
sum_is name (m ∷ k ∷ ms) R values c h = no_eq (suc (suc (length ms))) 1 h (λ e. omega (arith, e))

id_is : (name : NameRef) (args : List Meant) (R : Reading) (values : List Value) (c : Context) → accepts function.Id (length args) ≡ true → Made function.Id name args R values c
id_is name [] R values c h = no_eq (0) 1 h (λ e. omega (arith, e))
id_is name (m ∷ []) R values c h = sym (one Whole (m.value R values c) (answer function.Id name.slot R c))
id_is name (m ∷ k ∷ ms) R values c h = no_eq (suc (suc (length ms))) 1 h (λ e. omega (arith, e))

key_is : (name : NameRef) (args : List Meant) (R : Reading) (values : List Value) (c : Context) → accepts function.Key (length args) ≡ true → Made function.Key name args R values c
key_is name [] R values c h = no_eq (0) 2 h (λ e. omega (arith, e))
key_is name (m ∷ []) R values c h = no_eq (1) 2 h (λ e. omega (arith, e))
key_is name (m ∷ k ∷ []) R values c h = sym (second (k.value R values c) (answer function.Key name.slot R c))
key_is name (m ∷ k ∷ l ∷ ms) R values c h = no_eq (suc (suc (suc (length ms)))) 2 h (λ e. omega (arith, e))

localName_is : (name : NameRef) (args : List Meant) (R : Reading) (values : List Value) (c : Context) → accepts function.LocalName (length args) ≡ true → Made function.LocalName name args R values c
localName_is name [] R values c h = refl
localName_is name (m ∷ []) R values c h = sym (one Nodes (nodes_at m R values c) (answer function.LocalName name.slot R c))
localName_is name (m ∷ k ∷ ms) R values c h = no_le (suc (suc (length ms))) 1 h (λ e. omega (arith, e))

namespaceUri_is : (name : NameRef) (args : List Meant) (R : Reading) (values : List Value) (c : Context) → accepts function.NamespaceUri (length args) ≡ true
    → Made function.NamespaceUri name args R values c
namespaceUri_is name [] R values c h = refl
namespaceUri_is name (m ∷ []) R values c h = sym (one Nodes (nodes_at m R values c) (answer function.NamespaceUri name.slot R c))
namespaceUri_is name (m ∷ k ∷ ms) R values c h = no_le (suc (suc (length ms))) 1 h (λ e. omega (arith, e))

name_is : (name : NameRef) (args : List Meant) (R : Reading) (values : List Value) (c : Context) → accepts function.Name (length args) ≡ true → Made function.Name name args R values c
name_is name [] R values c h = refl
name_is name (m ∷ []) R values c h = sym (one Nodes (nodes_at m R values c) (answer function.Name name.slot R c))
name_is name (m ∷ k ∷ ms) R values c h = no_le (suc (suc (length ms))) 1 h (λ e. omega (arith, e))

generateId_is : (name : NameRef) (args : List Meant) (R : Reading) (values : List Value) (c : Context) → accepts function.GenerateId (length args) ≡ true
    → Made function.GenerateId name args R values c
generateId_is name [] R values c h = refl
generateId_is name (m ∷ []) R values c h = sym (one Nodes (nodes_at m R values c) (answer function.GenerateId name.slot R c))
generateId_is name (m ∷ k ∷ ms) R values c h = no_le (suc (suc (length ms))) 1 h (λ e. omega (arith, e))

string_is : (name : NameRef) (args : List Meant) (R : Reading) (values : List Value) (c : Context) → accepts function.String (length args) ≡ true → Made function.String name args R values c
string_is name [] R values c h = sym (one Text (R.value c.node) (λ ys. given function.String name.slot ys R c))
string_is name (m ∷ []) R values c h = sym (one Text (text_at m R values c) (answer function.String name.slot R c))
string_is name (m ∷ k ∷ ms) R values c h = no_le (suc (suc (length ms))) 1 h (λ e. omega (arith, e))

stringLength_is : (name : NameRef) (args : List Meant) (R : Reading) (values : List Value) (c : Context) → accepts function.StringLength (length args) ≡ true
    → Made function.StringLength name args R values c
stringLength_is name [] R values c h = sym (one Text (R.value c.node) (λ ys. given function.StringLength name.slot ys R c))
stringLength_is name (m ∷ []) R values c h = sym (one Text (text_at m R values c) (answer function.StringLength name.slot R c))
stringLength_is name (m ∷ k ∷ ms) R values c h = no_le (suc (suc (length ms))) 1 h (λ e. omega (arith, e))

normalizeSpace_is : (name : NameRef) (args : List Meant) (R : Reading) (values : List Value) (c : Context) → accepts function.NormalizeSpace (length args) ≡ true
    → Made function.NormalizeSpace name args R values c
normalizeSpace_is name [] R values c h = sym (one Text (R.value c.node) (λ ys. given function.NormalizeSpace name.slot ys R c))
normalizeSpace_is name (m ∷ []) R values c h = sym (one Text (text_at m R values c) (answer function.NormalizeSpace name.slot R c))
normalizeSpace_is name (m ∷ k ∷ ms) R values c h = no_le (suc (suc (length ms))) 1 h (λ e. omega (arith, e))

number_is : (name : NameRef) (args : List Meant) (R : Reading) (values : List Value) (c : Context) → accepts function.Number (length args) ≡ true → Made function.Number name args R values c
number_is name [] R values c h = sym (own_number (R.value c.node) (λ ys. given function.Number name.slot ys R c))
number_is name (m ∷ []) R values c h = sym (one Number (number_at m R values c) (answer function.Number name.slot R c))
number_is name (m ∷ k ∷ ms) R values c h = no_le (suc (suc (length ms))) 1 h (λ e. omega (arith, e))

startsWith_is : (name : NameRef) (args : List Meant) (R : Reading) (values : List Value) (c : Context) → accepts function.StartsWith (length args) ≡ true
    → Made function.StartsWith name args R values c
startsWith_is name [] R values c h = no_eq (0) 2 h (λ e. omega (arith, e))
startsWith_is name (m ∷ []) R values c h = no_eq (1) 2 h (λ e. omega (arith, e))
startsWith_is name (m ∷ k ∷ []) R values c h = sym (two Text Text (text_at m R values c) (text_at k R values c) (answer function.StartsWith name.slot R c))
startsWith_is name (m ∷ k ∷ l ∷ ms) R values c h = no_eq (suc (suc (suc (length ms)))) 2 h (λ e. omega (arith, e))

contains_is : (name : NameRef) (args : List Meant) (R : Reading) (values : List Value) (c : Context) → accepts function.Contains (length args) ≡ true → Made function.Contains name args R values c
contains_is name [] R values c h = no_eq (0) 2 h (λ e. omega (arith, e))
contains_is name (m ∷ []) R values c h = no_eq (1) 2 h (λ e. omega (arith, e))
contains_is name (m ∷ k ∷ []) R values c h = sym (two Text Text (text_at m R values c) (text_at k R values c) (answer function.Contains name.slot R c))
contains_is name (m ∷ k ∷ l ∷ ms) R values c h = no_eq (suc (suc (suc (length ms)))) 2 h (λ e. omega (arith, e))

substringBefore_is : (name : NameRef) (args : List Meant) (R : Reading) (values : List Value) (c : Context) → accepts function.SubstringBefore (length args) ≡ true
    → Made function.SubstringBefore name args R values c
substringBefore_is name [] R values c h = no_eq (0) 2 h (λ e. omega (arith, e))
substringBefore_is name (m ∷ []) R values c h = no_eq (1) 2 h (λ e. omega (arith, e))
substringBefore_is name (m ∷ k ∷ []) R values c h = sym (two Text Text (text_at m R values c) (text_at k R values c) (answer function.SubstringBefore name.slot R c))
substringBefore_is name (m ∷ k ∷ l ∷ ms) R values c h = no_eq (suc (suc (suc (length ms)))) 2 h (λ e. omega (arith, e))

substringAfter_is : (name : NameRef) (args : List Meant) (R : Reading) (values : List Value) (c : Context) → accepts function.SubstringAfter (length args) ≡ true
    → Made function.SubstringAfter name args R values c
substringAfter_is name [] R values c h = no_eq (0) 2 h (λ e. omega (arith, e))
substringAfter_is name (m ∷ []) R values c h = no_eq (1) 2 h (λ e. omega (arith, e))
substringAfter_is name (m ∷ k ∷ []) R values c h = sym (two Text Text (text_at m R values c) (text_at k R values c) (answer function.SubstringAfter name.slot R c))
substringAfter_is name (m ∷ k ∷ l ∷ ms) R values c h = no_eq (suc (suc (suc (length ms)))) 2 h (λ e. omega (arith, e))

concat_is : (name : NameRef) (args : List Meant) (R : Reading) (values : List Value) (c : Context) → accepts function.Concat (length args) ≡ true → Made function.Concat name args R values c
concat_is name args R values c h = concat_all name.slot R c (each_of (λ m. text_at m R values c) args) ∙ ap (λ o. o >>= (answer function.Concat name.slot R c)) (sym (texts_are 0 args R values c))

substring_is : (name : NameRef) (args : List Meant) (R : Reading) (values : List Value) (c : Context) → accepts function.Substring (length args) ≡ true → Made function.Substring name args R values c
substring_is name [] R values c h = absurd (false≢true h)
substring_is name (m ∷ []) R values c h = absurd (false≢true h)
substring_is name (m ∷ k ∷ []) R values c h = sym (two Text Number (text_at m R values c) (number_at k R values c) (answer function.Substring name.slot R c))
substring_is name (m ∷ k ∷ l ∷ []) R values c h = sym (three Text Number Number (text_at m R values c) (number_at k R values c) (number_at l R values c) (answer function.Substring name.slot R c))
substring_is name (m ∷ k ∷ l ∷ n ∷ ms) R values c h =
    absurd (elim (or_cases (eqb (suc (suc (suc (suc (length ms))))) 2) (eqb (suc (suc (suc (suc (length ms))))) 3) h)
    [ inl e ↦ no_eq {A = ⊥} (suc (suc (suc (suc (length ms))))) 2 e (λ q. omega (arith, q)) | inr e ↦ no_eq {A = ⊥} (suc (suc (suc (suc (length ms))))) 3 e (λ q. omega (arith, q)) ])

translate_is : (name : NameRef) (args : List Meant) (R : Reading) (values : List Value) (c : Context) → accepts function.Translate (length args) ≡ true → Made function.Translate name args R values c
translate_is name [] R values c h = no_eq (0) 3 h (λ e. omega (arith, e))
translate_is name (m ∷ []) R values c h = no_eq (1) 3 h (λ e. omega (arith, e))
translate_is name (m ∷ k ∷ []) R values c h = no_eq (2) 3 h (λ e. omega (arith, e))
translate_is name (m ∷ k ∷ l ∷ []) R values c h = sym (three Text Text Text (text_at m R values c) (text_at k R values c) (text_at l R values c) (answer function.Translate name.slot R c))
translate_is name (m ∷ k ∷ l ∷ n ∷ ms) R values c h = no_eq (suc (suc (suc (suc (length ms))))) 3 h (λ e. omega (arith, e))

boolean_is : (name : NameRef) (args : List Meant) (R : Reading) (values : List Value) (c : Context) → accepts function.Boolean (length args) ≡ true → Made function.Boolean name args R values c
boolean_is name [] R values c h = no_eq (0) 1 h (λ e. omega (arith, e))
boolean_is name (m ∷ []) R values c h = sym (one Truth (truth_at m R values c) (answer function.Boolean name.slot R c))
boolean_is name (m ∷ k ∷ ms) R values c h = no_eq (suc (suc (length ms))) 1 h (λ e. omega (arith, e))

not_is : (name : NameRef) (args : List Meant) (R : Reading) (values : List Value) (c : Context) → accepts function.Not (length args) ≡ true → Made function.Not name args R values c
not_is name [] R values c h = no_eq (0) 1 h (λ e. omega (arith, e))
not_is name (m ∷ []) R values c h = sym (one Truth (truth_at m R values c) (answer function.Not name.slot R c))
not_is name (m ∷ k ∷ ms) R values c h = no_eq (suc (suc (length ms))) 1 h (λ e. omega (arith, e))

lang_is : (name : NameRef) (args : List Meant) (R : Reading) (values : List Value) (c : Context) → accepts function.Lang (length args) ≡ true → Made function.Lang name args R values c
lang_is name [] R values c h = no_eq (0) 1 h (λ e. omega (arith, e))
lang_is name (m ∷ []) R values c h = sym (one Text (text_at m R values c) (answer function.Lang name.slot R c))
lang_is name (m ∷ k ∷ ms) R values c h = no_eq (suc (suc (length ms))) 1 h (λ e. omega (arith, e))

floor_is : (name : NameRef) (args : List Meant) (R : Reading) (values : List Value) (c : Context) → accepts function.Floor (length args) ≡ true → Made function.Floor name args R values c
floor_is name [] R values c h = no_eq (0) 1 h (λ e. omega (arith, e))
floor_is name (m ∷ []) R values c h = sym (one Number (number_at m R values c) (answer function.Floor name.slot R c))
floor_is name (m ∷ k ∷ ms) R values c h = no_eq (suc (suc (length ms))) 1 h (λ e. omega (arith, e))

ceiling_is : (name : NameRef) (args : List Meant) (R : Reading) (values : List Value) (c : Context) → accepts function.Ceiling (length args) ≡ true → Made function.Ceiling name args R values c
ceiling_is name [] R values c h = no_eq (0) 1 h (λ e. omega (arith, e))
ceiling_is name (m ∷ []) R values c h = sym (one Number (number_at m R values c) (answer function.Ceiling name.slot R c))
ceiling_is name (m ∷ k ∷ ms) R values c h = no_eq (suc (suc (length ms))) 1 h (λ e. omega (arith, e))

round_is : (name : NameRef) (args : List Meant) (R : Reading) (values : List Value) (c : Context) → accepts function.Round (length args) ≡ true → Made function.Round name args R values c
round_is name [] R values c h = no_eq (0) 1 h (λ e. omega (arith, e))
round_is name (m ∷ []) R values c h = sym (one Number (number_at m R values c) (answer function.Round name.slot R c))
round_is name (m ∷ k ∷ ms) R values c h = no_eq (suc (suc (length ms))) 1 h (λ e. omega (arith, e))

called_is : (f : Function) (name : NameRef) (args : List Meant) (R : Reading) (values : List Value) (c : Context) → accepts f (length args) ≡ true → Made f name args R values c
called_is function.Last = last_is
called_is function.Position = position_is
called_is function.True = true_is
called_is function.False = false_is
called_is function.Current = current_is
called_is function.Count = count_is
called_is function.Sum = sum_is
called_is function.Id = id_is
called_is function.Key = key_is
called_is function.LocalName = localName_is
called_is function.NamespaceUri = namespaceUri_is
called_is function.Name = name_is
called_is function.GenerateId = generateId_is
called_is function.String = string_is
called_is function.StringLength = stringLength_is
called_is function.NormalizeSpace = normalizeSpace_is
called_is function.Number = number_is
called_is function.StartsWith = startsWith_is
called_is function.Contains = contains_is
called_is function.SubstringBefore = substringBefore_is
called_is function.SubstringAfter = substringAfter_is
called_is function.Concat = concat_is
called_is function.Substring = substring_is
called_is function.Translate = translate_is
called_is function.Boolean = boolean_is
called_is function.Not = not_is
called_is function.Lang = lang_is
called_is function.Floor = floor_is
called_is function.Ceiling = ceiling_is
called_is function.Round = round_is

-- ---- a number of arguments that the function does not take

last_not : (name : NameRef) (args : List Meant) (R : Reading) (values : List Value) (c : Context) → accepts function.Last (length args) ≡ false → called function.Last name args R values c ≡ nothing
last_not name [] R values c h = absurd (false≢true (sym h))
last_not name (m ∷ ms) R values c h = refl

position_not : (name : NameRef) (args : List Meant) (R : Reading) (values : List Value) (c : Context) → accepts function.Position (length args) ≡ false
    → called function.Position name args R values c ≡ nothing
position_not name [] R values c h = absurd (false≢true (sym h))
position_not name (m ∷ ms) R values c h = refl

true_not : (name : NameRef) (args : List Meant) (R : Reading) (values : List Value) (c : Context) → accepts function.True (length args) ≡ false → called function.True name args R values c ≡ nothing
true_not name [] R values c h = absurd (false≢true (sym h))
true_not name (m ∷ ms) R values c h = refl

false_not : (name : NameRef) (args : List Meant) (R : Reading) (values : List Value) (c : Context) → accepts function.False (length args) ≡ false → called function.False name args R values c ≡ nothing
false_not name [] R values c h = absurd (false≢true (sym h))
false_not name (m ∷ ms) R values c h = refl

current_not : (name : NameRef) (args : List Meant) (R : Reading) (values : List Value) (c : Context) → accepts function.Current (length args) ≡ false
    → called function.Current name args R values c ≡ nothing
current_not name [] R values c h = absurd (false≢true (sym h))
current_not name (m ∷ ms) R values c h = refl

count_not : (name : NameRef) (args : List Meant) (R : Reading) (values : List Value) (c : Context) → accepts function.Count (length args) ≡ false → called function.Count name args R values c ≡ nothing
count_not name [] R values c h = refl
count_not name (m ∷ []) R values c h = absurd (false≢true (sym h))
count_not name (m ∷ k ∷ ms) R values c h = refl

sum_not : (name : NameRef) (args : List Meant) (R : Reading) (values : List Value) (c : Context) → accepts function.Sum (length args) ≡ false → called function.Sum name args R values c ≡ nothing
sum_not name [] R values c h = refl
sum_not name (m ∷ []) R values c h = absurd (false≢true (sym h))
sum_not name (m ∷ k ∷ ms) R values c h = refl

id_not : (name : NameRef) (args : List Meant) (R : Reading) (values : List Value) (c : Context) → accepts function.Id (length args) ≡ false → called function.Id name args R values c ≡ nothing
id_not name [] R values c h = refl
id_not name (m ∷ []) R values c h = absurd (false≢true (sym h))
id_not name (m ∷ k ∷ ms) R values c h = refl

boolean_not : (name : NameRef) (args : List Meant) (R : Reading) (values : List Value) (c : Context) → accepts function.Boolean (length args) ≡ false
    → called function.Boolean name args R values c ≡ nothing
boolean_not name [] R values c h = refl
boolean_not name (m ∷ []) R values c h = absurd (false≢true (sym h))
boolean_not name (m ∷ k ∷ ms) R values c h = refl

not_not : (name : NameRef) (args : List Meant) (R : Reading) (values : List Value) (c : Context) → accepts function.Not (length args) ≡ false → called function.Not name args R values c ≡ nothing
not_not name [] R values c h = refl
not_not name (m ∷ []) R values c h = absurd (false≢true (sym h))
not_not name (m ∷ k ∷ ms) R values c h = refl

lang_not : (name : NameRef) (args : List Meant) (R : Reading) (values : List Value) (c : Context) → accepts function.Lang (length args) ≡ false → called function.Lang name args R values c ≡ nothing
lang_not name [] R values c h = refl
lang_not name (m ∷ []) R values c h = absurd (false≢true (sym h))
lang_not name (m ∷ k ∷ ms) R values c h = refl

floor_not : (name : NameRef) (args : List Meant) (R : Reading) (values : List Value) (c : Context) → accepts function.Floor (length args) ≡ false → called function.Floor name args R values c ≡ nothing
floor_not name [] R values c h = refl
floor_not name (m ∷ []) R values c h = absurd (false≢true (sym h))
floor_not name (m ∷ k ∷ ms) R values c h = refl

ceiling_not : (name : NameRef) (args : List Meant) (R : Reading) (values : List Value) (c : Context) → accepts function.Ceiling (length args) ≡ false
    → called function.Ceiling name args R values c ≡ nothing
ceiling_not name [] R values c h = refl
ceiling_not name (m ∷ []) R values c h = absurd (false≢true (sym h))
ceiling_not name (m ∷ k ∷ ms) R values c h = refl

round_not : (name : NameRef) (args : List Meant) (R : Reading) (values : List Value) (c : Context) → accepts function.Round (length args) ≡ false → called function.Round name args R values c ≡ nothing
round_not name [] R values c h = refl
round_not name (m ∷ []) R values c h = absurd (false≢true (sym h))
round_not name (m ∷ k ∷ ms) R values c h = refl

localName_not : (name : NameRef) (args : List Meant) (R : Reading) (values : List Value) (c : Context) → accepts function.LocalName (length args) ≡ false
    → called function.LocalName name args R values c ≡ nothing
localName_not name [] R values c h = absurd (false≢true (sym h))
localName_not name (m ∷ []) R values c h = absurd (false≢true (sym h))
localName_not name (m ∷ k ∷ ms) R values c h = refl

namespaceUri_not : (name : NameRef) (args : List Meant) (R : Reading) (values : List Value) (c : Context) → accepts function.NamespaceUri (length args) ≡ false
    → called function.NamespaceUri name args R values c ≡ nothing
namespaceUri_not name [] R values c h = absurd (false≢true (sym h))
namespaceUri_not name (m ∷ []) R values c h = absurd (false≢true (sym h))
namespaceUri_not name (m ∷ k ∷ ms) R values c h = refl

name_not : (name : NameRef) (args : List Meant) (R : Reading) (values : List Value) (c : Context) → accepts function.Name (length args) ≡ false → called function.Name name args R values c ≡ nothing
name_not name [] R values c h = absurd (false≢true (sym h))
name_not name (m ∷ []) R values c h = absurd (false≢true (sym h))
name_not name (m ∷ k ∷ ms) R values c h = refl

generateId_not : (name : NameRef) (args : List Meant) (R : Reading) (values : List Value) (c : Context) → accepts function.GenerateId (length args) ≡ false
    → called function.GenerateId name args R values c ≡ nothing
generateId_not name [] R values c h = absurd (false≢true (sym h))
generateId_not name (m ∷ []) R values c h = absurd (false≢true (sym h))
generateId_not name (m ∷ k ∷ ms) R values c h = refl

string_not : (name : NameRef) (args : List Meant) (R : Reading) (values : List Value) (c : Context) → accepts function.String (length args) ≡ false
    → called function.String name args R values c ≡ nothing
string_not name [] R values c h = absurd (false≢true (sym h))
string_not name (m ∷ []) R values c h = absurd (false≢true (sym h))
string_not name (m ∷ k ∷ ms) R values c h = refl

stringLength_not : (name : NameRef) (args : List Meant) (R : Reading) (values : List Value) (c : Context) → accepts function.StringLength (length args) ≡ false
    → called function.StringLength name args R values c ≡ nothing
stringLength_not name [] R values c h = absurd (false≢true (sym h))
stringLength_not name (m ∷ []) R values c h = absurd (false≢true (sym h))
stringLength_not name (m ∷ k ∷ ms) R values c h = refl

normalizeSpace_not : (name : NameRef) (args : List Meant) (R : Reading) (values : List Value) (c : Context) → accepts function.NormalizeSpace (length args) ≡ false
    → called function.NormalizeSpace name args R values c ≡ nothing
normalizeSpace_not name [] R values c h = absurd (false≢true (sym h))
normalizeSpace_not name (m ∷ []) R values c h = absurd (false≢true (sym h))
normalizeSpace_not name (m ∷ k ∷ ms) R values c h = refl

number_not : (name : NameRef) (args : List Meant) (R : Reading) (values : List Value) (c : Context) → accepts function.Number (length args) ≡ false
    → called function.Number name args R values c ≡ nothing
number_not name [] R values c h = absurd (false≢true (sym h))
number_not name (m ∷ []) R values c h = absurd (false≢true (sym h))
number_not name (m ∷ k ∷ ms) R values c h = refl

key_not : (name : NameRef) (args : List Meant) (R : Reading) (values : List Value) (c : Context) → accepts function.Key (length args) ≡ false → called function.Key name args R values c ≡ nothing
key_not name [] R values c h = refl
key_not name (m ∷ []) R values c h = refl
key_not name (m ∷ k ∷ []) R values c h = absurd (false≢true (sym h))
key_not name (m ∷ k ∷ l ∷ ms) R values c h = refl

startsWith_not : (name : NameRef) (args : List Meant) (R : Reading) (values : List Value) (c : Context) → accepts function.StartsWith (length args) ≡ false
    → called function.StartsWith name args R values c ≡ nothing
startsWith_not name [] R values c h = refl
startsWith_not name (m ∷ []) R values c h = refl
startsWith_not name (m ∷ k ∷ []) R values c h = absurd (false≢true (sym h))
startsWith_not name (m ∷ k ∷ l ∷ ms) R values c h = refl

contains_not : (name : NameRef) (args : List Meant) (R : Reading) (values : List Value) (c : Context) → accepts function.Contains (length args) ≡ false
    → called function.Contains name args R values c ≡ nothing
contains_not name [] R values c h = refl
contains_not name (m ∷ []) R values c h = refl
contains_not name (m ∷ k ∷ []) R values c h = absurd (false≢true (sym h))
contains_not name (m ∷ k ∷ l ∷ ms) R values c h = refl

substringBefore_not : (name : NameRef) (args : List Meant) (R : Reading) (values : List Value) (c : Context) → accepts function.SubstringBefore (length args) ≡ false
    → called function.SubstringBefore name args R values c ≡ nothing
substringBefore_not name [] R values c h = refl
substringBefore_not name (m ∷ []) R values c h = refl
substringBefore_not name (m ∷ k ∷ []) R values c h = absurd (false≢true (sym h))
substringBefore_not name (m ∷ k ∷ l ∷ ms) R values c h = refl

substringAfter_not : (name : NameRef) (args : List Meant) (R : Reading) (values : List Value) (c : Context) → accepts function.SubstringAfter (length args) ≡ false
    → called function.SubstringAfter name args R values c ≡ nothing
substringAfter_not name [] R values c h = refl
substringAfter_not name (m ∷ []) R values c h = refl
substringAfter_not name (m ∷ k ∷ []) R values c h = absurd (false≢true (sym h))
substringAfter_not name (m ∷ k ∷ l ∷ ms) R values c h = refl

concat_not : (name : NameRef) (args : List Meant) (R : Reading) (values : List Value) (c : Context) → accepts function.Concat (length args) ≡ false
    → called function.Concat name args R values c ≡ nothing
concat_not name args R values c h = absurd (false≢true (sym h))

substring_not : (name : NameRef) (args : List Meant) (R : Reading) (values : List Value) (c : Context) → accepts function.Substring (length args) ≡ false
    → called function.Substring name args R values c ≡ nothing
substring_not name [] R values c h = refl
substring_not name (m ∷ []) R values c h = refl
substring_not name (m ∷ k ∷ []) R values c h = absurd (false≢true (sym h))
substring_not name (m ∷ k ∷ l ∷ []) R values c h = absurd (false≢true (sym h))
substring_not name (m ∷ k ∷ l ∷ n ∷ ms) R values c h = refl

translate_not : (name : NameRef) (args : List Meant) (R : Reading) (values : List Value) (c : Context) → accepts function.Translate (length args) ≡ false
    → called function.Translate name args R values c ≡ nothing
translate_not name [] R values c h = refl
translate_not name (m ∷ []) R values c h = refl
translate_not name (m ∷ k ∷ []) R values c h = refl
translate_not name (m ∷ k ∷ l ∷ []) R values c h = absurd (false≢true (sym h))
translate_not name (m ∷ k ∷ l ∷ n ∷ ms) R values c h = refl

called_not : (f : Function) (name : NameRef) (args : List Meant) (R : Reading) (values : List Value) (c : Context) → accepts f (length args) ≡ false → called f name args R values c ≡ nothing
called_not function.Last = last_not
called_not function.Position = position_not
called_not function.True = true_not
called_not function.False = false_not
called_not function.Current = current_not
called_not function.Count = count_not
called_not function.Sum = sum_not
called_not function.Id = id_not
called_not function.Key = key_not
called_not function.LocalName = localName_not
called_not function.NamespaceUri = namespaceUri_not
called_not function.Name = name_not
called_not function.GenerateId = generateId_not
called_not function.String = string_not
called_not function.StringLength = stringLength_not
called_not function.NormalizeSpace = normalizeSpace_not
called_not function.Number = number_not
called_not function.StartsWith = startsWith_not
called_not function.Contains = contains_not
called_not function.SubstringBefore = substringBefore_not
called_not function.SubstringAfter = substringAfter_not
called_not function.Concat = concat_not
called_not function.Substring = substring_not
called_not function.Translate = translate_not
called_not function.Boolean = boolean_not
called_not function.Not = not_not
called_not function.Lang = lang_not
called_not function.Floor = floor_not
called_not function.Ceiling = ceiling_not
called_not function.Round = round_not

-- ---- a call by its name

is_accepted : (f g : Function) (b : Bool) → accepted_by f b ≡ Some g → (b ≡ true) × (f ≡ g)
is_accepted f g true e = (refl, cc)
is_accepted f g false e = absurd (let no : ⊥ = cc in no)

not_accepted : (f : Function) (b : Bool) → accepted_by f b ≡ None → b ≡ false
not_accepted f true e = absurd (let no : ⊥ = cc in no)
not_accepted f false e = refl

by_function : (o : Option Function) (name : NameRef) (f : Function) (args : List Meant) (R : Reading) (values : List Value) (c : Context) → accepted o (length args) ≡ Some f
    → called_if o name args R values c ≡ (arguments f 0 args R values c >>= answer f name.slot R c)
by_function None name f args R values c e = absurd (let no : ⊥ = cc in no)
by_function (Some g) name f args R values c e =
    let p = is_accepted g f (accepts g (length args)) e in
    called_is g name args R values c p.0 ∙ ap (λ h. arguments h 0 args R values c >>= answer h name.slot R c) p.1

by_none : (o : Option Function) (name : NameRef) (args : List Meant) (R : Reading) (values : List Value) (c : Context) → accepted o (length args) ≡ None → called_if o name args R values c ≡ nothing
by_none None name args R values c e = refl
by_none (Some g) name args R values c e = called_not g name args R values c (not_accepted g (accepts g (length args)) e)

pub call_is : (name : NameRef) (f : Function) (args : List Meant) (R : Reading) (values : List Value) (c : Context) → call_of name (length args) ≡ Some f
    → call name args R values c ≡ (arguments f 0 args R values c >>= λ xs. completed f xs R c >>= λ ys. given f name.slot ys R c)
call_is name f args R values c e = by_function (function_of name.prefix name.local) name f args R values c e

pub call_none : (name : NameRef) (args : List Meant) (R : Reading) (values : List Value) (c : Context) → call_of name (length args) ≡ None → call name args R values c ≡ nothing
call_none name args R values c e = by_none (function_of name.prefix name.local) name args R values c e
