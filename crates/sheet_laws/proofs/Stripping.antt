-- The rules for whitespace of a stylesheet.
use Rattle.std.proofs.Common.{◌≡◌, refl, ap, ◌∙◌, subst, ℕ, Bool, true, false, cond, ◌&&◌, List, [], ◌∷◌, ◌++◌, map, Option, Some, None, Ok}
use Rattle.std.proofs.lemmas.Bool.{and_from}
use Rattle.std.proofs.lemmas.List.{map-append}
use Rattle.std.specs.Option.{option_or}
use Rattle.std.specs.Prelude.{unwrap_or}
use Rattle.doc_model.specs.declared.strip_rule.StripRule.{StripRule}
use Rattle.doc_model.specs.Strip.{all_spelled, is_spelled}
use Rattle.engine_meaning.specs.Meaning.{strip_rule_of}
use Rattle.engine_meaning.specs.Sizes.{asks_size}
use Rattle.sheet_ast.specs.declared.sheet.Sheet.{Sheet}
use Rattle.sheet_ast.specs.declared.sheet.StripRuleDecl.{StripRuleDecl}
use Rattle.sheet_compile.specs.declared.modules.Module.{Module}
use Rattle.sheet_compile.specs.Compiling.{Compiles, sheet_or_fault}
use Rattle.sheet_compile.specs.Joining.{sheet_from}
use Rattle.sheet_compile.specs.Modules.{children_of_first, module_from, module_of, top_level, unless_flawed}
use Rattle.sheet_elements.specs.declared.tag.Tag.TheVariants as tag
use Rattle.sheet_elements.specs.declared.tag.Word.{Word}
use Rattle.sheet_elements.specs.declared.tag.Word.TheVariants as word
use Rattle.sheet_elements.specs.Names.{same_tag, same_word}
use Rattle.sheet_making.specs.Attributes.{tests_in}
use Rattle.sheet_making.specs.Sheets.{by_element, marked, sheet_of, sheet_with, strip_rule, strip_rules, strips, strips_of}
use Rattle.sheet_names.specs.declared.declaring.Names.{Names}
use Rattle.sheet_names.specs.Judging.{checked_names}
use Rattle.sheet_names.specs.Values.{first_value, given_value}
use Rattle.sheet_reading.specs.declared.tree.Given.{Given}
use Rattle.sheet_reading.specs.declared.tree.Item.{Item}
use Rattle.sheet_reading.specs.declared.tree.Item.TheOpen.{Item-F}
use Rattle.sheet_reading.specs.declared.tree.Item.TheViews.{out-Item}
use Rattle.sheet_reading.specs.declared.tree.Judged.{Judged}
use Rattle.sheet_reading.specs.Elements.{elements_of}
use Rattle.sheet_scopes.specs.declared.scope.ScopeEntry.{ScopeEntry}
use Rattle.sheet_source.specs.declared.tree.Document.{Document}
use Rattle.sheet_source.specs.Nodes.{source_of}
use Rattle.sheet_values.specs.declared.value.NameTest.{NameTest}
use Rattle.sheet_values.specs.declared.value.Value.{Value}
use Rattle.sheet_values.specs.declared.value.Value.TheVariants as value
use Rattle.sheet_laws.specs.Running.{CanRun}
use Rattle.sheet_laws.proofs.Elements.{ElementSpelled, GivenSpelled, Has, ItemHas, TopSpelled, elements_spelled}
use Rattle.sheet_laws.proofs.Steps.{Each, of_judgement, same_ok}
use Rattle.sheet_laws.proofs.Tests.{TestSpelled, ValueSpelled}

-- rules that are spelled, as a view takes them
abbrev Spelled : List StripRuleDecl → Type 0
Spelled rules = all_spelled (map strip_rule_of rules) ≡ true

both_spelled : (xs ys : List StripRule) → all_spelled xs ≡ true → all_spelled ys ≡ true → all_spelled (xs ++ ys) ≡ true
both_spelled [] ys a b = b
both_spelled (x ∷ xs) ys a b = let p = parts (is_spelled x) (all_spelled xs) a in and_from (is_spelled x) (all_spelled (xs ++ ys)) p.0 (both_spelled xs ys p.1 b)
  where
    parts : (b c : Bool) → (b && c) ≡ true → (b ≡ true) × (c ≡ true)
    parts true c h = (refl, h)
    parts false c h = absurd cc

append_spelled : (xs ys : List StripRuleDecl) → Spelled xs → Spelled ys → Spelled (xs ++ ys)
append_spelled xs ys a b = ap all_spelled (map-append strip_rule_of xs ys) ∙ both_spelled (map strip_rule_of xs) (map strip_rule_of ys) a b

rules_spelled : (strip : Bool) (ts : List NameTest) → Each TestSpelled ts → Spelled (map (strip_rule strip) ts)
rules_spelled strip [] h = refl
rules_spelled strip (t ∷ ts) h = and_from (is_spelled (strip_rule_of (strip_rule strip t))) (all_spelled (map strip_rule_of (map (strip_rule strip) ts))) h.0 (rules_spelled strip ts h.1)

-- the tests, if there are any
abbrev Perhaps : Option (List NameTest) → Type 0
Perhaps None = Unit {0}
Perhaps (Some ts) = Each TestSpelled ts

value_tests : (v : Value) → ValueSpelled v → Perhaps (tests_in v)
value_tests (value.Expression e) h = tt
value_tests (value.Pattern p) h = tt
value_tests (value.Template ps) h = tt
value_tests (value.Name n) h = tt
value_tests (value.NameTests ts) h = h
value_tests (value.Priority z) h = tt
value_tests (value.IsText b) h = tt
value_tests (value.IsNumber b) h = tt
value_tests (value.IsDescending b) h = tt
value_tests (value.IsYes b) h = tt
value_tests value.Unused h = tt

given_tests : (w : Word) (g : Given) → GivenSpelled g → Perhaps (given_value tests_in w g)
given_tests w g h = by (same_word g.word w)
  where
    by : (b : Bool) → Perhaps (cond b (tests_in g.value) None)
    by true = value_tests g.value h
    by false = tt

either_tests : (o p : Option (List NameTest)) → Perhaps o → Perhaps p → Perhaps (option_or o p)
either_tests None p a b = b
either_tests (Some ts) p a b = a

first_tests : (w : Word) (gs : List Given) → Each GivenSpelled gs → Perhaps (first_value tests_in w gs)
first_tests w [] h = tt
first_tests w (g ∷ gs) h = either_tests (given_value tests_in w g) (first_value tests_in w gs) (given_tests w g h.0) (first_tests w gs h.1)

or_none : (o : Option (List NameTest)) → Perhaps o → Each TestSpelled (unwrap_or o [])
or_none None h = tt
or_none (Some ts) h = h

element_rules : (strip : Bool) (j : Judged) → ElementSpelled j → Spelled (strip_rules strip j)
element_rules strip j h = rules_spelled strip (unwrap_or (first_value tests_in word.Elements j.given) []) (or_none _ (first_tests word.Elements j.given h))

element_strips : (j : Judged) → ElementSpelled j → Spelled (strips_of j)
element_strips j h = by (same_tag j.tag tag.StripSpace) (same_tag j.tag tag.PreserveSpace)
  where
    by : (a b : Bool) → Spelled (cond a (strip_rules true j) (cond b (strip_rules false j) []))
    by true b = element_rules true j h
    by false true = element_rules false j h
    by false false = refl

item_strips : (i : Item) → ItemHas ElementSpelled i → Spelled (by_element strips_of i)
item_strips i h = by (out-Item i) h
  where
    by : (y : Item-F Item Judged) → Has ElementSpelled y → Spelled (elim y [ Item-F.Text text ↦ [] | Item-F.Element e ↦ strips_of e ])
    by (Item-F.Text text) k = refl
    by (Item-F.Element e) k = element_strips e k

strips_spelled : (is : List Item) → Each (ItemHas ElementSpelled) is → Spelled (strips is)
strips_spelled [] h = refl
strips_spelled (i ∷ is) h = append_spelled (by_element strips_of i) (strips is) (item_strips i h.0) (strips_spelled is h.1)

-- what a sheet has, however its paths are marked
abbrev IsFrom : List Item → Sheet → Type 0
IsFrom items sheet = (sheet.keys ≡ []) × (sheet.strips ≡ strips items)

marked_is : (names : Names) (items : List Item) → IsFrom items (marked names items)
unfolding marked sheet_with
marked_is names items = by (asks_size (sheet_with true names [] items))
  where
    by : (b : Bool) → IsFrom items (cond b (sheet_with false names [] items) (sheet_with true names [] items))
    by true = (refl, refl)
    by false = (refl, refl)

-- what stands in the root element
top_spelled : (root : List Item) → Each (ItemHas TopSpelled) root → Each (ItemHas ElementSpelled) (children_of_first root)
top_spelled [] h = tt
top_spelled (i ∷ is) h = by (out-Item i) h.0
  where
    by : (y : Item-F Item Judged) → Has TopSpelled y → Each (ItemHas ElementSpelled) (elim y [ Item-F.Text text ↦ [] | Item-F.Element e ↦ e.children ])
    by (Item-F.Text text) k = tt
    by (Item-F.Element e) k = k

document_spelled : (document : Document) (m : Module) → module_from document ≡ Ok m → Each (ItemHas ElementSpelled) (top_level m)
document_spelled document m is =
    let r = of_judgement (elements_of document) _ m is in
    subst (λ (k : Module). Each (ItemHas ElementSpelled) (top_level k)) (same_ok _ m r.2) (top_spelled (r.0) (elements_spelled document (r.0) r.1))

module_spelled : (bytes : List ℕ) (m : Module) → module_of bytes ≡ Ok m → Each (ItemHas ElementSpelled) (top_level m)
unfolding module_of
module_spelled bytes m is = let d = of_judgement (unless_flawed (source_of bytes)) _ m is in document_spelled (d.0) m d.2

record FromItems (sheet : Sheet) : Type 0 where
  keyless : sheet.keys ≡ []
  spelled : Spelled sheet.strips

sheet_has : (items : List Item) (scopes : List ScopeEntry) (sheet : Sheet) → Each (ItemHas ElementSpelled) items → sheet_from items scopes ≡ Ok sheet → FromItems sheet
unfolding sheet_from
sheet_has items scopes sheet h is =
    let n = of_judgement (checked_names items) _ sheet is in
    let m = marked_is (n.0) items in
    subst FromItems (same_ok (sheet_of (n.0) scopes items) sheet n.2) (record {
      keyless = m.0;
      spelled = ap (λ (rules : List StripRuleDecl). all_spelled (map strip_rule_of rules)) m.1 ∙ strips_spelled items h;
    })

compiled_has : (bytes : List ℕ) (sheet : Sheet) → sheet_or_fault bytes ≡ Ok sheet → FromItems sheet
unfolding sheet_or_fault
compiled_has bytes sheet is =
    let m = of_judgement (module_of bytes) _ sheet is in
    sheet_has (top_level (m.0)) (m.0).scopes sheet (module_spelled bytes (m.0) m.1) m.2

pub can_run : (bytes : List ℕ) (sheet : Sheet) → Compiles bytes (Ok sheet) → CanRun sheet
can_run bytes sheet c = let f = compiled_has bytes sheet c.0 in record { ordered = c.1; keyless = f.keyless; spelled = f.spelled }
