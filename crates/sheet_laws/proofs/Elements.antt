-- The elements that the first pass gives have only name tests that are spelled.
use Rattle.std.proofs.Common.{◌≡◌, ap, sym, subst, ℕ, zero, suc, Bool, true, false, List, [], ◌∷◌, Result, Ok, Err}
use Rattle.doc_model.specs.declared.row.Row.{Row}
use Rattle.xml_names.specs.declared.scopes.Binding.{Binding}
use Rattle.xml_names.specs.Bindings.{resolved, xml_binding}
use Rattle.xpath_binding.specs.Names.{Resolution}
use Rattle.sheet_elements.specs.declared.fault.SheetKind.{SheetKind}
use Rattle.sheet_elements.specs.declared.fault.SheetKind.TheVariants as kind
use Rattle.sheet_elements.specs.declared.places.Place.{Place}
use Rattle.sheet_elements.specs.declared.places.Place.TheVariants as place
use Rattle.sheet_elements.specs.declared.tag.Tag.{Tag}
use Rattle.sheet_elements.specs.Content.{content}
use Rattle.sheet_source.specs.declared.tree.Document.{Document}
use Rattle.sheet_source.specs.declared.tree.Element.{Element}
use Rattle.sheet_source.specs.declared.tree.Node.{Node}
use Rattle.sheet_source.specs.declared.tree.Node.TheViews.{out-Node}
use Rattle.sheet_source.specs.declared.tree.Node.TheOpen.{Node-F}
use Rattle.sheet_reading.specs.declared.tree.Given.{Given}
use Rattle.sheet_reading.specs.declared.tree.Item.{Item}
use Rattle.sheet_reading.specs.declared.tree.Item.TheOpen.{Item-F}
use Rattle.sheet_reading.specs.declared.tree.Item.TheVariants as item
use Rattle.sheet_reading.specs.declared.tree.Item.TheVariants.{outs-Element, outs-Text}
use Rattle.sheet_reading.specs.declared.tree.Item.TheViews.{out-Item}
use Rattle.sheet_reading.specs.declared.tree.Judged.{Judged}
use Rattle.sheet_reading.specs.Attributes.{given, kind_or_unused, valued, values}
use Rattle.sheet_reading.specs.Declaring.{inside}
use Rattle.sheet_reading.specs.Elements.{contents, element_item, elements_of, item_of, items, judged, layer, sound}
use Rattle.sheet_reading.specs.Judgement.{◌>>=◌, Judgement, at_line, choice, fault, gives}
use Rattle.sheet_reading.specs.Placing.{behind_node, is_passed_over}
use Rattle.sheet_values.specs.declared.value.Value.{Value}
use Rattle.sheet_values.specs.Values.{value_of}
use Rattle.sheet_laws.proofs.Steps.{Each, each_judged, no_ok, of_judgement, same_ok}
use Rattle.sheet_laws.proofs.Tests.{ValueSpelled, value_spelled}

abbrev pub GivenSpelled : Given → Type 0
GivenSpelled g = ValueSpelled g.value

abbrev pub ElementSpelled : Judged → Type 0
ElementSpelled j = Each GivenSpelled j.given

-- an item whose element has the property
abbrev pub Has : (Judged → Type 0) → Item-F Item Judged → Type 0
Has P (Item-F.Text text) = Unit {0}
Has P (Item-F.Element j) = P j

abbrev pub ItemHas : (Judged → Type 0) → Item → Type 0
ItemHas P i = Has P (out-Item i)

line_value : (line : ℕ) (m : Result Value SheetKind) (v : Value) → at_line line m ≡ Ok v → m ≡ Ok v
line_value line (Ok x) v is = ap Ok (same_ok x v is)
line_value line (Err k) v is = absurd (no_ok (fault line k) v is)

given_spelled : (R : Resolution) (line : ℕ) (t : Tag) (a : Row) (g : Given) → given R line t a ≡ Ok g → GivenSpelled g
unfolding given valued
given_spelled R line t a g is =
    let r = of_judgement (valued R line t a) _ g is in
    let v = line_value line (value_of R (kind_or_unused t a) a.value) (r.0) r.1 in
    subst GivenSpelled (same_ok _ g r.2) (value_spelled R (kind_or_unused t a) a.value (r.0) v)

values_spelled : (R : Resolution) (t : Tag) (e : Element) (gs : List Given) → values R t e ≡ Ok gs → Each GivenSpelled gs
unfolding values
values_spelled R t e gs is = each_judged GivenSpelled (given R e.start.line t) (given_spelled R e.start.line t) e.start.attributes gs is

-- what an element and those in it have
record Both (P : Judged → Type 0) (j : Judged) : Type 0 where
  own : ElementSpelled j
  inner : Each (ItemHas P) j.children

module _ (P : Judged → Type 0) (f : Place → Element → Judgement Judged) (h : (p : Place) (e : Element) (j : Judged) → f p e ≡ Ok j → P j) where
  item_has : (p : Place) (n : Node) (i : Item) → item_of f p n ≡ Ok i → ItemHas P i
  item_has p n i is = by (out-Node n) is
    where
      by : (y : Node-F Node Element) → ◌≡◌ {A = Judgement Item} (elim y [ Node-F.Text text ↦ gives (item.Text text) | Node-F.Element e ↦ element_item f p e ]) (Ok i) → ItemHas P i
      by (Node-F.Text text) s = subst (ItemHas P) (same_ok (item.Text text) i s) (subst (Has P) (sym (outs-Text text)) tt)
      by (Node-F.Element e) s =
          let r = of_judgement (f p e) _ i s in
          subst (ItemHas P) (same_ok (item.Element (r.0)) i r.2) (subst (Has P) (sym (outs-Element (r.0))) (h p e (r.0) r.1))

  items_have : (p : Place) (ns : List Node) (is : List Item) → items f p ns ≡ Ok is → Each (ItemHas P) is
  items_have p [] is s = subst (Each (ItemHas P)) (same_ok [] is s) tt
  items_have p (n ∷ ns) is s = by (λ q js. items_have q ns js) (is_passed_over p n) s
    where
      next : Judgement (List Item)
      next = item_of f p n >>= (λ i. items f (behind_node p n) ns >>= (λ rest. gives (i ∷ rest)))

      by : ((q : Place) (js : List Item) → items f q ns ≡ Ok js → Each (ItemHas P) js) → (b : Bool) → choice b (items f p ns) next ≡ Ok is → Each (ItemHas P) is
      by more true c = more p is c
      by more false c =
          let i = of_judgement (item_of f p n) _ is c in
          let r = of_judgement (items f (behind_node p n) ns) _ is i.2 in
          subst (Each (ItemHas P)) (same_ok (i.0 ∷ r.0) is r.2) (item_has p n (i.0) i.1, more (behind_node p n) (r.0) r.1)

layer_has : (P : Judged → Type 0) (f : List (List Binding) → Place → Element → Judgement Judged) → ((around : List (List Binding)) (p : Place) (e : Element) (j : Judged) → f around p e ≡ Ok j → P j)
    → (around : List (List Binding)) (p : Place) (e : Element) (j : Judged) → layer f around p e ≡ Ok j → Both P j
unfolding contents
layer_has P f h around p e j is =
    let t = of_judgement (sound p e) _ j is in
    let g = of_judgement (values (resolved (inside around e.start.declarations)) (t.0) e) _ j t.2 in
    let c = of_judgement (contents (f (inside around e.start.declarations)) (t.0) e) _ j g.2 in
    subst (Both P) (same_ok _ j c.2) (record {
      own = values_spelled (resolved (inside around e.start.declarations)) (t.0) e (g.0) g.1;
      inner = items_have P (f (inside around e.start.declarations)) (h (inside around e.start.declarations)) (content (t.0)) e.children (c.0) c.1;
    })

Any : Judged → Type 0
Any j = Unit {0}

one_level : (levels : ℕ) (around : List (List Binding)) (p : Place) (e : Element) (j : Judged) → judged levels around p e ≡ Ok j → ElementSpelled j
unfolding judged Any
one_level zero around p e j is = absurd (no_ok (fault e.start.line kind.SheetTooDeep) j is)
one_level (suc levels) around p e j is = (layer_has Any (judged levels) (λ a q d k s. tt) around p e j is).own

two_levels : (levels : ℕ) (around : List (List Binding)) (p : Place) (e : Element) (j : Judged) → judged levels around p e ≡ Ok j → Both ElementSpelled j
unfolding judged
two_levels zero around p e j is = absurd (no_ok (fault e.start.line kind.SheetTooDeep) j is)
two_levels (suc levels) around p e j is = layer_has ElementSpelled (judged levels) (one_level levels) around p e j is

-- what stands in the first of the nodes
abbrev pub TopSpelled : Judged → Type 0
TopSpelled j = Each (ItemHas ElementSpelled) j.children

pub elements_spelled : (document : Document) (root : List Item) → elements_of document ≡ Ok root → Each (ItemHas TopSpelled) root
unfolding elements_of
elements_spelled document root is =
    items_have TopSpelled (judged 100 ((xml_binding ∷ []) ∷ [])) (λ p e j s. (two_levels 100 ((xml_binding ∷ []) ∷ []) p e j s).inner) place.Root document.nodes root is
