-- Names and prefixes of a pool, and those of the table.
use Rattle.std.proofs.Common.{◌≡◌, ℕ, zero, suc, ◌+◌, ◌-◌, ◌<◌, Bool, true, false, ◌||◌, List, [], ◌∷◌, ◌++◌, length, Some, None, get_or, refl, ap}
use Rattle.std.proofs.Common.{sym, ◌∙◌, subst, arith, length-append, inl, inr, ◌⊎◌}
use Rattle.std.specs.List.{slice_get}
use Rattle.std.specs.Str.{bytes_eq}
use Rattle.std.proofs.lemmas.Bool.{cases_Bool, cases_lt, cases_eq, and_parts, and_from, eqb-true, eq-eqb, false≢true}
use Rattle.std.proofs.lemmas.List.{get_or_at}
use Rattle.std.proofs.lemmas.Option.{slice_get_within, slice_get-get_or}
use Rattle.std.proofs.lemmas.Slice.Eq.{bytes_eq-Decides}
use Rattle.doc_model.specs.declared.places.NamePlace.{NamePlace}
use Rattle.doc_model.specs.declared.places.PrefixPlace.{PrefixPlace}
use Rattle.doc_model.specs.declared.row.Kind.{Kind}
use Rattle.doc_model.specs.declared.row.Kind.TheVariants.{Root, Element, Attribute, Text, Instruction, Comment}
use Rattle.doc_model.specs.Cells.{Columns, name_at, prefix_at, slice_of, no_name, no_prefix, text_place, padded}
use Rattle.doc_model.specs.Legal.{IsFresh}
use Rattle.doc_model.specs.Numbers.{kind_number}
use Rattle.name_pool.specs.Names.{Name}
use Rattle.node_writer.specs.Filled.{SpellsName, SpellsPrefix, NamesStand, PrefixesStand, IsFuller, name_next, name_texts}
use Rattle.node_writer.specs.Taken.{is_same, is_name_of, is_prefix_of, has_name}
use Rattle.node_writer.proofs.Places.{gap_of, place_behind, padded-length, placed-length, placed_grows, name_texts-length}
use Rattle.node_writer.proofs.Grown.{name_same, prefix_same, spells_name_still, spells_prefix_still, slice_at, slice_end}

kind_at : ℕ → Kind
kind_at zero = Root
kind_at (suc zero) = Element
kind_at (suc (suc zero)) = Attribute
kind_at (suc (suc (suc zero))) = Text
kind_at (suc (suc (suc (suc zero)))) = Instruction
kind_at (suc (suc (suc (suc (suc n))))) = Comment

kind_back : (kind : Kind) → kind_at (kind_number kind) ≡ kind
unfolding kind_at
kind_back Root = refl
kind_back Element = refl
kind_back Attribute = refl
kind_back Text = refl
kind_back Instruction = refl
kind_back Comment = refl

same_kind : (a b : Kind) → kind_number a ≡ kind_number b → a ≡ b
same_kind a b e = sym (kind_back a) ∙ ap kind_at e ∙ kind_back b

bytes_same : (a b : List ℕ) → bytes_eq a b ≡ true → a ≡ b
bytes_same a b h = (bytes_eq-Decides a b).0 h

bytes_refl : (a : List ℕ) → bytes_eq a a ≡ true
bytes_refl a = (bytes_eq-Decides a a).1 refl

same_parts : (a b : Name) → a.kind ≡ b.kind → a.uri ≡ b.uri → a.local ≡ b.local → a ≡ b
same_parts a b k u l =
    let with_kind : Kind → Name = λ q. record { kind = q; uri = a.uri; local = a.local } in
    let with_uri : List ℕ → Name = λ q. record { kind = b.kind; uri = q; local = a.local } in
    let with_local : List ℕ → Name = λ q. record { kind = b.kind; uri = b.uri; local = q } in
    ap with_kind k ∙ ap with_uri u ∙ ap with_local l

pub same_is : (a b : Name) → is_same a b ≡ true → a ≡ b
same_is a b h =
    let p = and_parts _ _ h in
    let q = and_parts _ _ (p.1) in
    same_parts a b (same_kind a.kind b.kind (eqb-true _ _ (p.0))) (bytes_same a.uri b.uri (q.0)) (bytes_same a.local b.local (q.1))

same_self : (a : Name) → is_same a a ≡ true
same_self a = and_from _ _ (eq-eqb _ _ refl) (and_from _ _ (bytes_refl a.uri) (bytes_refl a.local))

or_left : (a b : Bool) → a ≡ true → (a || b) ≡ true
or_left true b e = refl
or_left false b e = absurd (false≢true e)

or_right : (a b : Bool) → b ≡ true → (a || b) ≡ true
or_right true b e = refl
or_right false b e = e

or_neither : (a b : Bool) → a ≡ false → b ≡ false → (a || b) ≡ false
or_neither true b e f = absurd (false≢true (sym e))
or_neither false b e f = f

some_is : {X : Type 0} (x y : X) → Some x ≡ Some y → x ≡ y
some_is x y h = cc

no_some : {X : Type 0} (x : X) → None ≡ Some x → ⊥
no_some x h = cc

pub name_found : (names : List Name) (name : Name) (k : ℕ) → slice_get names k ≡ Some name → is_name_of name names ≡ true
name_found [] name k h = absurd (no_some name h)
name_found (other ∷ names) name zero h = or_left _ _ (ap (is_same name) (some_is other name h) ∙ same_self name)
name_found (other ∷ names) name (suc k) h = or_right (is_same name other) _ (name_found names name k h)

pub name_absent : (names : List Name) (name : Name) → ((k : ℕ) → slice_get names k ≡ Some name → ⊥) → is_name_of name names ≡ false
name_absent [] name h = refl
name_absent (other ∷ names) name h =
    or_neither _ _
    (elim (cases_Bool (is_same name other)) [ inr e ↦ e | inl e ↦ absurd (h 0 (ap (λ n. Some n) (sym (same_is name other e)))) ])
    (name_absent names name (λ k. h (suc k)))

pub prefix_found : (prefixes : List (List ℕ)) (prefix : List ℕ) (k : ℕ) → slice_get prefixes k ≡ Some prefix → is_prefix_of prefix prefixes ≡ true
prefix_found [] prefix k h = absurd (no_some prefix h)
prefix_found (other ∷ prefixes) prefix zero h = or_left _ _ (ap (bytes_eq prefix) (some_is other prefix h) ∙ bytes_refl prefix)
prefix_found (other ∷ prefixes) prefix (suc k) h = or_right (bytes_eq prefix other) _ (prefix_found prefixes prefix k h)

pub prefix_absent : (prefixes : List (List ℕ)) (prefix : List ℕ) → ((k : ℕ) → slice_get prefixes k ≡ Some prefix → ⊥) → is_prefix_of prefix prefixes ≡ false
prefix_absent [] prefix h = refl
prefix_absent (other ∷ prefixes) prefix h =
    or_neither _ _
    (elim (cases_Bool (bytes_eq prefix other)) [ inr e ↦ e | inl e ↦ absurd (h 0 (ap (λ n. Some n) (sym (bytes_same prefix other e)))) ])
    (prefix_absent prefixes prefix (λ k. h (suc k)))

-- an item of a list with one more is an old one or the last
pushed : {X : Type 0} (xs : List X) (y x : X) (k : ℕ) → slice_get (xs ++ y ∷ []) k ≡ Some x → (slice_get xs k ≡ Some x) ⊎ ((k ≡ length xs) × (y ≡ x))
pushed [] y x zero h = inr (refl, some_is y x h)
pushed [] y x (suc k) h = absurd (no_some x h)
pushed (z ∷ xs) y x zero h = inl h
pushed (z ∷ xs) y x (suc k) h = elim (pushed xs y x k h) [ inl e ↦ inl e | inr p ↦ inr (ap suc (p.0), p.1) ]

module _ (c d : Columns) (fuller : IsFuller c d) where
  pub names_still : (names : List Name) → NamesStand c names → d.names ≡ c.names → NamesStand d names
  names_still names s e = record {
    count = ap length e ∙ s.count;
    root = ap (λ xs. get_or xs 0 no_name) e ∙ s.root;
    text = ap (λ xs. get_or xs 1 no_name) e ∙ s.text;
    comment = ap (λ xs. get_or xs 2 no_name) e ∙ s.comment;
    spelled = λ k name h. subst (λ q. SpellsName d q name) (ap (λ xs. get_or xs (3 + k) no_name) (sym e)) (spells_name_still c d fuller (name_at c (3 + k)) name (s.spelled k name h));
  }

  pub prefixes_still : (prefixes : List (List ℕ)) → PrefixesStand c prefixes → d.prefixes ≡ c.prefixes → PrefixesStand d prefixes
  prefixes_still prefixes s e = record {
    count = ap length e ∙ s.count;
    spelled = λ k prefix h. subst (λ q. SpellsPrefix d q prefix) (ap (λ xs. get_or xs k no_prefix) (sym e)) (spells_prefix_still c d fuller (prefix_at c k) prefix (s.spelled k prefix h));
  }

  pub names_pushed : (names : List Name) (place : NamePlace) (name : Name) → NamesStand c names → d.names ≡ c.names ++ place ∷ [] → SpellsName d place name → NamesStand d (names ++ name ∷ [])
  names_pushed names place name s e p = record {
    count = omega (arith, ap length e, length-append c.names (place ∷ []), length-append names (name ∷ []), s.count);
    root = name_same c d fuller 0 (omega (arith, s.count)) ∙ s.root;
    text = name_same c d fuller 1 (omega (arith, s.count)) ∙ s.text;
    comment = name_same c d fuller 2 (omega (arith, s.count)) ∙ s.comment;
    spelled = λ k other h. elim (pushed names name other k h) [
      | inl o ↦ subst (λ q. SpellsName d q other) (sym (name_same c d fuller (3 + k) (omega (arith, s.count, slice_get_within names k other o))))
          (spells_name_still c d fuller (name_at c (3 + k)) other (s.spelled k other o))
      | inr n ↦
          let at : name_at d (3 + k) ≡ place = ap (λ xs. get_or xs (3 + k) no_name) e ∙ get_or_at c.names place [] no_name (3 + k) (omega (arith, s.count, n.0)) in
          subst (λ q. SpellsName d q other) (sym at) (subst (λ m. SpellsName d place m) (n.1) p)
    ];
  }

  pub prefixes_pushed : (prefixes : List (List ℕ)) (place : PrefixPlace) (prefix : List ℕ) → PrefixesStand c prefixes → d.prefixes ≡ c.prefixes ++ place ∷ []
      → SpellsPrefix d place prefix → PrefixesStand d (prefixes ++ prefix ∷ [])
  prefixes_pushed prefixes place prefix s e p = record {
    count = omega (arith, ap length e, length-append c.prefixes (place ∷ []), length-append prefixes (prefix ∷ []), s.count);
    spelled = λ k other h. elim (pushed ([] ∷ prefixes) prefix other k h) [
      | inl o ↦ subst (λ q. SpellsPrefix d q other) (sym (prefix_same c d fuller k (omega (arith, s.count, slice_get_within ([] ∷ prefixes) k other o))))
          (spells_prefix_still c d fuller (prefix_at c k) other (s.spelled k other o))
      | inr n ↦
          let at : prefix_at d k ≡ place = ap (λ xs. get_or xs k no_prefix) e ∙ get_or_at c.prefixes place [] no_prefix k (omega (arith, s.count, n.0)) in
          subst (λ q. SpellsPrefix d q other) (sym at) (subst (λ m. SpellsPrefix d place m) (n.1) p)
    ];
  }

no_root : (kind : Kind) → has_name kind ≡ true → kind ≡ Root → ⊥
no_root kind h e = false≢true (sym (ap has_name e) ∙ h)

no_text : (kind : Kind) → has_name kind ≡ true → kind ≡ Text → ⊥
no_text kind h e = false≢true (sym (ap has_name e) ∙ h)

no_comment : (kind : Kind) → has_name kind ≡ true → kind ≡ Comment → ⊥
no_comment kind h e = false≢true (sym (ap has_name e) ∙ h)

-- the texts of the next name stand at its places once they are filled
pub next_spells : (c d : Columns) (name : Name) → d.texts ≡ name_texts c.texts name.uri name.local → SpellsName d (name_next c name.kind name.uri name.local) name
next_spells c d name e =
    let first : length (padded c.texts ++ name.uri) ≡ text_place (length c.texts) + length name.uri = placed-length c.texts name.uri in
    let len : length d.texts ≡ text_place (text_place (length c.texts) + length name.uri) + length name.local = ap length e ∙ name_texts-length c.texts name.uri name.local in
    let near = place_behind (text_place (length c.texts) + length name.uri) in
    record {
      fits = record { uri = omega (arith, len, near); local = omega (arith, len) };
      kind = refl;
      uri = ap (λ t. slice_of t (text_place (length c.texts)) (length name.uri)) (e ∙ placed_grows (padded c.texts ++ name.uri) name.local)
          ∙ slice_at (padded c.texts) name.uri (gap_of (padded c.texts ++ name.uri) ++ name.local) (text_place (length c.texts)) (length name.uri) (sym (padded-length c.texts)) refl;
      local = ap (λ t. slice_of t (text_place (text_place (length c.texts) + length name.uri)) (length name.local)) e
          ∙ slice_end (padded (padded c.texts ++ name.uri)) name.local (text_place (text_place (length c.texts) + length name.uri)) (length name.local)
          (sym (padded-length (padded c.texts ++ name.uri) ∙ ap text_place first)) refl;
    }

-- a name that the pool doesn't have is new to the table
pub next_is_fresh : (c d : Columns) (names : List Name) (name : Name) → IsFuller c d → NamesStand c names → d.names ≡ c.names → d.texts ≡ name_texts c.texts name.uri name.local
    → has_name name.kind ≡ true
    → ((k : ℕ) → slice_get names k ≡ Some name → ⊥) → IsFresh d (name_next c name.kind name.uri name.local)
next_is_fresh c d names name fuller s e t h absent id l same =
    let stand = names_still c d fuller names s e in
    let next = next_spells c d name t in
    elim (cases_lt id 3) [
      | inl low ↦ elim (cases_eq id 0) [
        | inl z ↦ no_root name.kind h (sym (sym (ap (λ (p : NamePlace). p.kind) (ap (name_at d) z ∙ stand.root)) ∙ same.kind))
        | inr nz ↦ elim (cases_eq id 1) [
          | inl one ↦ no_text name.kind h (sym (sym (ap (λ (p : NamePlace). p.kind) (ap (name_at d) one ∙ stand.text)) ∙ same.kind))
          | inr more ↦
              let two : id ≡ 2 = omega arith in
              no_comment name.kind h (sym (sym (ap (λ (p : NamePlace). p.kind) (ap (name_at d) two ∙ stand.comment)) ∙ same.kind))
        ]
      ]
      | inr high ↦
          let k : ℕ = id - 3 in
          let at : 3 + k ≡ id = omega arith in
          let within : k < length names = omega (arith, stand.count) in
          let found = slice_get-get_or names k name within in
          let other : Name = get_or names k name in
          let was = stand.spelled k other found in
          let pe : name_at d (3 + k) ≡ name_at d id = ap (name_at d) at in
          let ke : other.kind ≡ name.kind = sym was.kind ∙ ap (λ (p : NamePlace). p.kind) pe ∙ same.kind in
          let ue : other.uri ≡ name.uri = sym was.uri ∙ ap (λ (p : NamePlace). slice_of d.texts p.uri_at p.uri_len) pe ∙ same.uri ∙ next.uri in
          let le : other.local ≡ name.local = sym was.local ∙ ap (λ (p : NamePlace). slice_of d.texts p.local_at p.local_len) pe ∙ same.local ∙ next.local in
          let eq : other ≡ name = same_parts other name ke ue le in
          absent k (found ∙ ap (λ n. Some n) eq)
    ]
