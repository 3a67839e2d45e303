-- A name or a prefix that the pool has numbered, in the table.
use Rattle.std.proofs.Common.{◌≡◌, ◌≢◌, ℕ, zero, suc, ◌+◌, ◌-◌, ◌*◌, ◌<◌, ◌≤◌, ◌^◌, Bool, true, false, cond, ◌||◌, List, [], ◌∷◌, ◌++◌, length, Some}
use Rattle.std.proofs.Common.{refl, ap, sym, ◌∙◌, subst, arith, append-nil, length-append, inl, inr}
use Rattle.std.specs.List.{slice_get}
use Rattle.std.proofs.lemmas.Bool.{cases_Bool}
use Rattle.std.proofs.lemmas.List.{get_or_at}
use Rattle.std.proofs.lemmas.List.Sums.{sum_by_push}
use Rattle.std.proofs.lemmas.Option.{slice_get_within}
use Rattle.doc_model.specs.declared.limits.Limits.{Limits}
use Rattle.doc_model.specs.declared.places.PrefixPlace.{PrefixPlace}
use Rattle.doc_model.specs.Cells.{Columns, Cells, name_at, prefix_at, no_prefix, free_of, text_place, padded, text_words}
use Rattle.doc_model.specs.Legal.{IsFresh}
use Rattle.doc_model.specs.Legible.{is_empty}
use Rattle.name_pool.specs.Names.{Name, Pool, IsTypeNumber, IsPrefixNumber, NumbersName, NumbersPrefix, with_name, with_prefix as with_prefix_numbered}
use Rattle.name_pool.specs.Numbers.{IsNew}
use Rattle.node_writer.specs.declared.filler.Filler.{Filler}
use Rattle.node_writer.specs.Filled.{SpellsName, SpellsPrefix, NamesStand, PrefixesStand, IsFuller, name_next, name_texts, with_new_name, with_new_prefix}
use Rattle.node_writer.specs.Filler.{FillerStands, NameFits, NameFilled, IsTypeOf, PrefixFits, PrefixFilled, IsPrefixOf}
use Rattle.node_writer.specs.Taken.{has_name, name_added, prefix_added, name_bytes, prefix_bytes}
use Rattle.node_writer.proofs.Places.{place_near, padded-length, placed-length, placed_grows, name_texts-length, name_texts_grow, text_room, texts_room}
use Rattle.node_writer.proofs.Grown.{slice_end}
use Rattle.node_writer.proofs.Names.{name_found, name_absent, prefix_found, prefix_absent, names_still, names_pushed, prefixes_still, prefixes_pushed, next_spells, next_is_fresh}

pub added_new : (names : List Name) (name : Name) → IsNew names name → name_added names name ≡ names ++ name ∷ []
added_new names name h = ap (λ b. cond b names (names ++ name ∷ [])) (name_absent names name h)

pub added_old : (names : List Name) (name : Name) (k : ℕ) → slice_get names k ≡ Some name → name_added names name ≡ names
added_old names name k h = ap (λ b. cond b names (names ++ name ∷ [])) (name_found names name k h)

module _ (filler : Filler) (limits : Limits) (c : Columns) (stands : FillerStands filler limits c) (name : Name) where
  -- what a new name asks of the room
  pub record NewNameFits : Type 0 where
    pub few : filler.types + 1 < 2 ^ 32
    pub counted : filler.text + (length name.uri + length name.local) ≤ limits.text
    pub room : text_place (text_place filler.at + length name.uri) + length name.local ≤ 7 * text_words limits
    pub names : length filler.pool.names + length filler.pool.prefixes < limits.names
    pub free : 0 < (free_of limits c).names

  pub new_name_fits : NameFits filler limits name → IsNew filler.pool.names name → NewNameFits
  new_name_fits fits new =
      let e = added_new filler.pool.names name new in
      let len : length (name_added filler.pool.names name) ≡ suc (length filler.pool.names) = ap length e ∙ length-append filler.pool.names (name ∷ []) ∙ omega arith in
      let size : name_bytes (name_added filler.pool.names name) ≡ name_bytes filler.pool.names + (length name.uri + length name.local) =
      ap name_bytes e ∙ sum_by_push (λ (n : Name). length n.uri + length n.local) filler.pool.names name in
      let counted : filler.text + (length name.uri + length name.local) ≤ limits.text = omega (arith, fits.text, size) in
      let slots : ℕ = filler.rows + 2 * length filler.pool.names + length filler.pool.prefixes in
      record {
        few = omega (arith, stands.types, stands.names.count, stands.few, fits.names, len);
        counted = counted;
        room = texts_room limits filler.at filler.text slots (length name.uri) (length name.local) stands.gaps counted (omega (arith, fits.rows, fits.names, len));
        names = omega (arith, fits.names, len);
        free = omega (arith, stands.names.count, stands.prefixes.count, fits.names, len);
      }

  -- an old name
  pub old_name : (n : ℕ) → IsTypeNumber filler.pool n name → (n ≢ filler.types) × IsTypeOf c n name × (name_added filler.pool.names name ≡ filler.pool.names)
  old_name n h =
      let within = slice_get_within filler.pool.names (n - 3) name (h.1) in
      let at : 3 + (n - 3) ≡ n = omega (arith, h.0) in (
        λ e. omega (arith, stands.types, stands.names.count, within, h.0, e),
        record {
          within = omega (arith, stands.names.count, within, h.0);
          spells = subst (λ k. SpellsName c (name_at c k) name) at (stands.names.spelled (n - 3) name (h.1));
        },
        added_old filler.pool.names name (n - 3) (h.1),
      )

  -- the number that the pool gave is the next of the table where the name is new, and no other name's
  pub kept_name : (pool : Pool) (n : ℕ) → NumbersName filler.pool pool name n → n ≢ filler.types → NameFilled filler (record filler { pool = pool }) limits c name × IsTypeOf c n name
  kept_name pool n (inl old) ne =
      let o = old_name n (old.0) in
      let same : pool ≡ filler.pool = old.1 in (
        record {
          stands = record {
            at = stands.at;
            gaps = subst (λ (p : Pool). filler.at ≤ filler.text + 6 * (filler.rows + 2 * length p.names + length p.prefixes)) (sym same) stands.gaps;
            rows = stands.rows;
            types = stands.types;
            prefix_numbers = stands.prefix_numbers;
            names = subst (λ (p : Pool). NamesStand c p.names) (sym same) stands.names;
            prefixes = subst (λ (p : Pool). PrefixesStand c p.prefixes) (sym same) stands.prefixes;
            limit = ap (λ (p : Pool). p.limit) same ∙ stands.limit;
            few = stands.few;
            small = stands.small;
            rows_small = stands.rows_small;
          };
          rows = refl;
          names = ap (λ (p : Pool). p.names) same ∙ sym (o.2);
          prefixes = ap (λ (p : Pool). p.prefixes) same;
          text = ap (λ (p : Pool). filler.text + name_bytes p.names) (sym same);
        },
        o.1,
      )
  kept_name pool n (inr new) ne = absurd (ne (omega (arith, stands.types, stands.names.count, new.1)))

  pub is_new_name : (pool : Pool) (n : ℕ) → NumbersName filler.pool pool name n → n ≡ filler.types → IsNew filler.pool.names name × (pool ≡ with_name filler.pool name)
  is_new_name pool n (inl old) e = absurd ((old_name n (old.0)).0 e)
  is_new_name pool n (inr new) e = (new.0, new.2)

  pub new_is_fresh : IsNew filler.pool.names name → has_name name.kind ≡ true → IsFresh (record c { texts = name_texts c.texts name.uri name.local }) (name_next c name.kind name.uri name.local)
  new_is_fresh new h =
      next_is_fresh c (record c { texts = name_texts c.texts name.uri name.local }) filler.pool.names name
      (record { texts = (_, name_texts_grow c.texts name.uri name.local); names = ([], sym (append-nil _)); prefixes = ([], sym (append-nil _)) })
      stands.names refl refl h new

  -- the filler after a new name
  pub new_name_filled : (pool : Pool) (later : Filler) (cells after : Cells) → cells.columns ≡ c → IsNew filler.pool.names name → pool ≡ with_name filler.pool name
      → later ≡ record {
        pool = pool;
        text = filler.text + length name.uri + length name.local;
        at = text_place (text_place filler.at + length name.uri) + length name.local;
        rows =
            filler.rows;
        types = filler.types + 1;
        prefixes = filler.prefixes;
      }
      → after ≡ with_new_name cells name.kind name.uri name.local → NameFilled filler later limits after.columns name
  new_name_filled pool later cells after ce new pe le ae =
      let d : Columns = record { texts = name_texts c.texts name.uri name.local; names = c.names ++ name_next c name.kind name.uri name.local ∷ []; prefixes = c.prefixes; places = c.places } in
      let de : after.columns ≡ d = ap (λ (t : Cells). t.columns) ae ∙ ap (λ (t : Columns). (with_new_name (record { columns = t; steps = cells.steps }) name.kind name.uri name.local).columns) ce in
      let full : IsFuller c d = record {
        texts = (_, name_texts_grow c.texts name.uri name.local);
        names = (name_next c name.kind name.uri name.local ∷ [], refl);
        prefixes =
            ([], sym (append-nil _));
      } in
      let len : length d.texts ≡ text_place (text_place (length c.texts) + length name.uri) + length name.local = name_texts-length c.texts name.uri name.local in
      let more : length (filler.pool.names ++ name ∷ []) ≡ length filler.pool.names + 1 = length-append filler.pool.names (name ∷ []) in
      let count : length d.names ≡ suc (length c.names) = length-append c.names (name_next c name.kind name.uri name.local ∷ []) ∙ omega arith in
      let wanted : Filler = record {
        pool = with_name filler.pool name;
        text = filler.text + length name.uri + length name.local;
        at =
            text_place (text_place filler.at + length name.uri) + length name.local;
        rows = filler.rows;
        types = filler.types + 1;
        prefixes = filler.prefixes;
      } in
      let made : later ≡ wanted = le
      ∙ ap (λ (p : Pool). let r : Filler =
      record {
        pool = p;
        text = filler.text + length name.uri + length name.local;
        at = text_place (text_place filler.at + length name.uri) + length name.local;
        rows =
            filler.rows;
        types = filler.types + 1;
        prefixes = filler.prefixes;
      } in r) pe in
      let e = added_new filler.pool.names name new in
      let size : name_bytes (filler.pool.names ++ name ∷ []) ≡ name_bytes filler.pool.names + (length name.uri + length name.local) =
      sum_by_push (λ (n : Name). length n.uri + length n.local) filler.pool.names name in
      let done : NameFilled filler wanted limits d name = record {
        stands = record {
          at = ap (λ n. text_place (text_place n + length name.uri) + length name.local) stands.at ∙ sym len;
          gaps = omega (arith, stands.gaps, place_near filler.at, place_near (text_place filler.at + length name.uri), more);
          rows = stands.rows;
          types = omega (arith, stands.types, count);
          prefix_numbers = stands.prefix_numbers;
          names = names_pushed c d full filler.pool.names (name_next c name.kind name.uri name.local) name stands.names refl (next_spells c d name refl);
          prefixes = prefixes_still c d full filler.pool.prefixes stands.prefixes refl;
          limit = stands.limit;
          few = stands.few;
          small = stands.small;
          rows_small = stands.rows_small;
        };
        rows = refl;
        names = sym e;
        prefixes = refl;
        text = omega (arith, size);
      } in
      subst (λ (r : Filler). NameFilled filler r limits after.columns name) (sym made) (subst (λ t. NameFilled filler wanted limits t name) (sym de) done)

empty_is : (bytes : List ℕ) → is_empty bytes ≡ true → bytes ≡ []
empty_is [] h = refl
empty_is (byte ∷ bytes) h = absurd cc

or_true : (a b : Bool) → b ≡ true → (a || b) ≡ true
or_true true b e = refl
or_true false b e = e

or_false : (a b : Bool) → a ≡ false → b ≡ false → (a || b) ≡ false
or_false true b e f = absurd cc
or_false false b e f = f

some_same : (a b : List ℕ) → Some a ≡ Some b → a ≡ b
some_same a b h = cc

pub prefix_added_new : (prefixes : List (List ℕ)) (prefix : List ℕ) → IsNew ([] ∷ prefixes) prefix → prefix_added prefixes prefix ≡ prefixes ++ prefix ∷ []
prefix_added_new prefixes prefix h =
    let filled : is_empty prefix ≡ false = elim (cases_Bool (is_empty prefix)) [ inr e ↦ e | inl e ↦ absurd (h 0 (ap (λ p. Some p) (sym (empty_is prefix e)))) ] in
    ap (λ b. cond b prefixes (prefixes ++ prefix ∷ [])) (or_false _ _ filled (prefix_absent prefixes prefix (λ k. h (suc k))))

pub prefix_added_old : (prefixes : List (List ℕ)) (prefix : List ℕ) (n : ℕ) → slice_get ([] ∷ prefixes) n ≡ Some prefix → prefix_added prefixes prefix ≡ prefixes
prefix_added_old prefixes prefix zero h = ap (prefix_added prefixes) (sym (some_same [] prefix h))
prefix_added_old prefixes prefix (suc k) h = ap (λ b. cond b prefixes (prefixes ++ prefix ∷ [])) (or_true _ _ (prefix_found prefixes prefix k h))

module _ (filler : Filler) (limits : Limits) (c : Columns) (stands : FillerStands filler limits c) (prefix : List ℕ) where
  -- what a new prefix asks of the room
  pub record NewPrefixFits : Type 0 where
    pub few : filler.prefixes + 1 < 2 ^ 32
    pub counted : filler.text + length prefix ≤ limits.text
    pub room : text_place filler.at + length prefix ≤ 7 * text_words limits
    pub names : length filler.pool.names + length filler.pool.prefixes < limits.names
    pub free : 0 < (free_of limits c).names

  pub new_prefix_fits : PrefixFits filler limits prefix → IsNew ([] ∷ filler.pool.prefixes) prefix → NewPrefixFits
  new_prefix_fits fits new =
      let e = prefix_added_new filler.pool.prefixes prefix new in
      let len : length (prefix_added filler.pool.prefixes prefix) ≡ suc (length filler.pool.prefixes) = ap length e ∙ length-append filler.pool.prefixes (prefix ∷ []) ∙ omega arith in
      let size : prefix_bytes (prefix_added filler.pool.prefixes prefix) ≡ prefix_bytes filler.pool.prefixes + length prefix =
      ap prefix_bytes e ∙ sum_by_push (λ (p : List ℕ). length p) filler.pool.prefixes prefix in
      let counted : filler.text + length prefix ≤ limits.text = omega (arith, fits.text, size) in
      let slots : ℕ = filler.rows + 2 * length filler.pool.names + length filler.pool.prefixes in
      record {
        few = omega (arith, stands.prefix_numbers, stands.prefixes.count, stands.few, fits.names, len);
        counted = counted;
        room = text_room limits filler.at filler.text slots (length prefix) stands.gaps counted (omega (arith, fits.rows, fits.names, len));
        names = omega (arith, fits.names, len);
        free = omega (arith, stands.names.count, stands.prefixes.count, fits.names, len);
      }

  pub old_prefix : (n : ℕ) → IsPrefixNumber filler.pool n prefix → (n ≢ filler.prefixes) × IsPrefixOf c n prefix × (prefix_added filler.pool.prefixes prefix ≡ filler.pool.prefixes)
  old_prefix n h =
      let within = slice_get_within ([] ∷ filler.pool.prefixes) n prefix h in (
        λ e. omega (arith, stands.prefix_numbers, stands.prefixes.count, within, e),
        record { within = omega (arith, stands.prefixes.count, within); spells = stands.prefixes.spelled n prefix h },
        prefix_added_old filler.pool.prefixes prefix n h,
      )

  pub kept_prefix : (pool : Pool) (n : ℕ) → NumbersPrefix filler.pool pool prefix n → n ≢ filler.prefixes → PrefixFilled filler (record filler { pool = pool }) limits c prefix × IsPrefixOf c n prefix
  kept_prefix pool n (inl old) ne =
      let o = old_prefix n (old.0) in
      let same : pool ≡ filler.pool = old.1 in (
        record {
          stands = record {
            at = stands.at;
            gaps = subst (λ (p : Pool). filler.at ≤ filler.text + 6 * (filler.rows + 2 * length p.names + length p.prefixes)) (sym same) stands.gaps;
            rows = stands.rows;
            types = stands.types;
            prefix_numbers = stands.prefix_numbers;
            names = subst (λ (p : Pool). NamesStand c p.names) (sym same) stands.names;
            prefixes = subst (λ (p : Pool). PrefixesStand c p.prefixes) (sym same) stands.prefixes;
            limit = ap (λ (p : Pool). p.limit) same ∙ stands.limit;
            few = stands.few;
            small = stands.small;
            rows_small = stands.rows_small;
          };
          rows = refl;
          names = ap (λ (p : Pool). p.names) same;
          prefixes = ap (λ (p : Pool). p.prefixes) same ∙ sym (o.2);
          text = ap (λ (p : Pool). filler.text + prefix_bytes p.prefixes) (sym same);
        },
        o.1,
      )
  kept_prefix pool n (inr new) ne = absurd (ne (omega (arith, stands.prefix_numbers, stands.prefixes.count, new.1)))

  pub is_new_prefix : (pool : Pool) (n : ℕ) → NumbersPrefix filler.pool pool prefix n → n ≡ filler.prefixes
      → IsNew ([] ∷ filler.pool.prefixes) prefix × (pool ≡ with_prefix_numbered filler.pool prefix)
  is_new_prefix pool n (inl old) e = absurd ((old_prefix n (old.0)).0 e)
  is_new_prefix pool n (inr new) e = (new.0, new.2)

  -- the filler after a new prefix
  pub new_prefix_filled : (pool : Pool) (later : Filler) (cells after : Cells) → cells.columns ≡ c → IsNew ([] ∷ filler.pool.prefixes) prefix → pool ≡ with_prefix_numbered filler.pool prefix
      → later ≡ record { pool = pool; text = filler.text + length prefix; at = text_place filler.at + length prefix; rows = filler.rows; types = filler.types; prefixes = filler.prefixes + 1 }
      → after ≡ with_new_prefix cells prefix → PrefixFilled filler later limits after.columns prefix × IsPrefixOf after.columns filler.prefixes prefix
  new_prefix_filled pool later cells after ce new pe le ae =
      let place : PrefixPlace = record { at = text_place (length c.texts); len = length prefix } in
      let d : Columns = record { texts = padded c.texts ++ prefix; names = c.names; prefixes = c.prefixes ++ place ∷ []; places = c.places } in
      let de : after.columns ≡ d = ap (λ (t : Cells). t.columns) ae ∙ ap (λ (t : Columns). (with_new_prefix (record { columns = t; steps = cells.steps }) prefix).columns) ce in
      let full : IsFuller c d = record { texts = (_, placed_grows c.texts prefix); names = ([], sym (append-nil _)); prefixes = (place ∷ [], refl) } in
      let len : length d.texts ≡ text_place (length c.texts) + length prefix = placed-length c.texts prefix in
      let more : length (filler.pool.prefixes ++ prefix ∷ []) ≡ length filler.pool.prefixes + 1 = length-append filler.pool.prefixes (prefix ∷ []) in
      let count : length d.prefixes ≡ suc (length c.prefixes) = length-append c.prefixes (place ∷ []) ∙ omega arith in
      let wanted : Filler = record {
        pool = with_prefix_numbered filler.pool prefix;
        text = filler.text + length prefix;
        at = text_place filler.at + length prefix;
        rows =
            filler.rows;
        types = filler.types;
        prefixes = filler.prefixes + 1;
      } in
      let made : later ≡ wanted = le
      ∙ ap (λ (p : Pool). let r : Filler =
      record { pool = p; text = filler.text + length prefix; at = text_place filler.at + length prefix; rows = filler.rows; types = filler.types; prefixes = filler.prefixes + 1 } in r) pe in
      let e = prefix_added_new filler.pool.prefixes prefix new in
      let size : prefix_bytes (filler.pool.prefixes ++ prefix ∷ []) ≡ prefix_bytes filler.pool.prefixes + length prefix = sum_by_push (λ (p : List ℕ). length p) filler.pool.prefixes prefix in
      let spells : SpellsPrefix d place prefix =
      record { fits = omega (arith, len); text = slice_end (padded c.texts) prefix (text_place (length c.texts)) (length prefix) (sym (padded-length c.texts)) refl } in
      let at : prefix_at d filler.prefixes ≡ place = get_or_at c.prefixes place [] no_prefix filler.prefixes (sym stands.prefix_numbers) in
      let done : PrefixFilled filler wanted limits d prefix = record {
        stands = record {
          at = ap (λ n. text_place n + length prefix) stands.at ∙ sym len;
          gaps = omega (arith, stands.gaps, place_near filler.at, more);
          rows = stands.rows;
          types = stands.types;
          prefix_numbers = omega (arith, stands.prefix_numbers, count);
          names = names_still c d full filler.pool.names stands.names refl;
          prefixes = prefixes_pushed c d full filler.pool.prefixes place prefix stands.prefixes refl spells;
          limit = stands.limit;
          few = stands.few;
          small = stands.small;
          rows_small = stands.rows_small;
        };
        rows = refl;
        names = refl;
        prefixes = sym e;
        text = omega (arith, size);
      } in
      let is : IsPrefixOf d filler.prefixes prefix = record { within = omega (arith, stands.prefix_numbers, count); spells = subst (λ p. SpellsPrefix d p prefix) (sym at) spells } in (
        subst (λ (r : Filler). PrefixFilled filler r limits after.columns prefix) (sym made) (subst (λ t. PrefixFilled filler wanted limits t prefix) (sym de) done),
        subst (λ t. IsPrefixOf t filler.prefixes prefix) (sym de) is,
      )
