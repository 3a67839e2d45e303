-- What an end does to the words, and the words of an empty table.
use Rattle.std.proofs.Common.{◌≡◌, ℕ, zero, suc, ◌<◌, ◌≤◌, true, false, eqb, List, [], ◌∷◌, ◌++◌, length, Option, Some, None, get_or, set, refl, ap, sym, ◌∙◌, subst, arith, length-set, inl, inr}
use Rattle.std.proofs.lemmas.Bool.{false≢true, or_cases, eqb-true}
use Rattle.doc_model.specs.declared.row.Row.{Row}
use Rattle.doc_model.specs.declared.step.Step.{Step}
use Rattle.doc_model.specs.declared.step.Step.TheVariants.{End as end_step}
use Rattle.doc_model.specs.declared.step.Verdict.{Verdict}
use Rattle.doc_model.specs.declared.step.Verdict.TheVariants.{Good, Bad, Failed, Starved, Upstream}
use Rattle.doc_model.specs.Cells.{Columns, name_at, empty_cells, place_at, row_of, no_name, no_prefix}
use Rattle.doc_model.specs.Document.{Document, after, document_of, is_member, open_after}
use Rattle.doc_model.specs.Lawful.{CanEnd}
use Rattle.doc_model.specs.Legal.{IsSameName, EndFits, NameFits, PrefixFits, RowFits}
use Rattle.doc_model.specs.Relations.{attr_count_of, extent_of, next_sibling}
use Rattle.doc_model.specs.Rows.{rows_of, root_row, row_at}
use Rattle.doc_model.specs.Shown.{prev_shown}
use Rattle.doc_laws.specs.Words.{LinksHold, ExtentsHold, link_of}
use Rattle.doc_model.specs.declared.row.Kind.{Kind}
use Rattle.doc_model.specs.declared.row.Kind.TheVariants.{Root, Text, Comment}
use Rattle.doc_laws.proofs.Stack.{StackOf, IsOpenAt, stack_covers, stack_of}
use Rattle.doc_laws.proofs.Links.{next_past}
use Rattle.doc_laws.proofs.Words.{extents_shut}
use Rattle.doc_laws.proofs.Root.{root_at, root_extent}
use Rattle.plain_columns.specs.Link.{extent_after}
use Rattle.plain_columns.specs.Spelled.{Spelled, WordsHold, Placed, FewSteps}
use Rattle.doc_laws.proofs.Growth.{document_of-push}
use Rattle.doc_laws.proofs.Ends.{lawful_push}

good_extents : (rows : List Row) (opened : List ℕ) (extent : List ℕ) → StackOf rows opened → IsOpenAt rows zero zero → length opened ≡ 1 → 0 < length extent
    → ExtentsHold rows opened extent → ExtentsHold rows [] (set extent 0 (extent_of rows zero))
good_extents rows [] extent s r l f x = absurd (omega arith)
good_extents rows (o ∷ p ∷ os) extent s r l f x = absurd (omega arith)
good_extents rows (o ∷ []) extent s r l f x =
    let m = stack_covers rows (o ∷ []) 0 s r.within (λ j a b. omega (arith, r.depth, r.below j a b)) (omega (arith, r.depth)) in
    let z : 0 ≡ o = zero_is o m in
    subst (λ k. ExtentsHold rows [] (set extent k (extent_of rows k))) (sym z) (extents_shut rows o [] extent s x (omega (arith, z)))
  where
    zero_is : (o : ℕ) → is_member 0 (o ∷ []) ≡ true → 0 ≡ o
    zero_is o m = elim (or_cases (eqb 0 o) false m) [ inl e ↦ eqb-true 0 o e | inr e ↦ absurd (false≢true e) ]

end_extents : (v : Verdict) (rows : List Row) (opened : List ℕ) (extent : List ℕ) → StackOf rows opened → IsOpenAt rows zero zero → CanEnd v opened → 0 < length extent
    → ExtentsHold rows opened extent → ExtentsHold rows (open_after v opened) (extent_after v (extent_of rows zero) extent)
end_extents Good rows opened extent s r c f x = good_extents rows opened extent s r c f x
end_extents (Bad q) rows opened extent s r c f x = x
end_extents Failed rows opened extent s r c f x = x
end_extents Starved rows opened extent s r c f x = x
end_extents Upstream rows opened extent s r c f x = x

pub words_end : (c : Columns) (steps : List Step) (v : Verdict) (count : ℕ) (first next extent : List ℕ) (w : Option Verdict)
    → WordsHold steps first next extent w → EndFits (record { columns = c; steps = steps }) v → count ≡ length (rows_of steps) → 0 < length extent
    → WordsHold (steps ++ end_step v ∷ []) first next (extent_after v count extent) (Some v)
words_end c steps v count first next extent w h j e f =
    let s = stack_of steps h.lawful in
    let r : document_of (steps ++ end_step v ∷ []) ≡ after (document_of steps) (end_step v) = document_of-push steps (end_step v) in
    let n : count ≡ extent_of (rows_of steps) 0 = e ∙ sym (root_extent steps h.lawful) in
    record {
      lawful = lawful_push steps (end_step v) h.lawful j.going j.may;
      links = subst (λ (q : Document). LinksHold q.rows first next) (sym r) h.links;
      extents = subst (λ (q : Document). ExtentsHold q.rows q.opened (extent_after v count extent)) (sym r)
          (rw n (end_extents v (rows_of steps) (document_of steps).opened extent s (root_at steps h.lawful) j.may f h.extents));
      ended = sym (ap (λ (q : Document). q.ended) r);
    }

pub few_end : (s : Document) (v : Verdict) (count : ℕ) → FewSteps s count → FewSteps (after s (end_step v)) count
few_end s v count f = omega (arith, f, fewer v s.opened)
  where
    fewer : (v : Verdict) (os : List ℕ) → length (open_after v os) ≤ length os
    fewer Good os = omega arith
    fewer (Bad f) os = omega arith
    fewer Failed os = omega arith
    fewer Starved os = omega arith
    fewer Upstream os = omega arith

pub length-extent_after : (v : Verdict) (n : ℕ) (xs : List ℕ) → length (extent_after v n xs) ≡ length xs
length-extent_after Good n xs = length-set xs 0 n
length-extent_after (Bad f) n xs = refl
length-extent_after Failed n xs = refl
length-extent_after Starved n xs = refl
length-extent_after Upstream n xs = refl

unset_at : (n : ℕ) → ◌≡◌ {A = ℕ} (get_or (0 ∷ []) n 0) 0
unset_at zero = refl
unset_at (suc n) = refl

pub start_words : WordsHold [] (0 ∷ []) (0 ∷ []) (0 ∷ []) None
start_words = record {
  lawful = tt;
  links = record { firsts = λ n. ap link_of (unset_at n); nexts = λ n. ap link_of (unset_at n) ∙ sym (no_next n) };
  extents = record { unset = λ n h. unset_at n; shut = λ n l p h. absurd (let z : n ≡ 0 = omega arith in false≢true (sym h ∙ ap (λ k. is_member k (0 ∷ [])) z)); fresh = λ n l. unset_at n };
  ended = refl;
}
  where
    no_next : (n : ℕ) → next_sibling (root_row ∷ []) n ≡ None
    no_next zero = refl
    no_next (suc n) = next_past (root_row ∷ []) (suc n) (omega arith)

pub start_spelled : Spelled empty_cells.columns []
start_spelled = record {
  names = λ k l. names k l;
  prefixes = λ k l. let z : k ≡ 0 = omega arith in subst (λ j. PrefixFits empty_cells.columns (get_or empty_cells.columns.prefixes j no_prefix)) (sym z) (omega arith);
  rows = λ k l. let z : k ≡ 0 = omega arith in subst (λ j. RowFits empty_cells.columns (place_at empty_cells.columns j)) (sym z)
      (record { type = omega arith; prefix = omega arith; text = omega arith; parent = omega arith; prev = tt; kind = refl });
  entries = tt;
  distinct = distinct;
}
  where
    names : (k : ℕ) → k < 3 → NameFits empty_cells.columns (get_or empty_cells.columns.names k no_name)
    names zero l = record { uri = omega arith; local = omega arith }
    names (suc zero) l = record { uri = omega arith; local = omega arith }
    names (suc (suc zero)) l = record { uri = omega arith; local = omega arith }
    names (suc (suc (suc k))) l = absurd (omega arith)

    apart : (a b : Kind) → a ≡ Root → b ≡ Text → a ≡ b → ⊥
    apart a b e f g = let h : Root ≡ Text = sym e ∙ g ∙ f in cc

    distinct : (j k : ℕ) → j < 3 → k < 3 → IsSameName empty_cells.columns (name_at empty_cells.columns j) (name_at empty_cells.columns k) → j ≡ k
    distinct zero zero l m s = refl
    distinct zero (suc zero) l m s = absurd (apart Root Text refl refl s.kind)
    distinct zero (suc (suc zero)) l m s = let h : Root ≡ Comment = s.kind in cc
    distinct (suc zero) zero l m s = absurd (apart Root Text refl refl (sym s.kind))
    distinct (suc zero) (suc zero) l m s = refl
    distinct (suc zero) (suc (suc zero)) l m s = let h : Text ≡ Comment = s.kind in cc
    distinct (suc (suc zero)) zero l m s = let h : Comment ≡ Root = s.kind in cc
    distinct (suc (suc zero)) (suc zero) l m s = let h : Comment ≡ Text = s.kind in cc
    distinct (suc (suc zero)) (suc (suc zero)) l m s = refl
    distinct (suc (suc (suc j))) k l m s = absurd (omega arith)
    distinct zero (suc (suc (suc k))) l m s = absurd (omega arith)
    distinct (suc zero) (suc (suc (suc k))) l m s = absurd (omega arith)
    distinct (suc (suc zero)) (suc (suc (suc k))) l m s = absurd (omega arith)

pub start_placed : Placed empty_cells.columns [] 1
start_placed = record {
  joined = refl;
  within = omega arith;
  rows = λ n l. let z : n ≡ 0 =
      omega arith in subst (λ k. row_at (root_row ∷ []) k ≡ row_of empty_cells.columns (place_at empty_cells.columns k)) (sym z) refl;
  parents =
      λ n p l. absurd (omega arith);
  prevs = λ n l. let z : n ≡ 0 =
      omega arith in subst (λ k. prev_shown [] (root_row ∷ []) k ≡ (place_at empty_cells.columns k).prev) (sym z) refl;
  counts = λ n l. let z : n ≡ 0 =
      omega arith in subst (λ k. attr_count_of (root_row ∷ []) k ≡ (place_at empty_cells.columns k).attr_count) (sym z) refl;
}
