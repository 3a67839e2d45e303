-- The turns of items in parts, and of passes beyond the last feed.
use Rattle.std.proofs.Common.{◌≡◌, ℕ, zero, suc, ◌+◌, ◌<◌, ◌≤◌, List, [], ◌∷◌, ◌++◌, true, false, cond, ltb, refl, ap, sym, ◌∙◌, arith, append-nil, append_assoc, ◌-◌, All}
use Rattle.std.proofs.lemmas.Bool.{lt-ltb, le-ltb, false≢true}
use Rattle.std.proofs.lemmas.List.Elements.{All-head, All-tail}
use Rattle.std.specs.List.{list_any}
use Rattle.cmd_words.specs.declared.item.Item.{Item}
use Rattle.cmd_words.specs.declared.item.Item.TheVariants.{Lines, Reader}
use Rattle.cmd_words.specs.Items.{IsItem}
use Rattle.turn_play.specs.Turns.{Run, feeds, repeated, runs, total}

pub total-append : (xs ys : List Item) → total (xs ++ ys) ≡ total xs + total ys
total-append [] ys = omega arith
total-append (Lines count ∷ xs) ys = let rest = total-append xs ys in omega arith
total-append (Reader i ∷ xs) ys = total-append xs ys

pub runs-append : (made : ℕ → ℕ → ℕ) (last fed : ℕ) (xs ys : List Item) → runs made last fed (xs ++ ys) ≡ runs made last fed xs ++ runs made last (fed + total xs) ys
runs-append made last fed [] ys = let at : fed ≡ fed + 0 = omega arith in ap (λ k. runs made last k ys) at
runs-append made last fed (Lines count ∷ xs) ys =
    let at : fed + count + total xs ≡ fed + (count + total xs) = omega arith in
    runs-append made last (fed + count) xs ys ∙ ap (λ k. runs made last (fed + count) xs ++ runs made last k ys) at
runs-append made last fed (Reader i ∷ xs) ys =
    let one : List Run = cond (ltb fed last) (record { reader = i; made = made i fed } ∷ []) [] in
    ap (λ l. one ++ l) (runs-append made last fed xs ys) ∙ sym (append_assoc one (runs made last fed xs) (runs made last (fed + total xs) ys))

-- an item after the last feed gives no turn
pub runs-over : (made : ℕ → ℕ → ℕ) (last fed : ℕ) (items : List Item) → last ≤ fed → runs made last fed items ≡ []
runs-over made last fed [] le = refl
runs-over made last fed (Lines count ∷ items) le = let more : last ≤ fed + count = omega arith in runs-over made last (fed + count) items more
runs-over made last fed (Reader i ∷ items) le =
    ap (λ b. cond b (record { reader = i; made = made i fed } ∷ []) [] ++ runs made last fed items) (le-ltb fed last le) ∙ runs-over made last fed items le

-- one turn before the last feed
pub runs-one : (made : ℕ → ℕ → ℕ) (last fed i : ℕ) (items : List Item) → fed < last →
    runs made last fed (Reader i ∷ items) ≡ record { reader = i; made = made i fed } ∷ runs made last fed items
runs-one made last fed i items lt = ap (λ b. cond b (record { reader = i; made = made i fed } ∷ []) [] ++ runs made last fed items) (lt-ltb fed last lt)

pub repeated-append : (n m : ℕ) (items : List Item) → repeated (n + m) items ≡ repeated n items ++ repeated m items
repeated-append zero m items = let at : 0 + m ≡ m = omega arith in ap (λ k. repeated k items) at
repeated-append (suc n) m items =
    let at : suc n + m ≡ suc (n + m) = omega arith in
    ap (λ k. repeated k items) at ∙ ap (λ l. items ++ l) (repeated-append n m items) ∙ sym (append_assoc items (repeated n items) (repeated m items))

-- items that feed ask for a line at least
pub total-feeds : (readers : ℕ) (items : List Item) → All (IsItem readers) items → list_any feeds items ≡ true → 1 ≤ total items
total-feeds readers [] each some = absurd (false≢true some)
total-feeds readers (Lines count ∷ items) each some = omega (arith, (All-head (IsItem readers) (Lines count) items each).0)
total-feeds readers (Reader i ∷ items) each some = total-feeds readers items (All-tail (IsItem readers) (Reader i) items each) some

-- items that don't feed ask for none
pub total-still : (items : List Item) → list_any feeds items ≡ false → total items ≡ 0
total-still [] none = refl
total-still (Lines count ∷ items) none = absurd (false≢true (sym none))
total-still (Reader i ∷ items) none = total-still items none

-- each pass asks for a line at least
total-repeated : (n : ℕ) (items : List Item) → 1 ≤ total items → n ≤ total (repeated n items)
total-repeated zero items some = omega arith
total-repeated (suc n) items some = omega (arith, total-append items (repeated n items), total-repeated n items some)

-- one pass more
pub repeated-more : (n : ℕ) (items : List Item) → repeated (n + 1) items ≡ repeated n items ++ items
repeated-more n items = repeated-append n 1 items ∙ ap (λ l. repeated n items ++ l) (append-nil items)

pub runs-more : (made : ℕ → ℕ → ℕ) (last n : ℕ) (items : List Item) →
    runs made last 0 (repeated (n + 1) items) ≡ runs made last 0 (repeated n items) ++ runs made last (total (repeated n items)) items
runs-more made last n items =
    let at : 0 + total (repeated n items) ≡ total (repeated n items) = omega arith in
    ap (λ l. runs made last 0 l) (repeated-more n items) ∙ runs-append made last 0 (repeated n items) items
    ∙ ap (λ k. runs made last 0 (repeated n items) ++ runs made last k items) at

-- the passes up to the one in which the last feed comes give all turns
pub runs-passes : (made : ℕ → ℕ → ℕ) (last n more : ℕ) (items : List Item) → 1 ≤ total items → more < total items →
    last ≡ total (repeated n items) + more + 1 →
    runs made last 0 (repeated n items) ++ runs made last (total (repeated n items)) items ≡ runs made last 0 (repeated last items)
runs-passes made last n more items some within found =
    let many = total-repeated n items some in
    let rest : ℕ = last - (n + 1) in
    let parts : last ≡ (n + 1) + rest = omega (arith, many, found) in
    let grown : total (repeated (n + 1) items) ≡ total (repeated n items) + total items = ap total (repeated-more n items) ∙ total-append (repeated n items) items in
    let over : runs made last (0 + total (repeated (n + 1) items)) (repeated rest items) ≡ [] = runs-over made last _ (repeated rest items) (omega (arith, grown, within, found)) in
    let whole : runs made last 0 (repeated last items) ≡ runs made last 0 (repeated (n + 1) items) =
    ap (λ k. runs made last 0 (repeated k items)) parts
    ∙ ap (λ l. runs made last 0 l) (repeated-append (n + 1) rest items)
    ∙ runs-append made last 0 (repeated (n + 1) items) (repeated rest items)
    ∙ ap (λ l. runs made last 0 (repeated (n + 1) items) ++ l) over
    ∙ append-nil _ in
    sym (whole ∙ runs-more made last n items)
