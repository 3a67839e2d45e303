-- Where the first line feed stands, by a search that goes on where it stopped.
use Rattle.std.proofs.Common.{◌≡◌, ℕ, zero, suc, ◌+◌, ◌-◌, ◌<◌, ◌≤◌, ◌==◌, List, [], ◌∷◌, ◌++◌, true, false, not, length, get_or, take, drop, refl, subst, arith}
use Rattle.std.specs.Prelude.{Some, None}
use Rattle.std.proofs.lemmas.Grind.{common_steps}
use Rattle.std.proofs.lemmas.Bool.Decides.{nat_tests}
use Rattle.std.proofs.lemmas.List.{take-append-drop, get_or-drop, length-drop}
use Rattle.std.proofs.lemmas.List.Folds.{list_all-append}
use Rattle.std.proofs.Math.Seq.{take-add}
use Rattle.memchr.specs.Find.{IsFirstByte, is_byte}
use Rattle.pyx_source.specs.Feeds.{HoldsNoFeed}

no_feed_by : (bytes : List ℕ) (k : ℕ) → ((j : ℕ) → j < k → (get_or bytes j 0 == 10) ≡ true → ⊥) → k ≤ length bytes → HoldsNoFeed (take k bytes)
no_feed_by bytes zero none within = refl
no_feed_by [] (suc k) none within = absurd (omega arith)
no_feed_by (b ∷ bytes) (suc k) none within =
    let other : (b == 10) ≡ false = grind (arith, nat_tests, none 0 (omega arith)) in
    let rest : HoldsNoFeed (take k bytes) = no_feed_by bytes k (λ j below. none (suc j) (omega arith)) (omega arith) in
    rw (other, rest) refl

join_no_feed : (front back : List ℕ) → HoldsNoFeed front → HoldsNoFeed back → HoldsNoFeed (front ++ back)
join_no_feed front back one two = rw (list_all-append (λ b. not (b == 10)) front back, one, two) refl

feed_in_rest : (held : List ℕ) (scanned at : ℕ) → scanned ≤ length held → HoldsNoFeed (take scanned held) → IsFirstByte (is_byte 10) (drop scanned held) (Some at) →
    (scanned + at < length held) × (get_or held (scanned + at) 0 ≡ 10) × HoldsNoFeed (take (scanned + at) held)
feed_in_rest held scanned at within seen first =
    let below : at < length held - scanned = omega (arith, first.0.high, length-drop scanned held) in
    let is : (get_or held (scanned + at) 0 == 10) ≡ true = rw (get_or-drop scanned held at 0) at first.1 in
    let byte : get_or held (scanned + at) 0 ≡ 10 = grind (arith, nat_tests, is) in
    let more : HoldsNoFeed (take at (drop scanned held)) = no_feed_by (drop scanned held) at (λ j less. first.0.before j (omega arith) less) (omega (arith, first.0.high)) in
    (omega arith, byte, rw (take-add scanned at held) (join_no_feed (take scanned held) (take at (drop scanned held)) seen more))

whole : (bytes : List ℕ) → IsFirstByte (is_byte 10) bytes None → HoldsNoFeed bytes
whole bytes none =
    let all : take (length bytes) bytes ≡ bytes = grind (arith, common_steps) in
    subst HoldsNoFeed all (no_feed_by bytes (length bytes) (λ j less. none j (omega arith) less) (omega arith))

no_feed_in_rest : (held : List ℕ) (scanned : ℕ) → HoldsNoFeed (take scanned held) → IsFirstByte (is_byte 10) (drop scanned held) None → HoldsNoFeed held
no_feed_in_rest held scanned seen none = subst HoldsNoFeed (take-append-drop scanned held) (join_no_feed (take scanned held) (drop scanned held) seen (whole (drop scanned held) none))

-- the slice from there on is the rest
slice_rest : (held : List ℕ) (scanned : ℕ) → take (length held - scanned) (drop scanned held) ≡ drop scanned held
slice_rest held scanned = grind (arith, common_steps)

pub feed_at : (held : List ℕ) (scanned at : ℕ) → scanned ≤ length held → HoldsNoFeed (take scanned held) →
    IsFirstByte (is_byte 10) (take (length held - scanned) (drop scanned held)) (Some at) →
    (scanned + at < length held) × (get_or held (scanned + at) 0 ≡ 10) × HoldsNoFeed (take (scanned + at) held)
feed_at held scanned at within seen first =
    feed_in_rest held scanned at within seen (subst (λ (rest : List ℕ). IsFirstByte (is_byte 10) rest (Some at)) (slice_rest held scanned) first)

pub no_feed : (held : List ℕ) (scanned : ℕ) → HoldsNoFeed (take scanned held) →
    IsFirstByte (is_byte 10) (take (length held - scanned) (drop scanned held)) None → HoldsNoFeed held
no_feed held scanned seen none =
    no_feed_in_rest held scanned seen (subst (λ (rest : List ℕ). IsFirstByte (is_byte 10) rest None) (slice_rest held scanned) none)
