-- A walk ends: it comes further, or goes up, or has seen the children of a row.
use Rattle.std.proofs.Common.{◌≡◌, ℕ, ◌+◌, ◌-◌, ◌*◌, ◌^◌, ◌<◌, ◌≤◌, Bool, true, false, arith}

abbrev pub down_step : Bool → ℕ
down_step true = 1
down_step false = 0

abbrev pub left_of : ℕ → ℕ → Bool → ℕ
left_of past n down = (2 ^ 32 - past) * 2 ^ 34 + (2 * n + down_step down)

pub further : (past n : ℕ) (down : Bool) (later m : ℕ) → past < later → later < 2 ^ 32 → m < 2 ^ 32 → left_of later m true < left_of past n down
further past n down later m f b c =
    let a : (2 ^ 32 - later) + 1 ≤ 2 ^ 32 - past = omega arith in
    omega (arith, a)

pub seen_children : (past n later : ℕ) → later ≡ past → left_of later n false < left_of past n true
seen_children past n later e = omega arith

pub upwards : (past n later up : ℕ) → later ≡ past → up < n → left_of later up false < left_of past n false
upwards past n later up e l = omega arith
