-- Words that are a plan give one within its limits.
use Rattle.std.proofs.Common.{◌≡◌, ◌≤◌, ◌<◌, ◌+◌, ◌∙◌, ◌&&◌, ◌==◌, ℕ, suc, List, [], ◌∷◌, Bool, true, false, Option, Some, None, IfSome, is_some}
use Rattle.std.proofs.Common.{All, nat_le, nat_lt, if◌then◌else◌, length, map, refl, ap, subst, sym, arith, rules, tests}
use Rattle.std.specs.List.{list_all, filter_map, cons_option, range_with_len}
use Rattle.std.specs.Option.{option_and_then, option_map}
use Rattle.std.proofs.lemmas.Bool.Decides.{nat_tests}
use Rattle.std.proofs.lemmas.List.Elements.{All-nil, All-cons, All-map}
use Rattle.std.proofs.lemmas.List.FromFn.{length-range_with_len, get_or-range_with_len, length-map-range_with_len}
use Rattle.std.proofs.lemmas.List.Splits.{length-slice_split}
use Rattle.cmd_words.specs.declared.item.Item.{Item}
use Rattle.cmd_words.specs.declared.item.Item.TheVariants.{Lines, Reader}
use Rattle.cmd_words.specs.Items.{is_comma, number_of, lines_of_number, reader_of_number, item_of, pieces_of, items_of, line_and_readers, IsItem}
use Rattle.cmd_words.specs.Pairs.{pair_of, pairs_of}
use Rattle.cmd_words.specs.Turns.{IsWithinLimits}
use Rattle.cmd_words.specs.declared.planned.Plan.{Plan}
use Rattle.cmd_words.specs.Words.{are_parts, plan_of_parts, plan_of}

-- a choice that is there is one item more
length-cons_option : {Y : Type 0} (o : Option Y) (ys : List Y) (n : ℕ) → is_some o ≡ true → length ys ≡ n → length (cons_option o ys) ≡ suc n
length-cons_option None ys n some is = absurd (cc)
length-cons_option (Some y) ys n some is = ap suc is

-- where each choice is there, none is left out
length-filter_map_all : {X Y : Type 0} (h : X → Option Y) (xs : List X) → list_all (λ x. is_some (h x)) xs ≡ true → length (filter_map h xs) ≡ length xs
length-filter_map_all h [] all = refl
length-filter_map_all h (x ∷ xs) all =
    let some : is_some (h x) ≡ true = grind (arith, nat_tests, all) in
    let others : list_all (λ y. is_some (h y)) xs ≡ true = grind (arith, nat_tests, all) in
    length-cons_option (h x) (filter_map h xs) (length xs) some (length-filter_map_all h xs others)

All-cons_option : {Y : Type 0} (P : Y → Type 0) (o : Option Y) (ys : List Y) → IfSome o P → All P ys → All P (cons_option o ys)
All-cons_option P None ys holds all = all
All-cons_option P (Some y) ys holds all = All-cons P y ys holds all

-- what holds of each choice holds of all that were chosen
All-filter_map : {X Y : Type 0} (h : X → Option Y) (P : Y → Type 0) → ((x : X) → IfSome (h x) P) → (xs : List X) → All P (filter_map h xs)
All-filter_map h P holds [] = All-nil P
All-filter_map h P holds (x ∷ xs) = All-cons_option P (h x) (filter_map h xs) (holds x) (All-filter_map h P holds xs)

if_passes : {Y : Type 0} (P : Y → Type 0) (test : Bool) (y : Y) → (test ≡ true → P y) → IfSome (if test then Some y else None) P
if_passes P false y holds = tt
if_passes P true y holds = holds refl

either : {Y : Type 0} (P : Y → Type 0) (test : Bool) (o p : Option Y) → IfSome o P → IfSome p P → IfSome (if test then o else p) P
either P false o p first second = second
either P true o p first second = first

and_then : {X Y : Type 0} (P : Y → Type 0) (f : X → Option Y) (o : Option X) → ((x : X) → IfSome (f x) P) → IfSome (option_and_then f o) P
and_then P f None holds = tt
and_then P f (Some x) holds = holds x

lines_item : (readers n : ℕ) → IfSome (lines_of_number n) (IsItem readers)
lines_item readers n = if_passes (IsItem readers) (nat_le 1 n && nat_le n 1000000) (Lines n) (λ passes. (grind (arith, nat_tests, passes), grind (arith, nat_tests, passes)))

reader_item : (readers n : ℕ) → IfSome (reader_of_number readers n) (IsItem readers)
reader_item readers n = if_passes (IsItem readers) (nat_lt n readers) (Reader n) (λ passes. grind (arith, nat_tests, passes))

-- what a text spells is an item
item_item : (readers : ℕ) (text : List ℕ) → IfSome (item_of readers text) (IsItem readers)
item_item readers [] = tt
item_item readers (letter ∷ digits) =
    let reader = option_and_then (reader_of_number readers) (number_of 2 digits) in
    either (IsItem readers) (letter == 98) (option_and_then lines_of_number (number_of 7 digits)) (if letter == 114 then reader else None)
    (and_then (IsItem readers) lines_of_number (number_of 7 digits) (lines_item readers))
    (either (IsItem readers) (letter == 114) reader None (and_then (IsItem readers) (reader_of_number readers) (number_of 2 digits) (reader_item readers)) (tt {0}))

readers_items : (readers : ℕ) → All (IsItem readers) (line_and_readers readers)
readers_items readers = All-cons (IsItem readers) (Lines 1) (map Reader (range_with_len 0 readers)) (omega arith, omega arith)
    (All-map (IsItem readers) Reader (range_with_len 0 readers) (λ k d below.
    let inside : k < readers = omega (arith, below, length-range_with_len 0 readers) in
    let is = get_or-range_with_len 0 readers k d inside in
    omega (arith, is)))

pub within_limits : (list : Option (List ℕ)) (words : List (List ℕ)) → are_parts list words ≡ true →
    IsWithinLimits (record { turns = option_map (items_of (length words)) list; pairs = pairs_of words })
within_limits None words are =
    let each : list_all (λ word. is_some (pair_of word)) words ≡ true = grind (arith, nat_tests, are) in
    let some : 1 ≤ length words = grind (arith, nat_tests, are) in
    let few : length words ≤ 16 = grind (arith, nat_tests, are) in
    let count = length-filter_map_all pair_of words each in
    record {
      some_pair = omega arith;
      few_pairs = omega arith;
      some_turn = omega arith;
      few_turns = omega (arith, length-map-range_with_len Reader 0 (length (pairs_of words)));
      each_turn = readers_items (length (pairs_of words));
    }
within_limits (Some list) words are =
    let each : list_all (λ word. is_some (pair_of word)) words ≡ true = grind (arith, nat_tests, are) in
    let some : 1 ≤ length words = grind (arith, nat_tests, are) in
    let few : length words ≤ 16 = grind (arith, nat_tests, are) in
    let spelled : list_all (λ piece. is_some (item_of (length words) piece)) (pieces_of list) ≡ true = grind (arith, nat_tests, are) in
    let short : length (pieces_of list) ≤ 1000 = grind (arith, nat_tests, are) in
    let count = length-filter_map_all pair_of words each in
    let items = length-filter_map_all (item_of (length words)) (pieces_of list) spelled in
    record {
      some_pair = omega arith;
      few_pairs = omega arith;
      some_turn = omega (arith, length-slice_split is_comma list);
      few_turns = omega arith;
      each_turn = subst (λ readers. All (IsItem readers) (items_of (length words) list)) (sym count)
          (All-filter_map (item_of (length words)) (IsItem (length words)) (item_item (length words)) (pieces_of list));
    }

-- the plan that is made of parts is that of the words which they are
pub plan_of_made : (list : Option (List ℕ)) (pairs words : List (List ℕ)) (plan : Plan) → are_parts list pairs ≡ true → plan_of_parts list pairs ≡ plan_of words →
    plan ≡ record { turns = option_map (items_of (length pairs)) list; pairs = pairs_of pairs } → plan_of words ≡ Some plan
plan_of_made list pairs words plan are split made = sym split ∙ rw (are, made) refl
