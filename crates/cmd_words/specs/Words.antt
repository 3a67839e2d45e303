-- Which words are a plan, and which.
use Rattle.std.specs.Prelude.{ℕ, List, [], ◌∷◌, ◌++◌, Bool, true, ◌&&◌, nat_eq, if◌then◌else◌, length, drop, Option, Some, None, codes}
use Rattle.std.specs.List.{starts_with}
use Rattle.std.specs.Option.{option_map}
use Rattle.cmd_words.specs.Items.{is_turns, items_of}
use Rattle.cmd_words.specs.Pairs.{are_pairs, pairs_of}
use Rattle.cmd_words.specs.declared.planned.Plan.{Plan}

-- LIST is a list of turns, if there is one
abbrev pub is_turns_if_any : ℕ → Option (List ℕ) → Bool
is_turns_if_any readers None = true
is_turns_if_any readers (Some list) = is_turns readers list

-- these words are pairs, and LIST is a list of turns for so many readers
abbrev pub are_parts : Option (List ℕ) → List (List ℕ) → Bool
are_parts list pairs = are_pairs pairs && is_turns_if_any (length pairs) list

-- the plan of LIST, if there is one, and of pairs
abbrev pub plan_of_parts : Option (List ℕ) → List (List ℕ) → Option Plan
plan_of_parts list pairs =
    if are_parts list pairs then Some (record { turns = option_map (items_of (length pairs)) list; pairs = pairs_of pairs }) else None

-- the LIST of a word `--turns=LIST`
abbrev pub list_of : List ℕ → Option (List ℕ)
list_of word = if starts_with nat_eq word (codes "--turns=") then Some (drop 8 word) else None

-- the plan of these words, or none: one word `--turns=LIST` may stand first, and the others are pairs
abbrev pub plan_of : List (List ℕ) → Option Plan
plan_of [] = None
plan_of (word ∷ words) = begun_by (list_of word)
  where
    begun_by : Option (List ℕ) → Option Plan
    begun_by None = plan_of_parts None (word ∷ words)
    begun_by (Some list) = plan_of_parts (Some list) words

-- the line that tells which words are a plan
abbrev pub usage_line : List ℕ
usage_line = codes "usage: dtmx_pace [--turns=LIST] builtin=OUT ..." ++ 10 ∷ []
