-- What the functions on patterns answer is what reading by the grammar answers.
use Rattle.std.proofs.Common.{◌≡◌, sym, ap, ◌∙◌, subst, ℕ, ◌<◌, List, [], ◌∷◌, ◌++◌, append_assoc, append-nil, length, Bor, Ok, Err, Bool, true, false}
use Rattle.xpath_syntax.specs.declared.expression.AxisName.{AxisName}
use Rattle.xpath_syntax.specs.declared.expression.StepExpr.{StepExpr}
use Rattle.xpath_syntax.specs.declared.pattern.Pattern.{Pattern}
use Rattle.xpath_syntax.specs.declared.pattern.PatternPath.{PatternPath}
use Rattle.xpath_syntax.specs.declared.pattern.PatternStep.{PatternStep}
use Rattle.xpath_grammar.specs.declared.sign.Cause.{Cause}
use Rattle.xpath_grammar.specs.declared.sign.Precedence.TheVariants as precedence
use Rattle.xpath_grammar.specs.Words as words
use Rattle.xpath_grammar.specs.Words.{whole_numbers}
use Rattle.xpath_grammar.specs.Signs.{is_operator, is_slash, is_slashes}
use Rattle.xpath_grammar.specs.Productions as rule
use Rattle.xpath_grammar.specs.Productions.{gives, part}
use Rattle.xpath_grammar.specs.Grammar.{pattern_of, pattern_step_of}
use Rattle.xpath_grammar.specs.Reading.{Skips, Reads, read_nothing, read_parts, read_part_fails, read_second}
use Rattle.xpath_words.specs.declared.word.Word.{Word}
use Rattle.xpath_words.specs.Seen.{Read, ReadsSo, Passes, Slashed, seen}
use Rattle.xpath_words.proofs.Steps.{took_first}
use Rattle.xpath_trees.specs.Patterns.{Added}
use Rattle.xpath_trees.proofs.Lengths.{shorter}

-- what a function hands out, as the grammar sees it
abbrev pub viewed : {T : Type 0} → T × Bor (List Word) → T × List words.Word
viewed x = (x.0, seen x.1.now)

-- a step of a pattern is a node test with predicates, on an axis
pub tested_alone : (d : ℕ) (x : AxisName) (ws : List words.Word) (a : Read StepExpr) → ReadsSo d (rule.tested x) ws a
    → Reads whole_numbers d rule.pattern_step (part (rule.tested x) (λ s. gives s)) ws a
tested_alone d x ws (Ok r) h = read_parts h read_nothing
tested_alone d x ws (Err r) h = read_part_fails h

-- the first item that is put into a list
pub pushed_first : {T : Type 0} (none all : List T) (x : T) → none ≡ [] → all ≡ none ++ x ∷ [] → all ≡ x ∷ []
pushed_first none all x n e = e ∙ ap (λ xs. xs ++ x ∷ []) n

-- items behind none are all of them
pub all_added : {T : Type 0} (P : Read (List T) → Type 0) (before xs : List T) (rest : List words.Word) → before ≡ [] → Added before P (Ok (xs, rest)) → P (Ok (xs, rest))
all_added P before xs rest n m = subst (λ xs. P (Ok (xs, rest))) (sym (m.1 ∙ ap (λ before. before ++ m.0) n)) m.2

-- `/` or `//` and a step, and what stands behind them
led_step : {d : ℕ} {ws next : List words.Word} {a : Read (List PatternStep)} (deep : Bool) → Slashed deep ws next
    → Reads whole_numbers d rule.more_pattern_steps
    (part rule.pattern_step (λ s. part rule.more_pattern_steps (λ ss. gives (pattern_step_of deep s ∷ ss)))) next a → ReadsSo d rule.more_pattern_steps ws a
led_step false s r = took_first s.1 r
led_step true s r = read_second s.1 (took_first s.2 r)

pub steps_go : (d : ℕ) (deep : Bool) (ws next rest : List words.Word) (before : List PatternStep) (s : StepExpr) → Slashed deep ws next
    → ReadsSo d rule.pattern_step next (Ok (s, rest)) → (a : Read (List PatternStep))
    → Added (before ++ pattern_step_of deep s ∷ []) (ReadsSo d rule.more_pattern_steps rest) a → Added before (ReadsSo d rule.more_pattern_steps ws) a
steps_go d deep ws next rest before s l h (Ok r) m =
    (pattern_step_of deep s ∷ m.0, m.1 ∙ append_assoc before (pattern_step_of deep s ∷ []) m.0, led_step deep l (read_parts h (read_parts m.2 read_nothing)))
steps_go d deep ws next rest before s l h (Err r) m = led_step deep l (read_parts h (read_part_fails m))

pub steps_fail : {d : ℕ} {ws next : List words.Word} {r : Cause × List words.Word} (deep : Bool) → Slashed deep ws next
    → ReadsSo d rule.pattern_step next (Err r) → ReadsSo d rule.more_pattern_steps ws (Err r)
steps_fail deep l h = led_step deep l (read_part_fails h)

pub steps_end : {d : ℕ} {ws : List words.Word} (before : List PatternStep) → Skips is_slash ws → Skips is_slashes ws → Added before (ReadsSo d rule.more_pattern_steps ws) (Ok (before, ws))
steps_end before s t = ([], sym (append-nil before), read_second s (read_second t read_nothing))

pub fewer_words : {d : ℕ} (deep : Bool) (ws next rest : List Word) (s : StepExpr) → Slashed deep (seen ws) (seen next)
    → ReadsSo d rule.pattern_step (seen next) (Ok (s, seen rest)) → length rest < length ws
fewer_words false ws next rest s l h = shorter ws next rest l.1 h
fewer_words true ws next rest s l h = shorter ws next rest l.2 h

pub steps_begin : (d : ℕ) (ws rest : List words.Word) (s : StepExpr) → ReadsSo d rule.pattern_step ws (Ok (s, rest)) → (a : Read (List PatternStep))
    → Added (pattern_step_of false s ∷ []) (ReadsSo d rule.more_pattern_steps rest) a → ReadsSo d rule.pattern_steps ws a
steps_begin d ws rest s h (Ok r) m = subst (λ ss. ReadsSo d rule.pattern_steps ws (Ok (ss, r.1))) (sym m.1) (read_parts h (read_parts m.2 read_nothing))
steps_begin d ws rest s h (Err r) m = read_parts h (read_part_fails m)

-- `|` and a path, and what stands behind them
pub paths_go : (d : ℕ) (ws next rest : List words.Word) (w : words.Word) (before : List PatternPath) (p : PatternPath)
    → Passes (is_operator precedence.Union) ws w next → ReadsSo d rule.pattern_path next (Ok (p, rest)) → (a : Read (List PatternPath))
    → Added (before ++ p ∷ []) (ReadsSo d rule.more_patterns rest) a → Added before (ReadsSo d rule.more_patterns ws) a
paths_go d ws next rest w before p c h (Ok r) m = (p ∷ m.0, m.1 ∙ append_assoc before (p ∷ []) m.0, took_first c (read_parts h (read_parts m.2 read_nothing)))
paths_go d ws next rest w before p c h (Err r) m = took_first c (read_parts h (read_part_fails m))

pub paths_end : {d : ℕ} {ws : List words.Word} (before : List PatternPath) → Skips (is_operator precedence.Union) ws → Added before (ReadsSo d rule.more_patterns ws) (Ok (before, ws))
paths_end before s = ([], sym (append-nil before), read_second s read_nothing)

-- the pattern of paths that were read
abbrev pub as_pattern : Read (List PatternPath) → Read Pattern
as_pattern (Ok r) = Ok (pattern_of r.0, r.1)
as_pattern (Err r) = Err r

pub pattern_begins : (d : ℕ) (ws rest : List words.Word) (p : PatternPath) → ReadsSo d rule.pattern_path ws (Ok (p, rest)) → (a : Read (List PatternPath))
    → Added (p ∷ []) (ReadsSo d rule.more_patterns rest) a → ReadsSo d rule.pattern ws (as_pattern a)
pattern_begins d ws rest p h (Ok r) m = subst (λ ps. ReadsSo d rule.pattern ws (Ok (pattern_of ps, r.1))) (sym m.1) (read_parts h (read_parts m.2 read_nothing))
pattern_begins d ws rest p h (Err r) m = read_parts h (read_part_fails m)
