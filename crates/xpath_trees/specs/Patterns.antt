-- What stands behind the first word of a path of a pattern.
use Rattle.std.specs.Prelude.{◌≡◌, List, [], ◌++◌, Ok, Err}
use Rattle.xpath_syntax.specs.declared.pattern.PatternStart.{PatternStart}
use Rattle.xpath_syntax.specs.declared.pattern.PatternStart.TheVariants as start
use Rattle.xpath_grammar.specs.Words.{name_of, literal_of}
use Rattle.xpath_grammar.specs.Signs.{is_open, is_close, is_comma, is_literal, is_name_literal, begins_pattern_step}
use Rattle.xpath_grammar.specs.Productions as rule
use Rattle.xpath_grammar.specs.Productions.{Production, gives, word, part, either}
use Rattle.xpath_grammar.specs.Grammar.{pattern_path_of}
use Rattle.xpath_words.specs.Seen.{Read}

-- steps
abbrev pub begun_by : PatternStart → Production rule.pattern_path
begun_by s = part rule.pattern_steps (λ ss. gives (pattern_path_of s ss))

-- steps, or none, behind `/` at the front
abbrev pub behind_root : Production rule.pattern_path
behind_root = either begins_pattern_step (begun_by start.Root) (gives (pattern_path_of start.Root []))

-- the steps behind `id('x')` or `key('k', 'x')`
abbrev pub behind_call : PatternStart → Production rule.pattern_path
behind_call s = part rule.more_pattern_steps (λ ss. gives (pattern_path_of s ss))

-- what stands behind `id`, and behind `key`
abbrev pub behind_id : Production rule.pattern_path
behind_id = word is_open (λ o. word is_literal (λ l. word is_close (λ c. behind_call (start.Id (literal_of l.text)))))

abbrev pub behind_key : Production rule.pattern_path
behind_key = word is_open (λ o. word is_name_literal (λ n. word is_comma (λ m. word is_literal (λ l. word is_close (λ c.
    behind_call (start.Key (name_of (literal_of n.text)) (literal_of l.text)))))))

-- the items before, and those that are read behind them
abbrev pub Added : {T : Type 0} → List T → (Read (List T) → Type 0) → Read (List T) → Type 0
Added {T} before P (Ok r) = (more : List T) × (r.0 ≡ before ++ more) × P (Ok (more, r.1))
Added before P (Err r) = P (Err r)
