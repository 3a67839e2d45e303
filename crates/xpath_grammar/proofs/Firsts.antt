-- With which words a production may begin, and which may go on behind it.
use Rattle.std.proofs.Common.{◌≡◌, [], None, Bool, true, false}
use Rattle.std.specs.Prelude.{◌||◌, ◌&&◌, nat_le}
use Rattle.xpath_syntax.specs.declared.expression.Expr.TheVariants as expr
use Rattle.xpath_syntax.specs.declared.expression.TestExpr.TheVariants as test
use Rattle.xpath_syntax.specs.declared.pattern.PatternStart.TheVariants as start
use Rattle.xpath_grammar.specs.declared.sign.Sign.{Sign}
use Rattle.xpath_grammar.specs.declared.sign.Sign.TheVariants as sign
use Rattle.xpath_grammar.specs.declared.sign.Precedence.{Precedence}
use Rattle.xpath_grammar.specs.declared.sign.Precedence.TheVariants as precedence
use Rattle.xpath_grammar.specs.Words.{Word}
use Rattle.xpath_grammar.specs.Signs.{place, precedence_of, is_operator, is_slash, is_slashes, is_open, is_open_square, is_number, is_comma, is_id}
use Rattle.xpath_grammar.specs.Signs.{is_key, begins_test, begins_step, begins_pattern_step, begins_primary, begins_expression}
use Rattle.xpath_grammar.specs.Productions.{Nonterminal, level, more, primary, predicates, relative_tail, call, arguments, more_arguments, location}
use Rattle.xpath_grammar.specs.Productions.{steps, more_steps, step, tested, node_test, pattern, more_patterns, pattern_path, pattern_steps}
use Rattle.xpath_grammar.specs.Productions.{more_pattern_steps, pattern_step, Tree, Production, gives, word, part, either, number, nested}
use Rattle.xpath_grammar.specs.Grammar.{itself, path_of, pattern_of, pattern_path_of}
use Rattle.xpath_grammar.proofs.Fill.{implies}

abbrev pub sample : (m : Nonterminal) → Tree m
sample (level p) = expr.Literal []
sample (more p left) = expr.Literal []
sample primary = expr.Literal []
sample predicates = []
sample relative_tail = None
sample call = []
sample arguments = []
sample more_arguments = []
sample location = path_of true []
sample steps = []
sample more_steps = []
sample step = itself
sample (tested a) = itself
sample node_test = test.Node
sample pattern = pattern_of []
sample more_patterns = []
sample pattern_path = pattern_path_of start.Root []
sample pattern_steps = []
sample more_pattern_steps = []
sample pattern_step = itself

abbrev pub is_slashed : Sign → Bool
is_slashed s = is_slash s || is_slashes s

abbrev pub begins_operand : Sign → Bool
begins_operand s = begins_primary s || is_slashed s || begins_step s

abbrev pub begins_path : Sign → Bool
begins_path s = is_slashed s || is_id s || is_key s || begins_pattern_step s

-- a nonterminal may begin so
abbrev pub starts : Nonterminal → Sign → Bool
starts (level precedence.Path) s = begins_operand s
starts (level precedence.Union) s = begins_operand s
starts (level p) s = begins_expression s
starts (more p left) s = is_operator p s
starts primary s = begins_primary s
starts predicates s = is_open_square s
starts relative_tail s = is_slashed s
starts call s = is_open s
starts arguments s = begins_expression s
starts more_arguments s = is_comma s
starts location s = is_slashed s || begins_step s
starts steps s = begins_step s
starts more_steps s = is_slashed s
starts step s = begins_step s
starts (tested a) s = begins_test s
starts node_test s = begins_test s
starts pattern s = begins_path s
starts more_patterns s = is_operator precedence.Union s
starts pattern_path s = begins_path s
starts pattern_steps s = begins_pattern_step s
starts more_pattern_steps s = is_slashed s
starts pattern_step s = begins_pattern_step s

-- a nonterminal may be of no words
abbrev pub is_empty : Nonterminal → Bool
is_empty (more p left) = true
is_empty predicates = true
is_empty relative_tail = true
is_empty arguments = true
is_empty more_arguments = true
is_empty more_steps = true
is_empty more_patterns = true
is_empty more_pattern_steps = true
is_empty v = false

abbrev pub behind_steps : Sign → Bool
behind_steps s = is_open_square s || is_slashed s

abbrev pub behind_path : Sign → Bool
behind_path s = behind_steps s || begins_step s

abbrev pub is_operator_up_to : Precedence → Sign → Bool
is_operator_up_to p (sign.Operator o) = nat_le (place (precedence_of o)) (place p)
is_operator_up_to p s = false

abbrev pub behind_level : Precedence → Sign → Bool
behind_level p s = is_operator_up_to p s || behind_path s

-- a nonterminal may go on so behind what is one already
abbrev pub eats : Nonterminal → Sign → Bool
eats (level p) s = behind_level p s
eats (more p left) s = behind_level p s
eats primary s = false
eats predicates s = is_open_square s
eats relative_tail s = behind_steps s
eats call s = false
eats arguments s = behind_level precedence.Or s || is_comma s || begins_expression s
eats more_arguments s = behind_level precedence.Or s || is_comma s
eats location s = behind_path s
eats steps s = behind_steps s
eats more_steps s = behind_steps s
eats step s = is_open_square s
eats (tested a) s = is_open_square s
eats node_test s = false
eats pattern s = is_operator precedence.Union s || behind_steps s || begins_pattern_step s
eats more_patterns s = is_operator precedence.Union s || behind_steps s || begins_pattern_step s
eats pattern_path s = behind_steps s || begins_pattern_step s
eats pattern_steps s = behind_steps s
eats more_pattern_steps s = behind_steps s
eats pattern_step s = is_open_square s

-- a production may begin so, and may be of no words
abbrev pub fades : (v : Nonterminal) → Production v → Bool
fades v (gives x) = true
fades v (word t k) = false
fades v (part m k) = is_empty m && fades v (k (sample m))
fades v (either t p q) = fades v p || fades v q
fades v (number k q) = fades v q
fades v (nested t m k q) = fades v q

abbrev pub begins : (v : Nonterminal) → Production v → Sign → Bool
begins v (gives x) s = false
begins v (word t k) s = t s
begins v (part m k) s = starts m s || is_empty m && begins v (k (sample m)) s
begins v (either t p q) s = begins v p s || begins v q s
begins v (number k q) s = is_number s || begins v q s
begins v (nested t m k q) s = t s || begins v q s

-- what goes on behind the one (a) begins no other (b), and goes on behind both (e) where the other may be of no words (f)
abbrev pub apart : Bool → Bool → Bool → Bool → Bool
apart true true f e = false
apart true false true e = e
apart true false false e = true
apart false b f e = true

abbrev pub Apart : Nonterminal → (v : Nonterminal) → Production v → (Sign → Bool) → Type 0
Apart m v p e = (s : Sign) → apart (eats m s) (begins v p s) (fades v p) (e s) ≡ true

-- what the production may begin with doesn't hang on the tree before it
abbrev pub Steady : (v m : Nonterminal) → (Tree m → Production v) → Tree m → Type 0
Steady v m k x = ((s : Sign) → implies (begins v (k x) s) (begins v (k (sample m)) s) ≡ true) × (implies (fades v (k x)) (fades v (k (sample m))) ≡ true)

-- one word of look-ahead tells how a production goes on, where only words follow it that don't go on behind it
abbrev pub Fits : (v : Nonterminal) → Production v → (Sign → Bool) → Type 0
Fits v (gives x) e = Unit {0}
Fits v (word t k) e = (w : Word) → Fits v (k w) e
Fits v (part m k) e = (x : Tree m) → Fits v (k x) e × Apart m v (k x) e × Steady v m k x
Fits v (either t p q) e = Fits v p e × Fits v q e × (fades v p ≡ false) × ((s : Sign) → (implies (begins v p s) (t s) && apart (t s) (begins v q s) (fades v q) (e s)) ≡ true)
Fits v (number k q) e = ((w : Word) → Fits v (k w) e) × Fits v q e × ((s : Sign) → apart (is_number s) (begins v q s) (fades v q) (e s) ≡ true)
Fits v (nested t m k q) e = ((w : Word) (x : Tree m) → Fits v (k w x) e × Apart m v (k w x) e) × Fits v q e × ((s : Sign) → apart (t s) (begins v q s) (fades v q) (e s) ≡ true)
