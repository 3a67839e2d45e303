-- What the functions on expressions answer is what reading by the grammar answers.
use Rattle.std.proofs.Common.{◌≡◌, refl, ap, subst, ℕ, suc, List, [], ◌∷◌, ◌++◌, append_assoc, Option, Some, None, Ok, Err, Bool, true, false}
use Rattle.xpath_syntax.specs.declared.expression.AxisName.{AxisName}
use Rattle.xpath_syntax.specs.declared.expression.Expr.{Expr}
use Rattle.xpath_syntax.specs.declared.expression.Expr.TheVariants as expr
use Rattle.xpath_syntax.specs.declared.expression.Op.{Op}
use Rattle.xpath_syntax.specs.declared.expression.Path.{Path}
use Rattle.xpath_syntax.specs.declared.expression.StepExpr.{StepExpr}
use Rattle.xpath_grammar.specs.declared.sign.Precedence.{Precedence}
use Rattle.xpath_grammar.specs.declared.sign.Precedence.TheVariants as precedence
use Rattle.xpath_grammar.specs.declared.sign.Cause.{Cause}
use Rattle.xpath_grammar.specs.declared.sign.Cause.TheVariants as cause
use Rattle.xpath_grammar.specs.Words as words
use Rattle.xpath_grammar.specs.Words.{whole_numbers}
use Rattle.xpath_grammar.specs.Signs.{tighter, is_operator, is_minus, is_slash, is_slashes, is_open_square, is_close_square, is_comma, begins_step, begins_primary, begins_expression, op_of}
use Rattle.xpath_grammar.specs.Productions as rule
use Rattle.xpath_grammar.specs.Productions.{Nonterminal, Tree, Production, gives, word, part, either}
use Rattle.xpath_grammar.specs.Grammar.{path_of, filtered}
use Rattle.xpath_grammar.specs.Reading.{Starts, Skips, Reads, read_nothing, read_wrong, read_parts, read_part_fails, read_first, read_second, read_no_level}
use Rattle.xpath_words.specs.Seen.{Read, ReadsSo, Passes, IsOperator, Slashed, led, led_steps, location_path}
use Rattle.xpath_words.proofs.Steps.{took, took_first, took_level, level_failed}

-- an answer with another tree
abbrev pub onto : {X Y : Type 0} → (X → Y) → Read X → Read Y
onto f (Ok r) = Ok (f r.0, r.1)
onto f (Err r) = Err r

-- a nonterminal alone
pub alone : (d : ℕ) (v m : Nonterminal) (f : Tree m → Tree v) (ws : List words.Word) (a : Read (Tree m)) → ReadsSo d m ws a → Reads whole_numbers d v (part m (λ x. gives (f x))) ws (onto f a)
alone d v m f ws (Ok r) h = read_parts h read_nothing
alone d v m f ws (Err r) h = read_part_fails h

onto_itself : {X : Type 0} (a : Read X) → onto (λ x. x) a ≡ a
onto_itself (Ok r) = refl
onto_itself (Err r) = refl

-- operators behind a left operand, as the last part of an expression or of other operators
pub more_of_level : (d : ℕ) (q p : Precedence) (left : Expr) (ws : List words.Word) (a : Read Expr) → ReadsSo d (rule.more p left) ws a
    → Reads whole_numbers d (rule.level q) (part (rule.more p left) (λ x. gives x)) ws a
more_of_level d q p left ws a h = subst (Reads whole_numbers d (rule.level q) (part (rule.more p left) (λ x. gives x)) ws) (onto_itself a) (alone d (rule.level q) (rule.more p left) (λ x. x) ws a h)

pub more_of_more : (d : ℕ) (q p : Precedence) (before left : Expr) (ws : List words.Word) (a : Read Expr) → ReadsSo d (rule.more p left) ws a
    → Reads whole_numbers d (rule.more q before) (part (rule.more p left) (λ x. gives x)) ws a
more_of_more d q p before left ws a h = subst (Reads whole_numbers d (rule.more q before) (part (rule.more p left) (λ x. gives x)) ws) (onto_itself a)
    (alone d (rule.more q before) (rule.more p left) (λ x. x) ws a h)

-- an operand's precedence
pub at_tighter : (d : ℕ) (p q : Precedence) (ws : List words.Word) (a : Read Expr) → q ≡ tighter p → ReadsSo d (rule.level q) ws a → ReadsSo d (rule.level (tighter p)) ws a
at_tighter d p q ws a e h = subst (λ q. ReadsSo d (rule.level q) ws a) e h

-- an expression of a precedence with the operators behind it
abbrev pub grouped : (p : Precedence) → Production (rule.level p)
grouped p = part (rule.level (tighter p)) (λ left. part (rule.more p left) (λ x. gives x))

-- an operand, and the operators behind it
pub grouped_fails : (d : ℕ) (p : Precedence) (ws : List words.Word) (r : Cause × List words.Word) → ReadsSo d (rule.level (tighter p)) ws (Err r)
    → Reads whole_numbers d (rule.level p) (grouped p) ws (Err r)
grouped_fails d p ws r h = read_part_fails h

pub grouped_goes : (d : ℕ) (p : Precedence) (ws rest : List words.Word) (left : Expr) → ReadsSo d (rule.level (tighter p)) ws (Ok (left, rest))
    → (a : Read Expr) → ReadsSo d (rule.more p left) rest a → Reads whole_numbers d (rule.level p) (grouped p) ws a
grouped_goes d p ws rest left h a m = read_parts h (more_of_level d p p left rest a m)

pub more_goes : (d : ℕ) (p : Precedence) (left right : Expr) (ws next behind : List words.Word) (o : Op) → IsOperator p ws o next
    → ReadsSo d (rule.level (tighter p)) next (Ok (right, behind)) → (a : Read Expr) → ReadsSo d (rule.more p (expr.Binary o left right)) behind a
    → ReadsSo d (rule.more p left) ws a
more_goes d p left right ws next behind o i h a m =
    took_first i.comes (read_parts h (more_of_more d p p left (expr.Binary (op_of i.at.sign) left right) behind a (subst (λ o. ReadsSo d (rule.more p (expr.Binary o left right)) behind a) i.is m)))

pub more_fails : (d : ℕ) (p : Precedence) (left : Expr) (ws next : List words.Word) (o : Op) (r : Cause × List words.Word) → IsOperator p ws o next
    → ReadsSo d (rule.level (tighter p)) next (Err r) → ReadsSo d (rule.more p left) ws (Err r)
more_fails d p left ws next o r i h = took_first i.comes (read_part_fails h)

pub more_ends : (d : ℕ) (p : Precedence) (left : Expr) (ws : List words.Word) → Skips (is_operator p) ws → ReadsSo d (rule.more p left) ws (Ok (left, ws))
more_ends d p left ws s = read_second s read_nothing

-- no minus
pub plain_unary : (d : ℕ) (ws : List words.Word) (a : Read Expr) → Skips is_minus ws → ReadsSo d (rule.level precedence.Union) ws a → ReadsSo d (rule.level precedence.Unary) ws a
plain_unary d ws a s h = read_no_level s (subst
    (Reads whole_numbers d (rule.level precedence.Unary) (part (rule.level precedence.Union) (λ x. gives x)) ws) (onto_itself a)
    (alone d (rule.level precedence.Unary) (rule.level precedence.Union) (λ x. x) ws a h))

-- steps that are led, taken apart
pub led_fails : {d : ℕ} (deep : Bool) {ws : List words.Word} {r : Cause × List words.Word} → Reads whole_numbers d rule.more_steps (led_steps deep) ws (Err r) → ReadsSo d rule.steps ws (Err r)
led_fails deep (read_part_fails h) = h
led_fails deep (read_parts h s) = elim s [ ]

pub record Led (d : ℕ) (deep : Bool) (ws : List words.Word) (ss : List StepExpr) (rest : List words.Word) : Type 0 where
  pub some : List StepExpr
  pub reads : ReadsSo d rule.steps ws (Ok (some, rest))
  pub is : led deep some ≡ ss

pub led_goes : {d : ℕ} (deep : Bool) {ws : List words.Word} {ss : List StepExpr} {rest : List words.Word}
    → Reads whole_numbers d rule.more_steps (led_steps deep) ws (Ok (ss, rest)) → Led d deep ws ss rest
led_goes deep (read_parts {y = y} h read_nothing) = record { some = y; reads = h; is = refl }

-- a relative path behind a primary's predicates
pub tail_none : (d : ℕ) (ws : List words.Word) → Skips is_slash ws → Skips is_slashes ws → ReadsSo d rule.relative_tail ws (Ok (None, ws))
tail_none d ws s t = read_second s (read_second t read_nothing)

pub tail_fails : (d : ℕ) (deep : Bool) (ws next : List words.Word) (r : Cause × List words.Word) → Slashed deep ws next
    → Reads whole_numbers d rule.more_steps (led_steps deep) next (Err r) → ReadsSo d rule.relative_tail ws (Err r)
tail_fails d false ws next r s h = took_first s.1 (read_part_fails (led_fails false h))
tail_fails d true ws next r s h = read_second s.1 (took_first s.2 (read_part_fails (led_fails true h)))

pub tail_goes : (d : ℕ) (deep : Bool) (ws next rest : List words.Word) (ss : List StepExpr) → Slashed deep ws next
    → Reads whole_numbers d rule.more_steps (led_steps deep) next (Ok (ss, rest)) → ReadsSo d rule.relative_tail ws (Ok (Some (path_of false ss), rest))
tail_goes d false ws next rest ss s h = let l =
    led_goes false h in subst (λ ss. ReadsSo d rule.relative_tail ws (Ok (Some (path_of false ss), rest))) l.is (took_first s.1 (read_parts l.reads read_nothing))
tail_goes d true ws next rest ss s h = let l =
    led_goes true h in subst (λ ss. ReadsSo d rule.relative_tail ws (Ok (Some (path_of false ss), rest))) l.is
    (read_second s.1 (took_first s.2 (read_parts l.reads read_nothing)))

-- a primary with predicates and a relative path
pub filter_goes : (d : ℕ) (ws us vs rest : List words.Word) (x : Expr) (ps : List Expr) (t : Option Path) → Starts begins_primary ws
    → ReadsSo d rule.primary ws (Ok (x, us)) → ReadsSo d rule.predicates us (Ok (ps, vs)) → ReadsSo d rule.relative_tail vs (Ok (t, rest))
    → ReadsSo d (rule.level precedence.Path) ws (Ok (filtered x ps t, rest))
filter_goes d ws us vs rest x ps t s h i j = read_first s (read_parts h (read_parts i (read_parts j read_nothing)))

pub filter_tail_fails : (d : ℕ) (ws us vs : List words.Word) (x : Expr) (ps : List Expr) (r : Cause × List words.Word) → Starts begins_primary ws
    → ReadsSo d rule.primary ws (Ok (x, us)) → ReadsSo d rule.predicates us (Ok (ps, vs)) → ReadsSo d rule.relative_tail vs (Err r)
    → ReadsSo d (rule.level precedence.Path) ws (Err r)
filter_tail_fails d ws us vs x ps r s h i j = read_first s (read_parts h (read_parts i (read_part_fails j)))

pub filter_predicates_fail : (d : ℕ) (ws us : List words.Word) (x : Expr) (r : Cause × List words.Word) → Starts begins_primary ws
    → ReadsSo d rule.primary ws (Ok (x, us)) → ReadsSo d rule.predicates us (Err r) → ReadsSo d (rule.level precedence.Path) ws (Err r)
filter_predicates_fail d ws us x r s h i = read_first s (read_parts h (read_part_fails i))

pub filter_fails : (d : ℕ) (ws : List words.Word) (r : Cause × List words.Word) → Starts begins_primary ws → ReadsSo d rule.primary ws (Err r) → ReadsSo d (rule.level precedence.Path) ws (Err r)
filter_fails d ws r s h = read_first s (read_part_fails h)

-- a location path
pub relative_goes : (d : ℕ) (ws rest : List words.Word) (ss : List StepExpr) → Skips is_slash ws → Skips is_slashes ws
    → Reads whole_numbers d rule.more_steps (led_steps false) ws (Ok (ss, rest))
    → Reads whole_numbers d (rule.level precedence.Path) location_path ws (Ok (expr.Path (path_of false ss), rest))
relative_goes d ws rest ss s t h = let l = led_goes false h in
    subst (λ ss. Reads whole_numbers d (rule.level precedence.Path) location_path ws (Ok (expr.Path (path_of false ss), rest))) l.is
    (read_parts (read_second s (read_second t (read_parts l.reads read_nothing))) read_nothing)

pub relative_fails : (d : ℕ) (ws : List words.Word) (r : Cause × List words.Word) → Skips is_slash ws → Skips is_slashes ws
    → Reads whole_numbers d rule.more_steps (led_steps false) ws (Err r) → Reads whole_numbers d (rule.level precedence.Path) location_path ws (Err r)
relative_fails d ws r s t h = read_part_fails (read_second s (read_second t (read_part_fails (led_fails false h))))

pub root_alone : (d : ℕ) (deep : Bool) (ws next : List words.Word) → deep ≡ false → Slashed deep ws next → Skips begins_step next
    → Reads whole_numbers d (rule.level precedence.Path) location_path ws (Ok (expr.Path (path_of true []), next))
root_alone d deep ws next e s k = let f = subst (λ deep. Slashed deep ws next) e s in read_parts (took_first f.1 (read_second k read_nothing)) read_nothing

pub absolute_goes : (d : ℕ) (deep : Bool) (ws next rest : List words.Word) (ss : List StepExpr) → Slashed deep ws next
    → (deep ≡ false → Starts begins_step next) → Reads whole_numbers d rule.more_steps (led_steps deep) next (Ok (ss, rest))
    → Reads whole_numbers d (rule.level precedence.Path) location_path ws (Ok (expr.Path (path_of true ss), rest))
absolute_goes d false ws next rest ss s b h = let l = led_goes false h in
    subst (λ ss. Reads whole_numbers d (rule.level precedence.Path) location_path ws (Ok (expr.Path (path_of true ss), rest))) l.is
    (read_parts (took_first s.1 (read_first (b refl) (read_parts l.reads read_nothing))) read_nothing)
absolute_goes d true ws next rest ss s b h = let l = led_goes true h in
    subst (λ ss. Reads whole_numbers d (rule.level precedence.Path) location_path ws (Ok (expr.Path (path_of true ss), rest))) l.is
    (read_parts (read_second s.1 (took_first s.2 (read_parts l.reads read_nothing))) read_nothing)

pub absolute_fails : (d : ℕ) (deep : Bool) (ws next : List words.Word) (r : Cause × List words.Word) → Slashed deep ws next
    → (deep ≡ false → Starts begins_step next) → Reads whole_numbers d rule.more_steps (led_steps deep) next (Err r)
    → Reads whole_numbers d (rule.level precedence.Path) location_path ws (Err r)
absolute_fails d false ws next r s b h = read_part_fails (took_first s.1 (read_first (b refl) (read_part_fails (led_fails false h))))
absolute_fails d true ws next r s b h = read_part_fails (read_second s.1 (took_first s.2 (read_part_fails (led_fails true h))))

-- lists that go on
abbrev pub add : {X : Type 0} → List X → Read (List X) → Read (List X)
add xs (Ok r) = Ok (xs ++ r.0, r.1)
add xs (Err r) = Err r

pub add_more : {X : Type 0} (xs ys : List X) (a : Read (List X)) → add (xs ++ ys) a ≡ add xs (add ys a)
add_more xs ys (Ok r) = ap (λ l. Ok (l, r.1)) (append_assoc xs ys r.0)
add_more xs ys (Err r) = refl

-- arguments
pub arguments_none : (d : ℕ) (ws : List words.Word) → Skips begins_expression ws → ReadsSo d rule.arguments ws (Ok ([], ws))
arguments_none d ws s = read_second s read_nothing

pub arguments_fail : (d : ℕ) (ws : List words.Word) (r : Cause × List words.Word) → Starts begins_expression ws → ReadsSo d (rule.level precedence.Or) ws (Err r) → ReadsSo d rule.arguments ws (Err r)
arguments_fail d ws r s h = read_first s (read_part_fails h)

pub more_arguments_end : (d : ℕ) (ws : List words.Word) → Skips is_comma ws → ReadsSo d rule.more_arguments ws (Ok ([], ws))
more_arguments_end d ws s = read_second s read_nothing

pub arguments_go : (d : ℕ) (ws rest : List words.Word) (x : Expr) (a : Read (List Expr)) → Starts begins_expression ws
    → ReadsSo d (rule.level precedence.Or) ws (Ok (x, rest)) → ReadsSo d rule.more_arguments rest a → ReadsSo d rule.arguments ws (add (x ∷ []) a)
arguments_go d ws rest x (Ok r) s h m = read_first s (read_parts h (read_parts m read_nothing))
arguments_go d ws rest x (Err r) s h m = read_first s (read_parts h (read_part_fails m))

pub more_arguments_go : (d : ℕ) (ws next rest : List words.Word) (w : words.Word) (x : Expr) (a : Read (List Expr)) → Passes is_comma ws w next
    → ReadsSo d (rule.level precedence.Or) next (Ok (x, rest)) → ReadsSo d rule.more_arguments rest a → ReadsSo d rule.more_arguments ws (add (x ∷ []) a)
more_arguments_go d ws next rest w x (Ok r) p h m = took_first p (read_parts h (read_parts m read_nothing))
more_arguments_go d ws next rest w x (Err r) p h m = took_first p (read_parts h (read_part_fails m))

pub more_arguments_fail : (d : ℕ) (ws next : List words.Word) (w : words.Word) (r : Cause × List words.Word) → Passes is_comma ws w next
    → ReadsSo d (rule.level precedence.Or) next (Err r) → ReadsSo d rule.more_arguments ws (Err r)
more_arguments_fail d ws next w r p h = took_first p (read_part_fails h)

-- predicates
pub predicates_go : (d e : ℕ) (ws next us rest : List words.Word) (w c : words.Word) (x : Expr) (a : Read (List Expr)) → suc e ≡ d
    → Passes is_open_square ws w next → ReadsSo e (rule.level precedence.Or) next (Ok (x, us)) → Passes is_close_square us c rest
    → ReadsSo d rule.predicates rest a → ReadsSo d rule.predicates ws (add (x ∷ []) a)
predicates_go d e ws next us rest w c x (Ok r) s p h q m = took_level s p h (took q (read_parts m read_nothing))
predicates_go d e ws next us rest w c x (Err r) s p h q m = took_level s p h (took q (read_part_fails m))

pub predicate_open : (d e : ℕ) (ws next us : List words.Word) (w : words.Word) (x : Expr) → suc e ≡ d → Passes is_open_square ws w next
    → ReadsSo e (rule.level precedence.Or) next (Ok (x, us)) → Skips is_close_square us → ReadsSo d rule.predicates ws (Err (cause.Syntax, us))
predicate_open d e ws next us w x s p h k = took_level s p h (read_wrong k)

pub predicate_fails : (d e : ℕ) (ws next : List words.Word) (w : words.Word) (r : Cause × List words.Word) → suc e ≡ d → Passes is_open_square ws w next
    → ReadsSo e (rule.level precedence.Or) next (Err r) → ReadsSo d rule.predicates ws (Err r)
predicate_fails d e ws next w r s p h = level_failed s p h

pub predicates_end : (d : ℕ) (ws : List words.Word) → Skips is_open_square ws → ReadsSo d rule.predicates ws (Ok ([], ws))
predicates_end d ws s = read_no_level s read_nothing

-- steps: what follows a step goes on behind it
abbrev pub behind_step : Bool → StepExpr → List StepExpr
behind_step deep s = led deep (s ∷ [])

pub steps_go : (d : ℕ) (deep : Bool) (ws rest : List words.Word) (s : StepExpr) (a : Read (List StepExpr)) → ReadsSo d rule.step ws (Ok (s, rest))
    → ReadsSo d rule.more_steps rest a → Reads whole_numbers d rule.more_steps (led_steps deep) ws (add (behind_step deep s) a)
steps_go d false ws rest s (Ok r) h m = read_parts (read_parts h (read_parts m read_nothing)) read_nothing
steps_go d true ws rest s (Ok r) h m = read_parts (read_parts h (read_parts m read_nothing)) read_nothing
steps_go d deep ws rest s (Err r) h m = read_part_fails (read_parts h (read_part_fails m))

pub steps_fail : (d : ℕ) (deep : Bool) (ws : List words.Word) (r : Cause × List words.Word) → ReadsSo d rule.step ws (Err r) → Reads whole_numbers d rule.more_steps (led_steps deep) ws (Err r)
steps_fail d deep ws r h = read_part_fails (read_part_fails h)

-- behind `/` or `//` more steps are steps that are led
pub more_steps_go : (d : ℕ) (deep : Bool) (ws next : List words.Word) (a : Read (List StepExpr)) → Slashed deep ws next
    → Reads whole_numbers d rule.more_steps (led_steps deep) next a → ReadsSo d rule.more_steps ws a
more_steps_go d false ws next a s h = took_first s.1 h
more_steps_go d true ws next a s h = read_second s.1 (took_first s.2 h)

-- a step that is a test with predicates on an axis
pub on_axis : (d : ℕ) (x : AxisName) (ws : List words.Word) (a : Read StepExpr) → ReadsSo d (rule.tested x) ws a → Reads whole_numbers d rule.step (part (rule.tested x) (λ s. gives s)) ws a
on_axis d x ws (Ok r) h = read_parts h read_nothing
on_axis d x ws (Err r) h = read_part_fails h

pub more_steps_end : (d : ℕ) (ws : List words.Word) → Skips is_slash ws → Skips is_slashes ws → ReadsSo d rule.more_steps ws (Ok ([], ws))
more_steps_end d ws s t = read_second s (read_second t read_nothing)
