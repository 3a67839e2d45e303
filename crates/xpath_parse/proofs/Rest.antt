-- One step of reading a template.
use Rattle.std.proofs.Common.{◌≡◌, refl, sym, ap, ◌∙◌, subst, ℕ, zero, suc, ◌<◌, ◌≤◌, ◌+◌, List, [], ◌∷◌, ◌++◌, append_assoc, length, length-drop, take, drop, get_or, Err, arith}
use Rattle.std.proofs.Math.Seq.{drop-nil}
use Rattle.std.proofs.Math.ListN.{drop_of_length-le}
use Rattle.std.proofs.lemmas.List.{at_drop_more}
use Rattle.xpath_syntax.specs.declared.expression.Expr.{Expr}
use Rattle.xpath_syntax.specs.declared.pattern.Part.{Part}
use Rattle.xpath_syntax.specs.declared.pattern.Part.TheVariants as part
use Rattle.xpath_grammar.specs.Productions as rule
use Rattle.xpath_grammar.specs.declared.sign.Precedence.TheVariants as precedence
use Rattle.xpath_parse.specs.declared.error.ParseError.{ParseError}
use Rattle.xpath_parse.specs.declared.error.ParseError.TheVariants as error
use Rattle.xpath_parse.specs.Places.{Spells, IsRefusal}
use Rattle.xpath_parse.specs.Templates.{with_byte, moved, IsTemplate, end, value, IsRefused, past_value, in_value, AnswersTemplate}
use Rattle.xpath_parse.specs.Pieces.{IsText, IsValue, AnswersValue, plain_part}
use Rattle.xpath_parse.proofs.Fronts.{value_len}

-- bytes of text before parts
abbrev joined : List ℕ → List Part → List Part
joined [] ps = ps
joined (b ∷ bs) ps = with_byte b (joined bs ps)

joined_snoc : (bs : List ℕ) (b : ℕ) (ps : List Part) → joined bs (with_byte b ps) ≡ joined (bs ++ b ∷ []) ps
joined_snoc [] b ps = refl
joined_snoc (c ∷ bs) b ps = ap (with_byte c) (joined_snoc bs b ps)

before_value : (b : ℕ) (bs : List ℕ) (e : Expr) (ps : List Part) → with_byte b (plain_part bs ++ part.Value e ∷ ps) ≡ part.Plain (b ∷ bs) ∷ part.Value e ∷ ps
before_value b [] e ps = refl
before_value b (c ∷ bs) e ps = refl

joined_value : (bs : List ℕ) (e : Expr) (ps : List Part) → joined bs (part.Value e ∷ ps) ≡ plain_part bs ++ part.Value e ∷ ps
joined_value [] e ps = refl
joined_value (b ∷ bs) e ps = ap (with_byte b) (joined_value bs e ps) ∙ before_value b bs e ps

before_end : (b : ℕ) (bs : List ℕ) → with_byte b (plain_part bs) ≡ part.Plain (b ∷ bs) ∷ []
before_end b [] = refl
before_end b (c ∷ bs) = refl

joined_end : (bs : List ℕ) → joined bs [] ≡ plain_part bs
joined_end [] = refl
joined_end (b ∷ bs) = ap (with_byte b) (joined_end bs) ∙ before_end b bs

pub moved_moved : (m n k : ℕ) (r : ParseError) → m + n ≡ k → moved m (moved n r) ≡ moved k r
moved_moved m n k (error.Lex p) e = ap error.Lex (let f : m + (n + p) ≡ k + p = omega arith in f)
moved_moved m n k (error.Syntax p) e = ap error.Syntax (let f : m + (n + p) ≡ k + p = omega arith in f)
moved_moved m n k (error.FractionLiteral p) e = ap error.FractionLiteral (let f : m + (n + p) ≡ k + p = omega arith in f)
moved_moved m n k (error.NumberLimit p) e = ap error.NumberLimit (let f : m + (n + p) ≡ k + p = omega arith in f)
moved_moved m n k (error.TooDeep p) e = ap error.TooDeep (let f : m + (n + p) ≡ k + p = omega arith in f)
moved_moved m n k error.Memory e = refl

moved_zero : (r : ParseError) → r ≡ moved 0 r
moved_zero (error.Lex p) = ap error.Lex (let f : p ≡ 0 + p = omega arith in f)
moved_zero (error.Syntax p) = ap error.Syntax (let f : p ≡ 0 + p = omega arith in f)
moved_zero (error.FractionLiteral p) = ap error.FractionLiteral (let f : p ≡ 0 + p = omega arith in f)
moved_zero (error.NumberLimit p) = ap error.NumberLimit (let f : p ≡ 0 + p = omega arith in f)
moved_zero (error.TooDeep p) = ap error.TooDeep (let f : p ≡ 0 + p = omega arith in f)
moved_zero error.Memory = refl

drop_drop : (xs : List ℕ) (i n m : ℕ) → i + n ≡ m → drop n (drop i xs) ≡ drop m xs
drop_drop xs zero n m e = ap (λ k. drop k xs) (let f : n ≡ m = omega arith in f)
drop_drop [] (suc i) n m e = drop-nil n ∙ sym (drop-nil m)
drop_drop (x ∷ xs) (suc i) n zero e = absurd (omega arith)
drop_drop (x ∷ xs) (suc i) n (suc m) e = drop_drop xs i n m (omega arith)

-- whatever the rest has, the text has
pub record Rest (text : List ℕ) (parts : List Part) (plain : List ℕ) (at : ℕ) : Type 0 where
  pub within : at ≤ length text
  pub read : (ps : List Part) → IsTemplate (drop at text) ps → IsTemplate text (parts ++ joined plain ps)
  pub refused : (r : ParseError) → IsRefused (drop at text) r → IsRefused text (moved at r)

pub starts : (text : List ℕ) → Rest text [] [] 0
starts text = record { within = omega arith; read = λ ps t. t; refused = λ r t. subst (IsRefused text) (moved_zero r) t }

pub front : (text : List ℕ) (at : ℕ) → at < length text → get_or text at 0 ∷ drop (at + 1) text ≡ drop at text
front text at h = sym (at_drop_more (λ xs. xs) text at 0 h)

pub text_more : (text : List ℕ) (parts : List Part) (plain : List ℕ) (at b n : ℕ) → Rest text parts plain at → IsText (drop at text) b n → Rest text parts (plain ++ b ∷ []) (at + n)
text_more text parts plain at b n R T =
    let d = drop_drop text at n (at + n) refl in record {
      within = omega (arith, R.within, T.within, length-drop at text);
      read = λ ps t. subst (λ l. IsTemplate text (parts ++ l)) (joined_snoc plain b ps) (R.read (with_byte b ps) (T.read ps (subst (λ l. IsTemplate l ps) (sym d) t)));
      refused = λ r t. subst (IsRefused text) (moved_moved at n (at + n) r refl) (R.refused (moved n r) (T.refused r (subst (λ l. IsRefused l r) (sym d) t)));
    }

abbrev inner_of : List ℕ → ℕ → ℕ → List ℕ
inner_of text at n = take n (drop 1 (drop at text))

inner_is : (text : List ℕ) (at n : ℕ) → take n (drop (at + 1) text) ≡ inner_of text at n
inner_is text at n = ap (take n) (sym (drop_drop text at 1 (at + 1) refl))

parts_are : (parts : List Part) (plain : List ℕ) (e : Expr) (ps : List Part) → parts ++ joined plain (part.Value e ∷ ps) ≡ ((parts ++ plain_part plain) ++ part.Value e ∷ []) ++ ps
parts_are parts plain e ps = ap (λ l. parts ++ l) (joined_value plain e ps)
    ∙ (sym (append_assoc parts (plain_part plain) (part.Value e ∷ ps)) ∙ sym (append_assoc (parts ++ plain_part plain) (part.Value e ∷ []) ps))

pub value_more : (text : List ℕ) (parts : List Part) (plain : List ℕ) (at n : ℕ) (e : Expr) → Rest text parts plain at → IsValue (drop at text) n
    → Spells (rule.level precedence.Or) (take n (drop (at + 1) text)) e → Rest text ((parts ++ plain_part plain) ++ part.Value e ∷ []) [] (at + (n + 2))
value_more text parts plain at n e R V s =
    let inner = inner_of text at n in
    let spelled = subst (λ l. Spells (rule.level precedence.Or) l e) (inner_is text at n) s in
    let d = drop_drop text at (n + 2) (at + (n + 2)) refl in
    let len : at + (length inner + 2) ≡ at + (n + 2) = omega (arith, V.len) in record {
      within = omega (arith, value_len (drop at text) n V, R.within, length-drop at text);
      read = λ ps t. subst (IsTemplate text) (parts_are parts plain e ps)
          (R.read (part.Value e ∷ ps) (subst (λ l. IsTemplate l (part.Value e ∷ ps)) (sym V.is)
          (value inner V.expression spelled (subst (λ l. IsTemplate l ps) (sym d) t))));
      refused = λ r t. subst (IsRefused text) (moved_moved at (length inner + 2) (at + (n + 2)) r len)
          (R.refused (moved (length inner + 2) r) (subst (λ l. IsRefused l (moved (length inner + 2) r)) (sym V.is)
          (past_value inner V.expression spelled (subst (λ l. IsRefused l r) (sym d) t))));
    }

stops_within : (text : List ℕ) (parts : List Part) (plain : List ℕ) (at n : ℕ) (r e : ParseError) → Rest text parts plain at → IsValue (drop at text) n
    → IsRefusal (rule.level precedence.Or) (take n (drop (at + 1) text)) r → e ≡ moved (at + 1) r → IsRefused text e
stops_within text parts plain at n r e R V s is =
    let inner = inner_of text at n in
    let here = subst (λ l. IsRefusal (rule.level precedence.Or) l r) (inner_is text at n) s in
    subst (IsRefused text) (moved_moved at 1 (at + 1) r refl
    ∙ sym is) (R.refused (moved 1 r) (subst (λ l. IsRefused l (moved 1 r)) (sym V.is) (in_value inner (drop (n + 2) (drop at text)) r V.expression here)))

pub stops_in_value : (text : List ℕ) (parts : List Part) (plain : List ℕ) (at n : ℕ) (e : ParseError) → Rest text parts plain at
    → IsValue (drop at text) n → AnswersValue (at + 1) (take n (drop (at + 1) text)) (Err e) → AnswersTemplate text (Err e)
stops_in_value text parts plain at n (error.Lex p) R V a = stops_within text parts plain at n a.0 (error.Lex p) R V a.1 a.2
stops_in_value text parts plain at n (error.Syntax p) R V a = stops_within text parts plain at n a.0 (error.Syntax p) R V a.1 a.2
stops_in_value text parts plain at n (error.FractionLiteral p) R V a = stops_within text parts plain at n a.0 (error.FractionLiteral p) R V a.1 a.2
stops_in_value text parts plain at n (error.NumberLimit p) R V a = stops_within text parts plain at n a.0 (error.NumberLimit p) R V a.1 a.2
stops_in_value text parts plain at n (error.TooDeep p) R V a = stops_within text parts plain at n a.0 (error.TooDeep p) R V a.1 a.2
stops_in_value text parts plain at n error.Memory R V a = tt

pub ends : (text : List ℕ) (parts : List Part) (plain : List ℕ) (at : ℕ) → Rest text parts plain at → length text ≤ at → IsTemplate text (parts ++ plain_part plain)
ends text parts plain at R h = subst (λ l. IsTemplate text (parts ++ l)) (joined_end plain) (R.read [] (subst (λ l. IsTemplate l []) (sym (drop_of_length-le text h)) end))
