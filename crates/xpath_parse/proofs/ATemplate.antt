-- A template has parts, or a first refusal.
use Rattle.std.proofs.Common.{◌≡◌, ◌⊎◌, inl, inr, refl, sym, ap, ◌∙◌, subst, ℕ, zero, suc, ◌+◌, ◌≤◌, List, [], ◌∷◌, ◌++◌, append_assoc, append-nil, length}
use Rattle.std.proofs.Common.{length-append, Option, Some, None, Result, Ok, Err, Bool, true, false, arith}
use Rattle.std.specs.Prelude.{◌==◌}
use Rattle.std.proofs.lemmas.Bool.Decides.{nat_tests}
use Rattle.xpath_syntax.specs.declared.pattern.Part.{Part}
use Rattle.xpath_syntax.specs.declared.pattern.Part.TheVariants as part
use Rattle.xpath_grammar.specs.Productions as rule
use Rattle.xpath_grammar.specs.declared.sign.Precedence.TheVariants as precedence
use Rattle.xpath_parse.specs.declared.error.ParseError.{ParseError}
use Rattle.xpath_parse.specs.declared.error.ParseError.TheVariants as error
use Rattle.xpath_parse.specs.Places.{IsRefusal}
use Rattle.xpath_parse.specs.Templates.{is_brace, quote_behind, Ends, IsInner, Begins, IsExpression, with_byte, IsTemplate, end, plain, doubled, value, moved}
use Rattle.xpath_parse.specs.Templates.{IsRefused, past_plain, past_doubled, past_value, lone, unclosed, in_value, AnswersTemplate}
use Rattle.xpath_parse.proofs.Literals.{inner_snoc, inner_nil}
use Rattle.xpath_parse.proofs.Fronts.{opening}
use Rattle.xpath_parse.proofs.AnAnswer.{IsRead, is_read}
use Rattle.xpath_parse.proofs.OneTemplate.{one_list, one_first, never_both}

-- the bytes of an expression come before a `}`, or no byte ends it
record Closed (bs : List ℕ) : Type 0 where
  inner : List ℕ
  rest : List ℕ
  is : bs ≡ inner ++ 125 ∷ rest
  none_ends : IsInner inner
  closed : quote_behind None inner ≡ None

abbrev IsWalked : List ℕ → Type 0
IsWalked bs = Closed bs ⊎ IsInner bs

ends_or_not : (before : List ℕ) (b : ℕ) (c : Bool) → (b == 125) ≡ c → (q : Option ℕ) → quote_behind None before ≡ q → Ends before b ⊎ (Ends before b → ⊥)
ends_or_not before b true e None q = inl (grind (arith, nat_tests), q)
ends_or_not before b true e (Some c) q = inr (λ h. let f = h.1 in cc)
ends_or_not before b false e q h = inr (λ k. let f = k.0 in grind (arith, nat_tests))

-- behind bytes of which none ends an expression
walk_on : (before : List ℕ) (b : ℕ) (bs : List ℕ) → IsInner before → ((Ends before b → ⊥) → IsWalked ((before ++ b ∷ []) ++ bs)) → Ends before b ⊎ (Ends before b → ⊥) → IsWalked (before ++ b ∷ bs)
walk_on before b bs i go (inl h) = inl (record { inner = before; rest = bs; is = ap (λ c. before ++ c ∷ bs) h.0; none_ends = i; closed = h.1 })
walk_on before b bs i go (inr h) = subst IsWalked (append_assoc before (b ∷ []) bs) (go h)

walk : (bs before : List ℕ) → IsInner before → IsWalked (before ++ bs)
walk [] before i = inr (subst IsInner (sym (append-nil before)) i)
walk (b ∷ bs) before i = walk_on before b bs i (λ h. walk bs (before ++ b ∷ []) (inner_snoc before b i h)) (ends_or_not before b (b == 125) refl (quote_behind None before) refl)

walked : (bs : List ℕ) → IsWalked bs
walked bs = walk bs [] inner_nil

-- a template has parts, or is refused
abbrev IsParted : List ℕ → Type 0
IsParted bs = ((ps : List Part) × IsTemplate bs ps) ⊎ ((e : ParseError) × IsRefused bs e)

behind_plain : (b : ℕ) (bs : List ℕ) → is_brace b ≡ false → IsParted bs → IsParted (b ∷ bs)
behind_plain b bs e (inl h) = inl (with_byte b h.0, plain b e h.1)
behind_plain b bs e (inr h) = inr (moved 1 h.0, past_plain b e h.1)

behind_doubled : (b : ℕ) (bs : List ℕ) → is_brace b ≡ true → IsParted bs → IsParted (b ∷ b ∷ bs)
behind_doubled b bs e (inl h) = inl (with_byte b h.0, doubled b e h.1)
behind_doubled b bs e (inr h) = inr (moved 2 h.0, past_doubled b e h.1)

behind_value : (inner bs : List ℕ) → IsExpression inner → IsRead (rule.level precedence.Or) inner → IsParted bs → IsParted (123 ∷ (inner ++ 125 ∷ bs))
behind_value inner bs E (inl x) (inl h) = inl (part.Value x.0 ∷ h.0, value inner E x.1 h.1)
behind_value inner bs E (inl x) (inr h) = inr (moved (length inner + 2) h.0, past_value inner E x.1 h.1)
behind_value inner bs E (inr e) h = inr (moved 1 e.0, in_value inner bs e.0 E e.1)

-- all that is no longer
abbrev Shorter : ℕ → Type 0
Shorter most = (bs : List ℕ) → length bs ≤ most → IsParted bs

-- behind a `{` that isn't doubled
opened : (most : ℕ) (bs : List ℕ) → Shorter most → length bs ≤ most → (Begins 123 bs → ⊥) → IsWalked bs → IsParted (123 ∷ bs)
opened most bs less h single (inr i) = inr (error.Syntax (suc (length bs)), unclosed single i)
opened most bs less h single (inl C) =
    let E : IsExpression C.inner = record {
      single = λ g. single (g.0 ++ 125 ∷ C.rest, C.is ∙ ap (λ l. l ++ 125 ∷ C.rest) g.1);
      none_ends = C.none_ends;
      closed = C.closed;
    } in
    subst (λ l. IsParted (123 ∷ l)) (sym C.is)
    (behind_value C.inner C.rest E (is_read (rule.level precedence.Or) C.inner) (less C.rest (omega (arith, h, ap length C.is, length-append C.inner (125 ∷ C.rest)))))

-- a brace that isn't doubled
single_brace : (most b : ℕ) (bs : List ℕ) → Shorter most → length bs ≤ most → is_brace b ≡ true → (Begins b bs → ⊥) → (c : Bool) → (b == 125) ≡ c → IsParted (b ∷ bs)
single_brace most b bs less h e single true c =
    let is : b ≡ 125 = grind (arith, nat_tests) in
    subst (λ b. IsParted (b ∷ bs)) (sym is) (inr (error.Syntax 0, lone (subst (λ b. Begins b bs → ⊥) is single)))
single_brace most b bs less h e single false c =
    let is : b ≡ 123 = opening b e (λ i. grind (arith, nat_tests)) in
    subst (λ b. IsParted (b ∷ bs)) (sym is) (opened most bs less h (subst (λ b. Begins b bs → ⊥) is single) (walked bs))

brace : (most b : ℕ) (bs : List ℕ) → Shorter most → length bs ≤ most → is_brace b ≡ true → IsParted (b ∷ bs)
brace most b [] less h e = single_brace most b [] less h e (λ g. let f = g.1 in cc) (b == 125) refl
brace most b (x ∷ bs) less h e = with_next (b == x) refl
  where
    with_next : (c : Bool) → (b == x) ≡ c → IsParted (b ∷ x ∷ bs)
    with_next true c = let is : b ≡ x = grind (arith, nat_tests) in subst (λ x. IsParted (b ∷ x ∷ bs)) is (behind_doubled b bs e (less bs (omega arith)))
    with_next false c = single_brace most b (x ∷ bs) less h e (λ g. let f = g.1 in let i : x ≡ b = cc in grind (arith, nat_tests)) (b == 125) refl

by_front : (most b : ℕ) (bs : List ℕ) → Shorter most → length bs ≤ most → (c : Bool) → is_brace b ≡ c → IsParted (b ∷ bs)
by_front most b bs less h false e = behind_plain b bs e (less bs h)
by_front most b bs less h true e = brace most b bs less h e

within : (most : ℕ) → Shorter most
within most [] h = inl ([], end)
within zero (b ∷ bs) h = absurd (omega arith)
within (suc most) (b ∷ bs) h = by_front most b bs (within most) (omega arith) (is_brace b) refl

-- an answer that is no want of memory
abbrev pub HasAnswer : List ℕ → Type 0
HasAnswer text = (r : Result (List Part) ParseError) × AnswersTemplate text r × (r ≡ Err error.Memory → ⊥)

-- a refusal is no want of memory
moved_is : (n : ℕ) (r : ParseError) → (r ≡ error.Memory → ⊥) → moved n r ≡ error.Memory → ⊥
moved_is n (error.Lex p) h e = cc
moved_is n (error.Syntax p) h e = cc
moved_is n (error.FractionLiteral p) h e = cc
moved_is n (error.NumberLimit p) h e = cc
moved_is n (error.TooDeep p) h e = cc
moved_is n error.Memory h e = h e

refusal_is : {bs : List ℕ} {e : ParseError} → IsRefused bs e → e ≡ error.Memory → ⊥
refusal_is (past_plain {r = r} b e i) = moved_is 1 r (refusal_is i)
refusal_is (past_doubled {r = r} b e i) = moved_is 2 r (refusal_is i)
refusal_is (past_value {r = r} inner E s i) = moved_is (length inner + 2) r (refusal_is i)
refusal_is (lone h) = λ e. cc
refusal_is (unclosed h i) = λ e. cc
refusal_is (in_value inner bs r E i) = moved_is 1 r (λ e. subst (IsRefusal (rule.level precedence.Or) inner) e i)

refused_answer : (text : List ℕ) (e : ParseError) → IsRefused text e → HasAnswer text
refused_answer text (error.Lex p) r = (Err (error.Lex p), r, λ m. cc)
refused_answer text (error.Syntax p) r = (Err (error.Syntax p), r, λ m. cc)
refused_answer text (error.FractionLiteral p) r = (Err (error.FractionLiteral p), r, λ m. cc)
refused_answer text (error.NumberLimit p) r = (Err (error.NumberLimit p), r, λ m. cc)
refused_answer text (error.TooDeep p) r = (Err (error.TooDeep p), r, λ m. cc)
refused_answer text error.Memory r = absurd (refusal_is r refl)

answer_of : (text : List ℕ) → IsParted text → HasAnswer text
answer_of text (inl h) = (Ok h.0, h.1, λ m. cc)
answer_of text (inr h) = refused_answer text h.0 h.1

pub a_template : (text : List ℕ) → HasAnswer text
a_template text = answer_of text (within (length text) text (omega arith))

refused_of : (text : List ℕ) (e : ParseError) → AnswersTemplate text (Err e) → (◌≡◌ {A = Result (List Part) ParseError} (Err e) (Err error.Memory) → ⊥) → IsRefused text e
refused_of text (error.Lex p) a n = a
refused_of text (error.Syntax p) a n = a
refused_of text (error.FractionLiteral p) a n = a
refused_of text (error.NumberLimit p) a n = a
refused_of text (error.TooDeep p) a n = a
refused_of text error.Memory a n = absurd (n refl)

-- an answer that is no want of memory is the parts or the refusal
pub parts_answered : (text : List ℕ) (ps : List Part) (r : Result (List Part) ParseError) → IsTemplate text ps
    → AnswersTemplate text r → (r ≡ Err error.Memory → ⊥) → r ≡ Ok ps
parts_answered text ps (Ok qs) t a n = ap Ok (one_list a ps t)
parts_answered text ps (Err e) t a n = absurd (never_both t e (refused_of text e a n))

pub refusal_answered : (text : List ℕ) (e : ParseError) (r : Result (List Part) ParseError) → IsRefused text e
    → AnswersTemplate text r → (r ≡ Err error.Memory → ⊥) → r ≡ Err e
refusal_answered text e (Ok ps) u a n = absurd (never_both a e u)
refusal_answered text e (Err f) u a n = ap Err (one_first (refused_of text f a n) e u)

-- and each is the same
pub same_answer : (text : List ℕ) (r s : Result (List Part) ParseError) → AnswersTemplate text r → (r ≡ Err error.Memory → ⊥) → AnswersTemplate text s → (s ≡ Err error.Memory → ⊥) → r ≡ s
same_answer text (Ok ps) (Ok qs) a m b n = ap Ok (one_list a qs b)
same_answer text (Ok ps) (Err e) a m b n = absurd (never_both a e (refused_of text e b n))
same_answer text (Err e) (Ok ps) a m b n = absurd (never_both b e (refused_of text e a m))
same_answer text (Err e) (Err f) a m b n = ap Err (one_first (refused_of text e a m) f (refused_of text f b n))
