-- A text has an answer.
use Rattle.std.proofs.Common.{◌≡◌, ◌⊎◌, inl, inr, refl, sym, ap, ◌∙◌, subst, ℕ, List, ◌++◌, length, take, drop, Result, Ok, Err, false}
use Rattle.std.proofs.lemmas.List.{take-append-drop, drop-map}
use Rattle.std.proofs.Math.Seq.{drop-append_seam}
use Rattle.whole_num.specs.declared.number.NumFault.TheVariants as fault
use Rattle.xpath_syntax.specs.declared.token.Token.{Token}
use Rattle.xpath_syntax.specs.Tokens.{TokensOf}
use Rattle.xpath_syntax.proofs.Lexed.{IsLexed, lexed}
use Rattle.xpath_grammar.specs.Words.{Word, whole_numbers}
use Rattle.xpath_grammar.specs.Productions.{Nonterminal, Tree}
use Rattle.xpath_grammar.specs.Refusal.{Refused}
use Rattle.xpath_grammar.specs.Reading.{Outcome}
use Rattle.xpath_grammar.specs.declared.sign.Cause.{Cause}
use Rattle.xpath_grammar.specs.declared.sign.Cause.TheVariants as cause
use Rattle.xpath_grammar.proofs.Found.{an_outcome}
use Rattle.xpath_words.specs.Seen.{most_levels}
use Rattle.xpath_words.specs.Words.{word_of, words_of}
use Rattle.xpath_parse.specs.declared.error.ParseError.{ParseError}
use Rattle.xpath_parse.specs.declared.error.ParseError.TheVariants as error
use Rattle.xpath_parse.specs.Places.{place_of, Spells, RefusedAt, IsRefusal, Answers}
use Rattle.xpath_parse.specs.Refusals.{refusal}
use Rattle.xpath_parse.proofs.OneAnswer.{refusal_of, tree_answered, refusal_answered}

-- words that are refused are the words of the text's tokens, refused at the first token of those left
refused_from : (v : Nonterminal) (text : List ℕ) (ts : List Token) (c : Cause) (rest : List Word) → TokensOf text ts
    → Refused whole_numbers most_levels v (words_of text ts) c rest → (p : ℕ) × RefusedAt v text c p
refused_from v text ts c rest tokens R =
    let k = length R.read in
    let all : take k ts ++ drop k ts ≡ ts = take-append-drop k ts in
    let here : rest ≡ words_of text (drop k ts) = sym (drop-append_seam R.read rest) ∙ (ap (drop k) (sym R.is) ∙ drop-map (word_of text) k ts) in (
      place_of text c (drop k ts),
      record {
        before = take k ts;
        from = drop k ts;
        tokens = subst (TokensOf text) (sym all) tokens;
        refused =
            subst (λ us. Refused whole_numbers most_levels v us c (words_of text (drop k ts))) (ap (words_of text) (sym all))
            (subst (Refused whole_numbers most_levels v (words_of text ts) c) here R);
        is = refl;
      },
    )

refuses : (v : Nonterminal) (text : List ℕ) (c : Cause) (p : ℕ) → RefusedAt v text c p → IsRefusal v text (refusal c p)
refuses v text cause.Syntax p r = r
refuses v text (cause.Literal fault.Fraction) p r = r
refuses v text (cause.Literal fault.NumberRange) p r = r
refuses v text cause.TooDeep p r = r

-- a text has a tree, or a refusal
abbrev pub IsRead : Nonterminal → List ℕ → Type 0
IsRead v text = ((x : Tree v) × Spells v text x) ⊎ ((e : ParseError) × IsRefusal v text e)

by_words : (v : Nonterminal) (text : List ℕ) (ts : List Token) → TokensOf text ts → (r : Result (Tree v) (Cause × List Word)) → Outcome whole_numbers most_levels v (words_of text ts) r → IsRead v text
by_words v text ts t (Ok x) i = inl (x, (ts, t, i))
by_words v text ts t (Err r) R = let h = refused_from v text ts r.0 r.1 t R in inr (refusal r.0 h.0, refuses v text r.0 h.0 h.1)

by_tokens : (v : Nonterminal) (text : List ℕ) → IsLexed 0 false text → IsRead v text
by_tokens v text (inl h) = let o = an_outcome whole_numbers most_levels v (words_of text h.0) in by_words v text h.0 h.1 o.0 o.1
by_tokens v text (inr h) = inr (error.Lex h.0, h.1)

pub is_read : (v : Nonterminal) (text : List ℕ) → IsRead v text
is_read v text = by_tokens v text (lexed 0 false text)

-- an answer that is no want of memory
abbrev pub HasAnswer : Nonterminal → List ℕ → Type 0
HasAnswer v text = (r : Result (Tree v) ParseError) × Answers v text r × (r ≡ Err error.Memory → ⊥)

refused_answer : (v : Nonterminal) (text : List ℕ) (e : ParseError) → IsRefusal v text e → HasAnswer v text
refused_answer v text (error.Lex p) r = (Err (error.Lex p), r, λ m. cc)
refused_answer v text (error.Syntax p) r = (Err (error.Syntax p), r, λ m. cc)
refused_answer v text (error.FractionLiteral p) r = (Err (error.FractionLiteral p), r, λ m. cc)
refused_answer v text (error.NumberLimit p) r = (Err (error.NumberLimit p), r, λ m. cc)
refused_answer v text (error.TooDeep p) r = (Err (error.TooDeep p), r, λ m. cc)
refused_answer v text error.Memory r = absurd r

answer_of : (v : Nonterminal) (text : List ℕ) → IsRead v text → HasAnswer v text
answer_of v text (inl h) = (Ok h.0, h.1, λ m. cc)
answer_of v text (inr h) = refused_answer v text h.0 h.1

pub an_answer : (v : Nonterminal) (text : List ℕ) → HasAnswer v text
an_answer v text = answer_of v text (is_read v text)

-- and each is the same
pub same_answer : (v : Nonterminal) (text : List ℕ) (r s : Result (Tree v) ParseError) → Answers v text r → (r ≡ Err error.Memory → ⊥) → Answers v text s → (s ≡ Err error.Memory → ⊥) → r ≡ s
same_answer v text r (Ok x) a m b n = tree_answered v text x r b a m
same_answer v text r (Err e) a m b n = refusal_answered v text e r (refusal_of v text e b n) a m
