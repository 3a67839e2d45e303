-- The words left are those of the last tokens, and so the refusal of the first of them is the text's.
use Rattle.std.proofs.Common.{◌≡◌, refl, sym, ap, ◌∙◌, subst, ℕ, ◌-◌, ◌<◌, false, List, [], ◌∷◌, ◌++◌, get_or, length, take, drop, Err, arith}
use Rattle.std.specs.Prelude.{if◌then◌else◌}
use Rattle.std.proofs.lemmas.List.{take-append-drop, drop-map, length-map, length-append}
use Rattle.std.proofs.Math.Seq.{drop-append_seam}
use Rattle.whole_num.specs.declared.number.NumFault.TheVariants as fault
use Rattle.xpath_syntax.specs.declared.token.Token.{Token}
use Rattle.xpath_syntax.specs.Tokens.{TokensOf}
use Rattle.xpath_grammar.specs.Words as words
use Rattle.xpath_grammar.specs.Words.{whole_numbers}
use Rattle.xpath_grammar.specs.Signs.{is_function}
use Rattle.xpath_grammar.specs.Productions.{Nonterminal}
use Rattle.xpath_grammar.specs.Refusal.{Refused}
use Rattle.xpath_grammar.specs.declared.sign.Cause.{Cause}
use Rattle.xpath_grammar.specs.declared.sign.Cause.TheVariants as cause
use Rattle.xpath_words.specs.Seen.{most_levels, seen, seen_word, Whole}
use Rattle.xpath_words.specs.Words.{WordsAre, word_of, words_of}
use Rattle.xpath_words.specs.declared.word.Word.{Word}
use Rattle.xpath_words.specs.declared.stop.ParseStop.TheVariants as stop
use Rattle.xpath_parse.specs.Places.{level_place, place_of, RefusedAt, Answers}
use Rattle.xpath_parse.specs.Refusals.{refusal}

-- the words from a place on are those of the tokens from there on
pub last_words : (text : List ℕ) (ts : List Token) (ws : List Word) (k : ℕ) → WordsAre text ts ws → WordsAre text (drop k ts) (drop k ws)
last_words text ts ws k are = (
  sym (drop-map seen_word k ws) ∙ (ap (drop k) are.0 ∙ drop-map (word_of text) k ts),
  sym (drop-map (λ w. w.at) k ws) ∙ (ap (drop k) are.1 ∙ drop-map (λ t. t.at) k ts),
)

-- as many words are left as the refused ones are
rest_is : (us read rest : List words.Word) (n k : ℕ) → us ≡ read ++ rest → n ≡ length rest → k ≡ length us - n → rest ≡ drop k us
rest_is us read rest n k e m s =
    let h : k ≡ length read = omega (arith, ap length e, length-append read rest) in
    sym (drop-append_seam read rest) ∙ (ap (λ k. drop k (read ++ rest)) (sym h) ∙ ap (drop k) (sym e))

-- what is refused with so many words left is refused at the first of their tokens
pub refused_at : (v : Nonterminal) (text : List ℕ) (ts : List Token) (ws : List Word) (c : Cause) (n k : ℕ) → TokensOf text ts → WordsAre text ts ws
    → Whole v (seen ws) (Err (stop.Refused c n)) → k ≡ length ws - n → RefusedAt v text c (place_of text c (drop k ts))
refused_at v text ts ws c n k tokens are whole left =
    let whole_text : take k ts ++ drop k ts ≡ ts = take-append-drop k ts in
    let here : whole.0 ≡ words_of text (drop k ts) =
    rest_is (seen ws) whole.1.read whole.0 n k whole.1.is whole.2 (left ∙ ap (λ l. l - n) (sym (length-map ws seen_word)))
    ∙ (ap (drop k) are.0 ∙ drop-map (word_of text) k ts) in
    record {
      before = take k ts;
      from = drop k ts;
      tokens = subst (TokensOf text) (sym whole_text) tokens;
      refused =
          subst (λ us. Refused whole_numbers most_levels v us c (words_of text (drop k ts))) (are.0 ∙ ap (words_of text) (sym whole_text))
          (subst (Refused whole_numbers most_levels v (seen ws) c) here whole.1);
      is = refl;
    }

-- fewer than two words open no argument list
pub short_level : (text : List ℕ) (ts : List Token) (ws : List Word) → WordsAre text ts ws → length ws < 2 → place_of text cause.Syntax ts ≡ level_place text ts
short_level text [] ws are l = refl
short_level text (t ∷ []) ws are l = refl
short_level text (t ∷ u ∷ ts) ws are l = absurd (omega (arith, l, ap length are.0, length-map ws seen_word))

-- nor does a first word that is no function
pub own_level : (text : List ℕ) (ts : List Token) (ws : List Word) (d : Word) → WordsAre text ts ws → is_function (get_or ws 0 d).sign ≡ false → place_of text cause.Syntax ts ≡ level_place text ts
own_level text [] ws d are n = refl
own_level text (t ∷ []) ws d are n = refl
own_level text (t ∷ u ∷ ts) [] d are n = let e = are.0 in cc
own_level text (t ∷ u ∷ ts) (w ∷ ws) d are n =
    let e = are.0 in
    let same : seen_word w ≡ word_of text t = cc in
    sym (ap (λ f. if f then u.at else t.at) (sym (ap (λ w. is_function w.sign) same) ∙ n))

-- a refusal of tokens is the text's answer
pub answers_so : (v : Nonterminal) (text : List ℕ) (c : Cause) (p : ℕ) → RefusedAt v text c p → Answers v text (Err (refusal c p))
answers_so v text cause.Syntax p r = r
answers_so v text (cause.Literal fault.Fraction) p r = r
answers_so v text (cause.Literal fault.NumberRange) p r = r
answers_so v text cause.TooDeep p r = r
