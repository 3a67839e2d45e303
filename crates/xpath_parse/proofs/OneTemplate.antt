-- A template has one list of parts, or one first refusal.
use Rattle.std.proofs.Common.{◌≡◌, ◌⊎◌, inl, inr, refl, sym, ap, ap₂, ◌∙◌, subst, ℕ, suc, ◌+◌, List, [], ◌∷◌, ◌++◌, length, take, drop, get_or, Option, Some, None, Bool, true, false, arith}
use Rattle.std.specs.Prelude.{◌==◌, if◌then◌else◌, option_map}
use Rattle.std.proofs.lemmas.Bool.Decides.{nat_tests}
use Rattle.xpath_syntax.specs.declared.expression.Expr.{Expr}
use Rattle.xpath_syntax.specs.declared.pattern.Part.{Part}
use Rattle.xpath_syntax.specs.declared.pattern.Part.TheVariants as part
use Rattle.xpath_grammar.specs.Productions as rule
use Rattle.xpath_grammar.specs.declared.sign.Precedence.TheVariants as precedence
use Rattle.xpath_parse.specs.declared.error.ParseError.{ParseError}
use Rattle.xpath_parse.specs.declared.error.ParseError.TheVariants as error
use Rattle.xpath_parse.specs.Places.{Spells, IsRefusal}
use Rattle.xpath_parse.specs.Templates.{is_brace, quote_after, quote_behind, Begins, IsInner, IsExpression, with_byte, moved, IsTemplate, end, plain}
use Rattle.xpath_parse.specs.Templates.{doubled, value, IsRefused, past_plain, past_doubled, past_value, lone, unclosed, in_value}
use Rattle.xpath_parse.proofs.OneAnswer.{one_tree, one_refusal, not_both}

-- where an expression ends
abbrev ends_at : Option ℕ → ℕ → Bool
ends_at None b = b == 125
ends_at (Some q) b = false

abbrev ending : Option ℕ → List ℕ → Option ℕ
ending q [] = None
ending q (b ∷ bs) = if ends_at q b then Some 0 else option_map suc (ending (quote_after q b) bs)

abbrev Unended : Option ℕ → List ℕ → Type 0
Unended q inner = (before after : List ℕ) (b : ℕ) → inner ≡ before ++ b ∷ after → (b ≡ 125) × (quote_behind q before ≡ None) → ⊥

not_here : (q : Option ℕ) (b : ℕ) → ((b ≡ 125) × (q ≡ None) → ⊥) → ends_at q b ≡ false
not_here None b h = let g : b ≡ 125 → ⊥ = λ e. h (e, refl) in grind (arith, nat_tests)
not_here (Some q) b h = refl

goes_on : (q : Option ℕ) (b : ℕ) (bs : List ℕ) → ((b ≡ 125) × (q ≡ None) → ⊥) → ending q (b ∷ bs) ≡ option_map suc (ending (quote_after q b) bs)
goes_on q b bs h = ap (λ t. if t then Some 0 else option_map suc (ending (quote_after q b) bs)) (not_here q b h)

later : (q : Option ℕ) (b : ℕ) (bs : List ℕ) → Unended q (b ∷ bs) → Unended (quote_after q b) bs
later q b bs h before after c e ends = h (b ∷ before) after c (ap (λ l. b ∷ l) e) ends

ending_is : (q : Option ℕ) (inner bs : List ℕ) → Unended q inner → quote_behind q inner ≡ None → ending q (inner ++ 125 ∷ bs) ≡ Some (length inner)
ending_is q [] bs h closed = rw closed refl
ending_is q (b ∷ inner) bs h closed = goes_on q b (inner ++ 125 ∷ bs) (h [] inner b refl) ∙ ap (option_map suc) (ending_is (quote_after q b) inner bs (later q b inner h) closed)

no_ending : (q : Option ℕ) (bs : List ℕ) → Unended q bs → ending q bs ≡ None
no_ending q [] h = refl
no_ending q (b ∷ bs) h = goes_on q b bs (h [] bs b refl) ∙ ap (option_map suc) (no_ending (quote_after q b) bs (later q b bs h))

-- what stands at the front of a template: a byte of text, an expression, or a syntax error
data Front : Type 0 where
  nothing : Front
  byte : ℕ → ℕ → Front
  opened : ℕ → Front
  stop : ℕ → Front

abbrev begins : ℕ → List ℕ → Bool
begins b [] = false
begins b (c ∷ bs) = c == b

abbrev at_ending : ℕ → Option ℕ → Front
at_ending n None = stop n
at_ending n (Some k) = opened k

abbrev single : ℕ → List ℕ → Front
single b bs = if b == 125 then stop 0 else at_ending (suc (length bs)) (ending None bs)

abbrev brace : ℕ → List ℕ → Front
brace b bs = if begins b bs then byte b 2 else single b bs

abbrev front : List ℕ → Front
front [] = nothing
front (b ∷ bs) = if is_brace b then brace b bs else byte b 1

not_begins : (b : ℕ) (bs : List ℕ) → (Begins b bs → ⊥) → begins b bs ≡ false
not_begins b [] h = refl
not_begins b (c ∷ bs) h = let g : c ≡ b → ⊥ = λ e. h (bs, ap (λ x. x ∷ bs) e) in grind (arith, nat_tests)

same_byte : (b : ℕ) → (b == b) ≡ true
same_byte b = grind (arith, nat_tests)

front_text : (b : ℕ) (bs : List ℕ) → is_brace b ≡ false → front (b ∷ bs) ≡ byte b 1
front_text b bs e = ap (λ t. if t then brace b bs else byte b 1) e

front_doubled : (b : ℕ) (bs : List ℕ) → is_brace b ≡ true → front (b ∷ b ∷ bs) ≡ byte b 2
front_doubled b bs e = ap (λ t. if t then brace b (b ∷ bs) else byte b 1) e ∙ ap (λ t. if t then byte b 2 else single b (b ∷ bs)) (same_byte b)

front_lone : (bs : List ℕ) → (Begins 125 bs → ⊥) → front (125 ∷ bs) ≡ stop 0
front_lone bs h = ap (λ t. if t then byte 125 2 else stop 0) (not_begins 125 bs h)

front_open : (bs : List ℕ) → (Begins 123 bs → ⊥) → front (123 ∷ bs) ≡ at_ending (suc (length bs)) (ending None bs)
front_open bs h = ap (λ t. if t then byte 123 2 else at_ending (suc (length bs)) (ending None bs)) (not_begins 123 bs h)

front_unclosed : (bs : List ℕ) → (Begins 123 bs → ⊥) → IsInner bs → front (123 ∷ bs) ≡ stop (suc (length bs))
front_unclosed bs h inner = front_open bs h ∙ ap (at_ending (suc (length bs))) (no_ending None bs inner)

single_before : (inner bs : List ℕ) → (Begins 123 inner → ⊥) → Begins 123 (inner ++ 125 ∷ bs) → ⊥
single_before [] bs h g = let e = ap (λ l. get_or l 0 0) g.1 in absurd (omega (arith, e))
single_before (b ∷ inner) bs h g = h (inner, ap (λ x. x ∷ inner) (let rest = g.0 in let e = g.1 in let f : b ≡ 123 = cc in f))

front_value : (inner bs : List ℕ) → IsExpression inner → front (123 ∷ (inner ++ 125 ∷ bs)) ≡ opened (length inner)
front_value inner bs E = front_open (inner ++ 125 ∷ bs) (single_before inner bs E.single) ∙ ap (at_ending (suc (length (inner ++ 125 ∷ bs)))) (ending_is None inner bs E.none_ends E.closed)

-- what a template with this front has
abbrev Says : List ℕ → Front → List Part → Type 0
Says text nothing ps = ps ≡ []
Says text (byte b n) ps = (qs : List Part) × (ps ≡ with_byte b qs) × IsTemplate (drop n text) qs
Says text (opened n) ps = (e : Expr) × (qs : List Part) × (ps ≡ part.Value e ∷ qs) × Spells (rule.level precedence.Or) (take n (drop 1 text)) e × IsTemplate (drop (n + 2) text) qs
Says text (stop p) ps = ⊥

abbrev RefusedThere : List ℕ → ℕ → ParseError → Type 0
RefusedThere text n r = (s : ParseError) × (r ≡ moved 1 s) × IsRefusal (rule.level precedence.Or) (take n (drop 1 text)) s

abbrev RefusedBehind : List ℕ → ℕ → ParseError → Type 0
RefusedBehind text n r = (e : Expr) × (s : ParseError) × (r ≡ moved (n + 2) s) × Spells (rule.level precedence.Or) (take n (drop 1 text)) e × IsRefused (drop (n + 2) text) s

abbrev Refuses : List ℕ → Front → ParseError → Type 0
Refuses text nothing r = ⊥
Refuses text (byte b n) r = (s : ParseError) × (r ≡ moved n s) × IsRefused (drop n text) s
Refuses text (opened n) r = RefusedThere text n r ⊎ RefusedBehind text n r
Refuses text (stop p) r = r ≡ error.Syntax p

inner_is : (inner bs : List ℕ) → take (length inner) (inner ++ bs) ≡ inner
inner_is [] bs = refl
inner_is (b ∷ inner) bs = ap (λ l. b ∷ l) (inner_is inner bs)

past : (inner : List ℕ) (b : ℕ) (bs : List ℕ) → drop (suc (length inner)) (inner ++ b ∷ bs) ≡ bs
past [] b bs = refl
past (c ∷ inner) b bs = past inner b bs

behind_is : (inner bs : List ℕ) → drop (length inner + 2) (123 ∷ (inner ++ 125 ∷ bs)) ≡ bs
behind_is inner bs =
    ap (λ k. drop k (123 ∷ (inner ++ 125 ∷ bs))) (let e : length inner + 2 ≡ suc (suc (length inner)) = omega arith in e) ∙ past inner 125 bs

says : {text : List ℕ} {ps : List Part} → IsTemplate text ps → Says text (front text) ps
says end = refl
says (plain {bs = bs} {ps = ps} b e t) = subst (λ f. Says (b ∷ bs) f (with_byte b ps)) (sym (front_text b bs e)) (ps, refl, t)
says (doubled {bs = bs} {ps = ps} b e t) = subst (λ f. Says (b ∷ b ∷ bs) f (with_byte b ps)) (sym (front_doubled b bs e)) (ps, refl, t)
says (value {bs = bs} {ps = ps} {e = e} inner E s t) =
    subst (λ f. Says (123 ∷ (inner ++ 125 ∷ bs)) f (part.Value e ∷ ps)) (sym (front_value inner bs E))
    (e, ps, refl, subst (λ l. Spells (rule.level precedence.Or) l e) (sym (inner_is inner (125 ∷ bs))) s, subst (λ l. IsTemplate l ps) (sym (behind_is inner bs)) t)

refuses : {text : List ℕ} {r : ParseError} → IsRefused text r → Refuses text (front text) r
refuses (past_plain {bs = bs} {r = r} b e t) = subst (λ f. Refuses (b ∷ bs) f (moved 1 r)) (sym (front_text b bs e)) (r, refl, t)
refuses (past_doubled {bs = bs} {r = r} b e t) = subst (λ f. Refuses (b ∷ b ∷ bs) f (moved 2 r)) (sym (front_doubled b bs e)) (r, refl, t)
refuses (past_value {bs = bs} {r = r} {e = e} inner E s t) =
    subst (λ f. Refuses (123 ∷ (inner ++ 125 ∷ bs)) f (moved (length inner + 2) r)) (sym (front_value inner bs E))
    (inr (e, r, refl, subst (λ l. Spells (rule.level precedence.Or) l e) (sym (inner_is inner (125 ∷ bs))) s, subst (λ l. IsRefused l r) (sym (behind_is inner bs)) t))
refuses (lone {bs = bs} h) = subst (λ f. Refuses (125 ∷ bs) f (error.Syntax 0)) (sym (front_lone bs h)) refl
refuses (unclosed {bs = bs} h inner) = subst (λ f. Refuses (123 ∷ bs) f (error.Syntax (suc (length bs)))) (sym (front_unclosed bs h inner)) refl
refuses (in_value inner bs r E s) =
    subst (λ f. Refuses (123 ∷ (inner ++ 125 ∷ bs)) f (moved 1 r)) (sym (front_value inner bs E))
    (inl (r, refl, subst (λ l. IsRefusal (rule.level precedence.Or) l r) (sym (inner_is inner (125 ∷ bs))) s))

pub one_list : {text : List ℕ} {ps : List Part} → IsTemplate text ps → (qs : List Part) → IsTemplate text qs → ps ≡ qs
one_list end qs u = sym (says u)
one_list (plain {bs = bs} b e t) qs u = let s = subst (λ f. Says (b ∷ bs) f qs) (front_text b bs e) (says u) in ap (with_byte b) (one_list t s.0 s.2) ∙ sym s.1
one_list (doubled {bs = bs} b e t) qs u = let s = subst (λ f. Says (b ∷ b ∷ bs) f qs) (front_doubled b bs e) (says u) in ap (with_byte b) (one_list t s.0 s.2) ∙ sym s.1
one_list (value {bs = bs} {ps = ps} {e = e} inner E s t) qs u =
    let v = subst (λ f. Says (123 ∷ (inner ++ 125 ∷ bs)) f qs) (front_value inner bs E) (says u) in
    let spelled = subst (λ l. Spells (rule.level precedence.Or) l v.0) (inner_is inner (125 ∷ bs)) v.3 in
    let behind = subst (λ l. IsTemplate l v.1) (behind_is inner bs) v.4 in
    ap₂ (λ x xs. part.Value x ∷ xs) (one_tree (rule.level precedence.Or) inner e v.0 s spelled) (one_list t v.1 behind) ∙ sym v.2

-- behind an expression that is read, and in one that is refused
past_read : (inner bs : List ℕ) (e : Expr) (r s : ParseError) → Spells (rule.level precedence.Or) inner e → ((q : ParseError) → IsRefused bs q → r ≡ q)
    → Refuses (123 ∷ (inner ++ 125 ∷ bs)) (opened (length inner)) s → moved (length inner + 2) r ≡ s
past_read inner bs e r s read one (inl w) = absurd (not_both (rule.level precedence.Or) inner e w.0 read (subst (λ l. IsRefusal (rule.level precedence.Or) l w.0) (inner_is inner (125 ∷ bs)) w.2))
past_read inner bs e r s read one (inr w) = ap (moved (length inner + 2)) (one w.1 (subst (λ l. IsRefused l w.1) (behind_is inner bs) w.4)) ∙ sym w.2

in_refused : (inner bs : List ℕ) (r s : ParseError) → IsRefusal (rule.level precedence.Or) inner r → Refuses (123 ∷ (inner ++ 125 ∷ bs)) (opened (length inner)) s → moved 1 r ≡ s
in_refused inner bs r s refused (inl w) = ap (moved 1)
    (one_refusal (rule.level precedence.Or) inner r w.0 refused (subst (λ l. IsRefusal (rule.level precedence.Or) l w.0) (inner_is inner (125 ∷ bs)) w.2)) ∙ sym w.1
in_refused inner bs r s refused (inr w) = absurd (not_both (rule.level precedence.Or) inner w.0 r (subst (λ l. Spells (rule.level precedence.Or) l w.0) (inner_is inner (125 ∷ bs)) w.3) refused)

pub one_first : {text : List ℕ} {r : ParseError} → IsRefused text r → (s : ParseError) → IsRefused text s → r ≡ s
one_first (past_plain {bs = bs} b e t) s u = let v = subst (λ f. Refuses (b ∷ bs) f s) (front_text b bs e) (refuses u) in ap (moved 1) (one_first t v.0 v.2) ∙ sym v.1
one_first (past_doubled {bs = bs} b e t) s u = let v = subst (λ f. Refuses (b ∷ b ∷ bs) f s) (front_doubled b bs e) (refuses u) in ap (moved 2) (one_first t v.0 v.2) ∙ sym v.1
one_first (past_value {bs = bs} {r = r} {e = e} inner E read t) s u =
    past_read inner bs e r s read (one_first t) (subst (λ f. Refuses (123 ∷ (inner ++ 125 ∷ bs)) f s) (front_value inner bs E) (refuses u))
one_first (lone {bs = bs} h) s u = sym (subst (λ f. Refuses (125 ∷ bs) f s) (front_lone bs h) (refuses u))
one_first (unclosed {bs = bs} h inner) s u = sym (subst (λ f. Refuses (123 ∷ bs) f s) (front_unclosed bs h inner) (refuses u))
one_first (in_value inner bs r E refused) s u = in_refused inner bs r s refused (subst (λ f. Refuses (123 ∷ (inner ++ 125 ∷ bs)) f s) (front_value inner bs E) (refuses u))

past_none : (inner bs : List ℕ) (e : Expr) (r : ParseError) → Spells (rule.level precedence.Or) inner e → ((q : ParseError) → IsRefused bs q → ⊥)
    → Refuses (123 ∷ (inner ++ 125 ∷ bs)) (opened (length inner)) r → ⊥
past_none inner bs e r read never (inl w) = not_both (rule.level precedence.Or) inner e w.0 read (subst (λ l. IsRefusal (rule.level precedence.Or) l w.0) (inner_is inner (125 ∷ bs)) w.2)
past_none inner bs e r read never (inr w) = never w.1 (subst (λ l. IsRefused l w.1) (behind_is inner bs) w.4)

pub never_both : {text : List ℕ} {ps : List Part} → IsTemplate text ps → (r : ParseError) → IsRefused text r → ⊥
never_both end r u = refuses u
never_both (plain {bs = bs} b e t) r u = let v = subst (λ f. Refuses (b ∷ bs) f r) (front_text b bs e) (refuses u) in never_both t v.0 v.2
never_both (doubled {bs = bs} b e t) r u = let v = subst (λ f. Refuses (b ∷ b ∷ bs) f r) (front_doubled b bs e) (refuses u) in never_both t v.0 v.2
never_both (value {bs = bs} {e = e} inner E read t) r u = past_none inner bs e r read (never_both t) (subst (λ f. Refuses (123 ∷ (inner ++ 125 ∷ bs)) f r) (front_value inner bs E) (refuses u))
