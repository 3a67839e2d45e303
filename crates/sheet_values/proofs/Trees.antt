-- A call's answer is the text's one answer.
use Rattle.std.proofs.Common.{◌≡◌, ◌⊎◌, inl, inr, refl, ap, ℕ, List, [], Result, Ok, Err, false}
use Rattle.xpath_syntax.specs.declared.pattern.Part.{Part}
use Rattle.xpath_syntax.specs.declared.token.Token.{Token}
use Rattle.xpath_syntax.specs.Tokens.{StuckAt, TokensOf}
use Rattle.xpath_syntax.proofs.Alone.{one_list, not_both}
use Rattle.xpath_syntax.proofs.Lexed.{lexed}
use Rattle.xpath_grammar.specs.Productions.{Nonterminal, Tree}
use Rattle.xpath_parse.specs.declared.error.ParseError.{ParseError}
use Rattle.xpath_parse.specs.declared.error.ParseError.TheVariants as parsing
use Rattle.xpath_parse.specs.Places.{Answers as Reads}
use Rattle.xpath_parse.specs.Templates.{AnswersTemplate}
use Rattle.xpath_parse.proofs.AnAnswer as tree
use Rattle.xpath_parse.proofs.ATemplate as template
use Rattle.xpath_binding.specs.declared.error.BindError.{BindError}
use Rattle.xpath_binding.specs.declared.error.BindError.TheVariants as binding
use Rattle.xpath_binding.specs.Names.{Answers as Binds}
use Rattle.sheet_values.specs.Answers.{Answers}
use Rattle.sheet_values.specs.Refusals.{or_kind, stop_unbound, stop_unparsed, unbound, unparsed}
use Rattle.sheet_values.specs.TreeOf.{listed, parts_of, tokens_of, tree_of}

pub read_tree : (v : Nonterminal) (text : List ℕ) (x : Tree v) → Reads v text (Ok x) → tree_of v text ≡ Ok x
unfolding tree_of
read_tree v text x a = let h = tree.an_answer v text in tree.same_answer v text h.0 (Ok x) h.1 h.2 a (λ m. cc)

no_tree : (v : Nonterminal) (text : List ℕ) (e : ParseError) → Reads v text (Err e) → (◌≡◌ {A = Result (Tree v) ParseError} (Err e) (Err parsing.Memory) → ⊥) → tree_of v text ≡ Err e
unfolding tree_of
no_tree v text e a m = let h = tree.an_answer v text in tree.same_answer v text h.0 (Err e) h.1 h.2 a m

pub refused_tree : (v : Nonterminal) (text : List ℕ) (e : ParseError) → Reads v text (Err e) → Answers (or_kind unparsed (tree_of v text)) (Err (stop_unparsed e))
refused_tree v text (parsing.Lex p) a = ap (or_kind unparsed) (no_tree v text (parsing.Lex p) a (λ m. cc))
refused_tree v text (parsing.Syntax p) a = ap (or_kind unparsed) (no_tree v text (parsing.Syntax p) a (λ m. cc))
refused_tree v text (parsing.FractionLiteral p) a = ap (or_kind unparsed) (no_tree v text (parsing.FractionLiteral p) a (λ m. cc))
refused_tree v text (parsing.NumberLimit p) a = ap (or_kind unparsed) (no_tree v text (parsing.NumberLimit p) a (λ m. cc))
refused_tree v text (parsing.TooDeep p) a = ap (or_kind unparsed) (no_tree v text (parsing.TooDeep p) a (λ m. cc))
refused_tree v text parsing.Memory a = tt

pub read_parts : (text : List ℕ) (ps : List Part) → AnswersTemplate text (Ok ps) → parts_of text ≡ Ok ps
unfolding parts_of
read_parts text ps a = let h = template.a_template text in template.same_answer text h.0 (Ok ps) h.1 h.2 a (λ m. cc)

no_parts : (text : List ℕ) (e : ParseError) → AnswersTemplate text (Err e) → (◌≡◌ {A = Result (List Part) ParseError} (Err e) (Err parsing.Memory) → ⊥) → parts_of text ≡ Err e
unfolding parts_of
no_parts text e a m = let h = template.a_template text in template.same_answer text h.0 (Err e) h.1 h.2 a m

pub refused_parts : (text : List ℕ) (e : ParseError) → AnswersTemplate text (Err e) → Answers (or_kind unparsed (parts_of text)) (Err (stop_unparsed e))
refused_parts text (parsing.Lex p) a = ap (or_kind unparsed) (no_parts text (parsing.Lex p) a (λ m. cc))
refused_parts text (parsing.Syntax p) a = ap (or_kind unparsed) (no_parts text (parsing.Syntax p) a (λ m. cc))
refused_parts text (parsing.FractionLiteral p) a = ap (or_kind unparsed) (no_parts text (parsing.FractionLiteral p) a (λ m. cc))
refused_parts text (parsing.NumberLimit p) a = ap (or_kind unparsed) (no_parts text (parsing.NumberLimit p) a (λ m. cc))
refused_parts text (parsing.TooDeep p) a = ap (or_kind unparsed) (no_parts text (parsing.TooDeep p) a (λ m. cc))
refused_parts text parsing.Memory a = tt

-- a refusal of names
pub not_bound : {A : Type 0} (m : Result A BindError) (e : BindError) → Binds m (Err e) → Answers (or_kind unbound m) (Err (stop_unbound e))
not_bound m binding.UnboundPrefix h = ap (or_kind unbound) h
not_bound m binding.UnknownFunction h = ap (or_kind unbound) h
not_bound m binding.WrongArgs h = ap (or_kind unbound) h
not_bound m binding.UnknownVariable h = ap (or_kind unbound) h
not_bound m binding.Unsupported h = ap (or_kind unbound) h
not_bound m binding.Memory h = tt

listed_is : (text : List ℕ) (ts : List Token) → TokensOf text ts → (h : ((us : List Token) × TokensOf text us) ⊎ ((p : ℕ) × StuckAt text p)) → listed {text = text} h ≡ ts
listed_is text ts t (inl h) = one_list 0 false text h.0 ts h.1 t
listed_is text ts t (inr h) = absurd (not_both 0 false text ts h.0 t h.1)

none_listed : (text : List ℕ) (p : ℕ) → StuckAt text p → (h : ((us : List Token) × TokensOf text us) ⊎ ((q : ℕ) × StuckAt text q)) → listed {text = text} h ≡ []
none_listed text p s (inl h) = absurd (not_both 0 false text h.0 p h.1 s)
none_listed text p s (inr h) = refl

pub tokens_are : (text : List ℕ) (ts : List Token) → TokensOf text ts → tokens_of text ≡ ts
unfolding tokens_of
tokens_are text ts t = listed_is text ts t (lexed 0 false text)

pub no_tokens : (text : List ℕ) (p : ℕ) → StuckAt text p → tokens_of text ≡ []
unfolding tokens_of
no_tokens text p s = none_listed text p s (lexed 0 false text)
