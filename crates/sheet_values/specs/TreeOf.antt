-- What a text is, and why it is none: each text has one answer.
use Rattle.std.specs.Prelude.{◌⊎◌, ℕ, List, [], false, Result}
use Rattle.std.proofs.Common.{inl, inr}
use Rattle.xpath_syntax.specs.declared.pattern.Part.{Part}
use Rattle.xpath_syntax.specs.declared.token.Token.{Token}
use Rattle.xpath_syntax.specs.Tokens.{StuckAt, TokensOf}
use Rattle.xpath_syntax.proofs.Lexed.{lexed}
use Rattle.xpath_grammar.specs.Productions.{Nonterminal, Tree}
use Rattle.xpath_parse.specs.declared.error.ParseError.{ParseError}
use Rattle.xpath_parse.proofs.AnAnswer.{an_answer}
use Rattle.xpath_parse.proofs.ATemplate.{a_template}

-- the tree of a text, or its refusal
unfoldable pub tree_of : (v : Nonterminal) → List ℕ → Result (Tree v) ParseError
tree_of v text = (an_answer v text).0

-- the parts of a template, or its first refusal
unfoldable pub parts_of : List ℕ → Result (List Part) ParseError
parts_of text = (a_template text).0

abbrev pub listed : {text : List ℕ} → ((ts : List Token) × TokensOf text ts) ⊎ ((p : ℕ) × StuckAt text p) → List Token
listed (inl h) = h.0
listed (inr h) = []

-- the tokens of a text, and none where somewhere no token can be read
unfoldable pub tokens_of : List ℕ → List Token
tokens_of text = listed {text = text} (lexed 0 false text)
