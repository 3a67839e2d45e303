-- Tokens as words.
use Rattle.std.specs.Prelude.{◌≡◌, ℕ, List, map, take, drop}
use Rattle.xpath_syntax.specs.declared.token.Token.{Token}
use Rattle.xpath_grammar.specs.Words as words
use Rattle.xpath_grammar.specs.Signs.{sign_of}
use Rattle.xpath_words.specs.declared.word.Word.{Word}
use Rattle.xpath_words.specs.Seen.{seen}

-- the bytes of a token
abbrev pub text_of : List ℕ → Token → List ℕ
text_of text t = take t.len (drop t.at text)

-- the word that a token is
abbrev pub word_of : List ℕ → Token → words.Word
word_of text t = record { sign = sign_of t.kind (text_of text t); text = text_of text t }

abbrev pub words_of : List ℕ → List Token → List words.Word
words_of text ts = map (word_of text) ts

-- the code's words are those of the tokens, with their places
abbrev pub WordsAre : List ℕ → List Token → List Word → Type 0
WordsAre text ts ws = (seen ws ≡ words_of text ts) × (map (λ w. w.at) ws ≡ map (λ t. t.at) ts)
