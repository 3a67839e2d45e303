-- What strings find, and the words of texts.
use Rattle.std.proofs.Common.{◌≡◌, refl, sym, ap, ◌∙◌, subst, ℕ, ◌+◌, ◌<◌, ◌≤◌, List, [], ◌∷◌, ◌++◌, length, get_or, drop, filter, Bool, true, false, cond, Result, append_assoc, append-nil}
use Rattle.std.specs.List.{flat_map, slice_split, onto_first}
use Rattle.doc_model.specs.Answers.{Known, Fault, Open, Stays}
use Rattle.doc_model.specs.Document.{is_member}
use Rattle.whole_num.specs.Text.{is_space}
use Rattle.xpath_funcs.specs.Spaces.{is_word, words}
use Rattle.xpath_laws.proofs.Staying.{bind_stays, each_stays}
use Rattle.xpath_laws.proofs.Telling.{texts_stay}
use Rattle.xpath_meaning.specs.DocumentOrder.{document_order}
use Rattle.xpath_meaning.specs.Functions.{texts_of, looked_up}
use Rattle.xpath_meaning.specs.Outcome.{Outcome, ◌>>=◌, each_of}
use Rattle.xpath_meaning.specs.Reading.{Reading, Extends}
use Rattle.xpath_meaning.specs.Steps.{joined}
use Rattle.xpath_values.specs.declared.value.Value.{Value}
use Rattle.xpath_values.specs.declared.value.Value.TheVariants.{Nodes}
use Rattle.doc_model.specs.View.{Seen}
use Rattle.xpath_meaning.specs.declared.stop.EvalStop.{EvalStop}
use Rattle.key_sources.specs.Going.{Made, Says}
use Rattle.key_sources.proofs.Saying.{Keeps}
use Rattle.xpath_nodes.specs.Found.{found}
use Rattle.xpath_nodes.specs.Words.{words_ended, word_after}
use Rattle.xpath_nodes.proofs.Turning.{rest_of, no_rest}

pub keeps_texts : (v : Value) → Keeps (λ R. texts_of R v)
keeps_texts v = record { stays = λ R Q x. texts_stay R Q x v }

nodes_last : (o : Outcome (List (List ℕ))) → (o >>= λ lists. Known (Nodes (document_order (joined lists)))) ≡ ((o >>= λ lists. Known (document_order (joined lists))) >>= λ nodes. Known (Nodes nodes))
nodes_last (Known lists) = refl
nodes_last (Fault f) = refl
nodes_last (Open m) = refl

once_whole : (w : Outcome (Unit {0})) (o : Outcome (List (List ℕ)))
    → (w >>= λ shut. o >>= λ lists. Known (Nodes (document_order (joined lists)))) ≡ ((w >>= λ shut. o >>= λ lists. Known (document_order (joined lists))) >>= λ nodes. Known (Nodes nodes))
once_whole (Known shut) o = nodes_last o
once_whole (Fault f) o = refl
once_whole (Open m) o = refl

pub looked_is : (R : Reading) (finds : List ℕ → Outcome (List ℕ)) (texts : List (List ℕ)) → looked_up R finds texts ≡ (found R finds texts >>= λ nodes. Known (Nodes nodes))
looked_is R finds texts = once_whole R.whole (each_of finds texts)

-- ---- a loop of look-ups

-- what is left of finding all, behind these nodes
abbrev pub finding : (List ℕ → Outcome (List ℕ)) → List (List ℕ) → List ℕ → Outcome (List ℕ)
finding finds texts nodes = each_of finds texts >>= λ lists. Known (document_order (nodes ++ joined lists))

finds_one : (a : Outcome (List ℕ)) (o : Outcome (List (List ℕ))) (nodes : List ℕ)
    → ((a >>= λ y. o >>= λ ys. Known (y ∷ ys)) >>= λ lists. Known (document_order (nodes ++ joined lists))) ≡ (a >>= λ y. o >>= λ lists. Known (document_order ((nodes ++ y) ++ joined lists)))
finds_one (Known y) (Known ys) nodes = ap (λ ns. Known (document_order ns)) (sym (append_assoc nodes y (joined ys)))
finds_one (Known y) (Fault f) nodes = refl
finds_one (Known y) (Open m) nodes = refl
finds_one (Fault f) o nodes = refl
finds_one (Open m) o nodes = refl

pub find_turns : (finds : List ℕ → Outcome (List ℕ)) (texts : List (List ℕ)) (i : ℕ) (text : List ℕ) (nodes : List ℕ) → i < length texts → text ≡ get_or texts i text
    → finding finds (drop i texts) nodes ≡ (finds text >>= λ y. finding finds (drop (i + 1) texts) (nodes ++ y))
find_turns finds texts i text nodes h e =
    ap (λ left. finding finds left nodes) (rest_of texts i text h ∙ ap (λ t. t ∷ drop (i + 1) texts) (sym e)) ∙ finds_one (finds text) (each_of finds (drop (i + 1) texts)) nodes

pub find_ends : (finds : List ℕ → Outcome (List ℕ)) (texts : List (List ℕ)) (i : ℕ) (nodes : List ℕ) → length texts ≤ i → finding finds (drop i texts) nodes ≡ Known (document_order nodes)
find_ends finds texts i nodes h = ap (λ left. finding finds left nodes) (no_rest texts i h) ∙ ap (λ ns. Known (document_order ns)) (append-nil nodes)

-- what a look-up says, in the words of the source at the beginning and of the string itself
pub told_id : {M N : Type 0} {s t : Seen M} {made now : Made N} {id text : List ℕ} {result : Result (List ℕ) EvalStop} → now ≡ made → text ≡ id
    → Says now.lookups (λ R. R.by_id text) s t result → Says made.lookups (λ R. R.by_id id) s t result
told_id {s = s} {t} {made} {now} {id} {text} {result} e h a =
    subst (λ (m : Made _). Says m.lookups (λ R. R.by_id id) s t result) e (subst (λ (x : List ℕ). Says now.lookups (λ R. R.by_id x) s t result) h a)

pub told_key : {M N : Type 0} {s t : Seen M} {made now : Made N} {key : ℕ} {value text : List ℕ} {result : Result (List ℕ) EvalStop} → now ≡ made → text ≡ value
    → Says now.lookups (λ R. R.by_key key text) s t result → Says made.lookups (λ R. R.by_key key value) s t result
told_key {s = s} {t} {made} {now} {key} {value} {text} {result} e h a =
    subst (λ (m : Made _). Says m.lookups (λ R. R.by_key key value) s t result) e (subst (λ (x : List ℕ). Says now.lookups (λ R. R.by_key key x) s t result) h a)

-- ---- words

-- a word that goes on with the first of these parts
abbrev pub onto : List ℕ → List (List ℕ) → List (List ℕ)
onto word [] = word ∷ []
onto word (part ∷ parts) = (word ++ part) ∷ parts

onto_more : (word : List ℕ) (byte : ℕ) (parts : List (List ℕ)) → onto word (onto_first byte parts) ≡ onto (word ++ byte ∷ []) parts
onto_more word byte [] = refl
onto_more word byte (part ∷ parts) = ap (λ w. w ∷ parts) (sym (append_assoc word (byte ∷ []) part))

onto_one : (byte : ℕ) (parts : List (List ℕ)) → onto (byte ∷ []) parts ≡ onto_first byte parts
onto_one byte [] = refl
onto_one byte (part ∷ parts) = refl

onto_none : (text : List ℕ) → onto [] (slice_split is_space text) ≡ slice_split is_space text
onto_none [] = refl
onto_none (byte ∷ bytes) = by (is_space byte)
  where
    by : (b : Bool) → onto [] (cond b ([] ∷ slice_split is_space bytes) (onto_first byte (slice_split is_space bytes)))
        ≡ cond b ([] ∷ slice_split is_space bytes) (onto_first byte (slice_split is_space bytes))
    by true = refl
    by false = onto_more [] byte (slice_split is_space bytes) ∙ onto_one byte (slice_split is_space bytes)

-- the words of a word that goes on and of what is left
abbrev pub words_left : List ℕ → List ℕ → List (List ℕ)
words_left word text = filter is_word (onto word (slice_split is_space text))

one_word : (b : Bool) (word : List ℕ) (rest : List (List ℕ)) → cond b (word ∷ rest) rest ≡ cond b (word ∷ []) [] ++ rest
one_word true word rest = refl
one_word false word rest = refl

pub words_start : (text : List ℕ) → words text ≡ words_left [] text
words_start text = ap (filter is_word) (sym (onto_none text))

word_turn : (word : List ℕ) (byte : ℕ) (bytes : List ℕ) → words_left word (byte ∷ bytes) ≡ words_ended word byte ++ words_left (word_after word byte) bytes
word_turn word byte bytes = by (is_space byte)
  where
    parts : List (List ℕ)
    parts = slice_split is_space bytes

    by : (b : Bool) → filter is_word (onto word (cond b ([] ∷ slice_split is_space bytes) (onto_first byte (slice_split is_space bytes))))
        ≡ cond b (filter is_word (word ∷ [])) [] ++ filter is_word (onto (cond b [] (word ++ byte ∷ [])) (slice_split is_space bytes))
    by true =
        ap (λ w. filter is_word (w ∷ slice_split is_space bytes)) (append-nil word) ∙ one_word (is_word word) word (filter is_word (slice_split is_space bytes))
        ∙ ap (λ left. filter is_word (word ∷ []) ++ filter is_word left) (sym (onto_none bytes))
    by false = ap (filter is_word) (onto_more word byte (slice_split is_space bytes))

pub words_turn : (all all_now : List (List ℕ)) (text : List ℕ) (i byte : ℕ) (word word_now : List ℕ) → i < length text → byte ≡ get_or text i 0
    → all_now ≡ all ++ words_ended word byte → word_now ≡ word_after word byte
    → all_now ++ words_left word_now (drop (i + 1) text) ≡ all ++ words_left word (drop i text)
words_turn all all_now text i byte word word_now h b e w =
    ap (λ a. a ++ words_left word_now (drop (i + 1) text)) e
    ∙ append_assoc all (words_ended word byte) (words_left word_now (drop (i + 1) text))
    ∙ ap (λ after. all ++ (words_ended word byte ++ words_left after (drop (i + 1) text))) w
    ∙ ap (λ left. all ++ left) (sym (word_turn word byte (drop (i + 1) text)))
    ∙ ap (λ k. all ++ words_left word (k ∷ drop (i + 1) text)) b
    ∙ ap (λ left. all ++ words_left word left) (sym (rest_of text i 0 h))

pub words_end : (all : List (List ℕ)) (text : List ℕ) (i : ℕ) (word : List ℕ) → length text ≤ i → all ++ filter is_word (word ∷ []) ≡ all ++ words_left word (drop i text)
words_end all text i word h = ap (λ w. all ++ filter is_word (w ∷ [])) (sym (append-nil word)) ∙ ap (λ left. all ++ words_left word left) (sym (no_rest text i h))
