-- What functions tell of nodes stays.
use Rattle.std.proofs.Common.{refl, ℕ, List, [], ◌∷◌, Option, Some, None}
use Rattle.std.specs.List.{flat_map}
use Rattle.doc_model.specs.declared.node_test.Test.TheVariants as test
use Rattle.doc_model.specs.declared.row.Axis.TheVariants as axis
use Rattle.doc_model.specs.Answers.{Stays}
use Rattle.whole_num.specs.Number.{sum_of}
use Rattle.whole_num.specs.Text as numbers
use Rattle.whole_num.specs.declared.number.Num.{Num}
use Rattle.xpath_funcs.specs.Spaces.{words}
use Rattle.xpath_values.specs.declared.value.Value.{Value}
use Rattle.xpath_values.specs.declared.value.Value.TheVariants.{Nodes, Atom, Fragment}
use Rattle.xpath_meaning.specs.Conversions.{first_of}
use Rattle.xpath_meaning.specs.Functions.{sum_onto, lang_test, lang_here, nearest_lang, language_of, texts_of, looked_up, named_by_ids, found_by_key}
use Rattle.xpath_meaning.specs.Outcome.{Outcome, calculated}
use Rattle.xpath_meaning.specs.Reading.{Reading, Extends}
use Rattle.xpath_laws.proofs.Staying.{bind_stays, stays, each_stays}

pub sum_stays : (R Q : Reading) → Extends R Q → (total : Num) (nodes : List ℕ) → Stays (sum_onto R total nodes) (sum_onto Q total nodes)
sum_stays R Q x total [] = refl
sum_stays R Q x total (n ∷ ns) =
    bind_stays _ _ _ _ (x.value n)
    (λ bytes. bind_stays _ _ _ _ (stays (calculated (numbers.number_of bytes))) (λ k. bind_stays _ _ _ _ (stays (calculated (sum_of total k))) (λ more. sum_stays R Q x more ns)))

here_stays : (R Q : Reading) → Extends R Q → (found : Option ℕ) (a b : Outcome (Option (List ℕ))) → Stays a b → Stays (lang_here R found a) (lang_here Q found b)
here_stays R Q x None a b s = s
here_stays R Q x (Some k) a b s = bind_stays _ _ _ _ (x.value k) (λ bytes. refl)

nearest_stays : (R Q : Reading) → Extends R Q → (nodes : List ℕ) → Stays (nearest_lang R nodes) (nearest_lang Q nodes)
nearest_stays R Q x [] = refl
nearest_stays R Q x (n ∷ ns) = bind_stays _ _ _ _ (x.axis axis.Attribute lang_test n) (λ found. here_stays R Q x (first_of found) _ _ (nearest_stays R Q x ns))

pub language_stays : (R Q : Reading) → Extends R Q → (n : ℕ) → Stays (language_of R n) (language_of Q n)
language_stays R Q x n = bind_stays _ _ _ _ (x.axis axis.AncestorOrSelf test.Any n) (λ nodes. nearest_stays R Q x nodes)

pub texts_stay : (R Q : Reading) → Extends R Q → (v : Value) → Stays (texts_of R v) (texts_of Q v)
texts_stay R Q x (Nodes nodes) = each_stays _ _ nodes (λ n. x.value n)
texts_stay R Q x (Atom atom) = refl
texts_stay R Q x (Fragment events) = refl

looked_stays : (R Q : Reading) → Extends R Q → (f g : List ℕ → Outcome (List ℕ)) → ((text : List ℕ) → Stays (f text) (g text)) → (texts : List (List ℕ))
    → Stays (looked_up R f texts) (looked_up Q g texts)
looked_stays R Q x f g s texts = bind_stays _ _ _ _ x.whole (λ shut. bind_stays _ _ _ _ (each_stays f g texts s) (λ lists. refl))

pub ids_stay : (R Q : Reading) → Extends R Q → (v : Value) → Stays (named_by_ids R v) (named_by_ids Q v)
ids_stay R Q x v = bind_stays _ _ _ _ (texts_stay R Q x v) (λ texts. looked_stays R Q x _ _ (λ id. x.by_id id) (flat_map words texts))

pub keys_stay : (R Q : Reading) → Extends R Q → (slot : Option ℕ) (v : Value) → Stays (found_by_key R slot v) (found_by_key Q slot v)
keys_stay R Q x None v = refl
keys_stay R Q x (Some key) v = bind_stays _ _ _ _ (texts_stay R Q x v) (λ texts. looked_stays R Q x _ _ (λ value. x.by_key key value) texts)
