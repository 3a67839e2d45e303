-- What a listener over memory keeps: a sheet beside each line.
use Rattle.std.proofs.Common.{◌≡◌, ℕ, List, [], ◌∷◌, ◌++◌, length, map, refl, ap, arith}
use Rattle.std.proofs.lemmas.Grind.{common_steps}
use Rattle.std.specs.List.{zip}

abbrev pub messages : List ℕ → List (List ℕ × List ℕ) → List (ℕ × List ℕ)
messages sheets puts = zip sheets (map (λ (put : List ℕ × List ℕ). put.1) puts)

pub length_messages : (sheets : List ℕ) (puts : List (List ℕ × List ℕ)) → length sheets ≡ length puts → length (messages sheets puts) ≡ length sheets
length_messages [] [] h = refl
length_messages [] (put ∷ puts) h = refl
length_messages (sheet ∷ sheets) [] h = absurd (omega (arith, h))
length_messages (sheet ∷ sheets) (put ∷ puts) h = grind (arith, common_steps, length_messages sheets puts)

pub sheets_of : (sheets : List ℕ) (puts : List (List ℕ × List ℕ)) → length sheets ≡ length puts → map (λ (message : ℕ × List ℕ). message.0) (messages sheets puts) ≡ sheets
sheets_of [] [] h = refl
sheets_of [] (put ∷ puts) h = refl
sheets_of (sheet ∷ sheets) [] h = absurd (omega (arith, h))
sheets_of (sheet ∷ sheets) (put ∷ puts) h = ap (λ xs. sheet ∷ xs) (sheets_of sheets puts (omega (arith, h)))

pub lines_of : (sheets : List ℕ) (puts : List (List ℕ × List ℕ)) → length sheets ≡ length puts
    → map (λ (message : ℕ × List ℕ). message.1) (messages sheets puts) ≡ map (λ (put : List ℕ × List ℕ). put.1) puts
lines_of [] [] h = refl
lines_of [] (put ∷ puts) h = absurd (omega (arith, h))
lines_of (sheet ∷ sheets) [] h = refl
lines_of (sheet ∷ sheets) (put ∷ puts) h = ap (λ xs. put.1 ∷ xs) (lines_of sheets puts (omega (arith, h)))

pub one_more : (sheets : List ℕ) (puts : List (List ℕ × List ℕ)) (sheet : ℕ) (put : List ℕ × List ℕ) → length sheets ≡ length puts
    → messages (sheets ++ sheet ∷ []) (puts ++ put ∷ []) ≡ messages sheets puts ++ (sheet, put.1) ∷ []
one_more [] [] sheet put h = refl
one_more [] (other ∷ puts) sheet put h = absurd (omega (arith, h))
one_more (other ∷ sheets) [] sheet put h = absurd (omega (arith, h))
one_more (first ∷ sheets) (other ∷ puts) sheet put h = ap (λ xs. (first, other.1) ∷ xs) (one_more sheets puts sheet put (omega (arith, h)))

pub none_put : (sheets : List ℕ) (puts : List (List ℕ × List ℕ)) → puts ≡ [] → messages sheets puts ≡ []
none_put [] puts is = refl
none_put (sheet ∷ sheets) [] is = refl
none_put (sheet ∷ sheets) (put ∷ puts) is = absurd (cc)

pub none_heard : (sheets : List ℕ) (puts : List (List ℕ × List ℕ)) → length sheets ≡ length puts → messages sheets puts ≡ [] → puts ≡ []
none_heard [] [] h is = refl
none_heard [] (put ∷ puts) h is = absurd (omega (arith, h))
none_heard (sheet ∷ sheets) [] h is = refl
none_heard (sheet ∷ sheets) (put ∷ puts) h is = absurd (cc)
