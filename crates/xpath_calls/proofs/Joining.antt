-- One turn of joining the strings of arguments.
use Rattle.std.proofs.Common.{◌≡◌, ap, sym, ◌∙◌, ℕ, ◌+◌, ◌<◌, List, ◌∷◌, ◌++◌, length, get_or, drop, map, append_assoc}
use Rattle.xpath_meaning.specs.Steps.{joined}
use Rattle.xpath_nodes.proofs.Turning.{rest_of}
use Rattle.xpath_operations.specs.declared.operand.Operand.{Operand}
use Rattle.xpath_calls.specs.Taken.{text_in}

pub joins_one : (xs : List Operand) (i : ℕ) (x : Operand) (text bytes after : List ℕ) → i < length xs → x ≡ get_or xs i x → bytes ≡ text_in x → after ≡ text ++ bytes
    → after ++ joined (map text_in (drop (i + 1) xs)) ≡ text ++ joined (map text_in (drop i xs))
joins_one xs i x text bytes after h e b a =
    ap (λ t. t ++ joined (map text_in (drop (i + 1) xs))) (a ∙ ap (λ u. text ++ u) b)
    ∙ append_assoc text (text_in x) (joined (map text_in (drop (i + 1) xs)))
    ∙ sym (ap (λ left. text ++ joined (map text_in left)) (rest_of xs i x h ∙ ap (λ y. y ∷ drop (i + 1) xs) (sym e)))
