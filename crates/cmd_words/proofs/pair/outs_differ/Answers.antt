use Rattle.std.proofs.Common.{◌∙◌, ◌==◌, sym, rules, tests, map, string_bytes}
use Rattle.std.specs.List.{after_first, count_by}
use Rattle.std.specs.Str.{bytes_eq}
use Rattle.std.proofs.lemmas.Iterator.{YieldsList-from_slice}
use Rattle.std.proofs.lemmas.Iterator.Search.{all_from_yields_List}
use Rattle.std.proofs.lemmas.List.Folds.{list_all-map}
use Rattle.cmd_words.specs.Pairs.{is_equals, outs_of}
use Rattle.cmd_words.proofs.pair.outs_differ.Goals as goal

pub returns : goal.returns
returns c =
    all_from_yields_List (λ word. count_by (bytes_eq (after_first is_equals (string_bytes word))) (outs_of (map string_bytes c.args.words.now)) == 1) _ _ _ c.all.ensures.ran
    (YieldsList-from_slice c.args.words.now (cc)) (λ x b q k. search (rules, tests))
    ∙ sym (list_all-map _ (after_first is_equals) (map string_bytes c.args.words.now) ∙ list_all-map _ string_bytes c.args.words.now)
