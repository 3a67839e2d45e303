use Rattle.std.proofs.Common.{◌∙◌, sym, rules, tests, map, string_bytes}
use Rattle.std.specs.List.{after_first}
use Rattle.std.specs.Str.{bytes_eq}
use Rattle.std.proofs.lemmas.Iterator.{YieldsList-from_slice}
use Rattle.std.proofs.lemmas.Iterator.Consumers.{YieldsList-at, YieldsList-from_filter, count_from_yields_List}
use Rattle.std.proofs.lemmas.List.Sums.{length-filter}
use Rattle.cmd_words.specs.Pairs.{is_equals}
use Rattle.cmd_words.proofs.Fused.{count_by-map}
use Rattle.cmd_words.proofs.pair.count_of.Goals as goal

pub returns : goal.returns
returns c =
    count_from_yields_List _ _ c.count.ensures.ran
    (YieldsList-from_filter _ (λ word. bytes_eq c.args.out.now (after_first is_equals (string_bytes word)))
    (YieldsList-at c.filter.ensures.source (YieldsList-from_slice c.args.words.now (cc))) c.filter.ensures.closure (λ x b q k. search (rules, tests)))
    ∙ length-filter _ c.args.words.now
    ∙ sym (count_by-map (bytes_eq c.args.out.now) (after_first is_equals) (map string_bytes c.args.words.now) ∙ count_by-map _ string_bytes c.args.words.now)
