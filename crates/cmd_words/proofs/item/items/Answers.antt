use Rattle.std.proofs.Common.{◌≡◌, ◌∙◌, IfOk, lit<, rules, tests}
use Rattle.std.proofs.lemmas.Iterator.{items_from_collect}
use Rattle.std.proofs.lemmas.Iterator.Consumers.{YieldsList-at, YieldsList-from_filter_map}
use Rattle.std.proofs.lemmas.Iterator.Splits.{YieldsList-from_str_split}
use Rattle.cmd_words.specs.Items.{item_of, items_of}
use Rattle.cmd_words.proofs.item.items.Goals as goal

pub returns : goal.returns
returns c =
    let collected : IfOk c.collect.result (λ items. items.items ≡ items_of c.args.readers c.args.list.now) =
    items_from_collect _ c.collect.ensures.ran
    (YieldsList-from_filter_map _ (item_of c.args.readers)
    (YieldsList-at c.filter_map.ensures.source
    (YieldsList-from_str_split 44 c.args.list.now (lit< tt) c.split.ensures.text c.split.ensures.has_more c.split.ensures.pattern)) c.filter_map.ensures.closure (λ x r q k. search (rules, tests)))
    in c.from_vec.ensures ∙ (rw c.in_ok-items.was at collected)
