use Rattle.std.proofs.Common.{lit<, rules, tests, is_some}
use Rattle.std.proofs.lemmas.Iterator.Search.{all_from_yields_List}
use Rattle.std.proofs.lemmas.Iterator.Splits.{YieldsList-from_str_split}
use Rattle.cmd_words.specs.Items.{item_of}
use Rattle.cmd_words.proofs.item.are_items.Goals as goal

pub returns : goal.returns
returns c = all_from_yields_List (λ piece. is_some (item_of c.args.readers piece)) _ _ _ c.all.ensures.ran
    (YieldsList-from_str_split 44 c.args.list.now (lit< tt) c.split.ensures.text c.split.ensures.has_more c.split.ensures.pattern) (λ x b q k. search (rules, tests))
