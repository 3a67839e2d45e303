use Rattle.std.proofs.Common.{◌≡◌, take}
use Rattle.std.specs.Prelude.{None}
use Rattle.xpath_parse.specs.Templates.{IsInner, quote_behind}
use Rattle.xpath_parse.proofs.templates.expression_len.Given as goal

abbrev pub invariant-loop-at : goal.invariant-loop-at
invariant-loop-at l = record { quote : l.quote ≡ quote_behind None (take l.at l.bytes); inner : IsInner (take l.at l.bytes) }
