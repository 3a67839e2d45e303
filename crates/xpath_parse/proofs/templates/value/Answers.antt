use Rattle.std.proofs.Common.{◌≡◌, ◌+◌, arith, length-drop, get_or, drop, ap}
use Rattle.std.proofs.lemmas.List.{get_or-drop}
use Rattle.std.proofs.lemmas.Str.{IsCharBoundary-after_ascii, IsCharBoundary-before_ascii}
use Rattle.xpath_parse.proofs.Within.{answer_within}
use Rattle.xpath_parse.proofs.Fronts.{value_opens, value_len, value_closes}
use Rattle.xpath_parse.proofs.templates.value.Goals as goal

pub range-requires-clause-start_boundary : goal.range-requires-clause-start_boundary
range-requires-clause-start_boundary c = λ h.
    let text = c.args.text.now in let at = c.args.at in
    let len = value_len (drop at text) c.args.len c.requires in
    let byte = value_opens (drop at text) c.args.len c.requires in
    let same = get_or-drop at text 0 0 in
    let place : get_or text (at + 0) 0 ≡ get_or text at 0 = ap (λ k. get_or text k 0) (let e : at + 0 ≡ at = omega arith in e) in
    IsCharBoundary-after_ascii text at c.utf8.text (omega (arith, length-drop at text)) (omega arith)

pub range-requires-clause-end_boundary : goal.range-requires-clause-end_boundary
range-requires-clause-end_boundary c =
    let text = c.args.text.now in let at = c.args.at in let n = c.args.len in
    let len = value_len (drop at text) n c.requires in
    let byte = value_closes (drop at text) n c.requires in
    let same = get_or-drop at text (n + 1) 0 in
    let place : get_or text (at + (n + 1)) 0 ≡ get_or text (at + 1 + n) 0 = ap (λ k. get_or text k 0) (let e : at + (n + 1) ≡ at + 1 + n = omega arith in e) in
    IsCharBoundary-before_ascii text (at + 1 + n) (omega (arith, length-drop at text)) (omega arith)

pub shifted-requires : goal.shifted-requires
shifted-requires c =
    let text = c.args.text.now in
    let len = value_len (drop c.args.at text) c.args.len c.requires in
    let near = answer_within _ c.range.result.now c.in-Err.error c.in-Err.ensures in
    omega (arith, length-drop c.args.at text, c.range.ensures.len)
