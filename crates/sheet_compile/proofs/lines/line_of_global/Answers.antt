use Rattle.std.proofs.Common.{sym, ap, ◌∙◌, ◌+◌, drop, arith}
use Rattle.sheet_compile.specs.Lines.{line_of_global}
use Rattle.sheet_compile.proofs.GlobalLines.{ends, is_here, is_later, passes}
use Rattle.sheet_compile.proofs.lines.line_of_global.Goals as goal
use Rattle.sheet_compile.proofs.lines.line_of_global.Goals.{in-Some+else-left-eq0, in_default}

pub returns-then-left-eq0 : goal.returns-then-left-eq0
returns-then-left-eq0 c = is_here c.args.items.now c.loop-item.item-index c.item-item.result c.in-Some.line c.args.place c.loop-item.left
    c.loop-item-test.true c.item-item.is c.loop-item.invariant (sym c.line_of_item.ensures ∙ c.in-Some.is) c.if-left-eq0.true

pub loop-item-preserved : goal.loop-item-preserved
loop-item-preserved c = elim c.match-line_of_item.branch [
  | in-Some+else-left-eq0 w ↦ is_later c.args.items.now c.loop-item.item-index c.item-item.result w.in-Some.line c.args.place c.loop-item.left c.match-line_of_item.left
      c.loop-item-test.true c.item-item.is c.loop-item.invariant (sym c.line_of_item.ensures ∙ w.in-Some.is) w.if-left-eq0.false w.left-is
  | in_default w ↦ passes c.args.items.now c.loop-item.item-index c.item-item.result c.args.place c.loop-item.left
      c.loop-item-test.true c.item-item.is c.loop-item.invariant (sym c.line_of_item.ensures ∙ w.in_default.is)
      ∙ ap (line_of_global (drop (c.loop-item.item-index + 1) c.args.items.now)) (sym w.left-is)
]

pub returns : goal.returns
returns c = ends c.args.items.now c.loop-item.item-index c.args.place c.loop-item.left (omega (arith, c.loop-item-test.false)) c.loop-item.invariant
