use Rattle.std.proofs.Common.{rules, arith, ◌≡◌, refl, sym, ap, ◌∙◌, subst, map, pos, ◌≤◌}
use Rattle.xpath_syntax.proofs.expression.Expr.TheLaws.{the_size}
use Rattle.xpath_syntax.specs.declared.expression.Expr.{the_lemmas}
use Rattle.xpath_syntax.specs.declared.expression.Expr.TheVariants as e
use Rattle.xpath_syntax.specs.declared.expression.Expr.TheVariants.{outs-Binary, outs-Minus, outs-Call, outs-Path, outs-Filter}
use Rattle.std.specs.Prelude.{◌&&◌}
use Rattle.xpath_syntax.specs.declared.expression.Expr.{Expr}
use Rattle.xpath_syntax.specs.declared.expression.Expr.TheOpen.{Path-F}
use Rattle.xpath_syntax.specs.declared.expression.Path.{Path, out-Path, out-roll-Path}
use Rattle.xpath_syntax.specs.declared.expression.StepExpr.{StepExpr, roll-StepExpr}
use Rattle.xpath_binding.specs.Marks.{marked, marked_path, marked_step, marked_tail, may_stream}
use Rattle.xpath_binding.proofs.Equations.{marked-Binary, marked-Minus, marked-Literal, marked-Number, marked-Variable, marked-Call, marked-Path, marked-Filter, marked_step_is, path_marked}
use Rattle.xpath_binding.proofs.Edits.{set_turn}
use Rattle.xpath_binding.proofs.Links.{Closes, closes_nothing, down}
use Rattle.xpath_binding.proofs.marks.+mark.Goals as goal
use Rattle.xpath_binding.proofs.marks.+mark.Goals.{mark_path-then-allowed, mark_path-else-allowed}

pub mark-loop-at-init : goal.mark-loop-at-init
mark-loop-at-init t c =
    let same = ap the_size c.replace-at.ensures.value in (
      omega (arith, same),
      subst (λ x. Closes (e.Number (pos 0)) (marked c.args.allowed x) (marked c.args.allowed c.args.e.now))
          (sym c.replace-at.ensures.value) (closes_nothing (pos 0) (marked c.args.allowed c.args.e.now)),
    )

pub mark_all-loop-i-preserved : goal.mark_all-loop-i-preserved
mark_all-loop-i-preserved t c =
    set_turn (marked c.args.allowed) c.args.all.now c.loop-i.all c.loop-i.i c.item_mut.result.now c.mark.new.e c.loop-i.invariant c.item_mut.ensures.now c.mark.ensures

pub mark_steps-loop-i-preserved : goal.mark_steps-loop-i-preserved
mark_steps-loop-i-preserved t c =
    set_turn (marked_step c.args.allowed) c.args.all.now c.loop-i.all c.loop-i.i c.item_mut.result.now c.mark_step.new.step c.loop-i.invariant c.item_mut.ensures.now c.mark_step.ensures

pub mark_operand-returns-in-Literal : goal.mark_operand-returns-in-Literal
mark_operand-returns-in-Literal t c = c.in-Literal.is ∙ sym (marked-Literal c.args.allowed _) ∙ ap (marked c.args.allowed) (sym c.in-Literal.is)

pub mark_operand-returns-in-Number : goal.mark_operand-returns-in-Number
mark_operand-returns-in-Number t c = c.in-Number.is ∙ sym (marked-Number c.args.allowed _) ∙ ap (marked c.args.allowed) (sym c.in-Number.is)

pub mark_operand-returns-in-Variable : goal.mark_operand-returns-in-Variable
mark_operand-returns-in-Variable t c = c.in-Variable.is ∙ sym (marked-Variable c.args.allowed _) ∙ ap (marked c.args.allowed) (sym c.in-Variable.is)

pub mark_operand-returns-in-Minus : goal.mark_operand-returns-in-Minus
mark_operand-returns-in-Minus t c = rw (c.in-Minus.is, outs-Minus c.in-Minus.inner)
    (ap e.Minus (let h : c.mark-in-Minus.new.e ≡ marked c.args.allowed c.in-Minus.inner =
    cc (c.mark-in-Minus.ensures, c.get_mut-in-Minus.ensures.now, c.in-Minus.inner-is) in h) ∙ sym (marked-Minus c.args.allowed c.in-Minus.inner))

pub mark_operand-returns-in-Path : goal.mark_operand-returns-in-Path
mark_operand-returns-in-Path t c = rw (c.in-Path.is, outs-Path c.in-Path.path)
    (ap e.Path (let h : c.mark_path.new.path ≡ marked_path c.args.allowed c.in-Path.path = cc (c.mark_path.ensures, c.in-Path.path-is) in h)
    ∙ sym (marked-Path c.args.allowed c.in-Path.path))

pub mark_operand-returns-in-Binary : goal.mark_operand-returns-in-Binary
mark_operand-returns-in-Binary t c =
    let b = c.args.allowed in let op = c.in-Binary.op in let x = c.in-Binary.left in let y = c.in-Binary.right in
    let l : c.mark.new.e ≡ marked b x = cc (c.mark.ensures, c.get_mut.ensures.now, c.in-Binary.left-is) in
    let r : c.mark-in-Binary.new.e ≡ marked b y = cc (c.mark-in-Binary.ensures, c.get_mut-in-Binary.ensures.now, c.in-Binary.right-is) in
    rw (c.in-Binary.is, outs-Binary c.in-Binary.op c.in-Binary.left c.in-Binary.right) (ap (λ z. e.Binary op z c.mark-in-Binary.new.e) l
    ∙ (ap (e.Binary op (marked b x)) r ∙ sym (marked-Binary b op x y)))

pub mark_operand-returns-in-Call : goal.mark_operand-returns-in-Call
mark_operand-returns-in-Call t c = rw (c.in-Call.is, outs-Call c.in-Call.name c.in-Call.args)
    (ap (e.Call c.in-Call.name) (let h : c.mark_all.new.all ≡ map (marked c.args.allowed) c.in-Call.args =
    cc (c.mark_all.ensures, c.in-Call.args-is) in h) ∙ sym (marked-Call c.args.allowed c.in-Call.name c.in-Call.args))

pub mark_operand-returns-in-Filter : goal.mark_operand-returns-in-Filter
mark_operand-returns-in-Filter t c =
    let b = c.args.allowed in
    let a : c.mark-in-Filter.new.e ≡ marked b c.in-Filter.primary = cc (c.mark-in-Filter.ensures, c.get_mut-in-Filter.ensures.now, c.in-Filter.primary-is) in
    let ps : c.mark_all-in-Filter.new.all ≡ map (marked b) c.in-Filter.predicates = cc (c.mark_all-in-Filter.ensures, c.in-Filter.predicates-is) in
    let last : c.mark_tail.new.tail ≡ marked_tail b c.in-Filter.tail = cc (c.mark_tail.ensures, c.in-Filter.tail-is) in
    ap (λ x. e.Filter x c.mark_all-in-Filter.new.all c.mark_tail.new.tail) a ∙ (ap (λ x. e.Filter (marked b c.in-Filter.primary) x c.mark_tail.new.tail) ps
    ∙ (ap (λ x. e.Filter (marked b c.in-Filter.primary) (map (marked b) c.in-Filter.predicates) x) last
    ∙ sym (ap (marked b) c.in-Filter.is ∙ marked-Filter b c.in-Filter.primary c.in-Filter.predicates c.in-Filter.tail)))

pub mark_step-returns : goal.mark_step-returns
mark_step-returns t c = sym (marked_step_is c.args.allowed c.args.step.now
    ∙ ap (λ xs. roll-StepExpr (record { axis = c.args.step.now.axis; test = c.args.step.now.test; predicates = xs })) (sym c.mark_all.ensures))

pub mark_path-returns : goal.mark_path-returns
mark_path-returns t c =
    let b = c.args.allowed in
    let parts : c.mark_steps.new.all ≡ map (marked_step b) (out-Path c.args.path.now).parts = c.mark_steps.ensures in
    let streams : c.if-allowed.path ≡ (b && may_stream c.mark_steps.new.all) = elim c.if-allowed.branch [
      | mark_path-then-allowed w ↦ w.path-is ∙ (w.streams-path.ensures
          ∙ (ap (λ (x : Path-F Expr Path StepExpr). may_stream x.parts)
          (out-roll-Path (record { absolute = (out-Path c.args.path.now).absolute; parts = c.mark_steps.new.all; streams = (out-Path c.args.path.now).streams }))
          ∙ ap (λ a. a && may_stream c.mark_steps.new.all) (sym w.if-allowed.true)))
      | mark_path-else-allowed w ↦ w.path-is ∙ (w.if-allowed.false ∙ ap (λ a. a && may_stream c.mark_steps.new.all) (sym w.if-allowed.false))
    ] in
    rw out-roll-Path (path_marked b c.args.path.now c.mark_steps.new.all c.if-allowed.path parts streams)

pub mark-loop-at-preserved : goal.mark-loop-at-preserved
mark-loop-at-preserved t c =
    let next : c.replace-next.result ≡ c.in-Binary.left = search rules in
    let right : c.mark.new.e ≡ marked c.args.allowed c.in-Binary.right = cc (c.mark.ensures, c.get_mut.ensures.now, c.in-Binary.right-is) in
    let smaller : the_size c.replace-next.result ≤ the_size c.args.e.now = search (rules, the_lemmas) in
    rw (c.in-Binary.is, outs-Binary c.in-Binary.op c.in-Binary.left c.in-Binary.right) (
      smaller,
      down c.args.allowed c.loop-at.at c.loop-at.above (marked c.args.allowed c.args.e.now) c.in-Binary.left c.in-Binary.right
          c.replace-next.result c.replace-next.new.dest c.mark.new.e c.in-Binary.op c.in-Binary.op c.in-Binary.is c.loop-at.invariant.1 refl
          c.replace-next.ensures.after right next,
    )
