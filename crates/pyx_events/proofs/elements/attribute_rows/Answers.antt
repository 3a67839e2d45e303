use Rattle.std.proofs.Common.{◌≡◌, ◌++◌, ◌∷◌, [], false, arith, sym, ◌∙◌, ap}
use Rattle.std.proofs.lemmas.Grind.{common_steps}
use Rattle.pyx_events.specs.Before.{is_declaration}
use Rattle.xml_names.specs.Bindings.{all_bindings}
use Rattle.pyx_events.specs.Nodes.{attribute_rows}
use Rattle.pyx_events.proofs.Numbered.{numbered_more, rows_more}
use Rattle.pyx_events.proofs.Unbound.{judged, none_more}
use Rattle.pyx_events.proofs.elements.attribute_rows.Goals as goal

pub loop-it-preserved-in_ok-push-3 : goal.loop-it-preserved-in_ok-push-3
loop-it-preserved-in_ok-push-3 c =
    let bound = all_bindings c.args.scopes.now.scopes in
    let made = c.in_ok-row.field-0 in
    let no : is_declaration c.in-Some.it.name ≡ false = grind (arith, common_steps, c.if-not-is_declaration.true, c.is_declaration.ensures, c.as_slice.ensures) in (
      c.in_ok-push-2.ensures.ok ∙ ap (λ rows. rows ++ made.row ∷ []) c.loop-it.invariant.0
          ∙ ap (λ row. attribute_rows bound c.args.depth c.loop-it.yielded ++ row ∷ []) c.in_ok-row.ensures.row
          ∙ sym (rows_more bound c.args.depth c.loop-it.yielded c.in-Some.it no),
      rw (c.in_ok-push-2.ensures.ok, c.in_ok-push-3.ensures.ok)
          (numbered_more c.args.scopes.now.uris (c.args.element.now.row ∷ c.loop-it.rows) c.loop-it.numbers made.row made.number c.in_ok-row.ensures.number c.loop-it.invariant.1),
      none_more bound c.loop-it.yielded c.in-Some.it c.loop-it.invariant.2 (judged bound c.in-Some.it false no c.in_ok-row.ensures.good),
    )
