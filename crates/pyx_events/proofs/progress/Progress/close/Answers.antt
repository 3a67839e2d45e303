use Rattle.std.proofs.Common.{◌+◌, [], length, arith, sym, ◌∙◌}
use Rattle.xml_names.specs.Bindings.{all_bindings}
use Rattle.pyx_events.specs.Before.{pending_start}
use Rattle.pyx_events.specs.Flaw.{own_end_flaw}
use Rattle.pyx_events.proofs.Giving.{IsAt, refused_first, refused_own}
use Rattle.pyx_events.proofs.progress.Progress.close.Goals as goal

pub returns-in-Err : goal.returns-in-Err
returns-in-Err c = λ limits before taken.
    let nesting = c.args.self.now.nesting in
    let at : IsAt limits before (pending_start before) c.take-start.result nesting.scopes.uris (all_bindings nesting.scopes.scopes) (length nesting.open_names) = record {
      is = c.take-start.ensures.value ∙ taken.pending;
      known = sym taken.nested.uris;
      binds = taken.nested.bound 0;
      open_elements = omega (arith, taken.nested.deep);
      space = rw (← taken.nested.bytes, ← taken.nested.limits) taken.nested.space;
    } in
    refused_first limits before (pending_start before) c.take-start.result nesting.scopes.uris (all_bindings nesting.scopes.scopes) (length nesting.open_names)
    (own_end_flaw before) [] c.in-Err.error at c.in-Err.ensures.refused c.in-Err.ensures.empty

pub returns-in-Some : goal.returns-in-Some
returns-in-Some c = λ limits before taken.
    let nesting = c.args.self.now.nesting in
    let at : IsAt limits before (pending_start before) c.take-start.result nesting.scopes.uris (all_bindings nesting.scopes.scopes) (length nesting.open_names) = record {
      is = c.take-start.ensures.value ∙ taken.pending;
      known = sym taken.nested.uris;
      binds = taken.nested.bound 0;
      open_elements = omega (arith, taken.nested.deep);
      space = rw (← taken.nested.bytes, ← taken.nested.limits) taken.nested.space;
    } in
    refused_own limits before (pending_start before) c.take-start.result nesting.scopes.uris (all_bindings nesting.scopes.scopes) (length nesting.open_names)
    (own_end_flaw before) c.judge_close-own.result c.in-Some.kind [] c.in-Ok.node (nesting.lines + 1)
    at c.in-Ok.ensures.good (c.judge_close-own.ensures limits before taken.nested) c.in-Some.is (omega (arith, taken.nested.lines)) c.in-Ok.ensures.node
