use Rattle.std.proofs.Common.{◌+◌, ◌++◌, List, length, arith, sym, ◌∙◌, ap}
use Rattle.xml_names.specs.Bindings.{all_bindings}
use Rattle.pyx_events.specs.declared.event.Event.{Event}
use Rattle.pyx_events.specs.Before.{completed_start}
use Rattle.pyx_events.specs.Counted.{free_names}
use Rattle.pyx_events.specs.Nodes.{line_events, own_events}
use Rattle.pyx_events.specs.Flaw.{own_flaw}
use Rattle.pyx_events.specs.Taken.{IsReady}
use Rattle.pyx_events.proofs.Giving.{IsAt, node_completed, refused_first, refused_own, given_all}
use Rattle.pyx_events.proofs.progress.Progress.line.Goals as goal

pub returns-in-Err-clause-answer : goal.returns-in-Err-clause-answer
returns-in-Err-clause-answer c = λ limits before taken.
    let nesting = c.args.self.now.nesting in
    let at : IsAt limits before (completed_start before c.args.line) c.take_if-start.result nesting.scopes.uris (all_bindings nesting.scopes.scopes) (length nesting.open_names) = record {
      is = rw (← taken.pending, ← c.completes.ensures) c.take_if-start.ensures.start;
      known = sym taken.nested.uris;
      binds = taken.nested.bound 0;
      open_elements = omega (arith, taken.nested.deep);
      space = rw (← taken.nested.bytes, ← taken.nested.limits) taken.nested.space;
    } in
    refused_first limits before (completed_start before c.args.line) c.take_if-start.result nesting.scopes.uris (all_bindings nesting.scopes.scopes) (length nesting.open_names)
    (own_flaw limits free_names before c.args.line) (line_events before c.args.line) c.in-Err.error at c.in-Err.ensures.refused c.in-Err.ensures.empty

pub returns-in-Some-clause-answer : goal.returns-in-Some-clause-answer
returns-in-Some-clause-answer c = λ limits before taken.
    let nesting = c.args.self.now.nesting in
    let at : IsAt limits before (completed_start before c.args.line) c.take_if-start.result nesting.scopes.uris (all_bindings nesting.scopes.scopes) (length nesting.open_names) = record {
      is = rw (← taken.pending, ← c.completes.ensures) c.take_if-start.ensures.start;
      known = sym taken.nested.uris;
      binds = taken.nested.bound 0;
      open_elements = omega (arith, taken.nested.deep);
      space = rw (← taken.nested.bytes, ← taken.nested.limits) taken.nested.space;
    } in
    refused_own limits before (completed_start before c.args.line) c.take_if-start.result nesting.scopes.uris (all_bindings nesting.scopes.scopes) (length nesting.open_names)
    (own_flaw limits free_names before c.args.line) c.judge-own.result c.in-Some.kind (line_events before c.args.line) c.in-Ok.node (nesting.lines + 1)
    at c.in-Ok.ensures.good (c.judge-own.ensures limits before taken) c.in-Some.is (omega (arith, taken.nested.lines)) c.in-Ok.ensures.node

pub returns-clause-answer : goal.returns-clause-answer
returns-clause-answer c = λ limits before taken.
    let nesting = c.args.self.now.nesting in
    let at : IsAt limits before (completed_start before c.args.line) c.take_if-start.result nesting.scopes.uris (all_bindings nesting.scopes.scopes) (length nesting.open_names) = record {
      is = rw (← taken.pending, ← c.completes.ensures) c.take_if-start.ensures.start;
      known = sym taken.nested.uris;
      binds = taken.nested.bound 0;
      open_elements = omega (arith, taken.nested.deep);
      space = rw (← taken.nested.bytes, ← taken.nested.limits) taken.nested.space;
    } in
    let ready : IsReady limits (record c.args.self.now { pending = c.take_if-start.new.pending }) before c.args.line = record {
      nested = taken.nested;
      pending = rw (← taken.pending, ← c.completes.ensures) c.take_if-start.ensures.left;
      text = taken.text;
    } in
    let node = node_completed limits before (completed_start before c.args.line) c.take_if-start.result nesting.scopes.uris (all_bindings nesting.scopes.scopes)
    (length nesting.open_names) c.in-Ok.node at c.in-Ok.ensures.node in
    given_all limits before (completed_start before c.args.line) c.take_if-start.result nesting.scopes.uris (all_bindings nesting.scopes.scopes) (length nesting.open_names)
    (own_flaw limits free_names before c.args.line) c.judge-own.result (line_events before c.args.line) c.in_ok-events.events _
    at c.in-Ok.ensures.good (c.judge-own.ensures limits before taken) c.in-None.is
    (c.in_ok-events.ensures.events limits before ready ∙ ap (λ (n : List Event). n ++ own_events before c.args.line) node)

pub returns-clause-taken : goal.returns-clause-taken
returns-clause-taken c = λ limits before taken.
    let ready : IsReady limits (record c.args.self.now { pending = c.take_if-start.new.pending }) before c.args.line = record {
      nested = taken.nested;
      pending = rw (← taken.pending, ← c.completes.ensures) c.take_if-start.ensures.left;
      text = taken.text;
    } in
    c.in_ok-events.ensures.taken limits before ready (sym (c.judge-own.ensures limits before taken) ∙ c.in-None.is)
