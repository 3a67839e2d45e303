use Rattle.std.proofs.Common.{◌≡◌, ◌-◌, ◌==◌, if◌then◌else◌, Some, None, option_map, sym, ap, ◌∙◌, true, false}
use Rattle.std.specs.Prelude.{slice_get}
use Rattle.std.specs.Str.{bytes_eq}
use Rattle.xml_names.specs.Bindings.{uri_in}
use Rattle.sheet_scopes.specs.Scopes.{in_force}
use Rattle.sheet_scopes.proofs.Entries.{around, scope_is, scope_is_none, binds, passes}
use Rattle.sheet_scopes.proofs.scope.declared_uri.Goals as goal

pub returns-then-eq : goal.returns-then-eq
returns-then-eq c =
    let it = c.in-Some.entry.now in
    let entries = c.args.entries.now in
    let prefix = c.args.prefix.now in
    let found : (if c.loop-entry.scope == 0 then None else slice_get entries (c.loop-entry.scope - 1)) ≡ Some it =
    sym c.entry_of.ensures ∙ ap (option_map (λ entry. entry.now)) c.in-Some.is in
    let same : bytes_eq it.prefix prefix ≡ true = ap (λ own. bytes_eq own prefix) (sym c.as_slice.ensures) ∙ sym c.if-eq.ensures in
    ap Some c.as_slice-then-eq.ensures
    ∙ sym (c.loop-entry.invariant ∙ ap (uri_in prefix) (scope_is entries c.loop-entry.scope it found) ∙ binds prefix it (in_force entries (around it c.loop-entry.scope)) same)

pub loop-entry-preserved : goal.loop-entry-preserved
loop-entry-preserved c =
    let it = c.in-Some.entry.now in
    let entries = c.args.entries.now in
    let prefix = c.args.prefix.now in
    let found : (if c.loop-entry.scope == 0 then None else slice_get entries (c.loop-entry.scope - 1)) ≡ Some it =
    sym c.entry_of.ensures ∙ ap (option_map (λ entry. entry.now)) c.in-Some.is in
    let other : bytes_eq it.prefix prefix ≡ false = ap (λ own. bytes_eq own prefix) (sym c.as_slice.ensures) ∙ sym c.if-eq.ensures in
    c.loop-entry.invariant ∙ ap (uri_in prefix) (scope_is entries c.loop-entry.scope it found) ∙ passes prefix it (in_force entries (around it c.loop-entry.scope)) other
    ∙ ap (λ scope. uri_in prefix (in_force entries scope)) (sym c.around-scope.ensures)

pub returns : goal.returns
returns c = sym (c.loop-entry.invariant ∙ ap (uri_in c.args.prefix.now) (scope_is_none c.args.entries.now c.loop-entry.scope (sym c.in_default.ensures)))
