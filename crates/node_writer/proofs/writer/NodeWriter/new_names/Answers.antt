use Rattle.std.proofs.Common.{◌≡◌, ◌+◌, suc, List, [], ◌∷◌, ◌++◌, Some, take, refl, ap, sym, ◌∙◌, subst, append-nil, arith}
use Rattle.std.specs.List.{slice_get}
use Rattle.std.proofs.lemmas.Option.{slice_get-get_or}
use Rattle.std.proofs.lemmas.List.{take_all, take_more}
use Rattle.doc_model.specs.declared.row.Row.{Row}
use Rattle.doc_model.specs.Rows.{rows_of}
use Rattle.node_writer.specs.declared.new_names.NewNames.{NewNames}
use Rattle.node_writer.specs.Known.{known_at}
use Rattle.node_writer.specs.New.{AddsNames, has_new_prefix}
use Rattle.node_writer.proofs.Knowing.{found_at, apart_before, name_judged}
use Rattle.node_writer.proofs.Adding.{adds_none, adds_more}
use Rattle.node_writer.proofs.writer.NodeWriter.new_names.Goals as goal

pub loop-at-init : goal.loop-at-init
loop-at-init c limits cells s =
    let rows = rows_of cells.steps in
    let none : NewNames = record { count = 0; bytes = 0 } in
    let row = c.args.row.now in
    let nothing : rows ++ [] ≡ rows = append-nil rows in
    adds_more rows [] row none c.with_row-new.result c.is_new_type.result c.is_new_prefix.result
    (adds_none rows none refl refl)
    (name_judged c.args.self.now.filler.pool.names rows [] row (known_at c.args.found.now 0) c.known_at.result c.is_new_type.result s.names c.known_at.ensures
    (found_at c.args.self.now.filler.pool.names (row ∷ c.args.attributes.now) c.args.found.now 0 row c.requires.found refl) c.is_new_type.ensures refl)
    (c.is_new_prefix.ensures limits cells s ∙ ap (λ (all : List Row). has_new_prefix all row) (sym nothing))
    (record { count = c.with_row-new.ensures.count; bytes = c.with_row-new.ensures.bytes })

pub loop-at-preserved : goal.loop-at-preserved
loop-at-preserved c limits cells s =
    let rows = rows_of cells.steps in
    let attributes = c.args.attributes.now in
    let k = c.loop-at.at in
    let x = c.index-attributes-at.result in
    let names = c.args.self.now.filler.pool.names in
    let all : List Row = c.args.row.now ∷ attributes in
    let place : k + 1 ≡ suc k = omega arith in
    let here : slice_get all (suc k) ≡ Some x = slice_get-get_or attributes k x c.loop-at-test.true ∙ ap (λ (y : Row). Some y) (sym c.index-attributes-at.is) in
    let one : take (k + 1) attributes ≡ take k attributes ++ x ∷ [] = take_more attributes k x c.loop-at-test.true ∙ ap (λ (y : Row). take k attributes ++ y ∷ []) (sym c.index-attributes-at.is) in
    subst (λ (all : List Row). AddsNames rows (c.args.row.now ∷ all) c.with_row-new-in-loop-at.result) (sym one)
    (adds_more rows (c.args.row.now ∷ take k attributes) x c.loop-at.new c.with_row-new-in-loop-at.result c.is_new_type-name.result c.is_prefix_new_after-prefix.result
    (c.loop-at.invariant limits cells s)
    (name_judged names rows (c.args.row.now ∷ take k attributes) x (known_at c.args.found.now (suc k)) c.known_at-in-loop-at.result c.is_new_type-name.result s.names
    (c.known_at-in-loop-at.ensures ∙ ap (known_at c.args.found.now) place)
    (found_at names all c.args.found.now (suc k) x c.requires.found here) c.is_new_type-name.ensures
    (apart_before all (suc k) x c.requires.apart here))
    (c.is_prefix_new_after-prefix.ensures limits cells s)
    (record { count = c.with_row-new-in-loop-at.ensures.count; bytes = c.with_row-new-in-loop-at.ensures.bytes }))

pub returns : goal.returns
returns c limits cells s =
    subst (λ (all : List Row). AddsNames (rows_of cells.steps) (c.args.row.now ∷ all) c.loop-at.new) (take_all c.loop-at.at c.args.attributes.now c.loop-at-test.false)
    (c.loop-at.invariant limits cells s)
