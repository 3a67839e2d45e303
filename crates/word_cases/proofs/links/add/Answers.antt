use Rattle.std.proofs.Common.{◌≡◌, List, [], ◌∷◌, ◌++◌, ◌+◌, ap, sym, ◌∙◌, subst}
use Rattle.link_cells.specs.declared.entry.Entry.{Entry}
use Rattle.link_cells.specs.Known.{Mark, Known}
use Rattle.link_cells.specs.Log.{put, value_at}
use Rattle.word_cases.specs.Links.{HasDataFirst, HasNoneFrom}
use Rattle.word_cases.proofs.Rows.{Adds, adds}
use Rattle.word_cases.proofs.links.add.Goals as goal

pub set-requires-clause-keeps : goal.set-requires-clause-keeps
set-requires-clause-keeps c κs =
    let first = ap (λ (m : Mark). m.layout.first) c.requires.mark in
    let a = adds _ _ c.args.rows c.args.row c.args.datum _ first c.requires.words.0 c.lawful.ensures.once
    c.lawful.ensures.keeps c.requires.none c.requires.row c.requires.datum in
    a.datum_keeps

pub set-requires-2-clause-unset : goal.set-requires-2-clause-unset
set-requires-2-clause-unset c κs =
    let first = ap (λ (m : Mark). m.layout.first) c.requires.mark in
    let a = adds _ _ c.args.rows c.args.row c.args.datum _ first c.requires.words.0 c.lawful.ensures.once
    c.lawful.ensures.keeps c.requires.none c.requires.row c.requires.datum in
    ap (λ (k : Known). value_at (c.args.rows + c.args.row) k.log) c.set.ensures ∙ a.link_unset

pub set-requires-2-clause-keeps : goal.set-requires-2-clause-keeps
set-requires-2-clause-keeps c κs =
    let first = ap (λ (m : Mark). m.layout.first) c.requires.mark in
    let a = adds _ _ c.args.rows c.args.row c.args.datum _ first c.requires.words.0 c.lawful.ensures.once
    c.lawful.ensures.keeps c.requires.none c.requires.row c.requires.datum in
    subst (λ (k : Known). HasDataFirst c.args.cells.now.layout.first (k.log ++ put (c.args.rows + c.args.row) 1 ∷ [])) (sym c.set.ensures) a.link_keeps

pub returns-clause-none : goal.returns-clause-none
returns-clause-none c =
    let first = ap (λ (m : Mark). m.layout.first) c.requires.mark in
    let a = adds _ _ c.args.rows c.args.row c.args.datum _ first c.requires.words.0 c.lawful.ensures.once
    c.lawful.ensures.keeps c.requires.none c.requires.row c.requires.datum in
    let link = put (c.args.rows + c.args.row) 1 ∷ [] in
    let log = ap (λ (k : Known). k.log) c.set-2.ensures ∙ ap (λ (k : Known). k.log ++ link) c.set.ensures in
    subst (HasNoneFrom c.args.rows (c.args.row + 1)) (sym log) a.none
