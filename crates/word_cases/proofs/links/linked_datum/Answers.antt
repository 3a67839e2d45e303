use Rattle.std.proofs.Common.{◌≡◌, sym, ◌∙◌}
use Rattle.word_cases.proofs.Rows.{datum_seen}
use Rattle.word_cases.proofs.links.linked_datum.Goals as goal

pub returns-clause-datum : goal.returns-clause-datum
returns-clause-datum c none =
    datum_seen _ c.args.rows c.args.row c.get-link.new.self.log c.get-datum.new.self.log c.requires.words.0
    c.get-link.ensures.keeps c.get-datum.ensures.grows c.requires.row
    (λ unset. c.if-link-eq0.false (c.get-link.ensures.value ∙ unset)) (sym c.get-datum.ensures.value ∙ none)
