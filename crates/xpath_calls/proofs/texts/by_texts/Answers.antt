use Rattle.std.proofs.Common.{◌≡◌, ap, sym, ◌∙◌}
use Rattle.doc_model.specs.Answers.{Known}
use Rattle.key_sources.proofs.Saying.{gives_same}
use Rattle.xpath_funcs.specs.Searches as searches
use Rattle.xpath_funcs.specs.Spaces.{normalized}
use Rattle.xpath_funcs.specs.Substrings.{substring}
use Rattle.xpath_funcs.specs.Translating.{translated}
use Rattle.xpath_meaning.specs.Calls.{length_of}
use Rattle.xpath_meaning.specs.Conversions.{text, truth}
use Rattle.xpath_calls.specs.Given.{by_texts}
use Rattle.xpath_calls.specs.Taken.{text_at, number_at, number_there}
use Rattle.xpath_calls.proofs.Others.{texts_other}
use Rattle.xpath_calls.proofs.texts.by_texts.Goals as goal

pub returns-in-String : goal.returns-in-String
returns-in-String c = gives_same _ _ c.copied.result (ap (λ t. Known (text t)) c.text_at.ensures ∙ ap (λ f. by_texts f c.args.arguments.now) (sym c.in-String.is)) c.copied.ensures

pub returns-in-StringLength : goal.returns-in-StringLength
returns-in-StringLength c = gives_same _ _ c.length_of.result
    (ap length_of c.text_at-in-StringLength.ensures ∙ ap (λ f. by_texts f c.args.arguments.now) (sym c.in-StringLength.is)) c.length_of.ensures

pub returns-in-NormalizeSpace : goal.returns-in-NormalizeSpace
returns-in-NormalizeSpace c = gives_same _ _ c.normalized.result
    (ap (λ t. Known (text (normalized t))) c.text_at-in-NormalizeSpace.ensures ∙ ap (λ f. by_texts f c.args.arguments.now) (sym c.in-NormalizeSpace.is)) c.normalized.ensures

pub returns-in-Concat : goal.returns-in-Concat
returns-in-Concat c = gives_same _ _ c.concatenated.result (ap (λ f. by_texts f c.args.arguments.now) (sym c.in-Concat.is)) c.concatenated.ensures

pub returns-in-StartsWith : goal.returns-in-StartsWith
returns-in-StartsWith c = gives_same _ _ c.begins_with.result
    (ap (λ a. Known (truth (searches.begins_with a c.text_at-in-StartsWith-2.result.now))) c.text_at-in-StartsWith.ensures
    ∙ ap (λ b. Known (truth (searches.begins_with (text_at c.args.arguments.now 0) b))) c.text_at-in-StartsWith-2.ensures
    ∙ ap (λ f. by_texts f c.args.arguments.now) (sym c.in-StartsWith.is)) c.begins_with.ensures

pub returns-in-Contains : goal.returns-in-Contains
returns-in-Contains c = gives_same _ _ c.holds_text.result
    (ap (λ a. Known (truth (searches.contains a c.text_at-in-Contains-2.result.now))) c.text_at-in-Contains.ensures
    ∙ ap (λ b. Known (truth (searches.contains (text_at c.args.arguments.now 0) b))) c.text_at-in-Contains-2.ensures
    ∙ ap (λ f. by_texts f c.args.arguments.now) (sym c.in-Contains.is)) c.holds_text.ensures

pub returns-in-SubstringBefore : goal.returns-in-SubstringBefore
returns-in-SubstringBefore c =
    gives_same _ _ c.text_before.result
    (ap (λ a. Known (text (searches.before a c.text_at-in-SubstringBefore-2.result.now))) c.text_at-in-SubstringBefore.ensures
    ∙ ap (λ b. Known (text (searches.before (text_at c.args.arguments.now 0) b))) c.text_at-in-SubstringBefore-2.ensures
    ∙ ap (λ f. by_texts f c.args.arguments.now) (sym c.in-SubstringBefore.is)) c.text_before.ensures

pub returns-in-SubstringAfter : goal.returns-in-SubstringAfter
returns-in-SubstringAfter c = gives_same _ _ c.text_after.result
    (ap (λ a. Known (text (searches.after a c.text_at-in-SubstringAfter-2.result.now))) c.text_at-in-SubstringAfter.ensures
    ∙ ap (λ b. Known (text (searches.after (text_at c.args.arguments.now 0) b))) c.text_at-in-SubstringAfter-2.ensures
    ∙ ap (λ f. by_texts f c.args.arguments.now) (sym c.in-SubstringAfter.is)) c.text_after.ensures

pub returns-in-Substring : goal.returns-in-Substring
returns-in-Substring c = gives_same _ _ c.part.result
    (ap (λ a. Known (text (substring a c.number_at-from.result c.number_there-length.result))) c.text_at-in-Substring.ensures
    ∙ ap (λ n. Known (text (substring (text_at c.args.arguments.now 0) n c.number_there-length.result))) c.number_at-from.ensures
    ∙ ap (λ n. Known (text (substring (text_at c.args.arguments.now 0) (number_at c.args.arguments.now 1) n))) c.number_there-length.ensures
    ∙ ap (λ f. by_texts f c.args.arguments.now) (sym c.in-Substring.is)) c.part.ensures

pub returns-in-Translate : goal.returns-in-Translate
returns-in-Translate c = gives_same _ _ c.translated.result
    (ap (λ a. Known (text (translated a c.text_at-from.result.now c.text_at-to.result.now))) c.text_at-in-Translate.ensures
    ∙ ap (λ f. Known (text (translated (text_at c.args.arguments.now 0) f c.text_at-to.result.now))) c.text_at-from.ensures
    ∙ ap (λ t. Known (text (translated (text_at c.args.arguments.now 0) (text_at c.args.arguments.now 1) t))) c.text_at-to.ensures
    ∙ ap (λ f. by_texts f c.args.arguments.now) (sym c.in-Translate.is)) c.translated.ensures

pub returns-in_default : goal.returns-in_default
returns-in_default c = gives_same _ _ c.empty.result
    (sym (texts_other c.args.function c.args.arguments.now c.in_default.not-String c.in_default.not-StringLength c.in_default.not-NormalizeSpace c.in_default.not-Concat c.in_default.not-StartsWith c.in_default.not-Contains c.in_default.not-SubstringBefore c.in_default.not-SubstringAfter c.in_default.not-Substring c.in_default.not-Translate)) c.empty.ensures
