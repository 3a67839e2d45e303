-- What parts, templates and sort keys mean stays in every world that continues.
use Rattle.std.proofs.Common.{refl, ℕ, List, ◌++◌}
use Rattle.doc_model.specs.Answers.{Known, Stays}
use Rattle.engine_laws.proofs.Asking as asking
use Rattle.engine_laws.specs.Growing.{Continues}
use Rattle.engine_meaning.specs.Places.{World, Place, setting}
use Rattle.engine_meaning.specs.Questions.{part_text, template_text}
use Rattle.engine_meaning.specs.Sorts.{key_at}
use Rattle.sheet_ast.specs.declared.instruction.SortDecl.{SortDecl}
use Rattle.sheet_ast.specs.declared.sheet.Sheet.{Sheet}
use Rattle.value_templates.proofs.Asking.{IsStable}
use Rattle.xpath_laws.proofs.Staying.{bind_stays}
use Rattle.xpath_meaning.specs.Outcome.{◌>>=◌}
use Rattle.xpath_meaning.specs.declared.context.Context.{Context}
use Rattle.xpath_syntax.specs.declared.pattern.Part.{Part}
use Rattle.xpath_syntax.specs.declared.pattern.Part.TheVariants as part
use Rattle.xpath_values.specs.declared.value.Value.{Value}

part_stays : (sheet : Sheet) (globals : List Value) (c : Place) (p : Part) (w v : World) → Continues w v → Stays (part_text (setting sheet w globals) c p) (part_text (setting sheet v globals) c p)
part_stays sheet globals c (part.Plain text) w v y = refl
part_stays sheet globals c (part.Value e) w v y = asking.text_stays sheet globals w v y c e

-- a text with that of one more part
pub part_stable : (sheet : Sheet) (globals : List Value) (c : Place) (p : Part) (text : List ℕ) → IsStable (λ w. part_text (setting sheet w globals) c p >>= λ more. Known (text ++ more))
part_stable sheet globals c p text = record { stays = λ w v y. bind_stays _ _ _ _ (part_stays sheet globals c p w v y) (λ more. refl) }

pub template_stable : (sheet : Sheet) (globals : List Value) (c : Place) (parts : List Part) → IsStable (λ w. template_text (setting sheet w globals) c parts)
template_stable sheet globals c parts = record { stays = λ w v y. asking.template_stays sheet globals w v y c parts }

pub key_stable : (sheet : Sheet) (globals : List Value) (c : Place) (item : Context) (sort : SortDecl) → IsStable (λ w. key_at (setting sheet w globals) c item sort)
key_stable sheet globals c item sort = record { stays = λ w v y. asking.part_of_key_stays sheet globals w v y c item sort }
