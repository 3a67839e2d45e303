-- Which attributes an element may have.
use Rattle.std.specs.Prelude.{ℕ, Bool, ◌&&◌, ◌||◌, ◌==◌, not, if◌then◌else◌, List, length, Option, Some, None, option_map, codes}
use Rattle.std.specs.List.{find}
use Rattle.std.specs.Str.{bytes_eq}
use Rattle.sheet_elements.specs.declared.tag.Tag.{Tag}
use Rattle.sheet_elements.specs.declared.tag.Tag.TheVariants as tag
use Rattle.sheet_elements.specs.declared.tag.Word.{Word}
use Rattle.sheet_elements.specs.declared.table.Row.{Row}
use Rattle.sheet_elements.specs.declared.table.Kind.{Kind}
use Rattle.sheet_elements.specs.declared.table.Kind.TheVariants as of
use Rattle.sheet_elements.specs.Names.{is_xsl, word_of, same_tag, same_word}
use Rattle.sheet_elements.specs.Table.{rows}

-- the row of an attribute without a namespace
abbrev pub row_of : Tag → Word → Option Row
row_of t w = find (λ row. same_word row.word w) (rows t)

abbrev pub is_literal : Tag → Bool
is_literal t = same_tag t tag.Literal

-- of the attributes in the namespace itself, those that literal elements may have (XSLT 1.0, section 7.1.1)
abbrev pub kind_of_xsl : Tag → List ℕ → Option Kind
kind_of_xsl t local = if is_literal t && (bytes_eq local (codes "version") || bytes_eq local (codes "exclude-result-prefixes")) then Some of.Unused else None

-- what an attribute's value is, and None where the element may not have it: all others of a literal element are value templates, and those of another namespace have no effect (section 2.1)
unfoldable pub kind_of : Tag → List ℕ → List ℕ → Option Kind
kind_of t uri local =
    if is_xsl uri then kind_of_xsl t local else
    if is_literal t then Some of.Template else
    if not (length uri == 0) then Some of.Unused else
    option_map (λ row. row.kind) (row_of t (word_of local))

abbrev pub makes_element : Tag → Bool
makes_element t = same_tag t tag.Element || same_tag t tag.Copy

-- sets of attributes (section 7.1.4) and prefixes of extensions (14.1), which are known and not supported
unfoldable pub is_left_out_attribute : Tag → List ℕ → List ℕ → Bool
is_left_out_attribute t uri local =
    if is_literal t then is_xsl uri && (bytes_eq local (codes "use-attribute-sets") || bytes_eq local (codes "extension-element-prefixes")) else
    makes_element t && length uri == 0 && bytes_eq local (codes "use-attribute-sets")
