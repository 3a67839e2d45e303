-- The elements of one source.
use Rattle.std.specs.Prelude.{ℕ, List, [], ◌∷◌, Result, Ok, Err}
use Rattle.doc_model.specs.declared.flaw.Flaw.{Flaw}
use Rattle.sheet_elements.specs.declared.fault.SheetFault.{SheetFault}
use Rattle.sheet_reading.specs.declared.tree.Item.{Item}
use Rattle.sheet_reading.specs.declared.tree.Item.TheViews.{out-Item}
use Rattle.sheet_reading.specs.declared.tree.Item.TheOpen.{Item-F}
use Rattle.sheet_reading.specs.Elements.{elements_of}
use Rattle.sheet_reading.specs.Judgement.{◌>>=◌, Judgement, gives}
use Rattle.sheet_scopes.specs.declared.scope.ScopeEntry.{ScopeEntry}
use Rattle.sheet_source.specs.declared.tree.Document.{Document}
use Rattle.sheet_source.specs.Nodes.{source_of}
use Rattle.sheet_compile.specs.declared.modules.Module.{Module}
use Rattle.sheet_compile.specs.Stops.{fault_of_flaw}

-- a flaw of the lines comes before all other faults
abbrev pub unless_flawed : {A : Type 0} → Result A Flaw → Result A SheetFault
unless_flawed (Ok x) = Ok x
unless_flawed (Err flaw) = Err (fault_of_flaw flaw)

abbrev pub children_in : Item → List Item
children_in i = elim (out-Item i) [ Item-F.Text text ↦ [] | Item-F.Element e ↦ e.children ]

abbrev pub children_of_first : List Item → List Item
children_of_first [] = []
children_of_first (i ∷ is) = children_in i

-- the nodes in the root element, which is all that stands outside of elements
abbrev pub top_level : Module → List Item
top_level m = children_of_first m.root

abbrev pub module_with : List Item → List ScopeEntry → Module
module_with root scopes = record { root = root; scopes = scopes }

abbrev pub module_from : Document → Judgement Module
module_from document = do
  root ← elements_of document
  gives (module_with root document.scopes)

-- the first flaw of the lines, or else the first fault of an element by itself, or else the elements
unfoldable pub module_of : List ℕ → Judgement Module
module_of bytes = do
  document ← unless_flawed (source_of bytes)
  module_from document
