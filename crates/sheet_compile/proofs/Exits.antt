-- What a call answers where one of its steps stops.
use Rattle.std.proofs.Common.{◌≡◌, ◌∙◌, sym, ap, subst, ℕ, List, Result, Ok, Err, inl, inr}
use Rattle.sheet_ast.specs.declared.sheet.Sheet.{Sheet}
use Rattle.sheet_elements.specs.declared.fault.SheetFault.{SheetFault}
use Rattle.sheet_reading.specs.declared.tree.Item.{Item}
use Rattle.doc_model.specs.declared.flaw.Flaw.{Flaw}
use Rattle.sheet_making.specs.Sheets.{sheet_of}
use Rattle.sheet_names.specs.declared.declaring.Names.{Names}
use Rattle.sheet_names.specs.Judging.{checked_names}
use Rattle.sheet_reading.specs.declared.stop.ReadStop.{ReadStop}
use Rattle.sheet_reading.specs.declared.stop.ReadStop.TheVariants as stopped
use Rattle.sheet_reading.specs.Elements.{elements_of}
use Rattle.sheet_reading.specs.Judgement as reading
use Rattle.sheet_reading.specs.Judgement.{◌>>=◌, Judgement, gives}
use Rattle.sheet_scopes.specs.declared.scope.ScopeEntry.{ScopeEntry}
use Rattle.sheet_source.specs.declared.error.SourceStop.{SourceStop}
use Rattle.sheet_source.specs.declared.error.SourceStop.TheVariants as flawed
use Rattle.sheet_source.specs.declared.tree.Document.{Document}
use Rattle.sheet_source.specs.Answers as source
use Rattle.sheet_source.specs.Nodes.{source_of}
use Rattle.sheet_compile.specs.declared.modules.Module.{Module}
use Rattle.sheet_compile.specs.declared.stop.CompileStop.{CompileStop}
use Rattle.sheet_compile.specs.declared.stop.CompileStop.TheVariants.{Refused, Memory}
use Rattle.sheet_compile.specs.Answers.{Answers}
use Rattle.sheet_compile.specs.Compiling.{Compiles, items_in, sheet_or_fault}
use Rattle.sheet_compile.specs.Joining.{Joins, JoinsAs, Orders, sheet_from}
use Rattle.sheet_compile.specs.Modules.{module_from, module_of, module_with, top_level, unless_flawed}
use Rattle.sheet_compile.specs.Stops.{stop_of_reading, stop_of_source}

-- the error that a step hands on
pub told : {A : Type 0} (meant : Result A SheetFault) (r : Result A CompileStop) (stop : CompileStop) → r ≡ Err stop → Answers meant (Err stop) → Answers meant r
told {A} meant r stop is h = subst (λ (s : Result A CompileStop). Answers meant s) (sym is) h

pub joins_told : (meant : Result Sheet SheetFault) (items : List Item) (r : Result Sheet CompileStop) (stop : CompileStop) → r ≡ Err stop → JoinsAs meant items (Err stop)
    → JoinsAs meant items r
joins_told meant items r stop is h = subst (λ (s : Result Sheet CompileStop). JoinsAs meant items s) (sym is) h

-- a flaw of the lines, or the elements of a document
pub flaw_stops : (bytes : List ℕ) (e : SourceStop) → source.Answers (source_of bytes) (Err e) → Answers (module_of bytes) (Err (stop_of_source e))
unfolding module_of
flaw_stops bytes (flawed.Flawed flaw) is = ap (λ (d : Result Document Flaw). unless_flawed d >>= module_from) is
flaw_stops bytes flawed.Memory is = tt

pub document_gives : (bytes : List ℕ) (document : Document) (r : Result Module CompileStop) → source_of bytes ≡ Ok document → Answers (module_from document) r → Answers (module_of bytes) r
unfolding module_of
document_gives bytes document r is h = subst (λ (d : Result Document Flaw). Answers (unless_flawed d >>= module_from) r) (sym is) h

-- a fault of an element by itself, or all elements
pub element_stops : (document : Document) (e : ReadStop) → reading.Answers (elements_of document) (Err e) → Answers (module_from document) (Err (stop_of_reading e))
element_stops document (stopped.Refused f) is = ap (λ (d : Judgement (List Item)). d >>= (λ (root : List Item). gives (module_with root document.scopes))) is
element_stops document stopped.Memory is = tt

pub elements_give : (document : Document) (root : List Item) → elements_of document ≡ Ok root → module_from document ≡ Ok (module_with root document.scopes)
elements_give document root is = ap (λ (d : Judgement (List Item)). d >>= (λ (root : List Item). gives (module_with root document.scopes))) is

-- a fault of a name, or the sheet
pub names_stop : (items : List Item) (scopes : List ScopeEntry) (e : ReadStop) → reading.Answers (checked_names items) (Err e) → Answers (sheet_from items scopes) (Err (stop_of_reading e))
unfolding sheet_from
names_stop items scopes (stopped.Refused f) is = ap (λ (n : Judgement Names). n >>= (λ (names : Names). gives (sheet_of names scopes items))) is
names_stop items scopes stopped.Memory is = tt

pub names_give : (items : List Item) (scopes : List ScopeEntry) (names : Names) (sheet : Sheet) → checked_names items ≡ Ok names → sheet ≡ sheet_of names scopes items
    → sheet_from items scopes ≡ Ok sheet
unfolding sheet_from
names_give items scopes names sheet is made = ap (λ (n : Judgement Names). n >>= (λ (names : Names). gives (sheet_of names scopes items))) is ∙ ap Ok (sym made)

-- a fault of a name, or a circle behind it
pub name_stops : (meant : Result Sheet SheetFault) (items : List Item) (stop : CompileStop) → Answers meant (Err stop) → JoinsAs meant items (Err stop)
name_stops meant items (Refused f) is = inl is
name_stops meant items Memory is = tt

pub circle_stops : (meant : Result Sheet SheetFault) (items : List Item) (sheet : Sheet) (stop : CompileStop) → meant ≡ Ok sheet → Orders items sheet (Err stop)
    → JoinsAs meant items (Err stop)
circle_stops meant items sheet (Refused f) is circle = inr (sheet, is, circle)
circle_stops meant items sheet Memory is circle = tt

-- a fault of the lines or of an element, or what the elements make
pub source_stops : (bytes : List ℕ) (stop : CompileStop) → Answers (module_of bytes) (Err stop) → Compiles bytes (Err stop)
unfolding sheet_or_fault
source_stops bytes (Refused f) is = inl (ap (λ n. n >>= (λ (m : Module). sheet_from (top_level m) m.scopes)) is)
source_stops bytes Memory is = tt

pub source_joins : (bytes : List ℕ) (m : Module) (r : Result Sheet CompileStop) → module_of bytes ≡ Ok m → Joins (top_level m) m.scopes r → Compiles bytes r
unfolding sheet_or_fault
source_joins bytes m r is joins =
    subst (λ (n : Result Module SheetFault). JoinsAs (n >>= (λ (m : Module). sheet_from (top_level m) m.scopes)) (items_in n) r) (sym is) joins
