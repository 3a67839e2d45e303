-- Arguments whose nodes are there, and those that stand for none.
use Rattle.std.proofs.Common.{◌≡◌, refl, sym, ap, ◌∙◌, subst, ℕ, zero, suc, List, [], ◌∷◌, Bool, true, false, Option, Some, None}
use Rattle.std.specs.Prelude.{⊤, slice_get}
use Rattle.doc_model.specs.Answers.{Known, Fault, Open}
use Rattle.doc_model.specs.declared.step.Step.{Step}
use Rattle.xpath_funcs.specs.Languages.{lang_matches}
use Rattle.xpath_laws.specs.Sound.{Each}
use Rattle.xpath_meaning.specs.Conversions.{truth, first_of}
use Rattle.xpath_meaning.specs.Functions.{language_of, speaks}
use Rattle.xpath_meaning.specs.Outcome.{Outcome, ◌>>=◌}
use Rattle.xpath_meaning.specs.Reading.{Reading}
use Rattle.xpath_nodes.specs.Held.{AllJoined, HasJoined, IsJoinedIf}
use Rattle.xpath_nodes.proofs.Holding.{first_held}
use Rattle.xpath_operations.specs.Operands.{IsHeld}
use Rattle.xpath_operations.specs.declared.operand.Operand.{Operand}
use Rattle.xpath_operations.specs.declared.operand.Operand.TheVariants.{Truth, Number, Nodes, Whole, Text, Name}
use Rattle.xpath_values.specs.declared.value.Value.{Value}
use Rattle.std.proofs.Common.{arith}
use Rattle.doc_model.specs.Answers.{Stays}
use Rattle.doc_model.specs.Lawful.{Grows}
use Rattle.doc_model.specs.declared.strip_rule.StripRule.{StripRule}
use Rattle.key_sources.proofs.Saying.{Keeps}
use Rattle.xpath_binding.specs.declared.functions.Function.{Function}
use Rattle.xpath_laws.proofs.Staying.{bind_stays}
use Rattle.xpath_laws.specs.Sound.{IsThere, IsValue}
use Rattle.xpath_meaning.specs.declared.context.Context.{Context}
use Rattle.xpath_meaning.specs.Reading.{Extends}
use Rattle.xpath_nodes.proofs.Holding.{each_weaker}
use Rattle.xpath_operations.proofs.Held.{held_on}
use Rattle.xpath_operations.proofs.Standing.{operand_stays}
use Rattle.xpath_operations.specs.declared.operand.OperandKind.{OperandKind}
use Rattle.xpath_values.specs.declared.value.Value.TheVariants as value
use Rattle.xpath_calls.specs.Taking.{kind_at, is_of_context, own_argument, own_arguments, completed}
use Rattle.xpath_calls.specs.Holding.{HeldIf}
use Rattle.xpath_calls.specs.Taken.{nodes_in, nodes_if, nodes_at, value_in, value_if, value_at}

-- the argument at a place is there, if there is one
abbrev HeldAt : List Step → Option Operand → Type 0
HeldAt steps None = ⊤
HeldAt steps (Some x) = IsHeld steps x

held_at : (steps : List Step) (xs : List Operand) (at : ℕ) → Each (IsHeld steps) xs → HeldAt steps (slice_get xs at)
held_at steps [] at a = tt
held_at steps (x ∷ xs) zero a = a.0
held_at steps (x ∷ xs) (suc at) a = held_at steps xs at a.1

nodes_in_held : (steps : List Step) (x : Operand) → IsHeld steps x → AllJoined steps (nodes_in x)
nodes_in_held steps (Text bytes) h = tt
nodes_in_held steps (Truth b) h = tt
nodes_in_held steps (Number n) h = tt
nodes_in_held steps (Nodes nodes) h = h
nodes_in_held steps (Whole v) h = tt
nodes_in_held steps Name h = tt

value_in_held : (steps : List Step) (x : Operand) → IsHeld steps x → HeldIf steps (value_in x)
value_in_held steps (Text bytes) h = tt
value_in_held steps (Truth b) h = tt
value_in_held steps (Number n) h = tt
value_in_held steps (Nodes nodes) h = tt
value_in_held steps (Whole v) h = h
value_in_held steps Name h = tt

nodes_if_held : (steps : List Step) (o : Option Operand) → HeldAt steps o → AllJoined steps (nodes_if o)
nodes_if_held steps None h = tt
nodes_if_held steps (Some x) h = nodes_in_held steps x h

value_if_held : (steps : List Step) (o : Option Operand) → HeldAt steps o → HeldIf steps (value_if o)
value_if_held steps None h = tt
value_if_held steps (Some x) h = value_in_held steps x h

pub nodes_held : (steps : List Step) (xs : List Operand) (at : ℕ) (nodes : List ℕ) → Each (IsHeld steps) xs → nodes ≡ nodes_at xs at → AllJoined steps nodes
nodes_held steps xs at nodes a e = subst (AllJoined steps) (sym e) (nodes_if_held steps (slice_get xs at) (held_at steps xs at a))

pub first_held_at : (steps : List Step) (xs : List Operand) (at : ℕ) (first : Option ℕ) → Each (IsHeld steps) xs → first ≡ first_of (nodes_at xs at) → IsJoinedIf steps first
first_held_at steps xs at first a e = first_held steps (nodes_at xs at) first (nodes_if_held steps (slice_get xs at) (held_at steps xs at a)) e

pub value_held : (steps : List Step) (xs : List Operand) (at : ℕ) (v : Option Value) → Each (IsHeld steps) xs → v ≡ value_at xs at → HeldIf steps v
value_held steps xs at v a e = subst (HeldIf steps) (sym e) (value_if_held steps (slice_get xs at) (held_at steps xs at a))

-- ---- whether a language is spoken

spoken_by : (o : Outcome (Option (List ℕ))) (asked : List ℕ) → (o >>= λ language. Known (truth (speaks language asked))) ≡ ((o >>= λ language. Known (speaks language asked)) >>= λ b. Known (truth b))
spoken_by (Known language) asked = refl
spoken_by (Fault f) asked = refl
spoken_by (Open m) asked = refl

pub spoken : (R : Reading) (n : ℕ) (asked : List ℕ)
    → (language_of R n >>= λ language. Known (truth (speaks language asked))) ≡ ((language_of R n >>= λ language. Known (speaks language asked)) >>= λ b. Known (truth b))
spoken R n asked = spoken_by (language_of R n) asked

-- ---- arguments that stand for none

pub completed_some : (f : Function) (xs : List Operand) (R : Reading) (c : Context) → (xs ≡ [] → ⊥) → completed f xs R c ≡ Known xs
completed_some f [] R c h = absurd (h refl)
completed_some f (x ∷ xs) R c h = refl

-- the context node alone, as a value
pub alone_there : (rules : List StripRule) (steps : List Step) (n : ℕ) (nodes : List ℕ) → nodes ≡ n ∷ [] → IsThere rules steps n → IsValue (IsThere rules steps) (value.Nodes nodes)
alone_there rules steps n nodes e t = subst (λ (ns : List ℕ). IsValue (IsThere rules steps) (value.Nodes ns)) (sym e) ((omega arith, tt), (t, tt))

pub alone_joined : (rules : List StripRule) (steps : List Step) (n : ℕ) (nodes : List ℕ) → nodes ≡ n ∷ [] → IsThere rules steps n → HasJoined steps (value.Nodes nodes)
alone_joined rules steps n nodes e t = subst (λ (ns : List ℕ). HasJoined steps (value.Nodes ns)) (sym e) (t.0, tt)

-- what completed arguments mean stays
own_argument_stays : (k : Option OperandKind) (R Q : Reading) → Extends R Q → (c : Context) → Stays (own_argument k R c) (own_argument k Q c)
own_argument_stays None R Q x c = refl
own_argument_stays (Some k) R Q x c = operand_stays k (value.Nodes (c.node ∷ [])) R Q x

own_arguments_stay : (b : Bool) (f : Function) (R Q : Reading) → Extends R Q → (c : Context) → Stays (own_arguments b f R c) (own_arguments b f Q c)
own_arguments_stay true f R Q x c = bind_stays _ _ _ _ (own_argument_stays (kind_at f 0) R Q x c) (λ x. refl)
own_arguments_stay false f R Q x c = refl

completed_stays : (f : Function) (xs : List Operand) (R Q : Reading) → Extends R Q → (c : Context) → Stays (completed f xs R c) (completed f xs Q c)
completed_stays f [] R Q x c = own_arguments_stay (is_of_context f) f R Q x c
completed_stays f (y ∷ ys) R Q x c = refl

pub completed_kept : (f : Function) (xs : List Operand) (c : Context) → Keeps (λ R. completed f xs R c)
completed_kept f xs c = record { stays = λ R Q x. completed_stays f xs R Q x c }

pub all_on : (p q : List Step) (xs : List Operand) → Grows p q → Each (IsHeld p) xs → Each (IsHeld q) xs
all_on p q xs g a = each_weaker (IsHeld p) (IsHeld q) xs (λ x h. held_on p q x g h) a
