-- A function that is none of those that are named goes on to the next ones.
use Rattle.std.proofs.Common.{◌≡◌, refl, ℕ, List, Option, false}
use Rattle.xpath_binding.specs.Functions.{takes}
use Rattle.xpath_binding.specs.declared.functions.Function.{Function}
use Rattle.xpath_binding.specs.declared.functions.Function.TheVariants as function
use Rattle.xpath_meaning.specs.declared.context.Context.{Context}
use Rattle.xpath_meaning.specs.Calls.{nothing}
use Rattle.xpath_meaning.specs.Reading.{Reading}
use Rattle.xpath_operations.specs.declared.operand.Operand.{Operand}
use Rattle.xpath_calls.specs.Given.{by_texts, plainly, by_nodes, given}
use Rattle.xpath_calls.specs.Taking.{accepts, is_of_context}

pub accepts_other : (f : Function) (n : ℕ) → (f ≡ function.Concat → ⊥) → accepts f n ≡ takes f n
accepts_other function.Concat n h0 = absurd (h0 refl)
accepts_other f n h0 = refl

pub context_other : (f : Function) → (f ≡ function.String → ⊥) → (f ≡ function.StringLength → ⊥) → (f ≡ function.NormalizeSpace → ⊥) → (f ≡ function.Number → ⊥)
    → (f ≡ function.LocalName → ⊥) → (f ≡ function.NamespaceUri → ⊥) → (f ≡ function.Name → ⊥) → (f ≡ function.GenerateId → ⊥) → is_of_context f ≡ false
context_other function.String h0 h1 h2 h3 h4 h5 h6 h7 = absurd (h0 refl)
context_other function.StringLength h0 h1 h2 h3 h4 h5 h6 h7 = absurd (h1 refl)
context_other function.NormalizeSpace h0 h1 h2 h3 h4 h5 h6 h7 = absurd (h2 refl)
context_other function.Number h0 h1 h2 h3 h4 h5 h6 h7 = absurd (h3 refl)
context_other function.LocalName h0 h1 h2 h3 h4 h5 h6 h7 = absurd (h4 refl)
context_other function.NamespaceUri h0 h1 h2 h3 h4 h5 h6 h7 = absurd (h5 refl)
context_other function.Name h0 h1 h2 h3 h4 h5 h6 h7 = absurd (h6 refl)
context_other function.GenerateId h0 h1 h2 h3 h4 h5 h6 h7 = absurd (h7 refl)
context_other f h0 h1 h2 h3 h4 h5 h6 h7 = refl

pub texts_other : (f : Function) (xs : List Operand) → (f ≡ function.String → ⊥) → (f ≡ function.StringLength → ⊥) → (f ≡ function.NormalizeSpace → ⊥) → (f ≡ function.Concat → ⊥)
    → (f ≡ function.StartsWith → ⊥) → (f ≡ function.Contains → ⊥) → (f ≡ function.SubstringBefore → ⊥) → (f ≡ function.SubstringAfter → ⊥) → (f ≡ function.Substring → ⊥)
    → (f ≡ function.Translate → ⊥) → by_texts f xs ≡ nothing
texts_other function.String xs h0 h1 h2 h3 h4 h5 h6 h7 h8 h9 = absurd (h0 refl)
texts_other function.StringLength xs h0 h1 h2 h3 h4 h5 h6 h7 h8 h9 = absurd (h1 refl)
texts_other function.NormalizeSpace xs h0 h1 h2 h3 h4 h5 h6 h7 h8 h9 = absurd (h2 refl)
texts_other function.Concat xs h0 h1 h2 h3 h4 h5 h6 h7 h8 h9 = absurd (h3 refl)
texts_other function.StartsWith xs h0 h1 h2 h3 h4 h5 h6 h7 h8 h9 = absurd (h4 refl)
texts_other function.Contains xs h0 h1 h2 h3 h4 h5 h6 h7 h8 h9 = absurd (h5 refl)
texts_other function.SubstringBefore xs h0 h1 h2 h3 h4 h5 h6 h7 h8 h9 = absurd (h6 refl)
texts_other function.SubstringAfter xs h0 h1 h2 h3 h4 h5 h6 h7 h8 h9 = absurd (h7 refl)
texts_other function.Substring xs h0 h1 h2 h3 h4 h5 h6 h7 h8 h9 = absurd (h8 refl)
texts_other function.Translate xs h0 h1 h2 h3 h4 h5 h6 h7 h8 h9 = absurd (h9 refl)
texts_other f xs h0 h1 h2 h3 h4 h5 h6 h7 h8 h9 = refl

pub plain_other : (f : Function) (xs : List Operand) (c : Context) → (f ≡ function.Last → ⊥) → (f ≡ function.Position → ⊥) → (f ≡ function.True → ⊥) → (f ≡ function.False → ⊥)
    → (f ≡ function.Current → ⊥) → (f ≡ function.Count → ⊥) → (f ≡ function.GenerateId → ⊥) → (f ≡ function.Number → ⊥) → (f ≡ function.Floor → ⊥) → (f ≡ function.Ceiling → ⊥)
    → (f ≡ function.Round → ⊥) → (f ≡ function.Boolean → ⊥) → (f ≡ function.Not → ⊥) → plainly f xs c ≡ by_texts f xs
plain_other function.Last xs c h0 h1 h2 h3 h4 h5 h6 h7 h8 h9 h10 h11 h12 = absurd (h0 refl)
plain_other function.Position xs c h0 h1 h2 h3 h4 h5 h6 h7 h8 h9 h10 h11 h12 = absurd (h1 refl)
plain_other function.True xs c h0 h1 h2 h3 h4 h5 h6 h7 h8 h9 h10 h11 h12 = absurd (h2 refl)
plain_other function.False xs c h0 h1 h2 h3 h4 h5 h6 h7 h8 h9 h10 h11 h12 = absurd (h3 refl)
plain_other function.Current xs c h0 h1 h2 h3 h4 h5 h6 h7 h8 h9 h10 h11 h12 = absurd (h4 refl)
plain_other function.Count xs c h0 h1 h2 h3 h4 h5 h6 h7 h8 h9 h10 h11 h12 = absurd (h5 refl)
plain_other function.GenerateId xs c h0 h1 h2 h3 h4 h5 h6 h7 h8 h9 h10 h11 h12 = absurd (h6 refl)
plain_other function.Number xs c h0 h1 h2 h3 h4 h5 h6 h7 h8 h9 h10 h11 h12 = absurd (h7 refl)
plain_other function.Floor xs c h0 h1 h2 h3 h4 h5 h6 h7 h8 h9 h10 h11 h12 = absurd (h8 refl)
plain_other function.Ceiling xs c h0 h1 h2 h3 h4 h5 h6 h7 h8 h9 h10 h11 h12 = absurd (h9 refl)
plain_other function.Round xs c h0 h1 h2 h3 h4 h5 h6 h7 h8 h9 h10 h11 h12 = absurd (h10 refl)
plain_other function.Boolean xs c h0 h1 h2 h3 h4 h5 h6 h7 h8 h9 h10 h11 h12 = absurd (h11 refl)
plain_other function.Not xs c h0 h1 h2 h3 h4 h5 h6 h7 h8 h9 h10 h11 h12 = absurd (h12 refl)
plain_other f xs c h0 h1 h2 h3 h4 h5 h6 h7 h8 h9 h10 h11 h12 = refl

pub nodes_other : (f : Function) (xs : List Operand) (R : Reading) (c : Context) → (f ≡ function.Sum → ⊥) → (f ≡ function.LocalName → ⊥) → (f ≡ function.NamespaceUri → ⊥)
    → (f ≡ function.Name → ⊥) → (f ≡ function.Lang → ⊥) → by_nodes f xs R c ≡ plainly f xs c
nodes_other function.Sum xs R c h0 h1 h2 h3 h4 = absurd (h0 refl)
nodes_other function.LocalName xs R c h0 h1 h2 h3 h4 = absurd (h1 refl)
nodes_other function.NamespaceUri xs R c h0 h1 h2 h3 h4 = absurd (h2 refl)
nodes_other function.Name xs R c h0 h1 h2 h3 h4 = absurd (h3 refl)
nodes_other function.Lang xs R c h0 h1 h2 h3 h4 = absurd (h4 refl)
nodes_other f xs R c h0 h1 h2 h3 h4 = refl

pub given_other : (f : Function) (slot : Option ℕ) (xs : List Operand) (R : Reading) (c : Context) → (f ≡ function.Id → ⊥) → (f ≡ function.Key → ⊥) → given f slot xs R c ≡ by_nodes f xs R c
given_other function.Id slot xs R c h0 h1 = absurd (h0 refl)
given_other function.Key slot xs R c h0 h1 = absurd (h1 refl)
given_other f slot xs R c h0 h1 = refl
