-- What steps give once they are shut or have a fault: the same at each growth.
use Rattle.std.proofs.Common.{◌≡◌, ℕ, false, List, [], ◌∷◌, ◌++◌, length, Some, refl, ap, sym, ◌∙◌, arith, append-nil, length-append}
use Rattle.std.proofs.lemmas.Bool.{false≢true}
use Rattle.doc_model.specs.declared.row.Row.{Row}
use Rattle.doc_model.specs.declared.step.Step.{Step}
use Rattle.doc_model.specs.Document.{is_open}
use Rattle.doc_model.specs.Lawful.{IsLawful, Grows}
use Rattle.doc_model.specs.Rows.{rows_of}
use Rattle.doc_laws.proofs.Ends.{shut_grows}
use Rattle.doc_laws.proofs.Growth.{Grows-trans, prefix_rows}
use Rattle.doc_laws.proofs.Root.{root_extent, lawful_before}
use Rattle.doc_laws.proofs.Still.{at_still}
use Rattle.text_walk.specs.declared.fault.FaultKind.{FaultKind}
use Rattle.text_walk.specs.declared.turn.Turn.{Turn}
use Rattle.text_walk.specs.declared.turn.Turn.TheVariants.{NotYet, Done, Faulted}
use Rattle.text_walk.specs.BuiltIn.{reached, fault_of}
use Rattle.text_walk.specs.Text.{text_of, events_in}
use Rattle.text_walk.specs.Turning.{TurnIs, WaitsFor, IsDone, HasFault}
use Rattle.text_walk.specs.Walking.{Walking, Stands, IsBehind}
use Rattle.text_walk.proofs.Deep.{no_fault, fault_stays}

no_more : (rows more : List Row) → length (rows ++ more) ≡ length rows → rows ++ more ≡ rows
no_more rows [] h = append-nil rows
no_more rows (x ∷ more) h = absurd (omega (arith, h, length-append rows (x ∷ more)))

-- where the root is shut no row follows
rows_stay : (p q : List Step) → Grows p q → IsLawful q → is_open p 0 ≡ false → (is_open q 0 ≡ false) × (rows_of q ≡ rows_of p)
rows_stay p q g l h =
    let s = shut_grows p q 0 g l (omega arith) h in
    let r = prefix_rows p q g in
    let before = root_extent p (lawful_before p q g l).each in
    let later = root_extent q l.each in
    let same : length (rows_of q) ≡ length (rows_of p) = sym later ∙ s.1 ∙ before in
    (s.0, r.1 ∙ no_more (rows_of p) r.0 (sym (ap length r.1) ∙ same))

pub after_done : (walker then : Walking) (bytes more : List ℕ) (p q r : List Step) (turn : Turn) → Grows p q → Grows q r → IsLawful r
    → IsDone walker bytes p → TurnIs then more q r turn → (turn ≡ Done) × (more ≡ bytes) × (then.made ≡ walker.made)
after_done walker then bytes more p q r (NotYet m) g h l d t =
    let s = rows_stay p t.0 (Grows-trans p q t.0 g t.1) (lawful_before t.0 r t.2 l) d.shut in
    absurd (false≢true (sym s.0 ∙ t.3.going))
after_done walker then bytes more p q r Done g h l d t =
    let s = rows_stay p r (Grows-trans p q r g h) l d.shut in (
      refl,
      t.stands.text ∙ ap (λ rows. text_of (reached rows)) s.1 ∙ sym d.stands.text,
      t.stands.made ∙ ap (λ rows. events_in (reached rows)) s.1 ∙ sym d.stands.made,
    )
after_done walker then bytes more p q r (Faulted kind) g h l d t =
    let s = rows_stay p r (Grows-trans p q r g h) l d.shut in
    absurd (no_fault (fault_of (rows_of r)) kind t.fault (ap fault_of s.1 ∙ d.sound))

fault_grows : (p q : List Step) (kind : FaultKind) → Grows p q → fault_of (rows_of p) ≡ Some kind → (fault_of (rows_of q) ≡ Some kind) × (reached (rows_of q) ≡ reached (rows_of p))
fault_grows p q kind g h =
    let r = prefix_rows p q g in
    let s = fault_stays (rows_of p) r.0 kind h in
    (ap fault_of r.1 ∙ s.0, ap reached r.1 ∙ s.1)

pub after_fault : (walker then : Walking) (bytes more : List ℕ) (kind : FaultKind) (p q r : List Step) (turn : Turn) → Grows p q → Grows q r → IsLawful r
    → HasFault walker bytes kind p → TurnIs then more q r turn → (turn ≡ Faulted kind) × (more ≡ bytes) × (then.made ≡ walker.made)
after_fault walker then bytes more kind p q r (NotYet m) g h l d t =
    let s = fault_grows p t.0 kind (Grows-trans p q t.0 g t.1) d.fault in
    absurd (no_fault (fault_of (rows_of t.0)) kind s.0 t.3.sound)
after_fault walker then bytes more kind p q r Done g h l d t =
    let s = fault_grows p r kind (Grows-trans p q r g h) d.fault in
    absurd (no_fault (fault_of (rows_of r)) kind s.0 t.sound)
after_fault walker then bytes more kind p q r (Faulted other) g h l d t =
    let s = fault_grows p r kind (Grows-trans p q r g h) d.fault in (
      ap Faulted (some_kind other kind (sym t.fault ∙ s.0)),
      t.stands.text ∙ ap text_of s.1 ∙ sym d.stands.text,
      t.stands.made ∙ ap events_in s.1 ∙ sym d.stands.made,
    )
  where
    some_kind : (a b : FaultKind) → Some a ≡ Some b → a ≡ b
    some_kind a b e = cc

pub behind_after : (walker : Walking) (bytes : List ℕ) (p q r : List Step) (turn : Turn) → TurnIs walker bytes p q turn → Grows q r → IsBehind walker r bytes
behind_after walker bytes p q r (NotYet m) t g = (t.0, Grows-trans t.0 q r t.2 g, t.3.stands.under_way)
behind_after walker bytes p q r Done t g = (q, g, t.stands.under_way)
behind_after walker bytes p q r (Faulted kind) t g = (q, g, t.stands.under_way)

pub stands_still : (walker : Walking) (bytes : List ℕ) (p : List Step) (turn : Turn) → TurnIs walker bytes p p turn → Stands walker p bytes
stands_still walker bytes p (NotYet m) t = (at_still p (WaitsFor walker bytes m) t).stands
stands_still walker bytes p Done t = t.stands
stands_still walker bytes p (Faulted kind) t = t.stands
