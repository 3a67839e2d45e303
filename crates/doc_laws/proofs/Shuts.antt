-- A row is shut exactly where it is not open.
use Rattle.std.proofs.Common.{◌≡◌, ℕ, zero, suc, ◌+◌, ◌-◌, ◌<◌, ◌≤◌, Bool, true, false, cond, not, ◌||◌, eqb, List, [], ◌∷◌, ◌++◌, length, refl, ap, sym, ◌∙◌, subst, arith, length-append, inl, inr, ◌⊎◌}
use Rattle.std.proofs.lemmas.Bool.{cases_Bool, cases_lt, cases_eq, eq-eqb, ne_eqb, false≢true}
use Rattle.doc_model.specs.declared.row.Kind.{Kind}
use Rattle.doc_model.specs.declared.row.Kind.TheVariants.{Root, Element, Attribute, Text, Instruction, Comment, Comment}
use Rattle.doc_model.specs.declared.row.Row.{Row}
use Rattle.doc_model.specs.declared.step.Step.{Step}
use Rattle.doc_model.specs.declared.step.Step.TheVariants.{Node, Shut, End}
use Rattle.doc_model.specs.declared.step.Verdict.{Verdict}
use Rattle.doc_model.specs.declared.step.Verdict.TheVariants.{Good, Bad, Failed, Starved, Upstream}
use Rattle.doc_model.specs.Document.{Document, start, after, document_from, document_of, is_attribute, is_parent, is_member, is_open, tail_of, open_after}
use Rattle.doc_model.specs.Lawful.{may_stand, CanJoin, CanEnd, LawfulFrom, IsJoined}
use Rattle.doc_model.specs.Relations.{extent_of}
use Rattle.doc_model.specs.Rows.{row_at, rows_of, rows_given}
use Rattle.doc_model.specs.Shut.{shut_count, element_count, HasShutMore, HasNode, HasGoodEnd, IsShut, IsShutAs}
use Rattle.doc_laws.proofs.Growth.{document_from-append, document_of-append, rows-append, rows_given-append, row_at_grows}
use Rattle.doc_laws.proofs.Stack.{StackOf, stack_of, row_at_seam, row_at_past, attribute_depths}
use Rattle.doc_laws.proofs.Words.{member_parent}
use Rattle.doc_laws.proofs.Ends.{IsReached, reached, reached_after, LawfulFrom-split, lawful_split, closed_from}

-- with so many elements opened since, the steps shut the row that was innermost before them
pub falls : ℕ → List Step → Bool
falls d [] = false
falls d (Node row attributes ∷ steps) = falls (cond (is_parent row.kind) (suc d) d) steps
falls zero (Shut ∷ steps) = true
falls (suc d) (Shut ∷ steps) = falls d steps
falls d (End v ∷ steps) = falls d steps

member_past : (xs os : List ℕ) (n : ℕ) → is_member n (xs ++ n ∷ os) ≡ true
member_past [] os n = ap (λ b. b || is_member n os) (eq-eqb n n refl)
member_past (x ∷ xs) os n = elim (cases_Bool (eqb n x)) [ inl e ↦ ap (λ b. b || is_member n (xs ++ n ∷ os)) e | inr e ↦ ap (λ b. b || is_member n (xs ++ n ∷ os)) e ∙ member_past xs os n ]

-- rows below in the open list are others
not_below : (rows : List Row) (os : List ℕ) (n : ℕ) → StackOf rows os → length os ≤ (row_at rows n).depth → is_member n os ≡ false
not_below rows [] n s h = refl
not_below rows (o ∷ os) n s h =
    ap (λ b. b || is_member n os) (ne_eqb n o (λ e. absurd (let d : (row_at rows n).depth ≡ length os = ap (λ k. (row_at rows k).depth) e ∙ s.0.depth in omega arith)))
    ∙ not_below rows os n s.1 (omega arith)

longer : (xs os : List ℕ) (n : ℕ) → 0 < length os → length (xs ++ n ∷ os) ≡ 1 → ⊥
longer xs os n h e = absurd (omega (arith, length-append xs (n ∷ os)))

past_end : (v : Verdict) (xs os : List ℕ) (n : ℕ) → 0 < length os → CanEnd v (xs ++ n ∷ os) → open_after v (xs ++ n ∷ os) ≡ xs ++ n ∷ os
past_end Good xs os n h e = absurd (longer xs os n h e)
past_end (Bad f) xs os n h e = refl
past_end Failed xs os n h e = refl
past_end Starved xs os n h e = refl
past_end Upstream xs os n h e = refl

pub falls_is : (s : Document) (steps : List Step) (d : ℕ) (xs os : List ℕ) (n : ℕ) → IsReached s → LawfulFrom s steps → s.opened ≡ xs ++ n ∷ os → length xs ≡ d → 0 < length os → n < length s.rows
    → is_member n (document_from s steps).opened ≡ not (falls d steps)
unfolding falls
falls_is s [] d xs os n r l e c z j = ap (is_member n) e ∙ member_past xs os n
falls_is s (Node row attributes ∷ steps) d xs os n r l e c z j =
    let t : Document = after s (Node row attributes) in
    let len : n < length t.rows = omega (arith, j, length-append s.rows (row ∷ attributes)) in
    elim (cases_Bool (is_parent row.kind)) [
      | inl b ↦
          let o : t.opened ≡ (length s.rows ∷ xs) ++ n ∷ os = ap (λ q. cond q (length s.rows ∷ s.opened) s.opened) b ∙ ap (λ ys. length s.rows ∷ ys) e in
          falls_is t steps (suc d) (length s.rows ∷ xs) os n (reached_after s (Node row attributes) r l.1) l.2 o (ap suc c) z len
          ∙ ap (λ q. not (falls (cond q (suc d) d) steps)) (sym b)
      | inr b ↦
          let o : t.opened ≡ xs ++ n ∷ os = ap (λ q. cond q (length s.rows ∷ s.opened) s.opened) b ∙ e in
          falls_is t steps d xs os n (reached_after s (Node row attributes) r l.1) l.2 o c z len
          ∙ ap (λ q. not (falls (cond q (suc d) d) steps)) (sym b)
    ]
falls_is s (Shut ∷ steps) zero [] os n r l e c z j =
    let stack : StackOf s.rows (n ∷ os) = subst (λ ys. StackOf s.rows ys) e r.stack in
    let closed : is_member n (tail_of s.opened) ≡ false = ap (λ ys. is_member n (tail_of ys)) e ∙ not_below s.rows os n stack.1 (omega (arith, stack.0.depth)) in
    (closed_from (after s Shut) steps n (extent_of s.rows n) (reached_after s Shut r l.1) l.2 (record { joined = j; closed = closed; extent = refl })).closed
falls_is s (Shut ∷ steps) zero (x ∷ xs) os n r l e c z j = absurd (omega arith)
falls_is s (Shut ∷ steps) (suc d) [] os n r l e c z j = absurd (omega arith)
falls_is s (Shut ∷ steps) (suc d) (x ∷ xs) os n r l e c z j =
    falls_is (after s Shut) steps d xs os n (reached_after s Shut r l.1) l.2 (ap tail_of e) (omega arith) z j
falls_is s (End v ∷ steps) d xs os n r l e c z j =
    let o : open_after v s.opened ≡ xs ++ n ∷ os = ap (open_after v) e ∙ past_end v xs os n z (subst (λ ys. CanEnd v ys) e l.1) in
    falls_is (after s (End v)) steps d xs os n (reached_after s (End v) r l.1) l.2 o c z j

-- the point at which there is one Shut more
pub falls_point : (d : ℕ) (steps : List Step) → falls d steps ≡ true → (p : List Step) × (rest : List Step) × (p ++ rest ≡ steps) × (shut_count p ≡ suc (d + element_count p))
unfolding falls
falls_point d [] h = absurd (false≢true h)
falls_point d (Node row attributes ∷ steps) h = elim (cases_Bool (is_parent row.kind)) [
  | inl b ↦
      let t = falls_point (suc d) steps (sym (ap (λ q. falls (cond q (suc d) d) steps) b) ∙ h) in
      let e : element_count (Node row attributes ∷ t.0) ≡ suc (element_count (t.0)) = ap (λ q. cond q (suc (element_count (t.0))) (element_count (t.0))) b in
      (Node row attributes ∷ t.0, t.1, ap (λ xs. Node row attributes ∷ xs) t.2, omega (arith, t.3, e))
  | inr b ↦
      let t = falls_point d steps (sym (ap (λ q. falls (cond q (suc d) d) steps) b) ∙ h) in
      let e : element_count (Node row attributes ∷ t.0) ≡ element_count (t.0) = ap (λ q. cond q (suc (element_count (t.0))) (element_count (t.0))) b in
      (Node row attributes ∷ t.0, t.1, ap (λ xs. Node row attributes ∷ xs) t.2, omega (arith, t.3, e))
]
falls_point zero (Shut ∷ steps) h = (Shut ∷ [], steps, refl, refl)
falls_point (suc d) (Shut ∷ steps) h = let t = falls_point d steps h in (Shut ∷ t.0, t.1, ap (λ xs. Shut ∷ xs) t.2, omega (arith, t.3))
falls_point d (End v ∷ steps) h = let t = falls_point d steps h in (End v ∷ t.0, t.1, ap (λ xs. End v ∷ xs) t.2, t.3)

pub falls_from : (d : ℕ) (p rest : List Step) → shut_count p ≡ suc (d + element_count p) → falls d (p ++ rest) ≡ true
unfolding falls
falls_from d [] rest h = absurd (omega arith)
falls_from d (Node row attributes ∷ p) rest h = elim (cases_Bool (is_parent row.kind)) [
  | inl b ↦
      let e : element_count (Node row attributes ∷ p) ≡ suc (element_count p) = ap (λ q. cond q (suc (element_count p)) (element_count p)) b in
      ap (λ q. falls (cond q (suc d) d) (p ++ rest)) b ∙ falls_from (suc d) p rest (omega (arith, e, h))
  | inr b ↦
      let e : element_count (Node row attributes ∷ p) ≡ element_count p = ap (λ q. cond q (suc (element_count p)) (element_count p)) b in
      ap (λ q. falls (cond q (suc d) d) (p ++ rest)) b ∙ falls_from d p rest (omega (arith, e, h))
]
falls_from zero (Shut ∷ p) rest h = refl
falls_from (suc d) (Shut ∷ p) rest h = falls_from d p rest (omega arith)
falls_from d (End v ∷ p) rest h = falls_from d p rest h

-- an element is shut where, at some point after its Node, there is one Shut more than Nodes of elements
element_open : (a b : List Step) (row : Row) (attributes : List Row) → LawfulFrom start (a ++ Node row attributes ∷ b) → is_parent row.kind ≡ true
    → is_open (a ++ Node row attributes ∷ b) (length (rows_of a)) ≡ not (falls 0 b)
element_open a b row attributes l k =
    let split = lawful_split a (Node row attributes ∷ b) l in
    let r = reached a split.0 in
    let x : Step = Node row attributes in
    let t : Document = after (document_of a) x in
    let n : ℕ = length (rows_of a) in
    let some : 0 < length (document_of a).opened = r.going split.1.0 in
    let o : t.opened ≡ [] ++ n ∷ (document_of a).opened = ap (λ q. cond q (n ∷ (document_of a).opened) (document_of a).opened) k in
    let e : document_of (a ++ x ∷ b) ≡ document_from t b = document_of-append a (x ∷ b) in
    ap (λ (s : Document). is_member n s.opened) e
    ∙ falls_is t b 0 [] (document_of a).opened n (reached_after (document_of a) x r split.1.1) split.1.2 o refl some (omega (arith, length-append (rows_of a) (row ∷ attributes)))

not_back : (q : Bool) → not q ≡ false → q ≡ true
not_back true h = refl
not_back false h = absurd (false≢true (sym h))

element_shut : (p : List Step) (n : ℕ) (later : List Step) → LawfulFrom start p → (node : HasNode p n later) → is_parent node.row.kind ≡ true
    → is_open p n ≡ not (falls 0 later)
element_shut p n later l node k =
    sym (ap (λ xs. is_open xs n) node.split) ∙ sym (ap (λ m. is_open (node.before ++ Node node.row node.attributes ∷ later) m) node.number)
    ∙ element_open node.before later node.row node.attributes (subst (λ xs. LawfulFrom start xs) (sym node.split) l) k

-- the Node that gives a row which is no attribute, among the rows that steps give
record IsGiven (p : List Step) (k : ℕ) : Type 0 where
  pub before : List Step
  pub row : Row
  pub attributes : List Row
  pub later : List Step
  pub split : before ++ Node row attributes ∷ later ≡ p
  pub number : length (rows_given before) ≡ k

given_later : (x : Step) (p : List Step) (k : ℕ) → IsGiven p k → IsGiven (x ∷ p) (length (rows_given (x ∷ [])) + k)
given_later x p k g = record {
  before = x ∷ g.before;
  row = g.row;
  attributes = g.attributes;
  later = g.later;
  split = ap (λ xs. x ∷ xs) g.split;
  number = ap length (rows_given-append (x ∷ []) g.before) ∙ length-append (rows_given (x ∷ [])) (rows_given g.before) ∙ ap (λ m. length (rows_given (x ∷ [])) + m) g.number;
}

given_node : (s : Document) (p : List Step) (k : ℕ) → LawfulFrom s p → k < length (rows_given p) → is_attribute (row_at (rows_given p) k).kind ≡ false → IsGiven p k
given_node s [] k l h a = absurd (omega arith)
given_node s (Shut ∷ p) k l h a = let z : 0 + k ≡ k = omega arith in subst (λ m. IsGiven (Shut ∷ p) m) z (given_later Shut p k (given_node (after s Shut) p k l.2 h a))
given_node s (End v ∷ p) k l h a = let z : 0 + k ≡ k = omega arith in subst (λ m. IsGiven (End v ∷ p) m) z (given_later (End v) p k (given_node (after s (End v)) p k l.2 h a))
given_node s (Node row attributes ∷ p) k l h a =
    let x : Step = Node row attributes in
    let one : length (rows_given (x ∷ [])) ≡ suc (length attributes) = length-append (row ∷ attributes) [] ∙ omega arith in
    let all : length (rows_given (x ∷ p)) ≡ suc (length attributes) + length (rows_given p) = length-append (row ∷ attributes) (rows_given p) in
    elim (cases_lt k (suc (length attributes))) [
      | inr ge ↦
          let at : row_at (rows_given (x ∷ p)) k ≡ row_at (rows_given p) (k - suc (length attributes)) = row_at_past (row ∷ attributes) (rows_given p) k ge in
          let g = given_node (after s x) p (k - suc (length attributes)) l.2 (omega (arith, all)) (sym (ap (λ (r : Row). is_attribute r.kind) at) ∙ a) in
          let e : length (rows_given (x ∷ [])) + (k - suc (length attributes)) ≡ k = omega (arith, one) in
          subst (λ m. IsGiven (x ∷ p) m) e (given_later x p (k - suc (length attributes)) g)
      | inl lt ↦ elim (cases_eq k 0) [
        | inl z ↦ record { before = []; row = row; attributes = attributes; later = p; split = refl; number = sym z }
        | inr nz ↦
            let s : k ≡ suc (k - 1) = omega arith in
            let at : row_at (rows_given (x ∷ p)) k ≡ row_at attributes (k - 1) = row_at_grows (row ∷ attributes) (rows_given p) k (omega arith) ∙ ap (row_at (row ∷ attributes)) s in
            let b = attribute_depths row.depth attributes (k - 1) l.1.carried (omega arith) in
            absurd (false≢true (sym a ∙ ap (λ (r : Row). is_attribute r.kind) at ∙ ap is_attribute b.0))
      ]
    ]

node_of : (p : List Step) (n : ℕ) → LawfulFrom start p → 0 < n → IsJoined p n → is_attribute (row_at (rows_of p) n).kind ≡ false → (later : List Step) × HasNode p n later
node_of p zero l z j a = absurd (omega arith)
node_of p (suc k) l z j a =
    let g = given_node start p k l (omega arith) a in
    (g.later, record { before = g.before; row = g.row; attributes = g.attributes; split = g.split; number = ap suc g.number })

-- the row of a Node
node_row : (p : List Step) (n : ℕ) (later : List Step) (node : HasNode p n later) → row_at (rows_of p) n ≡ node.row
node_row p n later node =
    sym (ap (λ xs. row_at (rows_of xs) n) node.split) ∙ sym (ap (λ m. row_at (rows_of (node.before ++ Node node.row node.attributes ∷ later)) m) node.number)
    ∙ ap (λ rows. row_at rows (length (rows_of node.before))) (rows-append node.before (Node node.row node.attributes ∷ later))
    ∙ row_at_seam (rows_of node.before) node.row (node.attributes ++ rows_given later)

-- the root stands at the bottom of the open rows until a good End
Bottom : List ℕ → Type 0
Bottom [] = ⊥
Bottom (o ∷ []) = o ≡ 0
Bottom (o ∷ p ∷ os) = Bottom (p ∷ os)

bottom_member : (os : List ℕ) → Bottom os → is_member 0 os ≡ true
unfolding Bottom
bottom_member [] b = absurd b
bottom_member (o ∷ []) b = ap (λ x. x || false) (eq-eqb 0 o (sym b))
bottom_member (o ∷ p ∷ os) b = or_right (eqb 0 o) (is_member 0 (p ∷ os)) (bottom_member (p ∷ os) b)
  where
    or_right : (a b : Bool) → b ≡ true → (a || b) ≡ true
    or_right true b h = refl
    or_right false b h = h

bottom_push : (n : ℕ) (os : List ℕ) → Bottom os → Bottom (n ∷ os)
unfolding Bottom
bottom_push n [] b = absurd b
bottom_push n (o ∷ os) b = b

bottom_tail : (os : List ℕ) → 1 < length os → Bottom os → Bottom (tail_of os)
unfolding Bottom
bottom_tail [] l b = absurd b
bottom_tail (o ∷ []) l b = absurd (omega arith)
bottom_tail (o ∷ p ∷ os) l b = b

ends_none : (v : Verdict) (s : Document) (p : List Step) → LawfulFrom (after s (End v)) p → p ≡ []
ends_none v s [] l = refl
ends_none v s (x ∷ p) l = absurd cc

good_later : (x : Step) (p : List Step) → HasGoodEnd p → HasGoodEnd (x ∷ p)
good_later x p g = record { before = x ∷ g.before; later = g.later; split = ap (λ xs. x ∷ xs) g.split }

root_end : (v : Verdict) (s : Document) (p : List Step) → p ≡ [] → Bottom s.opened → HasGoodEnd (End v ∷ p) ⊎ Bottom (document_from (after s (End v)) p).opened
root_end Good s p e b = inl (record { before = []; later = p; split = refl })
root_end (Bad f) s p e b = inr (subst (λ xs. Bottom (document_from (after s (End (Bad f))) xs).opened) (sym e) b)
root_end Failed s p e b = inr (subst (λ xs. Bottom (document_from (after s (End Failed)) xs).opened) (sym e) b)
root_end Starved s p e b = inr (subst (λ xs. Bottom (document_from (after s (End Starved)) xs).opened) (sym e) b)
root_end Upstream s p e b = inr (subst (λ xs. Bottom (document_from (after s (End Upstream)) xs).opened) (sym e) b)

start_bottom : Bottom start.opened
unfolding Bottom
start_bottom = refl

-- where the root is not open any more, a good End is there, and the other way round
root_from : (s : Document) (p : List Step) → LawfulFrom s p → Bottom s.opened → HasGoodEnd p ⊎ Bottom (document_from s p).opened
root_from s [] l b = inr b
root_from s (Node row attributes ∷ p) l b =
    let t = after s (Node row attributes) in
    let b' : Bottom t.opened = elim (cases_Bool (is_parent row.kind)) [
      | inl e ↦ subst (λ q. Bottom (cond q (length s.rows ∷ s.opened) s.opened)) (sym e) (bottom_push (length s.rows) s.opened b)
      | inr e ↦ subst (λ q. Bottom (cond q (length s.rows ∷ s.opened) s.opened)) (sym e) b
    ] in
    elim (root_from t p l.2 b') [ inl g ↦ inl (good_later (Node row attributes) p g) | inr c ↦ inr c ]
root_from s (Shut ∷ p) l b =
    elim (root_from (after s Shut) p l.2 (bottom_tail s.opened l.1 b)) [ inl g ↦ inl (good_later Shut p g) | inr c ↦ inr c ]
root_from s (End v ∷ p) l b = root_end v s p (ends_none v s p l.2) b

good_root : (s : Document) (p : List Step) → LawfulFrom s p → HasGoodEnd p → (document_from s p).opened ≡ []
good_root s p l g =
    let l' : LawfulFrom s (g.before ++ End Good ∷ g.later) = subst (λ xs. LawfulFrom s xs) (sym g.split) l in
    let split = LawfulFrom-split s g.before (End Good ∷ g.later) l' in
    let t = document_from s g.before in
    let none = ends_none Good t g.later split.1.2 in
    ap (λ xs. (document_from s xs).opened) (sym g.split) ∙ ap (λ (d : Document). d.opened) (document_from-append s g.before (End Good ∷ g.later))
    ∙ ap (λ xs. (document_from (after t (End Good)) xs).opened) none

-- no row that is given is the root
given_no_root : (s : Document) (p : List Step) (k : ℕ) → LawfulFrom s p → k < length (rows_given p) → (row_at (rows_given p) k).kind ≡ Root → ⊥
given_no_root s [] k l h e = omega arith
given_no_root s (Shut ∷ p) k l h e = given_no_root (after s Shut) p k l.2 h e
given_no_root s (End v ∷ p) k l h e = given_no_root (after s (End v)) p k l.2 h e
given_no_root s (Node row attributes ∷ p) k l h e =
    let x : Step = Node row attributes in
    let all : length (rows_given (x ∷ p)) ≡ suc (length attributes) + length (rows_given p) = length-append (row ∷ attributes) (rows_given p) in
    elim (cases_lt k (suc (length attributes))) [
      | inr ge ↦
          let at : row_at (rows_given (x ∷ p)) k ≡ row_at (rows_given p) (k - suc (length attributes)) = row_at_past (row ∷ attributes) (rows_given p) k ge in
          given_no_root (after s x) p (k - suc (length attributes)) l.2 (omega (arith, all)) (sym (ap (λ (r : Row). r.kind) at) ∙ e)
      | inl lt ↦
          let at : row_at (rows_given (x ∷ p)) k ≡ row_at (row ∷ attributes) k = row_at_grows (row ∷ attributes) (rows_given p) k lt in
          no_root k lt (sym (ap (λ (r : Row). r.kind) at) ∙ e) l.1
    ]
  where
    apart : (k : Kind) → may_stand k ≡ true → k ≡ Root → ⊥
    apart k h e = false≢true (sym (ap may_stand e) ∙ h)

    no_root : (k : ℕ) → k < suc (length attributes) → (row_at (row ∷ attributes) k).kind ≡ Root → CanJoin s.opened row attributes → ⊥
    no_root zero m e j = apart row.kind j.kind e
    no_root (suc k) m e j = let b = attribute_depths row.depth attributes k j.carried (omega arith) in let c : Attribute ≡ Root = sym b.0 ∙ e in cc

root_is_first : (p : List Step) (n : ℕ) → LawfulFrom start p → IsJoined p n → (row_at (rows_of p) n).kind ≡ Root → n ≡ 0
root_is_first p zero l j e = refl
root_is_first p (suc k) l j e = absurd (given_no_root start p k l (omega arith) e)

pub leaf_closed : (p : List Step) (n : ℕ) → LawfulFrom start p → is_parent (row_at (rows_of p) n).kind ≡ false → is_open p n ≡ false
leaf_closed p n l h = elim (cases_Bool (is_open p n)) [
  | inl o ↦ absurd (false≢true (sym h ∙ member_parent (rows_of p) (document_of p).opened n (stack_of p l) o))
  | inr o ↦ o
]

pub shut_closed : (p : List Step) (n : ℕ) → LawfulFrom start p → IsJoined p n → IsShut p n → is_open p n ≡ false
shut_closed p n l j h = go (row_at (rows_of p) n).kind refl h
  where
    element : (row_at (rows_of p) n).kind ≡ Element → IsShutAs Element p n → is_open p n ≡ false
    element e h =
        let node = h.1 in
        let k : is_parent node.row.kind ≡ true = sym (ap (λ (r : Row). is_parent r.kind) (node_row p n h.0 node)) ∙ ap is_parent e in
        let f : falls 0 h.0 ≡ true = subst (λ xs. falls 0 xs ≡ true) h.2.split (falls_from 0 h.2.front h.2.rest (omega (arith, h.2.more))) in
        element_shut p n h.0 l node k ∙ ap not f

    root : (row_at (rows_of p) n).kind ≡ Root → HasGoodEnd p → is_open p n ≡ false
    root e g = ap (is_member n) (good_root start p l g)

    go : (k : Kind) → (row_at (rows_of p) n).kind ≡ k → IsShutAs k p n → is_open p n ≡ false
    go Root e h = root e h
    go Element e h = element e h
    go Attribute e h = leaf_closed p n l (ap is_parent e)
    go Text e h = leaf_closed p n l (ap is_parent e)
    go Instruction e h = leaf_closed p n l (ap is_parent e)
    go Comment e h = leaf_closed p n l (ap is_parent e)

pub closed_shut : (p : List Step) (n : ℕ) → LawfulFrom start p → IsJoined p n → is_open p n ≡ false → IsShut p n
closed_shut p n l j h = go (row_at (rows_of p) n).kind refl
  where
    root : (row_at (rows_of p) n).kind ≡ Root → HasGoodEnd p
    root e =
        let z = root_is_first p n l j e in
        elim (root_from start p l start_bottom) [
          | inl g ↦ g
          | inr b ↦ absurd (false≢true (sym h ∙ ap (λ m. is_open p m) z ∙ bottom_member (document_from start p).opened b))
        ]

    no_element : Root ≡ Element → ⊥
    no_element e = cc

    element : (row_at (rows_of p) n).kind ≡ Element → (later : List Step) × HasNode p n later × HasShutMore later
    element e =
        let first : 0 < n = elim (cases_eq n 0) [ inl z ↦ absurd (no_element (sym (ap (λ m. (row_at (rows_of p) m).kind) z) ∙ e)) | inr nz ↦ omega arith ] in
        let node = node_of p n l first j (ap is_attribute e) in
        let k : is_parent node.1.row.kind ≡ true = sym (ap (λ (r : Row). is_parent r.kind) (node_row p n node.0 node.1)) ∙ ap is_parent e in
        let t = falls_point 0 node.0 (not_back (falls 0 node.0) (sym (element_shut p n node.0 l node.1 k) ∙ h)) in
        (node.0, node.1, record { front = t.0; rest = t.1; split = t.2; more = omega (arith, t.3) })

    go : (k : Kind) → (row_at (rows_of p) n).kind ≡ k → IsShutAs k p n
    go Root e = root e
    go Element e = element e
    go Attribute e = tt
    go Text e = tt
    go Instruction e = tt
    go Comment e = tt
