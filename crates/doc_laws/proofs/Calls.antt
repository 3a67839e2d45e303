-- How the answers of calls make the answer of a call above them.
use Rattle.std.proofs.Common.{◌≡◌, List, Result, Ok, Err, ap, sym, ◌∙◌, subst}
use Rattle.doc_model.specs.declared.step.Step.{Step}
use Rattle.doc_model.specs.declared.strip_rule.StripRule.{StripRule}
use Rattle.doc_model.specs.Answers.{Answer, Known, Fault, Open, and_then, with_faults, Stays, Lasts, Stop, ByFault, ByOpen, ByMemory, StopsAs, Answers}
use Rattle.doc_model.specs.Lawful.{IsLawful, Grows}
use Rattle.doc_model.specs.View.{Seen, Moves}
use Rattle.doc_laws.proofs.Growth.{Grows-trans}
use Rattle.doc_laws.proofs.Moving.{at_wider}
use Rattle.doc_laws.proofs.Root.{lawful_before}

-- what is meant under the rules of a view, at steps
abbrev pub Means : Type 0 → Type 0 → Type 0
Means F A = List StripRule → List Step → Answer F A

-- a known value, and a fault, at any later step
pub known_later : {F A : Type 0} (means : List Step → Answer F A) (p q : List Step) (x : A) → Lasts means → Grows p q → IsLawful q → means p ≡ Known x → means q ≡ Known x
known_later means p q x l g h e = subst (λ a. Stays a (means q)) e (l.stays p q g h)

pub fault_later : {F A : Type 0} (means : List Step → Answer F A) (p q : List Step) (f : F) → Lasts means → Grows p q → IsLawful q → means p ≡ Fault f → means q ≡ Fault f
fault_later means p q f l g h e = subst (λ a. Stays a (means q)) e (l.stays p q g h)

stops_wider : {F A : Type 0} (means : List Step → Answer F A) (p q r : List Step) (stop : Stop F) → Grows p q → StopsAs means q r stop → StopsAs means p r stop
stops_wider means p q r (ByFault f) g h = h
stops_wider means p q r (ByOpen m) g h = at_wider p q r (λ steps. means steps ≡ Open m) g h
stops_wider means p q r ByMemory g h = tt

stops_longer : {F A : Type 0} (means : List Step → Answer F A) (p q r : List Step) (stop : Stop F) → Lasts means → Grows q r → IsLawful r → StopsAs means p q stop → StopsAs means p r stop
stops_longer means p q r (ByFault f) l g w h = fault_later means q r f l g w h
stops_longer means p q r (ByOpen m) l g w h = (h.0, h.1, Grows-trans (h.0) q r h.2 g, h.3)
stops_longer means p q r ByMemory l g w h = tt

-- a call that comes after others
pub after_moves : {M E F A : Type 0} (stop : E → Stop F) (means : Means F A) (s t u : Seen M) (result : Result A E) → Moves s t → Answers stop means t u result → Answers stop means s u result
after_moves stop means s t u (Ok x) m h = h
after_moves stop means s t u (Err e) m h = stops_wider (means u.rules) s.steps t.steps u.steps (stop e) m.grows h

-- a call before others
pub before_moves : {M E F A : Type 0} (stop : E → Stop F) (means : Means F A) (s t u : Seen M) (result : Result A E) → ((rules : List StripRule) → Lasts (means rules)) → Moves t u → Answers stop means s t result → Answers stop means s u result
before_moves stop means s t u (Ok x) l m h =
    known_later (means u.rules) t.steps u.steps x (l u.rules) m.grows m.seen.lawful (subst (λ rules. means rules t.steps ≡ Known x) (sym m.rules_stay) h)
before_moves stop means s t u (Err e) l m h =
    stops_longer (means u.rules) s.steps t.steps u.steps (stop e) (l u.rules) m.grows m.seen.lawful (subst (λ rules. StopsAs (means rules) s.steps t.steps (stop e)) (sym m.rules_stay) h)

stops_first : {F A B : Type 0} (means : List Step → Answer F A) (rest : List Step → A → Answer F B) (p q : List Step) (stop : Stop F) → StopsAs means p q stop → StopsAs (λ steps. and_then (means steps) (rest steps)) p q stop
stops_first means rest p q (ByFault f) h = ap (λ a. and_then a (rest q)) h
stops_first means rest p q (ByOpen m) h = (h.0, h.1, h.2, ap (λ a. and_then a (rest h.0)) h.3)
stops_first means rest p q ByMemory h = tt

-- the first part stops, and so does the whole
pub first_stops : {M E F A B : Type 0} (stop : E → Stop F) (means : Means F A) (rest : List StripRule → List Step → A → Answer F B) (s t : Seen M) (e : E)
    → Answers {A = A} stop means s t (Err e) → Answers {A = B} stop (λ rules steps. and_then (means rules steps) (rest rules steps)) s t (Err e)
first_stops stop means rest s t e h = stops_first (means t.rules) (rest t.rules) s.steps t.steps (stop e) h

stops_then : {F A B : Type 0} (means : List Step → Answer F A) (rest : List Step → A → Answer F B) (p q r : List Step) (x : A) (stop : Stop F) → Lasts means → means q ≡ Known x → Grows p q → Grows q r → IsLawful r
    → StopsAs (λ steps. rest steps x) q r stop → StopsAs (λ steps. and_then (means steps) (rest steps)) p r stop
stops_then means rest p q r x (ByFault f) l k g h w e = ap (λ a. and_then a (rest r)) (known_later means q r x l h w k) ∙ e
stops_then means rest p q r x (ByOpen m) l k g h w e =
    (e.0, Grows-trans p q (e.0) g e.1, e.2, ap (λ a. and_then a (rest e.0)) (known_later means q (e.0) x l e.1 (lawful_before (e.0) r e.2 w) k) ∙ e.3)
stops_then means rest p q r x ByMemory l k g h w e = tt

-- the first part is known, and the second answers
pub then_answers : {M E F A B : Type 0} (stop : E → Stop F) (means : Means F A) (rest : List StripRule → List Step → A → Answer F B) (s t u : Seen M) (x : A) (result : Result B E)
    → ((rules : List StripRule) → Lasts (means rules)) → Moves s t → Moves t u → Answers {E = E} {A = A} stop means s t (Ok x) → Answers stop (λ rules steps. rest rules steps x) t u result
    → Answers stop (λ rules steps. and_then (means rules steps) (rest rules steps)) s u result
then_answers stop means rest s t u x (Ok y) l m n h e =
    let k = subst (λ rules. means rules t.steps ≡ Known x) (sym n.rules_stay) h in
    ap (λ a. and_then a (rest u.rules u.steps)) (known_later (means u.rules) t.steps u.steps x (l u.rules) n.grows n.seen.lawful k) ∙ e
then_answers stop means rest s t u x (Err y) l m n h e =
    let k = subst (λ rules. means rules t.steps ≡ Known x) (sym n.rules_stay) h in
    stops_then (means u.rules) (rest u.rules) s.steps t.steps u.steps x (stop y) (l u.rules) k m.grows n.grows n.seen.lawful e

stops_equal : {F A : Type 0} (means other : List Step → Answer F A) (p q : List Step) (stop : Stop F) → ((steps : List Step) → other steps ≡ means steps) → StopsAs means p q stop → StopsAs other p q stop
stops_equal means other p q (ByFault f) e h = e q ∙ h
stops_equal means other p q (ByOpen m) e h = (h.0, h.1, h.2, e (h.0) ∙ h.3)
stops_equal means other p q ByMemory e h = tt

-- the same meaning in other words
pub as_means : {M E F A : Type 0} (stop : E → Stop F) (means other : Means F A) (s t : Seen M) (result : Result A E) → ((rules : List StripRule) (steps : List Step) → other rules steps ≡ means rules steps) → Answers stop means s t result → Answers stop other s t result
as_means stop means other s t (Ok x) e h = e t.rules t.steps ∙ h
as_means stop means other s t (Err y) e h = stops_equal (means t.rules) (other t.rules) s.steps t.steps (stop y) (λ steps. e t.rules steps) h

-- an error that says the same in another type
pub as_stop : {M E G F A : Type 0} (stop : E → Stop F) (other : G → Stop F) (means : Means F A) (s t : Seen M) (e : E) (f : G) → other f ≡ stop e → Answers {A = A} stop means s t (Err e) → Answers {A = A} other means s t (Err f)
as_stop stop other means s t e f same h = subst (λ x. StopsAs (means t.rules) s.steps t.steps x) (sym same) h

-- a part that sees no document: its answer is the same at all steps
pub same_everywhere : {M E F A : Type 0} (stop : E → Stop F) (means : Means F A) (s : Seen M) (x : A) → means s.rules s.steps ≡ Known x → Answers {M = M} {E = E} stop means s s (Ok x)
same_everywhere stop means s x e = e

-- what stays in its parts stays as a whole
and_then_stays : {F A B : Type 0} (a b : Answer F A) (f g : A → Answer F B) → Stays a b → ((x : A) → Stays (f x) (g x)) → Stays (and_then a f) (and_then b g)
and_then_stays (Known x) b f g s r = subst (λ z. Stays (f x) (and_then z g)) (sym s) (r x)
and_then_stays (Fault e) b f g s r = ap (λ z. and_then z g) s
and_then_stays (Open m) b f g s r = tt

pub lasts_then : {F A B : Type 0} (means : List Step → Answer F A) (rest : List Step → A → Answer F B) → Lasts means → ((x : A) → Lasts (λ steps. rest steps x)) → Lasts (λ steps. and_then (means steps) (rest steps))
lasts_then means rest l r = record { stays = λ p q g h. and_then_stays (means p) (means q) (rest p) (rest q) (l.stays p q g h) (λ x. (r x).stays p q g h) }

with_faults_stays : (F : Type 0) {A : Type 0} (a b : Answer ⊥ A) → Stays a b → Stays (with_faults {F = F} a) (with_faults {F = F} b)
with_faults_stays F (Known x) b s = ap with_faults s
with_faults_stays F (Fault f) b s = absurd f
with_faults_stays F (Open m) b s = tt

pub lasts_with_faults : (F : Type 0) {A : Type 0} (means : List Step → Answer ⊥ A) → Lasts means → Lasts (λ steps. with_faults {F = F} (means steps))
lasts_with_faults F means l = record { stays = λ p q g h. with_faults_stays F (means p) (means q) (l.stays p q g h) }

-- a call that cannot end by a fault, in one that can
abbrev pub stop_with_faults : {F : Type 0} → Stop ⊥ → Stop F
stop_with_faults (ByFault f) = absurd f
stop_with_faults (ByOpen m) = ByOpen m
stop_with_faults ByMemory = ByMemory

stops_with_faults : (F : Type 0) {A : Type 0} (means : List Step → Answer ⊥ A) (p q : List Step) (stop : Stop ⊥) → StopsAs means p q stop → StopsAs (λ steps. with_faults {F = F} (means steps)) p q (stop_with_faults {F = F} stop)
stops_with_faults F means p q (ByFault f) h = absurd f
stops_with_faults F means p q (ByOpen m) h = (h.0, h.1, h.2, ap with_faults h.3)
stops_with_faults F means p q ByMemory h = tt

pub answers_with_faults : (F : Type 0) {M E A : Type 0} (stop : E → Stop ⊥) (means : Means ⊥ A) (s t : Seen M) (result : Result A E) → Answers stop means s t result → Answers (λ e. stop_with_faults {F = F} (stop e)) (λ rules steps. with_faults {F = F} (means rules steps)) s t result
answers_with_faults F stop means s t (Ok x) h = ap with_faults h
answers_with_faults F stop means s t (Err e) h = stops_with_faults F (means t.rules) s.steps t.steps (stop e) h
