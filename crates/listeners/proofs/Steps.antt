-- What a listener heard, message by message.
use Rattle.std.proofs.Common.{◌≡◌, ℕ, suc, ◌+◌, ◌<◌, ◌≤◌, List, [], ◌∷◌, ◌++◌, Option, Some, None, Result, Ok, Err, take, map, length, refl, sym, ap}
use Rattle.std.proofs.Common.{subst, ◌∙◌, arith, append_assoc, get_or, true≢false}
use Rattle.std.specs.Prelude.{slice_get, IfSome}
use Rattle.std.proofs.lemmas.Grind.{common_steps}
use Rattle.std.proofs.lemmas.List.{map-append, append-nil}
use Rattle.std.proofs.Math.Seq.{take-suc}
use Rattle.std.proofs.lemmas.Option.{slice_get_within}
use Rattle.edge.specs.Outside.{Grows, Stays}
use Rattle.edge.specs.Hearing.{Hearing, FailsToHear, HearsAsTold, after_hearing}
use Rattle.listeners.specs.declared.message.Message.{Message}
use Rattle.listeners.specs.declared.message.Dropped.{Dropped}
use Rattle.listeners.specs.Telling.{Told, Tells, none, kept, failed, Hears, HearsEach, after_each, FailsFirstAfter, HeardAll, FailedAfter, heard_as}

abbrev ok_of : {T : Type 0} (E : Type 0) → T → Result T E
ok_of E x = Ok x

abbrev err_of : {E : Type 0} (T : Type 0) → E → Result T E
err_of T x = Err x

grows_more : {T : Type 0} (a b c : Option (List T)) (xs ys : List T) → Grows a b xs → Grows b c ys → Grows a c (xs ++ ys)
grows_more None b c xs ys g h = tt
grows_more (Some u) None c xs ys g h = absurd g
grows_more (Some u) (Some v) None xs ys g h = absurd h
grows_more (Some u) (Some v) (Some w) xs ys g h = h ∙ ap (λ l. l ++ ys) g ∙ append_assoc u xs ys

grows_stays : {T : Type 0} (a b c : Option (List T)) (xs : List T) → Grows a b xs → Stays b c → Grows a c xs
grows_stays None b c xs g h = tt
grows_stays (Some u) None c xs g h = absurd g
grows_stays (Some u) (Some v) None xs g h = absurd h
grows_stays (Some u) (Some v) (Some w) xs g h = h ∙ g

grows_none : {T : Type 0} (a : Option (List T)) → Grows a a []
grows_none None = tt
grows_none (Some u) = sym (append-nil u)

each_more : (hearing : Hearing) (done : List Message) (message : Message) → HearsEach hearing done → (FailsToHear (after_each hearing done) message.line → ⊥)
    → HearsEach hearing (done ++ message ∷ [])
each_more hearing [] message each next = (next, tt)
each_more hearing (first ∷ done) message each next = (each.0, each_more (after_hearing hearing first.line) done message each.1 next)

after_more : (hearing : Hearing) (done : List Message) (message : Message) → after_each hearing (done ++ message ∷ []) ≡ after_hearing (after_each hearing done) message.line
after_more hearing [] message = refl
after_more hearing (first ∷ done) message = after_more (after_hearing hearing first.line) done message

abbrev Calls : Option Hearing → Option Hearing → List Message → Type 0
Calls a b done = IfSome a (λ hearing. HearsEach hearing done × (b ≡ Some (after_each hearing done)))

calls_none : (a : Option Hearing) → Calls a a []
calls_none None = tt
calls_none (Some hearing) = (tt, refl)

calls_more : {T : Type 0} (E : Type 0) (a b c : Option Hearing) (done : List Message) (message : Message) (x : T) → Calls a b done → HearsAsTold b c (ok_of E x) message.line
    → Calls a c (done ++ message ∷ [])
calls_more E None b c done message x held told = tt
calls_more E (Some hearing) b c done message x held told =
    let now = subst (λ b. HearsAsTold b c (ok_of E x) message.line) held.1 told in
    (each_more hearing done message held.0 (λ fails. true≢false (sym (now.0.1 fails))), now.1 ∙ ap Some (sym (after_more hearing done message)))

calls_end : {E : Type 0} (T : Type 0) (a b c : Option Hearing) (messages : List Message) (k : ℕ) (message : Message) (x : E) → Calls a b (take k messages) → slice_get messages k ≡ Some message
    → HearsAsTold b c (err_of T x) message.line → IfSome a (λ hearing. FailsFirstAfter hearing messages k)
calls_end T None b c messages k message x held is told = tt
calls_end T (Some hearing) b c messages k message x held is told =
    let now = subst (λ b. HearsAsTold b c (err_of T x) message.line) held.1 told in
    (held.0, message, is, now.0.0 refl)

pub none_yet : (before : Told) → HeardAll [] before before
none_yet before = record { heard = grows_none before.heard; calls = calls_none before.hearing; faults = omega arith }

one_more : {T E : Type 0} (done : List Message) (message : Message) (before now after : Told) (result : Result T E) (x : T) → HeardAll done before now → Hears message now after result
    → result ≡ Ok x → HeardAll (done ++ message ∷ []) before after
one_more {T} {E} done message before now after result x held hears is =
    let heard : Hears message now after (ok_of E x) = subst (Hears message now after) is hears in
    record {
      heard = subst (Grows before.heard after.heard) (sym (map-append heard_as done (message ∷ []))) (grows_more before.heard now.heard after.heard _ _ held.heard heard.heard);
      calls = calls_more E before.hearing now.hearing after.hearing done message x held.calls heard.calls;
      faults = omega (arith, held.faults, heard.cause.later);
    }

pub failed_next : {T E : Type 0} (messages : List Message) (k count : ℕ) (message : Message) (before now after : Told) (result : Result T E) (x : E) → HeardAll (take k messages) before now
    → slice_get messages k ≡ Some message → Hears message now after result → result ≡ Err x → count ≡ k → FailedAfter messages count before after
failed_next {T} {E} messages k count message before now after result x held at hears is same =
    let heard : Hears message now after (err_of T x) = subst (Hears message now after) is hears in
    let ended : FailedAfter messages k before after = record {
      within = slice_get_within messages k message at;
      heard = grows_stays before.heard now.heard after.heard _ held.heard heard.heard;
      calls = calls_end T before.hearing now.hearing after.hearing messages k message x held.calls at heard.calls;
      cause = omega (arith, held.faults, heard.cause.failed);
    } in
    subst (λ n. FailedAfter messages n before after) (sym same) ended

take_more : (messages : List Message) (k : ℕ) (message : Message) → k < length messages → message ≡ get_or messages k message → take (k + 1) messages ≡ take k messages ++ message ∷ []
take_more messages k message within is =
    let next : k + 1 ≡ suc k = omega arith in
    ap (λ n. take n messages) next ∙ take-suc messages k message within ∙ ap (λ it. take k messages ++ it ∷ []) (sym is)

pub heard_next : {T E : Type 0} (messages : List Message) (k : ℕ) (message : Message) (before now after : Told) (result : Result T E) (x : T) → HeardAll (take k messages) before now
    → k < length messages → message ≡ get_or messages k message → Hears message now after result → result ≡ Ok x → HeardAll (take (k + 1) messages) before after
heard_next messages k message before now after result x held within is hears ok =
    subst (λ done. HeardAll done before after) (sym (take_more messages k message within is)) (one_more (take k messages) message before now after result x held hears ok)

take_whole : (messages : List Message) (k : ℕ) → length messages ≤ k → take k messages ≡ messages
take_whole messages k past = grind (arith, common_steps)

pub heard_whole : (messages : List Message) (k : ℕ) (before after : Told) → HeardAll (take k messages) before after → length messages ≤ k → HeardAll messages before after
heard_whole messages k before after held past = subst (λ done. HeardAll done before after) (take_whole messages k past) held

-- what comes of the listeners behind comes of all, behind what was left and what was dropped so far
pub record CarriesOn {X : Type 0} (messages : List Message) (all rest left : List X) (dropped : List Dropped) (at : ℕ) (told : X → Told) : Type 0 where
  pub carried : (left_behind : List Told) (dropped_behind : List Dropped) → Tells messages at (map told rest) left_behind dropped_behind
      → Tells messages 0 (map told all) (map told left ++ left_behind) (dropped ++ dropped_behind)

pub carries_first : {X : Type 0} (messages : List Message) (all rest left : List X) (dropped : List Dropped) (told : X → Told) → rest ≡ all → left ≡ [] → dropped ≡ []
    → CarriesOn messages all rest left dropped 0 told
carries_first messages all rest left dropped told is empty nobody = record {
  carried = λ left_behind dropped_behind tells.
      subst (λ l. Tells messages 0 (map told all) (map told l ++ left_behind) (dropped ++ dropped_behind)) (sym empty)
      (subst (λ d. Tells messages 0 (map told all) left_behind (d ++ dropped_behind)) (sym nobody)
      (subst (λ r. Tells messages 0 (map told r) left_behind dropped_behind) is tells));
}

pub carries_kept : {X : Type 0} (messages : List Message) (all rest later left more : List X) (dropped same : List Dropped) (at : ℕ) (told : X → Told) (before after : X)
    → CarriesOn messages all rest left dropped at told
    → rest ≡ before ∷ later → HeardAll messages (told before) (told after) → more ≡ left ++ after ∷ [] → same ≡ dropped → CarriesOn messages all later more same (at + 1) told
carries_kept messages all rest later left more dropped same at told before after on is heard grown stayed = subst (λ d. CarriesOn messages all later more d (at + 1) told) (sym stayed) (record {
  carried = λ left_behind dropped_behind tells.
      let old = on.carried (told after ∷ left_behind) dropped_behind (subst (λ r. Tells messages at (map told r) (told after ∷ left_behind) dropped_behind) (sym is) (kept heard tells)) in
      let joined : map told more ++ left_behind ≡ map told left ++ (told after ∷ left_behind) =
      ap (λ l. map told l ++ left_behind) grown ∙ ap (λ l. l ++ left_behind) (map-append told left (after ∷ [])) ∙ append_assoc (map told left) (told after ∷ []) left_behind in
      subst (λ l. Tells messages 0 (map told all) l (dropped ++ dropped_behind)) (sym joined) old;
})

pub carries_failed : {X : Type 0} (messages : List Message) (all rest later left same : List X) (dropped more : List Dropped) (at heard : ℕ) (told : X → Told) (before : X)
    (after : Told) → CarriesOn messages all rest left dropped at told
    → rest ≡ before ∷ later → FailedAfter messages heard (told before) after → more ≡ dropped ++ record { index = at; heard = heard } ∷ [] → same ≡ left
    → CarriesOn messages all later same more (at + 1) told
carries_failed messages all rest later left same dropped more at heard told before after on is ended grown stayed =
    subst (λ l. CarriesOn messages all later l more (at + 1) told) (sym stayed) (record {
      carried = λ left_behind dropped_behind tells.
          let one : Dropped = record { index = at; heard = heard } in
          let old = on.carried left_behind (one ∷ dropped_behind) (subst (λ r. Tells messages at (map told r) left_behind (one ∷ dropped_behind)) (sym is) (failed ended tells)) in
          let joined : more ++ dropped_behind ≡ dropped ++ (one ∷ dropped_behind) = ap (λ d. d ++ dropped_behind) grown ∙ append_assoc dropped (one ∷ []) dropped_behind in
          subst (λ d. Tells messages 0 (map told all) (map told left ++ left_behind) d) (sym joined) old;
    })

pub carries_end : {X : Type 0} (messages : List Message) (all rest left : List X) (dropped given : List Dropped) (at : ℕ) (told : X → Told)
    → CarriesOn messages all rest left dropped at told → rest ≡ [] → given ≡ dropped → Tells messages 0 (map told all) (map told left) given
carries_end messages all rest left dropped given at told on is same =
    let old = on.carried [] [] (subst (λ r. Tells messages at (map told r) [] []) (sym is) none) in
    subst (λ d. Tells messages 0 (map told all) (map told left) d) (append-nil dropped ∙ sym same) (subst (λ l. Tells messages 0 (map told all) l (dropped ++ [])) (append-nil (map told left)) old)

pub nothing_left : {X : Type 0} (xs : List X) → length xs ≡ 0 → xs ≡ []
nothing_left [] h = refl
nothing_left (x ∷ xs) h = absurd (omega arith)
