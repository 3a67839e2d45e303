-- What stands outside stays, whatever frames come on top.
use Rattle.std.proofs.Common.{◌≡◌, refl, sym, ap, ◌∙◌, ℕ, suc, ◌+◌, ◌<◌, ◌≤◌, List, [], ◌∷◌, ◌++◌, get_or, reverse, take, drop, length, Some, None, arith}
use Rattle.std.proofs.Math.Seq.{take-suc}
use Rattle.std.proofs.lemmas.List.{reverse-append, take-append-drop, take_all}
use Rattle.frames.specs.Apart.{base, innermost, outside}
use Rattle.frames.specs.declared.frame.Frame.{Frame}
use Rattle.frames.specs.declared.frame.Frame.TheVariants as f
use Rattle.frames.specs.declared.parts.Purpose.{Purpose}
use Rattle.result_events.specs.declared.event.ResultEvent.{ResultEvent}

outside_stays : (frame : Frame) (events : List ResultEvent) → outside frame (Some events) ≡ Some events
outside_stays (f.Template locals context) events = refl
outside_stays (f.Body rest begun locals) events = refl
outside_stays f.Close events = refl
outside_stays (f.Literal attributes body) events = refl
outside_stays (f.Whens whens otherwise) events = refl
outside_stays (f.Params passing) events = refl
outside_stays (f.Choose mode given) events = refl
outside_stays (f.Declared declaring) events = refl
outside_stays (f.Stream select taken work context) events = refl
outside_stays (f.Items nodes next work context) events = refl
outside_stays (f.Children mode) events = refl
outside_stays (f.Keys nodes rows sorts work context) events = refl
outside_stays (f.Copies nodes next) events = refl
outside_stays (f.Apart outer purpose) events = refl
outside_stays (f.Globals left begun) events = refl

pub base_stays : (frames below : List Frame) (events : List ResultEvent) → base below ≡ Some events → base (frames ++ below) ≡ Some events
base_stays [] below events is = is
base_stays (frame ∷ frames) below events is = ap (outside frame) (base_stays frames below events is) ∙ outside_stays frame events

-- frames that are looked at one after the other, the lowest first

not_apart : (frame : Frame) → ((outer : List ResultEvent) (purpose : Purpose) → frame ≡ f.Apart outer purpose → ⊥) → outside frame None ≡ None
not_apart (f.Template locals context) n = refl
not_apart (f.Body rest begun locals) n = refl
not_apart f.Close n = refl
not_apart (f.Literal attributes body) n = refl
not_apart (f.Whens whens otherwise) n = refl
not_apart (f.Params passing) n = refl
not_apart (f.Choose mode given) n = refl
not_apart (f.Declared declaring) n = refl
not_apart (f.Stream select taken work context) n = refl
not_apart (f.Items nodes next work context) n = refl
not_apart (f.Children mode) n = refl
not_apart (f.Keys nodes rows sorts work context) n = refl
not_apart (f.Copies nodes next) n = refl
not_apart (f.Apart outer purpose) n = absurd (n outer purpose refl)
not_apart (f.Globals left begun) n = refl

one_more : (frames : List Frame) (k : ℕ) (frame : Frame) → k < length frames → frame ≡ get_or frames k frame → reverse (take (k + 1) frames) ≡ frame ∷ reverse (take k frames)
one_more frames k frame within is =
    let next : k + 1 ≡ suc k = omega arith in
    ap (λ n. reverse (take n frames)) next
    ∙ ap reverse (take-suc frames k frame within ∙ ap (λ it. take k frames ++ it ∷ []) (sym is))
    ∙ reverse-append (take k frames) (frame ∷ [])

-- one more is not
pub base_passes : (frames : List Frame) (k : ℕ) (frame : Frame) → k < length frames → frame ≡ get_or frames k frame
    → ((outer : List ResultEvent) (purpose : Purpose) → frame ≡ f.Apart outer purpose → ⊥) → base (reverse (take k frames)) ≡ None
    → base (reverse (take (k + 1) frames)) ≡ None
base_passes frames k frame within is n none = ap base (one_more frames k frame within is) ∙ ap (outside frame) none ∙ not_apart frame n

-- the first that is
pub base_meets : (frames : List Frame) (k : ℕ) (frame : Frame) (outer : List ResultEvent) (purpose : Purpose) → k < length frames → frame ≡ get_or frames k frame → frame ≡ f.Apart outer purpose
    → base (reverse (take k frames)) ≡ None → base (reverse frames) ≡ Some outer
base_meets frames k frame outer purpose within is of none =
    ap (λ all. base (reverse all)) (sym (take-append-drop (k + 1) frames))
    ∙ ap base (reverse-append (take (k + 1) frames) (drop (k + 1) frames))
    ∙ base_stays (reverse (drop (k + 1) frames)) (reverse (take (k + 1) frames)) outer here
  where
    here : base (reverse (take (k + 1) frames)) ≡ Some outer
    here = ap base (one_more frames k frame within is) ∙ ap (λ it. outside it (base (reverse (take k frames)))) of ∙ ap (λ b. innermost b outer) none

pub base_none : (frames : List Frame) (k : ℕ) → length frames ≤ k → base (reverse (take k frames)) ≡ None → base (reverse frames) ≡ None
base_none frames k all none = ap (λ it. base (reverse it)) (sym (take_all k frames all)) ∙ none
