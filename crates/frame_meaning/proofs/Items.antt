-- Items of selects, one after the other; their sort keys; and nodes that are copied.
use Rattle.std.proofs.Common.{◌≡◌, refl, sym, ap, ◌∙◌, subst, ℕ, zero, suc, ◌-◌, List, [], ◌∷◌, ◌++◌, append-nil, drop, take, length, false, Option, Some, None}
use Rattle.std.specs.Borrow.{Bor}
use Rattle.doc_model.specs.Answers as answer
use Rattle.engine_laws.specs.Growing.{Continues}
use Rattle.engine_meaning.specs.Execution.{InMode, Templates, body_does, copies_in, most_nested, templates}
use Rattle.engine_meaning.specs.Items.{each}
use Rattle.engine_meaning.specs.Places.{World, Setting, place, at_item}
use Rattle.engine_meaning.specs.Runs.{State, Ran, Done, Faulted, Waits, Run, after, ◌>>◌, pure, ask, emit_all, with_events}
use Rattle.engine_questions.specs.Walks.{flow, items_left, select_of, walk}
use Rattle.fault_kinds.specs.declared.fault.FaultKind.{FaultKind}
use Rattle.frame_meaning.proofs.Ends.{body_ends}
use Rattle.frame_meaning.proofs.Keeping.{drop_goes_on, flow_goes_on}
use Rattle.frame_meaning.proofs.Locals.{body_adds}
use Rattle.frame_meaning.proofs.Surfaces.{after_assoc, under_assoc}
use Rattle.frame_meaning.specs.Acted.{room}
use Rattle.frame_meaning.specs.Apart.{surface, under}
use Rattle.frames.specs.Apart.{base}
use Rattle.frame_meaning.specs.Rest.{rest}
use Rattle.frame_meaning.specs.Stand.{Stand, at_place, setting_at}
use Rattle.frame_meaning.specs.Uses.{givens}
use Rattle.frame_meaning.specs.Work.{work_does}
use Rattle.frames.specs.Depth.{depth}
use Rattle.frames.specs.declared.frame.Frame.{Frame}
use Rattle.frames.specs.declared.frame.Frame.TheVariants as f
use Rattle.frames.specs.declared.parts.Work.{Work}
use Rattle.frames.specs.declared.parts.Work.TheVariants as work
use Rattle.result_events.specs.declared.event.ResultEvent.{ResultEvent}
use Rattle.sheet_ast.specs.declared.sheet.Sheet.{Sheet}
use Rattle.xpath_meaning.specs.Outcome.{Outcome}
use Rattle.xpath_meaning.specs.Streams.{Stream, Ending, Whole, Fault, Cut, GoesOnFrom, first_in}
use Rattle.xpath_meaning.specs.declared.context.Context.{Context}
use Rattle.xpath_meaning.specs.declared.context.Size.TheVariants as size
use Rattle.xpath_syntax.specs.declared.expression.Expr.{Expr}
use Rattle.xpath_values.specs.declared.value.Value.{Value}

-- the frame that the work at an item begins with, where these many locals stand
abbrev pub work_frame : Work → ℕ → Frame
work_frame (work.ByMode mode given) locals = f.Choose mode given
work_frame (work.ByBody body) locals = f.Body body false locals

-- the work at one item, and then what comes behind it

module _ (sheet : Sheet) (w : World) (frames : List Frame) (h : Stand) (s : State) where
  abbrev W : Setting
  W = setting_at sheet w h

  abbrev T : Templates
  T = room sheet w frames h

  abbrev at : Context → Stand
  at x = at_place h x h.place.locals

  -- the frame of an item stands above one that does the others
  pub item_goes : (k : Work) (x : Context) (below : Frame) (others : Run Stand) → base (below ∷ frames) ≡ base frames → depth (below ∷ frames) ≡ depth frames
      → ((t : State) → after (under (base frames) (others t)) (rest sheet w frames) ≡ rest sheet w (below ∷ frames) (at x) t)
      → after (under (base frames) (after (work_does k W T h.place.locals x s) (λ _. others))) (rest sheet w frames) ≡ rest sheet w (work_frame k (length h.place.locals) ∷ below ∷ frames) (at x) s
  item_goes (work.ByMode mode given) x below others b d e =
      under_assoc (base frames) (T (InMode mode) (givens given) x s) (λ _. others) (rest sheet w frames)
      ∙ behind (base frames) (T (InMode mode) (givens given) x s)
      ∙ ap (λ c. after (under c (after (T (InMode mode) (givens given) x s) (λ _. pure (at x)))) (rest sheet w (below ∷ frames))) (sym b)
      ∙ ap (λ d. after (under (base (below ∷ frames)) (after (templates (most_nested - d) W (InMode mode) (givens given) x s) (λ _. pure (at x)))) (rest sheet w (below ∷ frames))) (sym d)
    where
      behind : (c : Option (List ResultEvent)) (o : Ran (Unit {0}))
          → after (under c o) (λ _ t. after (under (base frames) (others t)) (rest sheet w frames)) ≡ after (under c (after o (λ _. pure (at x)))) (rest sheet w (below ∷ frames))
      behind c (Done y t) = e t
      behind c (Faulted k t) = refl
      behind c (Waits m t) = refl
  item_goes (work.ByBody body) x below others b d e =
      body_ends (base frames) h x h.place.locals (body_does body.now W T (place x h.place.locals) s) (body_adds body.now W T (place x h.place.locals) s) others
      (rest sheet w frames) (rest sheet w (below ∷ frames)) e
      ∙ ap (λ c. after (under c (after (body_does body.now W T (place x h.place.locals) s) (λ l. pure (at_place h x (take (length h.place.locals) l))))) (rest sheet w (below ∷ frames))) (sym b)
      ∙ ap (λ d. after (under (base (below ∷ frames))
      (after (body_does body.now W (templates (most_nested - d) W) (place x h.place.locals) s) (λ l. pure (at_place h x (take (length h.place.locals) l)))))
      (rest sheet w (below ∷ frames))) (sym d)

  -- items that are taken one by one
  stream_as : (select : Option (Bor Expr)) (taken : ℕ) (k : Work) (context : Context) (ns : List ℕ) (ending : Ending)
      → items_left (walk (select_of select) context taken) (h.globals ++ h.place.locals) w ≡ ns
      → (flow (select_of select) w.reading (h.globals ++ h.place.locals) context).ending ≡ ending → rest sheet w (f.Stream select taken k context ∷ frames) h s
      ≡ after (under (base frames) (after (each (work_does k W T h.place.locals) size.Unasked (suc taken) ns ending s) (λ _. pure (at context)))) (rest sheet w frames)
  stream_as select taken k context ns ending is ends =
      ap (λ l. after (under (base frames)
      (after (each (work_does k W T h.place.locals) size.Unasked (suc taken) l (flow (select_of select) w.reading (h.globals ++ h.place.locals) context).ending s)
      (λ _. pure (at context)))) (rest sheet w frames)) is
      ∙ ap (λ e. after (under (base frames) (after (each (work_does k W T h.place.locals) size.Unasked (suc taken) ns e s) (λ _. pure (at context)))) (rest sheet w frames)) ends

  pub stream_ends : (select : Option (Bor Expr)) (taken : ℕ) (k : Work) (context : Context) → items_left (walk (select_of select) context taken) (h.globals ++ h.place.locals) w ≡ []
      → (flow (select_of select) w.reading (h.globals ++ h.place.locals) context).ending ≡ Whole → rest sheet w (f.Stream select taken k context ∷ frames) h s ≡ rest sheet w frames (at context) s
  stream_ends select taken k context is ends = stream_as select taken k context [] Whole is ends

  pub stream_fails : (select : Option (Bor Expr)) (taken : ℕ) (k : Work) (context : Context) (e : FaultKind) → items_left (walk (select_of select) context taken) (h.globals ++ h.place.locals) w ≡ []
      → (flow (select_of select) w.reading (h.globals ++ h.place.locals) context).ending ≡ Fault e → rest sheet w (f.Stream select taken k context ∷ frames) h s ≡ Faulted e (surface (base frames) s)
  stream_fails select taken k context e is ends = stream_as select taken k context [] (Fault e) is ends

  pub stream_waits : (select : Option (Bor Expr)) (taken : ℕ) (k : Work) (context : Context) (m : ℕ) → items_left (walk (select_of select) context taken) (h.globals ++ h.place.locals) w ≡ []
      → (flow (select_of select) w.reading (h.globals ++ h.place.locals) context).ending ≡ Cut m → rest sheet w (f.Stream select taken k context ∷ frames) h s ≡ Waits m (surface (base frames) s)
  stream_waits select taken k context m is ends = stream_as select taken k context [] (Cut m) is ends

  pub stream_goes : (select : Option (Bor Expr)) (taken : ℕ) (k : Work) (context : Context) (n : ℕ) (ns : List ℕ)
      → items_left (walk (select_of select) context taken) (h.globals ++ h.place.locals) w ≡ n ∷ ns
      → items_left (walk (select_of select) context (suc taken)) (h.globals ++ h.place.locals) w ≡ ns → rest sheet w (f.Stream select taken k context ∷ frames) h s
      ≡ rest sheet w (work_frame k (length h.place.locals) ∷ f.Stream select (suc taken) k context ∷ frames) (at (at_item size.Unasked (suc taken) n)) s
  stream_goes select taken k context n ns is next =
      let ending : Ending = (flow (select_of select) w.reading (h.globals ++ h.place.locals) context).ending in
      let others : List ℕ → Run Stand = λ l. each (work_does k W T h.place.locals) size.Unasked (suc (suc taken)) l ending >> pure (at context) in
      stream_as select taken k context (n ∷ ns) ending is refl
      ∙ ap (λ o. after (under (base frames) o) (rest sheet w frames))
      (after_assoc (work_does k W T h.place.locals (at_item size.Unasked (suc taken) n) s) (λ _. each (work_does k W T h.place.locals) size.Unasked (suc (suc taken)) ns ending)
      (λ _. pure (at context)))
      ∙ item_goes k (at_item size.Unasked (suc taken) n) (f.Stream select (suc taken) k context) (others ns) refl refl
      (λ t. ap (λ l. after (under (base frames) (others l t)) (rest sheet w frames)) (sym next))

  -- items that are known whole
  items_as : (nodes : List ℕ) (next : ℕ) (k : Work) (context : Context) (ns : List ℕ) → drop next nodes ≡ ns → rest sheet w (f.Items nodes next k context ∷ frames) h s
      ≡ after (under (base frames) (after (each (work_does k W T h.place.locals) (size.Known (length nodes)) (suc next) ns Whole s) (λ _. pure (at context)))) (rest sheet w frames)
  items_as nodes next k context ns is =
      ap (λ l. after (under (base frames) (after (each (work_does k W T h.place.locals) (size.Known (length nodes)) (suc next) l Whole s) (λ _. pure (at context)))) (rest sheet w frames)) is

  pub items_end : (nodes : List ℕ) (next : ℕ) (k : Work) (context : Context) → drop next nodes ≡ [] → rest sheet w (f.Items nodes next k context ∷ frames) h s ≡ rest sheet w frames (at context) s
  items_end nodes next k context is = items_as nodes next k context [] is

  pub items_go : (nodes : List ℕ) (next : ℕ) (k : Work) (context : Context) (n : ℕ) (ns : List ℕ) → drop next nodes ≡ n ∷ ns → drop (suc next) nodes ≡ ns
      → rest sheet w (f.Items nodes next k context ∷ frames) h s
      ≡ rest sheet w (work_frame k (length h.place.locals) ∷ f.Items nodes (suc next) k context ∷ frames) (at (at_item (size.Known (length nodes)) (suc next) n)) s
  items_go nodes next k context n ns is behind =
      let others : List ℕ → Run Stand = λ l. each (work_does k W T h.place.locals) (size.Known (length nodes)) (suc (suc next)) l Whole >> pure (at context) in
      items_as nodes next k context (n ∷ ns) is
      ∙ ap (λ o. after (under (base frames) o) (rest sheet w frames)) (after_assoc (work_does k W T h.place.locals (at_item (size.Known (length nodes)) (suc next) n) s)
      (λ _. each (work_does k W T h.place.locals) (size.Known (length nodes)) (suc (suc next)) ns Whole) (λ _. pure (at context)))
      ∙ item_goes k (at_item (size.Known (length nodes)) (suc next) n) (f.Items nodes (suc next) k context) (others ns) refl refl
      (λ t. ap (λ l. after (under (base frames) (others l t)) (rest sheet w frames)) (sym behind))

  -- nodes that are copied
  copies_as : (nodes : List ℕ) (next : ℕ) (ns : List ℕ) → drop next nodes ≡ ns
      → rest sheet w (f.Copies nodes next ∷ frames) h s ≡ after (under (base frames) (after (copies_in w ns s) (λ _. pure h))) (rest sheet w frames)
  copies_as nodes next ns is = ap (λ l. after (under (base frames) (after (copies_in w l s) (λ _. pure h))) (rest sheet w frames)) is

  pub copies_end : (nodes : List ℕ) (next : ℕ) → drop next nodes ≡ [] → rest sheet w (f.Copies nodes next ∷ frames) h s ≡ rest sheet w frames h s
  copies_end nodes next is = copies_as nodes next [] is

  copy_as : (nodes : List ℕ) (next n : ℕ) (ns : List ℕ) (o : Outcome (List ResultEvent)) → drop next nodes ≡ n ∷ ns → w.copy n ≡ o → rest sheet w (f.Copies nodes next ∷ frames) h s
      ≡ after (under (base frames) (after (after (ask o s) (λ events. emit_all events >> copies_in w ns)) (λ _. pure h))) (rest sheet w frames)
  copy_as nodes next n ns o is has =
      copies_as nodes next (n ∷ ns) is
      ∙ ap (λ (o : Outcome (List ResultEvent)). after (under (base frames) (after (after (ask o s) (λ events. emit_all events >> copies_in w ns)) (λ _. pure h))) (rest sheet w frames)) has

  pub copy_moves : (nodes : List ℕ) (next n : ℕ) (ns : List ℕ) (events : List ResultEvent) → drop next nodes ≡ n ∷ ns → drop (suc next) nodes ≡ ns → w.copy n ≡ answer.Known events
      → rest sheet w (f.Copies nodes next ∷ frames) h s ≡ rest sheet w (f.Copies nodes (suc next) ∷ frames) h (with_events s (s.events ++ events))
  copy_moves nodes next n ns events is behind has =
      copy_as nodes next n ns (answer.Known events) is has
      ∙ ap (λ l. after (under (base frames) (after (copies_in w l (with_events s (s.events ++ events))) (λ _. pure h))) (rest sheet w frames)) (sym behind)

  pub copy_fails : (nodes : List ℕ) (next n : ℕ) (ns : List ℕ) (e : FaultKind) → drop next nodes ≡ n ∷ ns → w.copy n ≡ answer.Fault e
      → rest sheet w (f.Copies nodes next ∷ frames) h s ≡ Faulted e (surface (base frames) s)
  copy_fails nodes next n ns e is has = copy_as nodes next n ns (answer.Fault e) is has

  pub copy_waits : (nodes : List ℕ) (next n : ℕ) (ns : List ℕ) (m : ℕ) → drop next nodes ≡ n ∷ ns → w.copy n ≡ answer.Open m
      → rest sheet w (f.Copies nodes next ∷ frames) h s ≡ Waits m (surface (base frames) s)
  copy_waits nodes next n ns m is has = copy_as nodes next n ns (answer.Open m) is has

-- the next item, as a stream answers it

pub next_item : (ns : List ℕ) (ending : Ending) (n : ℕ) → first_in ns ending ≡ answer.Known (Some n) → (more : List ℕ) × (ns ≡ n ∷ more)
next_item (m ∷ ns) ending n h = (ns, cc)
next_item [] Whole n h = absurd (cc)
next_item [] (Fault e) n h = absurd (cc)
next_item [] (Cut m) n h = absurd (cc)

pub next_none : (ns : List ℕ) (ending : Ending) → first_in ns ending ≡ answer.Known None → (ns ≡ []) × (ending ≡ Whole)
next_none (m ∷ ns) ending h = absurd (cc)
next_none [] Whole h = (refl, refl)
next_none [] (Fault e) h = absurd (cc)
next_none [] (Cut m) h = absurd (cc)

pub next_fault : (ns : List ℕ) (ending : Ending) (k : FaultKind) → first_in ns ending ≡ answer.Fault k → (ns ≡ []) × (ending ≡ Fault k)
next_fault (m ∷ ns) ending k h = absurd (cc)
next_fault [] Whole k h = absurd (cc)
next_fault [] (Fault e) k h = (refl, cc)
next_fault [] (Cut m) k h = absurd (cc)

pub next_open : (ns : List ℕ) (ending : Ending) (m : ℕ) → first_in ns ending ≡ answer.Open m → (ns ≡ []) × (ending ≡ Cut m)
next_open (k ∷ ns) ending m h = absurd (cc)
next_open [] Whole m h = absurd (cc)
next_open [] (Fault e) m h = absurd (cc)
next_open [] (Cut k) m h = (refl, cc)

more_of : (ns : List ℕ) (ending : Ending) (t : Stream) → GoesOnFrom ns ending t → (more : List ℕ) × (t.items ≡ ns ++ more)
more_of ns Whole t h = ([], ap (λ (s : Stream). s.items) h ∙ sym (append-nil ns))
more_of ns (Fault e) t h = ([], ap (λ (s : Stream). s.items) h ∙ sym (append-nil ns))
more_of ns (Cut m) t h = h

drop_next : (k : ℕ) (ns : List ℕ) (n : ℕ) (more : List ℕ) → drop k ns ≡ n ∷ more → drop (suc k) ns ≡ more
drop_next zero ns n more h = ap (drop 1) h
drop_next (suc k) [] n more h = cc
drop_next (suc k) (m ∷ ns) n more h = drop_next k ns n more h

module _ (sheet : Sheet) (w v : World) (x : Continues w v) (select : Option Expr) (values : List Value) (c : Context) (taken : ℕ) where
  left_goes_on : GoesOnFrom (items_left (walk select c taken) values w) (flow select w.reading values c).ending
      (record { items = items_left (walk select c taken) values v; ending = (flow select v.reading values c).ending })
  left_goes_on = drop_goes_on taken (flow select w.reading values c).items (flow select w.reading values c).ending (flow select v.reading values c) (flow_goes_on sheet w v x select values c)

  -- an item that is next stays next
  pub next_stays : (n : ℕ) (ns : List ℕ) → items_left (walk select c taken) values w ≡ n ∷ ns
      → (more : List ℕ) × (items_left (walk select c taken) values v ≡ n ∷ more) × (items_left (walk select c (suc taken)) values v ≡ more)
  next_stays n ns is =
      let b = more_of _ _ _ left_goes_on in
      let here : items_left (walk select c taken) values v ≡ n ∷ (ns ++ b.0) = b.1 ∙ ap (λ l. l ++ b.0) is in
      (ns ++ b.0, here, drop_next taken (flow select v.reading values c).items n (ns ++ b.0) here)

  -- the end of a stream stays
  pub whole_stays : items_left (walk select c taken) values w ≡ [] → (flow select w.reading values c).ending ≡ Whole
      → (items_left (walk select c taken) values v ≡ []) × ((flow select v.reading values c).ending ≡ Whole)
  whole_stays none whole =
      let same : record { items = items_left (walk select c taken) values v; ending = (flow select v.reading values c).ending }
      ≡ record { items = items_left (walk select c taken) values w; ending = Whole }
      = subst (λ k. GoesOnFrom (items_left (walk select c taken) values w) k
      (record { items = items_left (walk select c taken) values v; ending = (flow select v.reading values c).ending })) whole left_goes_on in
      (ap (λ (t : Stream). t.items) same ∙ none, ap (λ (t : Stream). t.ending) same)
