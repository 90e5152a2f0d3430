-- What a link remembers in a state is what it met and answered since the action that began this: the OPEN that it transmitted, the OPEN that
-- it forwarded, or the connection. The row with that action clears or sets the memory, and until the state is left each row changes it as
-- the event says. Assumes nothing.
use Rattle.std.specs.Prelude.{Err, Ok, Result, None, Option, Some}
use Prim.Native.Nat.{ℕ}
use mathlib.Core.Bool.{Bool, false, not}
use mathlib.Core.List.{List, [], ◌∷◌}
use mathlib.Core.Path.{◌≡◌, refl, sym, subst, ◌∙◌}
use borrow.Author.Tests.{not-false}
use Rattle.laws.proofs.Bools.{by_test}
use Rattle.refusals.proofs.Causes.{by_causes}
use Rattle.refusals.specs.declared.Refusal.{Refusal}
use Rattle.open_frame.specs.Open.{read_open}
use Rattle.open_frame.specs.declared.OpenFrame.{OpenFrame}
use Rattle.xl_parts.specs.declared.Phase.{Phase}
use Rattle.xl_parts.specs.declared.Phase.TheVariants.{Xl0, Xl1, Xl2, Xl3, Xl4, Xl5, Xl6, Xl7, Xl8, Xl9, Xl10}
use Rattle.xl_parts.specs.declared.Wait.{Wait}
use Rattle.xl_parts.specs.declared.Arbitration.{Arbitration}
use Rattle.xl_parts.specs.declared.Primitive.{Primitive}
use Rattle.xl_parts.specs.declared.Message.{Message}
use Rattle.xl_parts.specs.declared.Confirmation.{Confirmation}
use Rattle.xl_parts.specs.declared.Notice.{Notice}
use Rattle.xl_parts.specs.declared.BreakEvent.{BreakEvent}
use Rattle.xl_parts.specs.declared.Event.{Event}
use Rattle.xl_parts.specs.declared.Event.TheVariants.{Line, Router, Manager, Own, Break, Disable}
use Rattle.xl_parts.specs.declared.Action.{Action}
use Rattle.xl_parts.specs.declared.Memory.{Memory}
use Rattle.xl_parts.specs.declared.State.{State}
use Rattle.xl_parts.specs.declared.Stepped.{Stepped}
use Rattle.xl_parts.specs.Parts.{Effect, ready, done, first}
use Rattle.xl_parts.specs.Kinds.{kind_of, Said, said_by}
use Rattle.xl_rows.specs.Table as table
use Rattle.xl_rows.specs.Table.{stands, comes_back, crossed, heard_in6, rows, break_rows, rows_for, takes, unexpected}
use Rattle.xl_rows.specs.Sentences.{link}
use Rattle.xl_rows.proofs.Rows.{Every}
use Rattle.xl.specs.Steps.{causes, refused, opened, step_of, receive_of}
use Rattle.xl_calls.specs.Links.{Call, event, bytes, call_of, run}
use Rattle.xl_calls.specs.Met.{Met, said_in, frame_read, frame_in, noted, met}
use Rattle.xl_calls.specs.Memory.{blocked_met, status_met, transmitted, aip_met, open_met, break_sent, break_forwarded, close_met, send_close_met}
use Rattle.xl_calls.proofs.Looked.{looked}

-- XL2, since an OPEN was forwarded
pub record In2 (m : Memory) (b : Bool) (a : Option Wait) : Type 0 where
  pub close : m.close ≡ false
  pub broke : m.broke ≡ b
  pub never : m.aip ≡ None
  pub none : a ≡ None

-- XL5, since OPEN was transmitted
pub record In5 (m : Memory) (f : Option OpenFrame) (a : Option Wait) (o : Option OpenFrame) (b : Bool) : Type 0 where
  pub close : m.close ≡ false
  pub held : m.held ≡ f
  pub never : m.aip ≡ None
  pub none : a ≡ None
  pub heard : m.heard ≡ o
  pub broke : m.broke ≡ b

-- XL6 too
pub record In6 (m : Memory) (f : Option OpenFrame) (a : Option Wait) : Type 0 where
  pub close : m.close ≡ false
  pub held : m.held ≡ f
  pub aip : m.aip ≡ a

-- what the memory says in a state, where ms was met; CLOSE is remembered in a connection alone
abbrev pub Knows : Phase → Memory → List Met → Type 0
Knows Xl0 m ms = m.close ≡ false
Knows Xl1 m ms = (m.close ≡ false) × (m.blocked ≡ blocked_met ms)
Knows Xl2 m ms = In2 m (break_forwarded ms) (status_met ms)
Knows Xl3 m ms = (m.close ≡ false) × (m.aip ≡ status_met ms)
Knows Xl4 m ms = Unit {0}
Knows Xl5 m ms = In5 m (transmitted ms) (aip_met ms) (open_met ms) (break_sent ms)
Knows Xl6 m ms = In6 m (transmitted ms) (aip_met ms)
Knows Xl7 m ms = (m.close ≡ close_met ms) × (send_close_met ms ≡ false)
Knows Xl8 m ms = close_met ms ≡ false
Knows Xl9 m ms = Unit {0}
Knows Xl10 m ms = Unit {0}

-- the event e with the frame f, in the state p, where m is remembered and ms was met
module _ (m : Memory) (n : ℕ) (f : OpenFrame) (ms : List Met) where
  abbrev After : Phase → Event → Effect → Type 0
  After p e x = Knows x.state.phase x.state.memory (noted p e (Some f) (done x) ms)

  abbrev at : Phase → State
  at p = link p m n

  -- XL5 is entered
  sends_open : m.close ≡ false → In5 (record { held = Some f; heard = None; aip = None; broke = false; close = m.close; blocked = m.blocked }) (Some f) None None false
  sends_open h = record { close = h; held = refl; never = refl; none = refl; heard = refl; broke = refl }

  -- XL2 is entered
  forwards_open : (h o : Option OpenFrame) (b : Bool) → m.close ≡ false → In2 (record { held = h; heard = o; aip = None; broke = false; close = m.close; blocked = b }) false None
  forwards_open h o b e = record { close = e; broke = refl; never = refl; none = refl }

  -- what holds of each row of a state, and of what is unexpected there, holds of what the table does
  by_rows : (p : Phase) (e : Event) → ((x : Said) → Every (kind_of e) (After p e) (rows p f x (at p))) → Every (kind_of e) (After p e) (break_rows p (at p)) → After p e (unexpected (at p)) → After p e (takes f e (at p))
  by_rows p e all breaks other = looked (After p e) (kind_of e) (rows_for f e (at p)) (unexpected (at p)) (each e all breaks) other
    where
      each : (e : Event) → ((x : Said) → Every (kind_of e) (After p e) (rows p f x (at p))) → Every (kind_of e) (After p e) (break_rows p (at p)) → Every (kind_of e) (After p e) (rows_for f e (at p))
      each (Line v) all breaks = all (said_by (Line v))
      each (Router v) all breaks = all (said_by (Router v))
      each (Manager v) all breaks = all (said_by (Manager v))
      each (Own v) all breaks = all (said_by (Own v))
      each (Break v) all breaks = breaks
      each Disable all breaks = ((λ q. refl), tt)

  in1 : (e : Event) → Knows Xl1 m ms → After Xl1 e (takes f e (at Xl1))
  in1 (Line v) h = h
  in1 (Router v) h = h
  in1 (Manager Confirmation.ArbWon) h = forwards_open _ _ _ h.0
  in1 (Manager Confirmation.ArbLost) h = refl
  in1 (Manager (Confirmation.ArbReject k)) h = tt
  in1 (Manager (Confirmation.Arbitrating Arbitration.WaitingOnPartial)) h = (h.0, refl)
  in1 (Manager (Confirmation.Arbitrating Arbitration.BlockedOnPartial)) h = (h.0, refl)
  in1 (Manager (Confirmation.Arbitrating Arbitration.WaitingOnConnection)) h = (h.0, refl)
  in1 (Own Notice.PathTimer) h = by_test (After Xl1 (Own Notice.PathTimer)) m.blocked (λ q. h) (λ q. h)
  in1 (Own Notice.Sent) h = h
  in1 (Own Notice.Forwarded) h = h
  in1 (Break BreakEvent.Received) h = tt
  in1 (Break BreakEvent.Routed) h = h
  in1 (Break BreakEvent.Timeout) h = h
  in1 Disable h = refl

  in2 : (e : Event) → Knows Xl2 m ms → After Xl2 e (takes f e (at Xl2))
  in2 (Line v) h = h
  in2 (Router v) h = h
  in2 (Manager v) h = h
  in2 (Own Notice.PathTimer) h = h
  in2 (Own Notice.Sent) h = h
  in2 (Own Notice.Forwarded) h = by_test (After Xl2 (Own Notice.Forwarded)) m.broke (λ q. tt) (λ q. (h.close, h.never ∙ sym h.none))
  in2 (Break BreakEvent.Received) h = record { close = h.close; broke = refl; never = h.never; none = h.none }
  in2 (Break BreakEvent.Routed) h = h
  in2 (Break BreakEvent.Timeout) h = h
  in2 Disable h = refl

  in3 : (e : Event) → Knows Xl3 m ms → After Xl3 e (takes f e (at Xl3))
  in3 (Line v) h = h
  in3 (Router Message.SendOpen) h = h
  in3 (Router Message.SendClose) h = h
  in3 (Router (Message.ArbStatus w)) h = (h.0, refl)
  in3 (Router Message.OpenAccept) h = (h.0, refl)
  in3 (Router (Message.OpenReject k)) h = refl
  in3 (Router Message.BackoffRetry) h = (h.0, refl)
  in3 (Router Message.BackoffReversePath) h = sends_open h.0
  in3 (Manager v) h = h
  in3 (Own v) h = h
  in3 (Break BreakEvent.Received) h = tt
  in3 (Break BreakEvent.Routed) h = tt
  in3 (Break BreakEvent.Timeout) h = h
  in3 Disable h = refl

  -- the OPEN that XL5 remembered, at Sent
  module _ (h : Knows Xl5 m ms) where
    abbrev six : State
    six = table.in6 (at Xl5)

    abbrev Behind : Effect → Type 0
    Behind x = After Xl5 (Own Notice.Sent) (first (Action.Send (Message.ArbStatus Wait.Device) ∷ []) x)

    -- XL6, with no AIP yet
    waits : In6 six.memory (transmitted ms) (aip_met ms)
    waits = record { close = h.close; held = h.held; aip = h.never ∙ sym h.none }

    crosses5 : (t : Option OpenFrame) (g : OpenFrame) → Behind (crossed t g six)
    crosses5 None g = waits
    crosses5 (Some t) g = by_test Behind (stands m.aip t g) (λ q. waits) (λ q. by_test Behind (comes_back g t) (λ r. forwards_open _ _ _ h.close) (λ r. (h.close, refl)))

    hears5 : (o : Option OpenFrame) → Behind (heard_in6 o six)
    hears5 None = waits
    hears5 (Some g) = crosses5 m.held g

  in5 : (e : Event) → Knows Xl5 m ms → After Xl5 e (takes f e (at Xl5))
  in5 (Line Primitive.Open) h = record { close = h.close; held = h.held; never = h.never; none = h.none; heard = refl; broke = h.broke }
  in5 (Line Primitive.OpenAccept) h = h
  in5 (Line (Primitive.OpenReject k)) h = h
  in5 (Line (Primitive.Aip w)) h = h
  in5 (Line Primitive.Close) h = h
  in5 (Router v) h = h
  in5 (Manager v) h = h
  in5 (Own Notice.PathTimer) h = h
  in5 (Own Notice.Sent) h = by_test (Behind h) m.broke (λ q. tt) (λ q. hears5 h m.heard)
  in5 (Own Notice.Forwarded) h = h
  in5 (Break BreakEvent.Received) h = record { close = h.close; held = h.held; never = h.never; none = h.none; heard = h.heard; broke = refl }
  in5 (Break BreakEvent.Routed) h = h
  in5 (Break BreakEvent.Timeout) h = h
  in5 Disable h = refl

  crosses6 : (t : Option OpenFrame) → Knows Xl6 m ms → After Xl6 (Line Primitive.Open) (crossed t f (at Xl6))
  crosses6 None h = h
  crosses6 (Some t) h = by_test (After Xl6 (Line Primitive.Open)) (stands m.aip t f) (λ q. h) (λ q. by_test (After Xl6 (Line Primitive.Open)) (comes_back f t) (λ r. forwards_open _ _ _ h.close) (λ r. (h.close, refl)))

  in6 : (e : Event) → Knows Xl6 m ms → After Xl6 e (takes f e (at Xl6))
  in6 (Line Primitive.Open) h = crosses6 m.held h
  in6 (Line Primitive.OpenAccept) h = (h.close, refl)
  in6 (Line (Primitive.OpenReject k)) h = refl
  in6 (Line (Primitive.Aip w)) h = record { close = h.close; held = h.held; aip = refl }
  in6 (Line Primitive.Close) h = h
  in6 (Router v) h = h
  in6 (Manager v) h = h
  in6 (Own v) h = h
  in6 (Break BreakEvent.Received) h = tt
  in6 (Break BreakEvent.Routed) h = tt
  in6 (Break BreakEvent.Timeout) h = h
  in6 Disable h = refl

  in7 : (e : Event) → Knows Xl7 m ms → After Xl7 e (takes f e (at Xl7))
  in7 (Line Primitive.Open) h = h
  in7 (Line Primitive.OpenAccept) h = h
  in7 (Line (Primitive.OpenReject k)) h = h
  in7 (Line (Primitive.Aip w)) h = h
  in7 (Line Primitive.Close) h = by_test (After Xl7 (Line Primitive.Close)) (not m.close) (λ q. (refl, h.1)) (λ q. (not-false m.close q, h.1))
  in7 (Router Message.SendOpen) h = h
  in7 (Router Message.SendClose) h = by_test (After Xl7 (Router Message.SendClose)) m.close (λ q. refl) (λ q. sym h.0 ∙ q)
  in7 (Router (Message.ArbStatus w)) h = h
  in7 (Router Message.OpenAccept) h = h
  in7 (Router (Message.OpenReject k)) h = h
  in7 (Router Message.BackoffRetry) h = h
  in7 (Router Message.BackoffReversePath) h = h
  in7 (Manager v) h = h
  in7 (Own v) h = h
  in7 (Break BreakEvent.Received) h = tt
  in7 (Break BreakEvent.Routed) h = tt
  in7 (Break BreakEvent.Timeout) h = h
  in7 Disable h = refl

  in8 : (e : Event) → Knows Xl8 m ms → After Xl8 e (takes f e (at Xl8))
  in8 (Line Primitive.Open) h = h
  in8 (Line Primitive.OpenAccept) h = h
  in8 (Line (Primitive.OpenReject k)) h = h
  in8 (Line (Primitive.Aip w)) h = h
  in8 (Line Primitive.Close) h = refl
  in8 (Router v) h = h
  in8 (Manager v) h = h
  in8 (Own v) h = h
  in8 (Break BreakEvent.Received) h = tt
  in8 (Break BreakEvent.Routed) h = tt
  in8 (Break BreakEvent.Timeout) h = h
  in8 Disable h = refl

  each_state : (p : Phase) (e : Event) → Knows p m ms → After p e (takes f e (at p))
  each_state Xl0 e h = by_rows Xl0 e (λ x. ((λ q. (h, refl)), ((λ q. sends_open h), tt))) tt h
  each_state Xl1 e h = in1 e h
  each_state Xl2 e h = in2 e h
  each_state Xl3 e h = in3 e h
  each_state Xl4 e h = by_rows Xl4 e (λ x. ((λ q. refl), tt)) tt tt
  each_state Xl5 e h = in5 e h
  each_state Xl6 e h = in6 e h
  each_state Xl7 e h = in7 e h
  each_state Xl8 e h = in8 e h
  each_state Xl9 e h = by_rows Xl9 e (λ x. ((λ q. refl), tt)) tt tt
  each_state Xl10 e h = by_rows Xl10 e (λ x. tt) ((λ q. refl), ((λ q. refl), tt)) tt

-- what holds of a refusal, and of an event that is taken, holds of a call with its event and frame
module _ (s : State) (P : Event → Option OpenFrame → Stepped → Type 0) (stays : (e : Event) (h : Option OpenFrame) (k : Refusal) → P e h (refused s k)) (goes : (e : Event) (f : OpenFrame) → P e (Some f) (done (takes f e s))) where
  stepped : (e : Event) (f : OpenFrame) → P e (Some f) (step_of f e s)
  unfolding step_of
  stepped e f = by_causes (P e (Some f)) (refused s) (stays e (Some f)) (causes f e s) (done (takes f e s)) (λ off. goes e f)

  read : (r : Result OpenFrame Refusal) → P (Line Primitive.Open) (frame_read r) (opened r s)
  read (Err k) = stays (Line Primitive.Open) None k
  read (Ok f) = stepped (Line Primitive.Open) f

  by_event : (c : Call) → P (said_in c) (frame_in c) (call_of c s)
  unfolding call_of receive_of
  by_event (event e f) = stepped e f
  by_event (bytes b) = read (read_open b)

-- the memory says what was met
abbrev Told : State → List Met → Type 0
Told s ms = Knows s.phase s.memory ms

told_call : (s : State) (ms : List Met) → Told s ms → (c : Call) → Told (call_of c s).state (noted s.phase (said_in c) (frame_in c) (call_of c s) ms)
told_call s ms h = by_event s (λ e f r. Told r.state (noted s.phase e f r ms)) (λ e f k. h) (λ e f. each_state s.memory s.count f ms s.phase e h)

told_run : (cs : List Call) (s : State) (ms : List Met) → Told s ms → Told (run cs s) (met cs s ms)
told_run [] s ms h = h
told_run (c ∷ cs) s ms h = told_run cs (call_of c s).state (noted s.phase (said_in c) (frame_in c) (call_of c s) ms) (told_call s ms h c)

-- in the state p, after any calls from XL0
pub knows : (cs : List Call) (p : Phase) → (run cs ready).phase ≡ p → Knows p (run cs ready).memory (met cs ready [])
knows cs p e = subst (λ (p : Phase). Knows p (run cs ready).memory (met cs ready [])) e (told_run cs ready [] refl)
