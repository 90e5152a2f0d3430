-- What a link does after any calls from XL0, by what it met and answered: its memory says what that was, so the state is one that a sentence
-- of document 01 speaks of, and a step that is not refused does what the sentence says. Assumes nothing.
use Rattle.std.specs.Prelude.{None, Ok, Option, Some}
use Prim.Native.Nat.{ℕ}
use mathlib.Core.Bool.{Bool, true, false, not, ◌&&◌}
use mathlib.Core.List.{List, [], ◌∷◌, ◌++◌}
use mathlib.Core.Path.{◌≡◌, refl, sym, ap, subst⁻¹, ◌∙◌}
use Rattle.laws.proofs.Bools.{never, clash}
use Rattle.refusals.proofs.Causes.{unrefused, by_causes}
use Rattle.open_frame.specs.Open.{head_listed}
use Rattle.open_frame.specs.Priority.{higher_than}
use Rattle.open_frame.specs.declared.OpenFrame.{OpenFrame}
use Rattle.xl_parts.specs.declared.Phase.{Phase}
use Rattle.xl_parts.specs.declared.Phase.TheVariants.{Xl0, Xl1, Xl2, Xl3, Xl5, Xl6, Xl7, Xl8, Xl9}
use Rattle.xl_parts.specs.declared.Wait.{Wait}
use Rattle.xl_parts.specs.declared.Primitive.{Primitive}
use Rattle.xl_parts.specs.declared.Message.{Message}
use Rattle.xl_parts.specs.declared.Notice.{Notice}
use Rattle.xl_parts.specs.declared.BreakAction.{BreakAction}
use Rattle.xl_parts.specs.declared.Event.{Event}
use Rattle.xl_parts.specs.declared.Event.TheVariants.{Line, Router, Own}
use Rattle.xl_parts.specs.declared.Action.{Action}
use Rattle.xl_parts.specs.declared.Action.TheVariants.{Transmit, Send, RequestPath}
use Rattle.xl_parts.specs.declared.Memory.{Memory}
use Rattle.xl_parts.specs.declared.State.{State}
use Rattle.xl_parts.specs.declared.Stepped.{Stepped}
use Rattle.xl_parts.specs.Parts.{Effect, ready, packed, done}
use Rattle.xl_rows.specs.Table.{takes}
use Rattle.xl_rows.specs.Sentences.{link, known, BacksOff, Sentences}
use Rattle.xl_rows.proofs.Sentences as rows
use Rattle.xl.specs.Rules.{keeps_rules}
use Rattle.xl.specs.Steps.{causes, has_frame, refused, step_of}
use Rattle.xl_calls.specs.Links.{Call, event, call_of, run, is_done}
use Rattle.xl_calls.specs.Met.{Met, said_in, frame_in, noted, met}
use Rattle.xl_calls.specs.Memory.{transmitted, aip_met, open_met, break_sent, break_forwarded, blocked_met, close_met, send_close_met}
use Rattle.xl_calls.specs.After.{after, history, filled, answers, Answers, Crossed, Remembered, Connected, in7, in8}
use Rattle.xl_calls.proofs.Kept.{kept, ready_keeps}
use Rattle.xl_calls.proofs.Seen.{knows}

packs : (acts : List Action) → packed acts ≡ filled acts
packs [] = refl
packs (a ∷ []) = refl
packs (a ∷ b ∷ []) = refl
packs (a ∷ b ∷ c ∷ []) = refl
packs (a ∷ b ∷ c ∷ d ∷ more) = refl

-- what an effect does, place by place
placed : (x : Effect) → done x ≡ answers x.state x.actions
placed x = λ i. record { answer = Ok tt; state = x.state; actions = packs x.actions i }

-- a step that is done does what the table says
pub does : (f : OpenFrame) (e : Event) (s : State) → (step_of f e s).answer ≡ Ok tt → step_of f e s ≡ answers (takes f e s).state (takes f e s).actions
unfolding step_of
does f e s =
    by_causes (λ (r : Stepped). r.answer ≡ Ok tt → r ≡ answers (takes f e s).state (takes f e s).actions) (refused s)
    (λ k q. absurd (never (ap is_done q))) (causes f e s) (done (takes f e s))
    (λ off q. placed (takes f e s))

module _ (s : State) (keeps : keeps_rules s ≡ true) where
  -- an event is taken if it brings no frame, or one with fields as in OPEN
  pub taken : (f : OpenFrame) (e : Event) → has_frame e && not (head_listed f.head) ≡ false → step_of f e s ≡ done (takes f e s)
  unfolding step_of
  taken f e fields = sym (unrefused (refused s) (done (takes f e s)) (causes f e s) (fields, (ap not keeps, tt)))

  pub disabled : (f : OpenFrame) → step_of f Event.Disable s ≡ answers (link Xl0 (known None None None false false false) s.count) []
  disabled f = taken f Event.Disable refl

  -- where the table does x, so does the step
  steps : (f : OpenFrame) (e : Event) → has_frame e && not (head_listed f.head) ≡ false → (x : Effect) → takes f e s ≡ x → step_of f e s ≡ answers x.state x.actions
  steps f e fields x q = taken f e fields ∙ ap done q ∙ placed x

  -- and what holds of it
  holds : (P : Effect → Type 0) (f : OpenFrame) (e : Event) → has_frame e && not (head_listed f.head) ≡ false → P (takes f e s) → Answers P (step_of f e s)
  holds P f e fields p = record { effect = takes f e s; does = p; is = steps f e fields (takes f e s) refl }

-- one call more
met_last : (cs : List Call) (s : State) (ms : List Met) (c : Call) → met (cs ++ (c ∷ [])) s ms ≡ noted (run cs s).phase (said_in c) (frame_in c) (call_of c (run cs s)) (met cs s ms)
met_last [] s ms c = refl
met_last (d ∷ cs) s ms c = met_last cs (call_of d s).state (noted s.phase (said_in d) (frame_in d) (call_of d s) ms) c

-- after some calls from XL0
module _ (cs : List Call) where
  abbrev now : State
  now = after cs

  abbrev m : Memory
  m = now.memory

  abbrev n : ℕ
  n = now.count

  keeps : keeps_rules now ≡ true
  keeps = kept cs ready ready_keeps

  -- the step is that of the table in a state that is spelled out
  spelled : (s : State) → now ≡ s → (f : OpenFrame) (e : Event) → has_frame e && not (head_listed f.head) ≡ false → (x : Effect) → takes f e s ≡ x → step_of f e now ≡ answers x.state x.actions
  spelled s is f e fields x q = steps now keeps f e fields x (ap (λ (s : State). takes f e s) is ∙ q)

  spelled_by : (s : State) → now ≡ s → (P : Effect → Type 0) (f : OpenFrame) (e : Event) → has_frame e && not (head_listed f.head) ≡ false → P (takes f e s) → Answers P (step_of f e now)
  spelled_by s is P f e fields p = holds now keeps P f e fields (subst⁻¹ (λ (s : State). P (takes f e s)) is p)

  in_phase : (p : Phase) → now.phase ≡ p → now ≡ link p m n
  in_phase p e = λ i. record { phase = e i; memory = m; count = n }

  -- in XL6 the latest AIP since the OPEN was transmitted
  pub remembers : now.phase ≡ Xl6 → m.aip ≡ aip_met (history cs)
  remembers e = (knows cs Xl6 e).aip

  module _ (f g : OpenFrame) where
    abbrev Back : List Action → Option OpenFrame → Effect → Type 0
    Back lead heard = BacksOff f g lead heard m.close m.blocked n

    module _ (x : Crossed cs f g) where
      six : (a : Option Wait) → aip_met (history cs) ≡ a → now ≡ link Xl6 (known (Some f) m.heard a m.broke m.close m.blocked) n
      six a e = λ i. record { phase = x.phase i; memory = known (((knows cs Xl6 x.phase).held ∙ x.sent) i) m.heard ((remembers x.phase ∙ e) i) m.broke m.close m.blocked; count = n }

      pub stands : aip_met (history cs) ≡ None → higher_than g f ≡ false → step_of g (Line Primitive.Open) now ≡ answers now []
      stands none low = spelled _ (six None none) g (Line Primitive.Open) (ap not x.fields) _ (rows.stands f g [] m n low) ∙ ap (λ (s : State). answers s []) (sym (six None none))

      pub overtakes : higher_than g f ≡ true → Answers (Back [] m.heard) (step_of g (Line Primitive.Open) now)
      overtakes high = spelled_by _ (six (aip_met (history cs)) refl) (Back [] m.heard) g (Line Primitive.Open) (ap not x.fields) (rows.overtakes f g [] m n high (aip_met (history cs)))

      pub yields : (w : Wait) → aip_met (history cs) ≡ Some w → Answers (Back [] m.heard) (step_of g (Line Primitive.Open) now)
      yields w seen = spelled_by _ (six (Some w) seen) (Back [] m.heard) g (Line Primitive.Open) (ap not x.fields) (rows.backs f g [] m n (Some w))

    module _ (x : Remembered cs f g) where
      five : now ≡ link Xl5 (known (Some f) (Some g) None false m.close m.blocked) n
      five = let h = knows cs Xl5 x.phase in λ i. record { phase = x.phase i; memory = known ((h.held ∙ x.sent) i) ((h.heard ∙ x.received) i) (h.never i) ((h.broke ∙ x.unbroken) i) m.close m.blocked; count = n }

      -- XL6, with both forgotten
      abbrev forgotten : Memory
      forgotten = known (Some f) None None false m.close m.blocked

      pub sends_on : (e : OpenFrame) → higher_than g f ≡ false → step_of e (Own Notice.Sent) now ≡ answers (link Xl6 forgotten n) (Send (Message.ArbStatus Wait.Device) ∷ [])
      sends_on e low = spelled _ five e (Own Notice.Sent) refl _ (rows.stands f g (Send (Message.ArbStatus Wait.Device) ∷ []) forgotten n low)

      pub sends_back : (e : OpenFrame) → higher_than g f ≡ true → Answers (Back (Send (Message.ArbStatus Wait.Device) ∷ []) None) (step_of e (Own Notice.Sent) now)
      sends_back e high = spelled_by _ five (Back (Send (Message.ArbStatus Wait.Device) ∷ []) None) e (Own Notice.Sent) refl (rows.overtakes f g (Send (Message.ArbStatus Wait.Device) ∷ []) forgotten n high None)

  -- the frame f beside an event that needs none
  module _ (f : OpenFrame) where
    abbrev said : Sentences takes f m n
    said = rows.sentences f m n

    -- an event in the state p, with no frame
    in_state : (p : Phase) → now.phase ≡ p → (e : Event) → has_frame e ≡ false → (x : Effect) → takes f e (link p m n) ≡ x → step_of f e now ≡ answers x.state x.actions
    in_state p at e mute x q = spelled (link p m n) (in_phase p at) f e (ap (λ (t : Bool). t && not (head_listed f.head)) mute) x q

    -- 01 XL.16
    pub timer_blocked : now.phase ≡ Xl1 → blocked_met (history cs) ≡ true → step_of f (Own Notice.PathTimer) now ≡ answers now (RequestPath true ∷ [])
    timer_blocked at b = in_state Xl1 at (Own Notice.PathTimer) refl _ (said.timer_blocked ((knows cs Xl1 at).1 ∙ b)) ∙ ap (λ (s : State). answers s (RequestPath true ∷ [])) (sym (in_phase Xl1 at))

    pub timer_else : now.phase ≡ Xl1 → blocked_met (history cs) ≡ false → step_of f (Own Notice.PathTimer) now ≡ answers now []
    timer_else at b = in_state Xl1 at (Own Notice.PathTimer) refl _ (said.timer_else ((knows cs Xl1 at).1 ∙ b)) ∙ ap (λ (s : State). answers s []) (sym (in_phase Xl1 at))

    -- 01 XL.18 01 XL.19
    pub break_forwarded_lem : now.phase ≡ Xl2 → break_forwarded (history cs) ≡ true → step_of f (Own Notice.Forwarded) now ≡ answers (link Xl9 m n) (Action.Break BreakAction.Send ∷ Action.Break BreakAction.Transmit ∷ [])
    break_forwarded_lem at b = in_state Xl2 at (Own Notice.Forwarded) refl _ (said.forwarded_broken ((knows cs Xl2 at).broke ∙ b))

    pub forwarded : now.phase ≡ Xl2 → break_forwarded (history cs) ≡ false → step_of f (Own Notice.Forwarded) now ≡ answers (link Xl3 m n) []
    forwarded at b = in_state Xl2 at (Own Notice.Forwarded) refl _ (said.forwarded ((knows cs Xl2 at).broke ∙ b))

    -- 01 XL.26 01 XL.27
    pub break_sent_lem : now.phase ≡ Xl5 → break_sent (history cs) ≡ true → step_of f (Own Notice.Sent) now ≡ answers (link Xl9 (known m.held None m.aip false m.close m.blocked) n) (Send (Message.ArbStatus Wait.Device) ∷ Action.Break BreakAction.Send ∷ Action.Break BreakAction.Transmit ∷ [])
    break_sent_lem at b = in_state Xl5 at (Own Notice.Sent) refl _ (said.sent_broken ((knows cs Xl5 at).broke ∙ b))

    pub sent : now.phase ≡ Xl5 → break_sent (history cs) ≡ false → open_met (history cs) ≡ None → step_of f (Own Notice.Sent) now ≡ answers (link Xl6 (known m.held None m.aip false m.close m.blocked) n) (Send (Message.ArbStatus Wait.Device) ∷ [])
    sent at b o = in_state Xl5 at (Own Notice.Sent) refl _ (said.sent_in_5 ((knows cs Xl5 at).broke ∙ b) ((knows cs Xl5 at).heard ∙ o))

    -- 01 XL.33 01 XL.34 01 XL.35
    pub closes_last : {p : Phase} → Connected p → now.phase ≡ p → close_met (history cs) ≡ true → step_of f (Router Message.SendClose) now ≡ answers (link Xl0 (known None None None false false false) n) (Transmit Primitive.Close ∷ [])
    closes_last in7 at c = in_state Xl7 at (Router Message.SendClose) refl _ (said.closes_last ((knows cs Xl7 at).0 ∙ c))
    closes_last in8 at c = absurd (clash (close_met (history cs)) c (knows cs Xl8 at))

    pub closes_first : now.phase ≡ Xl7 → close_met (history cs) ≡ false → step_of f (Router Message.SendClose) now ≡ answers (link Xl8 m n) (Transmit Primitive.Close ∷ [])
    closes_first at c = in_state Xl7 at (Router Message.SendClose) refl _ (said.closes_first ((knows cs Xl7 at).0 ∙ c))

    pub closed_last : {p : Phase} → Connected p → now.phase ≡ p → send_close_met (history cs) ≡ true → step_of f (Line Primitive.Close) now ≡ answers (link Xl0 (known None None None false false false) n) (Send Message.SendClose ∷ [])
    closed_last in7 at c = absurd (clash (send_close_met (history cs)) c (knows cs Xl7 at).1)
    closed_last in8 at c = in_state Xl8 at (Line Primitive.Close) refl _ said.close_in_8

    -- the frame that a SendOpen or a BackoffReversePath brings is the one transmitted
    module _ (fields : head_listed f.head ≡ true) where
      -- a step that transmits OPEN with the frame f, put behind the others
      behind : (e : Event) (s : State) → s.memory.held ≡ Some f → step_of f e now ≡ answers s (Transmit Primitive.Open ∷ []) → transmitted (history (cs ++ (event e f ∷ []))) ≡ Some f
      unfolding call_of
      behind e s h is = ap transmitted (met_last cs ready [] (event e f)) ∙ ap (λ (r : Stepped). transmitted (noted now.phase e (Some f) r (history cs))) is ∙ h

      pub transmits : now.phase ≡ Xl0 → transmitted (history (cs ++ (event (Router Message.SendOpen) f ∷ []))) ≡ Some f
      transmits at = behind (Router Message.SendOpen) _ refl (spelled (link Xl0 m n) (in_phase Xl0 at) f (Router Message.SendOpen) (ap not fields) _ said.send_open)

      pub transmits_back : now.phase ≡ Xl3 → transmitted (history (cs ++ (event (Router Message.BackoffReversePath) f ∷ []))) ≡ Some f
      transmits_back at = behind (Router Message.BackoffReversePath) _ refl (spelled (link Xl3 m n) (in_phase Xl3 at) f (Router Message.BackoffReversePath) (ap not fields) _ said.reverse_in_3)
