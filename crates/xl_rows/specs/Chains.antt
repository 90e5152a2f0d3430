-- Document 01, 'XL', a second time, by events behind each other: what one leaves in memory and a later one does with it, typed out from the
-- first state to the last action. `takes` is what does it. Assumes nothing.
use Rattle.std.specs.Prelude.{ℕ, true, false, [], ◌∷◌, ◌≡◌, None, Some}
use Rattle.open_frame.specs.declared.OpenFrame.{OpenFrame}
use Rattle.xl_parts.specs.declared.Phase.TheVariants.{Xl0, Xl1, Xl2, Xl3, Xl5, Xl6, Xl7, Xl9}
use Rattle.xl_parts.specs.declared.Wait.{Wait}
use Rattle.xl_parts.specs.declared.Arbitration.{Arbitration}
use Rattle.xl_parts.specs.declared.Primitive.{Primitive}
use Rattle.xl_parts.specs.declared.Message.{Message}
use Rattle.xl_parts.specs.declared.Confirmation.{Confirmation}
use Rattle.xl_parts.specs.declared.Notice.{Notice}
use Rattle.xl_parts.specs.declared.BreakEvent.{BreakEvent}
use Rattle.xl_parts.specs.declared.BreakAction.{BreakAction}
use Rattle.xl_parts.specs.declared.Event.{Event}
use Rattle.xl_parts.specs.declared.Event.TheVariants.{Line, Router, Manager, Own, Break}
use Rattle.xl_parts.specs.declared.Action.{Action}
use Rattle.xl_parts.specs.declared.Action.TheVariants.{Transmit, Send, RequestPath}
use Rattle.xl_parts.specs.declared.Memory.{Memory}
use Rattle.xl_parts.specs.declared.State.{State}
use Rattle.xl_parts.specs.Parts.{Effect}
use Rattle.xl_rows.specs.Sentences.{link, known, gives, BacksOff, Crosses}

-- what an effect does, behind one action
abbrev pub behind : Action → Effect → Effect
behind a x = gives x.state (a ∷ x.actions)

-- f is transmitted, g received; m is remembered, and n events were unexpected
pub record Chains (takes : OpenFrame → Event → State → Effect) (f g : OpenFrame) (m : Memory) (n : ℕ) : Type 0 where
  -- 01 XL.15 01 XL.16
  pub blocked_timer : (takes f (Own Notice.PathTimer) (takes f (Manager (Confirmation.Arbitrating Arbitration.BlockedOnPartial)) (link Xl1 m n)).state).actions ≡ RequestPath true ∷ []
  pub partial_timer : (takes f (Own Notice.PathTimer) (takes f (Manager (Confirmation.Arbitrating Arbitration.WaitingOnPartial)) (link Xl1 m n)).state).actions ≡ []
  pub connection_timer : (takes f (Own Notice.PathTimer) (takes f (Manager (Confirmation.Arbitrating Arbitration.WaitingOnConnection)) (link Xl1 m n)).state).actions ≡ []
  -- 01 XL.16
  -- the last Arbitrating counts
  pub blocked_partial_timer : (takes f (Own Notice.PathTimer) (takes f (Manager (Confirmation.Arbitrating Arbitration.WaitingOnPartial)) (takes f (Manager (Confirmation.Arbitrating Arbitration.BlockedOnPartial)) (link Xl1 m n)).state).state).actions ≡ []
  pub partial_blocked_timer : (takes f (Own Notice.PathTimer) (takes f (Manager (Confirmation.Arbitrating Arbitration.BlockedOnPartial)) (takes f (Manager (Confirmation.Arbitrating Arbitration.WaitingOnPartial)) (link Xl1 m n)).state).state).actions ≡ RequestPath true ∷ []
  -- 01 XL.8 01 XL.13 01 XL.16
  -- that of an earlier stay doesn't
  pub lost_open_timer : (takes f (Own Notice.PathTimer) (takes g (Line Primitive.Open) (takes f (Manager Confirmation.ArbLost) (takes f (Manager (Confirmation.Arbitrating Arbitration.BlockedOnPartial)) (link Xl1 m n)).state).state).state).actions ≡ []
  -- 01 XL.12 01 XL.16 01 XL.19 01 XL.23
  pub won_retry_timer : (takes f (Own Notice.PathTimer) (takes f (Router Message.BackoffRetry) (takes f (Own Notice.Forwarded) (takes f (Manager Confirmation.ArbWon) (takes f (Manager (Confirmation.Arbitrating Arbitration.BlockedOnPartial)) (link Xl1 m n)).state).state).state).state).actions ≡ []
  -- 01 XL.12 01 XL.19
  pub won_forwarded : takes f (Own Notice.Forwarded) (takes f (Manager Confirmation.ArbWon) (link Xl1 m n)).state ≡ gives (link Xl3 (known m.held m.heard None false m.close m.blocked) n) []
  -- 01 XL.18 01 XL.19
  pub break_forwarded_lem : takes f (Own Notice.Forwarded) (takes f (Break BreakEvent.Received) (link Xl2 m n)).state ≡ gives (link Xl9 (known m.held m.heard m.aip true m.close m.blocked) n) (Action.Break BreakAction.Send ∷ Action.Break BreakAction.Transmit ∷ [])
  -- 01 XL.26 01 XL.27
  pub break_sent_lem : takes f (Own Notice.Sent) (takes f (Break BreakEvent.Received) (link Xl5 m n)).state ≡ gives (link Xl9 (known m.held None m.aip false m.close m.blocked) n) (Send (Message.ArbStatus Wait.Device) ∷ Action.Break BreakAction.Send ∷ Action.Break BreakAction.Transmit ∷ [])
  -- an OPEN behind it changes nothing
  pub break_open_sent : takes f (Own Notice.Sent) (takes g (Line Primitive.Open) (takes f (Break BreakEvent.Received) (link Xl5 m n)).state).state ≡ gives (link Xl9 (known m.held None m.aip false m.close m.blocked) n) (Send (Message.ArbStatus Wait.Device) ∷ Action.Break BreakAction.Send ∷ Action.Break BreakAction.Transmit ∷ [])
  -- 01 XL.27
  -- taken as in XL6
  pub break_as_in_6 : m.broke ≡ true → takes f (Own Notice.Sent) (link Xl5 m n) ≡ behind (Send (Message.ArbStatus Wait.Device)) (takes f (Break BreakEvent.Received) (link Xl6 (known m.held None m.aip false m.close m.blocked) n))
  pub open_as_in_6 : m.broke ≡ false → m.heard ≡ Some g → takes f (Own Notice.Sent) (link Xl5 m n) ≡ behind (Send (Message.ArbStatus Wait.Device)) (takes g (Line Primitive.Open) (link Xl6 (known m.held None m.aip false m.close m.blocked) n))
  -- 01 XL.9 01 XL.26 01 XL.27 01 XL.31 01 XL.32
  pub open_sent : Crosses f g (Send (Message.ArbStatus Wait.Device) ∷ []) None false m.close m.blocked n (takes f (Own Notice.Sent) (takes g (Line Primitive.Open) (takes f (Router Message.SendOpen) (link Xl0 m n)).state).state)
  -- of two the latest counts
  pub opens_sent : (h : OpenFrame) → Crosses f g (Send (Message.ArbStatus Wait.Device) ∷ []) None false m.close m.blocked n (takes f (Own Notice.Sent) (takes g (Line Primitive.Open) (takes h (Line Primitive.Open) (takes f (Router Message.SendOpen) (link Xl0 m n)).state).state).state)
  -- 01 XL.24 01 XL.26 01 XL.27 01 XL.31 01 XL.32
  pub reverse_open_sent : Crosses f g (Send (Message.ArbStatus Wait.Device) ∷ []) None false m.close m.blocked n (takes f (Own Notice.Sent) (takes g (Line Primitive.Open) (takes f (Router Message.BackoffReversePath) (link Xl3 m n)).state).state)
  -- 01 XL.9 01 XL.27 01 XL.31 01 XL.32
  pub sent_open : Crosses f g [] None false m.close m.blocked n (takes g (Line Primitive.Open) (takes f (Own Notice.Sent) (takes f (Router Message.SendOpen) (link Xl0 m n)).state).state)
  -- 01 XL.30 01 XL.31 01 XL.32
  -- behind an AIP every OPEN backs off
  pub aip_open : (w : Wait) → BacksOff f g [] m.heard m.close m.blocked n (takes g (Line Primitive.Open) (takes f (Line (Primitive.Aip w)) (link Xl6 (known (Some f) m.heard None m.broke m.close m.blocked) n)).state)
  -- 01 XL.33 01 XL.34
  pub close_send_close : m.close ≡ false → takes f (Router Message.SendClose) (takes f (Line Primitive.Close) (link Xl7 m n)).state ≡ gives (link Xl0 (known None None None false false false) n) (Transmit Primitive.Close ∷ [])
  -- 01 XL.34 01 XL.35
  pub send_close_close : m.close ≡ false → takes f (Line Primitive.Close) (takes f (Router Message.SendClose) (link Xl7 m n)).state ≡ gives (link Xl0 (known None None None false false false) n) (Send Message.SendClose ∷ [])
