-- Document 01, 'XL', a second time: each sentence as what one event does in one state, every part of the new memory and every action typed
-- out, and no row of the table named. `takes` is what does it. Assumes nothing.
use Rattle.std.specs.Prelude.{ℕ, ◌+◌, ◌≤◌, ◌<◌, Bool, true, false, ◌||◌, List, [], ◌∷◌, ◌++◌, ◌≡◌, eqb, None, Option, Some}
use Rattle.open_frame.specs.declared.OpenFrame.{OpenFrame}
use Rattle.xl_parts.specs.declared.Phase.{Phase}
use Rattle.xl_parts.specs.declared.Phase.TheVariants.{Xl0, Xl1, Xl2, Xl3, Xl4, Xl5, Xl6, Xl7, Xl8, Xl9, Xl10}
use Rattle.xl_parts.specs.declared.Wait.{Wait}
use Rattle.xl_parts.specs.declared.Reject.{Reject}
use Rattle.xl_parts.specs.declared.Denial.{Denial}
use Rattle.xl_parts.specs.declared.Arbitration.{Arbitration}
use Rattle.xl_parts.specs.declared.Primitive.{Primitive}
use Rattle.xl_parts.specs.declared.Message.{Message}
use Rattle.xl_parts.specs.declared.Confirmation.{Confirmation}
use Rattle.xl_parts.specs.declared.Notice.{Notice}
use Rattle.xl_parts.specs.declared.BreakEvent.{BreakEvent}
use Rattle.xl_parts.specs.declared.BreakAction.{BreakAction}
use Rattle.xl_parts.specs.declared.Event.{Event}
use Rattle.xl_parts.specs.declared.Event.TheVariants.{Line, Router, Manager, Own, Break, Disable}
use Rattle.xl_parts.specs.declared.Action.{Action}
use Rattle.xl_parts.specs.declared.Action.TheVariants.{Transmit, Send, RequestPath}
use Rattle.xl_parts.specs.declared.Memory.{Memory}
use Rattle.xl_parts.specs.declared.State.{State}
use Rattle.xl_parts.specs.Parts.{Effect}
use Rattle.xl_parts.specs.Parts.{phase_number}

abbrev pub one_of : Phase → List Phase → Bool
one_of p [] = false
one_of p (q ∷ qs) = eqb (phase_number p) (phase_number q) || one_of p qs

-- a link in the state p that remembers m, after n unexpected events
abbrev pub link : Phase → Memory → ℕ → State
link p m n = record { phase = p; memory = m; count = n }

-- what is remembered: the frame held, the OPEN received, the AIP, BREAK, CLOSE, and whether the last Arbitrating was Blocked On Partial
abbrev pub known : Option OpenFrame → Option OpenFrame → Option Wait → Bool → Bool → Bool → Memory
known held heard aip broke close blocked = record { held = held; heard = heard; aip = aip; broke = broke; close = close; blocked = blocked }

abbrev pub gives : State → List Action → Effect
gives s acts = record { state = s; actions = acts }

-- the states for which document 01 lists an event: those of what the phy receives, of the router, of the connection manager, of the link itself
-- and of BREAK
abbrev pub line_in : Primitive → List Phase
line_in Primitive.Open = Xl0 ∷ Xl5 ∷ Xl6 ∷ []
line_in Primitive.OpenAccept = Xl6 ∷ []
line_in (Primitive.OpenReject k) = Xl6 ∷ []
line_in (Primitive.Aip w) = Xl6 ∷ []
line_in Primitive.Close = Xl7 ∷ Xl8 ∷ []

abbrev pub router_in : Message → List Phase
router_in Message.SendOpen = Xl0 ∷ []
router_in Message.SendClose = Xl7 ∷ []
router_in (Message.ArbStatus w) = Xl3 ∷ []
router_in Message.OpenAccept = Xl3 ∷ []
router_in (Message.OpenReject k) = Xl3 ∷ []
router_in Message.BackoffRetry = Xl3 ∷ []
router_in Message.BackoffReversePath = Xl3 ∷ []

abbrev pub own_in : Notice → List Phase
own_in Notice.PathTimer = Xl1 ∷ []
own_in Notice.Sent = Xl4 ∷ Xl5 ∷ Xl9 ∷ []
own_in Notice.Forwarded = Xl2 ∷ []

abbrev pub break_in : BreakEvent → List Phase
break_in BreakEvent.Received = Xl1 ∷ Xl2 ∷ Xl3 ∷ Xl5 ∷ Xl6 ∷ Xl7 ∷ Xl8 ∷ Xl10 ∷ []
break_in BreakEvent.Routed = Xl3 ∷ Xl6 ∷ Xl7 ∷ Xl8 ∷ []
break_in BreakEvent.Timeout = Xl10 ∷ []

abbrev pub listed_in : Event → List Phase
listed_in (Line p) = line_in p
listed_in (Router m) = router_in m
listed_in (Manager c) = Xl1 ∷ []
listed_in (Own n) = own_in n
listed_in (Break b) = break_in b
listed_in Disable = Xl0 ∷ Xl1 ∷ Xl2 ∷ Xl3 ∷ Xl4 ∷ Xl5 ∷ Xl6 ∷ Xl7 ∷ Xl8 ∷ Xl9 ∷ Xl10 ∷ []

-- 01 XL.5: OPEN_REJECT kinds: NO, BAD and WRONG DESTINATION, CONNECTION RATE and PROTOCOL NOT SUPPORTED, PATHWAY BLOCKED, STP RESOURCES BUSY, RETRY.
pub data OneOfEight : Reject → Type 0 where
  no : OneOfEight Reject.NoDestination
  bad : OneOfEight Reject.BadDestination
  wrong : OneOfEight Reject.WrongDestination
  rate : OneOfEight Reject.Rate
  protocol : OneOfEight Reject.Protocol
  blocked : OneOfEight Reject.PathwayBlocked
  busy : OneOfEight Reject.Busy
  retry : OneOfEight Reject.Retry

-- 01 XL.32: Otherwise it is held; if its destination and rate equal source and rate of the frame transmitted: BackoffReversePath of it, XL2 with no SendOpen; else BackoffRetry, XL1.
-- f was transmitted, g was received; x comes of it, behind the actions `lead`, where the link remembers `heard`
pub record BacksOff (f g : OpenFrame) (lead : List Action) (heard : Option OpenFrame) (close blocked : Bool) (n : ℕ) (x : Effect) : Type 0 where
  pub reverses : g.head.destination ≡ f.head.source → g.head.rate ≡ f.head.rate → x ≡ gives (link Xl2 (known (Some g) heard None false close blocked) n) (lead ++ Send Message.BackoffReversePath ∷ [])
  pub retries : ((g.head.destination ≡ f.head.source) × (g.head.rate ≡ f.head.rate) → ⊥) → x ≡ gives (link Xl1 (known (Some g) heard None false close false) n) (lead ++ Send Message.BackoffRetry ∷ RequestPath false ∷ Transmit (Primitive.Aip Wait.Normal) ∷ [])

-- 01 XL.31: OPEN: if no AIP was seen and it isn't of higher priority than the frame transmitted, nothing.
-- no AIP was seen, and where nothing comes of it XL6 is as it was
pub record Crosses (f g : OpenFrame) (lead : List Action) (heard : Option OpenFrame) (broke close blocked : Bool) (n : ℕ) (x : Effect) : Type 0 where
  pub smaller : g.awt.0 < f.awt.0 → x ≡ gives (link Xl6 (known (Some f) heard None broke close blocked) n) lead
  pub not_larger : g.awt.0 ≡ f.awt.0 → g.head.source ≤ f.head.source → x ≡ gives (link Xl6 (known (Some f) heard None broke close blocked) n) lead
  pub larger_wait : f.awt.0 < g.awt.0 → BacksOff f g lead heard close blocked n x
  pub larger_source : g.awt.0 ≡ f.awt.0 → f.head.source < g.head.source → BacksOff f g lead heard close blocked n x

-- one event with the frame f, where m is remembered and n events were unexpected
pub record Sentences (takes : OpenFrame → Event → State → Effect) (f : OpenFrame) (m : Memory) (n : ℕ) : Type 0 where
  -- 01 XL.2: An event not listed for the state changes only the unexpected-event count (it stops at 4,294,967,295).
  pub unlisted : (p : Phase) (e : Event) → one_of p (listed_in e) ≡ false → n < 4294967295 → takes f e (link p m n) ≡ gives (link p m (n + 1)) []
  pub stops : (p : Phase) (e : Event) → one_of p (listed_in e) ≡ false → takes f e (link p m 4294967295) ≡ gives (link p m 4294967295) []
  -- 01 XL.3: Disable: XL0 from any state, no action.
  pub disables : (p : Phase) → takes f Disable (link p m n) ≡ gives (link Xl0 (known None None None false false false) n) []
  -- 01 XL.5
  pub kinds : (k : Reject) → OneOfEight k
  -- 01 XL.7: In XL3, XL6, XL7 and XL8, BREAK received: SendBreak, XL9; SendBreak: XL10.
  -- 01 XL.36: XL9 and XL10 transmit BREAK on entry.
  pub break_received : (p : Phase) → one_of p (Xl3 ∷ Xl6 ∷ Xl7 ∷ Xl8 ∷ []) ≡ true → takes f (Break BreakEvent.Received) (link p m n) ≡ gives (link Xl9 m n) (Action.Break BreakAction.Send ∷ Action.Break BreakAction.Transmit ∷ [])
  pub break_routed : (p : Phase) → one_of p (Xl3 ∷ Xl6 ∷ Xl7 ∷ Xl8 ∷ []) ≡ true → takes f (Break BreakEvent.Routed) (link p m n) ≡ gives (link Xl10 m n) (Action.Break BreakAction.Transmit ∷ [])
  -- 01 XL.8: XL0: OPEN received: held; to XL1.
  -- 01 XL.10: Entering XL0 clears all memory but the count; XL1 and XL2, BREAK and AIP memory; XL5, these and OPEN's.
  -- 01 XL.11: XL1, on entry RequestPath, AIP(NORMAL).
  pub open_in_0 : takes f (Line Primitive.Open) (link Xl0 m n) ≡ gives (link Xl1 (known (Some f) m.heard None false m.close false) n) (RequestPath false ∷ Transmit (Primitive.Aip Wait.Normal) ∷ [])
  -- 01 XL.9: SendOpen(f): hold f, transmit OPEN f, to XL5.
  -- 01 XL.10
  pub send_open : takes f (Router Message.SendOpen) (link Xl0 m n) ≡ gives (link Xl5 (known (Some f) None None false m.close m.blocked) n) (Transmit Primitive.Open ∷ [])
  -- 01 XL.12: ArbWon: SendOpen, XL2.
  -- 01 XL.10
  pub won : takes f (Manager Confirmation.ArbWon) (link Xl1 m n) ≡ gives (link Xl2 (known m.held m.heard None false m.close m.blocked) n) (Send Message.SendOpen ∷ [])
  -- 01 XL.13: ArbLost: XL0.
  -- 01 XL.10
  pub lost : takes f (Manager Confirmation.ArbLost) (link Xl1 m n) ≡ gives (link Xl0 (known None None None false false false) n) []
  -- 01 XL.14: ArbReject: OPEN_REJECT of its kind (Bad Link Rate: CONNECTION RATE NOT SUPPORTED), XL4.
  pub no_destination : takes f (Manager (Confirmation.ArbReject Denial.NoDestination)) (link Xl1 m n) ≡ gives (link Xl4 m n) (Transmit (Primitive.OpenReject Reject.NoDestination) ∷ [])
  pub bad_destination : takes f (Manager (Confirmation.ArbReject Denial.BadDestination)) (link Xl1 m n) ≡ gives (link Xl4 m n) (Transmit (Primitive.OpenReject Reject.BadDestination) ∷ [])
  pub bad_link_rate : takes f (Manager (Confirmation.ArbReject Denial.BadLinkRate)) (link Xl1 m n) ≡ gives (link Xl4 m n) (Transmit (Primitive.OpenReject Reject.Rate) ∷ [])
  pub pathway_blocked : takes f (Manager (Confirmation.ArbReject Denial.PathwayBlocked)) (link Xl1 m n) ≡ gives (link Xl4 m n) (Transmit (Primitive.OpenReject Reject.PathwayBlocked) ∷ [])
  -- 01 XL.15: Arbitrating: AIP(WAITING ON CONNECTION), for the two Partial kinds AIP(WAITING ON PARTIAL).
  pub waiting_on_connection : takes f (Manager (Confirmation.Arbitrating Arbitration.WaitingOnConnection)) (link Xl1 m n) ≡ gives (link Xl1 (known m.held m.heard m.aip m.broke m.close false) n) (Transmit (Primitive.Aip Wait.Connection) ∷ [])
  pub waiting_on_partial : takes f (Manager (Confirmation.Arbitrating Arbitration.WaitingOnPartial)) (link Xl1 m n) ≡ gives (link Xl1 (known m.held m.heard m.aip m.broke m.close false) n) (Transmit (Primitive.Aip Wait.Partial) ∷ [])
  pub blocked_on_partial : takes f (Manager (Confirmation.Arbitrating Arbitration.BlockedOnPartial)) (link Xl1 m n) ≡ gives (link Xl1 (known m.held m.heard m.aip m.broke m.close true) n) (Transmit (Primitive.Aip Wait.Partial) ∷ [])
  -- 01 XL.16: Path timer expired: RequestPath with timeout status if the last Arbitrating in this stay was Blocked On Partial, else nothing.
  pub timer_blocked : m.blocked ≡ true → takes f (Own Notice.PathTimer) (link Xl1 m n) ≡ gives (link Xl1 m n) (RequestPath true ∷ [])
  pub timer_else : m.blocked ≡ false → takes f (Own Notice.PathTimer) (link Xl1 m n) ≡ gives (link Xl1 m n) []
  -- 01 XL.17: BREAK: XL9.
  -- 01 XL.36
  pub break_in_1 : takes f (Break BreakEvent.Received) (link Xl1 m n) ≡ gives (link Xl9 m n) (Action.Break BreakAction.Transmit ∷ [])
  -- 01 XL.18: XL2: BREAK is remembered.
  pub break_in_2 : takes f (Break BreakEvent.Received) (link Xl2 m n) ≡ gives (link Xl2 (known m.held m.heard m.aip true m.close m.blocked) n) []
  -- 01 XL.19: Forwarded: XL3, or, with BREAK remembered, SendBreak and XL9.
  pub forwarded : m.broke ≡ false → takes f (Own Notice.Forwarded) (link Xl2 m n) ≡ gives (link Xl3 m n) []
  -- 01 XL.36
  pub forwarded_broken : m.broke ≡ true → takes f (Own Notice.Forwarded) (link Xl2 m n) ≡ gives (link Xl9 m n) (Action.Break BreakAction.Send ∷ Action.Break BreakAction.Transmit ∷ [])
  -- 01 XL.20: XL3: ArbStatus: AIP of the same kind, remembered.
  pub status_in_3 : (w : Wait) → takes f (Router (Message.ArbStatus w)) (link Xl3 m n) ≡ gives (link Xl3 (known m.held m.heard (Some w) m.broke m.close m.blocked) n) (Transmit (Primitive.Aip w) ∷ [])
  -- 01 XL.21: OpenAccept: OPEN_ACCEPT, XL7.
  pub accept_in_3 : takes f (Router Message.OpenAccept) (link Xl3 m n) ≡ gives (link Xl7 m n) (Transmit Primitive.OpenAccept ∷ [])
  -- 01 XL.22: OpenReject: OPEN_REJECT of its kind, XL0.
  -- 01 XL.10
  pub reject_in_3 : (k : Reject) → takes f (Router (Message.OpenReject k)) (link Xl3 m n) ≡ gives (link Xl0 (known None None None false false false) n) (Transmit (Primitive.OpenReject k) ∷ [])
  -- 01 XL.23: BackoffRetry: XL1.
  -- 01 XL.10
  -- 01 XL.11
  pub retry_in_3 : takes f (Router Message.BackoffRetry) (link Xl3 m n) ≡ gives (link Xl1 (known m.held m.heard None false m.close false) n) (RequestPath false ∷ Transmit (Primitive.Aip Wait.Normal) ∷ [])
  -- 01 XL.24: BackoffReversePath(f): hold f, transmit it, XL5.
  -- 01 XL.10
  pub reverse_in_3 : takes f (Router Message.BackoffReversePath) (link Xl3 m n) ≡ gives (link Xl5 (known (Some f) None None false m.close m.blocked) n) (Transmit Primitive.Open ∷ [])
  -- 01 XL.25: XL4: Sent: XL0.
  -- 01 XL.10
  pub sent_in_4 : takes f (Own Notice.Sent) (link Xl4 m n) ≡ gives (link Xl0 (known None None None false false false) n) []
  -- 01 XL.26: XL5: OPEN (the latest) and BREAK are remembered.
  pub open_in_5 : takes f (Line Primitive.Open) (link Xl5 m n) ≡ gives (link Xl5 (known m.held (Some f) m.aip m.broke m.close m.blocked) n) []
  -- 01 XL.26: BREAK are remembered
  pub break_in_5 : takes f (Break BreakEvent.Received) (link Xl5 m n) ≡ gives (link Xl5 (known m.held m.heard m.aip true m.close m.blocked) n) []
  -- 01 XL.27: Sent: ArbStatus(Waiting On Device), XL6, then a remembered BREAK, or else OPEN, is taken as in XL6 and both are forgotten.
  pub sent_in_5 : m.broke ≡ false → m.heard ≡ None → takes f (Own Notice.Sent) (link Xl5 m n) ≡ gives (link Xl6 (known m.held None m.aip false m.close m.blocked) n) (Send (Message.ArbStatus Wait.Device) ∷ [])
  -- 01 XL.36
  pub sent_broken : m.broke ≡ true → takes f (Own Notice.Sent) (link Xl5 m n) ≡ gives (link Xl9 (known m.held None m.aip false m.close m.blocked) n) (Send (Message.ArbStatus Wait.Device) ∷ Action.Break BreakAction.Send ∷ Action.Break BreakAction.Transmit ∷ [])
  -- t was transmitted, and the OPEN g came in XL5
  pub sent_crosses : (t g : OpenFrame) → Crosses t g (Send (Message.ArbStatus Wait.Device) ∷ []) None false m.close m.blocked n (takes f (Own Notice.Sent) (link Xl5 (known (Some t) (Some g) None false m.close m.blocked) n))
  pub sent_backs_off : (t g : OpenFrame) (w : Wait) → BacksOff t g (Send (Message.ArbStatus Wait.Device) ∷ []) None m.close m.blocked n (takes f (Own Notice.Sent) (link Xl5 (known (Some t) (Some g) (Some w) false m.close m.blocked) n))
  -- 01 XL.28: XL6: OPEN_ACCEPT: OpenAccept, XL7.
  pub accept_in_6 : takes f (Line Primitive.OpenAccept) (link Xl6 m n) ≡ gives (link Xl7 m n) (Send Message.OpenAccept ∷ [])
  -- 01 XL.29: OPEN_REJECT: OpenReject of its kind, XL0.
  -- 01 XL.10
  pub reject_in_6 : (k : Reject) → takes f (Line (Primitive.OpenReject k)) (link Xl6 m n) ≡ gives (link Xl0 (known None None None false false false) n) (Send (Message.OpenReject k) ∷ [])
  -- 01 XL.30: AIP: ArbStatus of its kind, remembered.
  pub aip_in_6 : (w : Wait) → takes f (Line (Primitive.Aip w)) (link Xl6 m n) ≡ gives (link Xl6 (known m.held m.heard (Some w) m.broke m.close m.blocked) n) (Send (Message.ArbStatus w) ∷ [])
  -- 01 XL.31
  -- t was transmitted, and f is the OPEN
  pub open_in_6 : (t : OpenFrame) → Crosses t f [] m.heard m.broke m.close m.blocked n (takes f (Line Primitive.Open) (link Xl6 (known (Some t) m.heard None m.broke m.close m.blocked) n))
  -- 01 XL.32
  pub backs_off : (t : OpenFrame) (w : Wait) → BacksOff t f [] m.heard m.close m.blocked n (takes f (Line Primitive.Open) (link Xl6 (known (Some t) m.heard (Some w) m.broke m.close m.blocked) n))
  -- 01 XL.33: XL7: CLOSE received: SendClose, remembered; a second is unexpected.
  pub close_in_7 : m.close ≡ false → takes f (Line Primitive.Close) (link Xl7 m n) ≡ gives (link Xl7 (known m.held m.heard m.aip m.broke true m.blocked) n) (Send Message.SendClose ∷ [])
  pub second_close : m.close ≡ true → n < 4294967295 → takes f (Line Primitive.Close) (link Xl7 m n) ≡ gives (link Xl7 m (n + 1)) []
  -- 01 XL.34: SendClose: transmit CLOSE; XL0 if CLOSE was remembered, else XL8.
  -- 01 XL.10
  pub closes_last : m.close ≡ true → takes f (Router Message.SendClose) (link Xl7 m n) ≡ gives (link Xl0 (known None None None false false false) n) (Transmit Primitive.Close ∷ [])
  pub closes_first : m.close ≡ false → takes f (Router Message.SendClose) (link Xl7 m n) ≡ gives (link Xl8 m n) (Transmit Primitive.Close ∷ [])
  -- 01 XL.35: XL8: CLOSE: SendClose, XL0.
  -- 01 XL.10
  pub close_in_8 : takes f (Line Primitive.Close) (link Xl8 m n) ≡ gives (link Xl0 (known None None None false false false) n) (Send Message.SendClose ∷ [])
  -- 01 XL.37: XL9, Sent: XL0.
  -- 01 XL.10
  pub sent_in_9 : takes f (Own Notice.Sent) (link Xl9 m n) ≡ gives (link Xl0 (known None None None false false false) n) []
  -- 01 XL.38: XL10, BREAK or break timeout: XL0.
  -- 01 XL.10
  pub break_in_10 : takes f (Break BreakEvent.Received) (link Xl10 m n) ≡ gives (link Xl0 (known None None None false false false) n) []
  pub timeout_in_10 : takes f (Break BreakEvent.Timeout) (link Xl10 m n) ≡ gives (link Xl0 (known None None None false false false) n) []
