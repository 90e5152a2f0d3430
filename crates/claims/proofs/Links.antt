-- Demand 2, the expander link: what each call answers is the row of document 01's table, and over any calls from XL0 the rules are kept,
-- events are counted, frames pass unchanged, and crossing OPENs back off as document 01 says. Assumes nothing.
use Rattle.refusals.specs.declared.Refusal.{Refusal}
use Rattle.std.specs.Prelude.{Ok, Result, None, Some}
use Prim.Native.Nat.{ℕ, ◌≤◌, min}
use mathlib.Core.Bool.{true, false}
use mathlib.Core.List.{List, [], ◌∷◌, ◌++◌}
use mathlib.Core.Path.{◌≡◌, ap}
use native.Mathlib.Omega.{arith}
use lib.ListN.{length}
use Rattle.laws.proofs.Bools.{impossible}
use Rattle.open_frame.specs.Open.{open_bytes, not_carried, cleared, read_open, head_listed}
use Rattle.open_frame.specs.Priority.{higher_than}
use Rattle.open_frame.specs.declared.OpenFrame.{OpenFrame}
use Rattle.open_frame.proofs.Trip.{written_read}
use Rattle.xl_parts.specs.declared.Phase.{Phase}
use Rattle.xl_parts.specs.declared.Wait.{Wait}
use Rattle.xl_parts.specs.declared.Primitive.{Primitive}
use Rattle.xl_parts.specs.declared.Message.{Message}
use Rattle.xl_parts.specs.declared.Notice.{Notice}
use Rattle.xl_parts.specs.declared.BreakAction.{BreakAction}
use Rattle.xl_parts.specs.declared.Event.{Event}
use Rattle.xl_parts.specs.declared.Action.{Action}
use Rattle.xl_parts.specs.declared.State.{State}
use Rattle.xl_parts.specs.Parts.{ready}
use Rattle.xl_rows.specs.Table.{takes}
use Rattle.xl_rows.specs.Sentences.{one_of, link, known}
use Rattle.xl.specs.Rules.{keeps_rules}
use Rattle.xl.specs.Steps.{opened, step_of, receive_of}
use Rattle.xl.specs.Status.{status_of}
use Rattle.xl_calls.specs.Links.{Call, event, bytes, call_of, run, surprises, brought, frames, names, some, gapless, Shows, In}
use Rattle.xl_calls.specs.Memory.{transmitted, aip_met, open_met, break_sent, break_forwarded, blocked_met, status_met, close_met, send_close_met}
use Rattle.xl_calls.specs.After.{after, history, answers, Crossed, Remembered, Backs, Connected}
use Rattle.xl_calls.specs.Statuses.{Waits}
use Rattle.xl_parts.specs.Path.{releases}
use Rattle.xl_calls.specs.Path.{leaves_to}
use Rattle.xl_calls.proofs.Walk.{Good}
use Rattle.xl_calls.proofs.Kept.{kept, ready_keeps}
use Rattle.xl_calls.proofs.Counts.{run_counts}
use Rattle.xl_calls.proofs.Shown.{run_shown, gapless_call, few_done}
use Rattle.xl_calls.proofs.After.{disabled, remembers, transmits, transmits_back, stands, overtakes, yields, sends_on, sends_back, sent, break_forwarded_lem, forwarded, break_sent_lem, timer_blocked, timer_else, closes_last, closed_last, closes_first}
use Rattle.xl_calls.proofs.Statuses.{status_in_3, status_in_6}
use Rattle.xl_calls.proofs.Released.{released_call}
use Rattle.claims.specs.Causes.{Bytes}
use Rattle.claims.proofs.Calls.{Step, Receive, Status}

-- 01 XL.1 01 XL.2 01 XL.3 01 XL.27 01 XL.31 01 XL.32 01 PROMISE.3
pub record Links : Type 0 where
  -- each call is the one that document 01's table defines
  pub steps : (c : Step) → c.answer ≡ call_of (event c.args.1.0 c.args.1.1.0) c.args.0
  pub receives : (c : Receive) → c.answer ≡ call_of (bytes c.args.1.0.now) c.args.0
  -- an OPEN received as bytes is the one that the frame reader reads
  pub same_open : (b : List ℕ) (f : OpenFrame) (s : State) → read_open b ≡ Ok f → call_of (bytes b) s ≡ call_of (event (Event.Line Primitive.Open) f) s
  -- 01 XL.39
  pub statuses : (c : Status) → c.answer ≡ status_of c.args.0
  -- every call takes a state that keeps the rules to one that keeps them, over any list of calls; so from XL0
  pub keeps : (cs : List Call) (s : State) → keeps_rules s ≡ true → keeps_rules (run cs s) ≡ true
  pub from_ready : (cs : List Call) → keeps_rules (after cs) ≡ true
  -- the count is the number of events that were not listed for the state that they met, at most 4,294,967,295
  pub counts : (cs : List Call) → (after cs).count ≡ min (surprises cs ready) 4294967295
  -- every frame transmitted or forwarded is the frame held, and one that was received or sent in
  pub frames_pass : (cs : List Call) (c : Call) → some names (call_of c (after cs)).actions ≡ true → Shows (λ f. In f (brought c ++ frames cs [])) (call_of c (after cs)).state.memory.held
  -- byte for byte: the bytes of a frame that was received, but those that aren't carried
  pub same_bytes : (b : List ℕ) (f : OpenFrame) → Bytes b → read_open b ≡ Ok f → open_bytes f ≡ cleared not_carried b
  -- actions are in order, with no gap
  pub in_order : (s : State) → keeps_rules s ≡ true → (c : Call) → gapless (call_of c s).actions ≡ true
  -- they are at most four, so that a step leaves none of its row out
  pub at_most_four : (s : State) → keeps_rules s ≡ true → (f : OpenFrame) (e : Event) → (step_of f e s).answer ≡ Ok tt → length (takes f e s).actions ≤ 4
  -- in XL6 the memory holds the latest AIP that came there since the OPEN was transmitted
  pub remembers_aip : (cs : List Call) → (after cs).phase ≡ Phase.Xl6 → (after cs).memory.aip ≡ aip_met (history cs)
  -- the frame that a SendOpen in XL0 brings, or a BackoffReversePath in XL3, is the one transmitted
  pub transmits : (cs : List Call) (f : OpenFrame) → head_listed f.head ≡ true → (after cs).phase ≡ Phase.Xl0 → transmitted (history (cs ++ (event (Event.Router Message.SendOpen) f ∷ []))) ≡ Some f
  pub transmits_back : (cs : List Call) (f : OpenFrame) → head_listed f.head ≡ true → (after cs).phase ≡ Phase.Xl3 → transmitted (history (cs ++ (event (Event.Router Message.BackoffReversePath) f ∷ []))) ≡ Some f
  -- 01 XL.31
  -- while no AIP came since the OPEN was transmitted, an OPEN that is not of higher priority does nothing
  pub stands : (cs : List Call) (f g : OpenFrame) → Crossed cs f g → aip_met (history cs) ≡ None → higher_than g f ≡ false → step_of g (Event.Line Primitive.Open) (after cs) ≡ answers (after cs) []
  -- 01 XL.32
  -- one of higher priority backs off
  pub overtakes : (cs : List Call) (f g : OpenFrame) → Crossed cs f g → higher_than g f ≡ true → Backs cs f g [] (after cs).memory.heard (step_of g (Event.Line Primitive.Open) (after cs))
  -- 01 XL.32
  -- once an AIP came, every OPEN backs off
  pub yields : (cs : List Call) (f g : OpenFrame) (w : Wait) → Crossed cs f g → aip_met (history cs) ≡ Some w → Backs cs f g [] (after cs).memory.heard (step_of g (Event.Line Primitive.Open) (after cs))
  -- an OPEN that came in XL5 is taken at Sent as XL6 takes one, behind ArbStatus(Waiting On Device), and forgotten: no AIP can have come
  pub sends_on : (cs : List Call) (e f g : OpenFrame) → Remembered cs f g → higher_than g f ≡ false → step_of e (Event.Own Notice.Sent) (after cs) ≡ answers (link Phase.Xl6 (known (Some f) None None false (after cs).memory.close (after cs).memory.blocked) (after cs).count) (Action.Send (Message.ArbStatus Wait.Device) ∷ [])
  pub sends_back : (cs : List Call) (e f g : OpenFrame) → Remembered cs f g → higher_than g f ≡ true → Backs cs f g (Action.Send (Message.ArbStatus Wait.Device) ∷ []) None (step_of e (Event.Own Notice.Sent) (after cs))
  -- with neither an OPEN nor BREAK since, Sent only tells the router
  pub sends_alone : (cs : List Call) (e : OpenFrame) → (after cs).phase ≡ Phase.Xl5 → break_sent (history cs) ≡ false → open_met (history cs) ≡ None → step_of e (Event.Own Notice.Sent) (after cs) ≡ answers (link Phase.Xl6 (known (after cs).memory.held None (after cs).memory.aip false (after cs).memory.close (after cs).memory.blocked) (after cs).count) (Action.Send (Message.ArbStatus Wait.Device) ∷ [])
  -- 01 XL.18 01 XL.19
  -- a BREAK that came in XL2 is answered by SendBreak at Forwarded, one that came in XL5 at Sent; and only such
  pub forwards_broken : (cs : List Call) (e : OpenFrame) → (after cs).phase ≡ Phase.Xl2 → break_forwarded (history cs) ≡ true → step_of e (Event.Own Notice.Forwarded) (after cs) ≡ answers (link Phase.Xl9 (after cs).memory (after cs).count) (Action.Break BreakAction.Send ∷ Action.Break BreakAction.Transmit ∷ [])
  pub forwards : (cs : List Call) (e : OpenFrame) → (after cs).phase ≡ Phase.Xl2 → break_forwarded (history cs) ≡ false → step_of e (Event.Own Notice.Forwarded) (after cs) ≡ answers (link Phase.Xl3 (after cs).memory (after cs).count) []
  -- 01 XL.26
  pub sends_broken : (cs : List Call) (e : OpenFrame) → (after cs).phase ≡ Phase.Xl5 → break_sent (history cs) ≡ true → step_of e (Event.Own Notice.Sent) (after cs) ≡ answers (link Phase.Xl9 (known (after cs).memory.held None (after cs).memory.aip false (after cs).memory.close (after cs).memory.blocked) (after cs).count) (Action.Send (Message.ArbStatus Wait.Device) ∷ Action.Break BreakAction.Send ∷ Action.Break BreakAction.Transmit ∷ [])
  -- 01 XL.16
  -- the path timer requests the path again exactly if the last Arbitrating since RequestPath was Blocked On Partial
  pub asks_again : (cs : List Call) (e : OpenFrame) → (after cs).phase ≡ Phase.Xl1 → blocked_met (history cs) ≡ true → step_of e (Event.Own Notice.PathTimer) (after cs) ≡ answers (after cs) (Action.RequestPath true ∷ [])
  pub asks_nothing : (cs : List Call) (e : OpenFrame) → (after cs).phase ≡ Phase.Xl1 → blocked_met (history cs) ≡ false → step_of e (Event.Own Notice.PathTimer) (after cs) ≡ answers (after cs) []
  -- 01 XL.33 01 XL.34 01 XL.35
  -- in a connection CLOSE received and SendClose, in either order, lead to XL0
  pub closes_last : (cs : List Call) (e : OpenFrame) {p : Phase} → Connected p → (after cs).phase ≡ p → close_met (history cs) ≡ true → step_of e (Event.Router Message.SendClose) (after cs) ≡ answers (link Phase.Xl0 (known None None None false false false) (after cs).count) (Action.Transmit Primitive.Close ∷ [])
  pub closed_last : (cs : List Call) (e : OpenFrame) {p : Phase} → Connected p → (after cs).phase ≡ p → send_close_met (history cs) ≡ true → step_of e (Event.Line Primitive.Close) (after cs) ≡ answers (link Phase.Xl0 (known None None None false false false) (after cs).count) (Action.Send Message.SendClose ∷ [])
  -- and SendClose alone to XL8
  pub closes_first : (cs : List Call) (e : OpenFrame) → (after cs).phase ≡ Phase.Xl7 → close_met (history cs) ≡ false → step_of e (Event.Router Message.SendClose) (after cs) ≡ answers (link Phase.Xl8 (after cs).memory (after cs).count) (Action.Transmit Primitive.Close ∷ [])
  -- 01 XL.20 01 XL.30 01 XL.39
  -- Blocked Partial in XL3 exactly if the latest ArbStatus since the OPEN was forwarded was waiting on partial, in XL6 if the latest AIP was
  pub status_in_3 : (cs : List Call) → (after cs).phase ≡ Phase.Xl3 → Waits (status_of (after cs)) (status_met (history cs))
  pub status_in_6 : (cs : List Call) → (after cs).phase ≡ Phase.Xl6 → Waits (status_of (after cs)) (aip_met (history cs))
  -- a call releases a path exactly if it takes the link from a state to one of those that its path is left to
  pub path_left : (s : State) (c : Call) → releases s (call_of c s).state ≡ one_of (call_of c s).state.phase (leaves_to s.phase)
  -- Disable gives XL0 with no action and no memory but the count
  pub disables : (s : State) (f : OpenFrame) → keeps_rules s ≡ true → step_of f Event.Disable s ≡ answers (link Phase.Xl0 (known None None None false false false) s.count) []

new : Good (λ f. In f []) ready
new = record { held = tt; heard = tt; holds = impossible }

pub links : Links
unfolding call_of receive_of
links = record {
  steps = λ c. c.met;
  receives = λ c. c.met;
  same_open = λ b f s e. ap (λ (r : Result OpenFrame Refusal). opened r s) e;
  statuses = λ c. c.met;
  keeps = λ cs s e. kept cs s e;
  from_ready = λ cs. kept cs ready ready_keeps;
  counts = λ cs. let e = run_counts cs ready (omega arith) in omega (arith, e);
  frames_pass = λ cs c. run_shown cs [] ready new c;
  same_bytes = λ b f small e. written_read b f small e;
  in_order = gapless_call;
  at_most_four = few_done;
  remembers_aip = λ cs e. remembers cs e;
  transmits = λ cs f fields at. transmits cs f fields at;
  transmits_back = λ cs f fields at. transmits_back cs f fields at;
  stands = λ cs f g x none low. stands cs f g x none low;
  overtakes = λ cs f g x high. overtakes cs f g x high;
  yields = λ cs f g w x seen. yields cs f g x w seen;
  sends_on = λ cs e f g x low. sends_on cs f g x e low;
  sends_back = λ cs e f g x high. sends_back cs f g x e high;
  sends_alone = λ cs e at b o. sent cs e at b o;
  forwards_broken = λ cs e at b. break_forwarded_lem cs e at b;
  forwards = λ cs e at b. forwarded cs e at b;
  sends_broken = λ cs e at b. break_sent_lem cs e at b;
  asks_again = λ cs e at b. timer_blocked cs e at b;
  asks_nothing = λ cs e at b. timer_else cs e at b;
  closes_last = λ cs e c at b. closes_last cs e c at b;
  closed_last = λ cs e c at b. closed_last cs e c at b;
  closes_first = λ cs e at b. closes_first cs e at b;
  status_in_3 = status_in_3;
  status_in_6 = status_in_6;
  path_left = λ s c. released_call s c;
  disables = λ s f e. disabled s e f;
}
