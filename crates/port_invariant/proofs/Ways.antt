-- What the calls leave, by the tests that tell their ways apart: Cancel's by whether the request waits, choose's by the step of its pick.
-- Assumes nothing.
use Rattle.std.specs.Prelude.{Ok}
use Prim.Native.Nat.{ℕ}
use mathlib.Core.Path.{◌≡◌}
use mathlib.Core.Bool.{Bool, true, false, not, cond, ◌&&◌}
use lib.Dec.{eqb}
use borrow.Author.Tests.{eqb-true}
use Rattle.laws.proofs.Bools.{by_test}
use Rattle.port_parts.specs.Parts.{no_stamp, disabled_phy, blank, is_ssp, is_sending, is_waiting, is_opening}
use Rattle.port_parts.specs.Qualifies.{Qualifies, sends, opens, closes}
use Rattle.port_parts.specs.declared.Phy.{Phy}
use Rattle.port_parts.specs.declared.Pick.{Pick}
use Rattle.port_parts.specs.declared.Port.{Port}
use Rattle.port_parts.specs.declared.Reason.{Reason}
use Rattle.port_parts.specs.declared.Request.{Request}
use Rattle.port_rows.specs.Answers.{later, with_phy, unconnected_phy, joined_phy, staged_phy, no_loss, loss_by, said, stored, ended}
use Rattle.port_rows.specs.Changed.{placed, marked, timed}
use Rattle.port_rows.specs.Calls.{phy_at, closing_phy, submitted, again, timer_after, cancelled, sent, opening, closing, idle, chosen}
use Rattle.port_rows.specs.Finds.{room_of}
use Rattle.port_rows.specs.declared.Confirmed.{Confirmed}
use Rattle.port_rows.specs.declared.Done.{Done}
use Rattle.port_rows.specs.declared.Report.{Report}
use Rattle.port_rows.specs.declared.Submission.{Submission}
use Rattle.port_rows.specs.declared.Word.TheVariants.{Taken, Submitted, Send, Close, StopArb, Retried, Waiting, CancelAcknowledged, Ended, NexusLoss, ConnectionLost, Status}
use Rattle.port.specs.History.{State}

abbrev pub submitted_to : State → Submission → Done
submitted_to s x =
    stored (later s.port x.now) (said (Ok Submitted) (room_of s.list x.head).free 8 (submitted (room_of s.list x.head) x)) (submitted (room_of s.list x.head) x) no_loss

-- a Cancel of a waiting request, and of one in progress while opening or not
abbrev pub ended_by : Port → Request → ℕ → ℕ → Done
ended_by p r k now = ended (later p now) (said (Ok CancelAcknowledged) k 8 r)

abbrev pub stopped_by : Port → Request → ℕ → ℕ → Bool → Done
stopped_by p r k now t = stored (with_phy p r.phy (closing_phy (phy_at p r.phy)) now) (said (cond t (Ok StopArb) (Ok Close)) k r.phy r) (marked r 1 r.closed) no_loss

-- cancelled
abbrev pub opened_by : Port → Phy → Request → Confirmed → Bool → Done
opened_by p f r x t =
    stored (with_phy p x.phy (joined_phy (cond t 5 4) f.slot r.head) x.now) (said (cond t (Ok Close) (Ok Send)) f.slot x.phy r) (timed r (cond (is_ssp r.head) no_stamp r.loss)) (loss_by r no_stamp)

-- cancelled, retried, lost
abbrev pub failed_by : Port → Phy → Request → Reason → ℕ → ℕ → Bool → Bool → Bool → Done
failed_by p f r why k now t u v =
    stored (with_phy p k unconnected_phy now) (said (cond t (Ok CancelAcknowledged) (cond (not u) (Ok (Ended why)) (cond v (Ok NexusLoss) (Ok Retried)))) f.slot k r) (cond (not t && (u && not v)) (again r why now (timer_after r why now)) blank) (loss_by r (timer_after r why now))

-- cancelled
abbrev pub framed_by : Port → Phy → Request → Report → Bool → Done
framed_by p f r x t =
    ended (with_phy p x.phy (staged_phy (cond (is_sending f) 3 5) 32 f) x.now) (said (cond t (Ok CancelAcknowledged) (Ok (Status x.status))) f.slot x.phy r)

-- the phy names a request, which is cancelled
abbrev pub closed_by : Port → Phy → Request → Confirmed → Bool → Bool → Done
closed_by p f r x n t = ended (with_phy p x.phy unconnected_phy x.now) (said (cond n (cond t (Ok CancelAcknowledged) (Ok ConnectionLost)) (Ok Taken)) f.slot x.phy r)

abbrev pub disabled_by : Port → Phy → Request → Confirmed → Bool → Bool → Done
disabled_by p f r x n t =
    stored (with_phy p x.phy disabled_phy x.now) (said (cond n (cond t (Ok CancelAcknowledged) (Ok Waiting)) (Ok Taken)) f.slot x.phy r) (cond t blank (placed r 1 0)) no_loss

abbrev pub enabled_by : Port → Request → Confirmed → Done
enabled_by p r x = ended (with_phy p x.phy unconnected_phy x.now) (said (Ok Taken) 32 x.phy r)

-- ---- what holds of every way holds of the call

module _ (P : Done → Type 0) (p : Port) (r : Request) where
  pub by_cancelled : (k now : ℕ) → (is_waiting r ≡ true → P (ended_by p r k now)) → (is_waiting r ≡ false → P (stopped_by p r k now (is_opening (phy_at p r.phy)))) → P (cancelled p r k now)
  unfolding cancelled
  by_cancelled k now ends stops = by_test P (is_waiting r) ends stops

  pub by_chosen : (b : Pick) (now : ℕ) → (b.step ≡ 1 → P (sent p r b now)) → (b.step ≡ 2 → P (opening p r b now)) → (b.step ≡ 3 → P (closing p r b now)) → P (idle p now) → P (chosen p r b now)
  unfolding chosen
  by_chosen b now first second third else =
      by_test P (eqb b.step 1) (λ t. first (eqb-true b.step 1 t))
      (λ t. by_test P (eqb b.step 2) (λ u. second (eqb-true b.step 2 u)) (λ u. by_test P (eqb b.step 3) (λ v. third (eqb-true b.step 3 v)) (λ v. else)))

-- what qualifies waits
pub waits : {now : ℕ} {r : Request} {f : Phy} {step : ℕ} → Qualifies now r f step → r.stage ≡ 1
waits (sends e ready stage reach) = ready.0
waits (opens e ready stage) = ready.0
waits (closes e ready stage reach closed) = ready.0
