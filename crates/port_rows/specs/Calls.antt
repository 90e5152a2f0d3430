-- Document 01, 'Port': each call, on the record that it is about and on numbers. Assumes nothing.
-- In every definition p is the port, r the record of the request that the call is about, s its slot, f its phy and k that phy's number, x what
-- the call was given, `now` its time, and `kept` whether the lent state keeps its rules. What is said and stored, and phys that are
-- made, stand in Answers.antt; a record with some fields changed in Changed.antt; what submit (v) and cancel find in Finds.antt; stages, marks and tests in
-- port_parts; the fields of each type, with what they mean, in src/lib.rt of port_parts and of this crate.
use Rattle.std.specs.Prelude.{ℕ, ◌+◌, ◌-◌, min, Bool, true, false, not, cond, ◌&&◌, ◌||◌, List, [], ◌∷◌, eqb, leb, ltb, get_or, Result, Ok}
use Rattle.refusals.specs.Causes.{Cause, ◌when◌, refuse}
use Rattle.refusals.specs.declared.Refusal.{Refusal}
use Rattle.open_frame.specs.Open.{head_listed}
use Rattle.open_frame.specs.Wait.{wait_value}
use Rattle.open_frame.specs.declared.Awt.{Awt}
use Rattle.open_frame.specs.declared.Pbc.{Pbc}
use Rattle.port_parts.specs.Parts.{no, yes, protocols, no_slot, no_phy, no_stamp, stamped, is_set, disabled_phy, absent_phy, is_disabled, is_opening, is_idle, is_sending, is_closing_idle, is_closing_sending, blank, is_waiting, is_ssp, in_range, names, has_frame_out}
use Rattle.port_parts.specs.PhyStage as phy-stage
use Rattle.port_parts.specs.RequestStage as request-stage
use Rattle.port_parts.specs.Step as step
use Rattle.port_parts.specs.Reasons.{reason_of, is_listed, is_retried, is_blocked, is_starting, is_stopping}
use Rattle.port_parts.specs.Timer.{timer_by, is_lost}
use Rattle.port_parts.specs.declared.Phy.{Phy}
use Rattle.port_parts.specs.declared.Pick.{Pick}
use Rattle.port_parts.specs.declared.Port.{Port}
use Rattle.port_parts.specs.declared.Reason.{Reason}
use Rattle.port_parts.specs.declared.Request.{Request}
use Rattle.port_parts.specs.declared.Stamp.{Stamp}
use Rattle.port_rows.specs.Answers.{later, with_phy, fresh, no_port, unconnected_phy, opening_phy, joined_phy, staged_phy, no_loss, loss_by, unnamed, refused_by, said, stored, ended}
use Rattle.port_rows.specs.Changed.{placed, marked, waited, timed}
use Rattle.port_rows.specs.declared.Answer.{Answer}
use Rattle.port_rows.specs.declared.Word.{Word}
use Rattle.port_rows.specs.declared.Word.TheVariants.{Taken, Submitted, Nothing, Send, Open, Close, StopArb, Retried, Waiting, CancelAcknowledged, Ended, NexusLoss, ConnectionLost, Status}
use Rattle.port_rows.specs.declared.Room.{Room}
use Rattle.port_rows.specs.declared.Submission.{Submission}
use Rattle.port_rows.specs.declared.Withdrawn.{Withdrawn}
use Rattle.port_rows.specs.declared.Confirmed.{Confirmed}
use Rattle.port_rows.specs.declared.Failure.{Failure}
use Rattle.port_rows.specs.declared.Report.{Report}
use Rattle.port_rows.specs.declared.Done.{Done}

-- a Cancel of it was taken while it was in progress
abbrev pub is_cancelled : Request → Bool
is_cancelled r = eqb r.cancelled yes

-- the phy with number k
abbrev pub phy_at : Port → ℕ → Phy
phy_at p k = get_or p.phys k absent_phy

-- ---- setup

-- 01 REFUSAL.3
unfoldable pub setup_core : ℕ → ℕ → Done
setup_core count loss =
    refuse (refused_by no_port) ((Refusal.Rules when not (in_range count loss)) ∷ [])
    (unnamed (fresh count loss) (Ok Taken) true)

-- ---- submit

-- 01 REFUSAL.2 01 REFUSAL.3 01 REFUSAL.5 01 REFUSAL.9 01 REFUSAL.10
abbrev pub submit_causes : Port → Bool → Room → Submission → List Cause
submit_causes p kept v x =
    (Refusal.Unlisted when not (head_listed x.head))
    ∷ (Refusal.Rules when not kept)
    ∷ (Refusal.Past when ltb x.now p.last)
    ∷ (Refusal.Present when v.same)
    ∷ (Refusal.Full when leb no_slot v.free)
    ∷ []

-- a request as submit leaves it: waiting, with nothing behind it but its destination's loss timer
abbrev pub submitted : Room → Submission → Request
submitted v x =
    record {
      stage = request-stage.waiting;
      phy = 0;
      cancelled = no;
      closed = no;
      pbc = record { 0 = 0 };
      awt = record { 0 = 0 };
      head = x.head;
      submitted = x.now;
      retry = no_stamp;
      first = no_stamp;
      loss = v.loss;
    }

unfoldable pub submit_core : Port → Bool → Room → Submission → Done
submit_core p kept v x =
    refuse (refused_by p) (submit_causes p kept v x) (stored (later p x.now) (said (Ok Submitted) v.free no_phy (submitted v x)) (submitted v x) no_loss)

-- ---- cancel

-- 01 REFUSAL.2 01 REFUSAL.3 01 REFUSAL.5 01 REFUSAL.6
-- 01 REFUSAL.14: Cancel of a request absent or already cancelled.
abbrev pub cancel_causes : Port → Request → Bool → ℕ → Withdrawn → List Cause
cancel_causes p r kept s x =
    (Refusal.Unlisted when not (ltb x.key.protocol protocols))
    ∷ (Refusal.Rules when not kept)
    ∷ (Refusal.Past when ltb x.now p.last)
    ∷ (Refusal.Unfit when (leb no_slot s || is_cancelled r))
    ∷ []

-- a sending phy whose request is cancelled closes, with its frame out; an opening one goes on opening until it is told of the end
abbrev pub closing_phy : Phy → Phy
closing_phy f = staged_phy (cond (is_sending f) phy-stage.closing_sending f.stage) f.slot f

-- 01 PORT.23: in progress: Stop Arb while opening, Close while connected
abbrev pub stopped : Port → Request → ℕ → ℕ → Done
stopped p r s now =
    stored (with_phy p r.phy (closing_phy (phy_at p r.phy)) now)
    (said (cond (is_opening (phy_at p r.phy)) (Ok StopArb) (Ok Close)) s r.phy r)
    (marked r yes r.closed) no_loss

-- 01 PORT.23: Cancel of a waiting request ends it (Cancel Acknowledged); in progress: Stop Arb while opening, Close while connected; Opened after that gives Close; any end, retry, closing or disabling then is Cancel Acknowledged.
unfoldable pub cancelled : Port → Request → ℕ → ℕ → Done
cancelled p r s now = cond (is_waiting r) (ended (later p now) (said (Ok CancelAcknowledged) s no_phy r)) (stopped p r s now)

unfoldable pub cancel_core : Port → Request → Bool → ℕ → Withdrawn → Done
cancel_core p r kept s x = refuse (refused_by p) (cancel_causes p r kept s x) (cancelled p r s x.now)

-- ---- a request that was cancelled

-- 01 PORT.23: Opened after that gives Close
-- its phy closes, and the frame doesn't go
abbrev pub opened_word : Request → Result Word Refusal
opened_word r = cond (is_cancelled r) (Ok Close) (Ok Send)

abbrev pub opened_stage : Request → ℕ
opened_stage r = cond (is_cancelled r) phy-stage.closing phy-stage.sending

-- 01 PORT.23: any end, retry, closing or disabling then is Cancel Acknowledged.
-- the word on a request that would be w if it had not been cancelled
abbrev pub unless_cancelled : Request → Result Word Refusal → Result Word Refusal
unless_cancelled r w = cond (is_cancelled r) (Ok CancelAcknowledged) w

-- ---- choose

-- 01 REFUSAL.3 01 REFUSAL.5
abbrev pub choose_causes : Port → Bool → ℕ → List Cause
choose_causes p kept now = (Refusal.Rules when not kept) ∷ (Refusal.Past when ltb now p.last) ∷ []

-- 01 PORT.13: (1) connected to its destination and protocol and idle: send
abbrev pub sent : Port → Request → Pick → ℕ → Done
sent p r b now =
    stored (with_phy p b.phy (staged_phy phy-stage.sending b.slot (phy_at p b.phy)) now)
    (said (Ok Send) b.slot b.phy r)
    (placed r request-stage.in_progress b.phy) no_loss

-- 01 PORT.16: Open carries AWT since the request's first open after its last reset, and its PBC.
abbrev pub first_open : Request → ℕ → Stamp
first_open r now = cond (is_set r.first) r.first (stamped now)

-- 01 PORT.16
abbrev pub wait_since : Request → ℕ → Awt
wait_since r now = wait_value (now - (first_open r now).at)

-- 01 PORT.16
-- an Open, with the frame that the record holds
abbrev pub asking : ℕ → ℕ → Request → Answer
asking s k r = record { word = Ok Open; slot = s; phy = k; frame = record { head = r.head; pbc = r.pbc; awt = r.awt } }

-- a request whose open begins on phy k: in progress there, with the wait that its Open carries
abbrev pub asked : Request → ℕ → ℕ → Request
asked r k now = waited (placed r request-stage.in_progress k) r.pbc (wait_since r now) r.retry (first_open r now)

-- 01 PORT.16
-- 01 PORT.13: (2) unconnected: open
abbrev pub opening : Port → Request → Pick → ℕ → Done
opening p r b now =
    stored (with_phy p b.phy (opening_phy b.slot) now) (asking b.slot b.phy (asked r b.phy now)) (asked r b.phy now) no_loss

-- 01 PORT.13: (3) connected elsewhere and idle: close that phy, once per request
-- the phy names no request then, and this one goes on waiting
abbrev pub closing : Port → Request → Pick → ℕ → Done
closing p r b now =
    stored (with_phy p b.phy (staged_phy phy-stage.closing no_slot (phy_at p b.phy)) now)
    (said (Ok Close) b.slot b.phy r)
    (marked r r.cancelled yes) no_loss

abbrev pub idle : Port → ℕ → Done
idle p now = unnamed (later p now) (Ok Nothing) false

-- 01 PORT.13 01 PORT.15
unfoldable pub chosen : Port → Request → Pick → ℕ → Done
chosen p r b now =
    cond (eqb b.step step.sends) (sent p r b now)
    (cond (eqb b.step step.opens) (opening p r b now) (cond (eqb b.step step.closes) (closing p r b now) (idle p now)))

unfoldable pub choose_core : Port → Request → Bool → Pick → ℕ → Done
choose_core p r kept b now = refuse (refused_by p) (choose_causes p kept now) (chosen p r b now)

-- ---- a phy's calls: f is the phy, r the request that it names

-- 01 REFUSAL.3 01 REFUSAL.4 01 REFUSAL.5 01 REFUSAL.6
abbrev pub phy_causes : Port → Bool → ℕ → ℕ → Bool → List Cause
phy_causes p kept k now unfit =
    (Refusal.Rules when not kept) ∷ (Refusal.Phy when not (ltb k p.count)) ∷ (Refusal.Past when ltb now p.last) ∷ (Refusal.Unfit when unfit) ∷ []

-- 01 PORT.17: Opened: the frame goes.
-- 01 PORT.24: stopped by Opened
abbrev pub connected : Port → Phy → Request → Confirmed → Done
connected p f r x =
    stored (with_phy p x.phy (joined_phy (opened_stage r) f.slot r.head) x.now)
    (said (opened_word r) f.slot x.phy r)
    (timed r (cond (is_ssp r.head) no_stamp r.loss)) (loss_by r no_stamp)

-- 01 REFUSAL.14: Opened or Open Failed, phy not opening; frame status, no frame out; Closed, neither connected nor closing; enabling an enabled or disabling a disabled phy; Cancel of a request absent or already cancelled.
unfoldable pub opened_core : Port → Request → Bool → Confirmed → Done
opened_core p r kept x = refuse (refused_by p) (phy_causes p kept x.phy x.now (not (is_opening (phy_at p x.phy)))) (connected p (phy_at p x.phy) r x)

-- 01 PORT.19: Pathway Blocked keeps the wait running and adds 1 to its PBC, up to 255; the other retries reset both.
abbrev pub one_more : Pbc → Pbc
one_more n = record { 0 = min (n.0 + 1) 255 }

-- 01 PORT.19
abbrev pub again : Request → Reason → ℕ → Stamp → Request
again r why now t =
    timed
    (waited (placed r request-stage.waiting 0) (cond (is_blocked why) (one_more r.pbc) (record { 0 = 0 })) (cond (is_blocked why) r.awt (record { 0 = 0 })) (stamped now)
    (cond (is_blocked why) r.first no_stamp)) t

-- 01 PORT.24
-- the destination's timer after the confirmation
abbrev pub timer_after : Request → Reason → ℕ → Stamp
timer_after r why now = cond (is_ssp r.head) (timer_by (is_stopping why) (is_starting why) r.loss now) r.loss

-- 01 PORT.25
abbrev pub is_nexus_lost : Port → Request → Reason → ℕ → Bool
is_nexus_lost p r why now = is_ssp r.head && is_lost (timer_after r why now) p.loss now

-- 01 PORT.18 01 PORT.25
-- Cancel Acknowledged comes before a reason that ends, and that before I_T Nexus Loss
abbrev pub failed_word : Port → Request → Reason → ℕ → Result Word Refusal
failed_word p r why now = unless_cancelled r (cond (not (is_retried why)) (Ok (Ended why)) (cond (is_nexus_lost p r why now) (Ok NexusLoss) (Ok Retried)))

-- 01 PORT.18 01 PORT.23
-- the request waits again, and is not set free
abbrev pub is_again : Port → Request → Reason → ℕ → Bool
is_again p r why now = not (is_cancelled r) && (is_retried why && not (is_nexus_lost p r why now))

-- 01 PORT.18
abbrev pub failed : Port → Phy → Request → Reason → ℕ → ℕ → Done
failed p f r why k now =
    stored (with_phy p k unconnected_phy now) (said (failed_word p r why now) f.slot k r)
    (cond (is_again p r why now) (again r why now (timer_after r why now)) blank) (loss_by r (timer_after r why now))

-- 01 REFUSAL.2
abbrev pub failed_causes : Port → Bool → Failure → Bool → List Cause
failed_causes p kept x unfit = (Refusal.Unlisted when not (is_listed (reason_of x.why))) ∷ phy_causes p kept x.phy x.now unfit

-- 01 REFUSAL.14: Opened or Open Failed, phy not opening
unfoldable pub open_failed_core : Port → Request → Bool → Failure → Done
open_failed_core p r kept x =
    refuse (refused_by p) (failed_causes p kept x (not (is_opening (phy_at p x.phy))))
    (failed p (phy_at p x.phy) r (reason_of x.why) x.phy x.now)

-- 01 PORT.23
-- 01 PORT.20: Frame status (a byte, handed on): request ends, phy idle; a closing one stays closing.
abbrev pub framed : Port → Phy → Request → Report → Done
framed p f r x =
    ended (with_phy p x.phy (staged_phy (cond (is_sending f) phy-stage.idle phy-stage.closing) no_slot f) x.now)
    (said (unless_cancelled r (Ok (Status x.status))) f.slot x.phy r)

-- 01 REFUSAL.14: frame status, no frame out
unfoldable pub frame_status_core : Port → Request → Bool → Report → Done
frame_status_core p r kept x =
    refuse (refused_by p) (phy_causes p kept x.phy x.now (not (has_frame_out (phy_at p x.phy)))) (framed p (phy_at p x.phy) r x)

-- connected or closing
abbrev pub is_joined : Phy → Bool
is_joined f = (is_idle f || is_sending f) || (is_closing_idle f || is_closing_sending f)

-- 01 PORT.23
-- 01 PORT.21: Closed: phy free, its request ends as connection lost.
-- where the phy names no request it has no slot, and at no slot nothing is stored
abbrev pub closed_done : Port → Phy → Request → Confirmed → Done
closed_done p f r x =
    ended (with_phy p x.phy unconnected_phy x.now) (said (cond (names f) (unless_cancelled r (Ok ConnectionLost)) (Ok Taken)) f.slot x.phy r)

-- 01 REFUSAL.14: Closed, neither connected nor closing
unfoldable pub closed_core : Port → Request → Bool → Confirmed → Done
closed_core p r kept x =
    refuse (refused_by p) (phy_causes p kept x.phy x.now (not (is_joined (phy_at p x.phy)))) (closed_done p (phy_at p x.phy) r x)

-- 01 REFUSAL.14: enabling an enabled
-- it names no request, and at no slot nothing is stored
unfoldable pub enable_core : Port → Request → Bool → Confirmed → Done
enable_core p r kept x =
    refuse (refused_by p) (phy_causes p kept x.phy x.now (not (is_disabled (phy_at p x.phy))))
    (ended (with_phy p x.phy unconnected_phy x.now) (said (Ok Taken) no_slot x.phy r))

-- 01 PORT.22: A disabled phy's request waits again, wait and PBC kept.
-- 01 PORT.23
-- where the phy names no request it has no slot, and at no slot nothing is stored
abbrev pub disabled_done : Port → Phy → Request → Confirmed → Done
disabled_done p f r x =
    stored (with_phy p x.phy disabled_phy x.now) (said (cond (names f) (unless_cancelled r (Ok Waiting)) (Ok Taken)) f.slot x.phy r)
    (cond (is_cancelled r) blank (placed r request-stage.waiting 0)) no_loss

-- 01 REFUSAL.14: disabling a disabled phy
unfoldable pub disable_core : Port → Request → Bool → Confirmed → Done
disable_core p r kept x =
    refuse (refused_by p) (phy_causes p kept x.phy x.now (is_disabled (phy_at p x.phy))) (disabled_done p (phy_at p x.phy) r x)
