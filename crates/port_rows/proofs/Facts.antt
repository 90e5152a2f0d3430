-- Sentences of document 01 about single calls follow from the calls' definitions: each cause is computed, then what is left and
-- answered. Assumes nothing.
use Rattle.std.specs.Prelude.{Err, Ok, Some, None}
use Prim.Native.Nat.{ℕ, ◌+◌, ◌*◌, ◌≤◌, min}
use mathlib.Core.Bool.{true, false, not, ◌&&◌}
use mathlib.Core.Path.{◌≡◌}
use native.Mathlib.Omega.{arith}
use lib.Dec.{eqb, leb, ltb}
use borrow.Author.Tests.{lt-leb}
use Rattle.laws.proofs.Bools.{and_false}
use Rattle.refusals.specs.declared.Refusal.{Refusal}
use Rattle.open_frame.specs.Open.{head_listed}
use Rattle.port_parts.specs.Parts.{no_stamp, is_set, is_opening, blank, is_free, is_ssp, in_range}
use Rattle.port_parts.specs.Reasons.{reason_of, is_listed, is_retried, is_blocked, is_stopping}
use Rattle.port_parts.specs.declared.Port.{Port}
use Rattle.port_parts.specs.declared.Reason.{Reason}
use Rattle.port_parts.specs.declared.Request.{Request}
use Rattle.port_rows.specs.Calls.{phy_at, is_nexus_lost, is_again, is_cancelled, setup_core, submit_core, opened_core, open_failed_core}
use Rattle.port_rows.specs.Records.{spread, left_step}
use Rattle.port_rows.specs.declared.Word.TheVariants.{Taken, Submitted, Send, Retried, Ended, NexusLoss}
use Rattle.port_rows.specs.declared.Loss.{Loss}
use Rattle.port_rows.specs.declared.Room.{Room}
use Rattle.port_rows.specs.declared.Submission.{Submission}
use Rattle.port_rows.specs.declared.Confirmed.{Confirmed}
use Rattle.port_rows.specs.declared.Failure.{Failure}
use Rattle.port_rows.proofs.Timers.{timer_stays, unchanged_by}

-- 01 PORT.2: a setup in range is taken, and every record is set free
setup_taken : (count loss : ℕ) → in_range count loss ≡ true → ((setup_core count loss).answer.word ≡ Ok Taken) × ((setup_core count loss).cleared ≡ true)
unfolding setup_core
setup_taken count loss range = (rw range, rw range)

-- 01 PORT.11: and each becomes all zeros
setup_clears : (count loss i : ℕ) (r : Request) → in_range count loss ≡ true → left_step r i (setup_core count loss) ≡ blank
unfolding setup_core
setup_clears count loss i r range = rw range

-- a loss timer that changes, at a record of an SSP request to its destination
module _ (x : Loss) (r : Request) (ssp : is_ssp r.head ≡ true) (there : eqb r.head.destination x.destination ≡ true) where
  -- 01 PORT.26: a record that is free gets none, so that no timer outlives the last request
  free_stays : is_free r ≡ true → spread (Some x) r ≡ r
  free_stays free = rw (ssp, there, free)

  -- 01 PORT.10: a request that is present gets the one timer
  present_gets : is_free r ≡ false → (spread (Some x) r).loss ≡ x.timer
  present_gets taken = rw (ssp, there, taken)

-- a submit of a listed head at a time that isn't past, to a state that keeps its rules
module _ (p : Port) (v : Room) (x : Submission) (listed : head_listed x.head ≡ true) (due : ltb x.now p.last ≡ false) where
  -- 01 REFUSAL.9: a request that is present is refused as present, whether or not the list is full
  present : v.same ≡ true → (submit_core p true v x).answer.word ≡ Err Refusal.Present
  unfolding submit_core
  present same = rw (listed, due, same)

  -- 01 REFUSAL.10: one that is absent is refused where the list is full
  full : v.same ≡ false → leb 32 v.free ≡ true → (submit_core p true v x).answer.word ≡ Err Refusal.Full
  unfolding submit_core
  full absent none_free = rw (listed, due, absent, none_free)

  -- 01 PROMISE.3
  -- and taken where it isn't: not everything is refused
  submitted : v.same ≡ false → leb 32 v.free ≡ false → (submit_core p true v x).answer.word ≡ Ok Submitted
  unfolding submit_core
  submitted absent free = rw (listed, due, absent, free)

  -- 01 PORT.11
  -- the record that is stored, and the answer, have the head that was given
  stored : v.same ≡ false → leb 32 v.free ≡ false → ((submit_core p true v x).entry.head ≡ x.head) × ((submit_core p true v x).answer.frame.head ≡ x.head)
  unfolding submit_core
  stored absent free = (rw (listed, due, absent, free), rw (listed, due, absent, free))

-- Opened, of a phy of the port at a time that isn't past, in a state that keeps its rules
module _ (p : Port) (r : Request) (x : Confirmed) (own : ltb x.phy p.count ≡ true) (due : ltb x.now p.last ≡ false) where
  -- 01 PORT.17: of an opening phy it is taken, and the frame goes
  goes : (phy_at p x.phy).stage ≡ 2 → is_cancelled r ≡ false → (opened_core p r true x).answer.word ≡ Ok Send
  unfolding opened_core
  goes opening wanted = rw (wanted, own, due, opening)

  -- 01 REFUSAL.14: it doesn't fit one that is not opening
  unfit : is_opening (phy_at p x.phy) ≡ false → (opened_core p r true x).answer.word ≡ Err Refusal.Unfit
  unfolding opened_core
  unfit other = rw (own, due, other)

-- Open Failed with a listed reason, of an opening phy of the port at a time that isn't past, in a state that keeps its rules
module _ (p : Port) (r : Request) (x : Failure) (listed : is_listed (reason_of x.why) ≡ true) (own : ltb x.phy p.count ≡ true) (due : ltb x.now p.last ≡ false) (opening : is_opening (phy_at p x.phy) ≡ true) where
  -- 01 PORT.18: a reason that isn't retried ends the request with that reason
  ends : is_cancelled r ≡ false → is_retried (reason_of x.why) ≡ false → (open_failed_core p r true x).answer.word ≡ Ok (Ended (reason_of x.why))
  unfolding open_failed_core
  ends wanted final = rw (wanted, final, listed, own, due, opening)

  -- 01 PORT.25: a retried one, with a running timer at or past loss time after it, with I_T Nexus Loss
  nexus_lost : is_cancelled r ≡ false → is_retried (reason_of x.why) ≡ true → is_nexus_lost p r (reason_of x.why) x.now ≡ true → (open_failed_core p r true x).answer.word ≡ Ok NexusLoss
  unfolding open_failed_core
  nexus_lost wanted retried lost = rw (wanted, retried, lost, listed, own, due, opening)

  -- 01 PORT.25: the loss is judged behind the confirmation: Retry stops the timer first, however long it ran,
  stopped_goes_on : is_cancelled r ≡ false → is_ssp r.head ≡ true → reason_of x.why ≡ Reason.Retry → (open_failed_core p r true x).answer.word ≡ Ok Retried
  unfolding open_failed_core
  stopped_goes_on wanted ssp why = rw (wanted, ssp, listed, own, due, opening, why)

  -- and No Destination starts it, so that none of its time has passed
  started_goes_on : is_cancelled r ≡ false → is_ssp r.head ≡ true → is_set r.loss ≡ false → 1 ≤ p.loss → reason_of x.why ≡ Reason.NoDestination → (open_failed_core p r true x).answer.word ≡ Ok Retried
  unfolding open_failed_core
  started_goes_on wanted ssp off some why =
      let early : not (eqb p.loss 65535) && leb (x.now + p.loss * 1000) x.now ≡ false = and_false (not (eqb p.loss 65535)) (lt-leb (x.now + p.loss * 1000) x.now (omega (arith, some))) in
      rw (wanted, ssp, listed, own, due, opening, why, off, early)

  -- an SSP request whose destination's loss timer runs, and a reason that doesn't stop it
  module _ (ssp : is_ssp r.head ≡ true) (running : is_set r.loss ≡ true) (going : is_stopping (reason_of x.why) ≡ false) where
    -- 01 TRAP.3
    -- no timer changes
    no_change : (open_failed_core p r true x).loss ≡ None
    unfolding open_failed_core
    no_change = rw (listed, own, due, opening) (unchanged_by r (reason_of x.why) x.now ssp running going)

    -- 01 TRAP.3
    -- and where the request waits again it has the timer that it had
    timer_kept : is_again p r (reason_of x.why) x.now ≡ true → (open_failed_core p r true x).entry.loss ≡ r.loss
    unfolding open_failed_core
    timer_kept again = rw (listed, own, due, opening, again) (timer_stays r (reason_of x.why) x.now ssp running going)

  -- and the request that is retried
  module _ (again : is_again p r (reason_of x.why) x.now ≡ true) where
    -- 01 PORT.12: each retry leaves its time, whatever its reason
    retry_stamped : (open_failed_core p r true x).entry.retry ≡ record { set = 1; at = x.now }
    unfolding open_failed_core
    retry_stamped = rw (listed, own, due, opening, again)

    module _ (blocked : reason_of x.why ≡ Reason.PathwayBlocked) where
      -- 01 PORT.19: Pathway Blocked keeps the wait running, since the first open stays
      runs_on : (open_failed_core p r true x).entry.first ≡ r.first
      unfolding open_failed_core
      runs_on = rw (listed, own, due, opening, again, blocked)

      -- and counts one more, up to 255
      counts_on : (open_failed_core p r true x).entry.pbc.0 ≡ min (r.pbc.0 + 1) 255
      unfolding open_failed_core
      counts_on = rw (listed, own, due, opening, again, blocked)

    module _ (other : is_blocked (reason_of x.why) ≡ false) where
      -- 01 PORT.19: the other retries reset both
      wait_reset : (open_failed_core p r true x).entry.first ≡ no_stamp
      unfolding open_failed_core
      wait_reset = rw (listed, own, due, opening, again, other)

      count_reset : (open_failed_core p r true x).entry.pbc.0 ≡ 0
      unfolding open_failed_core
      count_reset = rw (listed, own, due, opening, again, other)
