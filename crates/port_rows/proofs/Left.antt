-- What a taken call leaves of its phy, of the time and of the record, and what it says, in numbers: each is computed from the call's
-- definition. Assumes nothing.
-- Numbers are typed here, where the definitions have names. A phy: 0 disabled, 1 unconnected, 2 opening, 3 idle, 4 sending, 5 closing, 6 closing
-- with a frame out; a request: 0 free, 1 waiting, 2 in progress; a step: 1 sends, 2 opens, 3 closes; slot 32 and phy 8 are none.
use Rattle.std.specs.Prelude.{Ok, Some}
use Prim.Native.Nat.{ℕ, ◌-◌}
use mathlib.Core.Bool.{Bool, true, false, not, cond}
use mathlib.Core.Path.{◌≡◌, refl, ap}
use native.Mathlib.Omega.{arith}
use lib.Dec.{eqb, leb, ltb}
use lib.ListN.{set, replicate}
use Rattle.laws.proofs.Bools.{and_false}
use Rattle.open_frame.specs.Open.{head_listed}
use Rattle.open_frame.specs.Wait.{wait_of}
use Rattle.open_frame.specs.declared.Head.{Head}
use Rattle.port_parts.specs.Parts.{in_range, no_stamp, is_set, is_opening, names, has_frame_out, is_disabled, is_free, is_waiting, is_ssp}
use Rattle.port_parts.specs.Reasons.{reason_of, is_listed}
use Rattle.port_parts.specs.Timer.{is_lost}
use Rattle.port_parts.specs.declared.Phy.{Phy}
use Rattle.port_parts.specs.declared.Pick.{Pick}
use Rattle.port_parts.specs.declared.Port.{Port}
use Rattle.port_parts.specs.declared.Request.{Request}
use Rattle.port_parts.specs.declared.Stamp.{Stamp}
use Rattle.port_rows.specs.Changed.{timed}
use Rattle.port_rows.specs.Calls.{phy_at, chosen, cancelled, is_cancelled, is_joined, setup_core, submit_core, cancel_core, choose_core, opened_core, open_failed_core, frame_status_core, closed_core, enable_core, disable_core}
use Rattle.port_rows.specs.Records.{spread}
use Rattle.port_rows.specs.declared.Word.TheVariants.{StopArb, Close, ConnectionLost, Status, Waiting}
use Rattle.port_rows.specs.declared.Answer.{Answer}
use Rattle.port_rows.specs.declared.Loss.{Loss}
use Rattle.port_rows.specs.declared.Room.{Room}
use Rattle.port_rows.specs.declared.Submission.{Submission}
use Rattle.port_rows.specs.declared.Withdrawn.{Withdrawn}
use Rattle.port_rows.specs.declared.Confirmed.{Confirmed}
use Rattle.port_rows.specs.declared.Failure.{Failure}
use Rattle.port_rows.specs.declared.Report.{Report}

-- the port with phy k in a stage, naming slot s, connected as given, at a time
abbrev put : Port → ℕ → ℕ → ℕ → ℕ → ℕ → ℕ → Port
put p k stage s protocol destination now = record { count = p.count; loss = p.loss; last = now; phys = set p.phys k (record { stage = stage; slot = s; protocol = protocol; destination = destination }) }

-- an answer names this phy, and the request at this slot with this head
abbrev Names : Answer → ℕ → ℕ → Head → Type 0
Names a phy slot head = (a.phy ≡ phy) × ((a.slot ≡ slot) × (a.frame.head ≡ head))

-- 01 PORT.1
-- 01 PORT.2: setup's phys are disabled and name none, and the last time is 0
set_up : (count loss : ℕ) → in_range count loss ≡ true → (setup_core count loss).port ≡ record { count = count; loss = loss; last = 0; phys = replicate 8 (record { stage = 0; slot = 32; protocol = 0; destination = 0 }) }
unfolding setup_core
set_up count loss range = rw range

-- 01 PORT.1: a loss time of 65,535 is never
never_lost : (t : Stamp) (now : ℕ) → is_lost t 65535 now ≡ false
never_lost t now = and_false (is_set t) refl

-- 01 PORT.10: a loss timer that changes leaves a record of another destination
other_keeps : (x : Loss) (r : Request) → eqb r.head.destination x.destination ≡ false → spread (Some x) r ≡ r
other_keeps x r other = ap (λ (t : Bool). cond t (timed r x.timer) r) (and_false (not (is_free r)) (and_false (is_ssp r.head) other))

-- 01 PORT.3
-- 01 PORT.11: what submit stores: a request that waits, with nothing behind it but its destination's timer
submit_stores : (p : Port) (v : Room) (x : Submission) → head_listed x.head ≡ true → ltb x.now p.last ≡ false → v.same ≡ false → leb 32 v.free ≡ false
    → ((submit_core p true v x).entry ≡ record { stage = 1; phy = 0; cancelled = 0; closed = 0; pbc = record { 0 = 0 }; awt = record { 0 = 0 }; head = x.head; submitted = x.now; retry = no_stamp; first = no_stamp; loss = v.loss }) × ((submit_core p true v x).port.last ≡ x.now)
unfolding submit_core
submit_stores p v x listed due absent free = (rw (listed, due, absent, free), rw (listed, due, absent, free))

-- choose, at a time that isn't past, with the pick b
module _ (p : Port) (r : Request) (b : Pick) (now : ℕ) (due : ltb now p.last ≡ false) where
  -- 01 PORT.13: (1): the frame is out on the phy, which stays connected as it was
  sends_on : b.step ≡ 1 → (choose_core p r true b now).port ≡ put p b.phy 4 b.slot (phy_at p b.phy).protocol (phy_at p b.phy).destination now
  unfolding choose_core chosen
  sends_on e = rw (due, e)

  -- 01 PORT.13: (2): the phy is opening
  opens_on : b.step ≡ 2 → (choose_core p r true b now).port ≡ put p b.phy 2 b.slot 0 0 now
  unfolding choose_core chosen
  opens_on e = rw (due, e)

  -- 01 PORT.16: Open carries the wait since the first open, 0 at the first, and the request's PBC
  open_carries : b.step ≡ 2 → is_set r.first ≡ true → ((choose_core p r true b now).answer.frame.awt.0 ≡ wait_of (now - r.first.at)) × ((choose_core p r true b now).answer.frame.pbc ≡ r.pbc)
  unfolding choose_core chosen
  open_carries e set = (rw (due, e, set), rw (due, e))

  first_carries : b.step ≡ 2 → is_set r.first ≡ false → (choose_core p r true b now).answer.frame.awt.0 ≡ 0
  unfolding choose_core chosen
  first_carries e unset = let same : now - now ≡ 0 = omega arith in rw (due, e, unset) (ap wait_of same)

  -- 01 PORT.16: the request keeps the time of its first open, which is this one if there was none
  first_kept : b.step ≡ 2 → is_set r.first ≡ true → (choose_core p r true b now).entry.first ≡ r.first
  unfolding choose_core chosen
  first_kept e set = rw (due, e, set)

  first_now : b.step ≡ 2 → is_set r.first ≡ false → (choose_core p r true b now).entry.first ≡ record { set = 1; at = now }
  unfolding choose_core chosen
  first_now e unset = rw (due, e, unset)

  -- 01 PORT.13: (3): the phy closes and names none
  closes_on : b.step ≡ 3 → (choose_core p r true b now).port ≡ put p b.phy 5 32 (phy_at p b.phy).protocol (phy_at p b.phy).destination now
  unfolding choose_core chosen
  closes_on e = rw (due, e)

-- a call about a phy of the port, at a time that isn't past
module _ (p : Port) (r : Request) (x : Confirmed) (own : ltb x.phy p.count ≡ true) (due : ltb x.now p.last ≡ false) where
  abbrev phy : Phy
  phy = phy_at p x.phy

  -- 01 PORT.17: Opened: connected to the request's destination and protocol, with the frame out
  joins : is_opening phy ≡ true → is_cancelled r ≡ false → (opened_core p r true x).port ≡ put p x.phy 4 phy.slot r.head.protocol r.head.destination x.now
  unfolding opened_core
  joins opening wanted = rw (own, due, opening, wanted)

  -- 01 PORT.17: it is said of this phy and its request
  opened_names : is_opening phy ≡ true → Names (opened_core p r true x).answer x.phy phy.slot r.head
  unfolding opened_core
  opened_names opening = (rw (own, due, opening), (rw (own, due, opening), rw (own, due, opening)))

  -- 01 PORT.23: or closing, with none
  joins_closing : is_opening phy ≡ true → is_cancelled r ≡ true → ((opened_core p r true x).port ≡ put p x.phy 5 phy.slot r.head.protocol r.head.destination x.now) × ((opened_core p r true x).answer.word ≡ Ok Close)
  unfolding opened_core
  joins_closing opening gone = (rw (own, due, opening, gone), rw (own, due, opening, gone))

  -- 01 PORT.24: Opened stops a running timer
  stops : is_opening phy ≡ true → is_ssp r.head ≡ true → r.loss.set ≡ 1 → (opened_core p r true x).loss ≡ Some (record { destination = r.head.destination; timer = no_stamp })
  unfolding opened_core
  stops opening ssp runs = rw (own, due, opening, ssp, runs)

  -- 01 PORT.21: Closed: the phy is free, and its request's connection is lost
  frees : is_joined phy ≡ true → (closed_core p r true x).port ≡ put p x.phy 1 32 0 0 x.now
  unfolding closed_core
  frees joined = rw (own, due, joined)

  -- 01 PORT.21: its request ends as connection lost
  loses : is_joined phy ≡ true → names phy ≡ true → is_cancelled r ≡ false → (closed_core p r true x).answer.word ≡ Ok ConnectionLost
  unfolding closed_core
  loses joined named wanted = rw (own, due, joined, named, wanted)

  -- 01 PORT.21: it is said of this phy and its request
  closed_names : is_joined phy ≡ true → Names (closed_core p r true x).answer x.phy phy.slot r.head
  unfolding closed_core
  closed_names joined = (rw (own, due, joined), (rw (own, due, joined), rw (own, due, joined)))

  enables : is_disabled phy ≡ true → (enable_core p r true x).port ≡ put p x.phy 1 32 0 0 x.now
  unfolding enable_core
  enables off = rw (own, due, off)

  disables : is_disabled phy ≡ false → (disable_core p r true x).port ≡ put p x.phy 0 32 0 0 x.now
  unfolding disable_core
  disables on = rw (own, due, on)

  -- 01 PORT.22: the request of a disabled phy waits again, with wait and PBC kept
  waits_again : is_disabled phy ≡ false → names phy ≡ true → is_cancelled r ≡ false
      → let d = disable_core p r true x in (d.answer.word ≡ Ok Waiting) × ((d.entry.stage ≡ 1) × ((d.entry.pbc ≡ r.pbc) × ((d.entry.awt ≡ r.awt) × ((d.entry.first ≡ r.first) × (d.entry.retry ≡ r.retry)))))
  unfolding disable_core
  waits_again on named wanted =
      (rw (own, due, on, named, wanted), (rw (own, due, on, wanted), (rw (own, due, on, wanted), (rw (own, due, on, wanted), (rw (own, due, on, wanted), rw (own, due, on, wanted))))))

  disabled_names : is_disabled phy ≡ false → Names (disable_core p r true x).answer x.phy phy.slot r.head
  unfolding disable_core
  disabled_names on = (rw (own, due, on), (rw (own, due, on), rw (own, due, on)))

-- 01 PORT.18: Open Failed: the phy is free
fails_free : (p : Port) (r : Request) (x : Failure) → is_listed (reason_of x.why) ≡ true → ltb x.phy p.count ≡ true → ltb x.now p.last ≡ false → is_opening (phy_at p x.phy) ≡ true → (open_failed_core p r true x).port ≡ put p x.phy 1 32 0 0 x.now
unfolding open_failed_core
fails_free p r x listed own due opening = rw (listed, own, due, opening)

-- 01 PORT.18: it is said of this phy and its request
failed_names : (p : Port) (r : Request) (x : Failure) → is_listed (reason_of x.why) ≡ true → ltb x.phy p.count ≡ true → ltb x.now p.last ≡ false → is_opening (phy_at p x.phy) ≡ true → Names (open_failed_core p r true x).answer x.phy (phy_at p x.phy).slot r.head
unfolding open_failed_core
failed_names p r x listed own due opening = (rw (listed, own, due, opening), (rw (listed, own, due, opening), rw (listed, own, due, opening)))

-- a frame's status, of a phy of the port with a frame out, at a time that isn't past
module _ (p : Port) (r : Request) (x : Report) (own : ltb x.phy p.count ≡ true) (due : ltb x.now p.last ≡ false) where
  -- 01 PORT.20: the byte is handed on, and the phy is idle
  status_idle : (phy_at p x.phy).stage ≡ 4 → is_cancelled r ≡ false → ((frame_status_core p r true x).answer.word ≡ Ok (Status x.status)) × ((frame_status_core p r true x).port ≡ put p x.phy 3 32 (phy_at p x.phy).protocol (phy_at p x.phy).destination x.now)
  unfolding frame_status_core
  status_idle out wanted = (rw (own, due, out, wanted), rw (own, due, out))

  -- 01 PORT.20: a closing one stays closing
  status_closing : (phy_at p x.phy).stage ≡ 6 → (frame_status_core p r true x).port ≡ put p x.phy 5 32 (phy_at p x.phy).protocol (phy_at p x.phy).destination x.now
  unfolding frame_status_core
  status_closing out = rw (own, due, out)

  -- 01 PORT.20: it is said of this phy and its request
  status_names : has_frame_out (phy_at p x.phy) ≡ true → Names (frame_status_core p r true x).answer x.phy (phy_at p x.phy).slot r.head
  unfolding frame_status_core
  status_names out = (rw (own, due, out), (rw (own, due, out), rw (own, due, out)))

-- Cancel of a request in progress, found at slot s
module _ (p : Port) (r : Request) (s : ℕ) (x : Withdrawn) (listed : ltb x.key.protocol 3 ≡ true) (due : ltb x.now p.last ≡ false) (found : leb 32 s ≡ false) (wanted : is_cancelled r ≡ false) (busy : is_waiting r ≡ false) where
  -- 01 PORT.23: it is said of the request, and of the phy that it is on
  cancel_names : Names (cancel_core p r true s x).answer r.phy s r.head
  unfolding cancel_core cancelled
  cancel_names = (rw (listed, due, found, wanted, busy), (rw (listed, due, found, wanted, busy), rw (listed, due, found, wanted, busy)))

  -- 01 PORT.23: Stop Arb while opening
  stops_arb : (phy_at p r.phy).stage ≡ 2 → (cancel_core p r true s x).answer.word ≡ Ok StopArb
  unfolding cancel_core cancelled
  stops_arb opening = rw (listed, due, found, wanted, busy, opening)

  -- 01 PORT.23: Close while connected, with the frame out
  closes_sending : (phy_at p r.phy).stage ≡ 4 → ((cancel_core p r true s x).answer.word ≡ Ok Close) × ((cancel_core p r true s x).port ≡ put p r.phy 6 (phy_at p r.phy).slot (phy_at p r.phy).protocol (phy_at p r.phy).destination x.now)
  unfolding cancel_core cancelled
  closes_sending out = (rw (listed, due, found, wanted, busy, out), rw (listed, due, found, wanted, busy, out))
