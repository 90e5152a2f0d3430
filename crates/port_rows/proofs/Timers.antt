-- A running loss timer stays as it is where the reason of an Open Failed doesn't stop it: that timer is what goes to the destination's
-- requests. Assumes nothing.
use Rattle.std.specs.Prelude.{Some, None}
use Prim.Native.Nat.{ℕ}
use mathlib.Core.Bool.{Bool, true, false, not, cond, ◌&&◌}
use mathlib.Core.Path.{◌≡◌, refl, ap}
use lib.Dec.{eqb}
use borrow.Author.Tests.{eq-eqb}
use Rattle.port_parts.specs.Parts.{is_set, is_ssp}
use Rattle.port_parts.specs.Reasons.{is_starting, is_stopping}
use Rattle.port_parts.specs.declared.Reason.{Reason}
use Rattle.port_parts.specs.declared.Request.{Request}
use Rattle.port_parts.specs.declared.Stamp.{Stamp}
use Rattle.port_parts.proofs.Timers.{runs_on}
use Rattle.port_rows.specs.Answers.{loss_by}
use Rattle.port_rows.specs.Calls.{timer_after}

-- a timer that is as it was doesn't change
unmoved : (ssp : Bool) (was t : Stamp) → t ≡ was → ssp && not (eqb was.set t.set) ≡ false
unmoved true was t same = rw (same, eq-eqb was.set was.set refl)
unmoved false was t same = refl

module _ (r : Request) (why : Reason) (now : ℕ) (ssp : is_ssp r.head ≡ true) (running : is_set r.loss ≡ true) (going : is_stopping why ≡ false) where
  -- 01 TRAP.3
  pub timer_stays : timer_after r why now ≡ r.loss
  timer_stays = rw ssp (runs_on is_stopping is_starting why r.loss now going running)

  pub unchanged_by : loss_by r (timer_after r why now) ≡ None
  unchanged_by = ap (λ (t : Bool). cond t (Some (record { destination = r.head.destination; timer = timer_after r why now })) None) (unmoved (is_ssp r.head) r.loss (timer_after r why now) timer_stays)
