-- The edges of the port's times, each computed on both sides: 15 microseconds behind a retry, and the loss time in milliseconds. Assumes
-- nothing.
use Prim.Native.Nat.{ℕ}
use mathlib.Core.Bool.{true, false}
use mathlib.Core.Path.{◌≡◌, refl}
use Rattle.port_parts.specs.Choice.{is_ready}
use Rattle.port_parts.specs.Timer.{is_lost}
use Rattle.port_parts.specs.declared.Request.{Request}

-- a request that waits, retried at a time
abbrev retried_at : Request → ℕ → Request
retried_at r t =
    record { stage = 1; phy = 0; cancelled = 0; closed = 0; pbc = r.pbc; awt = r.awt; head = r.head; submitted = r.submitted; retry = record { set = 1; at = t }; first = r.first; loss = r.loss }

-- 01 PORT.12: a retried one only 15 or more microseconds after its retry
rests_15 : (r : Request) → (is_ready (retried_at r 100) 114 ≡ false) × (is_ready (retried_at r 100) 115 ≡ true)
rests_15 r = (refl, refl)

-- 01 PORT.25: at or past loss time, 3 ms from microsecond 5 on
lost_at_3_ms : (is_lost (record { set = 1; at = 5 }) 3 3004 ≡ false) × (is_lost (record { set = 1; at = 5 }) 3 3005 ≡ true)
lost_at_3_ms = (refl, refl)
