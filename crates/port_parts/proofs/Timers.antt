-- A running timer that no reason stops stays as it is, whatever the table of starting reasons says: it is started only if it
-- isn't set. Assumes nothing.
use Prim.Native.Nat.{ℕ}
use mathlib.Core.Path.{◌≡◌, refl}
use mathlib.Core.Bool.{Bool, true, false, not, cond, ◌&&◌}
use Rattle.laws.proofs.Bools.{never}
use Rattle.port_parts.specs.Parts.{no_stamp, stamped, is_set}
use Rattle.port_parts.specs.Timer.{timer_by}
use Rattle.port_parts.specs.declared.Stamp.{Stamp}
use Rattle.port_parts.specs.declared.Reason.{Reason}

module _ (stops starts : Reason → Bool) (why : Reason) (t : Stamp) (now : ℕ) where
  -- 01 TRAP.3: restarting a running loss timer
  pub runs_on : stops why ≡ false → is_set t ≡ true → timer_by (stops why) (starts why) t now ≡ t
  runs_on stays set = λ i. cond (stays i) no_stamp (by (starts why) (is_set t) set i)
    where
      by : (s u : Bool) → u ≡ true → cond (s && not u) (stamped now) t ≡ t
      by true true e = refl
      by false true e = refl
      by s false e = absurd (never e)
