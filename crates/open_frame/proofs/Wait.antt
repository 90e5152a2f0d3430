-- The wait value in other words than its formula: each is shown on both sides of 32,768. Assumes nothing.
use mathlib.Core.Path.{◌≡◌}
use mathlib.Core.Logic.{◌⊎◌, inl, inr, ⊎_elim, ◌↔◌}
use Prim.Native.Nat.{ℕ, ◌+◌, ◌-◌, ◌/◌, ◌<◌, ◌≤◌, min}
use native.Mathlib.Omega.{arith}
use borrow.Author.Tests.{lt-ltb, le-ltb}
use Rattle.laws.proofs.Tests.{below_or_not}
use Rattle.open_frame.specs.Wait.{wait_of}

-- the two sides
pub short : (e : ℕ) → e < 32768 → e ≡ wait_of e
short e h = simp (lt-ltb e 32768 h)

pub long : (e : ℕ) → 32768 ≤ e → min (32768 + (e - 32768) / 1000) 65535 ≡ wait_of e
long e h = simp (le-ltb e 32768 h)

-- 01 OPEN.7: e below 32,768
pub itself : (e : ℕ) → e < 32768 → wait_of e ≡ e
itself e h = omega (arith, short e (omega arith))

-- 01 OPEN.7: from there 32,768
pub first : (e : ℕ) → 32768 ≤ e → e < 33768 → wait_of e ≡ 32768
first e h l = omega (arith, long e (omega arith))

-- 01 OPEN.7: plus the whole thousands: one more for each thousand more
pub thousand : (e : ℕ) → 32768 ≤ e → wait_of e < 65535 → wait_of (e + 1000) ≡ wait_of e + 1
thousand e h l = omega (arith, long e (omega arith), long (e + 1000) (omega arith))

-- 01 OPEN.7: at most 65,535, exactly from 32,799,768 on
pub top : (e : ℕ) → (wait_of e ≡ 65535) ↔ (32799768 ≤ e)
top e = ⊎_elim (λ h. (λ is. absurd (omega (arith, short e h)), λ l. absurd (omega arith))) (λ h. (λ is. omega (arith, long e h), λ l. omega (arith, long e h))) (below_or_not e 32768)

-- a longer wait never has a smaller value
pub grows : (e d : ℕ) → e ≤ d → wait_of e ≤ wait_of d
grows e d l = by (below_or_not e 32768) (below_or_not d 32768)
  where
    by : (e < 32768) ⊎ (32768 ≤ e) → (d < 32768) ⊎ (32768 ≤ d) → wait_of e ≤ wait_of d
    by (inl p) (inl q) = omega (arith, short e p, short d q)
    by (inl p) (inr q) = omega (arith, short e p, long d q)
    by (inr p) (inl q) = absurd (omega arith)
    by (inr p) (inr q) = omega (arith, long e p, long d q)
