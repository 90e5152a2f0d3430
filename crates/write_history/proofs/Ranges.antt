-- Where a byte lies among the ranges: q whole ranges behind B, and less than one more, which decides q. Assumes nothing.
use Prim.Native.Nat.{ℕ, ◌+◌, ◌-◌, ◌*◌, ◌/◌, ◌≤◌, ◌<◌}
use mathlib.Core.Path.{◌≡◌, ap}
use native.Mathlib.Nat.{div-mul-le_self, lt-div-mul-add, div-eq_of_lt-le, le-div_iff_mul-le}
use native.Mathlib.Omega.{arith}
use Rattle.write.specs.Rules.{end_of, range_of}
use Rattle.write.specs.declared.Write.{Write}
use Rattle.write_history.specs.Demand.{ranges}

-- of the setup of s, the byte x lies behind q ranges and before the end of the next
pub record Lies (s : Write) (x q : ℕ) : Type 0 where
  pub least : s.offset + q * s.burst ≤ x
  pub most : x < s.offset + q * s.burst + s.burst

module _ (s : Write) (wide : 4 ≤ s.burst) where
  pub lies : (x : ℕ) → s.offset ≤ x → Lies s x ((x - s.offset) / s.burst)
  lies x l =
      let low = div-mul-le_self (x - s.offset) s.burst in
      let high = lt-div-mul-add {a = x - s.offset} {b = s.burst} (omega arith) in
      record { least = omega arith; most = omega arith }

  pub quotient : (x q : ℕ) → Lies s x q → (x - s.offset) / s.burst ≡ q
  quotient x q w =
      let low = w.least in
      let high = w.most in
      let from : q * s.burst ≤ x - s.offset = omega arith in
      let to : x - s.offset < (q + 1) * s.burst = omega arith in
      div-eq_of_lt-le s.burst from to

  -- the present range begins there
  pub range_is : (q : ℕ) → Lies s s.next q → range_of s ≡ s.offset + q * s.burst
  range_is q w = ap (λ (p : ℕ). s.offset + p * s.burst) (quotient s.next q w)

  -- so many ranges begin before the end
  pub begins : (q : ℕ) → Lies s s.next q → s.next < end_of s → q + 1 ≤ ranges s.count s.burst
  begins q w short =
      let low = w.least in
      let most : (q + 1) * s.burst ≤ s.count + (s.burst - 1) = omega arith in
      (le-div_iff_mul-le {k = s.burst} {x = q + 1} {y = s.count + (s.burst - 1)} (omega arith)).1 most
