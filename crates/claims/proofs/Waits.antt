-- Demand 2, wait values: what `wait_value` answers, in other words than its formula, since its promise determines the answer.
-- Assumes nothing.
use Prim.Native.Nat.{ℕ, ◌+◌, ◌≤◌, ◌<◌}
use mathlib.Core.Logic.{◌↔◌}
use mathlib.Core.Path.{◌≡◌, ap, sym, ◌∙◌, subst⁻¹}
use native.Mathlib.Omega.{arith}
use Rattle.open_frame.specs.Wait.{wait_of}
use Rattle.open_frame.proofs.Wait.{itself, first, thousand, grows, top}
use Rattle.claims.proofs.Calls.{WaitValue, FaceWaitValue}

-- the microseconds of a call, and the value that it answers
abbrev elapsed : WaitValue → ℕ
elapsed c = c.args.0

abbrev value : WaitValue → ℕ
value c = c.answer.0

-- 01 OPEN.7
pub record Waits : Type 0 where
  -- e below 32,768;
  pub itself : (c : WaitValue) → elapsed c < 32768 → value c ≡ elapsed c
  -- from there 32,768
  pub first : (c : WaitValue) → 32768 ≤ elapsed c → elapsed c < 33768 → value c ≡ 32768
  -- plus the whole thousands in e - 32,768: one more for each thousand more
  pub thousand : (c d : WaitValue) → 32768 ≤ elapsed c → value c < 65535 → elapsed d ≡ elapsed c + 1000 → value d ≡ value c + 1
  -- at most 65,535: exactly from 32,799,768 on
  pub top : (c : WaitValue) → (value c ≡ 65535) ↔ (32799768 ≤ elapsed c)
  -- and a longer wait never has a smaller value
  pub grows : (c d : WaitValue) → elapsed c ≤ elapsed d → value c ≤ value d
  -- C is answered the same number
  pub from_c : (c : WaitValue) (d : FaceWaitValue) → d.args.0 ≡ elapsed c → d.answer ≡ value c

-- by the promise
is : (c : WaitValue) → value c ≡ wait_of (elapsed c)
is c = λ i. (c.met i).0

pub waits : Waits
waits = record {
  itself = λ c h. is c ∙ itself (elapsed c) h;
  first = λ c h l. is c ∙ first (elapsed c) h l;
  thousand = λ c d h l e.
      is d
      ∙ ap wait_of e
      ∙ thousand (elapsed c) h (subst⁻¹ (λ (n : ℕ). n < 65535) (sym (is c)) l)
      ∙ ap (λ (n : ℕ). n + 1) (sym (is c));
  top = λ c. subst⁻¹ (λ (n : ℕ). (n ≡ 65535) ↔ (32799768 ≤ elapsed c)) (is c) (top (elapsed c));
  from_c = λ c d e. d.met ∙ ap wait_of e ∙ sym (is c);
  grows = λ c d h. let g = grows (elapsed c) (elapsed d) h in omega (arith, is c, is d);
}
