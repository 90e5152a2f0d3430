-- A set of tags, read off its lowest digit and its half: what a union has, which tag is the lowest free one, and that a tag which is out is
-- added by a sum and counted once more. Assumes nothing.
use Prim.Native.Nat.{ℕ, zero, suc, ◌+◌, ◌-◌, ◌*◌, ◌/◌, ◌%◌, ◌^◌, ◌≤◌, ◌<◌, max}
use mathlib.Core.Path.{◌≡◌, refl, sym, ap, subst, ◌∙◌}
use mathlib.Core.Logic.{◌⊎◌, inl, inr, ◌↔◌}
use native.Mathlib.Nat.{pow-suc, not-suc-le-zero}
use native.Mathlib.Omega.{arith}
use lib.Bits.{bit_or, bit_and, or_step, or_shr, or_lt, or_disjoint, and_step, and_mask}
use lib.Count.{ones, ones_step, count_trailing_zeros, under}
use lib.Pow.{pow-lt, suc_ones, shr-shr, shl_exact}
use Rattle.laws.specs.Tags.{digit, has, lowest}
use Rattle.laws.specs.Tests.{Says}
use Rattle.laws.proofs.Tests.{equal, below_or_not}

-- the digits behind the lowest are those of the half
pub digit_suc : (n t : ℕ) → digit n (suc t) ≡ digit (n / 2) t
digit_suc n t =
    let one : suc t ≡ 1 + t = omega arith in
    ap (λ (x : ℕ). n / 2 ^ x % 2) one ∙ ap (λ (x : ℕ). x % 2) (sym (shr-shr n 1 t))

-- by halves: a set of k+1 tags, and a set of k tags
pub half_small : (k n : ℕ) → n < 2 ^ suc k → n / 2 < 2 ^ k
half_small k n h = omega (arith, pow-suc 2 k, h)

-- a digit of a number is one of its half, where the half is m
pub by_half : (n m t : ℕ) → n / 2 ≡ m → digit n (suc t) ≡ digit m t
by_half n m t e = digit_suc n t ∙ ap (λ (x : ℕ). digit x t) e

-- a tag is in a set or out of it
pub in_or_out : (n t : ℕ) → (digit n t ≡ 1) ⊎ (digit n t ≡ 0)
in_or_out n t = by (digit n t) refl
  where
    by : (d : ℕ) → digit n t ≡ d → (digit n t ≡ 1) ⊎ (digit n t ≡ 0)
    by zero e = inr e
    by (suc zero) e = inl e
    by (suc (suc d)) e = absurd (omega (arith, e))

pub has_says : (n t : ℕ) → Says (has n t) (digit n t ≡ 1)
has_says n t = equal (digit n t) 1

-- a set that has one is not 0
pub digit_zero : (t : ℕ) → digit 0 t ≡ 0
digit_zero zero = refl
digit_zero (suc t) = digit_suc 0 t ∙ digit_zero t

pub some_in : (n t : ℕ) → digit n t ≡ 1 → n ≡ 0 → ⊥
some_in n t e z = let none : digit n t ≡ 0 = ap (λ (x : ℕ). digit x t) z ∙ digit_zero t in omega (arith, e, none)

-- a tag that is in and one that is out are two
pub apart : (n t u : ℕ) → digit n t ≡ 0 → digit n u ≡ 1 → t ≡ u → ⊥
apart n t u out own e = let same : digit n t ≡ digit n u = ap (digit n) e in omega (arith, out, own, same)

-- the tags of a set of k are below k
pub member_less : (k n t : ℕ) → n < 2 ^ k → digit n t ≡ 1 → t < k
member_less zero n t small e = absurd (some_in n t e (omega (arith, small)))
member_less (suc k) n zero small e = omega arith
member_less (suc k) n (suc t) small e = let less = member_less k (n / 2) t (half_small k n small) (sym (digit_suc n t) ∙ e) in omega (arith, less)

-- a union's digit is the larger
or_low : (a b : ℕ) → bit_or a b % 2 ≡ max (a % 2) (b % 2)
or_low a b = omega (arith, or_step a b)

pub or_digit : (a b t : ℕ) → digit (bit_or a b) t ≡ max (digit a t) (digit b t)
or_digit a b t = ap (λ (x : ℕ). x % 2) (or_shr a b t) ∙ or_low (a / 2 ^ t) (b / 2 ^ t)

-- so a tag is out of it exactly if it is out of both, and in it if it is in either
pub or_out : (a b t : ℕ) → (digit (bit_or a b) t ≡ 0) ↔ ((digit a t ≡ 0) × (digit b t ≡ 0))
or_out a b t =
    let both = or_digit a b t in
    (λ e. (omega (arith, both, e), omega (arith, both, e)), λ e. let left = e.0 in let right = e.1 in omega (arith, both, left, right))

pub or_in : (a b t : ℕ) → (digit (bit_or a b) t ≡ 1) ↔ ((digit a t ≡ 1) ⊎ (digit b t ≡ 1))
or_in a b t = (to (in_or_out a t), from)
  where
    to : (digit a t ≡ 1) ⊎ (digit a t ≡ 0) → digit (bit_or a b) t ≡ 1 → (digit a t ≡ 1) ⊎ (digit b t ≡ 1)
    to (inl own) e = inl own
    to (inr out) e = let both = or_digit a b t in inr (omega (arith, both, out, e))

    from : (digit a t ≡ 1) ⊎ (digit b t ≡ 1) → digit (bit_or a b) t ≡ 1
    from (inl own) = let both = or_digit a b t in let most : digit b t ≤ 1 = omega arith in omega (arith, both, own, most)
    from (inr own) = let both = or_digit a b t in let most : digit a t ≤ 1 = omega arith in omega (arith, both, own, most)

-- what is out of a set is in its complement
rest_half : (k n : ℕ) → n < 2 ^ suc k → (2 ^ suc k - 1 - n) / 2 ≡ 2 ^ k - 1 - n / 2
rest_half k n h = omega (arith, pow-suc 2 k, h)

rest_low : (k n : ℕ) → n < 2 ^ suc k → (2 ^ suc k - 1 - n) % 2 ≡ 1 - n % 2
rest_low k n h = omega (arith, pow-suc 2 k, h)

-- z is the lowest of k tags that is out of n, k where all are in
pub record Lowest (k n z : ℕ) : Type 0 where
  pub most : z ≤ k
  pub out : z < k → digit n z ≡ 0
  pub below : (t : ℕ) → t < z → digit n t ≡ 1

below_suc : (n z : ℕ) → n % 2 ≡ 1 → ((t : ℕ) → t < z → digit (n / 2) t ≡ 1) → (t : ℕ) → t < suc z → digit n t ≡ 1
below_suc n z e f zero l = omega (arith, e)
below_suc n z e f (suc t) l = digit_suc n t ∙ f t (omega (arith, l))

pub lowest_free : (k n : ℕ) → n < 2 ^ k → Lowest k n (lowest k n)
unfolding count_trailing_zeros
lowest_free zero n h = record { most = omega arith; out = λ l. absurd (not-suc-le-zero l); below = λ t l. absurd (not-suc-le-zero l) }
lowest_free (suc k) n h =
    let is : lowest (suc k) n ≡ under (1 - n % 2) (lowest k (n / 2)) = λ i. under (rest_low k n h i) (count_trailing_zeros k (rest_half k n h i)) in
    subst (λ (z : ℕ). Lowest (suc k) n z) (sym is) (by (n % 2) refl (lowest_free k (n / 2) (half_small k n h)))
  where
    by : (d : ℕ) → n % 2 ≡ d → Lowest k (n / 2) (lowest k (n / 2)) → Lowest (suc k) n (under (1 - d) (lowest k (n / 2)))
    by zero e f = record { most = omega arith; out = λ l. omega (arith, e); below = λ t l. absurd (not-suc-le-zero l) }
    by (suc zero) e f = record {
      most = omega (arith, f.most);
      out = λ l. digit_suc n (lowest k (n / 2)) ∙ f.out (omega (arith, l));
      below = below_suc n (lowest k (n / 2)) e f.below;
    }
    by (suc (suc d)) e f = absurd (omega (arith, e))

module _ (k n : ℕ) (small : n < 2 ^ k) where
  free : Lowest k n (lowest k n)
  free = lowest_free k n small

  -- where one is free the lowest is
  pub lowest_less : (t : ℕ) → t < k → digit n t ≡ 0 → lowest k n < k
  lowest_less t less out = by (below_or_not (lowest k n) k)
    where
      by : (lowest k n < k) ⊎ (k ≤ lowest k n) → lowest k n < k
      by (inl l) = l
      by (inr l) = let own = free.below t (omega (arith, l, less)) in absurd (omega (arith, own, out))

  -- none is free exactly if all are in
  pub lowest_full : (k ≤ lowest k n) ↔ ((t : ℕ) → t < k → digit n t ≡ 1)
  lowest_full = (λ l t less. free.below t (omega (arith, l, less)), λ all. by all (below_or_not (lowest k n) k))
    where
      by : ((t : ℕ) → t < k → digit n t ≡ 1) → (lowest k n < k) ⊎ (k ≤ lowest k n) → k ≤ lowest k n
      by all (inl l) = let out = free.out l in let own = all (lowest k n) l in absurd (omega (arith, out, own))
      by all (inr l) = l

  -- a tag that is out, with all below it in, is the lowest free
  pub lowest_is : (t : ℕ) → t < k → digit n t ≡ 0 → ((u : ℕ) → u < t → digit n u ≡ 1) → lowest k n ≡ t
  lowest_is t less out low = by (below_or_not (lowest k n) t) (below_or_not t (lowest k n))
    where
      by : (lowest k n < t) ⊎ (t ≤ lowest k n) → (t < lowest k n) ⊎ (lowest k n ≤ t) → lowest k n ≡ t
      by (inl l) _ = let a = free.out (omega (arith, l, less)) in let b = low (lowest k n) l in absurd (omega (arith, a, b))
      by (inr g) (inl l) = let a = free.below t l in absurd (omega (arith, a, out))
      by (inr g) (inr l) = omega (arith, g, l)

-- a tag that is out is added by a sum: its digit is one then, the others' are unchanged, and the set counts one more
pub record Added (n t : ℕ) : Type 0 where
  pub here : digit (n + 2 ^ t) t ≡ 1
  pub there : (u : ℕ) → (u ≡ t → ⊥) → digit (n + 2 ^ t) u ≡ digit n u
  pub count : ones (n + 2 ^ t) ≡ suc (ones n)

add_half : (n t : ℕ) → (n + 2 ^ suc t) / 2 ≡ n / 2 + 2 ^ t
add_half n t = omega (arith, pow-suc 2 t)

add_low : (n t : ℕ) → (n + 2 ^ suc t) % 2 ≡ n % 2
add_low n t = omega (arith, pow-suc 2 t)

pub added : (n t : ℕ) → digit n t ≡ 0 → Added n t
added n zero e =
    let even : n % 2 ≡ 0 = omega (arith, e) in
    let half : (n + 1) / 2 ≡ n / 2 = omega (arith, even) in
    let odd : (n + 1) % 2 ≡ 1 = omega (arith, even) in
    let step = ones_step (n + 1) in
    let back = ones_step n in
    let rest : ones ((n + 1) / 2) ≡ ones (n / 2) = ap ones half in
    record { here = omega (arith, odd); there = other half; count = omega (arith, step, back, rest, even, odd) }
  where
    other : (n + 1) / 2 ≡ n / 2 → (u : ℕ) → (u ≡ 0 → ⊥) → digit (n + 1) u ≡ digit n u
    other half zero ne = absurd (ne refl)
    other half (suc u) ne = by_half (n + 1) (n / 2) u half ∙ sym (digit_suc n u)
added n (suc t) e =
    let a = added (n / 2) t (sym (digit_suc n t) ∙ e) in
    let half = add_half n t in
    let same = add_low n t in
    let step = ones_step (n + 2 ^ suc t) in
    let back = ones_step n in
    let more : ones ((n + 2 ^ suc t) / 2) ≡ suc (ones (n / 2)) = ap ones half ∙ a.count in
    record {
      here = by_half (n + 2 ^ suc t) (n / 2 + 2 ^ t) t half ∙ a.here;
      there = other half same a;
      count = omega (arith, step, back, more, same);
    }
  where
    other : (n + 2 ^ suc t) / 2 ≡ n / 2 + 2 ^ t → (n + 2 ^ suc t) % 2 ≡ n % 2 → Added (n / 2) t
        → (u : ℕ) → (u ≡ suc t → ⊥) → digit (n + 2 ^ suc t) u ≡ digit n u
    other half same a zero ne = omega (arith, same)
    other half same a (suc u) ne = by_half (n + 2 ^ suc t) (n / 2 + 2 ^ t) u half ∙ a.there u (λ e. ne (ap suc e)) ∙ sym (digit_suc n u)

-- a tag that is out has no digit in common with the set
and_none : (n t : ℕ) → digit n t ≡ 0 → bit_and n (2 ^ t) ≡ 0
and_none n zero e = and_mask n 1 ∙ (omega (arith, e))
and_none n (suc t) e =
    let half : 2 ^ suc t / 2 ≡ 2 ^ t = omega (arith, pow-suc 2 t) in
    let low : 2 ^ suc t % 2 ≡ 0 = omega (arith, pow-suc 2 t) in
    let rest : bit_and (n / 2) (2 ^ suc t / 2) ≡ 0 = ap (bit_and (n / 2)) half ∙ and_none (n / 2) t (sym (digit_suc n t) ∙ e) in
    let step = and_step n (2 ^ suc t) in
    omega (arith, step, rest, low)

-- so the union is that sum, and stays a set of k tags
pub or_adds : (n t : ℕ) → digit n t ≡ 0 → bit_or n (2 ^ t) ≡ n + 2 ^ t
or_adds n t e = or_disjoint n (2 ^ t) (and_none n t e)

pub sum_small : (k n t : ℕ) → n < 2 ^ k → t < k → digit n t ≡ 0 → n + 2 ^ t < 2 ^ k
sum_small k n t small less e = subst (λ (x : ℕ). x < 2 ^ k) (or_adds n t e) (or_lt k n (2 ^ t) small (pow-lt {i = t} {j = k} less))

-- the machine's shift of w bits, and its union with one tag
pub shifted : (w t : ℕ) → t < w → (1 * 2 ^ t) % 2 ^ w ≡ 2 ^ t
shifted w t h = shl_exact 1 t w (omega arith) (omega (arith, h)) ∙ (omega arith)

pub or_shifted_adds : (w n t : ℕ) → t < w → digit n t ≡ 0 → bit_or n ((1 * 2 ^ t) % 2 ^ w) ≡ n + 2 ^ t
or_shifted_adds w n t h e = ap (bit_or n) (shifted w t h) ∙ or_adds n t e

-- one tag alone is that tag added to none
to_none : (t : ℕ) → 2 ^ t ≡ 0 + 2 ^ t
to_none t = omega arith

pub one_own : (t : ℕ) → digit (2 ^ t) t ≡ 1
one_own t = ap (λ (x : ℕ). digit x t) (to_none t) ∙ (added 0 t (digit_zero t)).here

pub one_other : (t u : ℕ) → (u ≡ t → ⊥) → digit (2 ^ t) u ≡ 0
one_other t u ne = ap (λ (x : ℕ). digit x u) (to_none t) ∙ (added 0 t (digit_zero t)).there u ne ∙ digit_zero u

pub ones_one : (t : ℕ) → ones (2 ^ t) ≡ 1
unfolding ones
ones_one t = ap ones (to_none t) ∙ (added 0 t (digit_zero t)).count

-- all tags below t
all_half : (t : ℕ) → (2 ^ suc t - 1) / 2 ≡ 2 ^ t - 1
all_half t = omega (arith, pow-suc 2 t)

pub all_in : (t u : ℕ) → u < t → digit (2 ^ t - 1) u ≡ 1
all_in zero u l = absurd (not-suc-le-zero l)
all_in (suc t) zero l = omega (arith, pow-suc 2 t, suc_ones t)
all_in (suc t) (suc u) l = by_half (2 ^ suc t - 1) (2 ^ t - 1) u (all_half t) ∙ all_in t u (omega (arith, l))

pub all_out : (t : ℕ) → digit (2 ^ t - 1) t ≡ 0
all_out zero = refl
all_out (suc t) = by_half (2 ^ suc t - 1) (2 ^ t - 1) t (all_half t) ∙ all_out t

pub all_small : (k t : ℕ) → t < k → 2 ^ t - 1 < 2 ^ k
all_small k t l = let less = pow-lt {i = t} {j = k} l in omega (arith, less)
