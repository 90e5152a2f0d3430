-- A set of tags and how many it has: one that counts some has a member, one that counts fewer than k a tag to spare, and with any member a set
-- may have any number of them. Assumes nothing.
use Prim.Native.Nat.{ℕ, zero, suc, ◌+◌, ◌-◌, ◌*◌, ◌/◌, ◌%◌, ◌^◌, ◌≤◌, ◌<◌}
use mathlib.Core.Path.{◌≡◌, refl, sym, ap, ◌∙◌}
use native.Mathlib.Nat.{pow-suc, not-suc-le-zero}
use native.Mathlib.Omega.{arith}
use lib.Count.{ones, ones_step}
use lib.Pow.{pow-lt}
use Rattle.laws.specs.Tags.{digit}
use Rattle.laws.proofs.Tags.{digit_suc, by_half, half_small, apart, added, sum_small, one_own, ones_one}

-- a set with t in it is one without t, and t
pub record Without (n t : ℕ) : Type 0 where
  pub rest : ℕ
  pub is : n ≡ rest + 2 ^ t
  pub out : digit rest t ≡ 0

pub without : (n t : ℕ) → digit n t ≡ 1 → Without n t
without n zero e = record { rest = n - 1; is = omega (arith, e); out = omega (arith, e) }
without n (suc t) e =
    let w = without (n / 2) t (sym (digit_suc n t) ∙ e) in
    let m = w.rest * 2 + n % 2 in
    record { rest = m; is = omega (arith, w.is, pow-suc 2 t); out = by_half m w.rest t (omega arith) ∙ w.out }

-- it counts one fewer, and is a set of k tags if that is
module _ (n t : ℕ) (w : Without n t) where
  pub rest_count : ones n ≡ suc (ones w.rest)
  rest_count = ap ones w.is ∙ (added w.rest t w.out).count

  pub rest_small : (k : ℕ) → n < 2 ^ k → w.rest < 2 ^ k
  rest_small k small = let is = w.is in omega (arith, is, small)

-- a set that has one counts it
pub some_count : (n t : ℕ) → digit n t ≡ 1 → 1 ≤ ones n
some_count n t own = let count = rest_count n t (without n t own) in omega (arith, count)

-- of k tags, one whose digit is d
pub record Tag (k n d : ℕ) : Type 0 where
  pub tag : ℕ
  pub less : tag < k
  pub is : digit n tag ≡ d

tag_suc : (k n d : ℕ) → Tag k (n / 2) d → Tag (suc k) n d
tag_suc k n d t = record { tag = suc t.tag; less = omega (arith, t.less); is = digit_suc n t.tag ∙ t.is }

-- a set that counts some has a member
pub member : (k n : ℕ) → n < 2 ^ k → 1 ≤ ones n → Tag k n 1
unfolding ones
member zero n small e =
    let zeros : n ≡ 0 = omega (arith, small) in
    let none : ones n ≡ 0 = ap ones zeros in
    absurd (omega (arith, none, e))
member (suc k) n small e = by (n % 2) refl (member k (n / 2) (half_small k n small))
  where
    by : (d : ℕ) → n % 2 ≡ d → (1 ≤ ones (n / 2) → Tag k (n / 2) 1) → Tag (suc k) n 1
    by zero even more = let step = ones_step n in tag_suc k n 1 (more (omega (arith, step, even, e)))
    by (suc zero) odd more = record { tag = zero; less = omega arith; is = omega (arith, odd) }
    by (suc (suc d)) q more = absurd (omega (arith, q))

-- a set of fewer than k has a free one
pub spare : (k n : ℕ) → ones n < k → Tag k n 0
spare zero n e = absurd (not-suc-le-zero e)
spare (suc k) n e = by (n % 2) refl (spare k (n / 2))
  where
    by : (d : ℕ) → n % 2 ≡ d → (ones (n / 2) < k → Tag k (n / 2) 0) → Tag (suc k) n 0
    by zero even more = record { tag = zero; less = omega arith; is = omega (arith, even) }
    by (suc zero) odd more = let step = ones_step n in tag_suc k n 0 (more (omega (arith, step, odd, e)))
    by (suc (suc d)) q more = absurd (omega (arith, q))

-- an empty one is 0
pub empty : (k n : ℕ) → n < 2 ^ k → ones n ≡ 0 → n ≡ 0
empty zero n small e = omega (arith, small)
empty (suc k) n small e =
    let step = ones_step n in
    let half = empty k (n / 2) (half_small k n small) (omega (arith, step, e)) in
    omega (arith, half, step, e)

-- a set of one tag is that tag alone
pub alone : (k n t : ℕ) → n < 2 ^ k → digit n t ≡ 1 → ones n ≡ 1 → n ≡ 2 ^ t
alone k n t small own one =
    let w = without n t own in
    let count = rest_count n t w in
    let none = empty k w.rest (rest_small n t w k small) (omega (arith, count, one)) in
    w.is ∙ (omega (arith, none))

-- with t in it, a set of as many as one likes, up to k
pub record Set (k t c : ℕ) : Type 0 where
  pub set : ℕ
  pub small : set < 2 ^ k
  pub own : digit set t ≡ 1
  pub count : ones set ≡ suc c

pub set_of : (k t c : ℕ) → t < k → c < k → Set k t c
set_of k t zero less few = record { set = 2 ^ t; small = pow-lt {i = t} {j = k} less; own = one_own t; count = ones_one t }
set_of k t (suc c) less few =
    let s = set_of k t c less (omega (arith, few)) in
    let count = s.count in
    let f = spare k s.set (omega (arith, count, few)) in
    let a = added s.set f.tag f.is in
    record {
      set = s.set + 2 ^ f.tag;
      small = sum_small k s.set f.tag s.small f.less f.is;
      own = a.there t (λ e. apart s.set f.tag t f.is s.own (sym e)) ∙ s.own;
      count = a.count ∙ ap suc count;
    }
