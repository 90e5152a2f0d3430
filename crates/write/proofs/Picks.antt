-- The tag that an XFER_RDY gets is out of each of the sets that it avoids, since it is out of their union; and there is none exactly if each tag
-- is in one of them. Assumes nothing.
use Prim.Native.Nat.{ℕ, ◌-◌, ◌^◌, ◌≤◌, ◌<◌}
use mathlib.Core.Path.{◌≡◌}
use mathlib.Core.Logic.{◌⊎◌, inl, inr, ⊎_elim, ◌↔◌}
use mathlib.Core.Bool.{◌&&◌}
use lib.Bits.{bit_or, or_lt}
use lib.Dec.{eqb}
use borrow.Author.Tests.{eq-eqb}
use lib.Pow.{pow_pos, pow-lt}
use Rattle.laws.specs.Tags.{digit}
use Rattle.laws.proofs.Bools.{by_test}
use Rattle.laws.proofs.Tags.{digit_zero, or_out, or_in, lowest_free, lowest_full, lowest_less, lowest_is, one_other, all_in, all_out, all_small}
use Rattle.write.specs.Steps.{previous, avoided, free}
use Rattle.write.specs.Grounds.{NoneFree}
use Rattle.write.specs.declared.Write.{Write}

-- none went before the first byte with no tag in use
pub previous_none : (s : Write) → s.next ≡ s.offset → s.tags ≡ 0 → previous s ≡ 0
previous_none s at none = rw (eq-eqb s.next s.offset at, eq-eqb s.tags 0 none)

-- no tag but the last one's is the previous
pub previous_other : (s : Write) (t : ℕ) → (t ≡ s.tag → ⊥) → digit (previous s) t ≡ 0
previous_other s t ne =
    by_test (λ (n : ℕ). digit n t ≡ 0) (eqb s.next s.offset && eqb s.tags 0) (λ e. digit_zero t) (λ e. one_other s.tag t ne)

-- tag t is in none of the sets that an XFER_RDY avoids
pub record Free (port t : ℕ) (s : Write) : Type 0 where
  pub others : digit port t ≡ 0
  pub own : digit s.tags t ≡ 0
  pub last : digit (previous s) t ≡ 0

pub free_out : (others t : ℕ) (s : Write) → (digit (avoided others s) t ≡ 0) ↔ Free others t s
free_out others t s = (
  λ e. let two = (or_out (bit_or others s.tags) (previous s) t).0 e in
      let one = (or_out others s.tags t).0 two.0 in
      record { others = one.0; own = one.1; last = two.1 },
  λ f. (or_out (bit_or others s.tags) (previous s) t).1 ((or_out others s.tags t).1 (f.others, f.own), f.last),
)

module _ (k others : ℕ) (s : Write) (typed : others < 2 ^ k) (small : s.tags < 2 ^ k) (less : s.tag < k) where
  pub previous_small : previous s < 2 ^ k
  previous_small =
      by_test (λ (n : ℕ). n < 2 ^ k) (eqb s.next s.offset && eqb s.tags 0) (λ e. pow_pos k) (λ e. pow-lt {i = s.tag} {j = k} less)

  pub avoided_small : avoided others s < 2 ^ k
  avoided_small = or_lt k (bit_or others s.tags) (previous s) (or_lt k others s.tags typed small) previous_small

  -- the tag that is picked
  pub picked : free k others s < k → Free others (free k others s) s
  picked l = (free_out others (free k others s) s).0 ((lowest_free k (avoided others s) avoided_small).out l)

  -- one is, where some tag is free
  pub some_free : (t : ℕ) → t < k → Free others t s → free k others s < k
  some_free t l f = lowest_less k (avoided others s) avoided_small t l ((free_out others t s).1 f)

  -- and none exactly where none is
  pub none_free : (k ≤ free k others s) ↔ NoneFree k others s
  none_free = (λ l t m. parts t (full.0 l t m), λ all. full.1 (λ t m. join t (all t m)))
    where
      full : (k ≤ free k others s) ↔ ((t : ℕ) → t < k → digit (avoided others s) t ≡ 1)
      full = lowest_full k (avoided others s) avoided_small

      parts : (t : ℕ) → digit (avoided others s) t ≡ 1 → (digit others t ≡ 1) ⊎ ((digit s.tags t ≡ 1) ⊎ (digit (previous s) t ≡ 1))
      parts t e =
          ⊎_elim (λ two. ⊎_elim (λ o. inl o) (λ o. inr (inl o)) ((or_in others s.tags t).0 two)) (λ p. inr (inr p))
          ((or_in (bit_or others s.tags) (previous s) t).0 e)

      join : (t : ℕ) → (digit others t ≡ 1) ⊎ ((digit s.tags t ≡ 1) ⊎ (digit (previous s) t ≡ 1)) → digit (avoided others s) t ≡ 1
      join t (inl o) = (or_in (bit_or others s.tags) (previous s) t).1 (inl ((or_in others s.tags t).1 (inl o)))
      join t (inr (inl o)) = (or_in (bit_or others s.tags) (previous s) t).1 (inl ((or_in others s.tags t).1 (inr o)))
      join t (inr (inr o)) = (or_in (bit_or others s.tags) (previous s) t).1 (inr o)

-- with all tags below it lent as others', any tag that is neither the write's own nor the previous is picked
pub picks : (k t : ℕ) (s : Write) → s.tags < 2 ^ k → s.tag < k → t < k → digit s.tags t ≡ 0 → digit (previous s) t ≡ 0
    → free k (2 ^ t - 1) s ≡ t
picks k t s small less under own last =
    lowest_is k (avoided (2 ^ t - 1) s) (avoided_small k (2 ^ t - 1) s (all_small k t under) small less) t under
    ((free_out (2 ^ t - 1) t s).1 (record { others = all_out t; own = own; last = last }))
    (λ u l. (or_in (bit_or (2 ^ t - 1) s.tags) (previous s) u).1 (inl ((or_in (2 ^ t - 1) s.tags u).1 (inl (all_in t u l)))))
