-- The three sets of the phys from k on are those behind k with phy k before them, as each of the three is; behind the first phy
-- seven are left, which fill seven bits. Assumes nothing.
use mathlib.Core.Path.{◌≡◌, sym, ◌∙◌, ap}
use mathlib.Core.Bool.{Bool, true, false, ◌&&◌}
use mathlib.Core.List.{List}
use Prim.Native.Nat.{ℕ, ◌-◌, ◌≤◌, ◌<◌}
use native.Mathlib.Omega.{arith}
use lib.Count.{ones, count_trailing_zeros}
use lib.Dec.{ltb, eqb}
use lib.ListN.{length, drop, get_or}
use borrow.Author.Tests.{lt-ltb, le-ltb}
use Rattle.laws.proofs.Sets.{bits_none, bits_down, bits_rest, trailing, counted, first_le}
use Rattle.laws.specs.Sets.{bits_of, first_of, count_of}
use Rattle.open_frame.specs.declared.Head.{Head}
use Rattle.port_parts.specs.Choice.{for_send, for_open, for_close, free_sets, joined_of, some, way_for}
use Rattle.port_parts.specs.declared.Phy.{Phy}
use Rattle.port_parts.specs.declared.Sets.{Sets}
use Rattle.port_parts.specs.declared.Request.{Request}
use Rattle.port_parts.specs.declared.Way.{Way}

module _ (ps : List Phy) (h : Head) where
  pub sets_none : (k : ℕ) → length ps ≤ k → record { sends = 0; opens = 0; closes = 0 } ≡ free_sets (drop k ps) h
  sets_none k over = λ i. record { sends = sym (bits_none (for_send h) ps k over) i; opens = sym (bits_none for_open ps k over) i; closes = sym (bits_none (for_close h) ps k over) i }

  pub sets_down : (d : Phy) (k : ℕ) → 0 < k → k ≤ length ps → joined_of (free_sets (drop k ps) h) (get_or ps (k - 1) d) h ≡ free_sets (drop (k - 1) ps) h
  sets_down d k p l = λ i. record { sends = sym (bits_down (for_send h) ps d k p l) i; opens = sym (bits_down for_open ps d k p l) i; closes = sym (bits_down (for_close h) ps d k p l) i }

  pub sets_small : (k : ℕ) → length ps ≡ 8 → 0 < k → (s : Sets) → s ≡ free_sets (drop k ps) h → (s.sends < 128) × ((s.opens < 128) × (s.closes < 128))
  sets_small k n p s e = rw e (bits_rest (for_send h) ps k 7 n p, (bits_rest for_open ps k 7 n p, bits_rest (for_close h) ps k 7 n p))

-- a set of eight phys as a number: its trailing zeros are the lowest phy, its ones tell whether there is one
module _ (f : Phy → Bool) (ps : List Phy) (eight : length ps ≡ 8) (n : ℕ) (is : n ≡ bits_of f ps) where
  pub lowest : count_trailing_zeros 8 n ≡ first_of f ps
  lowest = ap (λ (w : ℕ). count_trailing_zeros w n) (sym eight) ∙ ap (count_trailing_zeros (length ps)) is ∙ trailing f ps

  pub fits : count_trailing_zeros 8 n ≤ 8
  fits = rw lowest (omega (arith, first_le f ps))

  pub there : 0 < ones n → some f ps ≡ true
  there h = lt-ltb 0 (count_of f ps) (omega (arith, ap ones is ∙ counted f ps))

  pub not_there : ones n ≤ 0 → some f ps ≡ false
  not_there h = le-ltb 0 (count_of f ps) (omega (arith, ap ones is ∙ counted f ps))

-- the four ways out of `way_for`
module _ (ps : List Phy) (r : Request) (eight : length ps ≡ 8) (s : Sets) (is : s ≡ free_sets ps r.head) where
  sends_is : s.sends ≡ bits_of (for_send r.head) ps
  sends_is = ap (λ (t : Sets). t.sends) is

  opens_is : s.opens ≡ bits_of for_open ps
  opens_is = ap (λ (t : Sets). t.opens) is

  closes_is : s.closes ≡ bits_of (for_close r.head) ps
  closes_is = ap (λ (t : Sets). t.closes) is

  pub low_fits : (count_trailing_zeros 8 s.sends ≤ 8) × ((count_trailing_zeros 8 s.opens ≤ 8) × (count_trailing_zeros 8 s.closes ≤ 8))
  low_fits = (fits (for_send r.head) ps eight s.sends sends_is, (fits for_open ps eight s.opens opens_is, fits (for_close r.head) ps eight s.closes closes_is))

  abbrev way : ℕ → ℕ → Way
  way step phy = record { step = step; phy = phy }

  pub by_send : 0 < ones s.sends → way 1 (count_trailing_zeros 8 s.sends) ≡ way_for ps r
  unfolding way_for
  by_send h = rw (there (for_send r.head) ps eight s.sends sends_is h, lowest (for_send r.head) ps eight s.sends sends_is)

  module _ (h : ones s.sends ≤ 0) where
    pub by_open : 0 < ones s.opens → way 2 (count_trailing_zeros 8 s.opens) ≡ way_for ps r
    unfolding way_for
    by_open k = rw (not_there (for_send r.head) ps eight s.sends sends_is h, there for_open ps eight s.opens opens_is k, lowest for_open ps eight s.opens opens_is)

    module _ (k : ones s.opens ≤ 0) where
      third : eqb r.closed 0 && ltb 0 (ones s.closes) ≡ eqb r.closed 0 && some (for_close r.head) ps
      third = ap (λ (n : ℕ). eqb r.closed 0 && ltb 0 n) (ap ones closes_is ∙ counted (for_close r.head) ps)

      pub by_close : eqb r.closed 0 && ltb 0 (ones s.closes) ≡ true → way 3 (count_trailing_zeros 8 s.closes) ≡ way_for ps r
      unfolding way_for
      by_close e = rw (not_there (for_send r.head) ps eight s.sends sends_is h, not_there for_open ps eight s.opens opens_is k, sym third ∙ e, lowest (for_close r.head) ps eight s.closes closes_is)

      pub by_none : eqb r.closed 0 && ltb 0 (ones s.closes) ≡ false → way 0 0 ≡ way_for ps r
      unfolding way_for
      by_none e = rw (not_there (for_send r.head) ps eight s.sends sends_is h, not_there for_open ps eight s.opens opens_is k, sym third ∙ e)
