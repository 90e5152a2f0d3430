-- A started state lies on frames: k frames end at the balance point, f more at the read offset, each place cut off at the end of the
-- request. The test of a state says so, since a place on the grid is a whole number of frames behind B. Assumes nothing.
use Prim.Native.Nat.{ℕ, zero, suc, ◌+◌, ◌-◌, ◌*◌, ◌/◌, ◌%◌, ◌≤◌, ◌<◌, min}
use mathlib.Core.Bool.{Bool, true, false}
use mathlib.Core.Logic.{◌⊎◌, inl, inr, ⊎_elim}
use mathlib.Core.Path.{◌≡◌, refl, sym, ap, subst, subst⁻¹, ◌∙◌}
use native.Mathlib.Omega.{arith}
use native.Mathlib.Nat.{div-add-mod', div-mul-le_self, lt-div-mul-add, div-eq_of_lt-le, le_of_mul-le-mul_right, mul-mod_left}
use lib.Dec.{eqb}
use borrow.Author.Tests.{eqb-true, eqb-false}
use Rattle.transfer.specs.Rules.{end_of, unstarted, frames, frames_out, keeps_rules}
use Rattle.transfer.specs.Grounds.{InRange}
use Rattle.transfer.specs.declared.Transfer.{Transfer}
use Rattle.transfer.proofs.Facts.{OnGrid, Placed, PhaseRule, Started, rules_say}

-- over the numbers alone, so that a change of the other fields leaves it as it is
pub record Base (b n m r read balance used k f : ℕ) : Type 0 where
  pub setup : InRange b n m r
  pub balance_is : balance ≡ min (b + k * m) (b + n)
  pub read_is : read ≡ min (b + (k + f) * m) (b + n)
  pub real : (k + f) * m < n + m
  pub tried : used ≤ r

abbrev pub BaseOf : Transfer → ℕ → ℕ → Type 0
BaseOf s k f = Base s.offset s.count s.size s.resends s.read s.balance s.used k f

-- a started state, by its frames
pub record Live (bound : ℕ) (s : Transfer) : Type 0 where
  pub k : ℕ
  pub f : ℕ
  pub base : BaseOf s k f
  pub rule : PhaseRule bound (end_of s) f s.phase s

-- as many frames as hold x bytes: they reach x, and one fewer do not
pub frames_is : (x m j : ℕ) → 1 ≤ m → x ≤ j * m → j * m < x + m → frames x m ≡ j
frames_is x m j pos reach less = div-eq_of_lt-le {k = j} m {m = x + (m - 1)} (omega arith) (omega arith)

pub frames_reach : (x m : ℕ) → 1 ≤ m → x ≤ frames x m * m
frames_reach x m pos = let up : x + (m - 1) < frames x m * m + m = lt-div-mul-add (omega arith) in omega arith

pub frames_less : (x m : ℕ) → 1 ≤ m → frames x m * m < x + m
frames_less x m pos = let down : frames x m * m ≤ x + (m - 1) = div-mul-le_self (x + (m - 1)) m in omega arith

-- j frames from b, or the end, is on the grid
grid : (s : Transfer) (x j : ℕ) → x ≡ min (s.offset + j * s.size) (end_of s) → OnGrid (end_of s) s x
grid s x j e = go (eqb x (end_of s)) refl
  where
    go : (t : Bool) → eqb x (end_of s) ≡ t → OnGrid (end_of s) s x
    go true t = inl (eqb-true x (end_of s) t)
    go false t =
        let ne = eqb-false x (end_of s) t in
        let d : x - s.offset ≡ j * s.size = omega arith in
        inr (ap (λ (y : ℕ). y % s.size) d ∙ mul-mod_left j s.size)

module _ (s : Transfer) (k f : ℕ) (h : BaseOf s k f) where
  four : 4 ≤ s.size
  four = h.setup.1.1.1.0

  pub base_placed : Placed (end_of s) s
  base_placed =
      let a = h.balance_is in
      let c = h.read_is in
      ((h.setup, (omega arith, (omega arith, (omega arith, h.tried)))), (grid s s.balance k a, grid s s.read (k + f) c))

  pub base_frames : frames_out s ≡ f
  base_frames =
      let a = h.balance_is in
      let c = h.read_is in
      let d = h.real in
      let m = four in
      frames_is (s.read - s.balance) s.size f (omega arith) (omega arith) (less f refl)
    where
      less : (g : ℕ) → g ≡ f → f * s.size < s.read - s.balance + s.size
      less zero e = let z : f * s.size ≡ 0 * s.size = ap (λ (y : ℕ). y * s.size) (sym e) in let m = four in omega arith
      less (suc g) e =
          let z : f * s.size ≡ suc g * s.size = ap (λ (y : ℕ). y * s.size) (sym e) in
          let a = h.balance_is in
          let c = h.read_is in
          let d = h.real in
          let m = four in
          omega arith

-- x, whole frames behind b, by how many
whole : (b m x : ℕ) → b ≤ x → (x - b) % m ≡ 0 → x ≡ b + (x - b) / m * m
whole b m x l e = let d = div-add-mod' (x - b) m in omega arith

pub record Found (s : Transfer) : Type 0 where
  pub k : ℕ
  pub f : ℕ
  pub base : BaseOf s k f

module _ (s : Transfer) (p : Placed (end_of s) s) where
  range : InRange s.offset s.count s.size s.resends
  range = p.0.0

  first : s.offset ≤ s.balance
  first = p.0.1.0

  order : s.balance ≤ s.read
  order = p.0.1.1.0

  last : s.read ≤ end_of s
  last = p.0.1.1.1.0

  some : 4 ≤ s.size
  some = range.1.1.1.0

  -- the balance point at the end
  all : s.balance ≡ end_of s → Found s
  all e =
      let k : ℕ = frames s.count s.size in
      let m = some in
      let o = order in
      let l = last in
      let up : s.count ≤ k * s.size = frames_reach s.count s.size (omega arith) in
      let down : k * s.size < s.count + s.size = frames_less s.count s.size (omega arith) in
      record {
        k = k;
        f = 0;
        base = record { setup = range; balance_is = omega arith; read_is = omega arith; real = omega arith; tried = p.0.1.1.1.1 };
      }

  -- the read offset at the end, j frames behind the balance point
  rest : (k : ℕ) → s.balance ≡ s.offset + k * s.size → s.read ≡ end_of s → Found s
  rest k e r =
      let f : ℕ = frames (s.count - k * s.size) s.size in
      let m = some in
      let o = order in
      let up : s.count - k * s.size ≤ f * s.size = frames_reach (s.count - k * s.size) s.size (omega arith) in
      let down : f * s.size < s.count - k * s.size + s.size = frames_less (s.count - k * s.size) s.size (omega arith) in
      record {
        k = k;
        f = f;
        base = record { setup = range; balance_is = omega arith; read_is = omega arith; real = omega arith; tried = p.0.1.1.1.1 };
      }

  -- both before the end
  within : (k : ℕ) → s.balance ≡ s.offset + k * s.size → (s.read - s.offset) % s.size ≡ 0 → Found s
  within k e z =
      let j : ℕ = (s.read - s.offset) / s.size in
      let m = some in
      let a = first in
      let o = order in
      let l = last in
      let r : s.read ≡ s.offset + j * s.size = whole s.offset s.size s.read (omega arith) z in
      let c : k ≤ j = le_of_mul-le-mul_right {k = s.size} (omega arith) (omega arith) in
      let q : (k + (j - k)) * s.size ≡ j * s.size = ap (λ (y : ℕ). y * s.size) (omega arith) in
      record {
        k = k;
        f = j - k;
        base = record { setup = range; balance_is = omega arith; read_is = omega arith; real = omega arith; tried = p.0.1.1.1.1 };
      }

  pub found : Found s
  found =
      ⊎_elim all
      (λ g. let e = whole s.offset s.size s.balance first g in
      ⊎_elim (rest ((s.balance - s.offset) / s.size) e) (within ((s.balance - s.offset) / s.size) e) p.1.1)
      p.1.0

-- the test, by frames
abbrev pub Good : ℕ → Transfer → Type 0
Good bound s = (s ≡ unstarted) ⊎ Live bound s

module _ (bound : ℕ) (s : Transfer) where
  pub rules_good : keeps_rules bound s ≡ true → Good bound s
  rules_good e = ⊎_elim (λ z. inl z) (λ (h : Started bound s). inr (live h (found s h.0))) ((rules_say bound s).0 e)
    where
      live : Started bound s → Found s → Live bound s
      live h w =
          record {
            k = w.k;
            f = w.f;
            base = w.base;
            rule = subst (λ (d : ℕ). PhaseRule bound (end_of s) d s.phase s) (base_frames s w.k w.f w.base) h.1;
          }

  pub good_rules : Good bound s → keeps_rules bound s ≡ true
  good_rules g = (rules_say bound s).1 (⊎_elim (λ z. inl z) (λ (w : Live bound s). inr (started w)) g)
    where
      started : Live bound s → Started bound s
      started w = (
        base_placed s w.k w.f w.base,
        subst⁻¹ (λ (d : ℕ). PhaseRule bound (end_of s) d s.phase s) (base_frames s w.k w.f w.base) w.rule,
      )
