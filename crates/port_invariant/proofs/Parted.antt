-- A phy's calls that leave it with no request: enable, disable, Closed and the frame status. The phy names none afterwards, and the
-- request that it named, if any, is gone or waits. Assumes nothing.
use Rattle.port_invariant.proofs.Spreads.{none_changes}
use Rattle.std.specs.Prelude.{Option, Some}
use Prim.Native.Nat.{ℕ, ◌≤◌, ◌<◌}
use mathlib.Core.Path.{◌≡◌, refl, subst}
use mathlib.Core.Bool.{true, false, cond}
use mathlib.Core.Logic.{inl}
use mathlib.Core.List.{List}
use native.Mathlib.Omega.{arith}
use lib.ListN.{length, get_or}
use borrow.Author.Tests.{eqb-false}
use Rattle.laws.proofs.Bools.{never, by_test}
use Rattle.port_parts.specs.Parts.{disabled_phy, blank, is_sending}
use Rattle.port_parts.specs.declared.Phy.{Phy}
use Rattle.port_parts.specs.declared.Port.{Port}
use Rattle.port_parts.specs.declared.Request.{Request}
use Rattle.port_rules.specs.Kept.{PhyKept, Present, Kept}
use Rattle.port_rows.specs.Answers.{with_phy, unconnected_phy, staged_phy, no_loss}
use Rattle.port_rows.specs.Changed.{placed}
use Rattle.port_rows.specs.Calls.{phy_at, is_cancelled, framed, closed_done, disabled_done}
use Rattle.port_rows.specs.declared.Answer.{Answer}
use Rattle.port_rows.specs.declared.Confirmed.{Confirmed}
use Rattle.port_rows.specs.declared.Loss.{Loss}
use Rattle.port.specs.Calls.{left_of, on_phy}
use Rattle.port_invariant.proofs.Changes.{stored, Entered, changed}
use Rattle.port_invariant.proofs.Enters.{free_enters, same_enters}
use Rattle.port_invariant.proofs.Holds.{Dated, old_retry, old_first, old_loss, present_as, rests_kept, no_need, in_port, phy_kept, on_it, its_present, names_none}
use Rattle.port_invariant.proofs.Ways.{enabled_by}
use Rattle.port_invariant.proofs.Links.{On, part}

-- a request that isn't cancelled waits again
pub waits_present : (r : Request) (last now : ℕ) → last ≤ now → is_cancelled r ≡ false → Present r last → Present (placed r 1 0) now
waits_present r last now on kept was =
    present_as r last now on was (placed r 1 0) refl refl (omega arith) was.flags.cancelled (λ e. absurd (eqb-false r.cancelled 1 kept e)) was.flags.closed (old_retry r last now on was) (old_first r last now on was) (old_loss r last now on was)
    was.loss

module _ (p : Port) (l : List Request) (size : length l ≡ 32) (eight : length p.phys ≡ 8) (was : Kept p l) (k now : ℕ) (low : k < p.count) (on : p.last ≤ now) where
  abbrev f : Phy
  f = phy_at p k

  abbrev r : Request
  r = on_phy l p k

  abbrev x : Confirmed
  x = record { phy = k; now = now }

  -- the phy becomes g, which names none, and its request becomes e
  pub parted : (g : Phy) → PhyKept p.count g k → (g.slot < 32 → ⊥) → (a : Answer) → f.slot ≡ a.slot → (e : Request) → (e.stage ≡ 2 → ⊥) → (x : Option Loss) → ((y : Loss) → x ≡ Some y → Dated now y.timer)
      → (a.slot < 32 → Entered p l a.slot e x now) → (q : Port) → Kept (with_phy p k g now) (left_of l (stored q a e x))
  parted g kept still a same e rests x timer entered q =
      changed p l size eight was k g a e x now (record {
        number = in_port p l was k low;
        time = on;
        timer = timer;
        phy = kept;
        linked = part f g k (get_or l a.slot blank) e a.slot same still (λ h. subst (λ (n : ℕ). On (get_or l n blank) k) same (on_it p l was k low (omega arith))) rests;
        entered = entered;
      }) q

  -- ... with every timer as it was, and its request gone
  emptied : (g : Phy) → PhyKept p.count g k → (g.slot < 32 → ⊥) → (a : Answer) → f.slot ≡ a.slot → (q : Port) → Kept (with_phy p k g now) (left_of l (stored q a blank no_loss))
  emptied g kept still a same q = parted g kept still a same blank (λ e. absurd (omega arith)) no_loss (λ y e. none_changes e) (λ h. free_enters p l a.slot no_loss now) q

  pub unconnected_kept : PhyKept p.count unconnected_phy k
  unconnected_kept = rests_kept p.count unconnected_phy k low (omega arith) (omega arith) refl (no_need unconnected_phy 1 refl (λ e. omega arith) (λ e. omega arith) (λ e. omega arith))

  off_kept : PhyKept p.count disabled_phy k
  off_kept = rests_kept p.count disabled_phy k low (omega arith) (omega arith) refl (no_need disabled_phy 0 refl (λ e. omega arith) (λ e. omega arith) (λ e. omega arith))

  staged_kept : (n : ℕ) → n ≤ 6 → (n ≡ 2 → ⊥) → (n ≡ 4 → ⊥) → (n ≡ 6 → ⊥) → PhyKept p.count (staged_phy n 32 f) k
  staged_kept n most a b c = rests_kept p.count (staged_phy n 32 f) k low most (phy_kept p l was k low).protocol refl (no_need (staged_phy n 32 f) n refl a b c)

  pub enable_keeps : f.stage ≡ 0 → Kept (with_phy p k unconnected_phy now) (left_of l (enabled_by p r x))
  enable_keeps disabled =
      let none = names_none p l was k (in_port p l was k low) 0 disabled (inl (omega arith)) in
      emptied unconnected_phy unconnected_kept (λ h. omega arith) (enabled_by p r x).answer (at_end none (phy_kept p l was k low).slot) (with_phy p k unconnected_phy now)
    where
      at_end : (f.slot < 32 → ⊥) → f.slot ≤ 32 → f.slot ≡ 32
      at_end none most = omega arith

  pub status_keeps : (byte : ℕ) → let d = framed p f r (record { phy = k; status = byte; now = now }) in Kept d.port (left_of l d)
  status_keeps byte =
      let d = framed p f r (record { phy = k; status = byte; now = now }) in
      emptied (staged_phy (cond (is_sending f) 3 5) 32 f) (by_test (λ (n : ℕ). PhyKept p.count (staged_phy n 32 f) k) (is_sending f) (λ e. idle) (λ e. closing)) (λ h. omega arith) d.answer refl d.port
    where
      idle : PhyKept p.count (staged_phy 3 32 f) k
      idle = staged_kept 3 (omega arith) (λ d. omega arith) (λ d. omega arith) (λ d. omega arith)

      closing : PhyKept p.count (staged_phy 5 32 f) k
      closing = staged_kept 5 (omega arith) (λ d. omega arith) (λ d. omega arith) (λ d. omega arith)

  pub closed_keeps : Kept (closed_done p f r x).port (left_of l (closed_done p f r x))
  closed_keeps = emptied unconnected_phy unconnected_kept (λ h. omega arith) (closed_done p f r x).answer refl (closed_done p f r x).port

  pub disable_keeps : Kept (disabled_done p f r x).port (left_of l (disabled_done p f r x))
  disable_keeps =
      parted disabled_phy off_kept (λ h. omega arith) (disabled_done p f r x).answer refl (cond (is_cancelled r) blank (placed r 1 0))
      (by_test (λ (e : Request). e.stage ≡ 2 → ⊥) (is_cancelled r) (λ t e. omega arith) (λ t e. omega arith)) no_loss (λ y e. none_changes e)
      (λ h. by_test (λ (e : Request). Entered p l f.slot e no_loss now) (is_cancelled r) (λ t. free_enters p l f.slot no_loss now) (λ t. waits h t)) (disabled_done p f r x).port
    where
      waits : f.slot < 32 → is_cancelled r ≡ false → Entered p l f.slot (placed r 1 0) no_loss now
      waits h t =
          same_enters p l was f.slot h (λ free. let busy = (on_it p l was k low h).0 in omega arith) (placed r 1 0) now refl refl
          (waits_present r p.last now on t (its_present p l was k low h))
