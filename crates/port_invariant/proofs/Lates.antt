-- A call that changes no phy is a change of a phy to what it is, so the same law serves it. Assumes nothing.
use Rattle.port_invariant.proofs.Spreads.{none_changes}
use Prim.Native.Nat.{ℕ, ◌≤◌, ◌<◌}
use mathlib.Core.Path.{◌≡◌, subst}
use mathlib.Core.List.{List}
use native.Mathlib.Omega.{arith}
use lib.ListN.{length, get_or}
use lib.Seq.{set-get_or}
use Rattle.laws.proofs.Bools.{never}
use Rattle.port_parts.specs.Parts.{absent_phy, blank}
use Rattle.port_parts.specs.declared.Phy.{Phy}
use Rattle.port_parts.specs.declared.Port.{Port}
use Rattle.port_parts.specs.declared.Request.{Request}
use Rattle.port_rules.specs.Kept.{Kept}
use Rattle.port_rows.specs.Answers.{later, no_loss}
use Rattle.port_rows.specs.Calls.{phy_at}
use Rattle.port_rows.specs.declared.Answer.{Answer}
use Rattle.port.specs.Calls.{left_of}
use Rattle.port_invariant.proofs.Changes.{stored, Entered, changed}
use Rattle.port_invariant.proofs.Links.{aside}

module _ (p : Port) (l : List Request) (size : length l ≡ 32) (eight : length p.phys ≡ 8) (was : Kept p l) where
  pub waits_on : (a : Answer) (e : Request) (now : ℕ) → p.last ≤ now → (a.slot < 32 → (get_or l a.slot blank).stage ≡ 2 → ⊥) → (e.stage ≡ 2 → ⊥) → (a.slot < 32 → Entered p l a.slot e no_loss now) → (q : Port)
      → Kept (later p now) (left_of l (stored q a e no_loss))
  waits_on a e now on waits rests entered q =
      subst (λ (ps : List Phy). Kept (record { count = p.count; loss = p.loss; last = now; phys = ps }) (left_of l (stored q a e no_loss))) (set-get_or p.phys 0 absent_phy)
      (changed p l size eight was 0 (phy_at p 0) a e no_loss now (record {
        number = omega arith;
        time = on;
        timer = λ y c. none_changes c;
        phy = was.phys 0 (omega arith);
        linked = aside (phy_at p 0) 0 (get_or l a.slot blank) e a.slot waits rests (λ h. (was.requests a.slot h).paired.each 0 (omega arith));
        entered = entered;
      }) q)
