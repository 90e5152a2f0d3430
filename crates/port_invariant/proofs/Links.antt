-- A request in progress and its phy name each other after a change, in each way in which a call changes the two: both name what they
-- named, they join, or they part. Assumes nothing.
use Prim.Native.Nat.{ℕ, ◌<◌}
use mathlib.Core.Path.{◌≡◌, sym, ◌∙◌}
use mathlib.Core.Logic.{◌↔◌}
use native.Mathlib.Omega.{arith}
use Rattle.port_parts.specs.declared.Phy.{Phy}
use Rattle.port_parts.specs.declared.Request.{Request}

-- the request is in progress on phy k
abbrev pub On : Request → ℕ → Type 0
On r k = (r.stage ≡ 2) × (r.phy ≡ k)

-- the new record e at slot i against phy k, and against the others as the old record r
pub record Entry (g : Phy) (k : ℕ) (r e : Request) (i : ℕ) : Type 0 where
  pub pair : (g.slot ≡ i) ↔ On e k
  pub elsewhere : (j : ℕ) → (j ≡ k → ⊥) → On e j ↔ On r j
  pub below : e.stage ≡ 2 → e.phy < 8

-- phy k becomes g, which was f, and slot i, where it is one, becomes e, which was r
pub record Linked (f g : Phy) (k : ℕ) (r e : Request) (i : ℕ) : Type 0 where
  pub others : (j : ℕ) → j < 32 → (j ≡ i → ⊥) → (g.slot ≡ j) ↔ (f.slot ≡ j)
  pub entry : i < 32 → Entry g k r e i

module _ (f g : Phy) (k : ℕ) (r e : Request) (i : ℕ) where
  -- both name what they named
  pub stay : g.slot ≡ f.slot → e.stage ≡ r.stage → e.phy ≡ r.phy → (r.stage ≡ 2 → r.phy < 8) → (f.slot ≡ i) ↔ On r k → Linked f g k r e i
  stay slot stage phy below was =
      record {
        others = λ j h n. (λ a. sym slot ∙ a, λ a. slot ∙ a);
        entry = λ h.
            record {
              pair = (λ a. let on = was.0 (sym slot ∙ a) in (stage ∙ on.0, phy ∙ on.1), λ on. slot ∙ was.1 (sym stage ∙ on.0, sym phy ∙ on.1));
              elsewhere = λ j n. (λ on. (sym stage ∙ on.0, sym phy ∙ on.1), λ on. (stage ∙ on.0, phy ∙ on.1));
              below = λ a. let b = below (sym stage ∙ a) in omega (arith, phy);
            };
      }

  -- neither names another, before or after
  pub alone : (f.slot < 32 → ⊥) → (g.slot < 32 → ⊥) → (r.stage ≡ 2 → ⊥) → (e.stage ≡ 2 → ⊥) → Linked f g k r e i
  alone free still waits rests =
      record {
        others = λ j h n. (λ a. absurd (still (omega arith)), λ a. absurd (free (omega arith)));
        entry = λ h. record { pair = (λ a. absurd (still (omega arith)), λ on. absurd (rests on.0)); elsewhere = λ j n. (λ on. absurd (rests on.0), λ on. absurd (waits on.0)); below = λ a. absurd (rests a) };
      }

  -- they join
  pub join : (f.slot < 32 → ⊥) → g.slot ≡ i → (r.stage ≡ 2 → ⊥) → e.stage ≡ 2 → e.phy ≡ k → k < 8 → Linked f g k r e i
  join free slot waits stage phy below =
      record {
        others = λ j h n. (λ a. absurd (n (sym a ∙ slot)), λ a. absurd (free (omega arith)));
        entry = λ h. record { pair = (λ a. (stage, phy), λ on. slot); elsewhere = λ j n. (λ on. absurd (n (sym on.1 ∙ phy)), λ on. absurd (waits on.0)); below = λ a. omega arith };
      }

  -- they part, or the phy named none
  pub part : f.slot ≡ i → (g.slot < 32 → ⊥) → (i < 32 → On r k) → (e.stage ≡ 2 → ⊥) → Linked f g k r e i
  part slot still was rests =
      record {
        others = λ j h n. (λ a. absurd (still (omega arith)), λ a. absurd (n (sym a ∙ slot)));
        entry = λ h.
            record {
              pair = (λ a. absurd (still (omega arith)), λ on. absurd (rests on.0));
              elsewhere = λ j n. (λ on. absurd (rests on.0), λ on. absurd (n (sym on.1 ∙ (was h).1)));
              below = λ a. absurd (rests a);
            };
      }

-- a record that isn't in progress changes, and no phy does
pub aside : (f : Phy) (k : ℕ) (r e : Request) (i : ℕ) → (i < 32 → r.stage ≡ 2 → ⊥) → (e.stage ≡ 2 → ⊥) → (i < 32 → (f.slot ≡ i) ↔ On r k) → Linked f f k r e i
aside f k r e i waits rests was =
    record {
      others = λ j h n. (λ a. a, λ a. a);
      entry = λ h.
          record {
            pair = (λ a. absurd (waits h ((was h).0 a).0), λ on. absurd (rests on.0));
            elsewhere = λ j n. (λ on. absurd (rests on.0), λ on. absurd (waits h on.0));
            below = λ a. absurd (rests a);
          };
    }
