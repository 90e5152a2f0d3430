-- A call leaves its entry at its answer's slot, and of the others at most a timer that changed; a setup leaves all zeros. So what an accepted
-- setup leaves keeps the rules: no phy names a request, and every record is free. Assumes nothing.
use Rattle.std.specs.Prelude.{Ok}
use Prim.Native.Nat.{ℕ, ◌<◌}
use mathlib.Core.Path.{◌≡◌, refl, sym, ap, subst, ◌∙◌}
use mathlib.Core.Bool.{Bool, true, false, cond}
use mathlib.Core.List.{List}
use mathlib.Core.Logic.{inl, inr}
use native.Mathlib.Omega.{arith}
use lib.Dec.{eqb}
use lib.ListN.{length, get_or, get_or-replicate}
use borrow.Author.Tests.{eq-eqb, ne_eqb}
use Rattle.laws.proofs.Maps.{map-length, map_at}
use Rattle.port_parts.specs.Parts.{disabled_phy, absent_phy, blank}
use Rattle.port_parts.specs.declared.Phy.{Phy}
use Rattle.port_parts.specs.declared.Request.{Request}
use Rattle.port_rules.specs.Kept.{InRange, MustName, PhyKept, RequestKept, Kept}
use Rattle.port_rows.specs.Answers.{fresh, unnamed}
use Rattle.port_rows.specs.declared.Done.{Done}
use Rattle.port_rows.specs.declared.Word.TheVariants.{Taken}
use Rattle.port_rows.specs.Records.{spread, left_step}
use Rattle.port.specs.Calls.{left_of}

-- what a call leaves at each place
pub left_at : (l : List Request) (d : Done) (i : ℕ) → length l ≡ 32 → i < 32 → get_or (left_of l d) i blank ≡ left_step (get_or l i blank) i d
left_at l d i len h = map_at blank (λ r k. left_step r k d) l 32 i h (omega arith)

pub left_length : (l : List Request) (d : Done) → length (left_of l d) ≡ length l
left_length l d = map-length blank (λ r k. left_step r k d) l 32

module _ (l : List Request) (d : Done) (len : length l ≡ 32) where
  -- a setup leaves all zeros
  pub left_zeros : d.cleared ≡ true → (i : ℕ) → i < 32 → get_or (left_of l d) i blank ≡ blank
  left_zeros all i h = left_at l d i len h ∙ ap (λ (t : Bool). cond t blank (cond (eqb i d.answer.slot) d.entry (spread d.loss (get_or l i blank)))) all

  -- and any other call its entry at the answer's slot, and of the others at most a timer that changed
  module _ (some : d.cleared ≡ false) where
    pub left_here : d.answer.slot < 32 → get_or (left_of l d) d.answer.slot blank ≡ d.entry
    left_here h =
        left_at l d d.answer.slot len h
        ∙ (λ k. cond (some k) blank (cond (eq-eqb d.answer.slot d.answer.slot refl k) d.entry (spread d.loss (get_or l d.answer.slot blank))))

    pub left_there : (i : ℕ) → i < 32 → (i ≡ d.answer.slot → ⊥) → get_or (left_of l d) i blank ≡ spread d.loss (get_or l i blank)
    left_there i h other =
        left_at l d i len h
        ∙ (λ k. cond (some k) blank (cond (ne_eqb i d.answer.slot other k) d.entry (spread d.loss (get_or l i blank))))

-- a disabled phy names none, and a free record is named by none
off_kept : (count k : ℕ) → PhyKept count disabled_phy k
off_kept count k = record { stage = omega arith; protocol = omega arith; slot = omega arith; must = must; may = λ h. absurd (omega arith); past = inr refl }
  where
    must : MustName disabled_phy → 32 < 32
    must (inl e) = absurd (omega arith)
    must (inr (inl e)) = absurd (omega arith)
    must (inr (inr e)) = absurd (omega arith)

blank_kept : (count loss i : ℕ) → i < 32 → RequestKept (fresh count loss) blank i
blank_kept count loss i h =
    record {
      paired = record { phy = λ e. absurd (omega arith); each = λ k m. (λ e. absurd (let none = ap (λ (f : Phy). f.slot) (get_or-replicate 8 k disabled_phy absent_phy m) in omega arith), λ e. absurd (let busy = e.0 in omega arith)) };
      present = inl refl;
    }

pub setup_kept : (count loss : ℕ) (l : List Request) → length l ≡ 32 → InRange count loss → Kept (fresh count loss) (left_of l (unnamed (fresh count loss) (Ok Taken) true))
setup_kept count loss l len range =
    record {
      setup = range;
      phys = λ k h. subst (λ (f : Phy). PhyKept count f k) (sym (get_or-replicate 8 k disabled_phy absent_phy h)) (off_kept count k);
      requests = λ i h. subst (λ (r : Request). RequestKept (fresh count loss) r i) (sym (left_at l (unnamed (fresh count loss) (Ok Taken) true) i len h)) (blank_kept count loss i h);
      apart = λ i j m n there other. absurd (there (ap (λ (r : Request). r.stage) (left_at l (unnamed (fresh count loss) (Ok Taken) true) i len (omega arith))));
    }
