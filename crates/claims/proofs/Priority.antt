-- Priority is a strict order on (AWT, source): the two numbers are compared one after the other, and between lists of one length
-- the first place at which they differ decides for both sides. Assumes nothing.
use mathlib.Core.Bool.{Bool, true, false, true≢false, ◌&&◌, ◌||◌}
use mathlib.Core.List.{List}
use mathlib.Core.Logic.{◌⊎◌, inl, inr, ◌↔◌}
use mathlib.Core.Path.{◌≡◌, refl, sym, ap, subst, subst⁻¹, ◌∙◌}
use Prim.Native.Nat.{ℕ, ◌<◌}
use lib.Dec.{ltb, eqb}
use lib.ListN.{get_or}
use native.Mathlib.Omega.{arith}
use Rattle.laws.specs.Names.{flag}
use Rattle.laws.specs.Tests.{Says}
use Rattle.laws.proofs.Bools.{and_false, or_alone}
use Rattle.laws.proofs.Order.{Compared, above, below, equal}
use Rattle.laws.proofs.Tests.{less, both, either}
use Rattle.laws.proofs.Tests as tests
use Rattle.open_frame.specs.Priority.{priority_of, higher_than}
use Rattle.open_frame.specs.declared.OpenFrame.{OpenFrame}
use Rattle.sonerwal.specs.Face.{crossing}
use Rattle.open_frame.proofs.Priority.{never_both, trans, one_is, neither}
use Rattle.claims.proofs.Calls.{HigherThan, FaceOpenHigher}
use Rattle.claims.proofs.Named.{one_open, other_open}

-- AWT and source agree
pub record Agree (f g : OpenFrame) : Type 0 where
  pub awt : f.awt.0 ≡ g.awt.0
  pub source : f.head.source ≡ g.head.source

-- a larger AWT, or an equal one and a larger source
abbrev Larger : OpenFrame → OpenFrame → Type 0
Larger f g = (g.awt.0 < f.awt.0) ⊎ ((f.awt.0 ≡ g.awt.0) × (g.head.source < f.head.source))

-- C's answer of two OPENs by their AWTs and sources: 1 where the first has the larger AWT, or an equal one and the larger source, else 0
pub record Counted (awt source waited peer answer : ℕ) : Type 0 where
  pub one : (answer ≡ 1) ↔ ((waited < awt) ⊎ ((awt ≡ waited) × (peer < source)))
  pub few : (answer ≡ 0) ⊎ (answer ≡ 1)

-- the two calls for two crossing OPENs
abbrev Crossing : HigherThan → HigherThan → Type 0
Crossing c d = (one_open c ≡ other_open d) × (other_open c ≡ one_open d)

-- 01 OPEN.9
pub record Priority : Type 0 where
  -- in document 01's words
  pub exactly : (c : HigherThan) → Says c.answer (Larger (one_open c) (other_open c))
  -- of two crossing OPENs never both are of higher priority
  pub never : (c d : HigherThan) → Crossing c d → c.answer ≡ true → d.answer ≡ true → ⊥
  -- and exactly one is unless AWT and source agree
  pub one : (c d : HigherThan) → Crossing c d → (Agree (one_open c) (other_open c) → ⊥) → (c.answer ≡ true) ⊎ (d.answer ≡ true)
  pub neither : (c : HigherThan) → Agree (one_open c) (other_open c) → c.answer ≡ false
  pub transitive : (c d e : HigherThan) → other_open c ≡ one_open d → one_open c ≡ one_open e → other_open d ≡ other_open e → c.answer ≡ true → d.answer ≡ true → e.answer ≡ true
  pub from_c : (c : FaceOpenHigher) → Counted c.args.0 c.args.1.0 c.args.1.1.0 c.args.1.1.1.0 c.answer

-- the other call compares the same frames the other way round
swapped : (c d : HigherThan) → Crossing c d → d.answer ≡ higher_than (other_open c) (one_open c)
swapped c d e = d.met ∙ (λ i. higher_than (sym e.1 i) (sym e.0 i))

agree : (f g : OpenFrame) → priority_of f ≡ priority_of g → Agree f g
agree f g e = record { awt = ap (λ (l : List ℕ). get_or l 0 0) e; source = ap (λ (l : List ℕ). get_or l 1 0) e }

one_of : (c d : HigherThan) → Crossing c d → (Agree (one_open c) (other_open c) → ⊥) → Compared (priority_of (one_open c)) (priority_of (other_open c)) → (c.answer ≡ true) ⊎ (d.answer ≡ true)
one_of c d e off (above h) = inl (c.met ∙ h)
one_of c d e off (below h) = inr (swapped c d e ∙ h)
one_of c d e off (equal h) = absurd (off (agree (one_open c) (other_open c) h))

exactly_so : (f g : OpenFrame) → Says (higher_than f g) (Larger f g)
exactly_so f g =
    subst (λ (t : Bool). Says (ltb g.awt.0 f.awt.0 || (eqb f.awt.0 g.awt.0 && t)) (Larger f g))
    (or_alone (ltb g.head.source f.head.source) (and_false (eqb f.head.source g.head.source) refl))
    (either (less g.awt.0 f.awt.0) (both (tests.equal f.awt.0 g.awt.0) (less g.head.source f.head.source)))

-- a test as a number
counted : (t : Bool) {A : Type 0} → Says t A → ((flag t ≡ 1) ↔ A) × ((flag t ≡ 0) ⊎ (flag t ≡ 1))
counted true s = (((λ e. s.0 refl), (λ a. refl)), inr refl)
counted false s = (((λ e. absurd (omega arith)), (λ a. absurd (true≢false (sym (s.1 a))))), inl refl)

pub priority : Priority
priority = record {
  from_c = λ c.
      let f = crossing c.args.0 c.args.1.0 in
      let g = crossing c.args.1.1.0 c.args.1.1.1.0 in
      let h = counted (higher_than f g) (exactly_so f g) in
      subst⁻¹ (λ (n : ℕ). Counted c.args.0 c.args.1.0 c.args.1.1.0 c.args.1.1.1.0 n) c.met (record { one = h.0; few = h.1 });
  exactly = λ c. subst⁻¹ (λ (t : Bool). Says t (Larger (one_open c) (other_open c))) c.met (exactly_so (one_open c) (other_open c));
  never = λ c d e p q. never_both (one_open c) (other_open c) (sym c.met ∙ p) (sym (swapped c d e) ∙ q);
  one = λ c d e off. one_of c d e off (one_is (one_open c) (other_open c));
  neither = λ c e. c.met ∙ neither (one_open c) (other_open c) e.awt e.source;
  transitive = λ c d e f g h p q. e.met ∙ (λ i. higher_than (sym g i) (sym h i)) ∙ trans (one_open c) (other_open c) (other_open d) (sym c.met ∙ p) ((λ i. higher_than (f i) (other_open d)) ∙ sym d.met ∙ q);
}
