-- What choose leaves is the right choice, and there is one right choice only: each request's pick is the first rule's lowest phy
-- (`way_says`), and the fold keeps the earliest of these picks. Assumes nothing.
use Prim.Native.Nat.{ℕ, ◌≤◌, ◌<◌, min}
use mathlib.Core.Path.{◌≡◌, refl, sym, ap, subst, ◌∙◌}
use mathlib.Core.Bool.{Bool, true, false, cond}
use mathlib.Core.Logic.{inl, inr, ◌↔◌}
use mathlib.Core.List.{List}
use native.Mathlib.Omega.{arith}
use lib.Dec.{eqb, ltb}
use lib.ListN.{length, get_or}
use borrow.Author.Tests.{ne_eqb, ltb-true, ltb-false}
use Rattle.laws.proofs.Bools.{never}
use Rattle.port_parts.specs.Parts.{absent_phy, blank}
use Rattle.port_parts.specs.Choice.{way_for, is_ready, no_pick, picked, chosen_of}
use Rattle.port_parts.specs.Qualifies.{Qualifies, Before, Fits, Wins, Right, none, one}
use Rattle.port_parts.specs.declared.Request.{Request}
use Rattle.port_parts.specs.declared.Phy.{Phy}
use Rattle.port_parts.specs.declared.Pick.{Pick}
use Rattle.port_parts.specs.declared.Way.{Way}
use Rattle.port_parts.specs.declared.Asked.{Asked}
use Rattle.port_parts.proofs.Ways.{ready_says, ready_first, step_least, Goes, Way_says, stuck, goes, way_says}
use Rattle.port_parts.proofs.Earliest.{Is, Earliest, fold_earliest}
use Rattle.port_parts.proofs.Earliest as earliest

module _ (x : Asked) (eight : length x.phys ≡ 8) (r : Request) (i : ℕ) where
  -- a request's pick: no phy qualifies with it, or the pick goes by its way
  pub data Pick_says : Pick → Type 0 where
    no : {p : Pick} → eqb p.step 0 ≡ true → ((k step : ℕ) → k < 8 → Qualifies x.now r (get_or x.phys k absent_phy) step → ⊥) → Pick_says p
    yes : {p : Pick} → Is p → p.slot ≡ min i 32 → p.at ≡ r.submitted → Goes x.phys x.now r (record { step = p.step; phy = p.phy }) → Pick_says p

  pub pick_says : Pick_says (picked x r i)
  unfolding picked
  pick_says = by_ready (is_ready r x.now) refl
    where
      by_way : (w : Way) → Way_says x.phys x.now r w → Pick_says (record { step = w.step; phy = w.phy; slot = min i 32; at = r.submitted })
      by_way w (stuck nil) = no refl nil
      by_way w (goes g) = yes (ne_eqb w.step 0 (λ z. let l = step_least x.now r (get_or x.phys w.phy absent_phy) w.step g.fits in omega arith)) refl refl g

      by_ready : (t : Bool) → is_ready r x.now ≡ t → Pick_says (cond t (record { step = (way_for x.phys r).step; phy = (way_for x.phys r).phy; slot = min i 32; at = r.submitted }) no_pick)
      by_ready true e = by_way (way_for x.phys r) (way_says x.phys x.now r eight ((ready_says r x.now).0 e))
      by_ready false e = no refl (λ k step h q. never (sym e ∙ (ready_says r x.now).1 (ready_first x.now r (get_or x.phys k absent_phy) step q)))

module _ (x : Asked) (l : List Request) (eight : length x.phys ≡ 8) where
  abbrev at : ℕ → Pick
  at i = picked x (get_or l i blank) i

  says : (i : ℕ) → Pick_says x eight (get_or l i blank) i (at i)
  says i = pick_says x eight (get_or l i blank) i

  -- a request that qualifies has a pick, of its own time
  has_pick : (i k step : ℕ) → k < 8 → Fits x.phys x.now l i k step → Is (at i) × ((at i).at ≡ (get_or l i blank).submitted)
  has_pick i k step h q = by (says i)
    where
      by : {p : Pick} → Pick_says x eight (get_or l i blank) i p → Is p × (p.at ≡ (get_or l i blank).submitted)
      by (no e nil) = absurd (nil k step h q)
      by (yes is slot time g) = (is, time)

  pub choose_right : Right x.phys x.now l (chosen_of x l 32)
  choose_right = by (fold_earliest blank (picked x) l 32)
    where
      wins : (s : ℕ) → s < 32 → ((i : ℕ) → i < 32 → Is (at i) → Before (at s).at s (at i).at i) → {p : Pick} → p ≡ at s → Is p → Pick_says x eight (get_or l s blank) s p → Right x.phys x.now l p
      wins s h first same is (no e nil) = absurd (never (sym is ∙ e))
      wins s h first {p} same is (yes i slot time g) =
          let here : p.slot ≡ s = slot ∙ omega arith in
          one {p = p} (record {
            slot = omega arith;
            phy = g.phy;
            at = subst (λ (n : ℕ). p.at ≡ (get_or l n blank).submitted) (sym here) time;
            fits = subst (λ (n : ℕ). Fits x.phys x.now l n p.phy p.step) (sym here) g.fits;
            rule = λ k step m o q. g.rule k step m o (subst (λ (n : ℕ). Fits x.phys x.now l n k step) here q);
            lowest = λ k m q. g.lowest k m (subst (λ (n : ℕ). Fits x.phys x.now l n k p.step) here q);
            first = λ i k step m o q. let other = has_pick i k step o q in ordered i (subst (λ (n : ℕ). n ≡ s) refl here) (ap (λ (t : Pick). t.at) same) other.1 (first i m other.0);
          })
        where
          ordered : (i : ℕ) → p.slot ≡ s → p.at ≡ (at s).at → (at i).at ≡ (get_or l i blank).submitted → Before (at s).at s (at i).at i → Before p.at p.slot (get_or l i blank).submitted i
          ordered i a b c (inl m) = inl (omega arith)
          ordered i a b c (inr m) = inr (b ∙ m.0 ∙ c, omega (arith, m.1))

      by : {p : Pick} → Earliest at 32 p → Right x.phys x.now l p
      by (earliest.none nil) = none (λ i k step h m q. let is = has_pick i k step m q in never (sym is.0 ∙ nil i h))
      by (earliest.one s h is first) = wins s h first refl is (says s)

module _ (ps : List Phy) (now : ℕ) (l : List Request) where
  one_slot : {t s u v : ℕ} → Before t s u v → Before u v t s → (t ≡ u) × (s ≡ v)
  one_slot (inl a) (inl b) = absurd (omega arith)
  one_slot (inl a) (inr b) = absurd (omega (arith, b.0))
  one_slot (inr a) (inl b) = absurd (omega (arith, a.0))
  one_slot (inr a) (inr b) = (a.0, omega (arith, a.1, b.1))

  abbrev W : Pick → Type 0
  W = Wins ps now l

  slots : (p q : Pick) → W p → W q → (p.at ≡ q.at) × (p.slot ≡ q.slot)
  slots p q a b =
      one_slot
      (subst (λ (n : ℕ). Before p.at p.slot n q.slot) (sym b.at) (a.first q.slot q.phy q.step b.slot b.phy b.fits))
      (subst (λ (n : ℕ). Before q.at q.slot n p.slot) (sym a.at) (b.first p.slot p.phy p.step a.slot a.phy a.fits))

  -- of two that win at one slot none has an earlier rule, and of one rule none has a lower phy
  rule_least : (p q : Pick) → W p → W q → p.slot ≡ q.slot → p.step ≤ q.step
  rule_least p q a b e = by (ltb q.step p.step) refl
    where
      by : (t : Bool) → ltb q.step p.step ≡ t → p.step ≤ q.step
      by true h = absurd (a.rule q.phy q.step b.phy (ltb-true q.step p.step h) (subst (λ (n : ℕ). Fits ps now l n q.phy q.step) (sym e) b.fits))
      by false h = ltb-false q.step p.step h

  phy_least : (p q : Pick) → W p → W q → p.slot ≡ q.slot → p.step ≡ q.step → p.phy ≤ q.phy
  phy_least p q a b e d = by (ltb q.phy p.phy) refl
    where
      by : (t : Bool) → ltb q.phy p.phy ≡ t → p.phy ≤ q.phy
      by true h =
          absurd (a.lowest q.phy (ltb-true q.phy p.phy h) (subst (λ (n : ℕ). Fits ps now l p.slot q.phy n) (sym d) (subst (λ (n : ℕ). Fits ps now l n q.phy q.step) (sym e) b.fits)))
      by false h = ltb-false q.phy p.phy h

  same : (p q : Pick) → W p → W q → p ≡ q
  same p q a b =
      let s = slots p q a b in
      let one_rule : p.step ≡ q.step = omega (arith, rule_least p q a b s.1, rule_least q p b a (sym s.1)) in
      let one_phy : p.phy ≡ q.phy = omega (arith, phy_least p q a b s.1 one_rule, phy_least q p b a (sym s.1) (sym one_rule)) in
      λ i. record { step = one_rule i; phy = one_phy i; slot = s.1 i; at = s.0 i }

  pub right_once : (p q : Pick) → Right ps now l p → Right ps now l q → p ≡ q
  right_once p q (none a) (none b) = refl
  right_once p q (none a) (one b) = absurd (a q.slot q.phy q.step b.slot b.phy b.fits)
  right_once p q (one a) (none b) = absurd (b p.slot p.phy p.step a.slot a.phy a.fits)
  right_once p q (one a) (one b) = same p q a b

  -- nothing is right exactly if no request and phy qualify
  pub nothing_exactly : (p : Pick) → Right ps now l p → (p.step ≡ 0) ↔ ((i k step : ℕ) → i < 32 → k < 8 → Fits ps now l i k step → ⊥)
  nothing_exactly p (none a) = (λ e. a, λ h. refl)
  nothing_exactly p (one a) = (
    λ e. absurd (let least = step_least now (get_or l p.slot blank) (get_or ps p.phy absent_phy) p.step a.fits in omega arith),
    λ h. absurd (h p.slot p.phy p.step a.slot a.phy a.fits),
  )
