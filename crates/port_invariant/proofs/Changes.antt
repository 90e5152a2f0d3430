-- A call changes one phy, one record and perhaps a destination's loss timer, and never turns the time back. So the rules hold afterwards
-- if they hold of that phy and that record: everything else is as it was. Assumes nothing.
use Rattle.std.specs.Prelude.{Option, Some}
use Prim.Native.Nat.{ℕ, ◌≤◌, ◌<◌}
use mathlib.Core.Path.{◌≡◌, refl, sym, subst, ◌∙◌}
use mathlib.Core.Bool.{true, false}
use mathlib.Core.Logic.{◌⊎◌, inl, inr, ◌↔◌}
use mathlib.Core.List.{List}
use native.Mathlib.Omega.{arith}
use lib.ListN.{length, get_or}
use lib.Seq.{get_or-set_same, get_or-set_other}
use Rattle.laws.proofs.Tests.{same_or_not}
use Rattle.port_parts.specs.Parts.{absent_phy, blank}
use Rattle.port_parts.specs.declared.Phy.{Phy}
use Rattle.port_parts.specs.declared.Port.{Port}
use Rattle.port_parts.specs.declared.Request.{Request}
use Rattle.port_rules.specs.Kept.{Free, PhyKept, Paired, Present, RequestKept, Apart, Kept}
use Rattle.port_rows.specs.Answers.{with_phy}
use Rattle.port_rows.specs.Calls.{phy_at}
use Rattle.port_rows.specs.declared.Answer.{Answer}
use Rattle.port_rows.specs.declared.Done.{Done}
use Rattle.port_rows.specs.declared.Loss.{Loss}
use Rattle.port_rows.specs.Records.{spread}
use Rattle.port.specs.Calls.{left_of}
use Rattle.port.proofs.Begins.{left_here, left_there}
use Rattle.port_invariant.proofs.Holds.{Dated}
use Rattle.port_invariant.proofs.Links.{On, Linked}
use Rattle.port_invariant.proofs.Spreads.{apart_back, spread_stage, spread_phy, spread_present, spread_apart}

-- what a call leaves that stores the record e and changes the timer x
abbrev pub stored : Port → Answer → Request → Option Loss → Done
stored p a e x = record { port = p; answer = a; entry = e; loss = x; cleared = false }

module _ (p : Port) (l : List Request) where
  abbrev at : ℕ → Request
  at j = get_or l j blank

  -- the record e at slot i by itself, and beside the others
  pub record Entered (i : ℕ) (e : Request) (x : Option Loss) (now : ℕ) : Type 0 where
    pub present : Free e ⊎ Present e now
    pub apart : (Free e → ⊥) → (j : ℕ) → j < 32 → (j ≡ i → ⊥) → (Free (at j) → ⊥) → Apart e (spread x (at j))

  -- phy k becomes g, slot i, where it is one, becomes e, and the timer x changes
  pub record Change (k : ℕ) (g : Phy) (i : ℕ) (e : Request) (x : Option Loss) (now : ℕ) : Type 0 where
    pub number : k < 8
    pub time : p.last ≤ now
    pub timer : (y : Loss) → x ≡ Some y → Dated now y.timer
    pub phy : PhyKept p.count g k
    pub linked : Linked (phy_at p k) g k (at i) e i
    pub entered : i < 32 → Entered i e x now

  module _ (size : length l ≡ 32) (eight : length p.phys ≡ 8) (was : Kept p l) (k : ℕ) (g : Phy) (a : Answer) (e : Request) (x : Option Loss) (now : ℕ) (c : Change k g a.slot e x now) (q : Port) where
    abbrev i : ℕ
    i = a.slot

    abbrev port : Port
    port = with_phy p k g now

    abbrev list : List Request
    list = left_of l (stored q a e x)

    -- ---- what stands where

    phy_here : phy_at port k ≡ g
    phy_here = get_or-set_same p.phys k g absent_phy (omega (arith, c.number))

    phy_there : (j : ℕ) → (j ≡ k → ⊥) → phy_at port j ≡ phy_at p j
    phy_there j n = get_or-set_other p.phys k j g absent_phy n

    here : i < 32 → get_or list i blank ≡ e
    here = left_here l (stored q a e x) size refl

    there : (j : ℕ) → j < 32 → (j ≡ i → ⊥) → get_or list j blank ≡ spread x (at j)
    there = left_there l (stored q a e x) size refl

    -- ---- each rule

    phys : (j : ℕ) → j < 8 → PhyKept p.count (phy_at port j) j
    phys j h = by (same_or_not j k)
      where
        by : (j ≡ k) ⊎ (j ≡ k → ⊥) → PhyKept p.count (phy_at port j) j
        by (inl d) = subst (λ (n : ℕ). PhyKept p.count (phy_at port n) n) (sym d) (subst (λ (f : Phy). PhyKept p.count f k) (sym phy_here) c.phy)
        by (inr n) = subst (λ (f : Phy). PhyKept p.count f j) (sym (phy_there j n)) (was.phys j h)

    entry_paired : i < 32 → Paired port.phys e i
    entry_paired h = record { phy = (c.linked.entry h).below; each = λ j m. by j m (same_or_not j k) }
      where
        by : (j : ℕ) → j < 8 → (j ≡ k) ⊎ (j ≡ k → ⊥) → ((phy_at port j).slot ≡ i) ↔ On e j
        by j m (inl d) = subst (λ (n : ℕ). ((phy_at port n).slot ≡ i) ↔ On e n) (sym d) (subst (λ (f : Phy). (f.slot ≡ i) ↔ On e k) (sym phy_here) (c.linked.entry h).pair)
        by j m (inr n) =
            let else = (c.linked.entry h).elsewhere j n in
            let old = (was.requests i h).paired.each j m in
            subst (λ (f : Phy). (f.slot ≡ i) ↔ On e j) (sym (phy_there j n)) (λ named. else.1 (old.0 named), λ on. old.1 (else.0 on))

    other_paired : (j : ℕ) → j < 32 → (j ≡ i → ⊥) → Paired port.phys (at j) j
    other_paired j h n = record { phy = (was.requests j h).paired.phy; each = λ m low. by m low (same_or_not m k) }
      where
        by : (m : ℕ) → m < 8 → (m ≡ k) ⊎ (m ≡ k → ⊥) → ((phy_at port m).slot ≡ j) ↔ On (at j) m
        by m low (inl d) =
            let else = c.linked.others j h n in
            let old = (was.requests j h).paired.each k c.number in
            subst (λ (z : ℕ). ((phy_at port z).slot ≡ j) ↔ On (at j) z) (sym d) (subst (λ (f : Phy). (f.slot ≡ j) ↔ On (at j) k) (sym phy_here) (λ named. old.0 (else.0 named), λ on. else.1 (old.1 on)))
        by m low (inr o) = subst (λ (f : Phy). (f.slot ≡ j) ↔ On (at j) m) (sym (phy_there m o)) ((was.requests j h).paired.each m low)

    -- a record with the same stage and phy is paired alike
    alike : (r s : Request) (j : ℕ) → s.stage ≡ r.stage → s.phy ≡ r.phy → Paired port.phys r j → Paired port.phys s j
    alike r s j stage phy old =
        record {
          phy = λ d. let b = old.phy (sym stage ∙ d) in omega (arith, phy);
          each = λ m low. let pair = old.each m low in (λ named. let on = pair.0 named in (stage ∙ on.0, phy ∙ on.1), λ on. pair.1 (sym stage ∙ on.0, sym phy ∙ on.1));
        }

    other_present : (j : ℕ) → Free (at j) ⊎ Present (at j) p.last → Free (spread x (at j)) ⊎ Present (spread x (at j)) now
    other_present j (inl free) = inl (spread_stage x (at j) ∙ free)
    other_present j (inr held) = inr (spread_present x (at j) p.last now c.time c.timer held)

    requests : (j : ℕ) → j < 32 → RequestKept port (get_or list j blank) j
    requests j h = by (same_or_not j i)
      where
        by : (j ≡ i) ⊎ (j ≡ i → ⊥) → RequestKept port (get_or list j blank) j
        by (inl d) =
            let low : i < 32 = omega arith in
            subst (λ (n : ℕ). RequestKept port (get_or list n blank) n) (sym d)
            (subst (λ (r : Request). RequestKept port r i) (sym (here low)) (record { paired = entry_paired low; present = (c.entered low).present }))
        by (inr n) =
            subst (λ (r : Request). RequestKept port r j) (sym (there j h n))
            (record { paired = alike (at j) (spread x (at j)) j (spread_stage x (at j)) (spread_phy x (at j)) (other_paired j h n); present = other_present j (was.requests j h).present })

    -- two records beside each other where both are requests
    abbrev Beside : Request → Request → Type 0
    Beside r s = (Free r → ⊥) → (Free s → ⊥) → Apart r s

    put : (m n : ℕ) (r s : Request) → get_or list m blank ≡ r → get_or list n blank ≡ s → Beside r s → Beside (get_or list m blank) (get_or list n blank)
    put m n r s d o apart = subst (λ (b : Request). Beside (get_or list m blank) b) (sym o) (subst (λ (b : Request). Beside b s) (sym d) apart)

    still : (j : ℕ) → (Free (spread x (at j)) → ⊥) → Free (at j) → ⊥
    still j off free = off (spread_stage x (at j) ∙ free)

    entry_beside : i < 32 → (j : ℕ) → j < 32 → (j ≡ i → ⊥) → Beside e (spread x (at j))
    entry_beside low j h n off other = (c.entered low).apart off j h n (still j other)

    apart : (m n : ℕ) → m < n → n < 32 → Beside (get_or list m blank) (get_or list n blank)
    apart m n less low = by (same_or_not m i) (same_or_not n i)
      where
        by : (m ≡ i) ⊎ (m ≡ i → ⊥) → (n ≡ i) ⊎ (n ≡ i → ⊥) → Beside (get_or list m blank) (get_or list n blank)
        by (inl d) (inl o) = absurd (omega arith)
        by (inl d) (inr o) =
            let in_list : i < 32 = omega arith in
            put m n e (spread x (at n)) (subst (λ (z : ℕ). get_or list z blank ≡ e) (sym d) (here in_list)) (there n low o) (entry_beside in_list n low o)
        by (inr d) (inl o) =
            let in_list : i < 32 = omega arith in
            let under : m < 32 = omega arith in
            put m n (spread x (at m)) e (there m under d) (subst (λ (z : ℕ). get_or list z blank ≡ e) (sym o) (here in_list))
            (λ off other. apart_back e (spread x (at m)) (entry_beside in_list m under d other off))
        by (inr d) (inr o) =
            let under : m < 32 = omega arith in
            put m n (spread x (at m)) (spread x (at n)) (there m under d) (there n low o)
            (λ off other. spread_apart x (at m) (at n) (still m off) (still n other) (was.apart m n less low (still m off) (still n other)))

    pub changed : Kept port list
    changed = record { setup = was.setup; phys = phys; requests = requests; apart = apart }
