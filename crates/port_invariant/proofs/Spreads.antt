-- A destination's loss timer reaches all of its SSP requests or none, and changes nothing else of a record; so requests that were apart
-- stay apart. Assumes nothing.
use Rattle.std.specs.Prelude.{Option, Some, None, is_some}
use Prim.Native.Nat.{ℕ, ◌≤◌}
use mathlib.Core.Path.{◌≡◌, refl, sym, subst, ◌∙◌, ap}
use mathlib.Core.Bool.{Bool, true, false, not, ◌&&◌, cond}
use mathlib.Core.Logic.{inl}
use lib.Dec.{eqb}
use borrow.Author.Tests.{eqb-true, eq-eqb}
use Rattle.laws.proofs.Bools.{never, by_test}
use Rattle.laws.specs.Tests.{Says}
use Rattle.laws.proofs.Tests.{equal, both, itself, unless}
use Rattle.open_frame.specs.declared.Head.{Head}
use Rattle.port_parts.specs.Parts.{is_free, is_ssp}
use Rattle.port_parts.specs.declared.Request.{Request}
use Rattle.port_parts.specs.declared.Stamp.{Stamp}
use Rattle.port_rules.specs.Kept.{Free, Present, SameKey, SameNexus, SameTimer, Apart}
use Rattle.port_rows.specs.Answers.{loss_by}
use Rattle.port_rows.specs.Changed.{timed}
use Rattle.port_rows.specs.declared.Loss.{Loss}
use Rattle.port_rows.specs.Records.{spread}
use Rattle.port_invariant.proofs.Holds.{Dated, present_later, present_timed}

-- ---- requests are apart both ways round

pub same_timer : (t : Stamp) → SameTimer t t
same_timer t = ((λ e. e, λ e. e), λ e. refl)

pub nexus_back : (g h : Head) → SameNexus g h → SameNexus h g
nexus_back g h n = (sym n.0, (sym n.1.0, n.1.0 ∙ n.1.1))

pub apart_back : (a b : Request) → Apart a b → Apart b a
apart_back a b off =
    record {
      keys = λ k. off.keys (sym k.0, (sym k.1.0, sym k.1.1));
      timers = λ n. timer_back (off.timers (nexus_back b.head a.head n));
    }
  where
    timer_back : SameTimer a.loss b.loss → SameTimer b.loss a.loss
    timer_back t = ((t.0.1, t.0.0), λ e. sym (t.1 (t.0.1 e)))

-- ---- what a timer that changes leaves of a record

abbrev or_else : Loss → Option Loss → Loss
or_else y None = y
or_else y (Some z) = z

pub one_loss : {y z : Loss} → ◌≡◌ {A = Option Loss} (Some y) (Some z) → y ≡ z
one_loss {y} e = ap (or_else y) e

-- no timer changes
pub none_changes : {A : Type 0} {y : Loss} → ◌≡◌ {A = Option Loss} None (Some y) → A
none_changes e = absurd (never (ap is_some e))

-- the timer that changes where r's becomes t
pub of_loss : (r : Request) (t : Stamp) {y : Loss} → loss_by r t ≡ Some y → (is_ssp r.head && not (eqb r.loss.set t.set) ≡ true) × (y ≡ record { destination = r.head.destination; timer = t })
of_loss r t {y} e = by (is_ssp r.head && not (eqb r.loss.set t.set)) e
  where
    by : (u : Bool) → ◌≡◌ {A = Option Loss} (cond u (Some (record { destination = r.head.destination; timer = t })) None) (Some y) → (u ≡ true) × (y ≡ record { destination = r.head.destination; timer = t })
    by true s = (refl, sym (one_loss s))
    by false s = none_changes s

module _ (x : Option Loss) where
  -- r gets the timer
  pub record Reached (r : Request) : Type 0 where
    pub loss : Loss
    pub is : x ≡ Some loss
    pub there : Free r → ⊥
    pub ssp : r.head.protocol ≡ 1
    pub same : r.head.destination ≡ loss.destination

abbrev reach : Loss → Request → Bool
reach y r = not (is_free r) && (is_ssp r.head && eqb r.head.destination y.destination)

reach_says : (y : Loss) (r : Request) → Says (reach y r) ((Free r → ⊥) × ((r.head.protocol ≡ 1) × (r.head.destination ≡ y.destination)))
reach_says y r = both (unless (equal r.stage 0)) (both (equal r.head.protocol 1) (equal r.head.destination y.destination))

pub by_spread : (x : Option Loss) (P : Request → Type 0) (r : Request) → ((h : Reached x r) → P (timed r h.loss.timer)) → ((Reached x r → ⊥) → P r) → P (spread x r)
by_spread None P r f g = g (λ h. none_changes h.is)
by_spread (Some y) P r f g =
    by_test P (reach y r) (λ e. let h = (reach_says y r).0 e in f (record { loss = y; is = refl; there = h.0; ssp = h.1.0; same = h.1.1 }))
    (λ e. g (λ h. never (sym e ∙ (reach_says y r).1 (h.there, (h.ssp, h.same ∙ ap (λ (z : Loss). z.destination) (sym (one_loss h.is)))))))

module _ (x : Option Loss) where
  pub spread_stage : (r : Request) → (spread x r).stage ≡ r.stage
  spread_stage r = by_spread x (λ (s : Request). s.stage ≡ r.stage) r (λ h. refl) (λ h. refl)

  pub spread_phy : (r : Request) → (spread x r).phy ≡ r.phy
  spread_phy r = by_spread x (λ (s : Request). s.phy ≡ r.phy) r (λ h. refl) (λ h. refl)

  -- a request stays one, at a later time
  pub spread_present : (r : Request) (last now : ℕ) → last ≤ now → ((y : Loss) → x ≡ Some y → Dated now y.timer) → Present r last → Present (spread x r) now
  spread_present r last now on timer was =
      by_spread x (λ (s : Request). Present s now) r
      (λ h. present_timed r last now on was h.loss.timer (timer h.loss h.is) (inl h.ssp))
      (λ h. present_later r last now on was)

  -- two requests stay apart: of one destination both get the timer or none does
  pub spread_apart : (a b : Request) → (Free a → ⊥) → (Free b → ⊥) → Apart a b → Apart (spread x a) (spread x b)
  spread_apart a b there other off =
      by_spread x (λ (s : Request). Apart s (spread x b)) a (λ h. by_spread x (Apart (timed a h.loss.timer)) b (reached h) (first h)) (λ h. by_spread x (Apart a) b (second h) (λ g. off))
    where
      reached : (h : Reached x a) (g : Reached x b) → Apart (timed a h.loss.timer) (timed b g.loss.timer)
      reached h g =
          let one : h.loss ≡ g.loss = one_loss (sym h.is ∙ g.is) in
          record { keys = off.keys; timers = λ n. subst (λ (y : Loss). SameTimer h.loss.timer y.timer) one (same_timer h.loss.timer) }

      first : (h : Reached x a) → (Reached x b → ⊥) → Apart (timed a h.loss.timer) b
      first h g = record { keys = off.keys; timers = λ n. absurd (g (record { loss = h.loss; is = h.is; there = other; ssp = n.1.1; same = sym n.0 ∙ h.same })) }

      second : (Reached x a → ⊥) → (g : Reached x b) → Apart a (timed b g.loss.timer)
      second h g = record { keys = off.keys; timers = λ n. absurd (h (record { loss = g.loss; is = g.is; there = there; ssp = n.1.0 ∙ n.1.1; same = n.0 ∙ g.same })) }

-- ---- the request that changes a timer, and the others of its destination

-- t is the timer u after a confirmation: started only if it didn't run
abbrev pub Follows : Stamp → Stamp → Type 0
Follows u t = u.set ≡ 1 → t.set ≡ 1 → t.at ≡ u.at

-- e is the request r with its destination's new timer t
pub own_apart : (r e : Request) (t : Stamp) (b : Request) → (Free b → ⊥) → Follows r.loss t → e.head ≡ r.head → (r.head.protocol ≡ 1 → e.loss ≡ t) → Apart r b → Apart e (spread (loss_by r t) b)
own_apart r e t b other follows head timed-so off = by_spread x (Apart e) b reached same
  where
    x : Option Loss
    x = loss_by r t

    keys : SameKey e.head b.head → ⊥
    keys k = off.keys (subst (λ (h : Head). SameKey h b.head) head k)

    nexus : SameNexus e.head b.head → SameNexus r.head b.head
    nexus n = subst (λ (h : Head). SameNexus h b.head) head n

    reached : (h : Reached x b) → Apart e (timed b h.loss.timer)
    reached h =
        subst (λ (u : Stamp). Apart e (timed b u)) (sym (ap (λ (y : Loss). y.timer) (of_loss r t h.is).1))
        (record {
          keys = keys;
          timers = λ n. let same = nexus n in subst (λ (s : Stamp). SameTimer s t) (sym (timed-so (same.1.0 ∙ same.1.1))) (same_timer t);
        })

    -- with no change the timer runs on, or it stays off
    on : SameNexus r.head b.head → (Reached x b → ⊥) → SameTimer t b.loss
    on n h = ((λ e. was.0.0 (even ∙ e), λ e. sym even ∙ was.0.1 e), λ e. follows (even ∙ e) e ∙ was.1 (even ∙ e))
      where
        was : SameTimer r.loss b.loss
        was = off.timers n

        even : r.loss.set ≡ t.set
        even = by (eqb r.loss.set t.set) refl
          where
            by : (u : Bool) → eqb r.loss.set t.set ≡ u → r.loss.set ≡ t.set
            by true e = eqb-true r.loss.set t.set e
            by false e =
                absurd (h (record {
                  loss = record { destination = r.head.destination; timer = t };
                  is = λ i. cond (eq-eqb r.head.protocol 1 (n.1.0 ∙ n.1.1) i && not (e i)) (Some (record { destination = r.head.destination; timer = t })) None;
                  there = other;
                  ssp = n.1.1;
                  same = sym n.0;
                }))

    same : (Reached x b → ⊥) → Apart e b
    same h =
        record {
          keys = keys;
          timers = λ n. let so = nexus n in subst (λ (s : Stamp). SameTimer s b.loss) (sym (timed-so (so.1.0 ∙ so.1.1))) (on so h);
        }
