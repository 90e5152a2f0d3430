-- A loss timer that doesn't run has no time, so what a confirmation makes of it is told by whether it runs; and a timer that goes to the
-- SSP requests of a destination is the same in each. Assumes nothing.
use Rattle.std.specs.Prelude.{Option, Some, None}
use Prim.Native.Nat.{ℕ}
use mathlib.Core.Path.{◌≡◌, refl, sym, ap, ◌∙◌}
use mathlib.Core.Bool.{Bool, true, false, not, cond, ◌&&◌, ◌||◌}
use native.Mathlib.Omega.{arith}
use lib.Dec.{eqb}
use borrow.Author.Tests.{eqb-true, eq-eqb}
use Rattle.laws.proofs.Bools.{never, and_left, and_right, and_true}
use Rattle.port_parts.specs.Parts.{no_stamp, stamped, is_set, is_ssp}
use Rattle.port_parts.specs.Reasons.{is_starting, is_stopping}
use Rattle.port_parts.specs.declared.Request.{Request}
use Rattle.port_parts.specs.declared.Stamp.{Stamp}
use Rattle.port_rules.specs.Kept.{Free}
use Rattle.port_rows.specs.Answers.{loss_by}
use Rattle.port_rows.specs.Records.{spread}
use Rattle.port_rows.specs.declared.Loss.{Loss}
use Rattle.port.specs.History.{Call}
use Rattle.port_invariant.proofs.Spreads.{Reached, by_spread, of_loss}
use Rattle.port_history.specs.Turns.{Ssp}
use Rattle.port_history.specs.Times.{time_of, why_of, is_opened, confirmed}

-- ---- timers

-- what a call makes of the timer of its request's destination, by the port's own tables of reasons
abbrev pub after : Call → Stamp → Stamp
after = confirmed is_stopping is_starting

-- a timer that doesn't run has no time
abbrev pub Clean : Stamp → Type 0
Clean t = cond (is_set t) (stamped t.at) no_stamp ≡ t

module _ (c : Call) (u : Stamp) (clean : Clean u) where
  pub clean_after : Clean (after c u)
  clean_after = by (is_opened c || is_stopping (why_of c)) (is_set u) (is_starting (why_of c))
    where
      by : (s z b : Bool) → Clean (cond s no_stamp (cond z u (cond b (stamped (time_of c)) u)))
      by true z b = refl
      by false true b = clean
      by false false true = refl
      by false false false = clean

  -- one that runs or doesn't as before is as before
  settled : eqb u.set (after c u).set ≡ true → after c u ≡ u
  settled = by (is_opened c || is_stopping (why_of c)) (is_set u) (is_starting (why_of c)) refl
    where
      by : (s z b : Bool) → is_set u ≡ z → eqb u.set (cond s no_stamp (cond z u (cond b (stamped (time_of c)) u))).set ≡ true → cond s no_stamp (cond z u (cond b (stamped (time_of c)) u)) ≡ u
      by true true b z e = absurd (let off = eqb-true u.set 0 e in let on = eqb-true u.set 1 z in omega (arith, off, on))
      by true false b z e = ap (λ (t : Bool). cond t (stamped u.at) no_stamp) (sym z) ∙ clean
      by false true b z e = refl
      by false false true z e = absurd (never (sym z ∙ e))
      by false false false z e = refl

pub still : (t : Stamp) → cond (is_set t) t t ≡ t
still t = by (is_set t)
  where
    by : (z : Bool) → cond z t t ≡ t
    by true = refl
    by false = refl

-- what goes to the SSP requests of a destination where the timer of r's becomes t
pub spreads : (c : Call) (r : Request) (t : Stamp) → (is_ssp r.head ≡ true → t ≡ after c r.loss) → (Free r → ⊥) → (b : Request) (destination : ℕ) → Ssp destination b → Clean b.loss → (Ssp destination r → r.loss ≡ b.loss)
    → (spread (loss_by r t) b).loss ≡ cond (eqb r.head.destination destination && is_ssp r.head) (after c b.loss) b.loss
spreads c r t moves there b destination ssp clean same = by_spread x (λ (q : Request). q.loss ≡ cond mine (after c b.loss) b.loss) b reached (λ off. by mine refl off)
  where
    x : Option Loss
    x = loss_by r t

    mine : Bool
    mine = eqb r.head.destination destination && is_ssp r.head

    -- the timer of r, which is one of the destination's
    mate : r.head.destination ≡ destination → is_ssp r.head ≡ true → t ≡ after c b.loss
    mate d p = moves p ∙ ap (after c) (same (there, (eqb-true r.head.protocol 1 p, d)))

    reached : (h : Reached x b) → h.loss.timer ≡ cond mine (after c b.loss) b.loss
    reached h =
        let of = of_loss r t h.is in
        let p : is_ssp r.head ≡ true = and_left (is_ssp r.head) (not (eqb r.loss.set t.set)) of.0 in
        let d : r.head.destination ≡ destination = sym (h.same ∙ ap (λ (y : Loss). y.destination) of.1) ∙ ssp.1.1 in
        ap (λ (y : Loss). y.timer) of.1 ∙ mate d p ∙ sym (ap (λ (u : Bool). cond u (after c b.loss) b.loss) (and_true (eq-eqb r.head.destination destination d) p))

    by : (u : Bool) → mine ≡ u → (Reached x b → ⊥) → b.loss ≡ cond u (after c b.loss) b.loss
    by false e off = refl
    by true e off = even (eqb r.loss.set t.set) refl
      where
        d : r.head.destination ≡ destination
        d = eqb-true r.head.destination destination (and_left (eqb r.head.destination destination) (is_ssp r.head) e)

        p : is_ssp r.head ≡ true
        p = and_right (eqb r.head.destination destination) (is_ssp r.head) e

        even : (u : Bool) → eqb r.loss.set t.set ≡ u → b.loss ≡ after c b.loss
        even true q =
            sym (settled c b.loss clean (sym (λ i. eqb (same (there, (eqb-true r.head.protocol 1 p, d)) i).set (mate d p i).set) ∙ q))
        even false q = absurd (off (record {
          loss = record { destination = r.head.destination; timer = t };
          is = ap (λ (u : Bool). cond u (Some (record { destination = r.head.destination; timer = t })) None) (and_true p (ap not q));
          there = ssp.0;
          ssp = ssp.1.0;
          same = ssp.1.1 ∙ sym d;
        }))
