-- Opened and Open Failed: the confirmations of an opening phy. Both may change the loss timer of the request's destination, which then
-- reaches every SSP request to it. Assumes nothing.
use Rattle.port_rows.specs.declared.Loss.{Loss}
use Prim.Native.Nat.{ℕ, ◌≤◌, ◌<◌}
use mathlib.Core.Path.{◌≡◌, refl, ap, subst, sym}
use mathlib.Core.Bool.{Bool, true, false, not, cond, ◌&&◌}
use mathlib.Core.Logic.{◌⊎◌, inl, inr}
use mathlib.Core.List.{List}
use native.Mathlib.Omega.{arith}
use lib.ListN.{length}
use borrow.Author.Tests.{eqb-true, eqb-false, eq-eqb, not-true}
use Rattle.laws.proofs.Bools.{and_left, and_right, by_test}
use Rattle.open_frame.proofs.Fields.{listed_is}
use Rattle.port_parts.specs.Parts.{no_stamp, stamped, is_set, blank, is_ssp}
use Rattle.port_parts.specs.Reasons.{is_blocked, is_starting, is_stopping}
use Rattle.port_parts.specs.Timer.{timer_by}
use Rattle.port_parts.specs.declared.Phy.{Phy}
use Rattle.port_parts.specs.declared.Port.{Port}
use Rattle.port_parts.specs.declared.Reason.{Reason}
use Rattle.port_parts.specs.declared.Request.{Request}
use Rattle.port_parts.specs.declared.Stamp.{Stamp}
use Rattle.port_rules.specs.Kept.{MustName, PhyKept, Free, Present, Kept}
use Rattle.port_rows.specs.Answers.{unconnected_phy, joined_phy, loss_by}
use Rattle.port_rows.specs.Changed.{timed}
use Rattle.port_rows.specs.Calls.{phy_at, is_cancelled, connected, again, timer_after, is_again, failed}
use Rattle.port_rows.specs.declared.Done.{Done}
use Rattle.port.specs.Calls.{left_of, on_phy}
use Rattle.port_invariant.proofs.Changes.{Entered, changed}
use Rattle.port_invariant.proofs.Enters.{free_enters, timed_enters}
use Rattle.port_invariant.proofs.Holds.{Dated, dated_none, dated_now, old_first, old_loss, present_as, present_timed, busy_kept, in_port, phy_kept, on_it, its_present}
use Rattle.port_invariant.proofs.Links.{stay}
use Rattle.port_invariant.proofs.Parted.{parted, unconnected_kept}
use Rattle.port_invariant.proofs.Spreads.{Follows, of_loss}

-- a timer that may stand in the record r from `now` on
pub record Fits (r : Request) (now : ℕ) (t : Stamp) : Type 0 where
  pub dated : Dated now t
  pub follows : Follows r.loss t
  pub loss : (r.head.protocol ≡ 1) ⊎ (t.set ≡ 1 → ⊥)

module _ (r : Request) (last now : ℕ) (on : last ≤ now) (was : Present r last) where
  fits_none : Fits r now no_stamp
  fits_none = record { dated = dated_none now; follows = λ a b. absurd (omega arith); loss = inr (λ e. omega arith) }

  fits_same : Fits r now r.loss
  fits_same = record { dated = old_loss r last now on was; follows = λ a b. refl; loss = was.loss }

  -- one that didn't run starts
  fits_now : r.head.protocol ≡ 1 → is_set r.loss ≡ false → Fits r now (stamped now)
  fits_now ssp off = record { dated = dated_now now; follows = λ a b. absurd (eqb-false r.loss.set 1 off a); loss = inl ssp }

  pub fits_after : (why : Reason) → Fits r now (timer_after r why now)
  fits_after why = by_test (Fits r now) (is_ssp r.head) ssp (λ e. fits_same)
    where
      starts : r.head.protocol ≡ 1 → is_starting why && not (is_set r.loss) ≡ true → Fits r now (stamped now)
      starts h e = fits_now h (not-true (is_set r.loss) (and_right (is_starting why) (not (is_set r.loss)) e))

      ssp : is_ssp r.head ≡ true → Fits r now (timer_by (is_stopping why) (is_starting why) r.loss now)
      ssp e = by_test (Fits r now) (is_stopping why) (λ s. fits_none) (λ s. by_test (Fits r now) (is_starting why && not (is_set r.loss)) (starts (eqb-true r.head.protocol 1 e)) (λ o. fits_same))

  -- a request that is retried
  pub again_present : (why : Reason) (t : Stamp) → Fits r now t → is_cancelled r ≡ false → Present (again r why now t) now
  again_present why t fits kept =
      present_as r last now on was (again r why now t) refl refl (omega arith) was.flags.cancelled (λ e. absurd (eqb-false r.cancelled 1 kept e)) was.flags.closed (dated_now now)
      (by_test (Dated now) (is_blocked why) (λ e. old_first r last now on was) (λ e. dated_none now)) fits.dated fits.loss

module _ (p : Port) (l : List Request) (size : length l ≡ 32) (eight : length p.phys ≡ 8) (was : Kept p l) (k now : ℕ) (low : k < p.count) (on : p.last ≤ now) (opens : (phy_at p k).stage ≡ 2) where
  abbrev f : Phy
  f = phy_at p k

  abbrev r : Request
  r = on_phy l p k

  named : f.slot < 32
  named = (phy_kept p l was k low).must (inl opens)

  held : Present r p.last
  held = its_present p l was k low named

  there : Free r → ⊥
  there free = let busy = (on_it p l was k low named).0 in omega arith

  pub failed_keeps : (why : Reason) → Kept (failed p f r why k now).port (left_of l (failed p f r why k now))
  failed_keeps why =
      parted p l size eight was k now low on unconnected_phy (unconnected_kept p l size eight was k now low on) (λ h. omega arith) (failed p f r why k now).answer refl (cond (is_again p r why now) (again r why now t) blank)
      (by_test (λ (e : Request). e.stage ≡ 2 → ⊥) (is_again p r why now) (λ s e. omega arith) (λ s e. omega arith)) (loss_by r t) (λ y e. subst (Dated now) (sym (ap (λ (z : Loss). z.timer) (of_loss r t e).1)) fits.dated)
      (λ h. by_test (λ (e : Request). Entered p l f.slot e (loss_by r t) now) (is_again p r why now) (λ s. retried (not-true (is_cancelled r) (and_left (not (is_cancelled r)) _ s))) (λ s. free_enters p l f.slot (loss_by r t) now))
      (failed p f r why k now).port
    where
      t : Stamp
      t = timer_after r why now

      fits : Fits r now t
      fits = fits_after r p.last now on held why

      retried : is_cancelled r ≡ false → Entered p l f.slot (again r why now t) (loss_by r t) now
      retried kept = timed_enters p l was f.slot named there (again r why now t) t now fits.follows refl (λ ssp. refl) (again_present r p.last now on held why t fits kept)

  -- connected, or closing where the request was cancelled
  abbrev g : Phy
  g = joined_phy (cond (is_cancelled r) 5 4) f.slot r.head

  joined_kept : PhyKept p.count g k
  joined_kept = by_test (λ (n : ℕ). PhyKept p.count (joined_phy n f.slot r.head) k) (is_cancelled r) (λ e. kept 5 (omega arith) (inr refl)) (λ e. kept 4 (omega arith) (inl (inr (inl refl))))
    where
      kept : (n : ℕ) → n ≤ 6 → MustName (joined_phy n f.slot r.head) ⊎ (n ≡ 5) → PhyKept p.count (joined_phy n f.slot r.head) k
      kept n most may = busy_kept p.count (joined_phy n f.slot r.head) k low most (listed_is r.head held.fields).protocol named may

  pub opened_keeps : let d = connected p f r (record { phy = k; now = now }) in Kept d.port (left_of l d)
  opened_keeps =
      changed p l size eight was k g d.answer e (loss_by r no_stamp) now (record {
        number = in_port p l was k low;
        time = on;
        timer = λ y c. subst (Dated now) (sym (ap (λ (z : Loss). z.timer) (of_loss r no_stamp c).1)) (dated_none now);
        phy = joined_kept;
        linked = stay f g k r e f.slot refl refl refl (was.requests f.slot named).paired.phy ((was.requests f.slot named).paired.each k (in_port p l was k low));
        entered = λ h.
            timed_enters p l was f.slot named there e no_stamp now off.follows refl (λ ssp. ap (λ (b : Bool). cond b no_stamp r.loss) (eq-eqb r.head.protocol 1 ssp))
            (present_timed r p.last now on held t fits.dated fits.loss);
      }) d.port
    where
      d : Done
      d = connected p f r (record { phy = k; now = now })

      t : Stamp
      t = cond (is_ssp r.head) no_stamp r.loss

      e : Request
      e = timed r t

      off : Fits r now no_stamp
      off = fits_none r p.last now on held

      fits : Fits r now t
      fits = by_test (Fits r now) (is_ssp r.head) (λ c. off) (λ c. fits_same r p.last now on held)
