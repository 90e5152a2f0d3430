-- Each test of a lent link says what it asks in words. Assumes nothing.
use Prim.Native.Nat.{ℕ}
use mathlib.Core.Bool.{Bool, true, false, cond}
use mathlib.Core.Path.{◌≡◌, refl, ap}
use lib.Dec.{eqb}
use borrow.Author.Tests.{eqb-true, eqb-false}
use Rattle.laws.specs.Tests.{Says}
use Rattle.laws.proofs.Tests.{less, equal, both, means}
use Rattle.open_lent.specs.Lent.{is_clear}
use Rattle.open_lent.specs.Lent as frames
use Rattle.open_lent.specs.declared.Open.{Open}
use Rattle.open_lent.proofs.Trips as frame-trips
use Rattle.xl_lent.specs.declared.Link.{Link}
use Rattle.xl_lent.specs.Lent.{well_held, formed}
use Rattle.xl_lent.specs.Formed.{WellHeld, Formed}

pub held_says : (there : ℕ) (o : Open) → Says (well_held there o) (WellHeld there o)
held_says there o = by (eqb there 1) refl
  where
    by : (t : Bool) → eqb there 1 ≡ t → Says (cond t (frames.formed o) (is_clear o)) (WellHeld there o)
    by true e =
        means (frame-trips.formed_says o)
        (λ z. record { zero4 = z.0; zero2 = z.1.0; zero1 = z.1.1; absent = λ off. absurd (off (eqb-true there 1 e)) }, λ w. (w.zero4, (w.zero2, w.zero1)))
    by false e = (
      λ h. let c = frame-trips.clear_is o h in record { zero4 = ap (λ (x : Open). x.zero4) c; zero2 = ap (λ (x : Open). x.zero2) c; zero1 = ap (λ (x : Open). x.zero1) c; absent = λ off. c },
      λ w. ap is_clear (w.absent (eqb-false there 1 e)),
    )

pub formed_says : (l : Link) → Says (formed l) (Formed l)
unfolding formed
formed_says l =
    means
    (both (less l.phase 11)
    (both (less l.holds 2)
    (both (less l.hears 2)
    (both (less l.aip 5)
    (both (less l.broke 2)
    (both (less l.close 2)
    (both (less l.blocked 2)
    (both (equal l.zero4 0)
    (both (equal l.zero1 0) (both (held_says l.holds l.held) (held_says l.hears l.heard))))))))))) (
      λ h.
          let h4 = h.1.1.1.1 in
          let h8 = h4.1.1.1.1 in
          record {
            phase = h.0;
            holds = h.1.0;
            hears = h.1.1.0;
            aip = h.1.1.1.0;
            broke = h4.0;
            close = h4.1.0;
            blocked = h4.1.1.0;
            zero4 = h4.1.1.1.0;
            zero1 = h8.0;
            held = h8.1.0;
            heard = h8.1.1;
          },
      λ w. (w.phase, (w.holds, (w.hears, (w.aip, (w.broke, (w.close, (w.blocked, (w.zero4, (w.zero1, (w.held, w.heard)))))))))),
    )
