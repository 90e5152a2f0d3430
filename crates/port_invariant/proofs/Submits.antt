-- Submit fills a free slot with a request that no other shares its key with, and gives it the loss timer of its destination: that of
-- some request to it, which the rules say is every one's. Assumes nothing.
use Rattle.std.specs.Prelude.{Ok}
use Prim.Native.Nat.{ℕ, zero, suc, ◌≤◌, ◌<◌}
use mathlib.Core.Path.{◌≡◌, refl, sym, subst, ◌∙◌}
use mathlib.Core.Bool.{Bool, true, false, not, cond, ◌&&◌}
use mathlib.Core.Logic.{◌⊎◌, inl, inr}
use mathlib.Core.List.{List}
use native.Mathlib.Nat.{not-suc-le-zero}
use native.Mathlib.Omega.{arith}
use lib.ListN.{length, get_or}
use Rattle.laws.specs.Folds.{fold_to}
use Rattle.laws.proofs.Bools.{never}
use Rattle.laws.proofs.Folds.{fold_part, at_or_below}
use Rattle.laws.specs.Tests.{Says}
use Rattle.laws.proofs.Tests.{equal, both, unless, same_or_not}
use Rattle.open_frame.specs.Open.{head_listed}
use Rattle.open_frame.specs.declared.Head.{Head}
use Rattle.port_parts.specs.Parts.{no_stamp, blank, is_free, same_nexus}
use Rattle.port_parts.specs.declared.Port.{Port}
use Rattle.port_parts.specs.declared.Request.{Request}
use Rattle.port_parts.specs.declared.Stamp.{Stamp}
use Rattle.port_rules.specs.Kept.{Free, Present, SameNexus, SameTimer, Apart, Kept}
use Rattle.port_rows.specs.Answers.{said, later, no_loss, stored}
use Rattle.port_rows.specs.Calls.{submitted}
use Rattle.port_rows.specs.Finds.{no_room, room_step, room_of}
use Rattle.port_rows.specs.declared.Room.{Room}
use Rattle.port_rows.specs.declared.Submission.{Submission}
use Rattle.port_rows.specs.declared.Word.TheVariants.{Submitted}
use Rattle.port.specs.Calls.{left_of}
use Rattle.port.specs.Grounds.{Shares}
use Rattle.port_invariant.proofs.Enters.{beside}
use Rattle.port_invariant.proofs.Holds.{present_at}
use Rattle.port_invariant.proofs.Lates.{waits_on}
use Rattle.port_invariant.proofs.Spreads.{nexus_back, same_timer}

module _ (l : List Request) (h : Head) where
  abbrev at : ℕ → Request
  at i = get_or l i blank

  -- r is a request to the destination of h, both SSP
  abbrev pub Mate : Request → Type 0
  Mate r = (Free r → ⊥) × SameNexus r.head h

  abbrev mate : Request → Bool
  mate r = not (is_free r) && same_nexus r.head h

  mate_says : (r : Request) → Says (mate r) (Mate r)
  mate_says r = both (unless (equal r.stage 0)) (both (equal r.head.destination h.destination) (both (equal r.head.protocol h.protocol) (equal h.protocol 1)))

  -- what is kept of the first n: the timer of some request to the destination, or none if there is no such request
  pub data Timer (n : ℕ) : Stamp → Type 0 where
    off : ((i : ℕ) → i < n → Mate (at i) → ⊥) → Timer n no_stamp
    some : (i : ℕ) → i < n → Mate (at i) → Timer n (at i).loss

  abbrev step : Stamp → Request → ℕ → Stamp
  step a r i = cond (mate r) r.loss a

  one_more : (n : ℕ) (t : Stamp) → Timer n t → (u : Bool) → mate (at n) ≡ u → Timer (suc n) (cond u (at n).loss t)
  one_more n t kept true e = some n (omega arith) ((mate_says (at n)).0 e)
  one_more n t (off nil) false e =
      off (λ i m has. elim (at_or_below i n m) [ inl d ↦ never (sym e ∙ (mate_says (at n)).1 (subst (λ (k : ℕ). Mate (at k)) d has)) | inr k ↦ nil i k has ])
  one_more n t (some i m has) false e = some i (omega arith) has

  timer_of : (n : ℕ) → Timer n (fold_to blank step no_stamp l n)
  unfolding fold_to
  timer_of zero = off (λ i m has. not-suc-le-zero m)
  timer_of (suc n) = one_more n (fold_to blank step no_stamp l n) (timer_of n) (mate (at n)) refl

  pub room_timer : Timer 32 (room_of l h).loss
  room_timer = subst (Timer 32) (sym (fold_part blank (λ a r i. room_step a r i h) step (λ (a : Room). a.loss) (λ a r i. refl) no_room l 32)) (timer_of 32)

  module _ (p : Port) (was : Kept p l) where
    -- it is the timer of each of them
    mates_timer : (t : Stamp) → Timer 32 t → (j : ℕ) → j < 32 → Mate (at j) → SameTimer t (at j).loss
    mates_timer t (off nil) j m has = absurd (nil j m has)
    mates_timer t (some i n mine) j m has = by (same_or_not j i)
      where
        by : (j ≡ i) ⊎ (j ≡ i → ⊥) → SameTimer (at i).loss (at j).loss
        by (inl d) = subst (λ (k : ℕ). SameTimer (at i).loss (at k).loss) (sym d) (same_timer (at i).loss)
        by (inr o) =
            let back = nexus_back (at j).head h has.1 in
            (beside p l was i n mine.0 j m o has.0).timers (mine.1.0 ∙ back.0, (mine.1.1.0 ∙ back.1.0, back.1.1))

    timer_flag : (t : Stamp) → Timer 32 t → t.set ≤ 1
    timer_flag t (off nil) = omega arith
    timer_flag t (some i n mine) = (present_at p l was i n mine.0).flags.loss

    timer_time : (t : Stamp) → Timer 32 t → t.at ≤ p.last
    timer_time t (off nil) = omega arith
    timer_time t (some i n mine) = (present_at p l was i n mine.0).stamps.loss

    timer_ssp : (t : Stamp) → Timer 32 t → (h.protocol ≡ 1) ⊎ (t.set ≡ 1 → ⊥)
    timer_ssp t (off nil) = inr (λ e. omega arith)
    timer_ssp t (some i n mine) = inl mine.1.1.1

module _ (p : Port) (l : List Request) (size : length l ≡ 32) (eight : length p.phys ≡ 8) (was : Kept p l) (x : Submission) (on : p.last ≤ x.now) (listed : head_listed x.head ≡ true) where
  abbrev v : Room
  v = room_of l x.head

  abbrev e : Request
  e = submitted v x

  new_present : Present e x.now
  new_present =
      let timer = room_timer l x.head in
      let time = timer_time l x.head p was v.loss timer in
      record {
        flags = record { stage = omega arith; cancelled = omega arith; closed = omega arith; retry = omega arith; first = omega arith; loss = timer_flag l x.head p was v.loss timer };
        fields = listed;
        cancelled = λ c. absurd (omega arith);
        stamps = record { submitted = omega arith; retry = omega arith; first = omega arith; loss = omega arith };
        loss = timer_ssp l x.head p was v.loss timer;
      }

  new_apart : (Shares l x.head → ⊥) → (j : ℕ) → j < 32 → (Free (get_or l j blank) → ⊥) → Apart e (get_or l j blank)
  new_apart absent j h there =
      record {
        keys = λ k. absent (record { slot = j; below = h; there = there; same = (sym k.0, (sym k.1.0, sym k.1.1)) });
        timers = λ n. mates_timer l x.head p was v.loss (room_timer l x.head) j h (there, nexus_back x.head (get_or l j blank).head n);
      }

  pub submit_keeps : (Shares l x.head → ⊥) → (v.free < 32 → Free (get_or l v.free blank)) → let d = stored (later p x.now) (said (Ok Submitted) v.free 8 e) e no_loss in Kept d.port (left_of l d)
  submit_keeps absent free =
      let d = stored (later p x.now) (said (Ok Submitted) v.free 8 e) e no_loss in
      waits_on p l size eight was d.answer e x.now on (λ h busy. let f = free h in omega arith) (λ c. omega arith)
      (λ h. record { present = inr new_present; apart = λ off j m n there. new_apart absent j m there }) d.port
