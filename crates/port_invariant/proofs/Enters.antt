-- The record that a call stores is beside the others as the rules ask: a free one has nothing to keep, one with its old head and timer is
-- as the old one was, and one that changes its destination's timer hands it to every request of that destination. Assumes nothing.
use Rattle.std.specs.Prelude.{Option}
use Prim.Native.Nat.{ℕ, ◌≤◌, ◌<◌}
use mathlib.Core.Path.{◌≡◌, refl, sym, subst}
use mathlib.Core.Bool.{Bool, true, false}
use mathlib.Core.Logic.{inl, inr}
use mathlib.Core.List.{List}
use native.Mathlib.Omega.{arith}
use lib.Dec.{ltb}
use lib.ListN.{get_or}
use borrow.Author.Tests.{ltb-true, ltb-false}
use Rattle.open_frame.specs.declared.Head.{Head}
use Rattle.port_parts.specs.Parts.{blank}
use Rattle.port_parts.specs.declared.Port.{Port}
use Rattle.port_parts.specs.declared.Request.{Request}
use Rattle.port_parts.specs.declared.Stamp.{Stamp}
use Rattle.port_rules.specs.Kept.{Free, Present, SameKey, SameNexus, SameTimer, Apart, Kept}
use Rattle.port_rows.specs.Answers.{no_loss, loss_by}
use Rattle.port_rows.specs.declared.Loss.{Loss}
use Rattle.port_invariant.proofs.Spreads.{apart_back, Follows, own_apart}
use Rattle.port_invariant.proofs.Changes.{Entered}

module _ (p : Port) (l : List Request) where
  abbrev at : ℕ → Request
  at j = get_or l j blank

  pub free_enters : (i : ℕ) (x : Option Loss) (now : ℕ) → Entered p l i blank x now
  free_enters i x now = record { present = inl refl; apart = λ off. absurd (off refl) }

  module _ (was : Kept p l) (i : ℕ) (low : i < 32) (there : Free (at i) → ⊥) where
    -- each of the others is apart from this one
    pub beside : (j : ℕ) → j < 32 → (j ≡ i → ⊥) → (Free (at j) → ⊥) → Apart (at i) (at j)
    beside j h n other = by (ltb i j) refl
      where
        by : (t : Bool) → ltb i j ≡ t → Apart (at i) (at j)
        by true e = was.apart i j (ltb-true i j e) h there other
        by false e = let most = ltb-false i j e in apart_back (at j) (at i) (was.apart j i (strictly most) low other there)
          where
            strictly : j ≤ i → j < i
            strictly most = by_order (ltb j i) refl
              where
                by_order : (t : Bool) → ltb j i ≡ t → j < i
                by_order true d = ltb-true j i d
                by_order false d = let over = ltb-false j i d in absurd (n (omega arith))

    -- with its head and its timer as they were
    pub same_enters : (e : Request) (now : ℕ) → e.head ≡ (at i).head → e.loss ≡ (at i).loss → Present e now → Entered p l i e no_loss now
    same_enters e now head loss held = record { present = inr held; apart = λ off j h n other. like (beside j h n other) }
      where
        like : {b : Request} → Apart (at i) b → Apart e b
        like {b} off =
            record {
              keys = λ same. off.keys (subst (λ (h : Head). SameKey h b.head) head same);
              timers = λ same. subst (λ (t : Stamp). SameTimer t b.loss) (sym loss) (off.timers (subst (λ (h : Head). SameNexus h b.head) head same));
            }

    -- with the new timer of its destination
    pub timed_enters : (e : Request) (t : Stamp) (now : ℕ) → Follows (at i).loss t → e.head ≡ (at i).head → ((at i).head.protocol ≡ 1 → e.loss ≡ t) → Present e now → Entered p l i e (loss_by (at i) t) now
    timed_enters e t now follows head loss held =
        record { present = inr held; apart = λ off j h n other. own_apart (at i) e t (at j) other follows head loss (beside j h n other) }
