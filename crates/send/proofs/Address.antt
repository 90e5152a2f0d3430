-- A frame that went carries the addresses and the tag that its call was given, at the read offset before it: the reader finds what the
-- writer put there. Assumes nothing.
use Prim.Native.Nat.{ℕ}
use mathlib.Core.Bool.{false}
use mathlib.Core.List.{List}
use mathlib.Core.Path.{◌≡◌, refl, sym, ap, subst⁻¹, ◌∙◌}
use lib.ListN.{length}
use Rattle.laws.proofs.Bools.{impossible}
use Rattle.transfer.specs.History.{is_refused}
use Rattle.transfer.specs.declared.Transfer.{Transfer}
use Rattle.transfer.specs.declared.Stepped.{Stepped}
use Rattle.send.specs.Send.{head_of}
use Rattle.send.specs.Calls.{Call, next, step_of, Typed}
use Rattle.send.specs.History.{output_of, Addressed}
use Rattle.send.proofs.Bytes.{Outcome, taken, kept, outcome}

module _ (bound : ℕ) (s : Transfer) where
  -- what is claimed of a call
  abbrev Carries : (destination source tag : ℕ) (body : List ℕ) → Call → Type 0
  Carries destination source tag body c = Typed c → is_refused (step_of bound c s).answer ≡ false → Addressed (output_of bound c s) (length body) destination source tag s.read

  addressed : (destination source tag : ℕ) (body out : List ℕ) → Carries destination source tag body (next destination source tag body out)
  addressed destination source tag body out typed went = by (outcome bound s destination source tag body out typed)
    where
      by : Outcome bound s destination source tag body out typed → Addressed (output_of bound (next destination source tag body out) s) (length body) destination source tag s.read
      by (kept k) = impossible (sym went ∙ ap (λ (st : Stepped). is_refused st.answer) k.step)
      by (taken t) =
          record {
            frame = record { head = head_of s destination source tag; length = length body };
            taken = t.read;
            destined = refl;
            sourced = refl;
            tagged = refl;
            placed = refl;
            long = refl;
          }

  pub addressed_by : (c : Call) → Typed c → (destination source tag : ℕ) (body out : List ℕ) → c ≡ next destination source tag body out → is_refused (step_of bound c s).answer ≡ false
      → Addressed (output_of bound c s) (length body) destination source tag s.read
  addressed_by c typed destination source tag body out e = subst⁻¹ (Carries destination source tag body) e (addressed destination source tag body out) typed
