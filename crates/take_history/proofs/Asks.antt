-- An XFER_RDY that went is read back out of its bytes as it was meant, so the history that is read from bytes says of it what the plain call's
-- says. Assumes nothing.
use Rattle.std.specs.Prelude.{Ok as XferRdy, Result}
use Prim.Native.Nat.{ℕ, ◌^◌, ◌≤◌, ◌<◌}
use mathlib.Core.List.{List}
use mathlib.Core.Path.{◌≡◌, refl, ap, ◌∙◌}
use native.Mathlib.Omega.{arith}
use lib.Dec.{ltb}
use lib.ListN.{take, drop}
use lib.Seq.{take_at}
use borrow.Author.Tests.{leb-false, ltb-true, not-false}
use Rattle.laws.proofs.Bools.{and_left, and_right}
use Rattle.refusals.specs.declared.Refusal.{Refusal}
use Rattle.refusals.proofs.Causes.{NoneGiven, Verdict, stopped, passes, verdict, unrefused}
use Rattle.ssp_frame.specs.Xfer.{xfer_bytes, read_xfer_rdy}
use Rattle.ssp_frame.specs.declared.xfer_rdy.XferHead.{XferHead}
use Rattle.ssp_frame.proofs.XferTrip.{read_written}
use Rattle.write.specs.Steps.{refused, free, xfer_causes, xfer_step}
use Rattle.write.specs.declared.Write.{Write}
use Rattle.write.specs.declared.Stepped.{Stepped}
use Rattle.write.proofs.Calls.{asks_some}
use Rattle.write_history.specs.History.{asked as went}
use Rattle.write_history.specs.Log.{xfer_of}
use Rattle.write_history.proofs.Alike.{AsksLike}
use Rattle.take.specs.Ask.{addressed, head_of, ask_causes, ask_step, ask_bytes}
use Rattle.take.proofs.Asks.{retransmit_bit}
use Rattle.take_history.specs.History.{found_xfer, xfer_in}

module _ (k others : ℕ) (s : Write) (destination source tag : ℕ) (out : List ℕ) where
  abbrev head : XferHead
  head = head_of k others s destination source tag

  -- the bytes that the call wrote
  abbrev pub wrote : List ℕ
  wrote = take 36 (ask_bytes k others s destination source tag out)

  -- the call is refused
  pub record Kept : Type 0 where
    pub why : Refusal
    pub step : ask_step k others s destination source out ≡ refused s why

  -- or it is XFER, and its bytes are the frame's
  pub record Passed : Type 0 where
    pub step : ask_step k others s destination source out ≡ xfer_step k others s
    pub bytes : wrote ≡ xfer_bytes head
    pub read : read_xfer_rdy wrote ≡ XferRdy head

  pub data Outcome : Type 0 where
    kept : Kept → Outcome
    passed : Passed → Outcome

  module _ (few : k ≤ 65536) (small : s.tags < 2 ^ k) (typed : tag < 65536) where
    named : NoneGiven (ask_causes k others s destination source out) → read_xfer_rdy (xfer_bytes head) ≡ XferRdy head
    named off =
        let both = not-false (addressed destination source) off.1.0 in
        let due = asks_some k s small (not-false _ off.1.1.0) (not-false _ off.1.1.1.0) in
        let some = due.0 in
        let last = due.1 in
        let less = leb-false k (free k others s) off.1.1.1.1.0 in
        read_written head
        (record {
          destination = ltb-true destination (256 ^ 3) (and_left (ltb destination (256 ^ 3)) (ltb source (256 ^ 3)) both);
          source = ltb-true source (256 ^ 3) (and_right (ltb destination (256 ^ 3)) (ltb source (256 ^ 3)) both);
          retransmit = retransmit_bit s;
          retry = omega arith;
          length = omega arith;
        })
        (record { tag = typed; transfer = omega arith; offset = omega arith; length = omega arith })

    pub outcome : Outcome
    unfolding ask_step ask_bytes xfer_step
    outcome = by (verdict (ask_causes k others s destination source out))
      where
        by : Verdict (ask_causes k others s destination source out) → Outcome
        by (stopped r v) = kept (record { why = r; step = v Stepped (refused s) _ })
        by (passes off v) =
            let bytes : wrote ≡ xfer_bytes head = ap (take 36) (v (List ℕ) (λ _. out) _) ∙ take_at (xfer_bytes head) (drop 36 out) 36 refl in
            passed
            (record {
              step = v Stepped (refused s) _ ∙ unrefused (refused s) _ (xfer_causes k others s) off.1.1;
              bytes = bytes;
              read = ap read_xfer_rdy bytes ∙ named off;
            })

  pub like : Passed → AsksLike (went (xfer_in others wrote)) (xfer_of k others s)
  like p =
      record {
        one = xfer_in others wrote;
        is = refl;
        like = record {
          retransmit = ap (λ (r : Result XferHead Refusal). (found_xfer r others wrote).retransmit) p.read;
          retry = ap (λ (r : Result XferHead Refusal). (found_xfer r others wrote).retry) p.read;
          transfer = ap (λ (r : Result XferHead Refusal). (found_xfer r others wrote).transfer) p.read;
          offset = ap (λ (r : Result XferHead Refusal). (found_xfer r others wrote).offset) p.read;
          length = ap (λ (r : Result XferHead Refusal). (found_xfer r others wrote).length) p.read;
          others = ap (λ (r : Result XferHead Refusal). (found_xfer r others wrote).others) p.read;
        };
      }
