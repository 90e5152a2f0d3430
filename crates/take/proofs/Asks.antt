-- An XFER_RDY that goes asks for a byte at least, and for no more than a frame can name: so its writer refuses nothing, and `ask` is XFER with its frame.
-- Assumes nothing.
use Rattle.std.specs.Prelude.{Result}
use Prim.Native.Nat.{ℕ, ◌^◌, ◌≤◌, ◌<◌}
use mathlib.Core.Bool.{Bool, true, false}
use mathlib.Core.List.{List}
use mathlib.Core.Path.{◌≡◌, refl, subst, ◌∙◌}
use native.Mathlib.Omega.{arith}
use lib.Dec.{leb, eqb}
use lib.ListN.{length}
use borrow.Author.Tests.{not-false}
use Rattle.laws.proofs.Bools.{by_test}
use Rattle.laws.proofs.Tests.{less, both}
use Rattle.refusals.specs.Causes.{refuse, Wrote}
use Rattle.refusals.specs.declared.Refusal.{Refusal}
use Rattle.refusals.proofs.Frames.{wrote_is}
use Rattle.ssp_frame.specs.Xfer.{xfer_left, xfer_listed, write_causes}
use Rattle.ssp_frame.specs.declared.xfer_rdy.XferHead.{XferHead}
use Rattle.write.specs.Steps.{refused, free, asked, asked_length, retransmit_of, xfer_causes, xfer_step}
use Rattle.write.specs.declared.Write.{Write}
use Rattle.write.specs.declared.Stepped.{Stepped}
use Rattle.write.proofs.Calls.{asks_some}
use Rattle.take.specs.Ask.{addressed, head, head_of, ask_causes, ask_step, ask_bytes, Asks, is_sent}
use Rattle.take.proofs.Sends.{Sends, Went, went}
use Rattle.take.proofs.Sends as sends

pub retransmit_bit : (s : Write) → retransmit_of s < 2
retransmit_bit s = by_test (λ (n : ℕ). n < 2) (eqb s.tags 0) (λ e. omega arith) (λ e. omega arith)

abbrev goes_out : Stepped → Bool
goes_out st = is_sent st.answer

xfer_is : (k others : ℕ) (s : Write) → xfer_step k others s ≡ refuse (refused s) (xfer_causes k others s) (asked (free k others s) s)
unfolding xfer_step
xfer_is k others s = refl

module _ (k others : ℕ) (s : Write) {st : Stepped} (is : st ≡ xfer_step k others s) where
  goes : goes_out st ≡ true → Went (refused s) (asked (free k others s) s) goes_out (λ j. refl) refl (xfer_causes k others s) (is ∙ xfer_is k others s)
  goes = went (refused s) (asked (free k others s) s) goes_out (λ j. refl) refl (xfer_causes k others s) (is ∙ xfer_is k others s)

  -- it asks for some bytes, and for no more than a frame can name
  pub due : s.tags < 2 ^ k → goes_out st ≡ true → (1 ≤ asked_length s) × (asked_length s < 4294967296)
  due small e =
      let off = (goes e).off in
      let some = asks_some k s small (not-false _ off.0) (not-false _ off.1.0) in
      (some.0, omega (arith, some.1))

module _ (k others : ℕ) (s : Write) (destination source tag : ℕ) (out : List ℕ) where
  abbrev own : XferHead
  own = head_of k others s destination source tag

  abbrev Sent : Stepped → List ℕ → Type 0
  Sent = Sends (refused s) (ask_causes k others s destination source out) (asked (free k others s) s) (xfer_left own out) out

  as_asked : {r : Stepped} {after : List ℕ} → Sent r after → Asks k others s destination source tag out r after
  unfolding ask_step ask_bytes
  as_asked d = record { step = d.step; bytes = d.bytes }

  pub short : leb 36 (length out) ≡ false → Asks k others s destination source tag out (refused s Refusal.Length) out
  short l = as_asked (sends.short (refused s) _ goes_out (λ j. refl) refl (xfer_causes k others s) _ (addressed destination source) _ out l)

  module _ (room : leb 36 (length out) ≡ true) where
    pub wide : addressed destination source ≡ false → Asks k others s destination source tag out (refused s Refusal.Unlisted) out
    wide a = as_asked (sends.unlisted (refused s) _ goes_out (λ j. refl) refl (xfer_causes k others s) _ _ _ out room a)

    module _ (fits : addressed destination source ≡ true) {st : Stepped} (is : st ≡ xfer_step k others s) where
      pub not_sent : goes_out st ≡ false → Asks k others s destination source tag out st out
      not_sent e =
          as_asked (sends.not_sent (refused s) _ goes_out (λ j. refl) refl (xfer_causes k others s) _ _ _ out room fits (is ∙ xfer_is k others s) e)

      -- an XFER_RDY under the tag that XFER picked, whose writer's two tests are passed
      module _ (small : s.tags < 2 ^ k) (e : goes_out st ≡ true) where
        listed : xfer_listed own ≡ true
        listed =
            let at = (both (less destination (256 ^ 3)) (less source (256 ^ 3))).0 fits in
            (both (less destination (256 ^ 3)) (both (less source (256 ^ 3)) (both (less (retransmit_of s) 2) (both (less 0 2) (less 0 (asked_length s)))))).1
            (at.0, (at.1, (retransmit_bit s, (omega arith, (due k others s is small e).0))))

        wrote : {h : XferHead} {w : Result (Unit {0}) Refusal} {after : List ℕ} → h ≡ head st.state.tag s destination source tag
            → Wrote (write_causes h out) (xfer_left h out) out w after → after ≡ xfer_left own out
        wrote {h} {w} {after} named p =
            let under : h ≡ own = named ∙ (λ i. head ((goes k others s is e).step i).state.tag s destination source tag) in
            (wrote_is (xfer_left own out) out (subst (λ (x : XferHead). Wrote (write_causes x out) (xfer_left x out) out w after) under p) room listed).1

        pub sent : {h : XferHead} {w : Result (Unit {0}) Refusal} {after : List ℕ} → h ≡ head st.state.tag s destination source tag
            → Wrote (write_causes h out) (xfer_left h out) out w after → Asks k others s destination source tag out st after
        sent named p =
            as_asked
            (sends.sends (refused s) _ goes_out (λ j. refl) refl (xfer_causes k others s) _ _ _ out room fits (is ∙ xfer_is k others s) e (wrote named p))
