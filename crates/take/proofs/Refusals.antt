-- `ask` and `take` are refused exactly by the first of their grounds that holds, since each of their tests decides one ground, and then state, output and
-- store are as they were. Assumes nothing.
use Rattle.std.specs.Prelude.{Err}
use Prim.Native.Nat.{ℕ, ◌^◌, ◌≤◌, ◌<◌}
use mathlib.Core.Bool.{false, ◌&&◌}
use mathlib.Core.List.{List}
use mathlib.Core.Logic.{◌↔◌}
use mathlib.Core.Path.{◌≡◌, refl, sym, ap, ◌∙◌}
use native.Mathlib.Omega.{arith}
use lib.ListN.{length}
use Rattle.laws.specs.Tests.{Says}
use Rattle.laws.proofs.Bools.{never}
use Rattle.laws.proofs.Tests.{less, most, equal, both, either, unless, means}
use Rattle.refusals.specs.Causes.{Cause, Ground, refuse, buffer_grounds, First, Decides, nil, cons}
use Rattle.refusals.specs.declared.Refusal.{Refusal}
use Rattle.refusals.proofs.Causes.{decides_append}
use Rattle.refusals.proofs.Frames.{frame_decides}
use Rattle.ssp_frame.specs.Data.{frame_sized, rest_zero}
use Rattle.ssp_frame.specs.Header.{header_of}
use Rattle.ssp_frame.specs.Out.{out_kind, out_of}
use Rattle.ssp_frame.specs.declared.data_out.OutHead.{OutHead}
use Rattle.write.specs.Steps.{refused, free, asked, got}
use Rattle.write.specs.Calls.{xfer, is_refused}
use Rattle.write.specs.declared.Write.{Write}
use Rattle.write.specs.declared.Stepped.{Stepped}
use Rattle.write.proofs.Fits.{fits_says}
use Rattle.write.proofs.Refusals.{tested, causes_of, broken_says, wait_says, work_says, one}
use Rattle.take.specs.Ask.{addressed, ask_step, ask_bytes}
use Rattle.take.specs.Take.{ours, take_step, take_store}
use Rattle.take.specs.Grounds.{Addressed, ask_grounds, Ours, take_grounds, Refuses}
use Rattle.take.proofs.Takes.{got_refuses}
use Rattle.take.proofs.Told.{behind, told}

addressed_says : (destination source : ℕ) → Says (addressed destination source) (Addressed destination source)
addressed_says destination source =
    means (both (less destination (256 ^ 3)) (less source (256 ^ 3)))
    (λ h. (omega (arith, h.0), omega (arith, h.1)), λ h. (omega (arith, h.0), omega (arith, h.1)))

ours_says : (h : OutHead) (destination source tag : ℕ) → Says (ours h destination source tag) (Ours h destination source tag)
ours_says h destination source tag =
    means (both (equal h.destination source) (both (equal h.source destination) (equal h.tag tag)))
    (λ p. record { to = p.0; from = p.1.0; tagged = p.1.1 }, λ o. (o.to, (o.from, o.tagged)))

-- over any number of tags from 2 on, and a state whose tags are some of them
module _ (k : ℕ) (two : 2 ≤ k) (s : Write) (small : s.tags < 2 ^ k) (destination source tag : ℕ) where
  abbrev Claim : List Ground → Stepped → List ℕ → List ℕ → Type 1
  Claim gs st before after = Refuses Err gs st.answer s st.state before after

  claim : (did : Stepped) → is_refused did.answer ≡ false → {cs : List Cause} {gs hs : List Ground} → Decides cs gs
      → ((j : Refusal) → First gs j ↔ First hs j) → (new before : List ℕ) → Claim hs (refuse (refused s) cs did) before (refuse (λ _. before) cs new)
  claim did on {cs} d same new before =
      told (λ (st : Stepped). st.answer) (λ (st : Stepped). st.state) (refused s) did one (λ j e. never (sym on ∙ ap is_refused e)) s (λ j. refl) cs d
      same
      new
      before

  pub ask_refuses : (others : ℕ) → others < 2 ^ k → (out : List ℕ)
      → Claim (ask_grounds k others s destination source out) (ask_step k others s destination source out) out
      (ask_bytes k others s destination source tag out)
  unfolding ask_step ask_bytes causes_of
  ask_refuses others typed out =
      let t = tested k two s small (xfer others) typed in
      claim (asked (free k others s) s) refl (decides_append (frame_decides (most 36 (length out)) (addressed_says destination source)) t.decided)
      (λ j. behind (buffer_grounds (36 ≤ length out) (Addressed destination source)) (t.same j))
      _
      out

  -- with what the reader's tests say of a frame
  module _ (frame store : List ℕ) {right listed : Type 0} (sized : Says (frame_sized (length frame)) right)
      (laid : Says (rest_zero frame && out_kind (header_of frame)) listed) where
    pub take_refuses : Claim (take_grounds right listed k s (out_of frame) destination source tag (length store))
        (take_step k s destination source tag frame store) store (take_store k s destination source tag frame store)
    unfolding take_step take_store
    take_refuses =
        let h = (out_of frame).head in
        claim (got h.transfer h.offset (out_of frame).length s) (got_refuses h.transfer h.offset (out_of frame).length s)
        (decides_append (frame_decides sized laid)
        (cons (unless (addressed_says destination source))
        (cons (broken_says k two s small)
        (cons (either (unless (work_says s.phase)) (both (wait_says s.phase) (equal h.transfer s.tag)))
        (cons (unless (ours_says h destination source tag))
        (cons (unless (fits_says h.transfer h.offset (out_of frame).length s)) (cons (unless (most s.count (length store))) nil)))))))
        (λ j. (λ f. f, λ f. f))
        _
        store
