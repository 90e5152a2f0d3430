-- What has to hold for a call with bytes to be refused, in words. What a frame's lengths and its bytes or fields have to be are propositions of their
-- own, `right` and `listed`. Assumes nothing.
use Rattle.ssp_frame.specs.declared.Frame.{Frame}
use Rattle.std.specs.Prelude.{ℕ, ◌≤◌, List, [], ◌∷◌, ◌++◌, ◌⊎◌, ◌↔◌, ◌≡◌, length}
use Rattle.refusals.specs.Causes.{Ground, ◌if◌, buffer_grounds, First}
use Rattle.refusals.specs.declared.Refusal.{Refusal}
use Rattle.ssp_frame.specs.declared.data_out.OutHead.{OutHead}
use Rattle.write.specs.Grounds.{Broken, Unfinished, Fits, xfer_grounds}
use Rattle.write.specs.declared.Write.{Write}
use Rattle.write.specs.declared.Phase.{Phase}
use Rattle.reply.specs.Calls.{respond}
use Rattle.reply.specs.Grounds.{grounds_of}
use Rattle.reply.specs.declared.Reply.{Reply}

-- hashed addresses of 24 bits
abbrev pub Addressed : ℕ → ℕ → Type 0
Addressed destination source = (destination ≤ 16777215) × (source ≤ 16777215)

-- 1 an output below 36 bytes, 2 a hashed address above 24 bits, then as XFER
abbrev pub ask_grounds : ℕ → ℕ → Write → ℕ → ℕ → List ℕ → List Ground
ask_grounds k others s destination source out = buffer_grounds (36 ≤ length out) (Addressed destination source) ++ xfer_grounds k others s

-- the frame is this write's: its tag, and its addresses crosswise
pub record Ours (h : OutHead) (destination source tag : ℕ) : Type 0 where
  pub to : h.destination ≡ source
  pub from : h.source ≡ destination
  pub tagged : h.tag ≡ tag

-- 1 the frame's length, 2 a frame off its layout, 2 a hashed address above 24 bits, 3 and 6 as DATA, 2 another head, 2 as DATA, 1 a store of m bytes below N
abbrev pub take_grounds : Type 0 → Type 0 → ℕ → Write → Frame OutHead → ℕ → ℕ → ℕ → ℕ → List Ground
take_grounds right listed k s f destination source tag m =
    buffer_grounds right listed
    ++ ((Refusal.Unlisted if (Addressed destination source → ⊥))
    ∷ (Refusal.Rules if Broken k s)
    ∷ (Refusal.Unfit if ((Unfinished s.phase → ⊥) ⊎ ((s.phase ≡ Phase.Wait) × (f.head.transfer ≡ s.tag))))
    ∷ (Refusal.Unlisted if (Ours f.head destination source tag → ⊥))
    ∷ (Refusal.Unlisted if (Fits f.head.transfer f.head.offset f.length s → ⊥))
    ∷ (Refusal.Length if (s.count ≤ m → ⊥))
    ∷ [])

-- 1 the data's length or an output below the frame's, 2 fields not listed, then 3 and 6 as RESPONSE
abbrev pub respond_grounds : Type 0 → Type 0 → Reply → List Ground
respond_grounds right listed s = buffer_grounds right listed ++ grounds_of respond s

-- what is claimed of a call that answered x: refusal j exactly if j is the first ground that holds, and then it left the state and the bytes that it was
-- lent as they were
pub record Refuses {A T : Type 0} (refused : Refusal → A) (gs : List Ground) (x : A) (s t : T) (before after : List ℕ) : Type 1 where
  pub exactly : (j : Refusal) → (x ≡ refused j) ↔ First gs j
  pub state : (j : Refusal) → x ≡ refused j → t ≡ s
  pub bytes : (j : Refusal) → x ≡ refused j → after ≡ before
