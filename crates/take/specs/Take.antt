-- DATA with its frame: the call that takes write data into the store. Assumes nothing.
use Rattle.ssp_frame.specs.declared.Frame.{Frame}
use Rattle.std.specs.Prelude.{ℕ, ◌+◌, ◌-◌, Bool, true, false, not, cond, ◌&&◌, List, [], ◌∷◌, ◌++◌, ◌≡◌, eqb, leb, length, take, drop, Err, Ok, Result}
use Rattle.refusals.specs.Causes.{Cause, ◌when◌, refuse}
use Rattle.refusals.specs.declared.Refusal.{Refusal}
use Rattle.ssp_frame.specs.Out.{read_causes, out_of}
use Rattle.ssp_frame.specs.declared.data_out.OutHead.{OutHead}
use Rattle.write.specs.Steps.{refused, awaited, got, fits, state_causes}
use Rattle.write.specs.declared.Write.{Write}
use Rattle.write.specs.declared.Stepped.{Stepped}
use Rattle.write.specs.declared.Answer.{Answer}
use Rattle.take.specs.Ask.{addressed}

-- the write's tag, and its addresses crosswise: what the host sent to the target
abbrev pub ours : OutHead → ℕ → ℕ → ℕ → Bool
ours h destination source tag = eqb h.destination source && (eqb h.source destination && eqb h.tag tag)

-- behind the frame's own causes: 2 a hashed address above 24 bits, 3 and 6 as DATA, 2 another head, 2 as DATA, 1 a store of m bytes below N
abbrev pub own_causes : ℕ → Write → Frame OutHead → ℕ → ℕ → ℕ → ℕ → List Cause
own_causes k s f destination source tag m =
    (Refusal.Unlisted when not (addressed destination source))
    ∷ (state_causes k f.head.transfer s
    ++ ((Refusal.Unlisted when not (ours f.head destination source tag))
    ∷ (Refusal.Unlisted when not (fits f.head.transfer f.head.offset f.length s))
    ∷ (Refusal.Length when not (leb s.count m))
    ∷ []))

-- 1 the frame's length, 2 a frame off its layout, then those
abbrev pub take_causes : ℕ → Write → ℕ → ℕ → ℕ → List ℕ → List ℕ → List Cause
take_causes k s destination source tag frame store = read_causes frame ++ own_causes k s (out_of frame) destination source tag (length store)

unfoldable pub take_step : ℕ → Write → ℕ → ℕ → ℕ → List ℕ → List ℕ → Stepped
take_step k s destination source tag frame store =
    let f = out_of frame in
    refuse (refused s) (take_causes k s destination source tag frame store) (got f.head.transfer f.head.offset f.length s)

-- the frame's data
abbrev pub payload : List ℕ → List ℕ
payload frame = take (out_of frame).length (drop 24 frame)

-- the store with these bytes from `at` on; every other byte stays
abbrev pub laid : ℕ → List ℕ → List ℕ → List ℕ
laid at bytes store = take at store ++ (bytes ++ drop (at + length bytes) store)

-- 02 c.4: each byte taken once in offset order
-- the data goes to next - B on; a late frame stores nothing
abbrev pub stored_by : Write → List ℕ → List ℕ → List ℕ
stored_by s frame store = cond (awaited (out_of frame).head.transfer s) (laid (s.next - s.offset) (payload frame) store) store

unfoldable pub take_store : ℕ → Write → ℕ → ℕ → ℕ → List ℕ → List ℕ → List ℕ
take_store k s destination source tag frame store =
    refuse (λ _. store) (take_causes k s destination source tag frame store) (stored_by s frame store)

-- what the call promises of its answer and state r, and of the store as it leaves it
pub record Takes (k : ℕ) (s : Write) (destination source tag : ℕ) (frame before : List ℕ) (r : Stepped) (after : List ℕ) : Type 0 where
  pub step : r ≡ take_step k s destination source tag frame before
  pub store : after ≡ take_store k s destination source tag frame before

-- what a frame is answered once it is read, with a store of m bytes
abbrev pub step_by : ℕ → Write → Frame OutHead → ℕ → ℕ → ℕ → ℕ → Stepped
step_by k s f destination source tag m =
    refuse (refused s) (own_causes k s f destination source tag m) (got f.head.transfer f.head.offset f.length s)

-- DATA that is taken is answered Ok, More or Done
abbrev pub is_taken : Result Answer Refusal → Bool
is_taken (Ok Answer.Ok) = true
is_taken (Ok Answer.Sent) = false
is_taken (Ok Answer.Retry) = false
is_taken (Ok Answer.Late) = false
is_taken (Ok Answer.More) = true
is_taken (Ok Answer.Done) = true
is_taken (Ok Answer.Fail) = false
is_taken (Ok Answer.End) = false
is_taken (Err k) = false
