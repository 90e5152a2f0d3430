-- Document 01, 'Read transfer': the next-frame call. Assumes nothing.
use Rattle.std.specs.Prelude.{ℕ, Bool, true, false, not, cond, ◌&&◌, List, [], ◌∷◌, ◌++◌, ◌≡◌, eqb, ltb, leb, length, Err, Ok, Result}
use Rattle.refusals.specs.Causes.{Cause, ◌when◌, refuse}
use Rattle.refusals.specs.declared.Refusal.{Refusal}
use Rattle.ssp_frame.specs.Data.{frame_end, data_left, data_listed}
use Rattle.ssp_frame.specs.declared.data.DataHead.{DataHead}
use Rattle.transfer.specs.Steps.{frame_length, framed, refused, frame_causes}
use Rattle.transfer.specs.declared.Transfer.{Transfer}
use Rattle.transfer.specs.declared.Answer.{Answer}
use Rattle.transfer.specs.declared.Stepped.{Stepped}

-- 01 DATA.1
abbrev pub changing_of : Transfer → ℕ
changing_of s = cond (ltb 0 s.used && not s.sent) 1 0

-- 01 DATA.1
abbrev pub head_of : Transfer → ℕ → ℕ → ℕ → DataHead
head_of s destination source tag = record { destination = destination; source = source; changing = changing_of s; tag = tag; offset = s.read }

-- data of exactly the frame's length, and room for the frame
abbrev pub fitting : Transfer → List ℕ → List ℕ → Bool
fitting s body out = eqb (length body) (frame_length s) && leb (frame_end (length body)) (length out)

-- 01 REFUSAL.1 01 REFUSAL.2 01 REFUSAL.11
abbrev pub next_causes : ℕ → Transfer → DataHead → List ℕ → List ℕ → List Cause
next_causes bound s h body out = frame_causes bound s ++ ((Refusal.Unlisted when not (data_listed h)) ∷ (Refusal.Length when not (fitting s body out)) ∷ [])

unfoldable pub next_step : ℕ → Transfer → DataHead → List ℕ → List ℕ → Stepped
next_step bound s h body out = refuse (refused s) (next_causes bound s h body out) (framed (frame_length s) s)

-- the output with the frame at its front, or as it was
unfoldable pub next_bytes : ℕ → Transfer → DataHead → List ℕ → List ℕ → List ℕ
next_bytes bound s h body out = refuse (λ _. out) (next_causes bound s h body out) (data_left h body out)

-- what the call promises of its answer and state r, and of the output as it leaves it
pub record Went (bound : ℕ) (s : Transfer) (h : DataHead) (body before : List ℕ) (r : Stepped) (after : List ℕ) : Type 0 where
  pub step : r ≡ next_step bound s h body before
  pub bytes : after ≡ next_bytes bound s h body before

abbrev pub is_sent : Result Answer Refusal → Bool
is_sent (Ok Answer.Ok) = false
is_sent (Ok Answer.Sent) = true
is_sent (Ok Answer.Drain) = false
is_sent (Ok Answer.Retry) = false
is_sent (Ok Answer.Done) = false
is_sent (Ok Answer.Fail) = false
is_sent (Ok Answer.End) = false
is_sent (Err k) = false

abbrev pub is_done : Result (Unit {0}) Refusal → Bool
is_done (Ok tt) = true
is_done (Err k) = false
