-- Demand 3, sentence by sentence, in numbers that C sees: of a state s with the history h, and of one call more, answered `next`, that adds the
-- entries es. Assumes nothing.
use Rattle.std.specs.Prelude.{ℕ, ◌+◌, ◌≤◌, ◌<◌, List, [], ◌∷◌, ◌++◌, ◌⊎◌, ◌≡◌, length}
use Rattle.transfer.specs.History.{Frame, Entry, sent, view, Covered}
use Rattle.transfer_lent.specs.declared.State.{State}
use Rattle.transfer_lent.specs.declared.Step.{Step}

-- run or drain
abbrev pub Unfinished : State → Type 0
Unfinished s = (s.phase ≡ 1) ⊎ (s.phase ≡ 2)

pub record DemandSeen (s : State) (h es : List Entry) (next : Step) : Type 0 where
  -- "the balance point lies within the request;
  pub within : (s.offset ≤ s.balance) × (s.balance ≤ s.offset + s.count)
  -- every requested byte before it was in a frame whose ACK was reported, by the history of frames and answers;
  pub sure : (x : ℕ) → s.offset ≤ x → x < s.balance → Covered x (view h).acked
  -- each resend begins at the balance point;
  pub resend : (f : Frame) → es ≡ sent f ∷ [] → (view h).attempt ≡ [] → f.at ≡ s.balance
  -- if frames were sent in the present attempt and all were ACKed, it stands at the end of the last;
  pub settled : (f : Frame) (fs : List Frame) → (view h).attempt ≡ f ∷ fs → (view h).good ≡ (view h).attempt → s.balance ≡ f.at + f.len
  -- "delivered" is answered only once every requested byte was ACKed;
  pub delivered : next.answer ≡ 19 → (x : ℕ) → s.offset ≤ x → x < s.offset + s.count → Covered x (view (es ++ h)).acked
  -- at most 64 frames are unanswered.
  pub few : length (view h).waiting ≤ 64
  -- Frames and answers are never matched by a short number."
  pub counted : Unfinished s → s.unanswered ≡ length (view h).waiting
  pub over : (Unfinished s → ⊥) → s.unanswered ≡ 0
  -- what `settled` asks for comes about: with none unanswered in run, and once done, all frames of the attempt were ACKed
  pub all_acked : s.phase ≡ 1 → s.unanswered ≡ 0 → (view h).good ≡ (view h).attempt
  pub all_done : s.phase ≡ 3 → (view h).good ≡ (view h).attempt
