-- Demand 3, sentence by sentence: of a transfer s with the history h, and of one call more, answered `next`, that adds the entries es.
-- Assumes nothing.
use Rattle.std.specs.Prelude.{ℕ, ◌+◌, ◌≤◌, ◌<◌, true, false, List, [], ◌∷◌, ◌++◌, ◌≡◌, length, Ok}
use Rattle.transfer.specs.Rules.{end_of}
use Rattle.transfer.specs.Steps.{unfinished}
use Rattle.transfer.specs.History.{Frame, Entry, sent, view, Covered}
use Rattle.transfer.specs.declared.Transfer.{Transfer}
use Rattle.transfer.specs.declared.Stepped.{Stepped}
use Rattle.transfer.specs.declared.Answer.{Answer}
use Rattle.transfer.specs.declared.Phase.{Phase}

pub record Demand3 (bound : ℕ) (s : Transfer) (h es : List Entry) (next : Stepped) : Type 0 where
  -- "the balance point lies within the request;
  pub within : (s.offset ≤ s.balance) × (s.balance ≤ end_of s)
  -- every requested byte before it was in a frame whose ACK was reported, by the history of frames and answers;
  pub sure : (x : ℕ) → s.offset ≤ x → x < s.balance → Covered x (view h).acked
  -- each resend begins at the balance point;
  pub resend : (f : Frame) → es ≡ sent f ∷ [] → (view h).attempt ≡ [] → f.at ≡ s.balance
  -- if frames were sent in the present attempt and all were ACKed, it stands at the end of the last;
  pub settled : (f : Frame) (fs : List Frame) → (view h).attempt ≡ f ∷ fs → (view h).good ≡ (view h).attempt → s.balance ≡ f.at + f.len
  -- "delivered" is answered only once every requested byte was ACKed;
  pub delivered : next.answer ≡ Ok Answer.Done → (x : ℕ) → s.offset ≤ x → x < end_of s → Covered x (view (es ++ h)).acked
  -- at most 64 frames are unanswered.
  pub few : length (view h).waiting ≤ bound
  -- Frames and answers are never matched by a short number."
  pub counted : unfinished s.phase ≡ true → s.unanswered ≡ length (view h).waiting
  pub over : unfinished s.phase ≡ false → s.unanswered ≡ 0
  -- what `settled` asks for comes about: with none unanswered in run, and once done, all frames of the attempt were ACKed
  pub all_acked : s.phase ≡ Phase.Run → s.unanswered ≡ 0 → (view h).good ≡ (view h).attempt
  pub all_done : s.phase ≡ Phase.Done → (view h).good ≡ (view h).attempt
