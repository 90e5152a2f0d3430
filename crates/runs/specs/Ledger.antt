-- Document 01, 'Read transfer': what one who sees the lines of a run alone can keep of them, as a ledger: the request as it was typed, the columns of the
-- last line, and the history of frames and answers. A frame lies between the read offsets of two lines. No state is read here.
-- Assumes nothing.
use Rattle.refusals.specs.declared.Refusal.{Refusal}
use Rattle.std.specs.Prelude.{ℕ, ◌+◌, ◌-◌, ◌≤◌, ◌<◌, Bool, true, false, cond, List, [], ◌∷◌, ◌++◌, ◌⊎◌, ◌≡◌, length, Err, Ok, Result, None, Option, Some}
use Rattle.transfer.specs.History.{Frame as Sent, Entry, started, sent, acked, nacked, timed_out, was_lost, ended, is_refused, view, Covered}
use Rattle.transfer.specs.declared.Answer.{Answer}
use Rattle.runs.specs.Turns.{Turn}
use Rattle.runs.specs.declared.Command.{Command}
use Rattle.runs.specs.declared.Command.TheVariants.{Start, Frame, Ack, Nak, Timeout, Lost, Nexus, Cancel}

pub record Ledger : Type 0 where
  -- B and N of the last START that was not refused
  pub offset : ℕ
  pub count : ℕ
  -- whether the transfer that it began goes on
  pub going : Bool
  -- columns of the last line
  pub read : ℕ
  pub balance : ℕ
  pub unanswered : ℕ
  -- the latest first
  pub history : List Entry

-- before any line
abbrev pub blank_ledger : Ledger
blank_ledger = record { offset = 0; count = 0; going = false; read = 0; balance = 0; unanswered = 0; history = [] }

-- a START's B and N, or what was there
abbrev pub by_start : {A : Type 0} → (ℕ → ℕ → A) → A → Option Command → A
by_start f a (Some (Start b n m r)) = f b n
by_start f a (Some Frame) = a
by_start f a (Some Ack) = a
by_start f a (Some Nak) = a
by_start f a (Some Timeout) = a
by_start f a (Some Lost) = a
by_start f a (Some Nexus) = a
by_start f a (Some Cancel) = a
by_start f a None = a

-- the entry of a line that was not refused, where the read offset was `from` and is `to`
abbrev pub entry_shown : Option Command → ℕ → ℕ → List Entry
entry_shown (Some (Start b n m r)) from to = started ∷ []
entry_shown (Some Frame) from to = sent (record { at = from; len = to - from }) ∷ []
entry_shown (Some Ack) from to = acked ∷ []
entry_shown (Some Nak) from to = nacked ∷ []
entry_shown (Some Timeout) from to = timed_out ∷ []
entry_shown (Some Lost) from to = was_lost ∷ []
entry_shown (Some Nexus) from to = ended ∷ []
entry_shown (Some Cancel) from to = ended ∷ []
entry_shown None from to = []

-- done, fail and end end a transfer; a refusal changes nothing
abbrev pub goes_on : Result Answer Refusal → Bool → Bool
goes_on (Ok Answer.Ok) going = true
goes_on (Ok Answer.Sent) going = true
goes_on (Ok Answer.Drain) going = true
goes_on (Ok Answer.Retry) going = true
goes_on (Ok Answer.Done) going = false
goes_on (Ok Answer.Fail) going = false
goes_on (Ok Answer.End) going = false
goes_on (Err k) going = going

abbrev pub adds : Ledger → Turn → List Entry
adds w t = cond (is_refused t.shown.word) [] (entry_shown t.said w.read t.shown.read)

abbrev pub asked : (ℕ → ℕ → ℕ) → ℕ → Turn → ℕ
asked which old t = cond (is_refused t.shown.word) old (by_start which old t.said)

abbrev pub enter : Ledger → Turn → Ledger
enter w t = record {
  offset = asked (λ b n. b) w.offset t;
  count = asked (λ b n. n) w.count t;
  going = goes_on t.shown.word w.going;
  read = t.shown.read;
  balance = t.shown.balance;
  unanswered = t.shown.unanswered;
  history = adds w t ++ w.history;
}

-- some turns entered, the first first
abbrev pub entered : Ledger → List Turn → Ledger
entered w [] = w
entered w (t ∷ ts) = entered (enter w t) ts

-- the words that a command may get, where it is not refused: an answer leaves frames to be answered or not, drains or not, and ends
-- the transfer or not
abbrev pub words_for : Option Command → List (Result Answer Refusal)
words_for (Some (Start b n m r)) = (Ok Answer.Ok) ∷ []
words_for (Some Frame) = (Ok Answer.Sent) ∷ []
words_for (Some Ack) = (Ok Answer.Ok) ∷ (Ok Answer.Drain) ∷ (Ok Answer.Retry) ∷ (Ok Answer.Done) ∷ []
words_for (Some Nak) = (Ok Answer.Drain) ∷ (Ok Answer.Retry) ∷ (Ok Answer.Fail) ∷ []
words_for (Some Timeout) = (Ok Answer.Retry) ∷ (Ok Answer.Fail) ∷ []
words_for (Some Lost) = (Ok Answer.Retry) ∷ (Ok Answer.Fail) ∷ []
words_for (Some Nexus) = (Ok Answer.End) ∷ []
words_for (Some Cancel) = (Ok Answer.End) ∷ []
words_for None = []

abbrev pub Among : Result Answer Refusal → List (Result Answer Refusal) → Type 0
Among a [] = ⊥
Among a (b ∷ bs) = (a ≡ b) ⊎ Among a bs

abbrev pub is_drain : Result Answer Refusal → Bool
is_drain (Ok Answer.Ok) = false
is_drain (Ok Answer.Sent) = false
is_drain (Ok Answer.Drain) = true
is_drain (Ok Answer.Retry) = false
is_drain (Ok Answer.Done) = false
is_drain (Ok Answer.Fail) = false
is_drain (Ok Answer.End) = false
is_drain (Err k) = false

-- ---- demand 3, sentence by sentence

-- of a ledger
pub record Holds (w : Ledger) : Type 0 where
  -- "the balance point lies within the request;
  pub within : (w.offset ≤ w.balance) × (w.balance ≤ w.offset + w.count)
  -- every requested byte before it was in a frame whose ACK was reported, by the history of frames and answers;
  pub sure : (x : ℕ) → w.offset ≤ x → x < w.balance → Covered x (view w.history).acked
  -- if frames were sent in the present attempt and all were ACKed, it stands at the end of the last;
  pub settled : (f : Sent) (fs : List Sent) → (view w.history).attempt ≡ f ∷ fs → (view w.history).good ≡ (view w.history).attempt → w.balance ≡ f.at + f.len
  -- at most 64 frames are unanswered.
  pub few : length (view w.history).waiting ≤ 64
  -- Frames and answers are never matched by a short number."
  pub counted : w.going ≡ true → w.unanswered ≡ length (view w.history).waiting
  pub over : w.going ≡ false → w.unanswered ≡ 0

-- of the line that comes then
pub record Leads (w : Ledger) (t : Turn) : Type 0 where
  -- "each resend begins at the balance point;
  pub resend : (f : Sent) → adds w t ≡ sent f ∷ [] → (view w.history).attempt ≡ [] → f.at ≡ w.balance
  -- "delivered" is answered only once every requested byte was ACKed;"
  pub delivers : t.shown.word ≡ Ok Answer.Done → (x : ℕ) → w.offset ≤ x → x < w.offset + w.count → Covered x (view (adds w t ++ w.history)).acked
  -- and its word is one of its command's
  pub says : is_refused t.shown.word ≡ false → Among t.shown.word (words_for t.said)
  -- which is drain exactly if the transfer goes on and a NAK was reported in the present attempt
  pub drains : is_refused t.shown.word ≡ false → goes_on t.shown.word w.going ≡ true → is_drain t.shown.word ≡ (view (adds w t ++ w.history)).nak
