-- Document 01, 'Proved examples and traps': the lines of a listing; and STARTs at the ends of the ranges of 'Read transfer'. Assumes nothing.
use Rattle.refusals.specs.declared.Refusal.{Refusal}
use Rattle.std.specs.Prelude.{ℕ, ◌+◌, List, [], ◌∷◌, Ok, Result}
use Rattle.transfer.specs.Calls.{Call, start, frame, ack, nak, step_of}
use Rattle.transfer.specs.declared.Transfer.{Transfer}
use Rattle.transfer.specs.declared.Answer.{Answer}

-- line number, word, read offset, balance, unanswered, resends used
pub record Line : Type 0 where
  pub number : ℕ
  pub word : Result Answer Refusal
  pub read : ℕ
  pub balance : ℕ
  pub unanswered : ℕ
  pub used : ℕ

abbrev pub line : ℕ → Result Answer Refusal → ℕ → ℕ → ℕ → ℕ → Line
line number word read balance unanswered used =
    record { number = number; word = word; read = read; balance = balance; unanswered = unanswered; used = used }

-- what some calls of s give, from line i on
abbrev pub listing : ℕ → ℕ → List Call → Transfer → List Line
listing bound i [] s = []
listing bound i (c ∷ cs) s =
    line i (step_of bound c s).answer (step_of bound c s).state.read (step_of bound c s).state.balance (step_of bound c s).state.unanswered (step_of bound c s).state.used
    ∷ listing bound (i + 1) cs (step_of bound c s).state

-- START 0 8 4 1, then FRAME FRAME NAK ACK FRAME ACK FRAME ACK
abbrev pub listed : List Call
listed = start 0 8 4 1 ∷ frame ∷ frame ∷ nak ∷ ack ∷ frame ∷ ack ∷ frame ∷ ack ∷ []

-- and the whole output, as document 01 lists it
abbrev pub output : List Line
output =
    line 1 (Ok Answer.Ok) 0 0 0 0
    ∷ line 2 (Ok Answer.Sent) 4 0 1 0
    ∷ line 3 (Ok Answer.Sent) 8 0 2 0
    ∷ line 4 (Ok Answer.Drain) 8 0 1 0
    ∷ line 5 (Ok Answer.Retry) 0 0 0 1
    ∷ line 6 (Ok Answer.Sent) 4 0 1 1
    ∷ line 7 (Ok Answer.Ok) 4 4 0 1
    ∷ line 8 (Ok Answer.Sent) 8 4 1 1
    ∷ line 9 (Ok Answer.Done) 8 8 0 1
    ∷ []

-- 01 READ.1
-- the least and the largest numbers that START takes
abbrev pub in_ranges : List Call
in_ranges = start 0 1 4 0 ∷ start 4294967294 1 4 0 ∷ start 0 4294967295 4 0 ∷ start 0 1 1024 0 ∷ start 0 1 4 255 ∷ []

-- and one past each: N 0, B+N 4,294,967,296, M 0, no multiple of 4 and 1,028, R 256
abbrev pub past_ranges : List Call
past_ranges = start 0 0 4 0 ∷ start 4294967295 1 4 0 ∷ start 0 1 0 0 ∷ start 0 1 6 0 ∷ start 0 1 1028 0 ∷ start 0 1 4 256 ∷ []
