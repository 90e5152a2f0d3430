-- The listing of a write that loses its first XFER_RDY, line by line; and STARTs at the ends of their ranges. Assumes nothing.
use Rattle.refusals.specs.declared.Refusal.{Refusal}
use Rattle.std.specs.Prelude.{ℕ, ◌+◌, ◌-◌, List, [], ◌∷◌, Ok, Result}
use Rattle.write.specs.Rules.{until}
use Rattle.write.specs.Calls.{Call, start, xfer, ack, nak, got, step_of}
use Rattle.write.specs.declared.Write.{Write}
use Rattle.write.specs.declared.Answer.{Answer}

-- line number, word, next, bytes due of the range, tag, tags, used
pub record Line : Type 0 where
  pub number : ℕ
  pub word : Result Answer Refusal
  pub next : ℕ
  pub due : ℕ
  pub tag : ℕ
  pub tags : ℕ
  pub used : ℕ

abbrev pub line : ℕ → Result Answer Refusal → ℕ → ℕ → ℕ → ℕ → ℕ → Line
line number word next due tag tags used = record { number = number; word = word; next = next; due = due; tag = tag; tags = tags; used = used }

abbrev pub shown : ℕ → Result Answer Refusal → Write → Line
shown i a s = line i a s.next (until s - s.next) s.tag s.tags s.used

-- what some calls of s give, from line i on
abbrev pub listing : ℕ → ℕ → List Call → Write → List Line
listing k i [] s = []
listing k i (c ∷ cs) s = shown i (step_of k c s).answer (step_of k c s).state ∷ listing k (i + 1) cs (step_of k c s).state

abbrev pub listed : List Call
listed = start 0 12 8 1 ∷ xfer 0 ∷ nak ∷ xfer 0 ∷ got 0 0 8 ∷ ack ∷ got 1 0 8 ∷ xfer 0 ∷ ack ∷ got 0 8 4 ∷ []

abbrev pub output : List Line
output =
    line 1 (Ok Answer.Ok) 0 8 0 0 0
    ∷ line 2 (Ok Answer.Sent) 0 8 0 1 0
    ∷ line 3 (Ok Answer.Retry) 0 8 0 1 1
    ∷ line 4 (Ok Answer.Sent) 0 8 1 3 1
    ∷ line 5 (Ok Answer.Late) 0 8 1 3 1
    ∷ line 6 (Ok Answer.Ok) 0 8 1 3 1
    ∷ line 7 (Ok Answer.More) 8 4 1 0 1
    ∷ line 8 (Ok Answer.Sent) 8 4 0 1 1
    ∷ line 9 (Ok Answer.Ok) 8 4 0 1 1
    ∷ line 10 (Ok Answer.Done) 12 0 0 0 1
    ∷ []

-- the least and the largest numbers that START takes
abbrev pub in_ranges : List Call
in_ranges = start 0 1 4 0 ∷ start 4294967294 1 4 0 ∷ start 0 4294967295 4 0 ∷ start 0 1 4294967292 0 ∷ start 0 1 4 63 ∷ []

-- and one past each: N 0, B+N 4,294,967,296, X 0 and no multiple of 4, R 64
abbrev pub past_ranges : List Call
past_ranges = start 0 0 4 0 ∷ start 4294967295 1 4 0 ∷ start 0 1 0 0 ∷ start 0 1 6 0 ∷ start 0 1 4 64 ∷ []
