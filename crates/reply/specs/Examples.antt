-- The lines of a listing, and STARTs at the ends of R's range. Assumes nothing.
use Rattle.refusals.specs.declared.Refusal.{Refusal}
use Rattle.std.specs.Prelude.{ℕ, ◌+◌, List, [], ◌∷◌, Ok, Result}
use Rattle.reply.specs.Steps.{retransmit_of}
use Rattle.reply.specs.Calls.{Call, start, respond, ack, nak, timeout, lost, step_of}
use Rattle.reply.specs.declared.Reply.{Reply}
use Rattle.reply.specs.declared.Answer.{Answer}

-- line number, word, the retransmit bit of the RESPONSE that is due or out, resends used
pub record Line : Type 0 where
  pub number : ℕ
  pub word : Result Answer Refusal
  pub retransmit : ℕ
  pub used : ℕ

abbrev pub line : ℕ → Result Answer Refusal → ℕ → ℕ → Line
line number word retransmit used = record { number = number; word = word; retransmit = retransmit; used = used }

-- what some calls of s give, from line i on
abbrev pub listing : ℕ → List Call → Reply → List Line
listing i [] s = []
listing i (c ∷ cs) s = line i (step_of c s).answer (retransmit_of (step_of c s).state) (step_of c s).state.used ∷ listing (i + 1) cs (step_of c s).state

-- a RESPONSE that is NAKed, lost and delivered, and one that fails
abbrev pub listed : List Call
listed = start 2 ∷ respond ∷ nak ∷ respond ∷ lost ∷ respond ∷ ack ∷ start 0 ∷ respond ∷ timeout ∷ []

abbrev pub output : List Line
output =
    line 1 (Ok Answer.Ok) 0 0
    ∷ line 2 (Ok Answer.Sent) 0 0
    ∷ line 3 (Ok Answer.Retry) 1 1
    ∷ line 4 (Ok Answer.Sent) 1 1
    ∷ line 5 (Ok Answer.Retry) 1 2
    ∷ line 6 (Ok Answer.Sent) 1 2
    ∷ line 7 (Ok Answer.Done) 1 2
    ∷ line 8 (Ok Answer.Ok) 0 0
    ∷ line 9 (Ok Answer.Sent) 0 0
    ∷ line 10 (Ok Answer.Fail) 0 0
    ∷ []

-- the least and the largest R that START takes
abbrev pub in_ranges : List Call
in_ranges = start 0 ∷ start 255 ∷ []

-- and one past them
abbrev pub past_ranges : List Call
past_ranges = start 256 ∷ []
