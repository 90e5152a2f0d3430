-- A transfer as the numbers that C lends, and what C sees of a step. Assumes nothing.
use Rattle.std.specs.Prelude.{ℕ, Bool, ◌&&◌, eqb, ltb}
use Rattle.laws.specs.Names.{flag}
use Rattle.refusals.specs.Causes.{refuse}
use Rattle.refusals.specs.Refusals.{number_of}
use Rattle.refusals.specs.declared.Refusal.{Refusal}
use Rattle.transfer.specs.Steps.{frame_length, frame_causes}
use Rattle.transfer.specs.declared.Transfer.{Transfer}
use Rattle.transfer.specs.declared.Stepped.{Stepped}
use Rattle.transfer_lent.specs.Numbers.{phase_number, phase_of, answer_number}
use Rattle.transfer_lent.specs.declared.State.{State}
use Rattle.transfer_lent.specs.declared.Step.{Step}

-- the numbers name a transfer, one that keeps its rules or not
abbrev pub formed : State → Bool
formed s = ltb s.phase 6 && (ltb s.sent 2 && eqb s.zero2 0)

abbrev pub state_of : State → Transfer
state_of s =
    record {
      offset = s.offset;
      count = s.count;
      size = s.size;
      resends = s.resends;
      read = s.read;
      balance = s.balance;
      unanswered = s.unanswered;
      sent = eqb s.sent 1;
      used = s.used;
      phase = phase_of s.phase;
    }

abbrev pub shown : Transfer → State
shown t =
    record {
      offset = t.offset;
      count = t.count;
      size = t.size;
      resends = t.resends;
      read = t.read;
      balance = t.balance;
      unanswered = t.unanswered;
      used = t.used;
      zero2 = 0;
      sent = flag t.sent;
      phase = phase_number t.phase;
    }

abbrev pub told : Stepped → Step
told r = record { state = shown r.state; answer = answer_number r.answer }

-- 01 REFUSAL.3: a setup number is out of range, or a lent state breaks its rules
abbrev pub malformed : State → Step
malformed s = record { state = s; answer = number_of Refusal.Rules }

-- 01 READ.2: A frame is min(M, B+N - read offset) long.
-- of the next frame, 0 where FRAME is refused
unfoldable pub next_length : ℕ → Transfer → ℕ
next_length bound t = refuse (λ _. 0) (frame_causes bound t) (frame_length t)
