-- A write as the numbers that C lends, and what C sees of a step. Assumes nothing.
use Rattle.std.specs.Prelude.{ℕ, Bool, cond, ◌&&◌, eqb, ltb}
use Rattle.write.specs.Steps.{limit}
use Rattle.write.specs.declared.Write.{Write}
use Rattle.write.specs.declared.Stepped.{Stepped}
use Rattle.write_lent.specs.Numbers.{phase_number, phase_of, answer_number}
use Rattle.write_lent.specs.declared.State.{State}
use Rattle.write_lent.specs.declared.Step.{Step}

-- ---- what C lends, and what it says

-- the numbers name a write, one that keeps its rules or not
abbrev pub formed : State → Bool
formed s = ltb s.phase 7 && (eqb s.zero1 0 && eqb s.zero4 0)

-- numbers that aren't formed say a write with as many retries as there are tags, which breaks its rules
abbrev pub resends_of : State → ℕ
resends_of s = cond (formed s) s.resends limit

abbrev pub state_of : State → Write
state_of s =
    record {
      offset = s.offset;
      count = s.count;
      burst = s.burst;
      resends = resends_of s;
      next = s.next;
      tag = s.tag;
      tags = s.tags;
      used = s.used;
      phase = phase_of s.phase;
    }

-- ---- what C sees

abbrev pub shown : Write → State
shown w =
    record {
      tags = w.tags;
      offset = w.offset;
      count = w.count;
      burst = w.burst;
      resends = w.resends;
      next = w.next;
      used = w.used;
      zero4 = 0;
      tag = w.tag;
      phase = phase_number w.phase;
      zero1 = 0;
    }

abbrev pub told : Stepped → Step
told r = record { state = shown r.state; answer = answer_number r.answer }

-- 1 to 10
abbrev pub is_refusal : ℕ → Bool
is_refusal n = ltb 0 n && ltb n 11

-- a refusal leaves the lent state, to the last member
abbrev pub state_after : State → ℕ → Write → State
state_after s answer w = cond (is_refusal answer) s (shown w)

-- what is seen of a step by who lent s
abbrev pub seen : State → Stepped → Step
seen s r = record { state = state_after s (answer_number r.answer) r.state; answer = answer_number r.answer }
