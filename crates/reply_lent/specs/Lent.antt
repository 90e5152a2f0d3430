-- A reply as the numbers that C lends, and what C sees of a step. Assumes nothing.
use Rattle.std.specs.Prelude.{ℕ, Bool, cond, ◌&&◌, eqb, ltb}
use Rattle.reply.specs.declared.Reply.{Reply}
use Rattle.reply.specs.declared.Stepped.{Stepped}
use Rattle.reply_lent.specs.Numbers.{phase_number, phase_of, answer_number}
use Rattle.reply_lent.specs.declared.State.{State}
use Rattle.reply_lent.specs.declared.Step.{Step}

-- ---- what C lends, and what it says

-- the numbers name a reply, one that keeps its rules or not
abbrev pub formed : State → Bool
formed s = ltb s.phase 6 && (eqb s.zero2 0 && eqb s.zero1 0)

-- one resend more than START takes
abbrev pub excess : ℕ
excess = 256

-- numbers that aren't formed say a reply with that many, which breaks its rules
abbrev pub resends_of : State → ℕ
resends_of s = cond (formed s) s.resends excess

abbrev pub state_of : State → Reply
state_of s = record { resends = resends_of s; used = s.used; phase = phase_of s.phase }

-- ---- what C sees

abbrev pub shown : Reply → State
shown t = record { resends = t.resends; used = t.used; zero2 = 0; zero1 = 0; phase = phase_number t.phase }

abbrev pub told : Stepped → Step
told r = record { state = shown r.state; answer = answer_number r.answer }

-- 1 to 10
abbrev pub is_refusal : ℕ → Bool
is_refusal n = ltb 0 n && ltb n 11

-- a refusal leaves the lent state, to the last member
abbrev pub state_after : State → ℕ → Reply → State
state_after s answer t = cond (is_refusal answer) s (shown t)

-- what is seen of a step by who lent s
abbrev pub seen : State → Stepped → Step
seen s r = record { state = state_after s (answer_number r.answer) r.state; answer = answer_number r.answer }
