-- Document 01's examples, computed by the definitions. Assumes nothing.
use Rattle.std.specs.Prelude.{Err, Ok}
use Prim.Native.Nat.{ℕ, ◌-◌}
use mathlib.Core.Bool.{true}
use mathlib.Core.List.{◌∷◌, map}
use mathlib.Core.Path.{◌≡◌, refl}
use lib.Dec.{eqb}
use lib.ListN.{replicate}
use Rattle.laws.proofs.Bools.{by_test}
use Rattle.transfer.specs.Rules.{unstarted, placed, phase_rule, keeps_rules}
use Rattle.transfer.specs.Steps.{limit, answered, settled, drained, acked, nacked, draining, refused, answer_causes, start_step, frame_step, ack_step, nak_step}
use Rattle.transfer.specs.Calls.{Call, start, frame, step_of, run}
use Rattle.transfer.specs.Examples.{listing, listed, output, in_ranges, past_ranges}
use Rattle.transfer.specs.declared.Transfer.{Transfer}
use Rattle.transfer.specs.declared.Stepped.{Stepped}
use Rattle.transfer.specs.declared.Answer.{Answer}
use Rattle.refusals.specs.declared.Refusal.{Refusal}
use Rattle.refusals.proofs.Causes.{by_causes}

-- 01 EXAMPLE.5
pub p10 : listing limit 1 listed unstarted ≡ output
unfolding step_of start_step frame_step ack_step nak_step settled drained acked nacked keeps_rules placed phase_rule
p10 = refl

-- 01 EXAMPLE.6
pub p11 : let s = run limit (start 0 100 4 0 ∷ replicate 16 frame) unstarted in (s.balance ≡ 0) × (s.unanswered ≡ 16)
unfolding step_of start_step frame_step keeps_rules placed phase_rule
p11 = (refl, refl)

-- 01 READ.1
-- START takes the ends of the ranges, and nothing past them
pub takes : map (λ (c : Call). (step_of limit c unstarted).answer) in_ranges ≡ replicate 5 (Ok Answer.Ok)
unfolding step_of start_step keeps_rules placed phase_rule
takes = refl

pub takes_no_more : map (λ (c : Call). (step_of limit c unstarted).answer) past_ranges ≡ replicate 6 (Err Refusal.Rules)
unfolding step_of start_step keeps_rules placed phase_rule
takes_no_more = refl

-- 01 TRAP.1: adding an ACKed frame's bytes to the balance after an earlier NAK
-- after a NAK an ACK leaves the balance point where it is
pub trap_1 : (bound : ℕ) (s : Transfer) → draining s.phase ≡ true → (ack_step bound s).state.balance ≡ s.balance
unfolding ack_step acked drained
trap_1 bound s seen =
    by_causes Unmoved (refused s) (λ k. refl) (answer_causes bound s) (acked (answered s))
    (λ off. rw seen (by_test Unmoved (eqb (s.unanswered - 1) 0) (λ t. refl) (λ t. refl)))
  where
    Unmoved : Stepped → Type 0
    Unmoved st = st.state.balance ≡ s.balance
