-- The listing of a write that loses its first XFER_RDY, and STARTs at the ends of their ranges, computed by the definitions. Assumes nothing.
use Rattle.std.specs.Prelude.{Err, Ok}
use mathlib.Core.List.{map}
use mathlib.Core.Path.{◌≡◌, refl}
use lib.Count.{ones, count_trailing_zeros}
use lib.ListN.{replicate}
use Rattle.write.specs.Rules.{unstarted, placed, phase_rule, keeps_rules}
use Rattle.write.specs.Steps.{limit, missed, taken, got, start_step, xfer_step, ack_step, miss_step, got_step}
use Rattle.write.specs.Calls.{Call, step_of}
use Rattle.write.specs.Examples.{listing, listed, output, in_ranges, past_ranges}
use Rattle.write.specs.declared.Answer.{Answer}
use Rattle.refusals.specs.declared.Refusal.{Refusal}

pub lists : listing limit 1 listed unstarted ≡ output
unfolding step_of start_step xfer_step ack_step miss_step got_step missed taken got keeps_rules placed phase_rule ones count_trailing_zeros
lists = refl

-- START takes the ends of the ranges, and nothing past them
pub takes : map (λ (c : Call). (step_of limit c unstarted).answer) in_ranges ≡ replicate 5 (Ok Answer.Ok)
unfolding step_of start_step keeps_rules placed phase_rule
takes = refl

pub takes_no_more : map (λ (c : Call). (step_of limit c unstarted).answer) past_ranges ≡ replicate 5 (Err Refusal.Rules)
unfolding step_of start_step keeps_rules placed phase_rule
takes_no_more = refl
