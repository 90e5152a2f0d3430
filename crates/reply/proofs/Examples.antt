-- The examples, computed by the definitions. Assumes nothing.
use Rattle.std.specs.Prelude.{Err, Ok}
use mathlib.Core.List.{map}
use mathlib.Core.Path.{◌≡◌, refl}
use lib.ListN.{replicate}
use Rattle.reply.specs.Rules.{unstarted, keeps_rules}
use Rattle.reply.specs.Steps.{failed}
use Rattle.reply.specs.Calls.{Call, step_of}
use Rattle.reply.specs.Examples.{listing, listed, output, in_ranges, past_ranges}
use Rattle.reply.specs.declared.Answer.{Answer}
use Rattle.refusals.specs.declared.Refusal.{Refusal}

pub replied : listing 1 listed unstarted ≡ output
unfolding keeps_rules failed
replied = refl

-- START takes the ends of R's range, and nothing past them
pub takes : map (λ (c : Call). (step_of c unstarted).answer) in_ranges ≡ replicate 2 (Ok Answer.Ok)
unfolding keeps_rules
takes = refl

pub takes_no_more : map (λ (c : Call). (step_of c unstarted).answer) past_ranges ≡ replicate 1 (Err Refusal.Rules)
unfolding keeps_rules
takes_no_more = refl
