-- The typed lines, computed by the definitions. Assumes nothing.
use mathlib.Core.Bool.{true, false}
use mathlib.Core.List.{List, ◌++◌, map}
use mathlib.Core.Path.{◌≡◌, refl}
use lib.ListN.{replicate}
use Rattle.lines.specs.Numbers.{decimal}
use Rattle.transfer.specs.Rules.{unstarted, placed, phase_rule, keeps_rules}
use Rattle.transfer.specs.Steps.{limit, settled, drained, acked, nacked, dropped, start_step, frame_step, ack_step, nak_step, drop_step, end_step}
use Rattle.transfer.specs.Calls.{Call, step_of, run}
use Rattle.transfer.specs.Examples.{listed}
use Rattle.saved.specs.Saved.{line_of, shaped, taken}
use Rattle.saved.specs.Typed.{leaves, typed_new, typed_listing, lossy_calls, typed_lossy, other_lines}

pub new : line_of 1 unstarted ≡ typed_new
unfolding line_of decimal
new = refl

pub listing : map (line_of 1) (leaves limit listed unstarted) ≡ typed_listing
unfolding line_of decimal step_of start_step frame_step ack_step nak_step settled drained acked nacked keeps_rules placed phase_rule
listing = refl

pub lossy : map (λ (cs : List Call). line_of 1 (run limit cs unstarted)) lossy_calls ≡ typed_lossy
unfolding line_of decimal step_of start_step frame_step ack_step nak_step drop_step end_step settled drained acked nacked dropped keeps_rules placed phase_rule
lossy = refl

pub others : map (taken 1) other_lines ≡ replicate 21 false
unfolding keeps_rules placed phase_rule
others = refl

pub shapes : map (shaped 1) other_lines ≡ replicate 17 false ++ replicate 4 true
shapes = refl
