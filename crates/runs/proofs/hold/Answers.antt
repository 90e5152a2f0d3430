-- `begun` and `part`, put one behind the other into 256 zeros, are put at once: as much of them as fits and zeros behind it,
-- which is what `run_of` keeps. Assumes nothing.
use mathlib.Core.List.{◌++◌}
use mathlib.Core.Path.{ap, ◌∙◌}
use lib.ListN.{take}
use Rattle.lines.proofs.Puts.{then, at_front}
use Rattle.runs.specs.Feed.{enough}
use Rattle.runs.proofs.Carry.{zeros_left}
use Rattle.runs.proofs.hold.Goals as goal

pub returns : goal.returns
returns c =
    let p = at_front (then c.put_bytes-n.ensures c.put_bytes-len.ensures) in λ i. record { line = c.args.line; len = p.0 i; keep = (p.1 ∙ ap (λ z. take enough (c.args.begun.now ++ c.args.part.now) ++ z) (zeros_left enough (c.args.begun.now ++ c.args.part.now))) i; state = c.args.t }
