-- Where no byte is kept, `part` is the line, which says the same cut and uncut; else it is put behind those kept, and the places
-- of `keep` cut the line as `take enough` does. Assumes nothing.
use mathlib.Core.List.{◌++◌}
use mathlib.Core.Path.{sym, ap, ◌∙◌}
use lib.ListN.{take}
use Rattle.lines.proofs.Puts.{up_to}
use Rattle.runs.specs.Commands.{read_line}
use Rattle.runs.specs.Feed.{enough}
use Rattle.runs.proofs.Commands.{cut, taken_alike}
use Rattle.runs.proofs.end_line.Goals as goal

pub returns-then-len-eq0 : goal.returns-then-len-eq0
returns-then-len-eq0 c =
    let e = sym (ap (λ n. read_line (take enough (take n c.args.keep.now ++ c.args.part.now))) c.if-len-eq0.true ∙ cut c.args.part.now) in taken_alike e c.take_line.ensures

pub returns : goal.returns
returns c =
    let e = ap read_line (c.front.ensures ∙ up_to c.put_bytes-n.ensures ∙ ap (λ n. take n (take c.args.len c.args.keep.now ++ c.args.part.now)) c.requires) in taken_alike e c.take_line-2.ensures
