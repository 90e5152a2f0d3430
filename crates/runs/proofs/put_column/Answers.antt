-- A tab and a number put behind it are put at once. Assumes nothing.
use Rattle.lines.proofs.Puts.{then}
use Rattle.runs.proofs.put_column.Goals as goal

pub returns : goal.returns
returns c =
    then c.put_byte-p.ensures (rw c.from.ensures at c.put_number.ensures)
