-- The parts of `row_of` are put in its order, each behind the last, and so are put at once; a row is short since each of its parts
-- is. Assumes nothing.
use native.Mathlib.Omega.{arith}
use Rattle.lines.proofs.Puts.{then}
use Rattle.runs.specs.Rows.{row_of}
use Rattle.runs.proofs.Rows.{row_short}
use Rattle.runs.proofs.put_row.Goals as goal

pub returns-clause-put : goal.returns-clause-put
unfolding row_of
returns-clause-put c =
    then (then c.put_number-p.ensures (then c.put_byte-p.ensures (then c.put_word-p.ensures (then c.put_column-p.ensures (then c.put_column-p-2.ensures (then c.put_column-p-3.ensures c.put_column-p-4.ensures)))))) c.put_byte.ensures

pub returns-clause-used_len_bound : goal.returns-clause-used_len_bound
returns-clause-used_len_bound c =
    let a = c.args in
    row_short a.line a.step.answer a.step.state.read a.step.state.balance a.step.state.unanswered a.step.state.used (omega arith) (omega arith) (omega arith) (omega arith) (omega arith)
