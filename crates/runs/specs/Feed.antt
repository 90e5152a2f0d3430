-- A run over input that comes in blocks: what it has said, and what it carries over to the next block. Assumes nothing.
use Rattle.std.specs.Prelude.{ℕ, suc, ◌+◌, ◌-◌, ◌≤◌, ◌≡◌, cond, ◌&&◌, List, [], ◌∷◌, ◌++◌, ltb, eqb, length, take, drop, replicate}
use Rattle.lines.specs.Parts.{lf}
use Rattle.lines.specs.Puts.{Put}
use Rattle.transfer.specs.Rules.{unstarted}
use Rattle.transfer.specs.declared.Transfer.{Transfer}
use Rattle.transfer.specs.declared.Stepped.{Stepped}
use Rattle.runs.specs.Commands.{longest, read_line, obeyed}
use Rattle.runs.specs.Rows.{row, longest_row}
use Rattle.runs.specs.declared.Run.{Run}
use Rattle.runs.specs.declared.Fed.{Fed}
use Rattle.runs.specs.declared.Taken.{Taken}

-- the lines that have ended, the bytes of the line that has begun, as far as they matter, and the transfer
pub record Carry : Type 0 where
  pub line : ℕ
  pub begun : List ℕ
  pub state : Transfer

-- a line of one byte more than the longest is too long whatever follows
abbrev pub enough : ℕ
enough = suc longest

-- what a run carries, and the run that carries it
abbrev pub carry_of : Run → Carry
carry_of r = record { line = r.line; begun = take r.len r.keep; state = r.state }

abbrev pub run_of : Carry → Run
run_of c = record { line = c.line; len = length c.begun; keep = c.begun ++ replicate (enough - length c.begun) 0; state = c.state }

-- before any input
abbrev pub fresh : Carry
fresh = record { line = 0; begun = []; state = unstarted }

-- line numbers start at 1, and the last of 64 bits stays
abbrev pub next_line : ℕ → ℕ
next_line line = cond (ltb line 18446744073709551615) (line + 1) line

abbrev pub stepped : Carry → Stepped
stepped c = obeyed (read_line c.begun) c.state

abbrev pub ended : Carry → Carry
ended c = record { line = next_line c.line; begun = []; state = (stepped c).state }

abbrev pub longer : Carry → ℕ → Carry
longer c b = record { line = c.line; begun = take enough (c.begun ++ (b ∷ [])); state = c.state }

abbrev pub row_at : Carry → List ℕ
row_at c = row (next_line c.line) (stepped c)

-- one byte
abbrev pub after_byte : Carry → ℕ → Carry
after_byte c b = cond (eqb b lf) (ended c) (longer c b)

abbrev pub said_at : Carry → ℕ → List ℕ
said_at c b = cond (eqb b lf) (row_at c) []

-- and any bytes
abbrev pub after : Carry → List ℕ → Carry
after c [] = c
after c (b ∷ s) = after (after_byte c b) s

abbrev pub said : Carry → List ℕ → List ℕ
said c [] = []
said c (b ∷ s) = said_at c b ++ said (after_byte c b) s

-- how many bytes are taken where `room` bytes can be said: all up to an LF whose row might not fit
abbrev pub takes : ℕ → Carry → List ℕ → ℕ
takes room c [] = 0
takes room c (b ∷ s) = cond (eqb b lf && ltb room longest_row) 0 (suc (takes (room - length (said_at c b)) (after_byte c b) s))

abbrev pub taken_of : Run → List ℕ → List ℕ → List ℕ
taken_of run block out = take (takes (length out) (carry_of run) block) block

abbrev pub fed_of : Run → List ℕ → Fed
fed_of run bytes = record { run = run_of (after (carry_of run) bytes); used = length bytes; wrote = length (said (carry_of run) bytes) }

-- what `feed` promises of its answer and of the bytes that it leaves: its words fit, and the bytes behind them stay
pub record Feeds (run : Run) (block out : List ℕ) (r : Fed) (out' : List ℕ) : Type 0 where
  pub answer : r ≡ fed_of run (taken_of run block out)
  pub bytes : out' ≡ said (carry_of run) (taken_of run block out) ++ drop (length (said (carry_of run) (taken_of run block out))) out
  pub within : r.wrote ≤ length out

-- the LF that a last line of some bytes lacks
abbrev pub closing : ℕ → List ℕ
closing len = cond (eqb len 0) [] (lf ∷ [])

-- what the line s does to a transfer: the new one, and its row put into out
pub record Takes (line : ℕ) (transfer : Transfer) (s out : List ℕ) (at : ℕ) (r : Taken) (out' : List ℕ) : Type 0 where
  pub state : r.state ≡ (obeyed (read_line s) transfer).state
  pub bytes : Put out at (row line (obeyed (read_line s) transfer)) r.place out'
  pub short : length (row line (obeyed (read_line s) transfer)) ≤ longest_row
