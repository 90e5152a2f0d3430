-- Document 01, 'Read transfer': the lines of a run of `readrun` side by side: what each line of input says, and the six columns of the
-- line of output that it gives. Assumes nothing.
use Rattle.std.specs.Prelude.{ℕ, List, [], ◌∷◌, ◌++◌, map, ◌≡◌, Option}
use Rattle.lines.specs.Parts.{lines_of}
use Rattle.transfer.specs.Rules.{unstarted}
use Rattle.transfer.specs.Examples.{Line, line}
use Rattle.transfer.specs.declared.Transfer.{Transfer}
use Rattle.transfer.specs.declared.Stepped.{Stepped}
use Rattle.runs.specs.Commands.{read_line, obeyed}
use Rattle.runs.specs.Rows.{row_of}
use Rattle.runs.specs.Feed.{next_line}
use Rattle.runs.specs.Output.{output_of}
use Rattle.runs.specs.declared.Command.{Command}

pub record Turn : Type 0 where
  pub said : Option Command
  pub shown : Line

-- what a command gives behind k lines
abbrev pub turn_of : ℕ → Option Command → Stepped → Turn
turn_of k c step = record { said = c; shown = line (next_line k) step.answer step.state.read step.state.balance step.state.unanswered step.state.used }

-- the turns of some lines, behind k others
abbrev pub turns : ℕ → Transfer → List (List ℕ) → List Turn
turns k s [] = []
turns k s (l ∷ ls) = turn_of k (read_line l) (obeyed (read_line l) s) ∷ turns (next_line k) (obeyed (read_line l) s).state ls

abbrev pub turns_of : List ℕ → List Turn
turns_of input = turns 0 unstarted (lines_of input)

-- the lines of output, as bytes
abbrev pub shown_bytes : List Turn → List ℕ
shown_bytes [] = []
shown_bytes (t ∷ ts) = row_of t.shown.number t.shown.word t.shown.read t.shown.balance t.shown.unanswered t.shown.used ++ shown_bytes ts

-- the turns are what the lines of an input say, and what it prints, and nothing else
pub record Read (input : List ℕ) (ts : List Turn) : Type 0 where
  pub said : map (λ (t : Turn). t.said) ts ≡ map read_line (lines_of input)
  pub printed : shown_bytes ts ≡ output_of input
