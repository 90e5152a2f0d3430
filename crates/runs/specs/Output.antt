-- Document 01, 'Read transfer': the whole output of `readrun` for a whole input. Assumes nothing.
use Rattle.std.specs.Prelude.{ℕ, List, [], ◌∷◌, ◌++◌}
use Rattle.lines.specs.Parts.{lines_of}
use Rattle.transfer.specs.Rules.{unstarted}
use Rattle.transfer.specs.declared.Transfer.{Transfer}
use Rattle.runs.specs.Commands.{read_line, obeyed}
use Rattle.runs.specs.Rows.{row}
use Rattle.runs.specs.Feed.{next_line}

-- a row for each line, behind k others
abbrev pub rows : ℕ → Transfer → List (List ℕ) → List ℕ
rows k s [] = []
rows k s (l ∷ ls) = row (next_line k) (obeyed (read_line l) s) ++ rows (next_line k) (obeyed (read_line l) s).state ls

-- 01 TEXT.3: Lines end in LF, the last perhaps not
unfoldable pub output_of : List ℕ → List ℕ
output_of input = rows 0 unstarted (lines_of input)
