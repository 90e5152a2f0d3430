-- Document 01, 'Read transfer': its listing, as `readrun` reads and prints it. Assumes nothing.
use Rattle.std.specs.Prelude.{ℕ, List, [], ◌∷◌, ◌++◌}
use Rattle.lines.specs.Numbers.{decimal}
use Rattle.lines.specs.Parts.{tab, lf, joined}
use Rattle.runs.specs.Commands.{START, FRAME, ACK, NAK}
use Rattle.transfer.specs.Examples.{Line, output}
use Rattle.runs.specs.Rows.{row_of}

-- lines of tab-parted fields, each with its LF
abbrev pub text : List (List (List ℕ)) → List ℕ
text [] = []
text (l ∷ ls) = joined tab l ++ (lf ∷ text ls)

-- 01 TEXT.6: For START 0 8 4 1, then FRAME FRAME NAK ACK FRAME ACK FRAME ACK, the whole output (blanks for tabs):
abbrev pub listed : List ℕ
listed =
    text
    ((START ∷ decimal 0 ∷ decimal 8 ∷ decimal 4 ∷ decimal 1 ∷ [])
    ∷ (FRAME ∷ [])
    ∷ (FRAME ∷ [])
    ∷ (NAK ∷ [])
    ∷ (ACK ∷ [])
    ∷ (FRAME ∷ [])
    ∷ (ACK ∷ [])
    ∷ (FRAME ∷ [])
    ∷ (ACK ∷ [])
    ∷ [])

-- a row of output for each line of a listing
abbrev pub rows : List Line → List ℕ
rows [] = []
rows (l ∷ ls) = row_of l.number l.word l.read l.balance l.unanswered l.used ++ rows ls

abbrev pub printed : List ℕ
printed = rows output
