-- Document 01, 'Read transfer': what a line of input says. Assumes nothing.
use Rattle.std.specs.Prelude.{ℕ, ◌≤◌, cond, List, [], ◌∷◌, None, Option, Some}
use Rattle.lines.specs.Numbers.{read_number, decimal}
use Rattle.lines.specs.Parts.{tab, joined, fields_within, field_at, same}
use Rattle.refusals.specs.declared.Refusal.{Refusal}
use Rattle.transfer.specs.Steps.{limit, refused}
use Rattle.transfer.specs.Calls.{start, frame, ack, nak, timeout, lost, nexus, cancel, step_of}
use Rattle.transfer.specs.declared.Transfer.{Transfer}
use Rattle.transfer.specs.declared.Stepped.{Stepped}
use Rattle.runs.specs.Letters.{A, C, E, F, I, K, L, M, N, O, R, S, T, U, X}
use Rattle.runs.specs.declared.Command.{Command}
use Rattle.runs.specs.declared.Command.TheVariants.{Start, Frame, Ack, Nak, Timeout, Lost, Nexus, Cancel}

abbrev pub START : List ℕ
START = S ∷ T ∷ A ∷ R ∷ T ∷ []

abbrev pub FRAME : List ℕ
FRAME = F ∷ R ∷ A ∷ M ∷ E ∷ []

abbrev pub ACK : List ℕ
ACK = A ∷ C ∷ K ∷ []

abbrev pub NAK : List ℕ
NAK = N ∷ A ∷ K ∷ []

abbrev pub TIMEOUT : List ℕ
TIMEOUT = T ∷ I ∷ M ∷ E ∷ O ∷ U ∷ T ∷ []

abbrev pub LOST : List ℕ
LOST = L ∷ O ∷ S ∷ T ∷ []

abbrev pub NEXUS : List ℕ
NEXUS = N ∷ E ∷ X ∷ U ∷ S ∷ []

abbrev pub CANCEL : List ℕ
CANCEL = C ∷ A ∷ N ∷ C ∷ E ∷ L ∷ []

-- 01 TEXT.4: numbers are decimal, at most 4,294,967,295, no sign or leading zero
abbrev pub largest : ℕ
largest = 4294967295

-- bytes of a line, LF not counted
abbrev pub longest : ℕ
longest = 255

-- START with its numbers, where all four are numbers
abbrev pub starting : Option ℕ → Option ℕ → Option ℕ → Option ℕ → Option Command
starting None n m r = None
starting (Some b) None m r = None
starting (Some b) (Some n) None r = None
starting (Some b) (Some n) (Some m) None = None
starting (Some b) (Some n) (Some m) (Some r) = Some (Start b n m r)

-- the numbers behind START
abbrev pub start_of : List ℕ → Option Command
start_of s = starting (read_number largest (field_at s 1)) (read_number largest (field_at s 2)) (read_number largest (field_at s 3)) (read_number largest (field_at s 4))

-- the command of one word
abbrev pub command_named : List ℕ → Option Command
command_named w =
    cond (same w FRAME) (Some Frame)
    (cond (same w ACK) (Some Ack)
    (cond (same w NAK) (Some Nak)
    (cond (same w TIMEOUT) (Some Timeout)
    (cond (same w LOST) (Some Lost)
    (cond (same w NEXUS) (Some Nexus)
    (cond (same w CANCEL) (Some Cancel) None))))))

-- 01 TEXT.1: `readrun` reads tab-parted lines from standard input: START B N M R, FRAME, ACK, NAK, TIMEOUT, LOST, NEXUS, CANCEL.
unfoldable pub command_of : List (List ℕ) → Option Command
command_of [] = None
command_of (w ∷ []) = command_named w
command_of (w ∷ b ∷ []) = None
command_of (w ∷ b ∷ n ∷ []) = None
command_of (w ∷ b ∷ n ∷ m ∷ []) = None
command_of (w ∷ b ∷ n ∷ m ∷ r ∷ []) = cond (same w START) (starting (read_number largest b) (read_number largest n) (read_number largest m) (read_number largest r)) None
command_of (w ∷ b ∷ n ∷ m ∷ r ∷ x ∷ fs) = None

unfoldable pub read_line : List ℕ → Option Command
read_line s = command_of (fields_within longest s)

-- how a command is written; no line says that it is bad
abbrev pub written : Option Command → List ℕ
written (Some (Start b n m r)) = joined tab (START ∷ decimal b ∷ decimal n ∷ decimal m ∷ decimal r ∷ [])
written (Some Frame) = FRAME
written (Some Ack) = ACK
written (Some Nak) = NAK
written (Some Timeout) = TIMEOUT
written (Some Lost) = LOST
written (Some Nexus) = NEXUS
written (Some Cancel) = CANCEL
written None = []

-- the numbers of a command are those that a line can have
abbrev pub Writable : Option Command → Type 0
Writable (Some (Start b n m r)) = (b ≤ largest) × (n ≤ largest) × (m ≤ largest) × (r ≤ largest)
Writable (Some Frame) = Unit {0}
Writable (Some Ack) = Unit {0}
Writable (Some Nak) = Unit {0}
Writable (Some Timeout) = Unit {0}
Writable (Some Lost) = Unit {0}
Writable (Some Nexus) = Unit {0}
Writable (Some Cancel) = Unit {0}
Writable None = ⊥

-- what it does to a transfer
-- 01 REFUSAL.2: line isn't one listed here
-- 01 TEXT.5: other lines and those over 255 bytes, LF not counted, are 2.
unfoldable pub obeyed : Option Command → Transfer → Stepped
obeyed (Some (Start b n m r)) s = step_of limit (start b n m r) s
obeyed (Some Frame) s = step_of limit frame s
obeyed (Some Ack) s = step_of limit ack s
obeyed (Some Nak) s = step_of limit nak s
obeyed (Some Timeout) s = step_of limit timeout s
obeyed (Some Lost) s = step_of limit lost s
obeyed (Some Nexus) s = step_of limit nexus s
obeyed (Some Cancel) s = step_of limit cancel s
obeyed None s = refused s Refusal.Unlisted
