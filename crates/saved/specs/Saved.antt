-- Document 02, request a): the line of a transfer, which lines have that form, and which of them some history leaves. The form's number is
-- an argument: columns 1 to 10 and the phase at the end are those of every form. Assumes nothing.
use Rattle.std.specs.Prelude.{ℕ, Bool, true, false, not, cond, ◌&&◌, List, [], ◌∷◌, ◌++◌, map, ◌≡◌, ltb, leb, eqb, length, take, drop, get_or, Err, Ok, None, Option, Some}
use Rattle.laws.specs.Names.{flag}
use Rattle.lines.specs.Numbers.{is_number, value_from, decimal}
use Rattle.lines.specs.Parts.{tab, fields_of, field_at, joined, same}
use Rattle.refusals.specs.Causes.{Cause, ◌when◌, refuse}
use Rattle.refusals.specs.declared.Refusal.{Refusal}
use Rattle.transfer.specs.Rules.{unstarted, keeps_rules}
use Rattle.transfer.specs.Steps.{limit}
use Rattle.transfer.specs.declared.Transfer.{Transfer}
use Rattle.transfer.specs.declared.Phase.{Phase}
use Rattle.saved.specs.declared.Restored.{Restored}
use Rattle.saved.specs.declared.Saved.{Saved}

-- ---- the forms, of which form 1 is the only one so far

-- the form that is written
abbrev pub newest : ℕ
newest = 1

-- how many frames a line of a form may have unanswered: the form's own number, whatever the calls' is
abbrev pub bound_of : ℕ → ℕ
bound_of form = 64

-- bytes that hold every line of a form: 1, 10, 10, 4, 3, 10, 10, 2, 1 and 3 digits, 5 letters and 10 tabs
abbrev pub room_of : ℕ → ℕ
room_of form = 69

-- ---- the line of a transfer

-- 02 a.2: form 1, B, N, M, R, read offset, balance, unanswered, whether a frame was sent in the attempt (0 or 1), resends used
abbrev pub columns : ℕ → Transfer → List ℕ
columns form s =
    form
    ∷ s.offset
    ∷ s.count
    ∷ s.size
    ∷ s.resends
    ∷ s.read
    ∷ s.balance
    ∷ s.unanswered
    ∷ flag s.sent
    ∷ s.used
    ∷ []

-- 02 a.2: phase as new, run, drain, done, fail or end
abbrev pub phase_word : Phase → List ℕ
-- "new"
phase_word Phase.New = 110 ∷ 101 ∷ 119 ∷ []
-- "run"
phase_word Phase.Run = 114 ∷ 117 ∷ 110 ∷ []
-- "drain"
phase_word Phase.Drain = 100 ∷ 114 ∷ 97 ∷ 105 ∷ 110 ∷ []
-- "done"
phase_word Phase.Done = 100 ∷ 111 ∷ 110 ∷ 101 ∷ []
-- "fail"
phase_word Phase.Fail = 102 ∷ 97 ∷ 105 ∷ 108 ∷ []
-- "end"
phase_word Phase.End = 101 ∷ 110 ∷ 100 ∷ []

-- 02 a.2: Write the transfer as one tab-parted line (form 1, B, N, M, R, read offset, balance, unanswered, whether a frame was sent in the attempt (0 or 1), resends used, phase as new, run, drain, done, fail or end) and read it back.
unfoldable pub line_of : ℕ → Transfer → List ℕ
line_of form s = joined tab (map decimal (columns form s) ++ (phase_word s.phase ∷ []))

-- ---- what a line says

-- numbers are readrun's: decimal, at most 4,294,967,295, no sign or leading zero
abbrev pub largest : ℕ
largest = 4294967295

abbrev pub all_numbers : List (List ℕ) → Bool
all_numbers [] = true
all_numbers (f ∷ fs) = is_number largest f && all_numbers fs

-- the ten fields in front, and the numbers that they say
abbrev pub front : List ℕ → List (List ℕ)
front line = take 10 (fields_of line)

abbrev pub numbers_of : List (List ℕ) → List ℕ
numbers_of fs = map (value_from 0) fs

-- column k of a line, counted from 0
abbrev pub column_of : List ℕ → ℕ → ℕ
column_of line k = get_or (numbers_of (front line)) k 0

-- the phase that a word names
abbrev pub phase_named : List ℕ → Option Phase
phase_named w =
    cond (same w (phase_word Phase.New)) (Some Phase.New)
    (cond (same w (phase_word Phase.Run)) (Some Phase.Run)
    (cond (same w (phase_word Phase.Drain)) (Some Phase.Drain)
    (cond (same w (phase_word Phase.Done)) (Some Phase.Done)
    (cond (same w (phase_word Phase.Fail)) (Some Phase.Fail)
    (cond (same w (phase_word Phase.End)) (Some Phase.End) None)))))

abbrev pub is_phase : Option Phase → Bool
is_phase (Some p) = true
is_phase None = false

-- where there is none nobody asks
abbrev pub phase_in : Option Phase → Phase
phase_in (Some p) = p
phase_in None = Phase.New

-- the line has a form: eleven fields, ten numbers and a phase, of which the first is the form's own and the ninth 0 or 1
abbrev pub shaped : ℕ → List ℕ → Bool
shaped form line =
    eqb (length (fields_of line)) 11
    && (all_numbers (front line)
    && (eqb (column_of line 0) form && (leb (column_of line 8) 1 && is_phase (phase_named (field_at line 10)))))

-- the transfer that ten numbers and a phase say: `columns` backwards
abbrev pub state_by : List ℕ → Phase → Transfer
state_by ns p =
    record {
      offset = get_or ns 1 0;
      count = get_or ns 2 0;
      size = get_or ns 3 0;
      resends = get_or ns 4 0;
      read = get_or ns 5 0;
      balance = get_or ns 6 0;
      unanswered = get_or ns 7 0;
      sent = eqb (get_or ns 8 0) 1;
      used = get_or ns 9 0;
      phase = p;
    }

-- 02 a.2: and read it back
abbrev pub state_of : List ℕ → Transfer
state_of line = state_by (numbers_of (front line)) (phase_in (phase_named (field_at line 10)))

-- 02 a.3: Only a line whose numbers some history could leave is taken, and a taken one continues exactly as the saved transfer would.
abbrev pub taken : ℕ → List ℕ → Bool
taken form line = shaped form line && keeps_rules (bound_of form) (state_of line)

-- ---- the calls

-- 01 REFUSAL.2: line isn't one listed here
-- 02 a.5: Refusals: any other line is 2.
abbrev pub restore_causes : List ℕ → List Cause
restore_causes line = (Refusal.Unlisted when not (taken 1 line)) ∷ []

abbrev pub restored : Transfer → Restored
restored s = record { answer = Ok tt; state = s }

abbrev pub unrestored : Refusal → Restored
unrestored k = record { answer = Err k; state = unstarted }

-- what `restore` gives: a refusal gives the state before START
unfoldable pub restore_of : List ℕ → Restored
restore_of line = refuse unrestored (restore_causes line) (restored (state_of line))

-- 01 REFUSAL.1 01 REFUSAL.3 01 REFUSAL.11
-- what `save` is refused for: the output has no room for every line of the form, or the state breaks the rules of the calls
abbrev pub save_causes : ℕ → Transfer → List ℕ → List Cause
save_causes form s out =
    (Refusal.Length when ltb (length out) (room_of form))
    ∷ (Refusal.Rules when not (keeps_rules limit s))
    ∷ []

abbrev pub unsaved : Refusal → Saved
unsaved k = record { answer = Err k; length = 0 }

-- a line at the front of an output, whose other bytes stay
abbrev pub laid : List ℕ → List ℕ → List ℕ
laid line out = line ++ drop (length line) out

-- what `save` promises of its answer r and of the output as it leaves it
pub record Save (form : ℕ) (s : Transfer) (before : List ℕ) (r : Saved) (after : List ℕ) : Type 0 where
  pub answer : r ≡ refuse unsaved (save_causes form s before) (record { answer = Ok tt; length = length (line_of form s) })
  pub bytes : after ≡ refuse (λ _. before) (save_causes form s before) (laid (line_of form s) before)
