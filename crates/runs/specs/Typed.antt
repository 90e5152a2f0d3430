-- Document 01, 'Read transfer': readrun's lines and words a second time, typed as bytes. Assumes nothing.
use Rattle.std.specs.Prelude.{ℕ, List, [], ◌∷◌, Err, Ok, Result, Option, Some}
use Rattle.refusals.specs.declared.Refusal.{Refusal}
use Rattle.transfer.specs.Calls.{Call, start, frame, ack, nak, timeout, lost, nexus, cancel}
use Rattle.transfer.specs.declared.Answer.{Answer}
use Rattle.runs.specs.declared.Command.{Command}
use Rattle.runs.specs.declared.Command.TheVariants.{Start, Frame, Ack, Nak, Timeout, Lost, Nexus, Cancel}

-- "START\t1\t2\t3\t4", "START\t4294967295\t0\t10\t0", "FRAME", "ACK", "NAK", "TIMEOUT", "LOST", "NEXUS", "CANCEL"
abbrev pub typed_lines : List (List ℕ)
typed_lines =
    (83 ∷ 84 ∷ 65 ∷ 82 ∷ 84 ∷ 9 ∷ 49 ∷ 9 ∷ 50 ∷ 9 ∷ 51 ∷ 9 ∷ 52 ∷ [])
    ∷ (83 ∷ 84 ∷ 65 ∷ 82 ∷ 84 ∷ 9 ∷ 52 ∷ 50 ∷ 57 ∷ 52 ∷ 57 ∷ 54 ∷ 55 ∷ 50 ∷ 57 ∷ 53 ∷ 9 ∷ 48 ∷ 9 ∷ 49 ∷ 48 ∷ 9 ∷ 48 ∷ [])
    ∷ (70 ∷ 82 ∷ 65 ∷ 77 ∷ 69 ∷ [])
    ∷ (65 ∷ 67 ∷ 75 ∷ [])
    ∷ (78 ∷ 65 ∷ 75 ∷ [])
    ∷ (84 ∷ 73 ∷ 77 ∷ 69 ∷ 79 ∷ 85 ∷ 84 ∷ [])
    ∷ (76 ∷ 79 ∷ 83 ∷ 84 ∷ [])
    ∷ (78 ∷ 69 ∷ 88 ∷ 85 ∷ 83 ∷ [])
    ∷ (67 ∷ 65 ∷ 78 ∷ 67 ∷ 69 ∷ 76 ∷ [])
    ∷ []

-- the commands that they say, and the calls that these are
abbrev pub typed_commands : List (Option Command)
typed_commands = Some (Start 1 2 3 4) ∷ Some (Start 4294967295 0 10 0) ∷ Some Frame ∷ Some Ack ∷ Some Nak ∷ Some Timeout ∷ Some Lost ∷ Some Nexus ∷ Some Cancel ∷ []

abbrev pub typed_calls : List Call
typed_calls = start 1 2 3 4 ∷ start 4294967295 0 10 0 ∷ frame ∷ ack ∷ nak ∷ timeout ∷ lost ∷ nexus ∷ cancel ∷ []

-- "", "frame", "FRAME ", "FRAME\t", "START 1 2 3 4", "START\t1\t2\t3", "START\t1\t2\t3\t4\t5", "START\t\t2\t3\t4", "START\t+1\t2\t3\t4", "START\t-1\t2\t3\t4", "START\t01\t2\t3\t4", "START\t1\t2\t3\t4294967296", "ACK\r"
abbrev pub other_lines : List (List ℕ)
other_lines =
    []
    ∷ (102 ∷ 114 ∷ 97 ∷ 109 ∷ 101 ∷ [])
    ∷ (70 ∷ 82 ∷ 65 ∷ 77 ∷ 69 ∷ 32 ∷ [])
    ∷ (70 ∷ 82 ∷ 65 ∷ 77 ∷ 69 ∷ 9 ∷ [])
    ∷ (83 ∷ 84 ∷ 65 ∷ 82 ∷ 84 ∷ 32 ∷ 49 ∷ 32 ∷ 50 ∷ 32 ∷ 51 ∷ 32 ∷ 52 ∷ [])
    ∷ (83 ∷ 84 ∷ 65 ∷ 82 ∷ 84 ∷ 9 ∷ 49 ∷ 9 ∷ 50 ∷ 9 ∷ 51 ∷ [])
    ∷ (83 ∷ 84 ∷ 65 ∷ 82 ∷ 84 ∷ 9 ∷ 49 ∷ 9 ∷ 50 ∷ 9 ∷ 51 ∷ 9 ∷ 52 ∷ 9 ∷ 53 ∷ [])
    ∷ (83 ∷ 84 ∷ 65 ∷ 82 ∷ 84 ∷ 9 ∷ 9 ∷ 50 ∷ 9 ∷ 51 ∷ 9 ∷ 52 ∷ [])
    ∷ (83 ∷ 84 ∷ 65 ∷ 82 ∷ 84 ∷ 9 ∷ 43 ∷ 49 ∷ 9 ∷ 50 ∷ 9 ∷ 51 ∷ 9 ∷ 52 ∷ [])
    ∷ (83 ∷ 84 ∷ 65 ∷ 82 ∷ 84 ∷ 9 ∷ 45 ∷ 49 ∷ 9 ∷ 50 ∷ 9 ∷ 51 ∷ 9 ∷ 52 ∷ [])
    ∷ (83 ∷ 84 ∷ 65 ∷ 82 ∷ 84 ∷ 9 ∷ 48 ∷ 49 ∷ 9 ∷ 50 ∷ 9 ∷ 51 ∷ 9 ∷ 52 ∷ [])
    ∷ (83 ∷ 84 ∷ 65 ∷ 82 ∷ 84 ∷ 9 ∷ 49 ∷ 9 ∷ 50 ∷ 9 ∷ 51 ∷ 9 ∷ 52 ∷ 50 ∷ 57 ∷ 52 ∷ 57 ∷ 54 ∷ 55 ∷ 50 ∷ 57 ∷ 54 ∷ [])
    ∷ (65 ∷ 67 ∷ 75 ∷ 13 ∷ [])
    ∷ []

-- "ok", "sent", "drain", "retry", "done", "fail", "end", "1", "2", "3", "4", "5", "6", "7", "8", "9", "10"
abbrev pub typed_words : List (List ℕ)
typed_words =
    (111 ∷ 107 ∷ [])
    ∷ (115 ∷ 101 ∷ 110 ∷ 116 ∷ [])
    ∷ (100 ∷ 114 ∷ 97 ∷ 105 ∷ 110 ∷ [])
    ∷ (114 ∷ 101 ∷ 116 ∷ 114 ∷ 121 ∷ [])
    ∷ (100 ∷ 111 ∷ 110 ∷ 101 ∷ [])
    ∷ (102 ∷ 97 ∷ 105 ∷ 108 ∷ [])
    ∷ (101 ∷ 110 ∷ 100 ∷ [])
    ∷ (49 ∷ [])
    ∷ (50 ∷ [])
    ∷ (51 ∷ [])
    ∷ (52 ∷ [])
    ∷ (53 ∷ [])
    ∷ (54 ∷ [])
    ∷ (55 ∷ [])
    ∷ (56 ∷ [])
    ∷ (57 ∷ [])
    ∷ (49 ∷ 48 ∷ [])
    ∷ []

abbrev pub typed_answers : List (Result Answer Refusal)
typed_answers =
    (Ok Answer.Ok)
    ∷ (Ok Answer.Sent)
    ∷ (Ok Answer.Drain)
    ∷ (Ok Answer.Retry)
    ∷ (Ok Answer.Done)
    ∷ (Ok Answer.Fail)
    ∷ (Ok Answer.End)
    ∷ Err Refusal.Length
    ∷ Err Refusal.Unlisted
    ∷ Err Refusal.Rules
    ∷ Err Refusal.Phy
    ∷ Err Refusal.Past
    ∷ Err Refusal.Unfit
    ∷ Err Refusal.Due
    ∷ Err Refusal.Sent
    ∷ Err Refusal.Present
    ∷ Err Refusal.Full
    ∷ []

-- "7\tdone\t11\t12\t13\t14\n"
abbrev pub typed_row : List ℕ
typed_row = 55 ∷ 9 ∷ 100 ∷ 111 ∷ 110 ∷ 101 ∷ 9 ∷ 49 ∷ 49 ∷ 9 ∷ 49 ∷ 50 ∷ 9 ∷ 49 ∷ 51 ∷ 9 ∷ 49 ∷ 52 ∷ 10 ∷ []

-- the listing's lines in, and its lines out
abbrev pub typed_input : List ℕ
typed_input =
    83 ∷ 84 ∷ 65 ∷ 82 ∷ 84 ∷ 9 ∷ 48 ∷ 9 ∷ 56 ∷ 9 ∷ 52 ∷ 9 ∷ 49 ∷ 10
    ∷ 70 ∷ 82 ∷ 65 ∷ 77 ∷ 69 ∷ 10
    ∷ 70 ∷ 82 ∷ 65 ∷ 77 ∷ 69 ∷ 10
    ∷ 78 ∷ 65 ∷ 75 ∷ 10
    ∷ 65 ∷ 67 ∷ 75 ∷ 10
    ∷ 70 ∷ 82 ∷ 65 ∷ 77 ∷ 69 ∷ 10
    ∷ 65 ∷ 67 ∷ 75 ∷ 10
    ∷ 70 ∷ 82 ∷ 65 ∷ 77 ∷ 69 ∷ 10
    ∷ 65 ∷ 67 ∷ 75 ∷ 10
    ∷ []

abbrev pub typed_output : List ℕ
typed_output =
    49 ∷ 9 ∷ 111 ∷ 107 ∷ 9 ∷ 48 ∷ 9 ∷ 48 ∷ 9 ∷ 48 ∷ 9 ∷ 48 ∷ 10
    ∷ 50 ∷ 9 ∷ 115 ∷ 101 ∷ 110 ∷ 116 ∷ 9 ∷ 52 ∷ 9 ∷ 48 ∷ 9 ∷ 49 ∷ 9 ∷ 48 ∷ 10
    ∷ 51 ∷ 9 ∷ 115 ∷ 101 ∷ 110 ∷ 116 ∷ 9 ∷ 56 ∷ 9 ∷ 48 ∷ 9 ∷ 50 ∷ 9 ∷ 48 ∷ 10
    ∷ 52 ∷ 9 ∷ 100 ∷ 114 ∷ 97 ∷ 105 ∷ 110 ∷ 9 ∷ 56 ∷ 9 ∷ 48 ∷ 9 ∷ 49 ∷ 9 ∷ 48 ∷ 10
    ∷ 53 ∷ 9 ∷ 114 ∷ 101 ∷ 116 ∷ 114 ∷ 121 ∷ 9 ∷ 48 ∷ 9 ∷ 48 ∷ 9 ∷ 48 ∷ 9 ∷ 49 ∷ 10
    ∷ 54 ∷ 9 ∷ 115 ∷ 101 ∷ 110 ∷ 116 ∷ 9 ∷ 52 ∷ 9 ∷ 48 ∷ 9 ∷ 49 ∷ 9 ∷ 49 ∷ 10
    ∷ 55 ∷ 9 ∷ 111 ∷ 107 ∷ 9 ∷ 52 ∷ 9 ∷ 52 ∷ 9 ∷ 48 ∷ 9 ∷ 49 ∷ 10
    ∷ 56 ∷ 9 ∷ 115 ∷ 101 ∷ 110 ∷ 116 ∷ 9 ∷ 56 ∷ 9 ∷ 52 ∷ 9 ∷ 49 ∷ 9 ∷ 49 ∷ 10
    ∷ 57 ∷ 9 ∷ 100 ∷ 111 ∷ 110 ∷ 101 ∷ 9 ∷ 56 ∷ 9 ∷ 56 ∷ 9 ∷ 48 ∷ 9 ∷ 49 ∷ 10
    ∷ []
