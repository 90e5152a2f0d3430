-- Request a) a second time, typed: the lines of the state before START, of document 01's listing and of three other histories, as bytes;
-- and lines that are not taken. Assumes nothing.
use Rattle.std.specs.Prelude.{ℕ, List, [], ◌∷◌}
use Rattle.transfer.specs.Calls.{Call, start, frame, ack, nak, timeout, lost, cancel, step_of}
use Rattle.transfer.specs.declared.Transfer.{Transfer}

-- the states that some calls of s leave, one behind each call
abbrev pub leaves : ℕ → List Call → Transfer → List Transfer
leaves bound [] s = []
leaves bound (c ∷ cs) s = (step_of bound c s).state ∷ leaves bound cs (step_of bound c s).state

-- "1\t0\t0\t0\t0\t0\t0\t0\t0\t0\tnew"
abbrev pub typed_new : List ℕ
typed_new = 49 ∷ 9 ∷ 48 ∷ 9 ∷ 48 ∷ 9 ∷ 48 ∷ 9 ∷ 48 ∷ 9 ∷ 48 ∷ 9 ∷ 48 ∷ 9 ∷ 48 ∷ 9 ∷ 48 ∷ 9 ∷ 48 ∷ 9 ∷ 110 ∷ 101 ∷ 119 ∷ []

-- the listing, a line behind each call
abbrev pub typed_listing : List (List ℕ)
typed_listing =
    -- START: "1\t0\t8\t4\t1\t0\t0\t0\t0\t0\trun"
    (49 ∷ 9 ∷ 48 ∷ 9 ∷ 56 ∷ 9 ∷ 52 ∷ 9 ∷ 49 ∷ 9 ∷ 48 ∷ 9 ∷ 48 ∷ 9 ∷ 48 ∷ 9 ∷ 48 ∷ 9 ∷ 48 ∷ 9 ∷ 114 ∷ 117 ∷ 110 ∷ [])
    -- FRAME: "1\t0\t8\t4\t1\t4\t0\t1\t1\t0\trun"
    ∷ (49 ∷ 9 ∷ 48 ∷ 9 ∷ 56 ∷ 9 ∷ 52 ∷ 9 ∷ 49 ∷ 9 ∷ 52 ∷ 9 ∷ 48 ∷ 9 ∷ 49 ∷ 9 ∷ 49 ∷ 9 ∷ 48 ∷ 9 ∷ 114 ∷ 117 ∷ 110 ∷ [])
    -- FRAME: "1\t0\t8\t4\t1\t8\t0\t2\t1\t0\trun"
    ∷ (49 ∷ 9 ∷ 48 ∷ 9 ∷ 56 ∷ 9 ∷ 52 ∷ 9 ∷ 49 ∷ 9 ∷ 56 ∷ 9 ∷ 48 ∷ 9 ∷ 50 ∷ 9 ∷ 49 ∷ 9 ∷ 48 ∷ 9 ∷ 114 ∷ 117 ∷ 110 ∷ [])
    -- NAK: "1\t0\t8\t4\t1\t8\t0\t1\t1\t0\tdrain"
    ∷ (49 ∷ 9 ∷ 48 ∷ 9 ∷ 56 ∷ 9 ∷ 52 ∷ 9 ∷ 49 ∷ 9 ∷ 56 ∷ 9 ∷ 48 ∷ 9 ∷ 49 ∷ 9 ∷ 49 ∷ 9 ∷ 48 ∷ 9 ∷ 100 ∷ 114 ∷ 97 ∷ 105 ∷ 110 ∷ [])
    -- ACK: "1\t0\t8\t4\t1\t0\t0\t0\t0\t1\trun"
    ∷ (49 ∷ 9 ∷ 48 ∷ 9 ∷ 56 ∷ 9 ∷ 52 ∷ 9 ∷ 49 ∷ 9 ∷ 48 ∷ 9 ∷ 48 ∷ 9 ∷ 48 ∷ 9 ∷ 48 ∷ 9 ∷ 49 ∷ 9 ∷ 114 ∷ 117 ∷ 110 ∷ [])
    -- FRAME: "1\t0\t8\t4\t1\t4\t0\t1\t1\t1\trun"
    ∷ (49 ∷ 9 ∷ 48 ∷ 9 ∷ 56 ∷ 9 ∷ 52 ∷ 9 ∷ 49 ∷ 9 ∷ 52 ∷ 9 ∷ 48 ∷ 9 ∷ 49 ∷ 9 ∷ 49 ∷ 9 ∷ 49 ∷ 9 ∷ 114 ∷ 117 ∷ 110 ∷ [])
    -- ACK: "1\t0\t8\t4\t1\t4\t4\t0\t1\t1\trun"
    ∷ (49 ∷ 9 ∷ 48 ∷ 9 ∷ 56 ∷ 9 ∷ 52 ∷ 9 ∷ 49 ∷ 9 ∷ 52 ∷ 9 ∷ 52 ∷ 9 ∷ 48 ∷ 9 ∷ 49 ∷ 9 ∷ 49 ∷ 9 ∷ 114 ∷ 117 ∷ 110 ∷ [])
    -- FRAME: "1\t0\t8\t4\t1\t8\t4\t1\t1\t1\trun"
    ∷ (49 ∷ 9 ∷ 48 ∷ 9 ∷ 56 ∷ 9 ∷ 52 ∷ 9 ∷ 49 ∷ 9 ∷ 56 ∷ 9 ∷ 52 ∷ 9 ∷ 49 ∷ 9 ∷ 49 ∷ 9 ∷ 49 ∷ 9 ∷ 114 ∷ 117 ∷ 110 ∷ [])
    -- ACK: "1\t0\t8\t4\t1\t8\t8\t0\t1\t1\tdone"
    ∷ (49 ∷ 9 ∷ 48 ∷ 9 ∷ 56 ∷ 9 ∷ 52 ∷ 9 ∷ 49 ∷ 9 ∷ 56 ∷ 9 ∷ 56 ∷ 9 ∷ 48 ∷ 9 ∷ 49 ∷ 9 ∷ 49 ∷ 9 ∷ 100 ∷ 111 ∷ 110 ∷ 101 ∷ [])
    ∷ []

-- START 100 50 8 R, then FRAME FRAME ACK ACK FRAME TIMEOUT FRAME LOST FRAME FRAME
abbrev pub lossy : ℕ → List Call → List Call
lossy r more = start 100 50 8 r ∷ frame ∷ frame ∷ ack ∷ ack ∷ frame ∷ timeout ∷ frame ∷ lost ∷ frame ∷ frame ∷ more

-- with R 3 and another FRAME, with R 2 and NAK, and with R 3, FRAME and CANCEL
abbrev pub lossy_calls : List (List Call)
lossy_calls = lossy 3 (frame ∷ []) ∷ lossy 2 (nak ∷ []) ∷ lossy 3 (frame ∷ cancel ∷ []) ∷ []

abbrev pub typed_lossy : List (List ℕ)
typed_lossy =
    -- "1\t100\t50\t8\t3\t140\t116\t3\t1\t2\trun"
    (49 ∷ 9 ∷ 49 ∷ 48 ∷ 48 ∷ 9 ∷ 53 ∷ 48 ∷ 9 ∷ 56 ∷ 9 ∷ 51 ∷ 9 ∷ 49 ∷ 52 ∷ 48 ∷ 9 ∷ 49 ∷ 49 ∷ 54 ∷ 9 ∷ 51 ∷ 9 ∷ 49 ∷ 9 ∷ 50 ∷ 9 ∷ 114 ∷ 117 ∷ 110 ∷ [])
    -- "1\t100\t50\t8\t2\t132\t116\t0\t1\t2\tfail"
    ∷ (49 ∷ 9 ∷ 49 ∷ 48 ∷ 48 ∷ 9 ∷ 53 ∷ 48 ∷ 9 ∷ 56 ∷ 9 ∷ 50 ∷ 9 ∷ 49 ∷ 51 ∷ 50 ∷ 9 ∷ 49 ∷ 49 ∷ 54 ∷ 9 ∷ 48 ∷ 9 ∷ 49 ∷ 9 ∷ 50 ∷ 9 ∷ 102 ∷ 97 ∷ 105 ∷ 108 ∷ [])
    -- "1\t100\t50\t8\t3\t140\t116\t0\t1\t2\tend"
    ∷ (49 ∷ 9 ∷ 49 ∷ 48 ∷ 48 ∷ 9 ∷ 53 ∷ 48 ∷ 9 ∷ 56 ∷ 9 ∷ 51 ∷ 9 ∷ 49 ∷ 52 ∷ 48 ∷ 9 ∷ 49 ∷ 49 ∷ 54 ∷ 9 ∷ 48 ∷ 9 ∷ 49 ∷ 9 ∷ 50 ∷ 9 ∷ 101 ∷ 110 ∷ 100 ∷ [])
    ∷ []

-- lines of other forms, and the last four with numbers that no history leaves
abbrev pub other_lines : List (List ℕ)
other_lines =
    -- a zero in front of a number: "1\t0\t8\t4\t1\t04\t0\t1\t1\t0\trun"
    (49 ∷ 9 ∷ 48 ∷ 9 ∷ 56 ∷ 9 ∷ 52 ∷ 9 ∷ 49 ∷ 9 ∷ 48 ∷ 52 ∷ 9 ∷ 48 ∷ 9 ∷ 49 ∷ 9 ∷ 49 ∷ 9 ∷ 48 ∷ 9 ∷ 114 ∷ 117 ∷ 110 ∷ [])
    -- a tab in front: "\t1\t0\t8\t4\t1\t4\t0\t1\t1\t0\trun"
    ∷ (9 ∷ 49 ∷ 9 ∷ 48 ∷ 9 ∷ 56 ∷ 9 ∷ 52 ∷ 9 ∷ 49 ∷ 9 ∷ 52 ∷ 9 ∷ 48 ∷ 9 ∷ 49 ∷ 9 ∷ 49 ∷ 9 ∷ 48 ∷ 9 ∷ 114 ∷ 117 ∷ 110 ∷ [])
    -- a tab behind: "1\t0\t8\t4\t1\t4\t0\t1\t1\t0\trun\t"
    ∷ (49 ∷ 9 ∷ 48 ∷ 9 ∷ 56 ∷ 9 ∷ 52 ∷ 9 ∷ 49 ∷ 9 ∷ 52 ∷ 9 ∷ 48 ∷ 9 ∷ 49 ∷ 9 ∷ 49 ∷ 9 ∷ 48 ∷ 9 ∷ 114 ∷ 117 ∷ 110 ∷ 9 ∷ [])
    -- a space for a tab: "1\t0 8\t4\t1\t4\t0\t1\t1\t0\trun"
    ∷ (49 ∷ 9 ∷ 48 ∷ 32 ∷ 56 ∷ 9 ∷ 52 ∷ 9 ∷ 49 ∷ 9 ∷ 52 ∷ 9 ∷ 48 ∷ 9 ∷ 49 ∷ 9 ∷ 49 ∷ 9 ∷ 48 ∷ 9 ∷ 114 ∷ 117 ∷ 110 ∷ [])
    -- a sign: "1\t0\t8\t4\t1\t+4\t0\t1\t1\t0\trun"
    ∷ (49 ∷ 9 ∷ 48 ∷ 9 ∷ 56 ∷ 9 ∷ 52 ∷ 9 ∷ 49 ∷ 9 ∷ 43 ∷ 52 ∷ 9 ∷ 48 ∷ 9 ∷ 49 ∷ 9 ∷ 49 ∷ 9 ∷ 48 ∷ 9 ∷ 114 ∷ 117 ∷ 110 ∷ [])
    -- an LF behind: "1\t0\t8\t4\t1\t4\t0\t1\t1\t0\trun\n"
    ∷ (49 ∷ 9 ∷ 48 ∷ 9 ∷ 56 ∷ 9 ∷ 52 ∷ 9 ∷ 49 ∷ 9 ∷ 52 ∷ 9 ∷ 48 ∷ 9 ∷ 49 ∷ 9 ∷ 49 ∷ 9 ∷ 48 ∷ 9 ∷ 114 ∷ 117 ∷ 110 ∷ 10 ∷ [])
    -- a CR behind: "1\t0\t8\t4\t1\t4\t0\t1\t1\t0\trun\r"
    ∷ (49 ∷ 9 ∷ 48 ∷ 9 ∷ 56 ∷ 9 ∷ 52 ∷ 9 ∷ 49 ∷ 9 ∷ 52 ∷ 9 ∷ 48 ∷ 9 ∷ 49 ∷ 9 ∷ 49 ∷ 9 ∷ 48 ∷ 9 ∷ 114 ∷ 117 ∷ 110 ∷ 13 ∷ [])
    -- ten fields: "1\t0\t8\t4\t1\t4\t0\t1\t1\trun"
    ∷ (49 ∷ 9 ∷ 48 ∷ 9 ∷ 56 ∷ 9 ∷ 52 ∷ 9 ∷ 49 ∷ 9 ∷ 52 ∷ 9 ∷ 48 ∷ 9 ∷ 49 ∷ 9 ∷ 49 ∷ 9 ∷ 114 ∷ 117 ∷ 110 ∷ [])
    -- twelve fields: "1\t0\t8\t4\t1\t4\t0\t1\t1\t0\t0\trun"
    ∷ (49 ∷ 9 ∷ 48 ∷ 9 ∷ 56 ∷ 9 ∷ 52 ∷ 9 ∷ 49 ∷ 9 ∷ 52 ∷ 9 ∷ 48 ∷ 9 ∷ 49 ∷ 9 ∷ 49 ∷ 9 ∷ 48 ∷ 9 ∷ 48 ∷ 9 ∷ 114 ∷ 117 ∷ 110 ∷ [])
    -- nothing: ""
    ∷ []
    -- form 0: "0\t0\t8\t4\t1\t4\t0\t1\t1\t0\trun"
    ∷ (48 ∷ 9 ∷ 48 ∷ 9 ∷ 56 ∷ 9 ∷ 52 ∷ 9 ∷ 49 ∷ 9 ∷ 52 ∷ 9 ∷ 48 ∷ 9 ∷ 49 ∷ 9 ∷ 49 ∷ 9 ∷ 48 ∷ 9 ∷ 114 ∷ 117 ∷ 110 ∷ [])
    -- form 2: "2\t0\t8\t4\t1\t4\t0\t1\t1\t0\trun"
    ∷ (50 ∷ 9 ∷ 48 ∷ 9 ∷ 56 ∷ 9 ∷ 52 ∷ 9 ∷ 49 ∷ 9 ∷ 52 ∷ 9 ∷ 48 ∷ 9 ∷ 49 ∷ 9 ∷ 49 ∷ 9 ∷ 48 ∷ 9 ∷ 114 ∷ 117 ∷ 110 ∷ [])
    -- N past the largest number: "1\t0\t4294967296\t4\t1\t0\t0\t0\t0\t0\trun"
    ∷ (49 ∷ 9 ∷ 48 ∷ 9 ∷ 52 ∷ 50 ∷ 57 ∷ 52 ∷ 57 ∷ 54 ∷ 55 ∷ 50 ∷ 57 ∷ 54 ∷ 9 ∷ 52 ∷ 9 ∷ 49 ∷ 9 ∷ 48 ∷ 9 ∷ 48 ∷ 9 ∷ 48 ∷ 9 ∷ 48 ∷ 9 ∷ 48 ∷ 9 ∷ 114 ∷ 117 ∷ 110 ∷ [])
    -- sent neither 0 nor 1: "1\t0\t8\t4\t1\t4\t0\t1\t2\t0\trun"
    ∷ (49 ∷ 9 ∷ 48 ∷ 9 ∷ 56 ∷ 9 ∷ 52 ∷ 9 ∷ 49 ∷ 9 ∷ 52 ∷ 9 ∷ 48 ∷ 9 ∷ 49 ∷ 9 ∷ 50 ∷ 9 ∷ 48 ∷ 9 ∷ 114 ∷ 117 ∷ 110 ∷ [])
    -- a phase in capitals: "1\t0\t8\t4\t1\t4\t0\t1\t1\t0\tRUN"
    ∷ (49 ∷ 9 ∷ 48 ∷ 9 ∷ 56 ∷ 9 ∷ 52 ∷ 9 ∷ 49 ∷ 9 ∷ 52 ∷ 9 ∷ 48 ∷ 9 ∷ 49 ∷ 9 ∷ 49 ∷ 9 ∷ 48 ∷ 9 ∷ 82 ∷ 85 ∷ 78 ∷ [])
    -- a space behind the phase: "1\t0\t8\t4\t1\t4\t0\t1\t1\t0\trun "
    ∷ (49 ∷ 9 ∷ 48 ∷ 9 ∷ 56 ∷ 9 ∷ 52 ∷ 9 ∷ 49 ∷ 9 ∷ 52 ∷ 9 ∷ 48 ∷ 9 ∷ 49 ∷ 9 ∷ 49 ∷ 9 ∷ 48 ∷ 9 ∷ 114 ∷ 117 ∷ 110 ∷ 32 ∷ [])
    -- no phase: "1\t0\t8\t4\t1\t4\t0\t1\t1\t0\t"
    ∷ (49 ∷ 9 ∷ 48 ∷ 9 ∷ 56 ∷ 9 ∷ 52 ∷ 9 ∷ 49 ∷ 9 ∷ 52 ∷ 9 ∷ 48 ∷ 9 ∷ 49 ∷ 9 ∷ 49 ∷ 9 ∷ 48 ∷ 9 ∷ [])
    -- new, and not all zeros: "1\t0\t8\t4\t1\t0\t0\t0\t0\t0\tnew"
    ∷ (49 ∷ 9 ∷ 48 ∷ 9 ∷ 56 ∷ 9 ∷ 52 ∷ 9 ∷ 49 ∷ 9 ∷ 48 ∷ 9 ∷ 48 ∷ 9 ∷ 48 ∷ 9 ∷ 48 ∷ 9 ∷ 48 ∷ 9 ∷ 110 ∷ 101 ∷ 119 ∷ [])
    -- the balance past the read offset: "1\t0\t12\t4\t1\t4\t8\t0\t1\t0\trun"
    ∷ (49 ∷ 9 ∷ 48 ∷ 9 ∷ 49 ∷ 50 ∷ 9 ∷ 52 ∷ 9 ∷ 49 ∷ 9 ∷ 52 ∷ 9 ∷ 56 ∷ 9 ∷ 48 ∷ 9 ∷ 49 ∷ 9 ∷ 48 ∷ 9 ∷ 114 ∷ 117 ∷ 110 ∷ [])
    -- 65 unanswered: "1\t0\t260\t4\t1\t260\t0\t65\t1\t0\trun"
    ∷ (49 ∷ 9 ∷ 48 ∷ 9 ∷ 50 ∷ 54 ∷ 48 ∷ 9 ∷ 52 ∷ 9 ∷ 49 ∷ 9 ∷ 50 ∷ 54 ∷ 48 ∷ 9 ∷ 48 ∷ 9 ∷ 54 ∷ 53 ∷ 9 ∷ 49 ∷ 9 ∷ 48 ∷ 9 ∷ 114 ∷ 117 ∷ 110 ∷ [])
    -- a drain with none unanswered: "1\t0\t8\t4\t1\t8\t0\t0\t1\t0\tdrain"
    ∷ (49 ∷ 9 ∷ 48 ∷ 9 ∷ 56 ∷ 9 ∷ 52 ∷ 9 ∷ 49 ∷ 9 ∷ 56 ∷ 9 ∷ 48 ∷ 9 ∷ 48 ∷ 9 ∷ 49 ∷ 9 ∷ 48 ∷ 9 ∷ 100 ∷ 114 ∷ 97 ∷ 105 ∷ 110 ∷ [])
    ∷ []
