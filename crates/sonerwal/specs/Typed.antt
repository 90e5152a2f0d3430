-- Document 01's layouts a second time, typed: a frame of each kind whose numbers all differ, as C gives and gets them and as its bytes lie;
-- those of a write's frames lie in ssp_frame. Assumes nothing.
use Rattle.std.specs.Prelude.{ℕ, List, [], ◌∷◌}

-- initiator, protocol, features, rate, tag, destination, source, PBC, AWT
abbrev pub open_numbers : List ℕ
open_numbers = 1 ∷ 2 ∷ 3 ∷ 9 ∷ 258 ∷ 1161981756646125696 ∷ 9332165983064197000 ∷ 19 ∷ 5141 ∷ []

-- the bytes of their frame
abbrev pub open_typed : List ℕ
open_typed = 161 ∷ 57 ∷ 1 ∷ 2 ∷ 16 ∷ 32 ∷ 48 ∷ 64 ∷ 80 ∷ 96 ∷ 112 ∷ 128 ∷ 129 ∷ 130 ∷ 131 ∷ 132 ∷ 133 ∷ 134 ∷ 135 ∷ 136 ∷ 0 ∷ 19 ∷ 20 ∷ 21 ∷ 0 ∷ 0 ∷ 0 ∷ 0 ∷ []

-- hashed destination, hashed source, changing data pointer, tag, offset
abbrev pub data_numbers : List ℕ
data_numbers = 66051 ∷ 263430 ∷ 1 ∷ 1800 ∷ 151653132 ∷ []

abbrev pub data_body : List ℕ
data_body = 13 ∷ 14 ∷ 15 ∷ 16 ∷ 17 ∷ []

-- the bytes of their frame, with this body
abbrev pub data_typed : List ℕ
data_typed = 1 ∷ 1 ∷ 2 ∷ 3 ∷ 0 ∷ 4 ∷ 5 ∷ 6 ∷ 0 ∷ 0 ∷ 1 ∷ 3 ∷ 0 ∷ 0 ∷ 0 ∷ 0 ∷ 7 ∷ 8 ∷ 255 ∷ 255 ∷ 9 ∷ 10 ∷ 11 ∷ 12 ∷ 13 ∷ 14 ∷ 15 ∷ 16 ∷ 17 ∷ 0 ∷ 0 ∷ 0 ∷ []

-- hashed destination, hashed source, retransmit, retry data frames, tag, transfer tag, offset, length
abbrev pub xfer_numbers : ℕ → ℕ → List ℕ
xfer_numbers retransmit retry = 66051 ∷ 263430 ∷ retransmit ∷ retry ∷ 1800 ∷ 2314 ∷ 185339150 ∷ 252711186 ∷ []

-- hashed destination, hashed source, changing data pointer, tag, transfer tag, offset
abbrev pub out_numbers : List ℕ
out_numbers = 66051 ∷ 263430 ∷ 1 ∷ 1800 ∷ 2314 ∷ 185339150 ∷ []

-- hashed destination, hashed source, retransmit, tag, data present, status: with sense data, and with response data
abbrev pub sense_numbers : List ℕ
sense_numbers = 66051 ∷ 263430 ∷ 1 ∷ 1800 ∷ 2 ∷ 9 ∷ []

abbrev pub response_numbers : List ℕ
response_numbers = 66051 ∷ 263430 ∷ 0 ∷ 1800 ∷ 1 ∷ 0 ∷ []
