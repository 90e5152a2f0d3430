-- The layouts of a write's frames a second time, typed: a frame of each kind whose numbers all differ, as its bytes lie. Assumes nothing.
use Rattle.std.specs.Prelude.{ℕ, List, [], ◌∷◌}

-- XFER_RDY with this byte 10: hashed destination 66051, hashed source 263430, tag 1800, transfer tag 2314, offset 185339150, length 252711186
abbrev pub xfer_typed : ℕ → List ℕ
xfer_typed byte10 =
    5 ∷ 1 ∷ 2 ∷ 3 ∷ 0 ∷ 4 ∷ 5 ∷ 6 ∷ 0 ∷ 0 ∷ byte10 ∷ 0 ∷ 0 ∷ 0 ∷ 0 ∷ 0 ∷ 7 ∷ 8 ∷ 9 ∷ 10 ∷ 0 ∷ 0 ∷ 0 ∷ 0
    ∷ 11 ∷ 12 ∷ 13 ∷ 14 ∷ 15 ∷ 16 ∷ 17 ∷ 18 ∷ 0 ∷ 0 ∷ 0 ∷ 0 ∷ []

abbrev pub out_body : List ℕ
out_body = 15 ∷ 16 ∷ 17 ∷ 18 ∷ 19 ∷ []

-- data out with this body: addresses and tags as above, changing data pointer 1, offset 185339150
abbrev pub out_typed : List ℕ
out_typed =
    1 ∷ 1 ∷ 2 ∷ 3 ∷ 0 ∷ 4 ∷ 5 ∷ 6 ∷ 0 ∷ 0 ∷ 1 ∷ 3 ∷ 0 ∷ 0 ∷ 0 ∷ 0 ∷ 7 ∷ 8 ∷ 9 ∷ 10 ∷ 11 ∷ 12 ∷ 13 ∷ 14
    ∷ 15 ∷ 16 ∷ 17 ∷ 18 ∷ 19 ∷ 0 ∷ 0 ∷ 0 ∷ []

abbrev pub sense_body : List ℕ
sense_body = 10 ∷ 11 ∷ 12 ∷ 13 ∷ 14 ∷ []

-- RESPONSE with this sense data: addresses and tag as above, retransmit 1, data present 2, status 9
abbrev pub sense_typed : List ℕ
sense_typed =
    7 ∷ 1 ∷ 2 ∷ 3 ∷ 0 ∷ 4 ∷ 5 ∷ 6 ∷ 0 ∷ 0 ∷ 2 ∷ 3 ∷ 0 ∷ 0 ∷ 0 ∷ 0 ∷ 7 ∷ 8 ∷ 255 ∷ 255 ∷ 0 ∷ 0 ∷ 0 ∷ 0
    ∷ 0 ∷ 0 ∷ 0 ∷ 0 ∷ 0 ∷ 0 ∷ 0 ∷ 0 ∷ 0 ∷ 0 ∷ 2 ∷ 9 ∷ 0 ∷ 0 ∷ 0 ∷ 0 ∷ 0 ∷ 0 ∷ 0 ∷ 5 ∷ 0 ∷ 0 ∷ 0 ∷ 0
    ∷ 10 ∷ 11 ∷ 12 ∷ 13 ∷ 14 ∷ 0 ∷ 0 ∷ 0 ∷ []

abbrev pub response_body : List ℕ
response_body = 10 ∷ 11 ∷ 12 ∷ 13 ∷ []

-- RESPONSE with this response data: the same addresses and tag, retransmit 0, data present 1, status 0
abbrev pub response_typed : List ℕ
response_typed =
    7 ∷ 1 ∷ 2 ∷ 3 ∷ 0 ∷ 4 ∷ 5 ∷ 6 ∷ 0 ∷ 0 ∷ 0 ∷ 0 ∷ 0 ∷ 0 ∷ 0 ∷ 0 ∷ 7 ∷ 8 ∷ 255 ∷ 255 ∷ 0 ∷ 0 ∷ 0 ∷ 0
    ∷ 0 ∷ 0 ∷ 0 ∷ 0 ∷ 0 ∷ 0 ∷ 0 ∷ 0 ∷ 0 ∷ 0 ∷ 1 ∷ 0 ∷ 0 ∷ 0 ∷ 0 ∷ 0 ∷ 0 ∷ 0 ∷ 0 ∷ 0 ∷ 0 ∷ 0 ∷ 0 ∷ 4
    ∷ 10 ∷ 11 ∷ 12 ∷ 13 ∷ []
