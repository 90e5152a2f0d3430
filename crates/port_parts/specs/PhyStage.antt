-- Document 01, 'Port': the stages of a phy, by their numbers. Assumes nothing.
use Rattle.std.specs.Prelude.{ℕ}

-- 01 PORT.1
abbrev pub disabled : ℕ
disabled = 0

abbrev pub unconnected : ℕ
unconnected = 1

abbrev pub opening : ℕ
opening = 2

-- connected and idle
abbrev pub idle : ℕ
idle = 3

-- connected with a frame out
abbrev pub sending : ℕ
sending = 4

-- closing and idle
abbrev pub closing : ℕ
closing = 5

-- closing with a frame out
abbrev pub closing_sending : ℕ
closing_sending = 6
