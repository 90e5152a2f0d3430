-- Document 01, 'Port': the stages of a request, by their numbers; those of a free record too. Assumes nothing.
use Rattle.std.specs.Prelude.{ℕ}

-- no request
abbrev pub free : ℕ
free = 0

abbrev pub waiting : ℕ
waiting = 1

-- on a phy
abbrev pub in_progress : ℕ
in_progress = 2
