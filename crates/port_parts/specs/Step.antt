-- Document 01, 'Port': the steps of a choice, in the order in which they are tried. Assumes nothing.
use Rattle.std.specs.Prelude.{ℕ}

-- nothing can be done
abbrev pub nothing : ℕ
nothing = 0

-- 01 PORT.13
abbrev pub sends : ℕ
sends = 1

abbrev pub opens : ℕ
opens = 2

abbrev pub closes : ℕ
closes = 3
