-- Document 01, 'OPEN address frame': the wait value. Assumes nothing.
use Rattle.std.specs.Prelude.{ℕ, ◌+◌, ◌-◌, ◌/◌, min, cond, ltb}
use Rattle.open_frame.specs.declared.Awt.{Awt}

-- 01 OPEN.7: Wait value of e elapsed microseconds: e below 32,768; from there 32,768 plus the whole thousands in e - 32,768, at most 65,535.
abbrev pub wait_of : ℕ → ℕ
wait_of e = cond (ltb e 32768) e (min (32768 + (e - 32768) / 1000) 65535)

abbrev pub wait_value : ℕ → Awt
wait_value e = record { 0 = wait_of e }
