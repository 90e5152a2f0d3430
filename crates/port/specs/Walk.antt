-- Which records a call may change: all if the list is cleared or a loss timer changes, else the one that its answer names. Assumes
-- nothing.
use Rattle.std.specs.Prelude.{ℕ, suc, Bool, cond, ◌||◌, ltb, is_some}
use Rattle.port_rows.specs.declared.Done.{Done}

abbrev pub changes_all : Done → Bool
changes_all d = d.cleared || is_some d.loss

-- place s of the list, its end if there is no such place
abbrev pub place_or32 : ℕ → ℕ
place_or32 s = cond (ltb s 32) s 32

abbrev pub behind_or32 : ℕ → ℕ
behind_or32 s = cond (ltb s 32) (suc s) 32

-- the first of them, and the place behind the last
unfoldable pub walk_from : Done → ℕ
walk_from d = cond (changes_all d) 0 (place_or32 d.answer.slot)

unfoldable pub walk_to : Done → ℕ
walk_to d = cond (changes_all d) 32 (behind_or32 d.answer.slot)
