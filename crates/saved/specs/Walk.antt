-- How a line is walked from tab to tab, and what it is put together from. Assumes nothing.
use Rattle.std.specs.Prelude.{ℕ, ◌≤◌, Bool, true, false, cond, ◌&&◌, Option, Some, None, List, [], ◌∷◌, ◌++◌, ◌≡◌, ltb, length, drop}
use Rattle.lines.specs.Numbers.{decimal}
use Rattle.lines.specs.Parts.{tab, fields_of}
use Rattle.transfer.specs.declared.Transfer.{Transfer}
use Rattle.saved.specs.Saved.{all_numbers, front, numbers_of, shaped, state_of}
use Rattle.saved.specs.declared.Columns.{Columns}

-- numbers, each with a tab behind it
abbrev pub tabbed : List ℕ → List ℕ
tabbed [] = []
tabbed (n ∷ ns) = decimal n ++ (tab ∷ tabbed ns)

-- ten numbers stand in front, and a field behind them
abbrev pub has_columns : List ℕ → Bool
has_columns line = ltb 10 (length (fields_of line)) && all_numbers (front line)

-- the ten, and where that field begins
pub record Columned (line : List ℕ) (r : Columns) : Type 0 where
  pub there : has_columns line ≡ true
  pub numbers : r.numbers ≡ numbers_of (front line)
  pub within : r.next ≤ length line
  pub rest : fields_of line ≡ front line ++ fields_of (drop r.next line)

-- what `read_columns` finds
abbrev pub ColumnsRead : List ℕ → Option Columns → Type 0
ColumnsRead line None = has_columns line ≡ false
ColumnsRead line (Some r) = Columned line r

-- what a reader of lines of a form finds
abbrev pub line_read : ℕ → List ℕ → Option Transfer
line_read form line = cond (shaped form line) (Some (state_of line)) None
