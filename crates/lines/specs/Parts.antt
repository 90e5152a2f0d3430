-- What stands between separators: the fields of a line, and the lines of a text. Assumes nothing.
use Rattle.std.specs.Prelude.{ℕ, zero, suc, ◌+◌, Bool, true, false, cond, ◌&&◌, List, [], ◌∷◌, ◌++◌, leb, eqb, length, get_or, drop}

abbrev pub tab : ℕ
tab = 9

abbrev pub lf : ℕ
lf = 10

-- a byte in front of the first part
abbrev pub add_to : ℕ → List (List ℕ) → List (List ℕ)
add_to b [] = (b ∷ []) ∷ []
add_to b (p ∷ ps) = (b ∷ p) ∷ ps

-- the parts of s between separators, where `last` is what stands behind the last byte
abbrev pub parts_of : ℕ → List (List ℕ) → List ℕ → List (List ℕ)
parts_of sep last [] = last
parts_of sep last (b ∷ s) = cond (eqb b sep) ([] ∷ parts_of sep last s) (add_to b (parts_of sep last s))

-- a line has one field more than tabs
abbrev pub fields_of : List ℕ → List (List ℕ)
fields_of s = parts_of tab ([] ∷ []) s

-- a line ends in LF, the last perhaps not; nothing behind the last LF is no line
abbrev pub lines_of : List ℕ → List (List ℕ)
lines_of s = parts_of lf [] s

-- parts with a separator between each two
abbrev pub joined : ℕ → List (List ℕ) → List ℕ
joined sep [] = []
joined sep (p ∷ []) = p
joined sep (p ∷ q ∷ ps) = p ++ (sep ∷ joined sep (q ∷ ps))

-- the fields of a line of at most `longest` bytes; a longer one has none
abbrev pub fields_within : ℕ → List ℕ → List (List ℕ)
fields_within longest s = cond (leb (length s) longest) (fields_of s) []

-- how many fields it has
abbrev pub field_count : ℕ → List ℕ → ℕ
field_count longest s = length (fields_within longest s)

-- field k of a line, counted from 0; nothing where there are fewer
abbrev pub field_at : List ℕ → ℕ → List ℕ
field_at s k = get_or (fields_of s) k []

-- where b stands first in s, or s's length
abbrev pub place_of : ℕ → List ℕ → ℕ
place_of b [] = 0
place_of b (x ∷ s) = cond (eqb x b) 0 (suc (place_of b s))

-- where b stands first in s from a place on
abbrev pub place_from : ℕ → List ℕ → ℕ → ℕ
place_from b s from = from + place_of b (drop from s)

-- what stands behind the first k tabs
abbrev pub behind_tabs : ℕ → List ℕ → List ℕ
behind_tabs zero s = s
behind_tabs (suc k) s = behind_tabs k (drop (suc (place_of tab s)) s)

abbrev pub same : List ℕ → List ℕ → Bool
same [] [] = true
same [] (y ∷ t) = false
same (x ∷ s) [] = false
same (x ∷ s) (y ∷ t) = eqb x y && same s t
