-- What a run says of a whole input, taken in any blocks, and of its end is document 01's output: each LF ends the line that was
-- put together before it, and one byte more than the longest line tells a line that is too long. Assumes nothing.
use Prim.Native.Nat.{ℕ, suc, ◌+◌, ◌-◌, ◌≤◌, ◌<◌}
use mathlib.Core.Bool.{Bool, true, false, cond, ◌&&◌}
use mathlib.Core.List.{List, [], ◌∷◌, ◌++◌, append-nil, append_assoc}
use mathlib.Core.Path.{◌≡◌, refl, sym, ap, ◌∙◌}
use native.Mathlib.Omega.{arith}
use borrow.Author.Tests.{eqb-true, ltb-true, ne_eqb, le-ltb}
use lib.Dec.{eqb, ltb}
use lib.ListN.{length, take, drop, replicate, length-take, length-drop, length-append, take-append-drop}
use lib.Seq.{take-append_seam, length-take-le}
use Rattle.laws.proofs.Bools.{and_right, and_false, by_test}
use Rattle.laws.proofs.Lists.{lent_tail}
use Rattle.lines.specs.Parts.{lf, lines_of}
use Rattle.lines.proofs.Parts.{free, first_part, one_line, free_end}
use Rattle.runs.specs.Commands.{read_line, obeyed}
use Rattle.runs.specs.Rows.{row, longest_row}
use Rattle.runs.specs.Feed.{Carry, enough, carry_of, run_of, fresh, next_line, stepped, ended, longer, row_at, said_at, after_byte, after, said, takes, Feeds, closing}
use Rattle.runs.specs.Output.{rows, output_of}
use Rattle.runs.specs.declared.Run.{Run}
use Rattle.runs.specs.declared.Fed.{Fed}
use Rattle.runs.proofs.Commands.{cut}
use Rattle.runs.proofs.Carry.{take_again, after_append, said_append}

-- all that a run says from c on
abbrev pub saying : Carry → List ℕ → List ℕ
saying c x = said c x ++ said (after c x) (closing (length (after c x).begun))

-- the row of what is kept of the line p is that of p
row_kept : (p : List ℕ) (c : Carry) → c.begun ≡ take enough p → stepped c ≡ obeyed (read_line p) c.state
row_kept p c e = ap (λ (s : List ℕ). obeyed (read_line s) c.state) e ∙ ap (λ x. obeyed x c.state) (cut p)

at_end : (p : List ℕ) (c : Carry) → free lf p ≡ true → c.begun ≡ take enough p → said c (closing (length c.begun)) ≡ rows c.line c.state (lines_of p)
at_end [] c f e = ap (λ (s : List ℕ). said c (closing (length s))) e
at_end (b ∷ p) c f e =
    let some : length (take enough (b ∷ p)) ≡ 0 → ⊥ = λ z. omega (arith, length-take enough (b ∷ p)) in
    ap (λ (s : List ℕ). said c (closing (length s))) e
    ∙ ap (λ (t : Bool). said c (cond t [] (lf ∷ []))) (ne_eqb (length (take enough (b ∷ p))) 0 some)
    ∙ (λ i. row (next_line c.line) (row_kept (b ∷ p) c e i) ++ [])
    ∙ ap (rows c.line c.state) (sym (one_line lf b p f))

from_here : (x p : List ℕ) (c : Carry) → free lf p ≡ true → c.begun ≡ take enough p → saying c x ≡ rows c.line c.state (lines_of (p ++ x))
from_here [] p c f e = at_end p c f e ∙ ap (λ (s : List ℕ). rows c.line c.state (lines_of s)) (sym (append-nil p))
from_here (b ∷ x) p c f e = by (eqb b lf) refl (from_here x)
  where
    by : (t : Bool) → eqb b lf ≡ t → ((p : List ℕ) (c : Carry) → free lf p ≡ true → c.begun ≡ take enough p → saying c x ≡ rows c.line c.state (lines_of (p ++ x))) →
        (cond t (row_at c) [] ++ said (cond t (ended c) (longer c b)) x) ++ said (after (cond t (ended c) (longer c b)) x) (closing (length (after (cond t (ended c) (longer c b)) x).begun))
        ≡ rows c.line c.state (lines_of (p ++ (b ∷ x)))
    by true q rest =
        append_assoc (row_at c) (said (ended c) x) _
        ∙ ap (λ (s : List ℕ). row_at c ++ s) (rest [] (ended c) refl refl)
        ∙ (λ i. row (next_line c.line) (row_kept p c e i) ++ rows (next_line c.line) (row_kept p c e i).state (lines_of x))
        ∙ ap (rows c.line c.state) (sym (first_part lf [] p x f))
        ∙ ap (λ (y : ℕ). rows c.line c.state (lines_of (p ++ (y ∷ x)))) (sym (eqb-true b lf q))
    by false q rest =
        rest (p ++ (b ∷ [])) (longer c b) (free_end lf p b f q) (ap (λ (s : List ℕ). take enough (s ++ (b ∷ []))) e ∙ take_again enough p (b ∷ []))
        ∙ ap (λ (s : List ℕ). rows c.line c.state (lines_of s)) (append_assoc p (b ∷ []) x)

-- THE WHOLE: from the beginning, all that is said is document 01's output
pub whole : (x : List ℕ) → saying fresh x ≡ output_of x
unfolding output_of
whole x = from_here x [] fresh refl refl

-- ---- blocks

-- what a run carries is what was carried to it
pub carried : (c : Carry) → carry_of (run_of c) ≡ c
carried c = λ i. record { line = c.line; begun = take-append_seam c.begun (replicate (enough - length c.begun) 0) i; state = c.state }

-- feeding s and then t is feeding s ++ t
pub blocks : (run : Run) (s t : List ℕ) → run_of (after (carry_of (run_of (after (carry_of run) s))) t) ≡ run_of (after (carry_of run) (s ++ t))
blocks run s t = ap (λ (c : Carry). run_of (after c t)) (carried (after (carry_of run) s)) ∙ ap run_of (sym (after_append (carry_of run) s t))

pub blocks_said : (run : Run) (s t : List ℕ) → said (carry_of run) s ++ said (carry_of (run_of (after (carry_of run) s))) t ≡ said (carry_of run) (s ++ t)
blocks_said run s t = ap (λ (c : Carry). said (carry_of run) s ++ said c t) (carried (after (carry_of run) s)) ∙ sym (said_append (carry_of run) s t)

takes_le : (room : ℕ) (c : Carry) (s : List ℕ) → takes room c s ≤ length s
takes_le room c [] = omega arith
takes_le room c (b ∷ s) = by_test (λ (n : ℕ). n ≤ suc (length s)) (eqb b lf && ltb room longest_row) (λ e. omega arith) (λ e. omega (arith, takes_le (room - length (said_at c b)) (after_byte c b) s))

-- with room for a row at least one byte is taken
moves : (room : ℕ) (c : Carry) (s : List ℕ) → longest_row ≤ room → 0 < length s → 0 < takes room c s
moves room c [] h k = absurd (omega arith)
moves room c (b ∷ s) h k = let go : eqb b lf && ltb room longest_row ≡ false = and_false (eqb b lf) (le-ltb room longest_row h) in rw go (omega arith)

-- and it stops before the end only where there is no room for a row
stops_full : (room : ℕ) (c : Carry) (s : List ℕ) → takes room c s < length s → room < length (said c (take (takes room c s) s)) + longest_row
stops_full room c [] = λ h. absurd (omega arith)
stops_full room c (b ∷ s) =
    by_test (λ (n : ℕ). n < suc (length s) → room < length (said c (take n (b ∷ s))) + longest_row) (eqb b lf && ltb room longest_row)
    (λ e h. ltb-true room longest_row (and_right (eqb b lf) _ e))
    (λ e h. let rest = stops_full (room - length (said_at c b)) (after_byte c b) s (omega arith) in simp length-append (omega arith))

-- what `feed` promises, of any block and any room
module _ {run : Run} {block out : List ℕ} {r : Fed} {out' : List ℕ} (f : Feeds run block out r out') where
  taken : r.used ≡ takes (length out) (carry_of run) block
  taken = ap (λ (x : Fed). x.used) f.answer ∙ length-take-le (takes (length out) (carry_of run) block) block (takes_le (length out) (carry_of run) block)

  pub feed_within : r.used ≤ length block
  feed_within = omega (arith, taken, takes_le (length out) (carry_of run) block)

  -- 71 bytes are room for a row
  pub feed_moves : 71 ≤ length out → 0 < length block → 0 < r.used
  feed_moves l k = omega (arith, taken, moves (length out) (carry_of run) block l k)

  pub feed_stops : r.used < length block → length out < r.wrote + 71
  feed_stops h =
      let full = stops_full (length out) (carry_of run) block (omega (arith, taken)) in
      omega (arith, ap (λ (x : Fed). x.wrote) f.answer)

-- a turn of a loop that feeds what is left of an input
module _ (run : Run) (block out : List ℕ) (r : Fed) (out' : List ℕ) (f : Feeds run block out r out') where
  abbrev n : ℕ
  n = takes (length out) (carry_of run) block

  abbrev front : List ℕ
  front = take n block

  carries : carry_of r.run ≡ after (carry_of run) front
  carries = ap (λ (x : Fed). carry_of x.run) f.answer ∙ carried (after (carry_of run) front)

  -- what it leaves of the input
  left : drop n block ≡ take (length block - r.used) (drop r.used block)
  left = ap (λ (k : ℕ). drop k block) (sym (taken f)) ∙ sym (lent_tail r.used block)

  pub turn_moves : longest_row ≤ length out → 0 < length block → length (take (length block - r.used) (drop r.used block)) < length block
  turn_moves l k = omega (arith, taken f, moves (length out) (carry_of run) block l k, ap length (lent_tail r.used block), length-drop r.used block)

  pub turn_carries : after (carry_of run) block ≡ after (carry_of r.run) (take (length block - r.used) (drop r.used block))
  turn_carries =
      ap (after (carry_of run)) (sym (take-append-drop n block))
      ∙ after_append (carry_of run) front (drop n block)
      ∙ (λ i. after (sym carries i) (left i))

  pub turn_says : said (carry_of run) block ≡ take r.wrote out' ++ said (carry_of r.run) (take (length block - r.used) (drop r.used block))
  turn_says =
      let wrote : take r.wrote out' ≡ said (carry_of run) front = (λ i. take (f.answer i).wrote (f.bytes i)) ∙ take-append_seam (said (carry_of run) front) (drop (length (said (carry_of run) front)) out) in
      ap (said (carry_of run)) (sym (take-append-drop n block))
      ∙ said_append (carry_of run) front (drop n block)
      ∙ (λ i. sym wrote i ++ said (sym carries i) (left i))

  -- a run that was fed is one of what it carries
  pub turn_kept : r.run ≡ run_of (carry_of r.run)
  turn_kept =
      let is : r.run ≡ run_of (after (carry_of run) front) = ap (λ (x : Fed). x.run) f.answer in
      is ∙ sym (ap (λ (x : Run). run_of (carry_of x)) is ∙ ap run_of (carried (after (carry_of run) front)))

-- with room for a row the last line is taken
pub all_closed : (room : ℕ) (c : Carry) (len : ℕ) → longest_row ≤ room → take (takes room c (closing len)) (closing len) ≡ closing len
all_closed room c len h = by (eqb len 0)
  where
    by : (t : Bool) → take (takes room c (cond t [] (lf ∷ []))) (cond t [] (lf ∷ [])) ≡ cond t [] (lf ∷ [])
    by true = refl
    by false = ap (λ (u : Bool). take (cond u 0 1) (lf ∷ [])) (le-ltb room longest_row h)

-- what a run says of the end of its input
pub closes : (c : Carry) {run : Run} {out : List ℕ} {r : Fed} {out' : List ℕ} → run ≡ run_of c → longest_row ≤ length out → Feeds run (closing run.len) out r out'
    → take r.wrote out' ≡ said c (closing (length c.begun))
closes c {run} {out} {r} {out'} is room f =
    let all = all_closed (length out) (carry_of run) run.len room in
    let front = take (takes (length out) (carry_of run) (closing run.len)) (closing run.len) in
    (λ i. take (f.answer i).wrote (f.bytes i))
    ∙ take-append_seam (said (carry_of run) front) (drop (length (said (carry_of run) front)) out)
    ∙ ap (said (carry_of run)) all
    ∙ ap (λ (x : Run). said (carry_of x) (closing x.len)) is
    ∙ ap (λ (d : Carry). said d (closing (length c.begun))) (carried c)
