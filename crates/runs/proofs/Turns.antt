-- A turn of `feed` takes one line more, and where it stops, it has taken what its promise says. Assumes nothing.
use Prim.Native.Nat.{ℕ, ◌+◌, ◌-◌, ◌≤◌}
use mathlib.Core.Bool.{Bool, true, false, ◌||◌}
use mathlib.Core.List.{List, [], ◌++◌}
use mathlib.Core.Path.{◌≡◌, refl, sym, ap, ◌∙◌, subst}
use native.Mathlib.Omega.{arith}
use borrow.Author.Tests.{eq-eqb}
use lib.Dec.{eqb, ltb}
use lib.ListN.{length, take, drop, length-take}
use lib.Seq.{length-take-le}
use Rattle.lines.specs.Parts.{lf, place_from}
use Rattle.lines.specs.Puts.{Put}
use Rattle.lines.proofs.Parts.{past}
use Rattle.lines.proofs.Puts.{then, nothing, kept, fits_front}
use Rattle.transfer.specs.declared.Transfer.{Transfer}
use Rattle.runs.specs.Rows.{row, longest_row}
use Rattle.runs.specs.Feed.{Carry, enough, carry_of, run_of, next_line, stepped, ended, row_at, after, said, takes, fed_of, Takes, Feeds}
use Rattle.runs.specs.declared.Run.{Run}
use Rattle.runs.specs.declared.Taken.{Taken}
use Rattle.runs.proofs.Carry.{on, Going, going_first, there, stops, going_line, end_inside}

-- the carry of a run whose parts these are
abbrev pub carry : ℕ → ℕ → List ℕ → Transfer → Carry
carry line len keep state = record { line = line; begun = take len keep; state = state }

-- what holds at each turn
pub record Loop (c₀ : Carry) (block out₀ out : List ℕ) (line len : ℕ) (keep : List ℕ) (state : Transfer) (at i : ℕ) : Type 0 where
  pub w : List ℕ
  pub size : length keep ≡ enough
  pub bytes : Put out₀ 0 w at out
  pub going : Going c₀ block (length out₀) (carry line len keep state) w i

pub loop_first : (block out : List ℕ) (line len : ℕ) (keep : List ℕ) (state : Transfer) → length keep ≡ enough → Loop (carry line len keep state) block out out line len keep state 0 0
loop_first block out line len keep state h =
    record {
      w = [];
      size = h;
      bytes = nothing out 0;
      going = going_first (carry line len keep state) block (length out) (omega (arith, h, length-take len keep));
    }

module _ {c₀ : Carry} {block out₀ out : List ℕ} {line len : ℕ} {keep : List ℕ} {state : Transfer} {at i : ℕ} (l : Loop c₀ block out₀ out line len keep state at i) where
  -- all that was said was written
  pub said_all : at ≡ length l.w
  said_all = omega (arith, l.bytes.place, l.going.room)

  module _ {end : ℕ} (e : end ≡ place_from lf block i) where
    abbrev piece : List ℕ
    piece = take (end - i) (drop i block)

    -- the test of the code is that of the definition
    same_test : eqb end (length block) || ltb (length out - at) longest_row ≡ eqb end (length block) || ltb (length out₀ - length l.w) longest_row
    same_test = λ j. eqb end (length block) || ltb (kept l.bytes j - said_all j) longest_row

    pub loop_line : eqb end (length block) || ltb (length out - at) longest_row ≡ false →
        {k : ℕ} → k ≡ next_line line → {r : Taken} {out' keep' : List ℕ} → length keep' ≡ enough →
        Takes k state (take enough (take len keep ++ piece)) out at r out' → Loop c₀ block out₀ out' k 0 keep' r.state r.place (end + 1)
    loop_line h {k} n {r} {out'} {keep'} s t =
        let c : Carry = on (carry line len keep state) piece in
        let row_is : Put out at (row_at c) r.place out' = subst (λ (m : ℕ). Put out at (row m (stepped c)) r.place out') n t.bytes in
        let short : length (row_at c) ≤ longest_row = subst (λ (m : ℕ). length (row m (stepped c)) ≤ longest_row) n t.short in
        let left : ended c ≡ carry k 0 keep' r.state = λ j. record { line = sym n j; begun = []; state = sym t.state j } in
        record {
          w = l.w ++ row_at c;
          size = s;
          bytes = then l.bytes row_is;
          going = subst (λ (d : Carry). Going c₀ block (length out₀) d (l.w ++ row_at c) (end + 1)) left (going_line l.going e (sym same_test ∙ h) short);
        }

    -- it stops there, and what has begun is carried over
    pub loop_stop : eqb end (length block) || ltb (length out - at) longest_row ≡ true → (run : Run) → c₀ ≡ carry_of run → {r : Run} → r ≡ run_of (on (carry line len keep state) piece) → Feeds run block out₀ (record { run = r; used = end; wrote = at }) out
    loop_stop h run q {r} z =
        let all : takes (length out₀) c₀ block ≡ end = stops l.going e (sym same_test ∙ h) in
        let t = there l.going e in
        let bytes : take end block ≡ take (takes (length out₀) (carry_of run) block) block = ap (λ (n : ℕ). take n block) (sym all) ∙ ap (λ (c : Carry). take (takes (length out₀) c block) block) q in
        let carried : on (carry line len keep state) piece ≡ after (carry_of run) (take end block) = sym t.0 ∙ ap (λ (c : Carry). after c (take end block)) q in
        let words : l.w ≡ said (carry_of run) (take end block) = sym t.1 ∙ ap (λ (c : Carry). said c (take end block)) q in
        let used : end ≡ length (take end block) = sym (length-take-le end block (end_inside l.going e)) in
        record {
          answer =
              (λ j. record { run = (z ∙ ap run_of carried) j; used = used j; wrote = (said_all ∙ ap length words) j })
              ∙ ap (fed_of run) bytes;
          bytes = fits_front l.bytes l.going.room ∙ ap (λ (v : List ℕ). v ++ drop (length v) out₀) (words ∙ ap (said (carry_of run)) bytes);
          within = omega (arith, said_all, l.going.room);
        }

  -- the block has ended
  pub loop_end : length block ≤ i → (run : Run) → c₀ ≡ carry_of run → {r : Run} → r ≡ run_of (on (carry line len keep state) (take (length block - i) (drop i block))) → Feeds run block out₀ (record { run = r; used = i; wrote = at }) out
  loop_end h run q {r} z =
      let all : i ≡ length block = omega (arith, l.going.inside) in
      let e : length block ≡ place_from lf block i = omega (arith, past lf block i h) in
      let stop = loop_stop e (ap (λ (t : Bool). t || ltb (length out - at) longest_row) (eq-eqb (length block) (length block) refl)) run q z in
      subst (λ (n : ℕ). Feeds run block out₀ (record { run = r; used = n; wrote = at }) out) (sym all) stop
