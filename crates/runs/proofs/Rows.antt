-- A row has at most 71 bytes, since each of its parts is short. Assumes nothing.
use Rattle.refusals.specs.declared.Refusal.{Refusal}
use Rattle.std.specs.Prelude.{Err, Ok, Result}
use Prim.Native.Nat.{ℕ, ◌≤◌, ◌<◌}
use native.Mathlib.Omega.{arith}
use lib.ListN.{length, length-append}
use Rattle.lines.proofs.Numbers.{decimal_short}
use Rattle.refusals.specs.Refusals.{number_of}
use Rattle.refusals.proofs.Numbers.{range}
use Rattle.transfer.specs.declared.Answer.{Answer}
use Rattle.runs.specs.Rows.{word_of, row_of, longest_row}

word_short : (a : Result Answer Refusal) → length (word_of a) ≤ 5
word_short (Ok Answer.Ok) = omega arith
word_short (Ok Answer.Sent) = omega arith
word_short (Ok Answer.Drain) = omega arith
word_short (Ok Answer.Retry) = omega arith
word_short (Ok Answer.Done) = omega arith
word_short (Ok Answer.Fail) = omega arith
word_short (Ok Answer.End) = omega arith
word_short (Err k) = omega (arith, decimal_short 1 (number_of k) (omega (arith, range k)))

pub row_short : (line : ℕ) (a : Result Answer Refusal) (read balance unanswered used : ℕ) → line < 18446744073709551616 → read < 4294967296 → balance < 4294967296 → unanswered < 4294967296 → used < 4294967296 → length (row_of line a read balance unanswered used) ≤ longest_row
unfolding row_of
row_short line a read balance unanswered used h₀ h₁ h₂ h₃ h₄ =
    let l₀ = decimal_short 19 line (omega (arith, h₀)) in
    let l₁ = decimal_short 9 read (omega (arith, h₁)) in
    let l₂ = decimal_short 9 balance (omega (arith, h₂)) in
    let l₃ = decimal_short 9 unanswered (omega (arith, h₃)) in
    let l₄ = decimal_short 9 used (omega (arith, h₄)) in
    simp length-append (omega (arith, l₀, word_short a, l₁, l₂, l₃, l₄))
