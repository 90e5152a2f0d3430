-- A set of tags as one number: tag t is in it if its binary digit t is one. Assumes nothing.
use Rattle.std.specs.Prelude.{ℕ, ◌-◌, ◌/◌, ◌%◌, ◌^◌, Bool, eqb}
use Rattle.std.specs.Int.Count.{count_trailing_zeros}

abbrev pub digit : ℕ → ℕ → ℕ
digit n t = n / 2 ^ t % 2

abbrev pub has : ℕ → ℕ → Bool
has n t = eqb (digit n t) 1

-- the lowest of k tags that is not in the set, k where all are
abbrev pub lowest : ℕ → ℕ → ℕ
lowest k n = count_trailing_zeros k (2 ^ k - 1 - n)
