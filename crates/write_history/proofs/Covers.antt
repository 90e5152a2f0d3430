-- Frames that lie end to end from b cover the bytes up to the end of the last, each once, since a byte lies before a frame or behind it or in it
-- alone. Assumes nothing.
use Prim.Native.Nat.{ℕ, ◌≤◌, ◌<◌}
use mathlib.Core.List.{List, [], ◌∷◌}
use mathlib.Core.Logic.{◌⊎◌, inl, inr}
use mathlib.Core.Path.{◌≡◌}
use native.Mathlib.Omega.{arith}
use Rattle.laws.proofs.Tests.{below_or_not}
use Rattle.write_history.specs.History.{Data}
use Rattle.write_history.specs.Demand.{last_end, EndToEnd, InNone, InOne, Inside, Covers}

-- no frame ends before b
pub at_least : (b : ℕ) (ds : List Data) → EndToEnd b ds → b ≤ last_end b ds
at_least b [] o = omega arith
at_least b (d ∷ ds) o = let l = at_least b ds o.1 in let e = o.0 in omega arith

-- a byte behind the last frame lies in none
behind : (b x : ℕ) (ds : List Data) → EndToEnd b ds → last_end b ds ≤ x → InNone x ds
behind b x [] o l = tt
behind b x (d ∷ ds) o l =
    let e = o.0 in
    (λ i. (let p = i.1 in absurd (omega arith)), behind b x ds o.1 (omega arith))

pub once : (b x : ℕ) (ds : List Data) → EndToEnd b ds → b ≤ x → x < last_end b ds → InOne x ds
once b x [] o l m = absurd (omega arith)
once b x (d ∷ ds) o l m = by (once b x ds o.1 l) (below_or_not x d.offset)
  where
    by : (x < last_end b ds → InOne x ds) → (x < d.offset) ⊎ (d.offset ≤ x) → InOne x (d ∷ ds)
    by rest (inl before) = inr ((λ i. (let p = i.0 in absurd (omega arith))), rest (let e = o.0 in omega arith))
    by rest (inr from) = inl ((from, m), behind b x ds o.1 (let e = o.0 in omega arith))

inside : (b e : ℕ) (ds : List Data) → EndToEnd b ds → last_end b ds ≤ e → Inside b e ds
inside b e [] o l = tt
inside b e (d ∷ ds) o l =
    let at = o.0 in
    let least = at_least b ds o.1 in
    ((omega arith, l), inside b e ds o.1 (omega arith))

pub covers : (b e : ℕ) (ds : List Data) → EndToEnd b ds → last_end b ds ≡ e → Covers b e ds
covers b e ds o is = record { once = λ x l m. once b x ds o l (omega arith); inside = inside b e ds o (omega arith) }
