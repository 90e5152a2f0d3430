-- A refusal names no slot and changes no timer, so that it leaves every record. Assumes nothing.
use Prim.Native.Nat.{ℕ, zero, suc, ◌≤◌, ◌<◌}
use native.Mathlib.Omega.{arith}
use mathlib.Core.Path.{◌≡◌, refl, ap, ◌∙◌}
use mathlib.Core.Bool.{Bool, cond}
use mathlib.Core.List.{List}
use lib.ListN.{get_or, set}
use borrow.Author.Tests.{ne_eqb}
use lib.Seq.{set-get_or}
use Rattle.laws.specs.Folds.{map_to}
use Rattle.port_parts.specs.Parts.{blank}
use Rattle.port_parts.specs.declared.Port.{Port}
use Rattle.port_parts.specs.declared.Request.{Request}
use Rattle.refusals.specs.declared.Refusal.{Refusal}
use Rattle.port_rows.specs.Answers.{refused_by}
use Rattle.port_rows.specs.Records.{left_step}
use Rattle.port.specs.Calls.{left_of}

-- a refusal changes no record
left_alone : (r : Request) (i : ℕ) (p : Port) (k : Refusal) → i < 32 → left_step r i (refused_by p k) ≡ r
left_alone r i p k h = ap (λ (t : Bool). cond t blank r) (ne_eqb i 32 (λ e. omega arith))

left_all : (l : List Request) (p : Port) (k : Refusal) (n : ℕ) → n ≤ 32 → map_to blank (λ r i. left_step r i (refused_by p k)) l n ≡ l
unfolding map_to
left_all l p k zero h = refl
left_all l p k (suc n) h =
    let before = left_all l p k n (omega arith) in
    (λ i. set (before i) n (left_step (get_or (before i) n blank) n (refused_by p k))) ∙ ap (set l n) (left_alone (get_or l n blank) n p k (omega arith)) ∙ set-get_or l n blank

-- 01 REFUSAL.12
pub refused_leaves : (l : List Request) (p : Port) (k : Refusal) → left_of l (refused_by p k) ≡ l
refused_leaves l p k = left_all l p k 32 (omega arith)
