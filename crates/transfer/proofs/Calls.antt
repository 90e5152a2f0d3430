-- What the checks of a call leave known, for the code behind them: a state that keeps its rules and is unfinished has its numbers in
-- their ranges. Assumes nothing.
use Rattle.refusals.specs.declared.Refusal.{Refusal}
use Rattle.std.specs.Prelude.{Err, Ok, Result}
use Prim.Native.Nat.{ℕ, ◌+◌, ◌≤◌, ◌<◌}
use mathlib.Core.Path.{◌≡◌, refl, sym, ap, ◌∙◌}
use mathlib.Core.Bool.{Bool, true, false, not, ◌||◌}
use mathlib.Core.Logic.{◌⊎◌, inl, inr, ⊎_elim}
use native.Mathlib.Omega.{arith}
use lib.Dec.{leb, eqb}
use borrow.Author.Tests.{not-true, not-false, eqb-false, leb-false}
use Rattle.laws.proofs.Bools.{never, nor}
use Rattle.transfer.specs.Rules.{end_of, unstarted, frames_out, keeps_rules}
use Rattle.transfer.specs.Steps.{unfinished, draining, frame_length, answer_causes}
use Rattle.transfer.specs.declared.Transfer.{Transfer}
use Rattle.transfer.specs.declared.Phase.{Phase}
use Rattle.refusals.specs.Causes.{refuse}
use Rattle.refusals.proofs.Causes.{none_given}
use Rattle.transfer.proofs.Facts.{Started, PhaseRule, rules_say}

-- a function's answer x is a test t of the definitions, and the code went on by it
module _ {x t : Bool} (is : x ≡ t) where
  pub off : not x ≡ true → t ≡ false
  off e = sym is ∙ not-true x e

  pub on : not x ≡ false → t ≡ true
  on e = sym is ∙ not-false x e

  pub or_none : (n : ℕ) {v : Bool} → not x || eqb n 0 ≡ v → not t || eqb n 0 ≡ v
  or_none n e = ap (λ (b : Bool). not b || eqb n 0) (sym is) ∙ e

-- the transfer is unfinished, and a frame unanswered
pub some_left : (s : Transfer) → not (unfinished s.phase) || eqb s.unanswered 0 ≡ false → (unfinished s.phase ≡ true) × (0 < s.unanswered)
some_left s e =
    let both = nor (not (unfinished s.phase)) (eqb s.unanswered 0) e in
    let some = eqb-false s.unanswered 0 both.1 in
    (not-false (unfinished s.phase) both.0, omega arith)

module _ (bound : ℕ) (s : Transfer) (kept : keeps_rules bound s ≡ true) where
  pub underway : unfinished s.phase ≡ true → Started bound s
  underway e =
      ⊎_elim (λ (z : s ≡ unstarted). absurd (never (ap (λ (t : Transfer). unfinished t.phase) (sym z) ∙ e))) (λ (w : Started bound s). w) ((rules_say bound s).0 kept)

  drain_again : (p : Phase) → draining p ≡ true → PhaseRule bound (end_of s) (frames_out s) p s → s.used < s.resends
  drain_again Phase.New e h = absurd (never e)
  drain_again Phase.Run e h = absurd (never e)
  drain_again Phase.Drain e h = h.1.1.0
  drain_again Phase.Done e h = absurd (never e)
  drain_again Phase.Fail e h = absurd (never e)
  drain_again Phase.End e h = absurd (never e)

  -- while draining a resend is left
  pub again : unfinished s.phase ≡ true → draining s.phase ≡ true → s.used < s.resends
  again e d = drain_again s.phase d (underway e).1

  -- the next frame ends within the request
  pub frame_fits : unfinished s.phase ≡ true → s.read + frame_length s ≤ 4294967295
  frame_fits e =
      let placed = (underway e).0.0 in
      let sum = placed.0.1.0 in
      let last = placed.1.1.1.0 in
      omega arith

-- what the check of an answer leaves known
pub record Answerable (bound : ℕ) (s : Transfer) : Type 0 where
  pub kept : keeps_rules bound s ≡ true
  pub underway : unfinished s.phase ≡ true
  pub some : 0 < s.unanswered

pub answerable : (bound : ℕ) (s : Transfer) {x : Result (Unit {0}) Refusal} → x ≡ refuse Err (answer_causes bound s) (Ok tt) → x ≡ Ok tt → Answerable bound s
answerable bound s is passed =
    let off = none_given (answer_causes bound s) is passed in
    let left = some_left s off.1.0 in
    record { kept = not-false (keeps_rules bound s) off.0; underway = left.0; some = left.1 }

-- a phase by its tests
pub run_phase : (p : Phase) → unfinished p ≡ true → draining p ≡ false → p ≡ Phase.Run
run_phase Phase.New u d = absurd (never u)
run_phase Phase.Run u d = refl
run_phase Phase.Drain u d = absurd (never (sym d))
run_phase Phase.Done u d = absurd (never u)
run_phase Phase.Fail u d = absurd (never u)
run_phase Phase.End u d = absurd (never u)

pub drain_phase : (p : Phase) → draining p ≡ true → p ≡ Phase.Drain
drain_phase Phase.New d = absurd (never d)
drain_phase Phase.Run d = absurd (never d)
drain_phase Phase.Drain d = refl
drain_phase Phase.Done d = absurd (never d)
drain_phase Phase.Fail d = absurd (never d)
drain_phase Phase.End d = absurd (never d)

pub work : (p : Phase) → unfinished p ≡ true → (p ≡ Phase.Run) ⊎ (p ≡ Phase.Drain)
work Phase.New u = absurd (never u)
work Phase.Run u = inl refl
work Phase.Drain u = inr refl
work Phase.Done u = absurd (never u)
work Phase.Fail u = absurd (never u)
work Phase.End u = absurd (never u)
