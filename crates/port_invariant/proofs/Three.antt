-- A state that keeps the rules has no ground for refusal 3, so after an accepted setup no call is refused for a state that breaks its rules. Assumes nothing.
use Rattle.std.specs.Prelude.{Err}
use mathlib.Core.Path.{◌≡◌, refl, subst}
use mathlib.Core.Bool.{Bool, true, false}
use mathlib.Core.List.{List, [], ◌∷◌}
use Prim.Native.Nat.{ℕ}
use lib.Dec.{eqb}
use borrow.Author.Tests.{eq-eqb}
use Rattle.refusals.specs.Causes.{Ground, First, here, later}
use Rattle.refusals.specs.Refusals.{number_of}
use Rattle.refusals.specs.declared.Refusal.{Refusal}
use Rattle.port_rules.specs.Kept.{Kept}
use Rattle.port.specs.Grounds.{grounds_of}
use Rattle.port.specs.History.{State, Call, setup, submit, cancel, choose, opened, open_failed, frame_status, closed, enable, disable, stepped_by, is_refused, run}
use Rattle.port.proofs.Refusals.{refused_exactly}
use Rattle.port_invariant.specs.Ranged.{Ranged}
use Rattle.port_invariant.proofs.Runs.{kept_since}

-- where the test is passed P doesn't hold
abbrev Denied : Bool → Type 0 → Type 0
Denied true P = P → ⊥
Denied false P = Unit {0}

-- no ground for refusal k holds
abbrev NoneFor : Refusal → List Ground → Type 0
NoneFor k [] = Unit {0}
NoneFor k (g ∷ gs) = Denied (eqb (number_of g.refusal) (number_of k)) g.holds × NoneFor k gs

not_first : (k : Refusal) (gs : List Ground) → NoneFor k gs → First gs k → ⊥
not_first k [] off none = elim none [ ]
not_first k (g ∷ gs) off (here h) = subst (λ (t : Bool). Denied t g.holds) (eq-eqb (number_of k) (number_of k) refl) off.0 h
not_first k (g ∷ gs) off (later n f) = not_first k gs off.1 f

module _ (s : State) (rules : Kept s.port s.list) where
  unbroken : (c : Call) → Ranged c → NoneFor Refusal.Rules (grounds_of c s)
  unbroken (setup count loss) range = (tt, (λ out. out range, tt))
  unbroken (submit x) range = (tt, (tt, (λ broken. broken rules, (tt, (tt, (tt, tt))))))
  unbroken (cancel x) range = (tt, (tt, (λ broken. broken rules, (tt, (tt, tt)))))
  unbroken (choose x) range = (tt, (λ broken. broken rules, (tt, tt)))
  unbroken (opened x) range = (tt, (λ broken. broken rules, (tt, (tt, (tt, tt)))))
  unbroken (open_failed x) range = (tt, (tt, (λ broken. broken rules, (tt, (tt, (tt, tt))))))
  unbroken (frame_status x) range = (tt, (λ broken. broken rules, (tt, (tt, (tt, tt)))))
  unbroken (closed x) range = (tt, (λ broken. broken rules, (tt, (tt, (tt, tt)))))
  unbroken (enable x) range = (tt, (λ broken. broken rules, (tt, (tt, (tt, tt)))))
  unbroken (disable x) range = (tt, (λ broken. broken rules, (tt, (tt, (tt, tt)))))

  -- a state that keeps the rules gives no refusal 3
  pub no_three : (c : Call) → Ranged c → (stepped_by c s).answer.word ≡ Err Refusal.Rules → ⊥
  no_three c range e = not_first Refusal.Rules (grounds_of c s) (unbroken c range) ((refused_exactly c s Refusal.Rules).0 e)

pub never_three_since : (count loss : ℕ) (s : State) → is_refused (stepped_by (setup count loss) s).answer.word ≡ false → (cs : List Call) (c : Call) → Ranged c
    → (stepped_by c (run (setup count loss ∷ cs) s)).answer.word ≡ Err Refusal.Rules → ⊥
never_three_since count loss s accepted cs c range = no_three (run (setup count loss ∷ cs) s) (kept_since count loss s accepted cs) c range
