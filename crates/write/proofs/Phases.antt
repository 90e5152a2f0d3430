-- A phase by its tests: each phase passes them or not. Assumes nothing.
use mathlib.Core.Path.{◌≡◌, refl}
use mathlib.Core.Bool.{true}
use mathlib.Core.Logic.{inl, inr}
use Rattle.laws.proofs.Bools.{impossible}
use Rattle.write.specs.Steps.{unfinished, asking, waiting, taking}
use Rattle.write.specs.Grounds.{Unfinished}
use Rattle.write.specs.declared.Phase.{Phase}

pub ask_phase : (p : Phase) → asking p ≡ true → p ≡ Phase.Ask
ask_phase Phase.New e = impossible e
ask_phase Phase.Ask e = refl
ask_phase Phase.Wait e = impossible e
ask_phase Phase.Take e = impossible e
ask_phase Phase.Done e = impossible e
ask_phase Phase.Fail e = impossible e
ask_phase Phase.End e = impossible e

pub wait_phase : (p : Phase) → waiting p ≡ true → p ≡ Phase.Wait
wait_phase Phase.New e = impossible e
wait_phase Phase.Ask e = impossible e
wait_phase Phase.Wait e = refl
wait_phase Phase.Take e = impossible e
wait_phase Phase.Done e = impossible e
wait_phase Phase.Fail e = impossible e
wait_phase Phase.End e = impossible e

pub take_phase : (p : Phase) → taking p ≡ true → p ≡ Phase.Take
take_phase Phase.New e = impossible e
take_phase Phase.Ask e = impossible e
take_phase Phase.Wait e = impossible e
take_phase Phase.Take e = refl
take_phase Phase.Done e = impossible e
take_phase Phase.Fail e = impossible e
take_phase Phase.End e = impossible e

pub work_phase : (p : Phase) → unfinished p ≡ true → Unfinished p
work_phase Phase.New e = impossible e
work_phase Phase.Ask e = inl refl
work_phase Phase.Wait e = inr (inl refl)
work_phase Phase.Take e = inr (inr refl)
work_phase Phase.Done e = impossible e
work_phase Phase.Fail e = impossible e
work_phase Phase.End e = impossible e
