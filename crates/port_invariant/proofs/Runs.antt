-- Over any list of calls the rules are kept, since each call keeps them; so after an accepted setup no call is refused for a state that
-- breaks its rules. Assumes nothing.
use Prim.Native.Nat.{ℕ}
use mathlib.Core.Path.{◌≡◌, refl, sym, ◌∙◌}
use mathlib.Core.Bool.{false}
use mathlib.Core.List.{List, [], ◌∷◌}
use lib.ListN.{length}
use Rattle.laws.proofs.Bools.{never}
use Rattle.port_rules.specs.Kept.{Kept}
use Rattle.port.specs.History.{State, Call, setup, stepped_by, is_refused, leave, run}
use Rattle.port_invariant.proofs.Leaves.{leave_length}
use Rattle.port_invariant.proofs.Keeps.{setup_sound, keeps}

-- each call keeps the rules, and eight phys stay eight
pub kept_sound : (c : Call) (s : State) → length s.port.phys ≡ 8 → Kept s.port s.list → (length (leave c s).port.phys ≡ 8) × Kept (leave c s).port (leave c s).list
kept_sound c s eight rules = let after = keeps s (record { eight = eight; kept = rules }) c in (after.eight, after.kept)

-- so do any calls, refused ones among them
pub kept_run : (cs : List Call) (s : State) → length s.port.phys ≡ 8 → Kept s.port s.list → Kept (run cs s).port (run cs s).list
kept_run [] s eight rules = rules
kept_run (c ∷ cs) s eight rules = let after = kept_sound c s eight rules in kept_run cs (leave c s) after.0 after.1

-- and any calls after an accepted setup, whatever it was lent
pub kept_since : (count loss : ℕ) (s : State) → is_refused (stepped_by (setup count loss) s).answer.word ≡ false → (cs : List Call) → Kept (run (setup count loss ∷ cs) s).port (run (setup count loss ∷ cs) s).list
kept_since count loss s accepted cs =
    let begun = setup_sound count loss s (λ e. absurd (never (sym accepted ∙ e))) in
    kept_run cs (leave (setup count loss) s) begun.eight begun.kept

-- the list stays as long as it was lent
pub run_length : (cs : List Call) (s : State) → length (run cs s).list ≡ length s.list
run_length [] s = refl
run_length (c ∷ cs) s = run_length cs (leave c s) ∙ leave_length c s
