-- The tests of a state, read as facts on its numbers and on its phase. Assumes nothing.
use Prim.Native.Nat.{◌≤◌}
use mathlib.Core.Bool.{true}
use mathlib.Core.Path.{◌≡◌, refl, ap}
use Rattle.laws.specs.Tests.{Says}
use Rattle.laws.proofs.Bools.{impossible}
use Rattle.laws.proofs.Tests.{most, equal, both, either}
use Rattle.reply.specs.Rules.{counted, phase_rule, keeps_rules}
use Rattle.reply.specs.Steps.{asks, waits, unfinished}
use Rattle.reply.specs.Grounds.{InRange, Unfinished}
use Rattle.reply.specs.declared.Reply.{Reply}
use Rattle.reply.specs.declared.Phase.{Phase}

abbrev pub Counted : Reply → Type 0
Counted s = InRange s.resends × (s.used ≤ s.resends)

abbrev pub PhaseRule : Phase → Reply → Type 0
PhaseRule Phase.New s = (s.resends ≡ 0) × (s.used ≡ 0)
PhaseRule Phase.Ask s = Counted s
PhaseRule Phase.Wait s = Counted s
PhaseRule Phase.Done s = Counted s
PhaseRule Phase.Fail s = Counted s × (s.used ≡ s.resends)
PhaseRule Phase.End s = Counted s

counted_says : (s : Reply) → Says (counted s) (Counted s)
counted_says s = both (most s.resends 255) (most s.used s.resends)

phase_says : (p : Phase) (s : Reply) → Says (phase_rule p s) (PhaseRule p s)
phase_says Phase.New s = both (equal s.resends 0) (equal s.used 0)
phase_says Phase.Ask s = counted_says s
phase_says Phase.Wait s = counted_says s
phase_says Phase.Done s = counted_says s
phase_says Phase.Fail s = both (counted_says s) (equal s.used s.resends)
phase_says Phase.End s = counted_says s

pub rules_say : (s : Reply) → Says (keeps_rules s) (PhaseRule s.phase s)
unfolding keeps_rules
rules_say s = phase_says s.phase s

-- a phase by its tests
pub in_ask : (p : Phase) → asks p ≡ true → p ≡ Phase.Ask
in_ask Phase.New e = impossible e
in_ask Phase.Ask e = refl
in_ask Phase.Wait e = impossible e
in_ask Phase.Done e = impossible e
in_ask Phase.Fail e = impossible e
in_ask Phase.End e = impossible e

pub in_wait : (p : Phase) → waits p ≡ true → p ≡ Phase.Wait
in_wait Phase.New e = impossible e
in_wait Phase.Ask e = impossible e
in_wait Phase.Wait e = refl
in_wait Phase.Done e = impossible e
in_wait Phase.Fail e = impossible e
in_wait Phase.End e = impossible e

pub ask_says : (p : Phase) → Says (asks p) (p ≡ Phase.Ask)
ask_says p = (in_ask p, λ e. ap asks e)

pub wait_says : (p : Phase) → Says (waits p) (p ≡ Phase.Wait)
wait_says p = (in_wait p, λ e. ap waits e)

pub unfinished_says : (p : Phase) → Says (unfinished p) (Unfinished p)
unfinished_says p = either (ask_says p) (wait_says p)
