-- The test of a frame, read as facts on its numbers. Assumes nothing.
use Prim.Native.Nat.{ℕ, ◌+◌, ◌%◌, ◌≤◌}
use mathlib.Core.Path.{◌≡◌}
use Rattle.laws.specs.Tests.{Says}
use Rattle.laws.proofs.Tags.{has_says}
use Rattle.laws.proofs.Tests.{most, equal, both, either, implies, means}
use Rattle.write.specs.Rules.{until}
use Rattle.write.specs.Steps.{taking, awaited, sized, within, in_order, fits}
use Rattle.write.specs.Grounds.{Within, Fits}
use Rattle.write.specs.declared.Write.{Write}
use Rattle.write.specs.declared.Phase.{Phase}
use Rattle.write.proofs.Phases.{take_phase}

pub sized_says : (n : ℕ) → Says (sized n) ((1 ≤ n) × (n ≤ 1024))
sized_says n = both (most 1 n) (most n 1024)

pub within_says : (o n : ℕ) (s : Write) → Says (within o n s) (Within o n s)
within_says o n s =
    means (both (most s.next o) (both (most (o + n) (until s)) (either (equal (n % 4) 0) (equal (o + n) (until s)))))
    (λ h. record { from = h.0; to = h.1.0; words = h.1.1 }, λ w. (w.from, (w.to, w.words)))

take_says : (s : Write) → Says (taking s.phase) (s.phase ≡ Phase.Take)
take_says s = (take_phase s.phase, λ (e : s.phase ≡ Phase.Take) i. taking (e i))

pub awaited_says : (t : ℕ) (s : Write) → Says (awaited t s) ((s.phase ≡ Phase.Take) × (t ≡ s.tag))
awaited_says t s = both (take_says s) (equal t s.tag)

order_says : (t o : ℕ) (s : Write) → Says (in_order t o s) ((s.phase ≡ Phase.Take) × (t ≡ s.tag) → o ≡ s.next)
order_says t o s = implies (awaited_says t s) (equal o s.next)

pub fits_says : (t o n : ℕ) (s : Write) → Says (fits t o n s) (Fits t o n s)
fits_says t o n s =
    means (both (has_says s.tags t) (both (within_says o n s) (order_says t o s)))
    (λ h. record { own = h.0; lies = h.1.0; order = λ p e. h.1.1 (p, e) }, λ f. (f.own, (f.lies, λ h. f.order h.0 h.1)))
