-- A write's rules, read as facts on its numbers: each test is joined from tests of two numbers. Assumes nothing.
use Prim.Native.Nat.{ℕ, ◌+◌, ◌-◌, ◌%◌, ◌^◌, ◌≤◌, ◌<◌}
use mathlib.Core.Path.{◌≡◌, refl, ap}
use mathlib.Core.Bool.{true}
use mathlib.Core.Logic.{◌⊎◌}
use lib.Count.{ones}
use native.Mathlib.Omega.{arith}
use Rattle.laws.specs.Tags.{digit}
use Rattle.laws.specs.Tests.{Says}
use Rattle.laws.proofs.Bools.{never}
use Rattle.laws.proofs.Tags.{has_says}
use Rattle.laws.proofs.Tests.{less, most, equal, both, either, implies, unless, means}
use Rattle.write.specs.Rules.{end_of, in_range, unstarted, is_new, zeros, placed, partway, at_range, counted}
use Rattle.write.specs.Rules.{ask_rule, out_rule, take_rule, phase_rule, keeps_rules}
use Rattle.write.specs.Steps.{limit}
use Rattle.write.specs.Grounds.{InRange}
use Rattle.write.specs.declared.Write.{Write}
use Rattle.write.specs.declared.Phase.{Phase}

pub in_range_lem : (k b n x r : ℕ) → Says (in_range k b n x r) (InRange k b n x r)
in_range_lem k b n x r = both (most 1 n) (both (most (b + n) 4294967295) (both (equal (x % 4) 0) (both (most 4 x) (less r k))))

abbrev pub Setup : ℕ → Write → Type 0
Setup k s = InRange k s.offset s.count s.burst s.resends

abbrev pub Placed : ℕ → Write → Type 0
Placed k s = Setup k s × ((s.offset ≤ s.next) × ((s.next ≤ end_of s) × ((s.used ≤ s.resends) × (s.tag < k))))

-- its parts
module _ (k : ℕ) (s : Write) (h : Setup k s) where
  pub words : s.burst % 4 ≡ 0
  words = h.1.1.0

  pub four : 4 ≤ s.burst
  four = h.1.1.1.0

  pub few : s.resends < k
  few = h.1.1.1.1

module _ (k : ℕ) (s : Write) (placed : Placed k s) where
  pub first : s.offset ≤ s.next
  first = placed.1.0

  pub last : s.next ≤ end_of s
  last = placed.1.1.0

  pub tried : s.used ≤ s.resends
  tried = placed.1.1.1.0

  pub under : s.tag < k
  under = placed.1.1.1.1

pub placed_says : (k : ℕ) (s : Write) → Says (placed k s) (Placed k s)
unfolding placed
placed_says k s =
    both (in_range_lem k s.offset s.count s.burst s.resends)
    (both (most s.offset s.next) (both (most s.next (end_of s)) (both (most s.used s.resends) (less s.tag k))))

-- what a test that was passed says to the code behind it
module _ (s : Write) (passed : placed limit s ≡ true) where
  in_ranges : Placed limit s
  in_ranges = (placed_says limit s).0 passed

  pub from_start : s.offset ≤ s.next
  from_start = first limit s in_ranges

  pub burst_more : 0 < s.burst
  burst_more = omega (arith, four limit s in_ranges.0)

  pub used_less : s.used < limit
  used_less = omega (arith, few limit s in_ranges.0, tried limit s in_ranges)

  pub tag_less : s.tag < limit
  tag_less = under limit s in_ranges

abbrev pub Partway : Write → Type 0
Partway s = (s.next < end_of s) × ((s.next - s.offset) % 4 ≡ 0)

partway_says : (s : Write) → Says (partway s) (Partway s)
partway_says s = both (less s.next (end_of s)) (equal ((s.next - s.offset) % 4) 0)

abbrev pub AtRange : Write → Type 0
AtRange s = (s.next - s.offset) % s.burst ≡ 0

range_says : (s : Write) → Says (at_range s) (AtRange s)
range_says s = equal ((s.next - s.offset) % s.burst) 0

abbrev pub Counted : ℕ → ℕ → Write → Type 0
Counted j u s = (j ≤ u) × (s.next ≡ s.offset → j ≡ u)

counted_says : (j u : ℕ) (s : Write) → Says (counted j u s) (Counted j u s)
counted_says j u s = both (most j u) (implies (equal s.next s.offset) (equal j u))

-- with no tag in use: before the first byte none was asked
abbrev pub Fresh : Write → Type 0
Fresh s = (s.tags ≡ 0) × (s.next ≡ s.offset → (s.tag ≡ 0) × (s.used ≡ 0))

-- with some: the last one's is one of them
abbrev pub Held : ℕ → ℕ → Write → Type 0
Held j u s = (digit s.tags s.tag ≡ 1) × Counted j u s

abbrev pub AskRule : ℕ → Write → Type 0
AskRule j s = AtRange s × (Fresh s ⊎ Held j s.used s)

ask_says : (j : ℕ) (s : Write) → Says (ask_rule j s) (AskRule j s)
ask_says j s =
    both (range_says s)
    (either (both (equal s.tags 0) (implies (equal s.next s.offset) (both (equal s.tag 0) (equal s.used 0))))
    (both (has_says s.tags s.tag) (counted_says j s.used s)))

abbrev pub OutRule : ℕ → Write → Type 0
OutRule j s = AtRange s × Held j (s.used + 1) s

out_says : (j : ℕ) (s : Write) → Says (out_rule j s) (OutRule j s)
out_says j s = both (range_says s) (both (has_says s.tags s.tag) (counted_says j (s.used + 1) s))

abbrev pub TakeRule : ℕ → Write → Type 0
TakeRule j s = OutRule j s ⊎ ((AtRange s → ⊥) × (s.tags ≡ 2 ^ s.tag))

take_says : (j : ℕ) (s : Write) → Says (take_rule j s) (TakeRule j s)
take_says j s = either (out_says j s) (both (unless (range_says s)) (equal s.tags (2 ^ s.tag)))

abbrev pub DoneRule : Write → Type 0
DoneRule s = (s.next ≡ end_of s) × (s.tags ≡ 0)

abbrev pub FailRule : Write → Type 0
FailRule s = AtRange s × ((s.used ≡ s.resends) × (s.tags ≡ 0))

abbrev pub PhaseRule : ℕ → Phase → Write → Type 0
PhaseRule j Phase.New s = ⊥
PhaseRule j Phase.Ask s = Partway s × AskRule j s
PhaseRule j Phase.Wait s = Partway s × OutRule j s
PhaseRule j Phase.Take s = Partway s × TakeRule j s
PhaseRule j Phase.Done s = DoneRule s
PhaseRule j Phase.Fail s = Partway s × FailRule s
PhaseRule j Phase.End s = Partway s × (s.tags ≡ 0)

phase_says : (j : ℕ) (p : Phase) (s : Write) → Says (phase_rule j p s) (PhaseRule j p s)
unfolding phase_rule
phase_says j Phase.New s = (never, λ h. absurd h)
phase_says j Phase.Ask s = both (partway_says s) (ask_says j s)
phase_says j Phase.Wait s = both (partway_says s) (out_says j s)
phase_says j Phase.Take s = both (partway_says s) (take_says j s)
phase_says j Phase.Done s = both (equal s.next (end_of s)) (equal s.tags 0)
phase_says j Phase.Fail s = both (partway_says s) (both (range_says s) (both (equal s.used s.resends) (equal s.tags 0)))
phase_says j Phase.End s = both (partway_says s) (equal s.tags 0)

is_new_lem : (p : Phase) → is_new p ≡ true → p ≡ Phase.New
is_new_lem Phase.New e = refl
is_new_lem Phase.Ask e = absurd (never e)
is_new_lem Phase.Wait e = absurd (never e)
is_new_lem Phase.Take e = absurd (never e)
is_new_lem Phase.Done e = absurd (never e)
is_new_lem Phase.Fail e = absurd (never e)
is_new_lem Phase.End e = absurd (never e)

-- the fields of s, one by one
abbrev Zeros : Write → Type 0
Zeros s =
    (s.offset ≡ 0)
    × ((s.count ≡ 0)
    × ((s.burst ≡ 0)
    × ((s.resends ≡ 0) × ((s.next ≡ 0) × ((s.tag ≡ 0) × ((s.tags ≡ 0) × ((s.used ≡ 0) × (s.phase ≡ Phase.New))))))))

all_zeros : (s : Write) → Zeros s → s ≡ unstarted
all_zeros s (b, (n, (x, (r, (ne, (t, (ts, (u, p)))))))) =
    λ i. record { offset = b i; count = n i; burst = x i; resends = r i; next = ne i; tag = t i; tags = ts i; used = u i; phase = p i }

field_by_field : (s : Write) → s ≡ unstarted → Zeros s
field_by_field s e = (
  ap (λ (t : Write). t.offset) e,
  (
    ap (λ (t : Write). t.count) e,
    (
      ap (λ (t : Write). t.burst) e,
      (
        ap (λ (t : Write). t.resends) e,
        (
          ap (λ (t : Write). t.next) e,
          (
            ap (λ (t : Write). t.tag) e,
            (ap (λ (t : Write). t.tags) e, (ap (λ (t : Write). t.used) e, ap (λ (t : Write). t.phase) e)),
          ),
        ),
      ),
    ),
  ),
)

zeros_says : (s : Write) → Says (zeros s) (s ≡ unstarted)
zeros_says s =
    means
    (both (equal s.offset 0)
    (both (equal s.count 0)
    (both (equal s.burst 0)
    (both (equal s.resends 0)
    (both (equal s.next 0)
    (both (equal s.tag 0)
    (both (equal s.tags 0) (both (equal s.used 0) (is_new_lem s.phase, λ (e : s.phase ≡ Phase.New) i. is_new (e i))))))))))
    (all_zeros s, field_by_field s)

-- what holds from START on
abbrev pub Started : ℕ → Write → Type 0
Started k s = Placed k s × PhaseRule (ones s.tags) s.phase s

pub rules_say : (k : ℕ) (s : Write) → Says (keeps_rules k s) ((s ≡ unstarted) ⊎ Started k s)
unfolding keeps_rules
rules_say k s = either (zeros_says s) (both (placed_says k s) (phase_says (ones s.tags) s.phase s))
