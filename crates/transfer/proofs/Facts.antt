-- The tests of a state, read as facts on its numbers: each test is joined from tests of two numbers. Assumes nothing.
use Prim.Native.Nat.{ℕ, ◌+◌, ◌-◌, ◌%◌, ◌≤◌, ◌<◌}
use mathlib.Core.Path.{◌≡◌, refl, ap}
use mathlib.Core.Bool.{true, false, ◌&&◌}
use mathlib.Core.Logic.{◌⊎◌, inl, inr}
use native.Mathlib.Omega.{arith}
use Rattle.laws.proofs.Bools.{never}
use Rattle.transfer.specs.Rules.{end_of, in_range, unstarted, is_new, zeros, ordered, on_grid, placed, frames_out, attempted, phase_rule, keeps_rules}
use Rattle.transfer.specs.Grounds.{InRange}
use Rattle.transfer.specs.declared.Transfer.{Transfer}
use Rattle.transfer.specs.declared.Phase.{Phase}
use Rattle.laws.specs.Tests.{Says}
use Rattle.laws.proofs.Tests.{less, most, equal, itself, denied, both, either, means}

pub in_range_lem : (b n m r : ℕ) → Says (in_range b n m r) (InRange b n m r)
in_range_lem b n m r =
    both (most 1 n) (both (most (b + n) 4294967295) (both (equal (m % 4) 0) (both (most 4 m) (both (most m 1024) (most r 255)))))

abbrev pub Ordered : ℕ → Transfer → Type 0
Ordered e s = (s.offset ≤ s.balance) × ((s.balance ≤ s.read) × ((s.read ≤ e) × (s.used ≤ s.resends)))

abbrev pub OnGrid : ℕ → Transfer → ℕ → Type 0
OnGrid e s x = (x ≡ e) ⊎ ((x - s.offset) % s.size ≡ 0)

abbrev pub Placed : ℕ → Transfer → Type 0
Placed e s = (InRange s.offset s.count s.size s.resends × Ordered e s) × (OnGrid e s s.balance × OnGrid e s s.read)

on_grid_lem : (e : ℕ) (s : Transfer) (x : ℕ) → Says (on_grid e s x) (OnGrid e s x)
on_grid_lem e s x = either (equal x e) (equal ((x - s.offset) % s.size) 0)

pub range_order : (e : ℕ) (s : Transfer)
    → Says (in_range s.offset s.count s.size s.resends && ordered e s) (InRange s.offset s.count s.size s.resends × Ordered e s)
range_order e s =
    both (in_range_lem s.offset s.count s.size s.resends)
    (both (most s.offset s.balance) (both (most s.balance s.read) (both (most s.read e) (most s.used s.resends))))

pub placed_says : (e : ℕ) (s : Transfer) → Says (placed e s) (Placed e s)
unfolding placed
placed_says e s = both (range_order e s) (both (on_grid_lem e s s.balance) (on_grid_lem e s s.read))

abbrev pub Attempted : ℕ → Transfer → Type 0
Attempted d s =
    ((0 < d) × (s.sent ≡ true))
    ⊎ ((d ≡ 0) × (((s.sent ≡ true) × (s.offset < s.balance)) ⊎ ((s.sent ≡ false) × ((s.balance ≡ s.offset) ⊎ (0 < s.used)))))

-- with frames out one was sent
pub sent_by : (d : ℕ) (s : Transfer) → 0 < d → Attempted d s → s.sent ≡ true
sent_by d s some (inl a) = a.1
sent_by d s some (inr a) = absurd (let none = a.0 in omega arith)

attempted_says : (d : ℕ) (s : Transfer) → Says (attempted d s) (Attempted d s)
attempted_says d s =
    either (both (less 0 d) (itself s.sent))
    (both (equal d 0)
    (either (both (itself s.sent) (less s.offset s.balance))
    (both (denied s.sent) (either (equal s.balance s.offset) (less 0 s.used)))))

abbrev pub RunRule : ℕ → ℕ → ℕ → Transfer → Type 0
RunRule bound e d s =
    (s.balance < e)
    × (Attempted d s × (((d ≡ 0) × (s.unanswered ≡ 0)) ⊎ ((0 < s.unanswered) × ((s.unanswered ≤ bound) × (s.unanswered ≤ d)))))

abbrev pub DrainRule : ℕ → ℕ → ℕ → Transfer → Type 0
DrainRule bound e d s =
    (s.balance < e)
    × ((s.sent ≡ true) × ((s.used < s.resends) × ((0 < s.unanswered) × ((s.unanswered < bound) × (s.unanswered < d)))))

abbrev pub DoneRule : ℕ → Transfer → Type 0
DoneRule e s = (s.balance ≡ e) × ((s.read ≡ e) × ((s.unanswered ≡ 0) × (s.sent ≡ true)))

abbrev pub FailRule : ℕ → ℕ → Transfer → Type 0
FailRule e d s = (s.balance < e) × ((s.sent ≡ true) × ((s.used ≡ s.resends) × ((s.unanswered ≡ 0) × (0 < d))))

abbrev pub EndRule : ℕ → ℕ → Transfer → Type 0
EndRule e d s = (s.balance < e) × (Attempted d s × (s.unanswered ≡ 0))

abbrev pub PhaseRule : ℕ → ℕ → ℕ → Phase → Transfer → Type 0
PhaseRule bound e d Phase.New s = ⊥
PhaseRule bound e d Phase.Run s = RunRule bound e d s
PhaseRule bound e d Phase.Drain s = DrainRule bound e d s
PhaseRule bound e d Phase.Done s = DoneRule e s
PhaseRule bound e d Phase.Fail s = FailRule e d s
PhaseRule bound e d Phase.End s = EndRule e d s

phase_says : (bound e d : ℕ) (p : Phase) (s : Transfer) → Says (phase_rule bound e d p s) (PhaseRule bound e d p s)
unfolding phase_rule
phase_says bound e d Phase.New s = (never, λ h. absurd h)
phase_says bound e d Phase.Run s =
    both (less s.balance e)
    (both (attempted_says d s)
    (either (both (equal d 0) (equal s.unanswered 0)) (both (less 0 s.unanswered) (both (most s.unanswered bound) (most s.unanswered d)))))
phase_says bound e d Phase.Drain s =
    both (less s.balance e)
    (both (itself s.sent) (both (less s.used s.resends) (both (less 0 s.unanswered) (both (less s.unanswered bound) (less s.unanswered d)))))
phase_says bound e d Phase.Done s = both (equal s.balance e) (both (equal s.read e) (both (equal s.unanswered 0) (itself s.sent)))
phase_says bound e d Phase.Fail s =
    both (less s.balance e) (both (itself s.sent) (both (equal s.used s.resends) (both (equal s.unanswered 0) (less 0 d))))
phase_says bound e d Phase.End s = both (less s.balance e) (both (attempted_says d s) (equal s.unanswered 0))

is_new_lem : (p : Phase) → is_new p ≡ true → p ≡ Phase.New
is_new_lem Phase.New e = refl
is_new_lem Phase.Run e = absurd (never e)
is_new_lem Phase.Drain e = absurd (never e)
is_new_lem Phase.Done e = absurd (never e)
is_new_lem Phase.Fail e = absurd (never e)
is_new_lem Phase.End e = absurd (never e)

-- the fields of s, one by one
abbrev Zeros : Transfer → Type 0
Zeros s =
    (s.offset ≡ 0)
    × ((s.count ≡ 0)
    × ((s.size ≡ 0)
    × ((s.resends ≡ 0)
    × ((s.read ≡ 0) × ((s.balance ≡ 0) × ((s.unanswered ≡ 0) × ((s.sent ≡ false) × ((s.used ≡ 0) × (s.phase ≡ Phase.New)))))))))

all_zeros : (s : Transfer) → Zeros s → s ≡ unstarted
all_zeros s (o, (n, (m, (r, (rd, (ba, (un, (se, (us, ph))))))))) =
    λ i. record { offset = o i; count = n i; size = m i; resends = r i; read = rd i; balance = ba i; unanswered = un i; sent = se i; used = us i; phase = ph i }

field_by_field : (s : Transfer) → s ≡ unstarted → Zeros s
field_by_field s e = (
  ap (λ (t : Transfer). t.offset) e,
  (
    ap (λ (t : Transfer). t.count) e,
    (
      ap (λ (t : Transfer). t.size) e,
      (
        ap (λ (t : Transfer). t.resends) e,
        (
          ap (λ (t : Transfer). t.read) e,
          (
            ap (λ (t : Transfer). t.balance) e,
            (
              ap (λ (t : Transfer). t.unanswered) e,
              (ap (λ (t : Transfer). t.sent) e, (ap (λ (t : Transfer). t.used) e, ap (λ (t : Transfer). t.phase) e)),
            ),
          ),
        ),
      ),
    ),
  ),
)

zeros_says : (s : Transfer) → Says (zeros s) (s ≡ unstarted)
zeros_says s =
    means
    (both (equal s.offset 0)
    (both (equal s.count 0)
    (both (equal s.size 0)
    (both (equal s.resends 0)
    (both (equal s.read 0)
    (both (equal s.balance 0)
    (both (equal s.unanswered 0) (both (denied s.sent) (both (equal s.used 0) (is_new_lem s.phase, λ (e : s.phase ≡ Phase.New) i. is_new (e i)))))))))))
    (all_zeros s, field_by_field s)

-- what holds from START on
abbrev pub Started : ℕ → Transfer → Type 0
Started bound s = Placed (end_of s) s × PhaseRule bound (end_of s) (frames_out s) s.phase s

pub rules_say : (bound : ℕ) (s : Transfer) → Says (keeps_rules bound s) ((s ≡ unstarted) ⊎ Started bound s)
unfolding keeps_rules
rules_say bound s = either (zeros_says s) (both (placed_says (end_of s) s) (phase_says bound (end_of s) (frames_out s) s.phase s))
