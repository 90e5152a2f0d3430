-- A write shown as numbers is formed and read back as it was, and formed numbers are shown as they were: the members are the fields, a phase is
-- told by its number, and what is left is zero. Assumes nothing.
use mathlib.Core.Bool.{true}
use mathlib.Core.Path.{◌≡◌, refl, sym}
use borrow.Author.Tests.{ltb-true, eqb-true, lt-ltb}
use lib.Dec.{eqb, ltb}
use Rattle.laws.proofs.Bools.{and_left, and_right, and_true}
use Rattle.write.specs.declared.Write.{Write}
use Rattle.write_lent.specs.Numbers.{phase_number}
use Rattle.write_lent.specs.Lent.{formed, resends_of, state_of, shown}
use Rattle.write_lent.specs.declared.State.{State}
use Rattle.write_lent.proofs.Trips.{phase_back, phase_at}

pub shown_formed : (w : Write) → formed (shown w) ≡ true
shown_formed w = and_true (lt-ltb (phase_number w.phase) 7 (phase_back w.phase).0) refl

-- of formed numbers R is what they say
resends_on : (s : State) → formed s ≡ true → resends_of s ≡ s.resends
resends_on s on = rw on

pub shown_back : (w : Write) → state_of (shown w) ≡ w
shown_back w =
    λ i.
    record {
      offset = w.offset;
      count = w.count;
      burst = w.burst;
      resends = resends_on (shown w) (shown_formed w) i;
      next = w.next;
      tag = w.tag;
      tags = w.tags;
      used = w.used;
      phase = (phase_back w.phase).1 i;
    }

pub formed_back : (s : State) → formed s ≡ true → shown (state_of s) ≡ s
formed_back s on =
    let named = ltb-true s.phase 7 (and_left (ltb s.phase 7) _ on) in
    let rest = and_right (ltb s.phase 7) _ on in
    let zero1 = eqb-true s.zero1 0 (and_left (eqb s.zero1 0) _ rest) in
    let zero4 = eqb-true s.zero4 0 (and_right (eqb s.zero1 0) _ rest) in
    λ i.
    record {
      tags = s.tags;
      offset = s.offset;
      count = s.count;
      burst = s.burst;
      resends = resends_on s on i;
      next = s.next;
      used = s.used;
      zero4 = sym zero4 i;
      tag = s.tag;
      phase = sym (phase_at s.phase named) i;
      zero1 = sym zero1 i;
    }
