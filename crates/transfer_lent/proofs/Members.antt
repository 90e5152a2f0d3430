-- A transfer shown as numbers is formed and read back as it was, and formed numbers are shown as they were: the members are the fields, a phase
-- and a flag are told by their numbers, and what is left is zero. Assumes nothing.
use mathlib.Core.Bool.{true}
use mathlib.Core.Path.{◌≡◌, refl, sym}
use borrow.Author.Tests.{ltb-true, eqb-true, lt-ltb}
use lib.Dec.{ltb}
use Rattle.laws.specs.Names.{flag}
use Rattle.laws.proofs.Bools.{and_left, and_right, and_true}
use Rattle.laws.proofs.Names.{flag_back, flag_at}
use Rattle.transfer.specs.declared.Transfer.{Transfer}
use Rattle.transfer_lent.specs.Numbers.{phase_number}
use Rattle.transfer_lent.specs.Lent.{formed, state_of, shown}
use Rattle.transfer_lent.specs.declared.State.{State}
use Rattle.transfer_lent.proofs.Trips.{phase_back, phase_at}

pub shown_formed : (t : Transfer) → formed (shown t) ≡ true
shown_formed t =
    and_true (lt-ltb (phase_number t.phase) 6 (phase_back t.phase).0) (and_true (lt-ltb (flag t.sent) 2 (flag_back t.sent).0) refl)

pub shown_back : (t : Transfer) → state_of (shown t) ≡ t
shown_back t =
    λ i.
    record {
      offset = t.offset;
      count = t.count;
      size = t.size;
      resends = t.resends;
      read = t.read;
      balance = t.balance;
      unanswered = t.unanswered;
      sent = (flag_back t.sent).1 i;
      used = t.used;
      phase = (phase_back t.phase).1 i;
    }

pub formed_back : (s : State) → formed s ≡ true → shown (state_of s) ≡ s
formed_back s h =
    let named = ltb-true s.phase 6 (and_left (ltb s.phase 6) _ h) in
    let rest = and_right (ltb s.phase 6) _ h in
    let sent = ltb-true s.sent 2 (and_left (ltb s.sent 2) _ rest) in
    let zero2 = eqb-true s.zero2 0 (and_right (ltb s.sent 2) _ rest) in
    λ i.
    record {
      offset = s.offset;
      count = s.count;
      size = s.size;
      resends = s.resends;
      read = s.read;
      balance = s.balance;
      unanswered = s.unanswered;
      used = s.used;
      zero2 = sym zero2 i;
      sent = sym (flag_at s.sent sent) i;
      phase = sym (phase_at s.phase named) i;
    }
