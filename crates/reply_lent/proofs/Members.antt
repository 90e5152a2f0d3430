-- A reply shown as numbers is formed and read back as it was, and formed numbers are shown as they were: the members are the fields, a phase
-- is told by its number, and what is left is zero. Assumes nothing.
use mathlib.Core.Bool.{Bool, true, cond}
use mathlib.Core.Path.{◌≡◌, refl, sym, ap}
use Rattle.laws.proofs.Bools.{and_true}
use Rattle.laws.proofs.Tests.{less, equal, both}
use borrow.Author.Tests.{lt-ltb}
use Rattle.reply.specs.declared.Reply.{Reply}
use Rattle.reply_lent.specs.Numbers.{phase_number}
use Rattle.reply_lent.specs.Lent.{formed, excess, resends_of, state_of, shown}
use Rattle.reply_lent.specs.declared.State.{State}
use Rattle.reply_lent.proofs.Trips.{phase_back, phase_at}

pub shown_formed : (t : Reply) → formed (shown t) ≡ true
shown_formed t = and_true (lt-ltb (phase_number t.phase) 6 (phase_back t.phase).0) refl

-- of formed numbers R is what they say
resends_on : (s : State) → formed s ≡ true → resends_of s ≡ s.resends
resends_on s on = ap (λ (t : Bool). cond t s.resends excess) on

pub shown_back : (t : Reply) → state_of (shown t) ≡ t
shown_back t = λ i. record { resends = resends_on (shown t) (shown_formed t) i; used = t.used; phase = (phase_back t.phase).1 i }

pub formed_back : (s : State) → formed s ≡ true → shown (state_of s) ≡ s
formed_back s on =
    let is = (both (less s.phase 6) (both (equal s.zero2 0) (equal s.zero1 0))).0 on in
    λ i.
    record {
      resends = resends_on s on i;
      used = s.used;
      zero2 = sym is.1.0 i;
      zero1 = sym is.1.1 i;
      phase = sym (phase_at s.phase is.0) i;
    }
