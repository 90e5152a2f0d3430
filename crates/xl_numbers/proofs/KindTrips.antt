-- Each kind's number is its place in the list, so a number below the list's length names the kind whose number it is. Assumes nothing.
use Prim.Native.Nat.{ℕ, ◌<◌}
use mathlib.Core.Path.{◌≡◌, refl}
use native.Mathlib.Omega.{arith}
use Rattle.laws.specs.Names.{Named}
use Rattle.laws.proofs.Names.{numbered, in_list}
use Rattle.laws.proofs.Places.{Each}
use Rattle.xl_parts.specs.declared.Wait.{Wait}
use Rattle.xl_parts.specs.declared.Wait.TheVariants.{Normal, Partial, Connection, Device}
use Rattle.xl_parts.specs.declared.Reject.{Reject}
use Rattle.xl_parts.specs.declared.Denial.{Denial}
use Rattle.xl_parts.specs.declared.Arbitration.{Arbitration}
use Rattle.xl_parts.specs.declared.Arbitration.TheVariants.{WaitingOnPartial, BlockedOnPartial, WaitingOnConnection}
use Rattle.xl_numbers.specs.Details.{wait_number, waits, wait_of, reject_number, rejects, reject_of, denial_number, denials, denial_of, arbitration_number, arbitrations, arbitration_of}

pub wait_back : (w : Wait) → (wait_number w < 4) × (wait_of (wait_number w) ≡ w)
wait_back Normal = (omega arith, refl)
wait_back Partial = (omega arith, refl)
wait_back Connection = (omega arith, refl)
wait_back Device = (omega arith, refl)

pub wait_at : (n : ℕ) → n < 4 → n ≡ wait_number (wait_of n)
wait_at = numbered wait_number waits Device (refl, (refl, (refl, (refl, tt))))

pub wait_named : Named (λ (n : ℕ) (w : Wait). (n < 4) × (wait_of n ≡ w)) wait_number
wait_named = in_list wait_number waits Device (refl, (refl, (refl, (refl, tt)))) wait_back

pub reject_back : (k : Reject) → (reject_number k < 8) × (reject_of (reject_number k) ≡ k)
reject_back Reject.NoDestination = (omega arith, refl)
reject_back Reject.BadDestination = (omega arith, refl)
reject_back Reject.WrongDestination = (omega arith, refl)
reject_back Reject.Rate = (omega arith, refl)
reject_back Reject.Protocol = (omega arith, refl)
reject_back Reject.PathwayBlocked = (omega arith, refl)
reject_back Reject.Busy = (omega arith, refl)
reject_back Reject.Retry = (omega arith, refl)

rejects_placed : Each (λ (n : ℕ) (k : Reject). n ≡ reject_number k) 0 rejects
rejects_placed = (refl, (refl, (refl, (refl, (refl, (refl, (refl, (refl, tt))))))))

pub reject_at : (n : ℕ) → n < 8 → n ≡ reject_number (reject_of n)
reject_at = numbered reject_number rejects Reject.Retry rejects_placed

pub reject_named : Named (λ (n : ℕ) (k : Reject). (n < 8) × (reject_of n ≡ k)) reject_number
reject_named = in_list reject_number rejects Reject.Retry rejects_placed reject_back

pub denial_back : (d : Denial) → (denial_number d < 4) × (denial_of (denial_number d) ≡ d)
denial_back Denial.NoDestination = (omega arith, refl)
denial_back Denial.BadDestination = (omega arith, refl)
denial_back Denial.BadLinkRate = (omega arith, refl)
denial_back Denial.PathwayBlocked = (omega arith, refl)

pub denial_at : (n : ℕ) → n < 4 → n ≡ denial_number (denial_of n)
denial_at = numbered denial_number denials Denial.PathwayBlocked (refl, (refl, (refl, (refl, tt))))

pub denial_named : Named (λ (n : ℕ) (d : Denial). (n < 4) × (denial_of n ≡ d)) denial_number
denial_named = in_list denial_number denials Denial.PathwayBlocked (refl, (refl, (refl, (refl, tt)))) denial_back

pub arbitration_back : (a : Arbitration) → (arbitration_number a < 3) × (arbitration_of (arbitration_number a) ≡ a)
arbitration_back WaitingOnPartial = (omega arith, refl)
arbitration_back BlockedOnPartial = (omega arith, refl)
arbitration_back WaitingOnConnection = (omega arith, refl)

pub arbitration_at : (n : ℕ) → n < 3 → n ≡ arbitration_number (arbitration_of n)
arbitration_at = numbered arbitration_number arbitrations WaitingOnConnection (refl, (refl, (refl, tt)))

pub arbitration_named : Named (λ (n : ℕ) (a : Arbitration). (n < 3) × (arbitration_of n ≡ a)) arbitration_number
arbitration_named = in_list arbitration_number arbitrations WaitingOnConnection (refl, (refl, (refl, tt))) arbitration_back
