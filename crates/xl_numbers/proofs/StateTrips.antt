-- Each value's number is its place in the list, whose members name one value each; a refusal's number is below every other status's.
-- Assumes nothing.
use Rattle.std.specs.Prelude.{Err, None, Ok, Option, Result, Some}
use Rattle.std.proofs.lemmas.Option.{none-some, same_Some}
use Prim.Native.Nat.{ℕ, ◌-◌, ◌≤◌}
use mathlib.Core.List.{[], ◌∷◌}
use mathlib.Core.Logic.{◌⊎◌, inl, inr}
use mathlib.Core.Path.{◌≡◌, refl, sym, ap, ◌∙◌}
use native.Mathlib.Omega.{arith}
use lib.ListN.{get_or}
use Rattle.laws.specs.Names.{Named}
use Rattle.laws.proofs.Names.{in_reads}
use Rattle.refusals.specs.declared.Refusal.{Refusal}
use Rattle.refusals.proofs.Numbers.{one_number, range}
use Rattle.xl_parts.specs.declared.Phase.{Phase}
use Rattle.xl_parts.specs.declared.Wait.{Wait}
use Rattle.xl_parts.specs.declared.LinkStatus.{LinkStatus}
use Rattle.xl_parts.specs.declared.LinkStatus.TheVariants.{Ready, Partial, BlockedPartial, Connected}
use Rattle.xl_parts.specs.Parts.{phase_number}
use Rattle.xl_numbers.specs.States.{phases, phase_of, aip_number, aips, aip_of, status_number}

same_phase : (p q : Phase) → Some p ≡ Some q → phase_number p ≡ phase_number q
same_phase p q e = ap phase_number (same_Some p q e)

phase_back : (p : Phase) → phase_of (phase_number p) ≡ Some p
phase_back Phase.Xl0 = refl
phase_back Phase.Xl1 = refl
phase_back Phase.Xl2 = refl
phase_back Phase.Xl3 = refl
phase_back Phase.Xl4 = refl
phase_back Phase.Xl5 = refl
phase_back Phase.Xl6 = refl
phase_back Phase.Xl7 = refl
phase_back Phase.Xl8 = refl
phase_back Phase.Xl9 = refl
phase_back Phase.Xl10 = refl

pub phase_named : Named (λ (n : ℕ) (p : Phase). phase_of n ≡ Some p) phase_number
phase_named =
    in_reads phase_number Some phases None
    (same_phase Phase.Xl0, (same_phase Phase.Xl1, (same_phase Phase.Xl2, (same_phase Phase.Xl3, (same_phase Phase.Xl4, (same_phase Phase.Xl5, (same_phase Phase.Xl6, (same_phase Phase.Xl7, (same_phase Phase.Xl8, (same_phase Phase.Xl9, (same_phase Phase.Xl10, tt)))))))))))
    none-some
    phase_back

same_aip : (a b : Option Wait) → Some a ≡ Some b → aip_number a ≡ aip_number b
same_aip a b e = ap aip_number (same_Some a b e)

aip_back : (a : Option Wait) → aip_of (aip_number a) ≡ Some a
aip_back None = refl
aip_back (Some Wait.Normal) = refl
aip_back (Some Wait.Partial) = refl
aip_back (Some Wait.Connection) = refl
aip_back (Some Wait.Device) = refl

pub aip_named : Named (λ (n : ℕ) (a : Option Wait). aip_of n ≡ Some a) aip_number
aip_named =
    in_reads aip_number Some aips None
    (same_aip None, (same_aip (Some Wait.Normal), (same_aip (Some Wait.Partial), (same_aip (Some Wait.Connection), (same_aip (Some Wait.Device), tt)))))
    none-some
    aip_back

-- the statuses from 48 on
abbrev from48 : ℕ → Result LinkStatus Refusal
from48 n = get_or ((Ok Ready) ∷ (Ok Partial) ∷ (Ok BlockedPartial) ∷ (Ok Connected) ∷ []) (n - 48) (Ok Ready)

-- a status is a refusal, with a number of at most 10, or found at its number
abbrev Told : Result LinkStatus Refusal → Type 0
Told a = ((k : Refusal) × (a ≡ Err k)) ⊎ ((48 ≤ status_number a) × (from48 (status_number a) ≡ a))

status_back : (a : Result LinkStatus Refusal) → Told a
status_back (Ok Ready) = inr (omega arith, refl)
status_back (Ok Partial) = inr (omega arith, refl)
status_back (Ok BlockedPartial) = inr (omega arith, refl)
status_back (Ok Connected) = inr (omega arith, refl)
status_back (Err k) = inl (k, refl)

-- no two statuses share a number
pub one_status : (a b : Result LinkStatus Refusal) → status_number a ≡ status_number b → a ≡ b
one_status a b e = both (status_back a) (status_back b)
  where
    low : (c : Result LinkStatus Refusal) (k : Refusal) → c ≡ Err k → status_number c ≤ 10
    low c k h = rw h (range k).1

    both : Told a → Told b → a ≡ b
    both (inl j) (inl k) = j.1 ∙ ap Err (one_number j.0 k.0 (ap status_number (sym j.1) ∙ e ∙ ap status_number k.1)) ∙ sym k.1
    both (inl j) (inr q) = absurd (omega (arith, low a j.0 j.1, q.0))
    both (inr p) (inl k) = absurd (omega (arith, low b k.0 k.1, p.0))
    both (inr p) (inr q) = sym p.1 ∙ ap from48 e ∙ q.1
