-- Numbers and port say the same, member by member: a port that is shown is well formed. Assumes nothing.
use Prim.Native.Nat.{ℕ, zero, suc, ◌<◌}
use mathlib.Core.Bool.{true, false}
use mathlib.Core.List.{List, [], ◌∷◌}
use mathlib.Core.Path.{◌≡◌, refl, sym, ap, ◌∙◌}
use native.Mathlib.Omega.{arith}
use lib.ListN.{length, get_or}
use Rattle.laws.specs.Folds.{all_below}
use Rattle.laws.proofs.Folds.{all_says}
use Rattle.laws.proofs.Tests.{equal, both}
use Rattle.open_lent.specs.Typed.{typed_open}
use Rattle.port_parts.specs.declared.Phy.{Phy}
use Rattle.port_parts.specs.declared.Port.{Port}
use Rattle.port_rows.specs.Answers as answers
use Rattle.port_lent.specs.declared.Phy.{Phy as LentPhy}
use Rattle.port_lent.specs.declared.Port.{Port as LentPort}
use Rattle.port_lent.specs.Lent.{phy_formed, no_phy, phys_formed, formed, no_port, phy_of, phys_of, count_of, port_of, phy_shown, phys_shown, port_shown}
use Rattle.port_lent.specs.Runs.{plainly}
use Rattle.port_lent.specs.Given.{submission_of, withdrawn_of, time_of, confirmed_of, failure_of, report_of}
use Rattle.port_lent.specs.Typed.{typed_lent, typed_port, typed_submission, typed_withdrawn, typed_time, typed_confirmed, typed_failure, typed_report}

-- ---- what is shown says the port

phys_back : (ps : List Phy) → phys_of (phys_shown ps) ≡ ps
phys_back [] = refl
phys_back (f ∷ ps) = ap (λ (qs : List Phy). f ∷ qs) (phys_back ps)

-- of every list, since what stands in past its end is all zeros
shown_at : (ps : List Phy) (k : ℕ) → phy_formed (get_or (phys_shown ps) k no_phy) ≡ true
shown_at [] k = refl
shown_at (f ∷ ps) zero = refl
shown_at (f ∷ ps) (suc k) = shown_at ps k

pub shown_formed : (p : Port) → formed (port_shown p) ≡ true
unfolding phys_formed
shown_formed p = (all_says (λ k. phy_formed (get_or (phys_shown p.phys) k no_phy)) 8).1 (λ k h. shown_at p.phys k)

-- well formed numbers say the port as they stand
pub formed_says : (p : LentPort) → formed p ≡ true → port_of p ≡ plainly p
formed_says p e = let count : count_of p ≡ p.count = rw e refl in λ i. record { count = count i; loss = p.loss; last = p.last; phys = phys_of p.phys }

-- others say a port without phys
pub malformed_says : (p : LentPort) → formed p ≡ false → (port_of p).count ≡ 0
malformed_says p e = rw e refl

pub port_back : (p : Port) → port_of (port_shown p) ≡ p
port_back p = formed_says (port_shown p) (shown_formed p) ∙ (λ i. record { count = p.count; loss = p.loss; last = p.last; phys = phys_back p.phys i })

-- ---- what is said is shown as it was lent

phy_back : (f : LentPhy) → phy_formed f ≡ true → phy_shown (phy_of f) ≡ f
phy_back f e =
    let z = (both (equal f.zero4 0) (equal f.zero1 0)).0 e in
    λ i. record { destination = f.destination; zero4 = sym z.0 i; stage = f.stage; slot = f.slot; protocol = f.protocol; zero1 = sym z.1 i }

lents_back : (ps : List LentPhy) → ((k : ℕ) → k < length ps → phy_formed (get_or ps k no_phy) ≡ true) → phys_shown (phys_of ps) ≡ ps
lents_back [] each = refl
lents_back (f ∷ ps) each = λ i. phy_back f (each 0 (omega arith)) i ∷ lents_back ps (λ k h. each (suc k) (omega arith)) i

pub lent_back : (p : LentPort) → length p.phys ≡ 8 → formed p ≡ true → port_shown (port_of p) ≡ p
unfolding phys_formed
lent_back p long e =
    let z = (both (equal p.zero4 0) (both (equal p.zero1 0) (all_says (λ k. phy_formed (get_or p.phys k no_phy)) 8))).0 e in
    let phys = lents_back p.phys (λ k h. z.1.1 k (omega (arith, long))) in
    ap port_shown (formed_says p e) ∙ (λ i. record { last = p.last; phys = phys i; zero4 = sym z.0 i; loss = p.loss; count = p.count; zero1 = sym z.1.0 i })

-- ---- all zeros, and a port typed

pub zeros_shown : port_shown answers.no_port ≡ no_port
zeros_shown = refl

pub typed_says : port_of typed_lent ≡ typed_port
unfolding phys_formed all_below
typed_says = refl

pub typed_shown : port_shown typed_port ≡ typed_lent
typed_shown = refl

-- ---- what the calls are given

pub typed_submission_lem : submission_of typed_open 60 ≡ typed_submission
typed_submission_lem = refl

pub typed_withdrawn_lem : withdrawn_of 61 62 63 64 ≡ typed_withdrawn
typed_withdrawn_lem = refl

pub typed_time_lem : time_of 65 ≡ typed_time
typed_time_lem = refl

pub typed_confirmed_lem : confirmed_of 66 67 ≡ typed_confirmed
typed_confirmed_lem = refl

pub typed_failure_lem : failure_of 68 69 70 ≡ typed_failure
typed_failure_lem = refl

pub typed_report_lem : report_of 71 72 73 ≡ typed_report
typed_report_lem = refl
