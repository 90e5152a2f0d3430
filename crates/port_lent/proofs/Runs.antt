-- What C lends says what the machine has, call after call: a taken call shows its port, which says it again, and a refused one leaves all as it
-- was lent. Assumes nothing.
use Rattle.std.specs.Prelude.{Result}
use mathlib.Core.Bool.{Bool, true, false, cond}
use mathlib.Core.List.{List, [], ◌∷◌}
use mathlib.Core.Logic.{◌↔◌}
use mathlib.Core.Path.{◌≡◌, refl, sym, ap, subst, ◌∙◌}
use native.Mathlib.Omega.{arith}
use Rattle.refusals.specs.Causes.{First}
use Rattle.refusals.specs.Refusals.{number_of}
use Rattle.refusals.specs.declared.Refusal.{Refusal}
use Rattle.port_parts.specs.declared.Port.{Port}
use Rattle.port_parts.specs.declared.Request.{Request}
use Rattle.port_rules.specs.Kept.{Kept}
use Rattle.port_rows.specs.declared.Word.{Word}
use Rattle.port.specs.Grounds.{grounds_of}
use Rattle.port.specs.History.{Call, stepped_by, is_refused}
use Rattle.port.specs.History as machine
use Rattle.port.proofs.Refusals.{refused_exactly}
use Rattle.port_lent.specs.Lent.{formed, no_port, port_of, port_shown}
use Rattle.port_lent.specs.Runs.{Lent, state_of, plainly, Keeps, lent_to, face_of, list_of, is_refusal, leave, run}
use Rattle.port_lent.proofs.Trips.{formed_says, malformed_says, port_back}
use Rattle.port_lent.proofs.Words.{refusal_told, refusal_exactly}

-- ---- what is seen of a call

abbrev pub said : Call → Lent → Result Word Refusal
said c s = (stepped_by c (state_of s)).answer.word

-- C's number tells a refusal
pub refusal_is : (c : Call) (s : Lent) → is_refusal (face_of c s).answer ≡ is_refused (said c s)
refusal_is c s = refusal_told (said c s)

-- refusal k exactly by the first ground that holds, of the state that is said
pub refuses : (c : Call) (s : Lent) (k : Refusal) → ((face_of c s).answer ≡ number_of k) ↔ First (grounds_of c (state_of s)) k
refuses c s k = (
  λ n. (refused_exactly c (state_of s) k).0 ((refusal_exactly (said c s) k).0 n),
  λ h. (refusal_exactly (said c s) k).1 ((refused_exactly c (state_of s) k).1 h),
)

-- ---- the rules

-- a port without phys keeps no rules
no_phys : (p : Port) (l : List Request) → p.count ≡ 0 → Kept p l → ⊥
no_phys p l none k = let least = k.setup.least in omega (arith, none, least)

pub keeps_exactly : (s : Lent) → Kept (port_of s.port) s.list ↔ Keeps s
keeps_exactly s = (by (formed s.port) refl, λ k. subst (λ (p : Port). Kept p s.list) (sym (formed_says s.port k.formed)) k.rules)
  where
    by : (b : Bool) → formed s.port ≡ b → Kept (port_of s.port) s.list → Keeps s
    by true e k = record { formed = e; rules = subst (λ (p : Port). Kept p s.list) (formed_says s.port e) k }
    by false e k = absurd (no_phys (port_of s.port) s.list (malformed_says s.port e) k)

pub unset : (l : List Request) → Keeps (record { port = no_port; list = l }) → ⊥
unset l k = no_phys (plainly no_port) l refl k.rules

-- ---- one call after another

pub leaves : (c : Call) (s : Lent) → state_of (leave c s) ≡ machine.leave c (state_of s)
leaves c s = by (is_refused (said c s)) refl
  where
    by : (b : Bool) → is_refused (said c s) ≡ b → state_of (leave c s) ≡ machine.leave c (state_of s)
    by true e =
        ap (λ b. state_of (cond b s (record { port = (face_of c s).port; list = list_of c s }))) (refusal_is c s ∙ e)
        ∙ sym (ap (λ b. cond b (state_of s) (record { port = (stepped_by c (state_of s)).port; list = list_of c s })) e)
    by false e =
        let shown : (face_of c s).port ≡ port_shown (stepped_by c (state_of s)).port = ap (λ b. cond b (lent_to c s.port) (port_shown (stepped_by c (state_of s)).port)) e in
        ap (λ b. state_of (cond b s (record { port = (face_of c s).port; list = list_of c s }))) (refusal_is c s ∙ e)
        ∙ (λ i. record { port = (ap port_of shown ∙ port_back (stepped_by c (state_of s)).port) i; list = list_of c s })
        ∙ sym (ap (λ b. cond b (state_of s) (record { port = (stepped_by c (state_of s)).port; list = list_of c s })) e)

pub runs : (cs : List Call) (s : Lent) → state_of (run cs s) ≡ machine.run cs (state_of s)
runs [] s = refl
runs (c ∷ cs) s = runs cs (leave c s) ∙ ap (machine.run cs) (leaves c s)
