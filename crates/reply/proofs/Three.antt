-- Refusal 3 of a state that keeps its rules: every other cause has another number, and so only a START whose R is out of range is refused
-- with 3; and a state that breaks its rules is refused with 3 by every call. Assumes nothing.
use Rattle.std.specs.Prelude.{Err}
use Prim.Native.Nat.{ℕ}
use mathlib.Core.Bool.{Bool, true, false, not, cond}
use mathlib.Core.List.{List}
use mathlib.Core.Logic.{◌↔◌}
use mathlib.Core.Path.{◌≡◌, refl, ap, sym, ◌∙◌}
use native.Mathlib.Omega.{arith}
use Rattle.laws.proofs.Bools.{by_test}
use Rattle.laws.proofs.Tests.{most, unless}
use Rattle.refusals.specs.Causes.{Cause, refuse}
use Rattle.refusals.specs.Refusals.{number_of}
use Rattle.refusals.specs.declared.Refusal.{Refusal}
use Rattle.reply.specs.Rules.{in_range, keeps_rules}
use Rattle.reply.specs.Steps.{asks, waits, unfinished, causes}
use Rattle.reply.specs.Calls.{Call, start, respond, ack, nak, timeout, lost, nexus, cancel, causes_of, step_of}
use Rattle.reply.specs.Grounds.{OutOfRange}
use Rattle.reply.specs.Words.{refusal_of}
use Rattle.reply.specs.declared.Reply.{Reply}
use Rattle.reply.specs.declared.Stepped.{Stepped}
use Rattle.reply.proofs.Words.{number_is}

module _ (s : Reply) where
  pub broken_three : keeps_rules s ≡ false → (c : Call) → (step_of c s).answer ≡ Err Refusal.Rules
  broken_three off (start r) = by_test (λ (st : Stepped). st.answer ≡ Err Refusal.Rules) (not (in_range r)) (λ t. refl) (λ t. rw off)
  broken_three off respond = rw off
  broken_three off ack = rw off
  broken_three off nak = rw off
  broken_three off timeout = rw off
  broken_three off lost = rw off
  broken_three off nexus = rw off
  broken_three off cancel = rw off

  module _ (kept : keeps_rules s ≡ true) where
    -- an unfit call is refused with 6
    not_three : (t : Bool) → refuse number_of (causes t s) 0 ≡ 3 → ⊥
    not_three t = rw kept (by_test (λ (n : ℕ). n ≡ 3 → ⊥) t (λ _ e. omega arith) (λ _ e. omega arith))

    other : (c : Call) (t : Bool) → causes_of c s ≡ causes t s → ((step_of c s).answer ≡ Err Refusal.Rules) ↔ ⊥
    other c t is = (λ e. not_three t (ap (λ (cs : List Cause). refuse number_of cs 0) (sym is) ∙ sym (number_is s c) ∙ ap refusal_of e), λ (h : ⊥). absurd h)

    ranged : (r : ℕ) → ((step_of (start r) s).answer ≡ Err Refusal.Rules) ↔ OutOfRange (start r)
    ranged r = by (in_range r) refl
      where
        by : (t : Bool) → in_range r ≡ t → ((step_of (start r) s).answer ≡ Err Refusal.Rules) ↔ OutOfRange (start r)
        by true q =
            let unfit = refuse number_of (causes (unfinished s.phase) s) 0 in
            let is : refusal_of (step_of (start r) s).answer ≡ unfit = number_is s (start r) ∙ ap (λ (t : Bool). cond (not t) 3 unfit) q in
            (λ e. absurd (not_three (unfinished s.phase) (sym is ∙ ap refusal_of e)), λ out. absurd (out ((most r 255).0 q)))
        by false q = (λ e. (unless (most r 255)).0 (ap not q), λ out. rw q)

    pub three : (c : Call) → ((step_of c s).answer ≡ Err Refusal.Rules) ↔ OutOfRange c
    three (start r) = ranged r
    three respond = other respond (not (asks s.phase)) refl
    three ack = other ack (not (waits s.phase)) refl
    three nak = other nak (not (waits s.phase)) refl
    three timeout = other timeout (not (waits s.phase)) refl
    three lost = other lost (not (waits s.phase)) refl
    three nexus = other nexus (not (unfinished s.phase)) refl
    three cancel = other cancel (not (unfinished s.phase)) refl
