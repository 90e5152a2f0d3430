-- The link status is the one that document 01 gives for the state: a state that keeps the rules is not refused, and each state is looked at.
-- Assumes nothing.
use Rattle.refusals.specs.declared.Refusal.{Refusal}
use Rattle.std.specs.Prelude.{Err, None, Ok, Option, Result, Some}
use mathlib.Core.Bool.{true, not}
use mathlib.Core.List.{List, [], ◌∷◌}
use mathlib.Core.Path.{◌≡◌, refl, sym, ap, subst, subst⁻¹, ◌∙◌}
use Rattle.laws.proofs.Bools.{impossible}
use Rattle.refusals.proofs.Causes.{unrefused}
use Rattle.xl_parts.specs.declared.Phase.{Phase}
use Rattle.xl_parts.specs.declared.Phase.TheVariants.{Xl1, Xl2, Xl3, Xl4, Xl5, Xl6, Xl7, Xl8, Xl9, Xl10}
use Rattle.xl_parts.specs.declared.Wait.{Wait}
use Rattle.xl_parts.specs.declared.State.{State}
use Rattle.xl_parts.specs.declared.LinkStatus.{LinkStatus}
use Rattle.xl_rows.specs.Sentences.{one_of}
use Rattle.xl_rows.proofs.Sentences.{by_phase}
use Rattle.xl.specs.Rules.{keeps_rules}
use Rattle.xl.specs.Status.{waiting, in_phase, status_causes, status_of}
use Rattle.xl_parts.specs.Parts.{ready}
use Rattle.xl_calls.specs.Links.{Call}
use Rattle.xl_calls.specs.Memory.{aip_met, status_met}
use Rattle.xl_calls.specs.After.{after, history}
use Rattle.xl_calls.specs.Statuses.{Waits, Statuses}
use Rattle.xl_calls.proofs.Kept.{kept, ready_keeps}
use Rattle.xl_calls.proofs.Seen.{knows}

-- a state that is not refused has this status
abbrev told : LinkStatus → Result LinkStatus Refusal
told a = Ok a

not_blocked : (a : Option Wait) → (a ≡ Some Wait.Partial → ⊥) → told (waiting a) ≡ Ok LinkStatus.Partial
not_blocked None off = refl
not_blocked (Some Wait.Normal) off = refl
not_blocked (Some Wait.Partial) off = absurd (off refl)
not_blocked (Some Wait.Connection) off = refl
not_blocked (Some Wait.Device) off = refl

waits_by : (a : Option Wait) → Waits (told (waiting a)) a
waits_by a = record { blocked = λ e. ap (λ (a : Option Wait). told (waiting a)) e; other = not_blocked a }

module _ (s : State) (keeps : keeps_rules s ≡ true) where
  answered : status_of s ≡ told (in_phase s.phase s.memory.aip)
  unfolding status_of
  answered = sym (unrefused Err (told (in_phase s.phase s.memory.aip)) (status_causes s) (ap not keeps, tt))

  -- 01 XL.39
  pub statuses : Statuses status_of s
  statuses = record {
    ready = λ e. answered ∙ ap (λ (p : Phase). told (in_phase p s.memory.aip)) e;
    connected = λ e. answered ∙ by_phase (λ p. one_of p (Xl7 ∷ Xl8 ∷ []) ≡ true → told (in_phase p s.memory.aip) ≡ Ok LinkStatus.Connected) impossible impossible impossible impossible impossible impossible impossible (λ q. refl) (λ q. refl) impossible impossible s.phase e;
    waits = λ e. subst⁻¹ (λ (l : Result LinkStatus Refusal). Waits l s.memory.aip) answered (by_phase (λ p. one_of p (Xl3 ∷ Xl6 ∷ []) ≡ true → Waits (told (in_phase p s.memory.aip)) s.memory.aip) impossible impossible impossible (λ q. waits_by s.memory.aip) impossible impossible (λ q. waits_by s.memory.aip) impossible impossible impossible impossible s.phase e);
    other = λ e. answered ∙ by_phase (λ p. one_of p (Xl1 ∷ Xl2 ∷ Xl4 ∷ Xl5 ∷ Xl9 ∷ Xl10 ∷ []) ≡ true → told (in_phase p s.memory.aip) ≡ Ok LinkStatus.Partial) impossible (λ q. refl) (λ q. refl) impossible (λ q. refl) (λ q. refl) impossible impossible impossible (λ q. refl) (λ q. refl) s.phase e;
  }

-- after any calls from XL0, by what was met
module _ (cs : List Call) where
  waiting_in : (p : Phase) → one_of p (Xl3 ∷ Xl6 ∷ []) ≡ true → (after cs).phase ≡ p → Waits (status_of (after cs)) (after cs).memory.aip
  waiting_in p listed e = (statuses (after cs) (kept cs ready ready_keeps)).waits (subst⁻¹ (λ (p : Phase). one_of p (Xl3 ∷ Xl6 ∷ []) ≡ true) e listed)

  -- 01 XL.20 01 XL.39
  pub status_in_3 : (after cs).phase ≡ Xl3 → Waits (status_of (after cs)) (status_met (history cs))
  status_in_3 e = subst (λ (a : Option Wait). Waits (status_of (after cs)) a) (knows cs Xl3 e).1 (waiting_in Xl3 refl e)

  -- 01 XL.30 01 XL.39
  pub status_in_6 : (after cs).phase ≡ Xl6 → Waits (status_of (after cs)) (aip_met (history cs))
  status_in_6 e = subst (λ (a : Option Wait). Waits (status_of (after cs)) a) (knows cs Xl6 e).aip (waiting_in Xl6 refl e)
