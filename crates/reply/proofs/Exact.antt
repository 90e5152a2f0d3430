-- The test of a state is exact: a call leaves what passes it, and each state that passes it is built up by calls, first the resends, then
-- the phase. Assumes nothing.
use Prim.Native.Nat.{ℕ, zero, suc, ◌≤◌}
use mathlib.Core.Bool.{Bool, true, false}
use mathlib.Core.List.{List, [], ◌∷◌, ◌++◌}
use mathlib.Core.Logic.{inl, inr, ◌↔◌}
use mathlib.Core.Path.{◌≡◌, refl, sym, ap, subst, ◌∙◌}
use native.Mathlib.Omega.{arith}
use borrow.Author.Tests.{lt-ltb, le-ltb, le-leb}
use Rattle.reply.specs.Rules.{in_range, unstarted, keeps_rules}
use Rattle.reply.specs.Steps.{failed}
use Rattle.reply.specs.Calls.{Call, start, respond, ack, nak, timeout, lost, nexus, cancel, step_of, run, Reachable}
use Rattle.reply.specs.declared.Reply.{Reply}
use Rattle.reply.specs.declared.Phase.{Phase}
use Rattle.reply.proofs.Facts.{PhaseRule, rules_say}
use Rattle.reply.proofs.Goes.{run_good}

pub keeps_rules_lem : (cs : List Call) → keeps_rules (run cs unstarted) ≡ true
keeps_rules_lem cs = (rules_say (run cs unstarted)).1 (run_good cs unstarted (refl, refl))

-- some calls leave s of the state before START
abbrev pub Reach : Reply → Type 0
Reach s = (cs : List Call) × (run cs unstarted ≡ s)

run_snoc : (cs : List Call) (c : Call) (s : Reply) → run (cs ++ (c ∷ [])) s ≡ (step_of c (run cs s)).state
run_snoc [] c s = refl
run_snoc (d ∷ cs) c s = run_snoc cs c (step_of d s).state

further : (s : Reply) {t : Reply} (c : Call) → Reach s → (step_of c s).state ≡ t → Reach t
further s c r e = (r.0 ++ (c ∷ []), run_snoc r.0 c unstarted ∙ ap (λ (x : Reply). (step_of c x).state) r.1 ∙ e)

abbrev pub at : ℕ → ℕ → Phase → Reply
at r u p = record { resends = r; used = u; phase = p }

module _ (r : ℕ) (range : r ≤ 255) where
  kept : (p : Phase) (u : ℕ) → PhaseRule p (at r u p) → keeps_rules (at r u p) ≡ true
  kept p u rule = (rules_say (at r u p)).1 rule

  -- a RESPONSE goes
  send : (u : ℕ) → u ≤ r → Reach (at r u Phase.Ask) → Reach (at r u Phase.Wait)
  send u l t = further (at r u Phase.Ask) respond t (rw (kept Phase.Ask u (range, l)))

  begun : Reach (at r 0 Phase.Ask)
  unfolding keeps_rules
  begun = further unstarted (start r) ([], refl) (rw (le-leb r 255 range))

  -- with so many resends used
  due : (u : ℕ) → u ≤ r → Reach (at r u Phase.Ask)
  unfolding failed
  due zero l = begun
  due (suc u) l =
      further (at r u Phase.Wait) nak (send u (omega arith) (due u (omega arith)))
      (rw (kept Phase.Wait u (range, omega arith), lt-ltb u r l) (ap (λ (n : ℕ). at r n Phase.Ask) (omega arith)))

  out : (u : ℕ) → u ≤ r → Reach (at r u Phase.Wait)
  out u l = send u l (due u l)

  all_used : (u : ℕ) → u ≤ r → u ≡ r → Reach (at r u Phase.Fail)
  unfolding failed
  all_used u l e = further (at r u Phase.Wait) nak (out u l) (rw (kept Phase.Wait u (range, l), le-ltb u r (omega arith)))

  delivered : (u : ℕ) → u ≤ r → Reach (at r u Phase.Done)
  delivered u l = further (at r u Phase.Wait) ack (out u l) (rw (kept Phase.Wait u (range, l)))

  cancelled : (u : ℕ) → u ≤ r → Reach (at r u Phase.End)
  cancelled u l = further (at r u Phase.Wait) cancel (out u l) (rw (kept Phase.Wait u (range, l)))

reach : (p : Phase) (r u : ℕ) → PhaseRule p (at r u p) → Reach (at r u p)
reach Phase.New r u h = ([], λ i. at (sym h.0 i) (sym h.1 i) Phase.New)
reach Phase.Ask r u h = due r h.0 u h.1
reach Phase.Wait r u h = out r h.0 u h.1
reach Phase.Done r u h = delivered r h.0 u h.1
reach Phase.Fail r u h = all_used r h.0.0 u h.0.1 h.1
reach Phase.End r u h = cancelled r h.0 u h.1

-- some calls leave a state that passes the test
pub reached : (s : Reply) → keeps_rules s ≡ true → Reach s
reached s e = reach s.phase s.resends s.used ((rules_say s).0 e)

module _ (s : Reply) where
  -- a call of the state before START leaves it, unless it is a START that is taken
  first_start : (r : ℕ) (cs : List Call) (t : Bool) → in_range r ≡ t → run cs (step_of (start r) unstarted).state ≡ s
      → (run cs unstarted ≡ s → Reachable s) → Reachable s
  unfolding keeps_rules
  first_start r cs true q e rest = inr (record { r = r; taken = rw q; calls = cs; leave = e })
  first_start r cs false q e rest = rest (rw q at e)

  in_words : (cs : List Call) → run cs unstarted ≡ s → Reachable s
  unfolding keeps_rules
  in_words [] e = inl (sym e)
  in_words (start r ∷ cs) e = first_start r cs (in_range r) refl e (in_words cs)
  in_words (respond ∷ cs) e = in_words cs e
  in_words (ack ∷ cs) e = in_words cs e
  in_words (nak ∷ cs) e = in_words cs e
  in_words (timeout ∷ cs) e = in_words cs e
  in_words (lost ∷ cs) e = in_words cs e
  in_words (nexus ∷ cs) e = in_words cs e
  in_words (cancel ∷ cs) e = in_words cs e

  -- what some START and calls leave passes the test
  pub sound : Reachable s → keeps_rules s ≡ true
  sound (inl z) = subst (λ (t : Reply). keeps_rules t ≡ true) (sym z) (keeps_rules_lem [])
  sound (inr l) = subst (λ (t : Reply). keeps_rules t ≡ true) l.leave (keeps_rules_lem (start l.r ∷ l.calls))

  -- a state that passes the test is the one before START, or some START and calls leave it
  pub complete : keeps_rules s ≡ true → Reachable s
  complete e = let r = reached s e in in_words r.0 r.1

-- the test takes exactly the states that are that before START or that some START and calls after it leave
pub exact : (s : Reply) → (keeps_rules s ≡ true) ↔ Reachable s
exact s = (complete s, sound s)
