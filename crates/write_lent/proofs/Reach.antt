-- Numbers that C lends are those that some calls gave back exactly if they say a write that passes the exact test: what is shown is read back, the
-- write's own calls are C's, and numbers that aren't formed say a write that breaks its rules. Assumes nothing.
use Prim.Native.Nat.{ℕ, ◌^◌, ◌<◌}
use mathlib.Core.Bool.{Bool, true, false, cond}
use mathlib.Core.List.{List, [], ◌∷◌, map}
use mathlib.Core.Logic.{inl, inr, ⊎_elim, ◌↔◌}
use mathlib.Core.Path.{◌≡◌, refl, sym, ap, subst, ◌∙◌}
use native.Mathlib.Omega.{arith}
use Rattle.write.specs.Rules.{unstarted, keeps_rules}
use Rattle.write.specs.Steps.{limit, start_step}
use Rattle.write.specs.Calls as plainly
use Rattle.write.specs.Calls.{start}
use Rattle.write.specs.declared.Write.{Write}
use Rattle.write.proofs.Exact.{exact}
use Rattle.write.proofs.Kept.{Started, rules_say}
use Rattle.write.proofs.Leaves.{Good}
use Rattle.write.proofs.Sound.{kept, step_good}
use Rattle.write.proofs.Stuck.{unstuck}
use Rattle.take_history.specs.Calls as machine
use Rattle.take_history.specs.Calls.{Call, plain, Typed, AllTyped}
use Rattle.write_lent.specs.Numbers.{phase_number, answer_number}
use Rattle.write_lent.specs.Lent.{formed, state_of, shown, told}
use Rattle.write_lent.specs.Face.{face_of}
use Rattle.write_lent.specs.History.{zeros, run, Reached, Finishes}
use Rattle.write_lent.specs.Demand.{Unfinished}
use Rattle.write_lent.specs.declared.State.{State}
use Rattle.write_lent.specs.declared.Step.{Step}
use Rattle.write_lent.proofs.Members.{shown_back, formed_back}
use Rattle.write_lent.proofs.Plain.{typed_plain, moved}
use Rattle.write_lent.proofs.Runs.{step_shown, run_shown}
use Rattle.write_lent.proofs.Demand.{is_unfinished}

-- ---- the write's own calls are C's

plain_run : (cs : List plainly.Call) (w : Write) → machine.run limit (map plain cs) w ≡ plainly.run limit cs w
plain_run [] w = refl
plain_run (c ∷ cs) w = plain_run cs (plainly.step_of limit c w).state

plain_typed : (cs : List plainly.Call) → plainly.AllTyped limit cs → AllTyped limit (map plain cs)
plain_typed [] typed = typed
plain_typed (c ∷ cs) typed = (typed.0, plain_typed cs typed.1)

start_shown : (b n x r : ℕ) → face_of (plain (start b n x r)) zeros ≡ told (start_step limit b n x r unstarted)
unfolding plainly.step_of
start_shown b n x r = step_shown (plain (start b n x r)) unstarted

pub reached_shown : (w : Write) → plainly.Reachable limit w → Reached (shown w)
reached_shown w (inl e) = inl (ap shown e)
reached_shown w (inr l) =
    let started = start_shown l.b l.n l.x l.r in
    let first = (start_step limit l.b l.n l.x l.r unstarted).state in
    inr
    (record {
      b = l.b;
      n = l.n;
      x = l.x;
      r = l.r;
      taken = ap (λ (q : Step). q.answer) started ∙ ap answer_number l.taken;
      calls = map plain l.calls;
      typed = plain_typed l.calls l.typed;
      leave = ap (λ (q : Step). run (map plain l.calls) q.state) started ∙ run_shown (map plain l.calls) first ∙ ap shown (plain_run l.calls first ∙ l.leave);
    })

-- ---- calls with bytes keep the rules too

step_keeps : (c : Call) (w : Write) → Typed limit c → Good limit w → Good limit (machine.step_of limit c w).state
step_keeps c w typed g =
    ⊎_elim (λ same. subst (Good limit) (sym same) g) (λ same. subst (Good limit) (sym same) (step_good limit w g (machine.plain_of c) (typed_plain c typed)))
    (moved c w)

run_keeps : (cs : List Call) (w : Write) → AllTyped limit cs → Good limit w → Good limit (machine.run limit cs w)
run_keeps [] w typed g = g
run_keeps (c ∷ cs) w typed g = run_keeps cs (machine.step_of limit c w).state typed.1 (step_keeps c w typed.0 g)

at_first : Good limit unstarted
at_first = record { rules = inl refl; small = omega arith }

-- ---- which numbers calls give back

-- what some calls of all zeros leave keeps the rules, and its tags are below the number of tags
run_good : (cs : List Call) → AllTyped limit cs → Good limit (state_of (run cs zeros))
run_good cs typed =
    let w = machine.run limit cs unstarted in
    subst (λ (s : State). Good limit (state_of s)) (sym (run_shown cs unstarted)) (subst (Good limit) (sym (shown_back w)) (run_keeps cs unstarted typed at_first))

pub reached_good : (s : State) → Reached s → Good limit (state_of s)
reached_good s (inl e) = subst (λ (q : State). Good limit (state_of q)) (sym e) (run_good [] tt)
reached_good s (inr l) =
    subst (λ (q : State). Good limit (state_of q)) l.leave (run_good (plain (start l.b l.n l.x l.r) ∷ l.calls) (tt, l.typed))

abbrev Kept : State → Type 0
Kept s = keeps_rules limit (state_of s) ≡ true

pub reached_kept : (s : State) → Reached s → Kept s
reached_kept s r = kept limit (state_of s) (reached_good s r)

-- R is below the number of tags in every write that keeps its rules
few_resends : (w : Write) → keeps_rules limit w ≡ true → w.resends < limit
few_resends w e =
    ⊎_elim (λ (z : w ≡ unstarted). let none = ap (λ (u : Write). u.resends) z in omega arith) (λ (h : Started limit w). h.0.0.1.1.1.1) ((rules_say limit w).0 e)

pub kept_formed : (s : State) → Kept s → formed s ≡ true
kept_formed s e = by (formed s) refl
  where
    by : (t : Bool) → formed s ≡ t → formed s ≡ true
    by true on = on
    by false off =
        let few = few_resends (state_of s) e in
        let all : (state_of s).resends ≡ limit = ap (λ (t : Bool). cond t s.resends limit) off in
        absurd (omega (arith, few, all))

-- formed numbers are shown as they were
pub kept_shown : (s : State) → Kept s → shown (state_of s) ≡ s
kept_shown s e = formed_back s (kept_formed s e)

module _ (s : State) (small : s.tags < 2 ^ limit) where
  kept_reached : Kept s → Reached s
  kept_reached e = subst Reached (kept_shown s e) (reached_shown (state_of s) ((exact limit (omega arith) (state_of s) small).0 e))

  -- the test of the write that the numbers say is exact
  pub exact_seen : (keeps_rules limit (state_of s) ≡ true) ↔ Reached s
  exact_seen = (kept_reached, reached_kept s)

  -- so the numbers say a write that its own calls leave exactly if C's calls gave them back
  pub reachable_seen : plainly.Reachable limit (state_of s) ↔ Reached s
  reachable_seen =
      let e = exact limit (omega arith) (state_of s) small in
      (λ h. kept_reached (e.1 h), λ r. e.0 (reached_kept s r))

-- from every state that calls leave unfinished some calls of C take every byte
pub unstuck_seen : (s : State) → Reached s → Unfinished s → Finishes s
unstuck_seen s r u =
    let w = state_of s in
    let g = reached_good s r in
    let same = kept_shown s (reached_kept s r) in
    let f = unstuck limit (omega arith) w g.small (reached_kept s r) (is_unfinished w (subst Unfinished (sym same) u)) in
    record {
      calls = f.calls;
      alone = f.alone;
      done =
          ap (λ (q : State). (run (map plain f.calls) q).phase) (sym same)
          ∙ ap (λ (q : State). q.phase) (run_shown (map plain f.calls) w)
          ∙ ap phase_number (ap (λ (v : Write). v.phase) (plain_run f.calls w) ∙ f.done);
    }
