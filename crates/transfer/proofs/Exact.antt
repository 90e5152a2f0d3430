-- The test of a state is exact for every bound of two or more: what calls leave passes it, and each state that passes it is built
-- up by calls, first the resends, then the balance point frame by frame, then the frames that are out. Assumes nothing.
use Prim.Native.Nat.{ℕ, zero, suc, ◌+◌, ◌-◌, ◌*◌, ◌≤◌, ◌<◌}
use mathlib.Core.Bool.{Bool, true, false}
use mathlib.Core.List.{List, [], ◌∷◌, ◌++◌}
use mathlib.Core.Logic.{inl, inr, ◌↔◌}
use mathlib.Core.Path.{◌≡◌, refl, sym, ap, subst, ◌∙◌}
use native.Mathlib.Omega.{arith}
use native.Mathlib.Nat.{mul-le-mul_right, lt_of_mul-lt-mul_right}
use Rattle.laws.proofs.Bools.{impossible}
use Rattle.transfer.specs.Rules.{end_of, in_range, unstarted, frames, keeps_rules}
use Rattle.transfer.specs.Steps.{start_step, frame_step, ack_step, nak_step, drop_step, end_step}
use Rattle.transfer.specs.Calls.{Call, start, frame, ack, nak, timeout, lost, nexus, cancel, step_of, run, Reachable}
use Rattle.transfer.specs.Grounds.{InRange}
use Rattle.transfer.specs.declared.Transfer.{Transfer}
use Rattle.transfer.specs.declared.Phase.{Phase}
use Rattle.transfer.proofs.Facts.{PhaseRule, sent_by, RunRule, DrainRule}
use Rattle.transfer.proofs.Shape.{BaseOf, Good, frames_reach, frames_less, rules_good, good_rules}
use Rattle.transfer.proofs.Sound.{run_good}
use Rattle.transfer.proofs.Moves.{at, done, Fresh, some, four, idle_kept, out_kept, begin_step, frame_step_lem, ack_one, ack_more}
use Rattle.transfer.proofs.Moves.{ack_done, nak_one, nak_drain, nak_fail, cancel_step, done_is, inside, idle_is, out_is, fresh}

-- some calls leave s of the state before START
abbrev pub Reach : ℕ → Transfer → Type 0
Reach bound s = (cs : List Call) × (run bound cs unstarted ≡ s)

run_snoc : (bound : ℕ) (cs : List Call) (c : Call) (s : Transfer) → run bound (cs ++ (c ∷ [])) s ≡ (step_of bound c (run bound cs s)).state
run_snoc bound [] c s = refl
run_snoc bound (d ∷ cs) c s = run_snoc bound cs c (step_of bound d s).state

further : (bound : ℕ) (s t : Transfer) (c : Call) → Reach bound s → (step_of bound c s).state ≡ t → Reach bound t
further bound s t c r e =
    (r.0 ++ (c ∷ []), run_snoc bound r.0 c unstarted ∙ ap (λ (x : Transfer). (step_of bound c x).state) r.1 ∙ e)

module _ (bound : ℕ) (two : 2 ≤ bound) (s : Transfer) (h : InRange s.offset s.count s.size s.resends) where
  begins : Reach bound (at s 0 0 0 false 0 Phase.Run)
  begins = (start s.offset s.count s.size s.resends ∷ [], begin_step bound s h)

  -- with as many frames before the balance point
  same : (k j : ℕ) (sent : Bool) (used : ℕ) → k ≡ j → Reach bound (at s k 0 0 sent used Phase.Run) → Reach bound (at s j 0 0 sent used Phase.Run)
  same k j sent used e t = subst (λ (x : ℕ). Reach bound (at s x 0 0 sent used Phase.Run)) e t

  -- a frame goes with none out
  first_frame : (k : ℕ) (sent : Bool) (used : ℕ) → k * s.size < s.count → used ≤ s.resends → Fresh k sent used
      → Reach bound (at s k 0 0 sent used Phase.Run) → Reach bound (at s k 1 1 true used Phase.Run)
  first_frame k sent used a u w t =
      further bound (at s k 0 0 sent used Phase.Run) (at s k 1 1 true used Phase.Run) frame t
      (frame_step_lem bound s h k 0 0 sent used (idle_kept bound s h k sent used a u w) (omega arith) (omega arith))

  -- and is ACKed
  one_on : (k : ℕ) (sent : Bool) (used : ℕ) → (k + 1) * s.size < s.count → used ≤ s.resends → Fresh k sent used
      → Reach bound (at s k 0 0 sent used Phase.Run) → Reach bound (at s (k + 1) 0 0 true used Phase.Run)
  one_on k sent used a u w t =
      let m4 = four bound s h in
      let t1 : Reach bound (at s k 1 1 true used Phase.Run) = first_frame k sent used (omega arith) u w t in
      further bound (at s k 1 1 true used Phase.Run) (at s (k + 1) 0 0 true used Phase.Run) ack t1
      (ack_one bound s h k 1 true used (out_kept bound s h k 1 0 used (omega arith) (omega arith) u (omega arith) (omega arith)) a)

  -- with no resend yet
  plain_at : (k : ℕ) → k * s.size < s.count → (sent : Bool) × Fresh k sent 0 × Reach bound (at s k 0 0 sent 0 Phase.Run)
  plain_at zero a = (false, record { moved = impossible; still = λ e z. refl }, begins)
  plain_at (suc k) a =
      let p = plain_at k (omega arith) in
      let t : Reach bound (at s (k + 1) 0 0 true 0 Phase.Run) = one_on k p.0 0 (omega arith) (omega arith) p.1 p.2 in
      (true, record { moved = λ e. omega arith; still = λ e z. impossible (sym e) }, same (k + 1) (suc k) true 0 (omega arith) t)

  -- a resend more
  again : (k : ℕ) (sent : Bool) (used : ℕ) → k * s.size < s.count → used < s.resends → Fresh k sent used
      → Reach bound (at s k 0 0 sent used Phase.Run) → Reach bound (at s k 0 0 false (suc used) Phase.Run)
  again k sent used a u w t =
      let t1 : Reach bound (at s k 1 1 true used Phase.Run) = first_frame k sent used a (omega arith) w t in
      let t2 : Reach bound (at s k 0 0 false (used + 1) Phase.Run) =
      further bound (at s k 1 1 true used Phase.Run) (at s k 0 0 false (used + 1) Phase.Run) nak t1
      (nak_one bound s h k 1 true used (out_kept bound s h k 1 0 used a (omega arith) (omega arith) (omega arith) (omega arith)) u a) in
      subst (λ (x : ℕ). Reach bound (at s k 0 0 false x Phase.Run)) (omega arith) t2

  -- with so many resends
  idle_at : (used : ℕ) → used ≤ s.resends → (k : ℕ) → k * s.size < s.count
      → (sent : Bool) × Fresh k sent used × Reach bound (at s k 0 0 sent used Phase.Run)
  idle_at zero u k a = plain_at k a
  idle_at (suc used) u k a =
      let p = idle_at used (omega arith) k a in
      (false, record { moved = impossible; still = λ e z. absurd (omega arith) }, again k p.0 used a u p.1 p.2)

  -- every state with none out
  idle : (k : ℕ) (sent : Bool) (used : ℕ) → k * s.size < s.count → used ≤ s.resends → Fresh k sent used
      → Reach bound (at s k 0 0 sent used Phase.Run)
  idle zero true used a u w = absurd (let z = w.moved refl in omega arith)
  idle (suc k) true used a u w =
      let p = idle_at used u k (omega arith) in
      same (k + 1) (suc k) true used (omega arith) (one_on k p.0 used (omega arith) u p.1 p.2)
  idle k false zero a u w = same 0 k false 0 (sym (w.still refl refl)) begins
  idle k false (suc used) a u w = let p = idle_at used (omega arith) k a in again k p.0 used a u p.1 p.2

  -- f frames went, one is out
  one_out : (k f used : ℕ) → (k + suc f) * s.size < s.count + s.size → used ≤ s.resends → Reach bound (at s k (suc f) 1 true used Phase.Run)
  one_out k zero used c u =
      let p = idle_at used u k (omega arith) in
      first_frame k p.0 used (omega arith) u p.1 p.2
  one_out k (suc f) used c u =
      let m4 = four bound s h in
      let a : k * s.size < s.count = lower k f c in
      let t1 : Reach bound (at s k (suc f) 1 true used Phase.Run) = one_out k f used (omega arith) u in
      let t2 : Reach bound (at s k (suc f + 1) 2 true used Phase.Run) =
      further bound (at s k (suc f) 1 true used Phase.Run) (at s k (suc f + 1) 2 true used Phase.Run) frame t1
      (frame_step_lem bound s h k (suc f) 1 true used (out_kept bound s h k (suc f) 0 used a (omega arith) u (omega arith) (omega arith)) (omega arith) (omega arith)) in
      let t3 : Reach bound (at s k (suc f + 1) 1 true used Phase.Run) =
      further bound (at s k (suc f + 1) 2 true used Phase.Run) (at s k (suc f + 1) 1 true used Phase.Run) ack t2
      (ack_more bound s h k (suc f + 1) 0 true used (out_kept bound s h k (suc f + 1) 1 used a (omega arith) u (omega arith) two)) in
      subst (λ (x : ℕ). Reach bound (at s k x 1 true used Phase.Run)) (omega arith) t3
    where
      lower : (k f : ℕ) → (k + suc (suc f)) * s.size < s.count + s.size → k * s.size < s.count
      lower k f c = let l : k * s.size ≤ (k + suc f) * s.size = mul-le-mul_right s.size (omega arith) in omega arith

  -- f frames went, d + 1 are out
  out : (d k f used : ℕ) → (k + f) * s.size < s.count + s.size → suc d ≤ f → suc d ≤ bound → used ≤ s.resends
      → Reach bound (at s k f (suc d) true used Phase.Run)
  out zero k zero used c l o u = absurd (omega arith)
  out zero k (suc f) used c l o u = one_out k f used c u
  out (suc d) k zero used c l o u = absurd (omega arith)
  out (suc d) k (suc f) used c l o u =
      let m4 = four bound s h in
      let q : k * s.size ≤ (k + f) * s.size = mul-le-mul_right s.size (omega arith) in
      let t1 : Reach bound (at s k f (suc d) true used Phase.Run) = out d k f used (omega arith) (omega arith) (omega arith) u in
      let t2 : Reach bound (at s k (f + 1) (suc d + 1) true used Phase.Run) =
      further bound (at s k f (suc d) true used Phase.Run) (at s k (f + 1) (suc d + 1) true used Phase.Run) frame t1
      (frame_step_lem bound s h k f (suc d) true used (out_kept bound s h k f d used (omega arith) (omega arith) u (omega arith) (omega arith)) (omega arith) (omega arith)) in
      subst (λ (x : ℕ). Reach bound (at s k x (suc (suc d)) true used Phase.Run)) (omega arith)
      (subst (λ (x : ℕ). Reach bound (at s k (f + 1) x true used Phase.Run)) (omega arith) t2)

  done_at : (used : ℕ) → used ≤ s.resends → Reach bound (done s used)
  done_at used u =
      let n1 = some bound s h in
      let m4 = four bound s h in
      let f : ℕ = frames s.count s.size in
      let up : s.count ≤ f * s.size = frames_reach s.count s.size (omega arith) in
      let down : f * s.size < s.count + s.size = frames_less s.count s.size (omega arith) in
      let p : 1 ≤ f = lt_of_mul-lt-mul_right s.size {m = 0} (omega arith) in
      let t : Reach bound (at s 0 f 1 true used Phase.Run) = out 0 0 f used (omega arith) p (omega arith) u in
      further bound (at s 0 f 1 true used Phase.Run) (done s used) ack t
      (ack_done bound s h 0 f used (out_kept bound s h 0 f 0 used (omega arith) (omega arith) u p (omega arith)) (omega arith))

module _ (bound : ℕ) (two : 2 ≤ bound) (s : Transfer) (k f : ℕ) (h : BaseOf s k f) (room : s.balance < end_of s) where
  within : k * s.size < s.count
  within = inside s k f h room

  out_here : (d : ℕ) → suc d ≤ f → suc d ≤ bound → Reach bound (at s k f (suc d) true s.used Phase.Run)
  out_here d l o = out bound two s h.setup d k f s.used h.real l o h.tried

  out_keeps : (d : ℕ) → suc d ≤ f → suc d ≤ bound → keeps_rules bound (at s k f (suc d) true s.used Phase.Run) ≡ true
  out_keeps d l o = out_kept bound s h.setup k f d s.used within h.real h.tried l o

  run_reach : s.phase ≡ Phase.Run → RunRule bound (end_of s) f s → Reach bound s
  run_reach e (below, (a, inl z)) =
      subst (Reach bound) (idle_is s k f h room z.0 z.1 Phase.Run (sym e)) (idle bound two s h.setup k s.sent s.used within h.tried (fresh s k f h room z.0 a))
  run_reach e (below, (a, inr o)) =
      let some = o.0 in
      let few = o.1.0 in
      let most = o.1.1 in
      subst (Reach bound) (out_is s k f h room (suc (s.unanswered - 1)) (omega arith) (sent_by f s (omega arith) a) Phase.Run (sym e)) (out_here (s.unanswered - 1) (omega arith) (omega arith))

  drain_reach : s.phase ≡ Phase.Drain → DrainRule bound (end_of s) f s → Reach bound s
  drain_reach e (below, (sent, (again, (some, (few, most))))) =
      let x : ℕ = s.unanswered - 1 in
      further bound (at s k f (suc (suc x)) true s.used Phase.Run) s nak (out_here (suc x) (omega arith) (omega arith))
      (nak_drain bound s h.setup k f x s.used (out_keeps (suc x) (omega arith) (omega arith)) again
      ∙ out_is s k f h room (suc x) (omega arith) sent Phase.Drain (sym e))

  fail_reach : s.phase ≡ Phase.Fail → PhaseRule bound (end_of s) f Phase.Fail s → Reach bound s
  fail_reach e (below, (sent, (all, (none, some)))) =
      further bound (at s k f 1 true s.used Phase.Run) s nak (out_here 0 some (omega arith))
      (nak_fail bound s h.setup k f s.used (out_keeps 0 some (omega arith)) (omega arith)
      ∙ out_is s k f h room 0 (sym none) sent Phase.Fail (sym e))

  end_reach : s.phase ≡ Phase.End → PhaseRule bound (end_of s) f Phase.End s → Reach bound s
  end_reach e (below, (inl a, none)) =
      further bound (at s k f 1 true s.used Phase.Run) s cancel (out_here 0 a.0 (omega arith))
      (cancel_step bound s h.setup k f 1 true s.used (out_keeps 0 a.0 (omega arith))
      ∙ out_is s k f h room 0 (sym none) a.1 Phase.End (sym e))
  end_reach e (below, (inr a, none)) =
      let w = fresh s k f h room a.0 (inr a) in
      further bound (at s k 0 0 s.sent s.used Phase.Run) s cancel (idle bound two s h.setup k s.sent s.used within h.tried w)
      (cancel_step bound s h.setup k 0 0 s.sent s.used (idle_kept bound s h.setup k s.sent s.used within h.tried w)
      ∙ idle_is s k f h room a.0 none Phase.End (sym e))

module _ (bound : ℕ) (two : 2 ≤ bound) (s : Transfer) where
  done_reach : (k f : ℕ) → BaseOf s k f → s.phase ≡ Phase.Done → PhaseRule bound (end_of s) f Phase.Done s → Reach bound s
  done_reach k f h e (balance, (read, (none, sent))) =
      subst (Reach bound) (done_is s balance read none sent e) (done_at bound two s h.setup s.used h.tried)

  reach_at : (p : Phase) → s.phase ≡ p → (k f : ℕ) → BaseOf s k f → PhaseRule bound (end_of s) f p s → Reach bound s
  reach_at Phase.New e k f h rule = absurd rule
  reach_at Phase.Run e k f h rule = run_reach bound two s k f h rule.0 e rule
  reach_at Phase.Drain e k f h rule = drain_reach bound two s k f h rule.0 e rule
  reach_at Phase.Done e k f h rule = done_reach k f h e rule
  reach_at Phase.Fail e k f h rule = fail_reach bound two s k f h rule.0 e rule
  reach_at Phase.End e k f h rule = end_reach bound two s k f h rule.0 e rule

  reaches : Good bound s → Reach bound s
  reaches (inl z) = ([], sym z)
  reaches (inr w) = reach_at s.phase refl w.k w.f w.base w.rule

  -- some calls leave a state that passes the test
  pub reached : keeps_rules bound s ≡ true → Reach bound s
  reached e = reaches (rules_good bound s e)

pub keeps_rules_lem : (bound : ℕ) (cs : List Call) → keeps_rules bound (run bound cs unstarted) ≡ true
keeps_rules_lem bound cs = good_rules bound (run bound cs unstarted) (run_good bound cs unstarted (inl refl))

-- a call of the state before START leaves it, unless it is a START that is taken
module _ (bound : ℕ) (s : Transfer) where
  unstarted_good : keeps_rules bound unstarted ≡ true
  unstarted_good = good_rules bound unstarted (inl refl)

  first_start : (b n m r : ℕ) (cs : List Call) (t : Bool) → in_range b n m r ≡ t → run bound cs (step_of bound (start b n m r) unstarted).state ≡ s
      → (run bound cs unstarted ≡ s → Reachable bound s) → Reachable bound s
  unfolding step_of start_step
  first_start b n m r cs true q e rest =
      inr (record { b = b; n = n; m = m; r = r; taken = rw (q, unstarted_good); calls = cs; leave = e })
  first_start b n m r cs false q e rest = rest (rw q at e)

  first_other : (c : Call) (cs : List Call) → (step_of bound c unstarted).state ≡ unstarted
      → run bound cs (step_of bound c unstarted).state ≡ s → run bound cs unstarted ≡ s
  first_other c cs e r = ap (λ (t : Transfer). run bound cs t) (sym e) ∙ r

  in_words : (cs : List Call) → run bound cs unstarted ≡ s → Reachable bound s
  unfolding step_of frame_step ack_step nak_step drop_step end_step
  in_words [] e = inl (sym e)
  in_words (start b n m r ∷ cs) e = first_start b n m r cs (in_range b n m r) refl e (in_words cs)
  in_words (frame ∷ cs) e = in_words cs (first_other frame cs (rw unstarted_good) e)
  in_words (ack ∷ cs) e = in_words cs (first_other ack cs (rw unstarted_good) e)
  in_words (nak ∷ cs) e = in_words cs (first_other nak cs (rw unstarted_good) e)
  in_words (timeout ∷ cs) e = in_words cs (first_other timeout cs (rw unstarted_good) e)
  in_words (lost ∷ cs) e = in_words cs (first_other lost cs (rw unstarted_good) e)
  in_words (nexus ∷ cs) e = in_words cs (first_other nexus cs (rw unstarted_good) e)
  in_words (cancel ∷ cs) e = in_words cs (first_other cancel cs (rw unstarted_good) e)

  -- what some START and calls leave passes the test
  pub sound : Reachable bound s → keeps_rules bound s ≡ true
  unfolding step_of
  sound (inl z) = good_rules bound s (inl z)
  sound (inr l) = subst (λ (t : Transfer). keeps_rules bound t ≡ true) l.leave (keeps_rules_lem bound (start l.b l.n l.m l.r ∷ l.calls))

  -- a state that passes the test is the one before START, or some START and calls leave it
  pub complete : 2 ≤ bound → keeps_rules bound s ≡ true → Reachable bound s
  complete two e = let r = reached bound two s e in in_words r.0 r.1

-- the test takes exactly the states that are that before START or that some START and calls after it leave
pub exact : (bound : ℕ) → 2 ≤ bound → (s : Transfer) → (keeps_rules bound s ≡ true) ↔ Reachable bound s
exact bound two s = (complete bound s two, sound bound s)
