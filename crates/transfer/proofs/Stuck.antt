-- No state is stuck: what is drained is given up by a TIMEOUT, what is out is ACKed, and each frame that goes and is ACKed brings the
-- balance point nearer to the end. Assumes nothing.
use Prim.Native.Nat.{ℕ, zero, suc, ◌+◌, ◌-◌, ◌*◌, ◌≤◌, ◌<◌}
use mathlib.Core.Bool.{Bool, true, false}
use mathlib.Core.List.{[], ◌∷◌}
use mathlib.Core.Logic.{◌⊎◌, inl, inr}
use mathlib.Core.Path.{◌≡◌, refl, sym, ap, subst, ◌∙◌}
use native.Mathlib.Omega.{arith}
use lib.Dec.{ltb}
use borrow.Author.Tests.{ltb-true, ltb-false}
use Rattle.laws.proofs.Bools.{impossible}
use Rattle.transfer.specs.Rules.{end_of, frames, keeps_rules}
use Rattle.transfer.specs.Steps.{unfinished}
use Rattle.transfer.specs.Calls.{Call, frame, ack, timeout, step_of, run, Reachable, Finishes}
use Rattle.transfer.specs.Grounds.{InRange}
use Rattle.transfer.specs.declared.Transfer.{Transfer}
use Rattle.transfer.specs.declared.Phase.{Phase}
use Rattle.transfer.proofs.Facts.{sent_by, RunRule, DrainRule}
use Rattle.transfer.proofs.Shape.{BaseOf, Live, frames_reach, rules_good}
use Rattle.transfer.proofs.Calls.{work}
use Rattle.transfer.proofs.Sound.{live, run_rule, drain_rule}
use Rattle.transfer.proofs.Moves.{at, done, Fresh, four, idle_kept, out_kept, frame_step_lem, ack_one, ack_more, ack_done, drop_step_lem}
use Rattle.transfer.proofs.Moves.{inside, idle_is, out_is, fresh}
use Rattle.transfer.proofs.Exact.{sound}

by_call : (bound : ℕ) (s t : Transfer) (c : Call) → (step_of bound c s).state ≡ t → Finishes bound t → Finishes bound s
by_call bound s t c e w = (c ∷ w.0, ap (λ (x : Transfer). (run bound w.0 x).phase) e ∙ w.1)

module _ (bound : ℕ) (two : 2 ≤ bound) (s : Transfer) (h : InRange s.offset s.count s.size s.resends) where
  -- one frame is out, the last: its ACK
  last_ack : (k f used : ℕ) → k * s.size < s.count → (k + f) * s.size < s.count + s.size → used ≤ s.resends → 1 ≤ f
      → ((k + f) * s.size < s.count → Finishes bound (at s (k + f) 0 0 true used Phase.Run)) → Finishes bound (at s k f 1 true used Phase.Run)
  last_ack k f used a c u l more = go (ltb ((k + f) * s.size) s.count) refl
    where
      kept : keeps_rules bound (at s k f 1 true used Phase.Run) ≡ true
      kept = out_kept bound s h k f 0 used a c u l (omega arith)

      go : (t : Bool) → ltb ((k + f) * s.size) s.count ≡ t → Finishes bound (at s k f 1 true used Phase.Run)
      go true t =
          let near = ltb-true ((k + f) * s.size) s.count t in
          by_call bound (at s k f 1 true used Phase.Run) (at s (k + f) 0 0 true used Phase.Run) ack (ack_one bound s h k f true used kept near) (more near)
      go false t =
          by_call bound (at s k f 1 true used Phase.Run) (done s used) ack (ack_done bound s h k f used kept (ltb-false ((k + f) * s.size) s.count t)) ([], refl)

  -- with none out, frame by frame
  idle : (left k : ℕ) (sent : Bool) (used : ℕ) → k * s.size < s.count → s.count ≤ (k + left) * s.size → used ≤ s.resends
      → Fresh k sent used → Finishes bound (at s k 0 0 sent used Phase.Run)
  idle zero k sent used a reach u w = absurd (omega arith)
  idle (suc left) k sent used a reach u w =
      by_call bound (at s k 0 0 sent used Phase.Run) (at s k 1 1 true used Phase.Run) frame
      (frame_step_lem bound s h k 0 0 sent used (idle_kept bound s h k sent used a u w) (omega arith) (omega arith))
      (last_ack k 1 used a (omega arith) u (omega arith)
      (λ near. idle left (k + 1) true used near (omega arith) u (record { moved = λ e. omega arith; still = λ e z. impossible (sym e) })))

  -- enough frames for all
  enough : (k : ℕ) → s.count ≤ (k + frames s.count s.size) * s.size
  enough k =
      let m4 = four bound s h in
      let l : s.count ≤ frames s.count s.size * s.size = frames_reach s.count s.size (omega arith) in
      omega arith

  -- with frames out, ACK by ACK
  out : (d k f used : ℕ) → k * s.size < s.count → (k + f) * s.size < s.count + s.size → suc d ≤ f → suc d ≤ bound
      → used ≤ s.resends → Finishes bound (at s k f (suc d) true used Phase.Run)
  out zero k f used a c l o u =
      last_ack k f used a c u l
      (λ near. idle (frames s.count s.size) (k + f) true used near (enough (k + f)) u (record { moved = λ e. omega arith; still = λ e z. impossible (sym e) }))
  out (suc d) k f used a c l o u =
      by_call bound (at s k f (suc (suc d)) true used Phase.Run) (at s k f (suc d) true used Phase.Run) ack
      (ack_more bound s h k f d true used (out_kept bound s h k f (suc d) used a c u l o)) (out d k f used a c (omega arith) (omega arith) u)

module _ (bound : ℕ) (two : 2 ≤ bound) (s : Transfer) (k f : ℕ) (h : BaseOf s k f) where
  in_run : RunRule bound (end_of s) f s → s.phase ≡ Phase.Run → Finishes bound s
  in_run (room, (a, inl z)) e =
      subst (Finishes bound) (idle_is s k f h room z.0 z.1 Phase.Run (sym e))
      (idle bound two s h.setup (frames s.count s.size) k s.sent s.used (inside s k f h room) (enough bound two s h.setup k) h.tried (fresh s k f h room z.0 a))
  in_run (room, (a, inr o)) e =
      let some = o.0 in
      let few = o.1.0 in
      let most = o.1.1 in
      subst (Finishes bound) (out_is s k f h room (suc (s.unanswered - 1)) (omega arith) (sent_by f s (omega arith) a) Phase.Run (sym e))
      (out bound two s h.setup (s.unanswered - 1) k f s.used (inside s k f h room) h.real (omega arith) (omega arith) h.tried)

  in_drain : DrainRule bound (end_of s) f s → s.phase ≡ Phase.Drain → keeps_rules bound s ≡ true → Finishes bound s
  in_drain (room, (sent, (again, (some, (few, most))))) e kept =
      let is = out_is s k f h room s.unanswered refl sent Phase.Drain (sym e) in
      let near = inside s k f h room in
      subst (Finishes bound) is
      (by_call bound (at s k f s.unanswered true s.used Phase.Drain) (at s k 0 0 false (s.used + 1) Phase.Run) timeout
      (drop_step_lem bound s h.setup k f s.unanswered s.used (subst (λ (t : Transfer). keeps_rules bound t ≡ true) (sym is) kept) some again near)
      (idle bound two s h.setup (frames s.count s.size) k false (s.used + 1) near (enough bound two s h.setup k) (omega arith)
      (record { moved = impossible; still = λ t z. absurd (omega arith) })))

-- from every unfinished state that some START and calls leave, some calls deliver all
pub unstuck : (bound : ℕ) → 2 ≤ bound → (s : Transfer) → Reachable bound s → unfinished s.phase ≡ true → Finishes bound s
unstuck bound two s r u = by_phase (work s.phase u)
  where
    kept : keeps_rules bound s ≡ true
    kept = sound bound s r

    lives : Live bound s
    lives = live bound s (rules_good bound s kept) u

    by_phase : (s.phase ≡ Phase.Run) ⊎ (s.phase ≡ Phase.Drain) → Finishes bound s
    by_phase (inl e) = in_run bound two s lives.k lives.f lives.base (run_rule bound s lives e) e
    by_phase (inr e) = in_drain bound two s lives.k lives.f lives.base (drain_rule bound s lives e) e kept
