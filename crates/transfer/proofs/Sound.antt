-- Whatever calls leave keeps the rules: a call moves the balance point and the read offset by whole frames, and counts with them.
-- Assumes nothing.
use Rattle.std.specs.Prelude.{Ok}
use Prim.Native.Nat.{ℕ, suc, ◌+◌, ◌-◌, ◌*◌, ◌≤◌, ◌<◌, min}
use mathlib.Core.Bool.{true, false}
use mathlib.Core.List.{List, [], ◌∷◌}
use mathlib.Core.Logic.{◌⊎◌, inl, inr, ⊎_elim}
use mathlib.Core.Path.{◌≡◌, refl, sym, ap, subst, subst⁻¹, ◌∙◌}
use native.Mathlib.Omega.{arith}
use lib.Dec.{leb, eqb}
use borrow.Author.Tests.{eqb-true, eqb-false, leb-true, leb-false, not-false}
use Rattle.laws.proofs.Bools.{never, by_test, nor}
use Rattle.refusals.specs.Causes.{refuse}
use Rattle.refusals.specs.declared.Refusal.{Refusal}
use Rattle.transfer.specs.Rules.{end_of, unstarted}
use Rattle.transfer.specs.Steps.{unfinished, draining, started, frame_length, framed, finished, answered, balanced, all_sent, settled, drained}
use Rattle.transfer.specs.Steps.{acked, nacked, dropped, ended, in_phase, refused, with, say, start_causes, frame_causes, answer_causes, end_causes}
use Rattle.transfer.specs.Steps.{start_step, frame_step, ack_step, nak_step, drop_step, end_step}
use Rattle.transfer.specs.Calls.{Call, start, frame, ack, nak, timeout, lost, nexus, cancel, step_of, run}
use Rattle.transfer.specs.Grounds.{InRange}
use Rattle.transfer.specs.declared.Transfer.{Transfer}
use Rattle.transfer.specs.declared.Stepped.{Stepped}
use Rattle.transfer.specs.declared.Answer.{Answer}
use Rattle.transfer.specs.declared.Phase.{Phase}
use Rattle.refusals.proofs.Causes.{by_causes}
use Rattle.transfer.proofs.Calls.{run_phase, drain_phase, work, some_left}
use Rattle.transfer.proofs.Facts.{in_range_lem, sent_by, RunRule, DrainRule, PhaseRule}
use Rattle.transfer.proofs.Shape.{Base, BaseOf, Live, Good}

-- what a step leaves is good
abbrev pub Leaves : ℕ → Stepped → Type 0
Leaves bound st = Good bound st.state

-- in run or in drain, a frame unanswered of f that went
record Out (bound : ℕ) (s : Transfer) (k f : ℕ) : Type 0 where
  pub base : BaseOf s k f
  pub room : s.balance < end_of s
  pub went : s.sent ≡ true
  pub some : 0 < s.unanswered
  pub few : s.unanswered ≤ bound
  pub most : s.unanswered ≤ f

-- a state in phase p that k and f frames describe
pub make : (bound : ℕ) (s : Transfer) (k f : ℕ) (p : Phase) → BaseOf s k f → PhaseRule bound (end_of s) f p s → s.phase ≡ p → Good bound s
make bound s k f p h rule e = inr (record { k = k; f = f; base = h; rule = subst⁻¹ (λ (q : Phase). PhaseRule bound (end_of s) f q s) e rule })

starts : (bound b n m r : ℕ) → InRange b n m r → Good bound (started b n m r)
starts bound b n m r h =
    let some = h.0 in
    make bound (started b n m r) 0 0 Phase.Run
    (record { setup = h; balance_is = omega arith; read_is = omega arith; real = omega arith; tried = omega arith })
    (omega arith, (inr (refl, inr (refl, inl refl)), inl (refl, refl))) refl

module _ (bound : ℕ) (s : Transfer) where
  two_left : (s.unanswered - 1 ≡ 0 → ⊥) → 1 < s.unanswered
  two_left z = omega arith

  no_more : (f : ℕ) → ((f ≡ 0) × (s.unanswered ≡ 0)) ⊎ ((0 < s.unanswered) × ((s.unanswered ≤ bound) × (s.unanswered ≤ f))) → s.unanswered ≤ f
  no_more f (inl none) = let z = none.1 in omega arith
  no_more f (inr some) = some.1.1

  -- one frame further
  goes : (k f : ℕ) → BaseOf s k f → RunRule bound (end_of s) f s → s.phase ≡ Phase.Run → (s.read ≡ end_of s → ⊥)
      → s.unanswered < bound → Good bound (framed (frame_length s) s).state
  goes k f h rule e ne room =
      let near : (k + f) * s.size < s.count = let a = h.read_is in omega arith in
      let up : (k + (f + 1)) * s.size ≡ (k + f) * s.size + s.size = omega arith in
      let less = no_more f rule.1.1 in
      make bound (framed (frame_length s) s).state k (f + 1) Phase.Run
      (record { setup = h.setup; balance_is = h.balance_is; read_is = (let a = h.read_is in omega arith); real = omega arith; tried = h.tried })
      (rule.0, (inl (omega arith, refl), inr (omega arith, (omega arith, omega arith)))) e

  module _ (k f : ℕ) (o : Out bound s k f) where
    -- fewer unanswered
    fewer_run : 1 < s.unanswered → s.phase ≡ Phase.Run → Good bound (answered s)
    fewer_run l e =
        let few = o.few in
        let most = o.most in
        make bound (answered s) k f Phase.Run o.base (o.room, (inl (omega arith, o.went), inr (omega arith, (omega arith, omega arith)))) e

    -- a resend, with nothing unanswered
    again : (due : ℕ) → due ≡ 0 → s.used < s.resends → Good bound (with s s.balance s.balance due false (s.used + 1) Phase.Run)
    again due z less =
        let a = o.base.balance_is in
        let c = o.room in
        make bound (with s s.balance s.balance due false (s.used + 1) Phase.Run) k 0 Phase.Run
        (record { setup = o.base.setup; balance_is = a; read_is = omega arith; real = omega arith; tried = omega arith })
        (c, (inr (refl, inr (refl, inr (omega arith))), inl (refl, z))) refl

    -- after a NAK
    drain : s.used < s.resends → Leaves bound (drained (answered s))
    unfolding drained
    drain less =
        let few = o.few in
        let most = o.most in
        by_test (Leaves bound) (eqb (s.unanswered - 1) 0)
        (λ t. again (s.unanswered - 1) (eqb-true _ _ t) less)
        (λ t. let two = two_left (eqb-false _ _ t) in
        make bound (in_phase Phase.Drain (answered s)) k f Phase.Drain o.base (o.room, (o.went, (less, (omega arith, (omega arith, omega arith))))) refl)

    fails : s.resends ≤ s.used → Good bound (finished (Ok Answer.Fail) Phase.Fail s).state
    fails l =
        let tried = o.base.tried in
        let most = o.most in
        let some = o.some in
        make bound (finished (Ok Answer.Fail) Phase.Fail s).state k f Phase.Fail o.base (o.room, (o.went, (omega arith, (refl, omega arith)))) refl

    -- the balance point at the read offset
    settles : s.unanswered - 1 ≡ 0 → s.phase ≡ Phase.Run → Leaves bound (settled (answered s))
    unfolding settled
    settles one p =
        by_test (Leaves bound) (all_sent s)
        (λ q. let z = eqb-true s.read (end_of s) q in
        make bound (finished (Ok Answer.Done) Phase.Done (balanced (answered s))).state (k + f) 0 Phase.Done ahead (z, (z, (refl, o.went))) refl)
        (λ q. let z = eqb-false s.read (end_of s) q in
        make bound (balanced (answered s)) (k + f) 0 Phase.Run ahead (near z, (inr (refl, inl (o.went, moved)), inl (refl, one))) p)
      where
        ahead : Base s.offset s.count s.size s.resends s.read s.read s.used (k + f) 0
        ahead =
            let a = o.base.read_is in
            let c = o.base.real in
            record { setup = o.base.setup; balance_is = a; read_is = omega arith; real = omega arith; tried = o.base.tried }

        near : (s.read ≡ end_of s → ⊥) → s.read < end_of s
        near z = let a = o.base.read_is in omega arith

        moved : s.offset < s.read
        moved = past f o.base.read_is (let some = o.some in let most = o.most in omega arith)
          where
            past : (g : ℕ) → s.read ≡ min (s.offset + (k + g) * s.size) (end_of s) → 1 ≤ g → s.offset < s.read
            past ℕ.zero e l = absurd (omega arith)
            past (suc g) e l = let four = o.base.setup.1.1.1.0 in let some = o.base.setup.0 in omega arith

-- a started state, in run or in drain, with a frame unanswered
module _ (bound : ℕ) (s : Transfer) (w : Live bound s) where
  pub run_rule : s.phase ≡ Phase.Run → RunRule bound (end_of s) w.f s
  run_rule e = subst (λ (p : Phase). PhaseRule bound (end_of s) w.f p s) e w.rule

  pub drain_rule : s.phase ≡ Phase.Drain → DrainRule bound (end_of s) w.f s
  drain_rule e = subst (λ (p : Phase). PhaseRule bound (end_of s) w.f p s) e w.rule

  out_run : RunRule bound (end_of s) w.f s → 0 < s.unanswered → Out bound s w.k w.f
  out_run rule some =
      ⊎_elim (λ (z : (w.f ≡ 0) × (s.unanswered ≡ 0)). absurd (omega (arith, z.1)))
      (λ (o : (0 < s.unanswered) × ((s.unanswered ≤ bound) × (s.unanswered ≤ w.f))).
      let most = o.1.1 in
      record { base = w.base; room = rule.0; went = sent_by w.f s (omega arith) rule.1.0; some = some; few = o.1.0; most = most })
      rule.1.1

  out_drain : DrainRule bound (end_of s) w.f s → Out bound s w.k w.f
  out_drain rule =
      let few = rule.1.1.1.1.0 in
      let most = rule.1.1.1.1.1 in
      record { base = w.base; room = rule.0; went = rule.1.0; some = rule.1.1.1.0; few = omega arith; most = omega arith }

  out_of : 0 < s.unanswered → (s.phase ≡ Phase.Run) ⊎ (s.phase ≡ Phase.Drain) → Out bound s w.k w.f
  out_of some (inl e) = out_run (run_rule e) some
  out_of some (inr e) = out_drain (drain_rule e)

  ends : (s.phase ≡ Phase.Run) ⊎ (s.phase ≡ Phase.Drain) → Leaves bound (ended s)
  ends (inl e) =
      let rule = run_rule e in
      make bound (ended s).state w.k w.f Phase.End w.base (rule.0, (rule.1.0, refl)) refl
  ends (inr e) =
      let rule = drain_rule e in
      let most = rule.1.1.1.1.1 in
      make bound (ended s).state w.k w.f Phase.End w.base (rule.0, (inl (omega arith, rule.1.0), refl)) refl

module _ (bound : ℕ) (s : Transfer) (i : Good bound s) where
  -- an unfinished state has started
  pub live : unfinished s.phase ≡ true → Live bound s
  live u = ⊎_elim (λ (z : s ≡ unstarted). absurd (never (ap (λ (t : Transfer). unfinished t.phase) (sym z) ∙ u))) (λ (w : Live bound s). w) i

  -- no refusal moves the state
  stays : (k : Refusal) → Leaves bound (refused s k)
  stays k = i

  acks : unfinished s.phase ≡ true → 0 < s.unanswered → Leaves bound (acked (answered s))
  unfolding acked
  acks u some =
      let w = live u in
      let o = out_of bound s w some (work s.phase u) in
      by_test (Leaves bound) (draining s.phase)
      (λ d. drain bound s w.k w.f o (drain_rule bound s w (drain_phase s.phase d)).1.1.0)
      (λ d. let e = run_phase s.phase u d in
      by_test (Leaves bound) (eqb (s.unanswered - 1) 0)
      (λ t. settles bound s w.k w.f o (eqb-true _ _ t) e)
      (λ t. fewer_run bound s w.k w.f o (two_left bound s (eqb-false _ _ t)) e))

  naks : unfinished s.phase ≡ true → 0 < s.unanswered → Leaves bound (nacked (answered s))
  unfolding nacked
  naks u some =
      let w = live u in
      let o = out_of bound s w some (work s.phase u) in
      by_test (Leaves bound) (leb s.resends s.used)
      (λ t. fails bound s w.k w.f o (leb-true _ _ t))
      (λ t. drain bound s w.k w.f o (leb-false _ _ t))

  drops : unfinished s.phase ≡ true → 0 < s.unanswered → Leaves bound (dropped s)
  unfolding dropped
  drops u some =
      let w = live u in
      let o = out_of bound s w some (work s.phase u) in
      by_test (Leaves bound) (leb s.resends s.used)
      (λ t. fails bound s w.k w.f o (leb-true _ _ t))
      (λ t. again bound s w.k w.f o 0 refl (leb-false _ _ t))

  -- an answer that is not refused
  answer : (a : Stepped) → (unfinished s.phase ≡ true → 0 < s.unanswered → Leaves bound a)
      → Leaves bound (refuse (refused s) (answer_causes bound s) a)
  answer a next = by_causes (Leaves bound) (refused s) stays (answer_causes bound s) a (λ off. let h = some_left s off.1.0 in next h.0 h.1)

  finish : Leaves bound (end_step bound s)
  unfolding end_step
  finish =
      by_causes (Leaves bound) (refused s) stays (end_causes bound s) (ended s)
      (λ off. let u = not-false _ off.1.0 in ends bound s (live u) (work s.phase u))

  sends : Leaves bound (frame_step bound s)
  unfolding frame_step
  sends =
      by_causes (Leaves bound) (refused s) stays (frame_causes bound s) (framed (frame_length s) s)
      (λ off.
      let u = not-false _ off.1.0 in
      let e = run_phase s.phase u off.1.1.0 in
      let w = live u in
      goes bound s w.k w.f w.base (run_rule bound s w e) e (eqb-false _ _ off.1.1.1.0) (leb-false _ _ off.1.1.1.1.0))

  begins : (b n m r : ℕ) → Leaves bound (start_step bound b n m r s)
  unfolding start_step
  begins b n m r =
      by_causes (Leaves bound) (refused s) stays (start_causes bound b n m r s) (say (Ok Answer.Ok) (started b n m r))
      (λ off. starts bound b n m r ((in_range_lem b n m r).0 (not-false _ (nor _ _ off.0).0)))

  pub step_good : (c : Call) → Leaves bound (step_of bound c s)
  unfolding step_of ack_step nak_step drop_step
  step_good (start b n m r) = begins b n m r
  step_good frame = sends
  step_good ack = answer (acked (answered s)) acks
  step_good nak = answer (nacked (answered s)) naks
  step_good timeout = answer (dropped s) drops
  step_good lost = answer (dropped s) drops
  step_good nexus = finish
  step_good cancel = finish

pub run_good : (bound : ℕ) (cs : List Call) (s : Transfer) → Good bound s → Good bound (run bound cs s)
run_good bound [] s i = i
run_good bound (c ∷ cs) s i = run_good bound cs (step_of bound c s).state (step_good bound s i c)
