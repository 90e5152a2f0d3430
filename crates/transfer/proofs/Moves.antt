-- States by their frames, and what a call makes of them: k frames before the balance point, f since, so many of them unanswered.
-- Assumes nothing.
use Prim.Native.Nat.{ℕ, zero, suc, ◌+◌, ◌-◌, ◌*◌, ◌≤◌, ◌<◌, min}
use mathlib.Core.Bool.{Bool, true, false}
use mathlib.Core.Logic.{◌⊎◌, inl, inr}
use mathlib.Core.Path.{◌≡◌, refl, sym, ap, ◌∙◌}
use native.Mathlib.Omega.{arith}
use lib.Dec.{eqb}
use borrow.Author.Tests.{lt-leb, le-leb, eq-eqb, ne_eqb}
use Rattle.laws.proofs.Bools.{clash}
use Rattle.transfer.specs.Rules.{end_of, unstarted, keeps_rules}
use Rattle.transfer.specs.Steps.{with, settled, drained, acked, nacked, dropped, start_step, frame_step, ack_step, nak_step, drop_step, end_step}
use Rattle.transfer.specs.Calls.{start, frame, ack, nak, timeout, cancel, step_of}
use Rattle.transfer.specs.Grounds.{InRange}
use Rattle.transfer.specs.declared.Transfer.{Transfer}
use Rattle.transfer.specs.declared.Phase.{Phase}
use Rattle.transfer.proofs.Facts.{in_range_lem, Attempted}
use Rattle.transfer.proofs.Shape.{BaseOf, good_rules}
use Rattle.transfer.proofs.Sound.{make}

-- j frames behind B, or the end
abbrev pub place : Transfer → ℕ → ℕ
place s j = min (s.offset + j * s.size) (end_of s)

-- of the setup of s
abbrev pub at : Transfer → ℕ → ℕ → ℕ → Bool → ℕ → Phase → Transfer
at s k f due sent used phase = with s (place s (k + f)) (s.offset + k * s.size) due sent used phase

-- all is delivered
abbrev pub done : Transfer → ℕ → Transfer
done s used = with s (end_of s) (end_of s) 0 true used Phase.Done

-- two states of one setup are equal by their numbers
alike : (s : Transfer) {x x' y y' z z' : ℕ} {sent : Bool} {used : ℕ} {phase : Phase} → x ≡ x' → y ≡ y' → z ≡ z'
    → with s x y z sent used phase ≡ with s x' y' z' sent used phase
alike s {sent = sent} {used = used} {phase = phase} e f g = λ i. with s (e i) (f i) (g i) sent used phase

-- with nothing out: a frame was sent in the attempt only if the balance point moved, and with no resend and none sent it is at B
pub record Fresh (k : ℕ) (sent : Bool) (used : ℕ) : Type 0 where
  pub moved : sent ≡ true → 1 ≤ k
  pub still : sent ≡ false → used ≡ 0 → k ≡ 0

module _ (bound : ℕ) (s : Transfer) (h : InRange s.offset s.count s.size s.resends) where
  pub some : 1 ≤ s.count
  some = h.0

  pub four : 4 ≤ s.size
  four = h.1.1.1.0

  base_at : (k f due : ℕ) (sent : Bool) (used : ℕ) (phase : Phase) → k * s.size < s.count → (k + f) * s.size < s.count + s.size
      → used ≤ s.resends → BaseOf (at s k f due sent used phase) k f
  base_at k f due sent used phase a c u = record { setup = h; balance_is = omega arith; read_is = refl; real = c; tried = u }

  fresh_attempt : (k : ℕ) (sent : Bool) (used : ℕ) → Fresh k sent used → Attempted 0 (at s k 0 0 sent used Phase.Run)
  fresh_attempt zero true used w = absurd (let z = w.moved refl in omega arith)
  fresh_attempt (suc k) true used w = let m4 = four in inr (refl, inl (refl, omega arith))
  fresh_attempt k false zero w =
      let z : k * s.size ≡ 0 * s.size = ap (λ (y : ℕ). y * s.size) (w.still refl refl) in
      inr (refl, inr (refl, inl (omega arith)))
  fresh_attempt k false (suc used) w = inr (refl, inr (refl, inr (omega arith)))

  pub idle_kept : (k : ℕ) (sent : Bool) (used : ℕ) → k * s.size < s.count → used ≤ s.resends → Fresh k sent used
      → keeps_rules bound (at s k 0 0 sent used Phase.Run) ≡ true
  idle_kept k sent used a u w =
      good_rules bound (at s k 0 0 sent used Phase.Run)
      (make bound (at s k 0 0 sent used Phase.Run) k 0 Phase.Run (base_at k 0 0 sent used Phase.Run a (omega arith) u) (omega arith, (fresh_attempt k sent used w, inl (refl, refl))) refl)

  pub out_kept : (k f d used : ℕ) → k * s.size < s.count → (k + f) * s.size < s.count + s.size → used ≤ s.resends → suc d ≤ f
      → suc d ≤ bound → keeps_rules bound (at s k f (suc d) true used Phase.Run) ≡ true
  out_kept k f d used a c u l o =
      good_rules bound (at s k f (suc d) true used Phase.Run)
      (make bound (at s k f (suc d) true used Phase.Run) k f Phase.Run (base_at k f (suc d) true used Phase.Run a c u) (omega arith, (inl (omega arith, refl), inr (omega arith, (o, l)))) refl)

  pub frame_step_lem : (k f due : ℕ) (sent : Bool) (used : ℕ) → keeps_rules bound (at s k f due sent used Phase.Run) ≡ true
      → (k + f) * s.size < s.count → due < bound
      → (step_of bound frame (at s k f due sent used Phase.Run)).state ≡ at s k (f + 1) (due + 1) true used Phase.Run
  unfolding step_of frame_step
  frame_step_lem k f due sent used v a l =
      let ne : eqb (place s (k + f)) (end_of s) ≡ false = ne_eqb (place s (k + f)) (end_of s) (λ e. omega arith) in
      let up : (k + (f + 1)) * s.size ≡ (k + f) * s.size + s.size = omega arith in
      let e : place s (k + f) + min s.size (end_of s - place s (k + f)) ≡ place s (k + (f + 1)) = omega arith in
      rw (v, ne, lt-leb bound due l) (alike s e refl refl)

  pub ack_one : (k f : ℕ) (sent : Bool) (used : ℕ) → keeps_rules bound (at s k f 1 sent used Phase.Run) ≡ true → (k + f) * s.size < s.count
      → (step_of bound ack (at s k f 1 sent used Phase.Run)).state ≡ at s (k + f) 0 0 sent used Phase.Run
  unfolding step_of ack_step acked settled
  ack_one k f sent used v a =
      let ne : eqb (place s (k + f)) (end_of s) ≡ false = ne_eqb (place s (k + f)) (end_of s) (λ e. omega arith) in
      let e : place s (k + f) ≡ place s (k + f + 0) = omega arith in
      let g : place s (k + f) ≡ s.offset + (k + f) * s.size = omega arith in
      rw (v, ne) (alike s e g refl)

  pub ack_more : (k f d : ℕ) (sent : Bool) (used : ℕ) → keeps_rules bound (at s k f (suc (suc d)) sent used Phase.Run) ≡ true
      → (step_of bound ack (at s k f (suc (suc d)) sent used Phase.Run)).state ≡ at s k f (suc d) sent used Phase.Run
  unfolding step_of ack_step acked
  ack_more k f d sent used v =
      let e : suc (suc d) - 1 ≡ suc d = omega arith in
      rw (v, ne_eqb (suc (suc d)) 0 (λ z. omega arith), ne_eqb (suc (suc d) - 1) 0 (λ z. omega arith)) (alike s refl refl e)

  pub nak_one : (k f : ℕ) (sent : Bool) (used : ℕ) → keeps_rules bound (at s k f 1 sent used Phase.Run) ≡ true → used < s.resends → k * s.size < s.count
      → (step_of bound nak (at s k f 1 sent used Phase.Run)).state ≡ at s k 0 0 false (used + 1) Phase.Run
  unfolding step_of nak_step nacked drained
  nak_one k f sent used v u a =
      let e : s.offset + k * s.size ≡ place s (k + 0) = omega arith in
      rw (v, lt-leb s.resends used u) (alike s e refl refl)

  pub nak_drain : (k f d used : ℕ) → keeps_rules bound (at s k f (suc (suc d)) true used Phase.Run) ≡ true → used < s.resends
      → (step_of bound nak (at s k f (suc (suc d)) true used Phase.Run)).state ≡ at s k f (suc d) true used Phase.Drain
  unfolding step_of nak_step nacked drained
  nak_drain k f d used v u =
      let e : suc (suc d) - 1 ≡ suc d = omega arith in
      rw (v, ne_eqb (suc (suc d)) 0 (λ z. omega arith), lt-leb s.resends used u, ne_eqb (suc (suc d) - 1) 0 (λ z. omega arith)) (alike s refl refl e)

  pub nak_fail : (k f used : ℕ) → keeps_rules bound (at s k f 1 true used Phase.Run) ≡ true → s.resends ≤ used
      → (step_of bound nak (at s k f 1 true used Phase.Run)).state ≡ at s k f 0 true used Phase.Fail
  unfolding step_of nak_step nacked drained
  nak_fail k f used v u = rw (v, le-leb s.resends used u)

  pub cancel_step : (k f due : ℕ) (sent : Bool) (used : ℕ) → keeps_rules bound (at s k f due sent used Phase.Run) ≡ true
      → (step_of bound cancel (at s k f due sent used Phase.Run)).state ≡ at s k f 0 sent used Phase.End
  unfolding step_of end_step
  cancel_step k f due sent used v = rw v

  pub ack_done : (k f used : ℕ) → keeps_rules bound (at s k f 1 true used Phase.Run) ≡ true → s.count ≤ (k + f) * s.size
      → (step_of bound ack (at s k f 1 true used Phase.Run)).state ≡ done s used
  unfolding step_of ack_step acked settled
  ack_done k f used v a =
      let e : place s (k + f) ≡ end_of s = omega arith in
      rw (v, eq-eqb (place s (k + f)) (end_of s) e) (alike s e e refl)

  pub drop_step_lem : (k f due used : ℕ) → keeps_rules bound (at s k f due true used Phase.Drain) ≡ true → 0 < due → used < s.resends → k * s.size < s.count
      → (step_of bound timeout (at s k f due true used Phase.Drain)).state ≡ at s k 0 0 false (used + 1) Phase.Run
  unfolding step_of drop_step dropped
  drop_step_lem k f due used v some u a =
      let e : s.offset + k * s.size ≡ place s (k + 0) = omega arith in
      rw (v, ne_eqb due 0 (λ z. omega arith), lt-leb s.resends used u) (alike s e refl refl)

  pub begin_step : (step_of bound (start s.offset s.count s.size s.resends) unstarted).state ≡ at s 0 0 0 false 0 Phase.Run
  unfolding step_of start_step
  begin_step =
      let e : s.offset ≡ place s (0 + 0) = omega arith in
      let g : s.offset ≡ s.offset + 0 * s.size = omega arith in
      rw ((in_range_lem s.offset s.count s.size s.resends).1 h, good_rules bound unstarted (inl refl)) (alike s e g refl)

-- a state equals that of its frames
equal : (s : Transfer) {read balance due : ℕ} {sent : Bool} {used : ℕ} {phase : Phase}
    → read ≡ s.read → balance ≡ s.balance → due ≡ s.unanswered → sent ≡ s.sent → used ≡ s.used → phase ≡ s.phase
    → with s read balance due sent used phase ≡ s
equal s p1 p2 p3 p4 p5 p6 = λ i. with s (p1 i) (p2 i) (p3 i) (p4 i) (p5 i) (p6 i)

pub done_is : (s : Transfer) → s.balance ≡ end_of s → s.read ≡ end_of s → s.unanswered ≡ 0 → s.sent ≡ true → s.phase ≡ Phase.Done
    → done s s.used ≡ s
done_is s balance read none sent e = equal s (sym read) (sym balance) (sym none) (sym sent) refl (sym e)

module _ (s : Transfer) (k f : ℕ) (h : BaseOf s k f) (room : s.balance < end_of s) where
  balance_at : s.offset + k * s.size ≡ s.balance
  balance_at = let a = h.balance_is in omega arith

  pub inside : k * s.size < s.count
  inside = let a = balance_at in omega arith

  -- nothing is out
  pub idle_is : f ≡ 0 → s.unanswered ≡ 0 → (p : Phase) → p ≡ s.phase → at s k 0 0 s.sent s.used p ≡ s
  idle_is z none p e =
      let same : place s (k + 0) ≡ s.read = ap (λ (y : ℕ). place s (k + y)) (sym z) ∙ sym h.read_is in
      equal s same balance_at (sym none) refl refl e

  pub out_is : (due : ℕ) → due ≡ s.unanswered → s.sent ≡ true → (p : Phase) → p ≡ s.phase → at s k f due true s.used p ≡ s
  out_is due d sent p e = equal s (sym h.read_is) balance_at d (sym sent) refl e

  pub fresh : f ≡ 0 → Attempted f s → Fresh k s.sent s.used
  fresh z (inl a) = absurd (omega (arith, a.0))
  fresh z (inr (y, inl a)) = record { moved = λ e. up k balance_at a.1; still = λ e u. absurd (clash _ a.0 e) }
    where
      up : (j : ℕ) → s.offset + j * s.size ≡ s.balance → s.offset < s.balance → 1 ≤ j
      up zero q l = absurd (omega arith)
      up (suc j) q l = omega arith
  fresh z (inr (y, inr a)) = record { moved = λ e. absurd (clash _ e a.0); still = λ e u. flat k balance_at u a.1 }
    where
      flat : (j : ℕ) → s.offset + j * s.size ≡ s.balance → s.used ≡ 0 → (s.balance ≡ s.offset) ⊎ (0 < s.used) → j ≡ 0
      flat zero q u w = refl
      flat (suc j) q u (inl w) = absurd (let four = h.setup.1.1.1.0 in omega arith)
      flat (suc j) q u (inr w) = absurd (omega arith)
