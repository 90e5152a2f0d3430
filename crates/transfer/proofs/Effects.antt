-- What a START, a frame, an ACK, a NAK, a new attempt and an end make of the invariant: the last ACK in run makes all up to the read
-- offset sure, and nothing else moves the balance point. Assumes nothing.
use Rattle.refusals.specs.declared.Refusal.{Refusal}
use Rattle.std.specs.Prelude.{Ok, Result}
use Prim.Native.Nat.{ℕ, suc, ◌+◌, ◌-◌, ◌≤◌, ◌<◌}
use mathlib.Core.Bool.{true}
use mathlib.Core.List.{List, [], ◌∷◌, ◌++◌}
use mathlib.Core.Logic.{◌⊎◌, inl, inr, ⊎_elim}
use mathlib.Core.Path.{◌≡◌, refl, sym, ap, subst, subst⁻¹, ◌∙◌}
use native.Mathlib.Omega.{arith}
use lib.ListN.{length, length-append}
use borrow.Author.Tests.{lt-ltb}
use Rattle.laws.proofs.Tests.{below_or_not}
use Rattle.transfer.specs.Rules.{end_of}
use Rattle.transfer.specs.Steps.{started, framed, resent, finished, answered, balanced}
use Rattle.transfer.specs.Steps.{in_phase, with}
use Rattle.transfer.specs.History.{Frame, View, nothing, anew, note, Covered}
use Rattle.transfer.specs.History as past
use Rattle.transfer.specs.declared.Transfer.{Transfer}
use Rattle.transfer.specs.declared.Answer.{Answer}
use Rattle.transfer.specs.declared.Phase.{Phase}
use Rattle.transfer.proofs.Invariant.{Inv, Live, EndsAt, onto, Settled, Over, running, drains}

covered_left : (x : ℕ) (a b : List Frame) → Covered x a → Covered x (a ++ b)
covered_left x [] b h = absurd h
covered_left x (f ∷ fs) b (inl h) = inl h
covered_left x (f ∷ fs) b (inr h) = inr (covered_left x fs b h)

covered_right : (x : ℕ) (a b : List Frame) → Covered x b → Covered x (a ++ b)
covered_right x [] b h = h
covered_right x (f ∷ fs) b h = inr (covered_right x fs b h)

onto_snoc : (w : List Frame) (f : Frame) (good : List Frame) → f ∷ onto w good ≡ onto (w ++ (f ∷ [])) good
onto_snoc [] f good = refl
onto_snoc (g ∷ w) f good = onto_snoc w f (g ∷ good)

-- the oldest frame that waits answered, and fs left
abbrev pub acked_to : Frame → List Frame → View → View
acked_to f fs v = record { acked = f ∷ v.acked; waiting = fs; attempt = v.attempt; good = f ∷ v.good; nak = v.nak; resend = v.resend }

abbrev pub nacked_to : List Frame → View → View
nacked_to fs v = record { acked = v.acked; waiting = fs; attempt = v.attempt; good = v.good; nak = true; resend = v.resend }

pub begins : (bound b n m r : ℕ) → Inv bound (started b n m r) nothing
begins bound b n m r =
    record {
      first = omega arith;
      last = omega arith;
      sure = λ x h k. absurd (omega arith);
      few = omega arith;
      live =
          record {
            order = omega arith;
            inside = omega arith;
            count = refl;
            joined = refl;
            idle = λ z. refl;
            out = λ x h k. absurd (omega arith);
            ends = tt;
            calm = refl;
            begun = refl;
            again = refl;
          };
    }

module _ (bound : ℕ) (s : Transfer) (v : View) (i : Inv bound s v) where
  -- a state t in phase p with the balance point where it is, and a view w that has what was ACKed
  kept : (t : Transfer) (p : Phase) (w : View) → t.phase ≡ p → t.offset ≡ s.offset → end_of t ≡ end_of s → t.balance ≡ s.balance
      → ((x : ℕ) → Covered x v.acked → Covered x w.acked) → length w.waiting ≤ bound → Live p t w → Inv bound t w
  kept t p w e offset end balance more few l =
      record {
        first = (let a = i.first in omega arith);
        last = (let a = i.last in omega arith);
        sure = λ x h k. more x (i.sure x (omega arith) (omega arith));
        few = few;
        live = subst⁻¹ (λ (q : Phase). Live q t w) e l;
      }

  -- a frame goes
  pub sends : (len : ℕ) → s.phase ≡ Phase.Run → s.read + len ≤ end_of s → s.unanswered < bound
      → Inv bound (framed len s).state (note (past.sent (record { at = s.read; len = len })) v)
  sends len e fits room =
      let r = running bound s v i e in
      let f : Frame = record { at = s.read; len = len } in
      let l = length-append v.waiting (f ∷ []) in
      let c = r.count in
      let o = r.order in
      kept (framed len s).state Phase.Run (note (past.sent f) v) e refl refl refl (λ x h. h) (omega arith)
      (record {
        order = omega arith;
        inside = fits;
        count = omega arith;
        joined = ap (λ (l : List Frame). f ∷ l) r.joined ∙ onto_snoc v.waiting f v.good;
        idle = λ z. absurd (omega arith);
        out = λ x h k. ⊎_elim
            (λ y. ⊎_elim (λ a. inl a) (λ w. inr (covered_left x v.waiting (f ∷ []) w)) (r.out x h y))
            (λ y. inr (covered_right x v.waiting (f ∷ []) (inl (y, k))))
            (below_or_not x s.read);
        ends = refl;
        calm = r.calm;
        begun = refl;
        again = r.again;
      })

  -- the attempt begins anew, with nothing unanswered
  pub anews : (due : ℕ) (u : View) → due ≡ 0 → ((x : ℕ) → Covered x v.acked → Covered x u.acked)
      → Inv bound (resent (with s s.read s.balance due s.sent s.used s.phase)).state (anew u)
  anews due u z more =
      let l = i.last in
      kept (resent (with s s.read s.balance due s.sent s.used s.phase)).state Phase.Run (anew u) refl refl refl refl more (omega arith)
      (record {
        order = omega arith;
        inside = omega arith;
        count = sym z;
        joined = refl;
        idle = λ y. refl;
        out = λ x h k. absurd (omega arith);
        ends = tt;
        calm = refl;
        begun = refl;
        again = lt-ltb 0 (s.used + 1) (omega arith);
      })

  -- the transfer is over, failed or ended
  pub overs : (a : Result Answer Refusal) (p : Phase) (w : View) → ((x : ℕ) → Covered x v.acked → Covered x w.acked) → length w.waiting ≤ bound
      → (Over (finished a p s).state w → Live p (finished a p s).state w) → Settled s w → Inv bound (finished a p s).state w
  overs a p w more few live last = kept (finished a p s).state p w refl refl refl refl more few (live (record { none = refl; last = last }))

  module _ (f : Frame) (fs : List Frame) (e : v.waiting ≡ f ∷ fs) where
    long : length v.waiting ≡ suc (length fs)
    long = ap length e

    fewer : length fs ≤ bound
    fewer = let l = long in let b = i.few in omega arith

    -- the oldest frame that waited is ACKed
    split : (x : ℕ) → Covered x v.waiting → Covered x (f ∷ v.acked) ⊎ Covered x fs
    split x w = go (subst (λ (l : List Frame). Covered x l) e w)
      where
        go : Covered x (f ∷ fs) → Covered x (f ∷ v.acked) ⊎ Covered x fs
        go (inl h) = inl (inl h)
        go (inr h) = inr h

    -- an ACK in run, with others to come
    pub more_run : s.phase ≡ Phase.Run → 1 < s.unanswered → Inv bound (answered s) (acked_to f fs v)
    more_run p d =
        let r = running bound s v i p in
        let l = long in
        let c = r.count in
        kept (answered s) Phase.Run (acked_to f fs v) p refl refl refl (λ x h. inr h) fewer
        (record {
          order = r.order;
          inside = r.inside;
          count = omega arith;
          joined = r.joined ∙ ap (λ (l : List Frame). onto l v.good) e;
          idle = λ z. absurd (omega arith);
          out = λ x h k. ⊎_elim (λ a. inl (inr a)) (λ w. split x w) (r.out x h k);
          ends = r.ends;
          calm = r.calm;
          begun = r.begun;
          again = r.again;
        })

    -- an ACK in drain, with others to come
    pub more_drain : s.phase ≡ Phase.Drain → 1 < s.unanswered → Inv bound (in_phase Phase.Drain (answered s)) (acked_to f fs v)
    more_drain p d =
        let r = drains bound s v i p in
        let l = long in
        let c = r.count in
        let n = r.short in
        kept (in_phase Phase.Drain (answered s)) Phase.Drain (acked_to f fs v) refl refl refl refl (λ x h. inr h) fewer
        (record { count = omega arith; short = omega arith; seen = r.seen })

    -- a NAK, with others to come, of an attempt in which no more were ACKed than sent, those out not counted
    pub more_nak : length v.waiting ≡ s.unanswered → length v.good + s.unanswered ≤ length v.attempt → 1 < s.unanswered
        → Inv bound (in_phase Phase.Drain (answered s)) (nacked_to fs v)
    more_nak c n d =
        let l = long in
        kept (in_phase Phase.Drain (answered s)) Phase.Drain (nacked_to fs v) refl refl refl refl (λ x h. h) fewer
        (record { count = omega arith; short = omega arith; seen = refl })

  -- the last ACK: all up to the read offset is sure
  module _ (f : Frame) (e : v.waiting ≡ f ∷ []) (p : s.phase ≡ Phase.Run) (one : s.unanswered - 1 ≡ 0) where
    all_sure : (x : ℕ) → s.offset ≤ x → x < s.read → Covered x (f ∷ v.acked)
    all_sure x h k =
        ⊎_elim (λ y. inr (i.sure x h y))
        (λ y. ⊎_elim (λ a. inr a) (λ w. ⊎_elim (λ z. z) (λ (z : ⊥). absurd z) (split f [] e x w)) ((running bound s v i p).out x y k))
        (below_or_not x s.balance)

    all_good : v.attempt ≡ f ∷ v.good
    all_good = (running bound s v i p).joined ∙ ap (λ (l : List Frame). onto l v.good) e

    pub last_run : Inv bound (balanced (answered s)) (acked_to f [] v)
    last_run =
        let r = running bound s v i p in
        let o = r.order in
        let b = i.first in
        record {
          first = omega arith;
          last = r.inside;
          sure = all_sure;
          few = omega arith;
          live =
              subst⁻¹ (λ (q : Phase). Live q (balanced (answered s)) (acked_to f [] v)) p
              (record {
                order = omega arith;
                inside = r.inside;
                count = sym one;
                joined = all_good;
                idle = λ z. refl;
                out = λ x h k. absurd (omega arith);
                ends = r.ends;
                calm = r.calm;
                begun = r.begun;
                again = r.again;
              });
        }

    pub last_done : s.read ≡ end_of s → Inv bound (finished (Ok Answer.Done) Phase.Done (balanced (answered s))).state (acked_to f [] v)
    last_done q =
        let r = running bound s v i p in
        let o = r.order in
        let b = i.first in
        record {
          first = omega arith;
          last = r.inside;
          sure = all_sure;
          few = omega arith;
          live =
              record {
                over = record { none = refl; last = λ g gs a l. sym (subst (λ (t : List Frame). EndsAt t s.read) a r.ends) };
                all = q;
                same = sym all_good;
              };
        }
