-- What each call behind setup does to the loss timers: Submitted gives the new request its destination's, a confirmation changes that of its
-- request's destination in every SSP request to it, and nothing else changes one. An Open Failed loses the nexus exactly by the timer behind it. Assumes nothing.
use Rattle.std.specs.Prelude.{Option}
use Prim.Native.Nat.{ℕ, ◌<◌}
use mathlib.Core.Path.{◌≡◌, refl, sym, ap, subst, ◌∙◌}
use mathlib.Core.Bool.{Bool, true, false, not, cond, ◌&&◌}
use mathlib.Core.List.{List}
use native.Mathlib.Omega.{arith}
use lib.Dec.{eqb, ltb}
use lib.ListN.{get_or}
use borrow.Author.Tests.{lt-ltb}
use Rattle.laws.proofs.Bools.{never, and_false}
use Rattle.port_parts.specs.Parts.{blank, no_stamp, stamped, is_set, is_ssp}
use Rattle.port_parts.specs.Reasons.{reason_of, is_retried, is_starting, is_stopping}
use Rattle.port_parts.specs.Timer.{timer_by, is_lost}
use Rattle.port_parts.specs.declared.Port.{Port}
use Rattle.port_parts.specs.declared.Reason.{Reason}
use Rattle.port_parts.specs.declared.Request.{Request}
use Rattle.port_parts.specs.declared.Stamp.{Stamp}
use Rattle.port_rules.specs.Kept.{Free}
use Rattle.port_rows.specs.Answers.{no_loss, loss_by}
use Rattle.port_rows.specs.Calls.{phy_at, is_cancelled, timer_after, is_nexus_lost}
use Rattle.port_rows.specs.Finds.{room_of}
use Rattle.port_rows.specs.Records.{spread}
use Rattle.port_rows.specs.declared.Done.{Done}
use Rattle.port_rows.specs.declared.Failure.{Failure}
use Rattle.port_rows.specs.declared.Loss.{Loss}
use Rattle.port.specs.Calls.{on_phy}
use Rattle.port.specs.History.{State, Call, submit, open_failed, done_of, is_refused, is_last}
use Rattle.port_invariant.proofs.Ways.{submitted_to, failed_by}
use Rattle.port_history.specs.Standing.{is_setup, is_submitted}
use Rattle.port_history.specs.Turns.{Lawful, Ssp}
use Rattle.port_history.specs.Times.{time_of, why_of, is_nexus_loss, concerns, is_due}
use Rattle.port_history.proofs.Each.{Held, Each, by_each}
use Rattle.port_history.proofs.Timers.{after, Clean, still, spreads}

-- ---- what is left of the timers, where the list was l

pub record Moves (l : List Request) (c : Call) (d : Done) : Type 0 where
  pub some : d.cleared ≡ false
  pub new : is_submitted d.answer.word ≡ true → (d.entry.loss ≡ (room_of l d.answer.frame.head).loss) × ((t : Stamp) → after c t ≡ t)
  pub own : is_submitted d.answer.word ≡ false → is_last d.answer.word ≡ false → d.answer.slot < 32 → is_ssp (get_or l d.answer.slot blank).head ≡ true → d.entry.loss ≡ after c (get_or l d.answer.slot blank).loss
  pub others : (b : Request) (destination : ℕ) → Ssp destination b → Clean b.loss → (d.answer.slot < 32 → Ssp destination (get_or l d.answer.slot blank) → (get_or l d.answer.slot blank).loss ≡ b.loss)
      → (spread d.loss b).loss ≡ cond (concerns destination (record { call = c; answer = d.answer })) (after c b.loss) b.loss

-- ---- and when the nexus is lost, where the loss time is `loss`

pub record Loses (l : List Request) (loss : ℕ) (c : Call) (d : Done) : Type 0 where
  pub named : is_retried (why_of c) ≡ true → (d.answer.slot < 32) × ((Free (get_or l d.answer.slot blank) → ⊥) × ((get_or l d.answer.slot blank).head ≡ d.answer.frame.head))
  pub lost : is_nexus_loss d.answer.word
      ≡ is_retried (why_of c) && (is_ssp d.answer.frame.head && (not (is_cancelled (get_or l d.answer.slot blank)) && is_due loss (time_of c) (after c (get_or l d.answer.slot blank).loss)))

module _ (s : State) where
  abbrev l : List Request
  l = s.list

  abbrev pub p : Port
  p = s.port

  -- ---- no timer moves

  still_others : (c : Call) (d : Done) → d.loss ≡ no_loss → ((t : Stamp) → after c t ≡ t) → (b : Request) (destination : ℕ) → (spread d.loss b).loss ≡ cond (concerns destination (record { call = c; answer = d.answer })) (after c b.loss) b.loss
  still_others c d same rests b destination = ap (λ (x : Option Loss). (spread x b).loss) same ∙ by (concerns destination (record { call = c; answer = d.answer }))
    where
      by : (t : Bool) → b.loss ≡ cond t (after c b.loss) b.loss
      by true = sym (rests b.loss)
      by false = refl

  quiet : {c : Call} {d : Done} → ((t : Stamp) → after c t ≡ t) → d.cleared ≡ false → d.loss ≡ no_loss → is_submitted d.answer.word ≡ false
      → (is_last d.answer.word ≡ false → d.answer.slot < 32 → d.entry.loss ≡ (get_or l d.answer.slot blank).loss) → Moves l c d
  quiet {c} {d} rests some same first own =
      record {
        some = some;
        new = λ e. absurd (never (sym first ∙ e));
        own = λ _ e h _. own e h ∙ sym (rests (get_or l d.answer.slot blank).loss);
        others = λ b destination _ _ _. still_others c d same rests b destination;
      }

  -- ---- a confirmation, of the request on a phy, that leaves its destination's timer as t

  confirms : {c : Call} {d : Done} (k : ℕ) (t : Stamp) → Held s k → d.cleared ≡ false → d.answer.slot ≡ (phy_at p k).slot → d.answer.frame.head ≡ (on_phy l p k).head → d.loss ≡ loss_by (on_phy l p k) t
      → (is_ssp (on_phy l p k).head ≡ true → t ≡ after c (on_phy l p k).loss) → is_submitted d.answer.word ≡ false → (is_last d.answer.word ≡ false → is_ssp (on_phy l p k).head ≡ true → d.entry.loss ≡ t) → Moves l c d
  confirms {c} {d} k t held some slot head loss moves first own =
      record {
        some = some;
        new = λ e. absurd (never (sym first ∙ e));
        own = λ _ e h ssp. let q : is_ssp (on_phy l p k).head ≡ true = ap (λ (n : ℕ). is_ssp (get_or l n blank).head) (sym slot) ∙ ssp in own e q ∙ moves q ∙ ap (λ (n : ℕ). after c (get_or l n blank).loss) (sym slot);
        others = λ b destination ssp clean same.
            ap (λ (x : Option Loss). (spread x b).loss) loss
            ∙ spreads c (on_phy l p k) t moves held.1 b destination ssp clean (λ q. ap (λ (n : ℕ). (get_or l n blank).loss) (sym slot) ∙ same (omega (arith, slot, held.0)) (subst (λ (n : ℕ). Ssp destination (get_or l n blank)) (sym slot) q))
            ∙ ap (λ (u : Bool). cond u (after c b.loss) b.loss) (sym (λ i. ltb_so i && (eqb (head i).destination destination && is_ssp (head i))));
      }
    where
      ltb_so : ltb d.answer.slot 32 ≡ true
      ltb_so = lt-ltb d.answer.slot 32 (omega (arith, slot, held.0))

  module _ (x : Failure) where
    abbrev r : Request
    r = on_phy l p x.phy

    abbrev why : Reason
    why = reason_of x.why

    moved : is_ssp r.head ≡ true → timer_after r why x.now ≡ after (open_failed x) r.loss
    moved ssp = ap (λ (u : Bool). cond u (timer_by (is_stopping why) (is_starting why) r.loss x.now) r.loss) ssp ∙ by (is_stopping why) (is_starting why) (is_set r.loss)
      where
        by : (s b z : Bool) → cond s no_stamp (cond (b && not z) (stamped x.now) r.loss) ≡ cond s no_stamp (cond z r.loss (cond b (stamped x.now) r.loss))
        by true b z = refl
        by false true true = refl
        by false true false = refl
        by false false true = refl
        by false false false = refl

  -- ---- every way

  moves : Each s (Moves l)
  moves = record {
    submits = λ x. record { some = refl; new = λ _. (refl, still); own = λ e _ _ _. absurd (never (sym e)); others = λ b destination _ _ _. still_others (submit x) (submitted_to s x) refl still b destination };
    withdraws = λ x. quiet still refl refl refl (λ e. absurd (never (sym e)));
    stops = λ x. quiet still refl refl refl (λ _ _. refl);
    stops_closing = λ x. quiet still refl refl refl (λ _ _. refl);
    sends = λ x b w n. quiet still refl refl refl (λ _ _. refl);
    opens = λ x b w n. quiet still refl refl refl (λ _ _. refl);
    closes = λ x b w n. quiet still refl refl refl (λ _ _. refl);
    idles = λ x. quiet still refl refl refl (λ _ h. absurd (omega arith));
    opened_cancelled = λ x h c. confirms x.phy no_stamp h refl refl refl refl (λ _. refl) refl (λ _ ssp. ap (λ (u : Bool). cond u no_stamp (on_phy l p x.phy).loss) ssp);
    opened_sends = λ x h c. confirms x.phy no_stamp h refl refl refl refl (λ _. refl) refl (λ _ ssp. ap (λ (u : Bool). cond u no_stamp (on_phy l p x.phy).loss) ssp);
    failed_cancelled = λ x h c u v. confirms x.phy (timer_after (r x) (why x) x.now) h refl refl refl refl (moved x) refl (λ e _. absurd (never (sym e)));
    failed_ends = λ x h c f v. confirms x.phy (timer_after (r x) (why x) x.now) h refl refl refl refl (moved x) refl (λ e _. absurd (never (sym e)));
    failed_loses = λ x h c f g. confirms x.phy (timer_after (r x) (why x) x.now) h refl refl refl refl (moved x) refl (λ e _. absurd (never (sym e)));
    failed_again = λ x h c f g. confirms x.phy (timer_after (r x) (why x) x.now) h refl refl refl refl (moved x) refl (λ _ _. refl);
    status_cancelled = λ x h c. quiet still refl refl refl (λ e. absurd (never (sym e)));
    status_ends = λ x h c. quiet still refl refl refl (λ e. absurd (never (sym e)));
    closed_cancelled = λ x h c. quiet still refl refl refl (λ e. absurd (never (sym e)));
    closed_ends = λ x h c. quiet still refl refl refl (λ e. absurd (never (sym e)));
    closed_free = λ x far t. quiet still refl refl refl (λ _ h. absurd (omega (arith, h, far)));
    enables = λ x. quiet still refl refl refl (λ _ h. absurd (omega arith));
    disabled_cancelled = λ x h c. quiet still refl refl refl (λ e. absurd (never (sym e)));
    disabled_waits = λ x h c. quiet still refl refl refl (λ _ _. refl);
    disabled_free = λ x far t. quiet still refl refl refl (λ _ h. absurd (omega (arith, h, far)));
  }

  -- a call that is no Open Failed
  other : {c : Call} {d : Done} → is_retried (why_of c) ≡ false → is_nexus_loss d.answer.word ≡ false → Loses l p.loss c d
  other {c} {d} unretried word =
      record {
        named = λ e. absurd (never (sym unretried ∙ e));
        lost = word ∙ sym (ap (λ (t : Bool). t && (is_ssp d.answer.frame.head && (not (is_cancelled (get_or l d.answer.slot blank)) && is_due p.loss (time_of c) (after c (get_or l d.answer.slot blank).loss)))) unretried);
      }

  -- an Open Failed, by what its tests say
  fails : (x : Failure) (t u v : Bool) → Held s x.phy → is_cancelled (r x) ≡ t → is_retried (why x) ≡ u → (t ≡ false → u ≡ true → is_nexus_lost p (r x) (why x) x.now ≡ v) → Loses l p.loss (open_failed x) (failed_by p (phy_at p x.phy) (r x) (why x) x.phy x.now t u v)
  fails x t u v held a b c =
      record {
        named = λ _. (held.0, (held.1, refl));
        lost = words t u v (λ e f. sym (c e f) ∙ due (is_ssp (r x).head) refl) ∙ (λ i. sym b i && (is_ssp (r x).head && (not (sym a i) && is_due p.loss x.now (after (open_failed x) (r x).loss))));
      }
    where
      due : (q : Bool) → is_ssp (r x).head ≡ q → q && is_lost (timer_after (r x) (why x) x.now) p.loss x.now ≡ q && is_due p.loss x.now (after (open_failed x) (r x).loss)
      due true e = ap (is_due p.loss x.now) (moved x e)
      due false e = refl

      words : (t u v : Bool) → (t ≡ false → u ≡ true → v ≡ is_ssp (r x).head && is_due p.loss x.now (after (open_failed x) (r x).loss))
          → is_nexus_loss (failed_by p (phy_at p x.phy) (r x) (why x) x.phy x.now t u v).answer.word ≡ u && (is_ssp (r x).head && (not t && is_due p.loss x.now (after (open_failed x) (r x).loss)))
      words true true v so = sym (and_false (is_ssp (r x).head) refl)
      words true false v so = refl
      words false false v so = refl
      words false true true so = so refl refl
      words false true false so = so refl refl

  loses : Each s (Loses l p.loss)
  loses = record {
    submits = λ x. other refl refl;
    withdraws = λ x. other refl refl;
    stops = λ x. other refl refl;
    stops_closing = λ x. other refl refl;
    sends = λ x b w n. other refl refl;
    opens = λ x b w n. other refl refl;
    closes = λ x b w n. other refl refl;
    idles = λ x. other refl refl;
    opened_cancelled = λ x h c. other refl refl;
    opened_sends = λ x h c. other refl refl;
    failed_cancelled = λ x h c u v. fails x true (is_retried (why x)) v h c refl (λ e. absurd (never (sym e)));
    failed_ends = λ x h c f v. fails x false false v h c f (λ _ e. absurd (never e));
    failed_loses = λ x h c f g. fails x false true true h c f (λ _ _. g);
    failed_again = λ x h c f g. fails x false true false h c f (λ _ _. g);
    status_cancelled = λ x h c. other refl refl;
    status_ends = λ x h c. other refl refl;
    closed_cancelled = λ x h c. other refl refl;
    closed_ends = λ x h c. other refl refl;
    closed_free = λ x far t. other refl refl;
    enables = λ x. other refl refl;
    disabled_cancelled = λ x h c. other refl refl;
    disabled_waits = λ x h c. other refl refl;
    disabled_free = λ x far t. other refl refl;
  }

  -- the loss time stays, and the last time becomes the call's
  keeps : Each s (λ c d. (d.port.loss ≡ p.loss) × (d.port.last ≡ time_of c))
  keeps = record {
    submits = λ x. (refl, refl);
    withdraws = λ x. (refl, refl);
    stops = λ x. (refl, refl);
    stops_closing = λ x. (refl, refl);
    sends = λ x b w n. (refl, refl);
    opens = λ x b w n. (refl, refl);
    closes = λ x b w n. (refl, refl);
    idles = λ x. (refl, refl);
    opened_cancelled = λ x h c. (refl, refl);
    opened_sends = λ x h c. (refl, refl);
    failed_cancelled = λ x h c u v. (refl, refl);
    failed_ends = λ x h c f v. (refl, refl);
    failed_loses = λ x h c f g. (refl, refl);
    failed_again = λ x h c f g. (refl, refl);
    status_cancelled = λ x h c. (refl, refl);
    status_ends = λ x h c. (refl, refl);
    closed_cancelled = λ x h c. (refl, refl);
    closed_ends = λ x h c. (refl, refl);
    closed_free = λ x far t. (refl, refl);
    enables = λ x. (refl, refl);
    disabled_cancelled = λ x h c. (refl, refl);
    disabled_waits = λ x h c. (refl, refl);
    disabled_free = λ x far t. (refl, refl);
  }

  module _ (ok : Lawful s) (c : Call) (plain : is_setup c ≡ false) (on : is_refused (done_of c s).answer.word ≡ false) where
    pub moves_so : Moves l c (done_of c s)
    moves_so = by_each s ok (Moves l) moves c plain on

    pub loses_so : Loses l p.loss c (done_of c s)
    loses_so = by_each s ok (Loses l p.loss) loses c plain on

    pub keeps_so : ((done_of c s).port.loss ≡ p.loss) × ((done_of c s).port.last ≡ time_of c)
    keeps_so = by_each s ok (λ c d. (d.port.loss ≡ p.loss) × (d.port.last ≡ time_of c)) keeps c plain on
