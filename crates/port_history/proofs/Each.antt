-- What holds of each way that a call behind setup can go, where it is taken, holds of what every such call leaves: the tests that a call makes tell its ways apart, and the rules say
-- what is so on each of them. Assumes nothing.
use Prim.Native.Nat.{ℕ, ◌≤◌, ◌<◌}
use mathlib.Core.Path.{◌≡◌, refl, sym}
use mathlib.Core.Bool.{Bool, true, false, not}
use mathlib.Core.List.{List}
use mathlib.Core.Logic.{inr}
use native.Mathlib.Omega.{arith}
use lib.ListN.{get_or}
use borrow.Author.Tests.{ltb-true, ltb-false, not-false}
use Rattle.laws.proofs.Bools.{never}
use Rattle.laws.proofs.Tests.{equal, either}
use Rattle.refusals.proofs.Causes.{NoneGiven}
use Rattle.port_parts.specs.Parts.{blank, is_opening, is_disabled, names, has_frame_out}
use Rattle.port_parts.specs.Qualifies.{Wins, Right, none, one}
use Rattle.port_parts.specs.Reasons.{reason_of, is_retried}
use Rattle.port_parts.specs.declared.Phy.{Phy}
use Rattle.port_parts.specs.declared.Pick.{Pick}
use Rattle.port_parts.specs.declared.Port.{Port}
use Rattle.port_parts.specs.declared.Reason.{Reason}
use Rattle.port_parts.specs.declared.Request.{Request}
use Rattle.port_parts.proofs.Choices.{choose_right}
use Rattle.port_rules.specs.Rules.{rules}
use Rattle.port_rules.specs.Kept.{Free}
use Rattle.port_rows.specs.Calls.{phy_at, is_cancelled, is_joined, cancelled, sent, opening, closing, idle, chosen, connected, is_nexus_lost, failed, framed, closed_done, disabled_done, phy_causes, failed_causes}
use Rattle.port_rows.specs.Finds.{slot_of}
use Rattle.port_rows.specs.declared.Confirmed.{Confirmed}
use Rattle.port_rows.specs.declared.Done.{Done}
use Rattle.port_rows.specs.declared.Failure.{Failure}
use Rattle.port_rows.specs.declared.Report.{Report}
use Rattle.port_rows.specs.declared.Submission.{Submission}
use Rattle.port_rows.specs.declared.Withdrawn.{Withdrawn}
use Rattle.port.specs.Calls.{on_phy, pick_at}
use Rattle.port.specs.History.{State, Call, setup, submit, cancel, choose, opened, open_failed, frame_status, closed, enable, disable, done_of, is_refused}
use Rattle.port.specs.declared.Time.{Time}
use Rattle.port.proofs.Decides.{causes_of}
use Rattle.port.proofs.Refusals.{taken_of, behind}
use Rattle.port_invariant.proofs.Holds.{phy_kept, on_it}
use Rattle.port_invariant.proofs.Keeps.{phy_ok}
use Rattle.port_invariant.proofs.Leaves.{by_taken}
use Rattle.port_invariant.proofs.Ways.{submitted_to, ended_by, stopped_by, opened_by, failed_by, framed_by, closed_by, disabled_by, enabled_by, by_cancelled, by_chosen}
use Rattle.port_history.specs.Standing.{is_setup}
use Rattle.port_history.specs.Turns.{Lawful}
use Rattle.port_history.proofs.Cores.{opening_names}

module _ (s : State) where
  abbrev l : List Request
  l = s.list

  abbrev p : Port
  p = s.port

  abbrev phy : ℕ → Phy
  phy k = phy_at p k

  -- the request that phy k names
  abbrev on : ℕ → Request
  on k = on_phy l p k

  -- phy k names a request that is there
  abbrev pub Held : ℕ → Type 0
  Held k = ((phy k).slot < 32) × (Free (on k) → ⊥)

  abbrev found : Withdrawn → Request
  found x = get_or l (slot_of l x.key) blank

  abbrev picked : Pick → Request
  picked b = get_or l b.slot blank

  pub record Each (P : Call → Done → Type 0) : Type 0 where
    pub submits : (x : Submission) → P (submit x) (submitted_to s x)
    -- Cancel, of a waiting request, while opening, while connected
    pub withdraws : (x : Withdrawn) → P (cancel x) (ended_by p (found x) (slot_of l x.key) x.now)
    pub stops : (x : Withdrawn) → P (cancel x) (stopped_by p (found x) (slot_of l x.key) x.now true)
    pub stops_closing : (x : Withdrawn) → P (cancel x) (stopped_by p (found x) (slot_of l x.key) x.now false)
    -- choose
    pub sends : (x : Time) (b : Pick) → Wins p.phys x.now l b → b.step ≡ 1 → P (choose x) (sent p (picked b) b x.now)
    pub opens : (x : Time) (b : Pick) → Wins p.phys x.now l b → b.step ≡ 2 → P (choose x) (opening p (picked b) b x.now)
    pub closes : (x : Time) (b : Pick) → Wins p.phys x.now l b → b.step ≡ 3 → P (choose x) (closing p (picked b) b x.now)
    pub idles : (x : Time) → P (choose x) (idle p x.now)
    -- Opened, of a cancelled request and of another
    pub opened_cancelled : (x : Confirmed) → Held x.phy → is_cancelled (on x.phy) ≡ true → P (opened x) (opened_by p (phy x.phy) (on x.phy) x true)
    pub opened_sends : (x : Confirmed) → Held x.phy → is_cancelled (on x.phy) ≡ false → P (opened x) (opened_by p (phy x.phy) (on x.phy) x false)
    -- Open Failed: cancelled, ended, lost, retried
    pub failed_cancelled : (x : Failure) → Held x.phy → is_cancelled (on x.phy) ≡ true → (u v : Bool) → P (open_failed x) (failed_by p (phy x.phy) (on x.phy) (reason_of x.why) x.phy x.now true u v)
    pub failed_ends : (x : Failure) → Held x.phy → is_cancelled (on x.phy) ≡ false → is_retried (reason_of x.why) ≡ false → (v : Bool) → P (open_failed x) (failed_by p (phy x.phy) (on x.phy) (reason_of x.why) x.phy x.now false false v)
    pub failed_loses : (x : Failure) → Held x.phy → is_cancelled (on x.phy) ≡ false → is_retried (reason_of x.why) ≡ true → is_nexus_lost p (on x.phy) (reason_of x.why) x.now ≡ true
        → P (open_failed x) (failed_by p (phy x.phy) (on x.phy) (reason_of x.why) x.phy x.now false true true)
    pub failed_again : (x : Failure) → Held x.phy → is_cancelled (on x.phy) ≡ false → is_retried (reason_of x.why) ≡ true → is_nexus_lost p (on x.phy) (reason_of x.why) x.now ≡ false
        → P (open_failed x) (failed_by p (phy x.phy) (on x.phy) (reason_of x.why) x.phy x.now false true false)
    -- a frame's status, Closed and disabling, of a cancelled request and of another; the latter two of a phy that names none
    pub status_cancelled : (x : Report) → Held x.phy → is_cancelled (on x.phy) ≡ true → P (frame_status x) (framed_by p (phy x.phy) (on x.phy) x true)
    pub status_ends : (x : Report) → Held x.phy → is_cancelled (on x.phy) ≡ false → P (frame_status x) (framed_by p (phy x.phy) (on x.phy) x false)
    pub closed_cancelled : (x : Confirmed) → Held x.phy → is_cancelled (on x.phy) ≡ true → P (closed x) (closed_by p (phy x.phy) (on x.phy) x true true)
    pub closed_ends : (x : Confirmed) → Held x.phy → is_cancelled (on x.phy) ≡ false → P (closed x) (closed_by p (phy x.phy) (on x.phy) x true false)
    pub closed_free : (x : Confirmed) → 32 ≤ (phy x.phy).slot → (t : Bool) → P (closed x) (closed_by p (phy x.phy) (on x.phy) x false t)
    pub enables : (x : Confirmed) → P (enable x) (enabled_by p (on x.phy) x)
    pub disabled_cancelled : (x : Confirmed) → Held x.phy → is_cancelled (on x.phy) ≡ true → P (disable x) (disabled_by p (phy x.phy) (on x.phy) x true true)
    pub disabled_waits : (x : Confirmed) → Held x.phy → is_cancelled (on x.phy) ≡ false → P (disable x) (disabled_by p (phy x.phy) (on x.phy) x true false)
    pub disabled_free : (x : Confirmed) → 32 ≤ (phy x.phy).slot → (t : Bool) → P (disable x) (disabled_by p (phy x.phy) (on x.phy) x false t)

  module _ (ok : Lawful s) (P : Call → Done → Type 0) (each : Each P) where
    -- the request of a phy that names one is in progress
    held : (k : ℕ) → k < p.count → (phy k).slot < 32 → Held k
    held k low named = (named, λ free. let busy = (on_it p l ok.sound.kept k low named).0 in omega (arith, busy, free))

    by_cancel : (x : Withdrawn) → P (cancel x) (cancelled p (found x) (slot_of l x.key) x.now)
    by_cancel x = by_cancelled (P (cancel x)) p (found x) (slot_of l x.key) x.now (λ _. each.withdraws x) (λ _. by (is_opening (phy_at p (found x).phy)))
      where
        by : (t : Bool) → P (cancel x) (stopped_by p (found x) (slot_of l x.key) x.now t)
        by true = each.stops x
        by false = each.stops_closing x

    by_choose : (x : Time) → P (choose x) (chosen p (picked (pick_at l p x.now)) (pick_at l p x.now) x.now)
    unfolding chosen
    by_choose x = by (pick_at l p x.now) (choose_right (record { phys = p.phys; now = x.now }) l ok.sound.eight)
      where
        by : (b : Pick) → Right p.phys x.now l b → P (choose x) (chosen p (picked b) b x.now)
        by b (none nowhere) = each.idles x
        by b (one w) = by_chosen (P (choose x)) p (picked b) b x.now (each.sends x b w) (each.opens x b w) (each.closes x b w) (each.idles x)

    by_failed : (x : Failure) → NoneGiven (failed_causes p (rules p l) x (not (is_opening (phy x.phy)))) → P (open_failed x) (failed p (phy x.phy) (on x.phy) (reason_of x.why) x.phy x.now)
    by_failed x pass = by (is_cancelled r) refl (is_retried why) refl (is_nexus_lost p r why x.now) refl
      where
        r : Request
        r = on x.phy

        why : Reason
        why = reason_of x.why

        there : Held x.phy
        there = let low = (phy_ok p l x.phy x.now (not (is_opening (phy x.phy))) pass.1).0 in held x.phy low (opening_names s ok x.phy low pass.1.1.1.1.0)

        by : (t : Bool) → is_cancelled r ≡ t → (u : Bool) → is_retried why ≡ u → (v : Bool) → is_nexus_lost p r why x.now ≡ v → P (open_failed x) (failed_by p (phy x.phy) r why x.phy x.now t u v)
        by true a u b v c = each.failed_cancelled x there a u v
        by false a false b v c = each.failed_ends x there a b v
        by false a true b true c = each.failed_loses x there a b c
        by false a true b false c = each.failed_again x there a b c

    by_status : (x : Report) → NoneGiven (phy_causes p (rules p l) x.phy x.now (not (has_frame_out (phy x.phy)))) → P (frame_status x) (framed p (phy x.phy) (on x.phy) x)
    by_status x pass = by (is_cancelled (on x.phy)) refl
      where
        f : Phy
        f = phy x.phy

        there : Held x.phy
        there =
            let low = (phy_ok p l x.phy x.now (not (has_frame_out f)) pass).0 in
            held x.phy low ((phy_kept p l ok.sound.kept x.phy low).must (inr ((either (equal f.stage 4) (equal f.stage 6)).0 (not-false (has_frame_out f) pass.1.1.1.0))))

        by : (t : Bool) → is_cancelled (on x.phy) ≡ t → P (frame_status x) (framed_by p f (on x.phy) x t)
        by true e = each.status_cancelled x there e
        by false e = each.status_ends x there e

    module _ (x : Confirmed) where
      abbrev f : Phy
      f = phy x.phy

      abbrev r : Request
      r = on x.phy

      by_opened : NoneGiven (phy_causes p (rules p l) x.phy x.now (not (is_opening f))) → P (opened x) (connected p f r x)
      by_opened pass = by (is_cancelled r) refl
        where
          there : Held x.phy
          there = let low = (phy_ok p l x.phy x.now (not (is_opening f)) pass).0 in held x.phy low (opening_names s ok x.phy low pass.1.1.1.0)

          by : (t : Bool) → is_cancelled r ≡ t → P (opened x) (opened_by p f r x t)
          by true e = each.opened_cancelled x there e
          by false e = each.opened_sends x there e

      by_closed : NoneGiven (phy_causes p (rules p l) x.phy x.now (not (is_joined f))) → P (closed x) (closed_done p f r x)
      by_closed pass = by (names f) refl (is_cancelled r) refl
        where
          there : names f ≡ true → Held x.phy
          there m = held x.phy (phy_ok p l x.phy x.now (not (is_joined f)) pass).0 (ltb-true f.slot 32 m)

          by : (n : Bool) → names f ≡ n → (t : Bool) → is_cancelled r ≡ t → P (closed x) (closed_by p f r x n t)
          by true m true e = each.closed_cancelled x (there m) e
          by true m false e = each.closed_ends x (there m) e
          by false m t e = each.closed_free x (ltb-false f.slot 32 m) t

      by_disabled : NoneGiven (phy_causes p (rules p l) x.phy x.now (is_disabled f)) → P (disable x) (disabled_done p f r x)
      by_disabled pass = by (names f) refl (is_cancelled r) refl
        where
          there : names f ≡ true → Held x.phy
          there m = held x.phy (phy_ok p l x.phy x.now (is_disabled f) pass).0 (ltb-true f.slot 32 m)

          by : (n : Bool) → names f ≡ n → (t : Bool) → is_cancelled r ≡ t → P (disable x) (disabled_by p f r x n t)
          by true m true e = each.disabled_cancelled x (there m) e
          by true m false e = each.disabled_waits x (there m) e
          by false m t e = each.disabled_free x (ltb-false f.slot 32 m) t

    each_call : (c : Call) → is_setup c ≡ false → NoneGiven (behind (causes_of c s)) → P c (taken_of c s)
    unfolding causes_of taken_of
    each_call (setup count loss) e pass = absurd (never (sym e))
    each_call (submit x) e pass = each.submits x
    each_call (cancel x) e pass = by_cancel x
    each_call (choose x) e pass = by_choose x
    each_call (opened x) e pass = by_opened x pass
    each_call (open_failed x) e pass = by_failed x pass
    each_call (frame_status x) e pass = by_status x pass
    each_call (closed x) e pass = by_closed x pass
    each_call (enable x) e pass = each.enables x
    each_call (disable x) e pass = by_disabled x pass

    pub by_each : (c : Call) → is_setup c ≡ false → is_refused (done_of c s).answer.word ≡ false → P c (done_of c s)
    by_each c e = by_taken c s (P c) (each_call c e)
