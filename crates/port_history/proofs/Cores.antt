-- What each of the nine calls behind setup does to the records, where it is taken: the rules say that the request which it names is
-- present, since a phy and its request name each other, cancel looks for a present one and choose for a waiting one; and the core
-- stores all zeros exactly with a last word. Assumes nothing.
use Prim.Native.Nat.{ℕ, suc, ◌≤◌, ◌<◌}
use mathlib.Core.Path.{◌≡◌, refl, sym, ◌∙◌}
use mathlib.Core.Bool.{Bool, true, false, not}
use mathlib.Core.List.{List}
use mathlib.Core.Logic.{inl, inr}
use native.Mathlib.Omega.{arith}
use lib.Dec.{leb}
use lib.ListN.{get_or}
use borrow.Author.Tests.{eqb-true, eq-eqb, leb-false, ltb-true, ltb-false, not-false}
use Rattle.laws.proofs.Bools.{never, nor}
use Rattle.laws.proofs.Tests.{equal, either}
use Rattle.laws.proofs.Finds.{Found, none, at}
use Rattle.refusals.proofs.Causes.{NoneGiven}
use Rattle.port_parts.specs.Parts.{blank, is_free, is_opening, is_disabled, names, has_frame_out}
use Rattle.port_parts.specs.Qualifies.{Right, none, one}
use Rattle.port_parts.specs.Reasons.{reason_of, is_retried}
use Rattle.port_parts.specs.declared.Phy.{Phy}
use Rattle.port_parts.specs.declared.Pick.{Pick}
use Rattle.port_parts.specs.declared.Port.{Port}
use Rattle.port_parts.specs.declared.Reason.{Reason}
use Rattle.port_parts.specs.declared.Request.{Request}
use Rattle.port_parts.proofs.Choices.{choose_right}
use Rattle.port_rules.specs.Rules.{rules}
use Rattle.port_rules.specs.Kept.{Free}
use Rattle.port_rows.specs.Changed.{placed}
use Rattle.port_rows.specs.Calls.{phy_at, is_cancelled, is_joined, submitted, cancelled, sent, opening, closing, idle, chosen, connected, again, timer_after, is_nexus_lost, failed, framed, closed_done, disabled_done, submit_causes, cancel_causes, phy_causes, failed_causes}
use Rattle.port_rows.specs.Finds.{room_of, slot_of}
use Rattle.port_rows.specs.declared.Confirmed.{Confirmed}
use Rattle.port_rows.specs.declared.Done.{Done}
use Rattle.port_rows.specs.declared.Failure.{Failure}
use Rattle.port_rows.specs.declared.Report.{Report}
use Rattle.port_rows.specs.declared.Submission.{Submission}
use Rattle.port_rows.specs.declared.Withdrawn.{Withdrawn}
use Rattle.port.specs.Calls.{left_of, on_phy, pick_at}
use Rattle.port.specs.History.{State, Call, setup, submit, cancel, choose, opened, open_failed, frame_status, closed, enable, disable, done_of, is_refused, is_last}
use Rattle.port.specs.declared.Time.{Time}
use Rattle.port.proofs.Found.{lowest_free, present_says, key_found}
use Rattle.port.proofs.Decides.{causes_of}
use Rattle.port.proofs.Refusals.{taken_of, behind}
use Rattle.port_invariant.proofs.Holds.{phy_kept, on_it}
use Rattle.port_invariant.proofs.Keeps.{key_there, phy_ok}
use Rattle.port_invariant.proofs.Leaves.{by_taken}
use Rattle.port_invariant.proofs.Ways.{submitted_to, ended_by, stopped_by, opened_by, failed_by, framed_by, closed_by, disabled_by, enabled_by, by_cancelled, by_chosen, waits}
use Rattle.port_history.specs.Standing.{is_setup, is_submitted}
use Rattle.port_history.specs.Turns.{Turns, Lawful}
use Rattle.port_history.proofs.Records.{comes, leaves, rests}

not_free : (r : Request) (n : ℕ) → r.stage ≡ suc n → Free r → ⊥
not_free r n a f = omega (arith, a, f)

module _ (s : State) (ok : Lawful s) where
  abbrev l : List Request
  l = s.list

  abbrev p : Port
  p = s.port

  -- what d says of its answer is what happens to the records
  abbrev Done_turns : Done → Type 0
  Done_turns d = Turns l (left_of l d) d.answer

  -- ---- submit

  submit_turns : (x : Submission) → NoneGiven (submit_causes p (rules p l) (room_of l x.head) x) → Done_turns (submitted_to s x)
  submit_turns x pass = by pass.1.1.1.0 (leb-false 32 (room_of l x.head).free pass.1.1.1.1.0) (lowest_free l x.head)
    where
      by : (room_of l x.head).same ≡ false → (room_of l x.head).free < 32 → Found blank is_free l 32 32 (room_of l x.head).free → Done_turns (submitted_to s x)
      by new room (none e nowhere) = absurd (omega (arith, e, room))
      by new room (at m t low) =
          comes l (submitted_to s x) ok.list refl refl m (eqb-true (get_or l (room_of l x.head).free blank).stage 0 t) (λ i h free. never (sym (low i h) ∙ eq-eqb (get_or l i blank).stage 0 free))
          (λ i h has. never (sym new ∙ (present_says l x.head).1 (record { slot = i; below = h; there = has.0; same = has.1 }))) (not_free (submitted (room_of l x.head) x) 0 refl) refl

  -- ---- cancel

  cancelled_turns : (k now : ℕ) → k < 32 → (Free (get_or l k blank) → ⊥) → Done_turns (cancelled p (get_or l k blank) k now)
  cancelled_turns k now h there =
      by_cancelled Done_turns p r k now (λ _. leaves l (ended_by p r k now) ok.list refl refl h there refl refl) (λ _. stopping (is_opening (phy_at p r.phy)))
    where
      r : Request
      r = get_or l k blank

      stopping : (t : Bool) → Done_turns (stopped_by p r k now t)
      stopping true = rests l (stopped_by p r k now true) ok.list refl refl refl (λ _. (there, (refl, (there, (refl, refl)))))
      stopping false = rests l (stopped_by p r k now false) ok.list refl refl refl (λ _. (there, (refl, (there, (refl, refl)))))

  cancel_turns : (x : Withdrawn) → NoneGiven (cancel_causes p (get_or l (slot_of l x.key) blank) (rules p l) (slot_of l x.key) x) → Done_turns (cancelled p (get_or l (slot_of l x.key) blank) (slot_of l x.key) x.now)
  cancel_turns x pass =
      let found : i < 32 = leb-false 32 i (nor (leb 32 i) (is_cancelled (get_or l i blank)) pass.1.1.1.0).0 in
      cancelled_turns i x.now found (key_there l x.key i (key_found l x.key) found)
    where
      i : ℕ
      i = slot_of l x.key

  -- ---- choose

  nothing_turns : (now : ℕ) → Done_turns (idle p now)
  nothing_turns now = rests l (idle p now) ok.list refl refl refl (λ h. absurd (omega arith))

  chosen_turns : (now : ℕ) (b : Pick) → Right p.phys now l b → Done_turns (chosen p (get_or l b.slot blank) b now)
  unfolding chosen
  chosen_turns now b (none nowhere) = nothing_turns now
  chosen_turns now b (one w) =
      let there = not_free r 0 (waits w.fits) in
      by_chosen Done_turns p r b now (λ _. rests l (sent p r b now) ok.list refl refl refl (λ h. (there, (refl, (not_free (placed r 2 b.phy) 1 refl, (refl, refl))))))
      (λ _. rests l (opening p r b now) ok.list refl refl refl (λ h. (there, (refl, (not_free (placed r 2 b.phy) 1 refl, (refl, refl))))))
      (λ _. rests l (closing p r b now) ok.list refl refl refl (λ h. (there, (refl, (there, (refl, refl)))))) (nothing_turns now)
    where
      r : Request
      r = get_or l b.slot blank

  choose_turns : (x : Time) → Done_turns (chosen p (get_or l (pick_at l p x.now).slot blank) (pick_at l p x.now) x.now)
  choose_turns x = chosen_turns x.now (pick_at l p x.now) (choose_right (record { phys = p.phys; now = x.now }) l ok.sound.eight)

  -- ---- a phy's calls

  -- an opening phy names a request
  pub opening_names : (k : ℕ) → k < p.count → not (is_opening (phy_at p k)) ≡ false → (phy_at p k).slot < 32
  opening_names k low e = (phy_kept p l ok.sound.kept k low).must (inl (eqb-true (phy_at p k).stage 2 (not-false (is_opening (phy_at p k)) e)))

  -- the request that a phy names is in progress
  busy : (k : ℕ) → k < p.count → (phy_at p k).slot < 32 → Free (on_phy l p k) → ⊥
  busy k low named = not_free (on_phy l p k) 1 (on_it p l ok.sound.kept k low named).0

  -- an answer about a phy that names none
  nameless_rests : (d : Done) → d.cleared ≡ false → is_submitted d.answer.word ≡ false → is_last d.answer.word ≡ false → 32 ≤ d.answer.slot → Done_turns d
  nameless_rests d some a b past = rests l d ok.list some a b (λ h. absurd (omega (arith, h, past)))

  open_failed_turns : (x : Failure) → NoneGiven (failed_causes p (rules p l) x (not (is_opening (phy_at p x.phy)))) → Done_turns (failed p (phy_at p x.phy) (on_phy l p x.phy) (reason_of x.why) x.phy x.now)
  open_failed_turns x pass =
      let low = (phy_ok p l x.phy x.now (not (is_opening f)) pass.1).0 in
      let named = opening_names x.phy low pass.1.1.1.1.0 in
      cases (is_cancelled r) (is_retried why) (is_nexus_lost p r why x.now) named (busy x.phy low named)
    where
      f : Phy
      f = phy_at p x.phy

      r : Request
      r = on_phy l p x.phy

      why : Reason
      why = reason_of x.why

      left : Bool → Bool → Bool → Done
      left = failed_by p f r why x.phy x.now

      cases : (t u v : Bool) → f.slot < 32 → (Free r → ⊥) → Done_turns (left t u v)
      cases true u v h there = leaves l (left true u v) ok.list refl refl h there refl refl
      cases false false v h there = leaves l (left false false v) ok.list refl refl h there refl refl
      cases false true true h there = leaves l (left false true true) ok.list refl refl h there refl refl
      cases false true false h there =
          rests l (left false true false) ok.list refl refl refl (λ _. (there, (refl, (not_free (again r why x.now (timer_after r why x.now)) 0 refl, (refl, refl)))))

  frame_status_turns : (x : Report) → NoneGiven (phy_causes p (rules p l) x.phy x.now (not (has_frame_out (phy_at p x.phy)))) → Done_turns (framed p (phy_at p x.phy) (on_phy l p x.phy) x)
  frame_status_turns x pass =
      let low = (phy_ok p l x.phy x.now (not (has_frame_out f)) pass).0 in
      let named = (phy_kept p l ok.sound.kept x.phy low).must (inr ((either (equal f.stage 4) (equal f.stage 6)).0 (not-false (has_frame_out f) pass.1.1.1.0))) in
      cases (is_cancelled r) named (busy x.phy low named)
    where
      f : Phy
      f = phy_at p x.phy

      r : Request
      r = on_phy l p x.phy

      cases : (t : Bool) → f.slot < 32 → (Free r → ⊥) → Done_turns (framed_by p f r x t)
      cases true h there = leaves l (framed_by p f r x true) ok.list refl refl h there refl refl
      cases false h there = leaves l (framed_by p f r x false) ok.list refl refl h there refl refl

  -- a phy that may name a request: where it does, what is told is about that request
  by_name : (f : Phy) (d : Bool → Done) → (f.slot < 32 → Done_turns (d true)) → (32 ≤ f.slot → Done_turns (d false)) → Done_turns (d (names f))
  by_name f d named nameless = by (names f) refl
    where
      by : (t : Bool) → names f ≡ t → Done_turns (d t)
      by true e = named (ltb-true f.slot 32 e)
      by false e = nameless (ltb-false f.slot 32 e)

  -- ---- a phy's calls that are confirmations of it

  module _ (x : Confirmed) where
    abbrev f : Phy
    f = phy_at p x.phy

    abbrev r : Request
    r = on_phy l p x.phy

    opened_turns : NoneGiven (phy_causes p (rules p l) x.phy x.now (not (is_opening f))) → Done_turns (connected p f r x)
    opened_turns pass = cases (is_cancelled r) (busy x.phy (phy_ok p l x.phy x.now (not (is_opening f)) pass).0)
      where
        cases : (t : Bool) → (f.slot < 32 → Free r → ⊥) → Done_turns (opened_by p f r x t)
        cases true there = rests l (opened_by p f r x true) ok.list refl refl refl (λ h. (there h, (refl, (there h, (refl, refl)))))
        cases false there = rests l (opened_by p f r x false) ok.list refl refl refl (λ h. (there h, (refl, (there h, (refl, refl)))))

    closed_turns : NoneGiven (phy_causes p (rules p l) x.phy x.now (not (is_joined f))) → Done_turns (closed_done p f r x)
    closed_turns pass =
        by_name f (λ n. closed_by p f r x n (is_cancelled r)) (λ h. cases (is_cancelled r) h (busy x.phy (phy_ok p l x.phy x.now (not (is_joined f)) pass).0 h))
        (nameless_rests (closed_by p f r x false (is_cancelled r)) refl refl refl)
      where
        cases : (t : Bool) → f.slot < 32 → (Free r → ⊥) → Done_turns (closed_by p f r x true t)
        cases true h there = leaves l (closed_by p f r x true true) ok.list refl refl h there refl refl
        cases false h there = leaves l (closed_by p f r x true false) ok.list refl refl h there refl refl

    enable_turns : Done_turns (enabled_by p r x)
    enable_turns = nameless_rests (enabled_by p r x) refl refl refl (omega arith)

    disable_turns : NoneGiven (phy_causes p (rules p l) x.phy x.now (is_disabled f)) → Done_turns (disabled_done p f r x)
    disable_turns pass =
        by_name f (λ n. disabled_by p f r x n (is_cancelled r)) (λ h. cases (is_cancelled r) h (busy x.phy (phy_ok p l x.phy x.now (is_disabled f) pass).0 h))
        (nameless_rests (disabled_by p f r x false (is_cancelled r)) refl refl refl)
      where
        cases : (t : Bool) → f.slot < 32 → (Free r → ⊥) → Done_turns (disabled_by p f r x true t)
        cases true h there = leaves l (disabled_by p f r x true true) ok.list refl refl h there refl refl
        cases false h there = rests l (disabled_by p f r x true false) ok.list refl refl refl (λ _. (there, (refl, (not_free (placed r 1 0) 0 refl, (refl, refl)))))

  -- ---- all of them

  turns : (c : Call) → is_setup c ≡ false → NoneGiven (behind (causes_of c s)) → Done_turns (taken_of c s)
  unfolding causes_of taken_of
  turns (setup count loss) e pass = absurd (never (sym e))
  turns (submit x) e pass = submit_turns x pass
  turns (cancel x) e pass = cancel_turns x pass
  turns (choose x) e pass = choose_turns x
  turns (opened x) e pass = opened_turns x pass
  turns (open_failed x) e pass = open_failed_turns x pass
  turns (frame_status x) e pass = frame_status_turns x pass
  turns (closed x) e pass = closed_turns x pass
  turns (enable x) e pass = enable_turns x
  turns (disable x) e pass = disable_turns x pass

  pub turned : (c : Call) → is_setup c ≡ false → is_refused (done_of c s).answer.word ≡ false → Done_turns (done_of c s)
  turned c e = by_taken c s Done_turns (turns c e)
