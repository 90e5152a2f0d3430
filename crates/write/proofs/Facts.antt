-- The rows of the write a second time, as what one call after another does: a retry goes under another tag than the one that failed, a
-- full range's tag is let go of and is not the next one's, and no DATA is taken twice. Assumes nothing.
use Rattle.std.specs.Prelude.{Err, Ok, Result}
use Prim.Native.Nat.{ℕ, ◌+◌, ◌%◌, ◌^◌, ◌≤◌, ◌<◌}
use mathlib.Core.Bool.{Bool, true, false, cond, ◌&&◌, ◌||◌}
use mathlib.Core.Logic.{⊎_elim}
use mathlib.Core.Path.{◌≡◌, refl, sym, ap, ◌∙◌}
use native.Mathlib.Omega.{arith}
use lib.Count.{ones}
use lib.Dec.{leb, eqb}
use borrow.Author.Tests.{leb-false, lt-leb, eq-eqb, ne_eqb, not-false}
use Rattle.laws.specs.Tags.{digit, has}
use Rattle.laws.proofs.Bools.{impossible, and_false}
use Rattle.laws.proofs.Tags.{digit_zero, some_in, added, one_own}
use Rattle.refusals.specs.declared.Refusal.{Refusal}
use Rattle.write.specs.Rules.{until, unstarted, keeps_rules}
use Rattle.write.specs.Steps as steps
use Rattle.write.specs.Steps.{with, unfinished, previous, asked_length, retransmit_of, early, sized, within, in_order, fits, refused, got_step}
use Rattle.write.specs.Calls.{xfer, nak, timeout, lost, got, step_of, is_refused}
use Rattle.write.specs.Grounds.{Fits}
use Rattle.write.specs.declared.Write.{Write}
use Rattle.write.specs.declared.Stepped.{Stepped}
use Rattle.write.specs.declared.Answer.{Answer}
use Rattle.write.specs.declared.Phase.{Phase}
use Rattle.write.proofs.Kept.{first, PhaseRule, Started, rules_say}
use Rattle.write.proofs.Phases.{ask_phase, wait_phase}
use Rattle.write.proofs.Picks.{Free, picked}
use Rattle.write.proofs.Fits.{awaited_says, sized_says, fits_says}
use Rattle.write.proofs.Sound.{good, underway, rule_at, sound, tags_small}
use Rattle.write.proofs.Calls.{ask_tagged}
use Rattle.write.proofs.Refusals.{causes_of, goes_on}
use Rattle.write.proofs.Rows.{Went, went, miss_left, miss_left_lem, got_left, got_left_lem, is_late, got_late}

-- XFER: what was sent
pub record Sends (k others : ℕ) (s : Write) : Type 0 where
  pub kept : keeps_rules k s ≡ true
  pub due : s.phase ≡ Phase.Ask
  pub free : Free others (steps.free k others s) s
  pub leaves : (step_of k (xfer others) s).state ≡ with s s.next (steps.free k others s) (s.tags + 2 ^ steps.free k others s) s.used Phase.Wait

module _ (k others : ℕ) (s : Write) (small : s.tags < 2 ^ k) (typed : others < 2 ^ k) (sent : (step_of k (xfer others) s).answer ≡ Ok Answer.Sent) where
  pub sends : Sends k others s
  unfolding causes_of goes_on
  sends =
      let w = went k (xfer others) s (ap is_refused sent) in
      let kept = not-false _ w.off.0 in
      let due = not-false _ w.off.1.0 in
      record {
        kept = kept;
        due = ask_phase s.phase due;
        free = picked k others s typed small (ask_tagged k s small kept due) (leb-false _ _ w.off.1.1.0);
        leaves = ap (λ (st : Stepped). st.state) w.is;
      }

  -- where one went before, its tag is another
  pub another : eqb s.next s.offset && eqb s.tags 0 ≡ false → (step_of k (xfer others) s).state.tag ≡ s.tag → ⊥
  another before same =
      let h = sends in
      let is : previous s ≡ 2 ^ s.tag = ap (λ (t : Bool). cond t 0 (2 ^ s.tag)) before in
      let at : steps.free k others s ≡ s.tag = sym (ap (λ (t : Write). t.tag) h.leaves) ∙ same in
      let out : digit (2 ^ s.tag) s.tag ≡ 0 = (λ i. digit (sym is i) (sym at i)) ∙ h.free.last in
      absurd (let own = one_own s.tag in omega (arith, out, own))

-- NAK, TIMEOUT and LOST differ in no row
pub alike : (k : ℕ) (s : Write) → (step_of k timeout s ≡ step_of k nak s) × (step_of k lost s ≡ step_of k nak s)
unfolding step_of
alike k s = (refl, refl)

-- an XFER_RDY failed, and a retry is due
module _ (k : ℕ) (s : Write) (small : s.tags < 2 ^ k) (retry : (step_of k nak s).answer ≡ Ok Answer.Retry) where
  nak_went : Went k nak s
  nak_went = went k nak s (ap is_refused retry)

  was_kept : keeps_rules k s ≡ true
  unfolding causes_of
  was_kept = not-false _ nak_went.off.0

  retry_leaves : (step_of k nak s).state ≡ with s s.next s.tag s.tags (s.used + 1) Phase.Ask
  unfolding goes_on
  retry_leaves =
      let is = nak_went.is in
      ap (λ (st : Stepped). st.state) is ∙ miss_left_lem s ∙ ap (miss_left s) (sym (ap (λ (st : Stepped). st.answer) is) ∙ retry)

  same_tags : (step_of k nak s).state.tags ≡ s.tags
  same_tags = ap (λ (a : Write). a.tags) retry_leaves

  -- the tag of the one that failed
  failed_tag : digit s.tags s.tag ≡ 1
  unfolding causes_of
  failed_tag =
      let g = good k s was_kept small in
      let wait = wait_phase s.phase (not-false _ nak_went.off.1.0) in
      (rule_at k s g Phase.Wait wait (underway k s g (ap unfinished wait))).1.1.0

  -- the retry asks for the same bytes, with the retransmit bit
  pub retry_asks : asked_length (step_of k nak s).state ≡ asked_length s
  retry_asks = ap asked_length retry_leaves

  pub retry_bit : retransmit_of (step_of k nak s).state ≡ 1
  retry_bit = ap retransmit_of retry_leaves ∙ ap (λ (t : Bool). cond t 0 1) (ne_eqb s.tags 0 (some_in s.tags s.tag failed_tag))

  module _ (others : ℕ) (typed : others < 2 ^ k) (sent : (step_of k (xfer others) (step_of k nak s).state).answer ≡ Ok Answer.Sent) where
    retry_small : (step_of k nak s).state.tags < 2 ^ k
    retry_small = tags_small k s was_kept small nak tt

    -- it goes under another tag, and the one that failed stays in use
    pub retry_another : (step_of k (xfer others) (step_of k nak s).state).state.tag ≡ s.tag → ⊥
    retry_another same =
        let a = (step_of k nak s).state in
        another k others a retry_small typed sent
        (and_false (eqb a.next a.offset) (ap (λ (ts : ℕ). eqb ts 0) same_tags ∙ ne_eqb s.tags 0 (some_in s.tags s.tag failed_tag)))
        (same ∙ sym (ap (λ (a : Write). a.tag) retry_leaves))

    pub retry_holds : digit (step_of k (xfer others) (step_of k nak s).state).state.tags s.tag ≡ 1
    retry_holds =
        let h = sends k others (step_of k nak s).state retry_small typed sent in
        let t = steps.free k others (step_of k nak s).state in
        ap (λ (a : Write). digit a.tags s.tag) h.leaves
        ∙ (added (step_of k nak s).state.tags t h.free.own).there s.tag (λ e. retry_another (ap (λ (a : Write). a.tag) h.leaves ∙ sym e))
        ∙ ap (λ (ts : ℕ). digit ts s.tag) same_tags
        ∙ failed_tag

-- DATA that doesn't fit an unfinished write is 2, of whatever length
module _ (k t o n : ℕ) (s : Write) (kept : keeps_rules k s ≡ true) (work : unfinished s.phase ≡ true) (due : early t s ≡ false) where
  misfit : fits t o n s ≡ false → (step_of k (got t o n) s).answer ≡ Err Refusal.Unlisted
  unfolding step_of got_step
  misfit off = by (sized n) refl
    where
      by : (b : Bool) → sized n ≡ b → (got_step k t o n s).answer ≡ Err Refusal.Unlisted
      by false e = rw e
      by true e = rw (e, kept, work, due, off)

  -- under a tag that is none of its own
  pub unknown : digit s.tags t ≡ 0 → (step_of k (got t o n) s).answer ≡ Err Refusal.Unlisted
  unknown out = misfit (ap (λ (d : ℕ). eqb d 1 && (within o n s && in_order t o s)) out)

  -- before the next byte
  pub before : o < s.next → (step_of k (got t o n) s).answer ≡ Err Refusal.Unlisted
  before less =
      misfit (and_false (has s.tags t) (ap (λ (b : Bool). (b && (leb (o + n) (until s) && (eqb (n % 4) 0 || eqb (o + n) (until s)))) && in_order t o s) (lt-leb s.next o less)))

-- DATA that was neither refused nor late, as v says
pub record Gets (k t o n : ℕ) (s : Write) (v : Result Answer Refusal) : Type 0 where
  pub kept : keeps_rules k s ≡ true
  pub some : 1 ≤ n
  pub fit : Fits t o n s
  pub due : (s.phase ≡ Phase.Take) × (t ≡ s.tag)
  pub leaves : (step_of k (got t o n) s).state ≡ got_left (o + n) s v

pub gets : (k t o n : ℕ) (s : Write) (v : Result Answer Refusal) → is_refused v ≡ false → is_late v ≡ false → (step_of k (got t o n) s).answer ≡ v → Gets k t o n s v
unfolding causes_of goes_on
gets k t o n s v good now is =
    let w = went k (got t o n) s (ap is_refused is ∙ good) in
    let answer = sym (ap (λ (st : Stepped). st.answer) w.is) ∙ is in
    record {
      kept = not-false _ w.off.1.0;
      some = ((sized_says n).0 (not-false _ w.off.0)).0;
      fit = (fits_says t o n s).0 (not-false _ w.off.1.1.1.0);
      due = (awaited_says t s).0 (not-false _ (sym (got_late t o n s) ∙ ap is_late answer ∙ now));
      leaves = ap (λ (st : Stepped). st.state) w.is ∙ got_left_lem t o n s ∙ ap (got_left (o + n) s) answer;
    }

-- a range is full
module _ (k : ℕ) (s : Write) (small : s.tags < 2 ^ k) (t o n : ℕ) (more : (step_of k (got t o n) s).answer ≡ Ok Answer.More) where
  full : Gets k t o n s (Ok Answer.More)
  full = gets k t o n s (Ok Answer.More) refl refl more

  full_leaves : (step_of k (got t o n) s).state ≡ with s (o + n) s.tag 0 s.used Phase.Ask
  full_leaves = full.leaves

  full_kept : keeps_rules k (step_of k (got t o n) s).state ≡ true
  full_kept = sound k s full.kept small (got t o n) tt

  -- its tag is let go of: DATA under it is 2, and not late
  pub full_unknown : (o' n' : ℕ) → (step_of k (got t o' n') (step_of k (got t o n) s).state).answer ≡ Err Refusal.Unlisted
  full_unknown o' n' =
      unknown k t o' n' (step_of k (got t o n) s).state full_kept (ap (λ (a : Write). unfinished a.phase) full_leaves) (ap (early t) full_leaves)
      (ap (λ (a : Write). digit a.tags t) full_leaves ∙ digit_zero t)

  -- the next range is asked for without the retransmit bit
  pub full_bit : retransmit_of (step_of k (got t o n) s).state ≡ 0
  full_bit = ap retransmit_of full_leaves

  -- DATA was taken, so that the next byte is behind B
  behind : eqb (step_of k (got t o n) s).state.next (step_of k (got t o n) s).state.offset ≡ false
  behind =
      let h = full in
      let least = first k s (underway k s (good k s h.kept small) (ap unfinished h.due.0)).0 in
      let at = h.fit.order h.due.0 h.due.1 in
      ap (λ (a : Write). eqb a.next a.offset) full_leaves ∙ ne_eqb (o + n) s.offset (λ e. omega (arith, least, h.some, at, e))

  module _ (others : ℕ) (typed : others < 2 ^ k) (sent : (step_of k (xfer others) (step_of k (got t o n) s).state).answer ≡ Ok Answer.Sent) where
    full_small : (step_of k (got t o n) s).state.tags < 2 ^ k
    full_small = tags_small k s full.kept small (got t o n) tt

    -- the next range's tag is another
    pub full_another : (step_of k (xfer others) (step_of k (got t o n) s).state).state.tag ≡ t → ⊥
    full_another same =
        another k others (step_of k (got t o n) s).state full_small typed sent (ap (λ (b : Bool). b && eqb (step_of k (got t o n) s).state.tags 0) behind)
        (same ∙ full.due.1 ∙ sym (ap (λ (a : Write). a.tag) full_leaves))

    -- and under the full one's DATA is still 2
    pub still_unknown : (o' n' : ℕ) → (step_of k (got t o' n') (step_of k (xfer others) (step_of k (got t o n) s).state).state).answer ≡ Err Refusal.Unlisted
    still_unknown o' n' =
        let a = (step_of k (got t o n) s).state in
        let h = sends k others a full_small typed sent in
        let apart : t ≡ steps.free k others a → ⊥ = λ e. full_another (ap (λ (b : Write). b.tag) h.leaves ∙ sym e) in
        unknown k t o' n' (step_of k (xfer others) a).state (sound k a full_kept full_small (xfer others) typed)
        (ap (λ (b : Write). unfinished b.phase) h.leaves)
        (ap (early t) h.leaves ∙ ne_eqb t (steps.free k others a) apart)
        (ap (λ (b : Write). digit b.tags t) h.leaves ∙ (added a.tags (steps.free k others a) h.free.own).there t apart
        ∙ ap (λ (b : Write). digit b.tags t) full_leaves ∙ digit_zero t)

-- DATA that overtook its XFER_RDY's ACK is 6; it can be offered again once the ACK is reported
pub overtakes : (k o n : ℕ) (s : Write) → keeps_rules k s ≡ true → s.phase ≡ Phase.Wait → sized n ≡ true → step_of k (got s.tag o n) s ≡ refused s Refusal.Unfit
unfolding step_of got_step
overtakes k o n s kept wait right = rw (right, kept, wait, eq-eqb s.tag s.tag refl)

-- DATA that was taken and offered again is 2
pub once : (k t o n : ℕ) (s : Write) → s.tags < 2 ^ k → (step_of k (got t o n) s).answer ≡ Ok Answer.Ok → (step_of k (got t o n) (step_of k (got t o n) s).state).answer ≡ Err Refusal.Unlisted
once k t o n s small ok =
    let h = gets k t o n s (Ok Answer.Ok) refl refl ok in
    let a = (step_of k (got t o n) s).state in
    let to : a.next ≡ o + n = ap (λ (b : Write). b.next) h.leaves in
    before k t o n a (sound k s h.kept small (got t o n) tt) (ap (λ (b : Write). unfinished b.phase) h.leaves) (ap (early t) h.leaves) (omega (arith, to, h.some))

-- a finished write holds no tag
pub frees : (k : ℕ) (s : Write) → keeps_rules k s ≡ true → unfinished s.phase ≡ false → s.tags ≡ 0
frees k s kept over = ⊎_elim (λ (z : s ≡ unstarted). ap (λ (t : Write). t.tags) z) (λ (w : Started k s). by s.phase over w.1) ((rules_say k s).0 kept)
  where
    by : (p : Phase) → unfinished p ≡ false → PhaseRule (ones s.tags) p s → s.tags ≡ 0
    by Phase.New e h = absurd h
    by Phase.Ask e h = impossible (sym e)
    by Phase.Wait e h = impossible (sym e)
    by Phase.Take e h = impossible (sym e)
    by Phase.Done e h = h.1
    by Phase.Fail e h = h.1.1.1
    by Phase.End e h = h.1
