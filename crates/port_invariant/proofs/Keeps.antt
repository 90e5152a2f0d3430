-- Each call leaves a state that keeps the rules: where it is refused all is as it was, and else its tests say what its core needs to
-- change one phy, one record and a timer as the rules ask. Assumes nothing.
use Prim.Native.Nat.{ℕ, ◌≤◌, ◌<◌}
use mathlib.Core.Path.{◌≡◌, sym, ◌∙◌}
use mathlib.Core.Bool.{Bool, true, false, not}
use mathlib.Core.List.{List}
use native.Mathlib.Omega.{arith}
use lib.Dec.{eqb, leb, ltb}
use lib.ListN.{length, get_or, set, length-set, length-replicate}
use borrow.Author.Tests.{eqb-true, eqb-false, ltb-true, ltb-false, leb-false, not-true, not-false}
use Rattle.laws.proofs.Bools.{never, nor, and_left}
use Rattle.laws.proofs.Finds.{Found, none, at}
use Rattle.refusals.proofs.Causes.{NoneGiven}
use Rattle.open_frame.specs.Open.{head_listed}
use Rattle.port_parts.specs.Parts.{disabled_phy, blank, is_free, is_opening, is_disabled, in_range, has_frame_out}
use Rattle.port_parts.specs.Reasons.{reason_of}
use Rattle.port_parts.specs.declared.Phy.{Phy}
use Rattle.port_parts.specs.declared.Pick.{Pick}
use Rattle.port_parts.specs.declared.Port.{Port}
use Rattle.port_parts.specs.declared.Request.{Request}
use Rattle.port_parts.proofs.Choices.{choose_right}
use Rattle.port_rules.specs.Rules.{rules}
use Rattle.port_rules.specs.Kept.{Free}
use Rattle.port_rules.proofs.Facts.{range_says}
use Rattle.port_rows.specs.Calls.{phy_at, is_cancelled, is_joined, cancelled, chosen, phy_causes}
use Rattle.port_rows.specs.Finds.{room_of, has_key, slot_of}
use Rattle.port_rows.specs.declared.Done.{Done}
use Rattle.port_rows.specs.declared.Key.{Key}
use Rattle.port.specs.Calls.{pick_at}
use Rattle.port.specs.History.{State, Call, setup, submit, cancel, choose, opened, open_failed, frame_status, closed, enable, disable, stepped_by, is_refused, leave}
use Rattle.port.proofs.Begins.{setup_kept}
use Rattle.port.proofs.Found.{lowest_free, present_says, key_found}
use Rattle.port.proofs.Decides.{causes_of}
use Rattle.port.proofs.Refusals.{taken_of}
use Rattle.port_invariant.specs.Sound.{Sound}
use Rattle.port_invariant.proofs.Cancels.{cancel_keeps}
use Rattle.port_invariant.proofs.Chooses.{choose_keeps}
use Rattle.port_invariant.proofs.Leaves.{by_call}
use Rattle.port_invariant.proofs.Opens.{opened_keeps, failed_keeps}
use Rattle.port_invariant.proofs.Parted.{enable_keeps, disable_keeps, closed_keeps, status_keeps}
use Rattle.port_invariant.proofs.Submits.{submit_keeps}
use Rattle.port_invariant.proofs.Ways.{by_cancelled, by_chosen}

-- ---- what the scans of submit and cancel found

free_there : (l : List Request) (n : ℕ) → Found blank is_free l 32 32 n → n < 32 → Free (get_or l n blank)
free_there l n (none e nil) h = absurd (omega arith)
free_there l n (at m t nil) h = eqb-true (get_or l n blank).stage 0 t

pub key_there : (l : List Request) (x : Key) (n : ℕ) → Found blank (λ r. has_key r x) l 32 32 n → n < 32 → Free (get_or l n blank) → ⊥
key_there l x n (none e nil) h = absurd (omega arith)
key_there l x n (at m t nil) h = eqb-false (get_or l n blank).stage 0 (not-true (is_free (get_or l n blank)) (and_left (not (is_free (get_or l n blank))) _ t))

-- ---- eight phys stay eight

abbrev Eight : Done → Type 0
Eight d = length d.port.phys ≡ 8

cancelled_eight : (p : Port) (r : Request) (s now : ℕ) → length p.phys ≡ 8 → Eight (cancelled p r s now)
cancelled_eight p r s now eight = by_cancelled Eight p r s now (λ t. eight) (λ t. length-set p.phys _ _ ∙ eight)

chosen_eight : (p : Port) (r : Request) (b : Pick) (now : ℕ) → length p.phys ≡ 8 → Eight (chosen p r b now)
chosen_eight p r b now eight = by_chosen Eight p r b now (λ t. length-set p.phys _ _ ∙ eight) (λ t. length-set p.phys _ _ ∙ eight) (λ t. length-set p.phys _ _ ∙ eight) eight

-- ---- the calls

-- an accepted setup leaves one, whatever it was lent
pub setup_sound : (count loss : ℕ) (s : State) → (is_refused (stepped_by (setup count loss) s).answer.word ≡ true → Sound s) → Sound (leave (setup count loss) s)
unfolding causes_of taken_of
setup_sound count loss s stays =
    by_call (setup count loss) s Sound stays
    (λ size passed. record { eight = length-replicate 8 disabled_phy; kept = setup_kept count loss s.list size ((range_says count loss).0 (not-false (in_range count loss) passed.0)) })

-- what a phy's call that is taken found: the phy is one of the port's, the time has come, and the call fits
pub phy_ok : (p : Port) (l : List Request) (k now : ℕ) (unfit : Bool) → NoneGiven (phy_causes p (rules p l) k now unfit) → (k < p.count) × ((p.last ≤ now) × (unfit ≡ false))
phy_ok p l k now unfit passed = (ltb-true k p.count (not-false (ltb k p.count) passed.1.0), (ltb-false now p.last passed.1.1.0, passed.1.1.1.0))

module _ (s : State) (was : Sound s) where
  abbrev p : Port
  p = s.port

  abbrev l : List Request
  l = s.list

  in_stage : (k n : ℕ) → not (eqb (phy_at p k).stage n) ≡ false → (phy_at p k).stage ≡ n
  in_stage k n fit = eqb-true (phy_at p k).stage n (not-false (eqb (phy_at p k).stage n) fit)

  eight_set : (k : ℕ) (g : Phy) → length (set p.phys k g) ≡ 8
  eight_set k g = length-set p.phys k g ∙ was.eight

  pub keeps : (c : Call) → Sound (leave c s)
  unfolding causes_of taken_of
  keeps (setup count loss) = setup_sound count loss s (λ e. was)
  keeps (submit x) =
      by_call (submit x) s Sound (λ e. was) (λ size passed. record {
        eight = was.eight;
        kept =
            submit_keeps p l size was.eight was.kept x (ltb-false x.now p.last passed.1.1.0) (not-false (head_listed x.head) passed.0) (λ there. never (sym passed.1.1.1.0 ∙ (present_says l x.head).1 there))
            (free_there l (room_of l x.head).free (lowest_free l x.head));
      })
  keeps (cancel x) =
      by_call (cancel x) s Sound (λ e. was)
      (λ size passed.
      let found : i < 32 = leb-false 32 i (nor (leb 32 i) (is_cancelled r) passed.1.1.1.0).0 in
      record {
        eight = cancelled_eight p r i x.now was.eight;
        kept = cancel_keeps p l size was.eight was.kept i x.now found (ltb-false x.now p.last passed.1.1.0) (key_there l x.key i (key_found l x.key) found);
      })
    where
      i : ℕ
      i = slot_of l x.key

      r : Request
      r = get_or l i blank
  keeps (choose x) =
      by_call (choose x) s Sound (λ e. was) (λ size passed. record {
        eight = chosen_eight p (get_or l b.slot blank) b x.now was.eight;
        kept = choose_keeps p l size was.eight was.kept x.now (ltb-false x.now p.last passed.1.0) b (choose_right (record { phys = p.phys; now = x.now }) l was.eight);
      })
    where
      b : Pick
      b = pick_at l p x.now
  keeps (opened x) =
      by_call (opened x) s Sound (λ e. was) (λ size passed.
      let ok = phy_ok p l x.phy x.now (not (is_opening (phy_at p x.phy))) passed in
      record { eight = eight_set x.phy _; kept = opened_keeps p l size was.eight was.kept x.phy x.now ok.0 ok.1.0 (in_stage x.phy 2 ok.1.1) })
  keeps (open_failed x) =
      by_call (open_failed x) s Sound (λ e. was) (λ size passed.
      let ok = phy_ok p l x.phy x.now (not (is_opening (phy_at p x.phy))) passed.1 in
      record { eight = eight_set x.phy _; kept = failed_keeps p l size was.eight was.kept x.phy x.now ok.0 ok.1.0 (in_stage x.phy 2 ok.1.1) (reason_of x.why) })
  keeps (frame_status x) =
      by_call (frame_status x) s Sound (λ e. was) (λ size passed.
      let ok = phy_ok p l x.phy x.now (not (has_frame_out (phy_at p x.phy))) passed in
      record { eight = eight_set x.phy _; kept = status_keeps p l size was.eight was.kept x.phy x.now ok.0 ok.1.0 x.status })
  keeps (closed x) =
      by_call (closed x) s Sound (λ e. was) (λ size passed.
      let ok = phy_ok p l x.phy x.now (not (is_joined (phy_at p x.phy))) passed in
      record { eight = eight_set x.phy _; kept = closed_keeps p l size was.eight was.kept x.phy x.now ok.0 ok.1.0 })
  keeps (enable x) =
      by_call (enable x) s Sound (λ e. was) (λ size passed.
      let ok = phy_ok p l x.phy x.now (not (is_disabled (phy_at p x.phy))) passed in
      record { eight = eight_set x.phy _; kept = enable_keeps p l size was.eight was.kept x.phy x.now ok.0 ok.1.0 (in_stage x.phy 0 ok.1.1) })
  keeps (disable x) =
      by_call (disable x) s Sound (λ e. was) (λ size passed.
      let ok = phy_ok p l x.phy x.now (is_disabled (phy_at p x.phy)) passed in
      record { eight = eight_set x.phy _; kept = disable_keeps p l size was.eight was.kept x.phy x.now ok.0 ok.1.0 })
