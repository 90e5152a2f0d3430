-- An Open Failed that doesn't stop a running loss timer leaves every request with the timer that it had: no timer changes, and the request
-- that it is about waits again with its own, or leaves. Assumes nothing.
use Rattle.std.specs.Prelude.{Option, Some, None}
use Rattle.port_rows.specs.Records.{spread}
use Rattle.port_rows.specs.declared.Loss.{Loss}
use Rattle.port_invariant.proofs.Spreads.{none_changes}
use Prim.Native.Nat.{ℕ, ◌<◌}
use mathlib.Core.Path.{◌≡◌, refl, sym, ap, ◌∙◌}
use mathlib.Core.Bool.{Bool, true, false, cond, ◌&&◌}
use mathlib.Core.List.{List}
use lib.Dec.{eqb}
use lib.ListN.{get_or}
use borrow.Author.Tests.{eqb-true}
use Rattle.laws.proofs.Bools.{never}
use Rattle.port_parts.specs.Parts.{blank, is_set, is_ssp}
use Rattle.port_parts.specs.Reasons.{reason_of, is_stopping}
use Rattle.port_parts.specs.declared.Phy.{Phy}
use Rattle.port_parts.specs.declared.Reason.{Reason}
use Rattle.port_parts.specs.declared.Request.{Request}
use Rattle.port_rules.specs.Kept.{Free}
use Rattle.port_rows.specs.Calls.{phy_at, again, is_again, timer_after, failed}
use Rattle.port_rows.specs.Changed.{timed}
use Rattle.port_rows.specs.declared.Done.{Done}
use Rattle.port_rows.specs.declared.Failure.{Failure}
use Rattle.port_rows.proofs.Timers.{timer_stays, unchanged_by}
use Rattle.port.specs.Calls.{on_phy}
use Rattle.port.specs.History.{State, open_failed, leave}
use Rattle.port.proofs.Begins.{left_at}
use Rattle.port.proofs.Refusals.{taken_of}
use Rattle.port_invariant.proofs.Leaves.{by_call}

module _ (s : State) (x : Failure) (ssp : is_ssp (on_phy s.list s.port x.phy).head ≡ true) (running : is_set (on_phy s.list s.port x.phy).loss ≡ true) (going : is_stopping (reason_of x.why) ≡ false) where
  abbrev l : List Request
  l = s.list

  abbrev f : Phy
  f = phy_at s.port x.phy

  abbrev r : Request
  r = on_phy l s.port x.phy

  abbrev why : Reason
  why = reason_of x.why

  abbrev d : Done
  d = failed s.port f r why x.phy x.now

  -- record i, which is the named one where u
  kept_at : (i : ℕ) (u v : Bool) (o : Option Loss) → eqb i f.slot ≡ u → o ≡ None
      → (Free (cond u (cond v (again r why x.now (timer_after r why x.now)) blank) (spread o (get_or l i blank))) → ⊥)
      → (cond u (cond v (again r why x.now (timer_after r why x.now)) blank) (spread o (get_or l i blank))).loss ≡ (get_or l i blank).loss
  kept_at i true true o e same there = timer_stays r why x.now ssp running going ∙ ap (λ (n : ℕ). (get_or l n blank).loss) (sym (eqb-true i f.slot e))
  kept_at i true false o e same there = absurd (there refl)
  kept_at i false v (Some y) e same there = none_changes (sym same)
  kept_at i false v None e same there = refl

  -- 01 TRAP.3
  pub timers_run_on : (i : ℕ) → i < 32 → (Free (get_or (leave (open_failed x) s).list i blank) → ⊥) → (get_or (leave (open_failed x) s).list i blank).loss ≡ (get_or l i blank).loss
  unfolding taken_of
  timers_run_on =
      by_call (open_failed x) s (λ (t : State). (i : ℕ) → i < 32 → (Free (get_or t.list i blank) → ⊥) → (get_or t.list i blank).loss ≡ (get_or l i blank).loss) (λ e i h there. refl)
      (λ size passed i h there.
      let at = left_at l d i size h in
      ap (λ (q : Request). q.loss) at
      ∙ kept_at i (eqb i f.slot) (is_again s.port r why x.now) _ refl (unchanged_by r why x.now ssp running going) (λ free. there (ap (λ (q : Request). q.stage) at ∙ free)))
