-- A request that was blocked 255 times and is blocked again waits with 255: Open Failed with Pathway Blocked adds one up to that, or the
-- request leaves. Assumes nothing.
use Prim.Native.Nat.{ℕ, ◌+◌, ◌<◌, min}
use mathlib.Core.Path.{◌≡◌, refl, ap, ◌∙◌}
use mathlib.Core.Bool.{Bool, true, false, cond}
use lib.ListN.{get_or}
use Rattle.port_parts.specs.Parts.{blank}
use Rattle.port_parts.specs.Reasons.{reason_of, is_blocked}
use Rattle.port_parts.specs.declared.Reason.{Reason}
use Rattle.port_parts.specs.declared.Request.{Request}
use Rattle.port_rules.specs.Kept.{Free}
use Rattle.port_rows.specs.Calls.{phy_at, again, one_more, is_again, timer_after, failed}
use Rattle.port_rows.specs.declared.Done.{Done}
use Rattle.port_rows.specs.declared.Failure.{Failure}
use Rattle.port.specs.Calls.{on_phy}
use Rattle.port.specs.History.{State, open_failed, leave}
use Rattle.port.proofs.Begins.{left_here}
use Rattle.port.proofs.Refusals.{taken_of}
use Rattle.port_invariant.proofs.Leaves.{by_call}

module _ (s : State) (x : Failure) (blocked : reason_of x.why ≡ Reason.PathwayBlocked) (full : (on_phy s.list s.port x.phy).pbc.0 ≡ 255) (named : (phy_at s.port x.phy).slot < 32) where
  abbrev r : Request
  r = on_phy s.list s.port x.phy

  abbrev slot : ℕ
  slot = (phy_at s.port x.phy).slot

  abbrev d : Done
  d = failed s.port (phy_at s.port x.phy) r (reason_of x.why) x.phy x.now

  -- the record that is left, by whether the request waits again
  abbrev left : Bool → Request
  left v = cond v (again r (reason_of x.why) x.now (timer_after r (reason_of x.why) x.now)) blank

  stays_255 : (v : Bool) → (Free (left v) → ⊥) → (left v).pbc.0 ≡ 255
  stays_255 true there = ap (λ (why : Reason). (cond (is_blocked why) (one_more r.pbc) (record { 0 = 0 })).0) blocked ∙ ap (λ (n : ℕ). min (n + 1) 255) full
  stays_255 false there = absurd (there refl)

  -- 01 PORT.19
  pub blocked_again : (Free (get_or (leave (open_failed x) s).list slot blank) → ⊥) → (get_or (leave (open_failed x) s).list slot blank).pbc.0 ≡ 255
  unfolding taken_of
  blocked_again =
      by_call (open_failed x) s (λ (t : State). (Free (get_or t.list slot blank) → ⊥) → (get_or t.list slot blank).pbc.0 ≡ 255) (λ e there. full)
      (λ size passed there.
      let at = left_here s.list d size refl named in
      ap (λ (q : Request). q.pbc.0) at ∙ stays_255 (is_again s.port r (reason_of x.why) x.now) (λ free. there (ap (λ (q : Request). q.stage) at ∙ free)))
