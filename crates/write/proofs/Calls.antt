-- What the checks of a call leave known, for the code behind them: a state that keeps its rules and is unfinished has its numbers in
-- their ranges. Assumes nothing.
use Rattle.std.specs.Prelude.{ltb, cond, Some, None, Option}
use Prim.Native.Nat.{ℕ, ◌+◌, ◌^◌, ◌≤◌, ◌<◌}
use mathlib.Core.Path.{◌≡◌, refl, sym, ap, subst}
use mathlib.Core.Bool.{Bool, true, false}
use native.Mathlib.Omega.{arith}
use borrow.Author.Tests.{not-false, ltb-true}
use Rattle.laws.specs.Tags.{digit}
use Rattle.laws.proofs.Bools.{nor}
use Rattle.refusals.proofs.Causes.{NoneGiven}
use Rattle.write.specs.Rules.{placed, keeps_rules}
use Rattle.write.specs.Steps.{unfinished, asking, free, asked_length, got_causes}
use Rattle.write.specs.declared.Write.{Write}
use Rattle.write.specs.declared.Phase.{Phase}
use Rattle.write.proofs.Kept.{four, first, under, placed_says}
use Rattle.write.proofs.Fits.{fits_says}
use Rattle.write.proofs.Phases.{ask_phase}
use Rattle.write.proofs.Picks.{picked}
use Rattle.write.proofs.Ranges.{until_most, until_more}
use Rattle.write.proofs.Sound.{good, underway, rule_at}

-- a tag that was found is the lowest free one, and one of the tags
pub found : (free k : ℕ) {o : Option ℕ} {t : ℕ} → o ≡ cond (ltb free k) (Some free) None → o ≡ Some t → (t ≡ free) × (t < k)
found free k {o} {t} is some = by (ltb free k) refl
  where
    by : (b : Bool) → ltb free k ≡ b → (t ≡ free) × (t < k)
    by true e = let same : t ≡ free = cc in let less = ltb-true free k e in (same, omega arith)
    by false e = absurd cc

module _ (k : ℕ) (s : Write) (small : s.tags < 2 ^ k) (kept : keeps_rules k s ≡ true) where
  -- where an XFER_RDY is due the state's numbers are in their ranges
  pub ask_placed : asking s.phase ≡ true → placed k s ≡ true
  ask_placed due = (placed_says k s).1 (underway k s (good k s kept small) (ap unfinished (ask_phase s.phase due))).0

  -- the last XFER_RDY's tag is one of the tags, as long as the write is unfinished
  pub tagged : unfinished s.phase ≡ true → s.tag < k
  tagged work = under k s (underway k s (good k s kept small) work).0

  pub ask_tagged : asking s.phase ≡ true → s.tag < k
  ask_tagged due = tagged (ap unfinished (ask_phase s.phase due))

  -- a free tag that was found is none of the write's own
  pub askable : (others : ℕ) → others < 2 ^ k → asking s.phase ≡ true → {t : ℕ} → t ≡ free k others s → t < k → (t < k) × (digit s.tags t ≡ 0)
  askable others typed due {t} is less =
      let own = (picked k others s typed small (ask_tagged due) (subst (λ (x : ℕ). x < k) is less)).own in
      (less, subst (λ (x : ℕ). digit s.tags x ≡ 0) (sym is) own)

  -- an XFER_RDY asks for some bytes, and they end within the request
  pub asks_some : asking s.phase ≡ true → (1 ≤ asked_length s) × (s.next + asked_length s ≤ 4294967295)
  asks_some due =
      let g = good k s kept small in
      let ask = ask_phase s.phase due in
      let w = underway k s g (ap unfinished ask) in
      let room = (rule_at k s g Phase.Ask ask w).0.0 in
      let more = until_more s (four k s w.0.0) (first k s w.0) room in
      let last = until_most s in
      let all = w.0.0.1.0 in
      (omega (arith, more), omega (arith, more, last, all))

-- what the checks of DATA leave known: it ends within the request
pub record Taken (k o n : ℕ) (s : Write) : Type 0 where
  pub ends : o + n ≤ 4294967295
  pub placed : placed k s ≡ true

pub takeable : (k t o n : ℕ) (s : Write) → s.tags < 2 ^ k → NoneGiven (got_causes k t o n s) → Taken k o n s
takeable k t o n s small off =
    let work = not-false _ (nor _ _ off.1.1.0).0 in
    let p = (underway k s (good k s (not-false _ off.1.0) small) work).0 in
    let to = ((fits_says t o n s).0 (not-false _ off.1.1.1.0)).lies.to in
    let last = until_most s in
    let all = p.0.1.0 in
    record { ends = omega (arith, to, last, all); placed = (placed_says k s).1 p }
