-- What is saved is restored as it was: save lays the line at the front of the output and says its length, and restore takes exactly the lines of transfers that
-- some history leaves. Assumes nothing.
use Rattle.std.specs.Prelude.{Err, Ok, Result}
use Prim.Native.Nat.{ℕ}
use mathlib.Core.Bool.{true, false}
use mathlib.Core.List.{List}
use mathlib.Core.Logic.{◌↔◌}
use mathlib.Core.Path.{◌≡◌, refl, sym, ap, ◌∙◌}
use native.Mathlib.Omega.{arith}
use borrow.Author.Tests.{not-false}
use lib.ListN.{length, take}
use Rattle.laws.proofs.Bools.{never}
use Rattle.laws.proofs.Tests.{less, unless}
use Rattle.refusals.specs.Causes.{by_check, First, Decides, nil, cons}
use Rattle.refusals.specs.declared.Refusal.{Refusal}
use Rattle.refusals.proofs.Causes.{through, only, if_first}
use Rattle.transfer.specs.Rules.{keeps_rules}
use Rattle.transfer.specs.declared.Transfer.{Transfer}
use Rattle.transfer.proofs.Exact as transfer
use Rattle.saved.specs.Saved.{newest, bound_of, room_of, line_of, state_of, taken, restore_causes, restored, unrestored, restore_of, save_causes, unsaved, Save}
use Rattle.saved.specs.Grounds.{restore_grounds, save_grounds}
use Rattle.saved.specs.declared.Restored.{Restored}
use Rattle.saved.specs.declared.Saved.{Saved}
use Rattle.saved.proofs.Trips.{state_back}
use Rattle.saved.proofs.Exact.{kept_taken, exact}
use Rattle.saved.proofs.Laid.{Lays, no_cause, in_front}

-- ---- refusals of a check, told apart

pub one : (j k : Refusal) → ◌≡◌ {A = Result (Unit {0}) Refusal} (Err j) (Err k) → j ≡ k
one j k e = cc

pub passed_apart : (k : Refusal) → ◌≡◌ {A = Result (Unit {0}) Refusal} (Ok tt) (Err k) → ⊥
passed_apart k e = never (ap (by_check (λ (_ : Refusal). false) true) (sym e))

-- ---- restore

module _ (line : List ℕ) where
  pub restore_taken : taken newest line ≡ true → restore_of line ≡ restored (state_of line)
  unfolding restore_of
  restore_taken e = rw e refl

  pub restore_other : taken newest line ≡ false → restore_of line ≡ unrestored Refusal.Unlisted
  unfolding restore_of
  restore_other e = rw e refl

  restore_decides : Decides (restore_causes line) (restore_grounds line)
  restore_decides = cons (unless (exact newest (omega arith) line)) nil

  pub restore_exactly : (k : Refusal) → ((restore_of line).answer ≡ Err k) ↔ First (restore_grounds line) k
  unfolding restore_of
  restore_exactly k =
      let is = through (λ (r : Restored). r.answer) unrestored (restore_causes line) (restored (state_of line)) in (
        (λ e. only Err (Ok tt) one passed_apart restore_decides k (sym is ∙ e)),
        (λ f. is ∙ if_first Err (Ok tt) one passed_apart restore_decides k f),
      )

-- the line of a state that keeps its rules gives it back
pub restore_back : (s : Transfer) → keeps_rules (bound_of newest) s ≡ true → restore_of (line_of newest s) ≡ restored s
restore_back s e =
    restore_taken (line_of newest s) (kept_taken newest (omega arith) s e)
    ∙ ap restored (state_back newest s)

-- ---- save

pub save_decides : (s : Transfer) (out : List ℕ) → Decides (save_causes newest s out) (save_grounds s out)
save_decides s out = cons (less (length out) (room_of newest)) (cons (unless (transfer.exact (bound_of newest) (omega arith) s)) nil)

module _ {form : ℕ} {s : Transfer} {before after : List ℕ} {r : Saved} (p : Save form s before r after) where
  pub lays : Lays Err (Ok tt) one passed_apart (save_causes form s before) (line_of form s) before r.answer r.length after
  lays = record {
    answers = ap (λ (x : Saved). x.answer) p.answer ∙ through (λ (x : Saved). x.answer) unsaved (save_causes form s before) _;
    counts = ap (λ (x : Saved). x.length) p.answer ∙ through (λ (x : Saved). x.length) unsaved (save_causes form s before) _;
    bytes = p.bytes;
  }

-- a swap, save and then restore, gives the transfer back
pub swap_same : {s : Transfer} {before after : List ℕ} {r : Saved} → Save newest s before r after → r.answer ≡ Ok tt → restore_of (take r.length after) ≡ restored s
swap_same {s} p took =
    let off = no_cause Err (Ok tt) one passed_apart (lays p) took in
    ap restore_of (in_front Err (Ok tt) one passed_apart (lays p) took)
    ∙ restore_back s (not-false (keeps_rules (bound_of newest) s) off.1.0)
