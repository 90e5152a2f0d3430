-- A line is taken exactly if it is that of a transfer which some history leaves: the line and the state say each other, and the test
-- of a state is exact. Assumes nothing.
use Prim.Native.Nat.{ℕ, ◌≤◌}
use mathlib.Core.Bool.{true}
use mathlib.Core.List.{List}
use mathlib.Core.Logic.{◌↔◌}
use mathlib.Core.Path.{◌≡◌, sym, ap, ◌∙◌}
use native.Mathlib.Omega.{arith}
use Rattle.laws.proofs.Bools.{and_left, and_right, and_true}
use Rattle.transfer.specs.Rules.{keeps_rules}
use Rattle.transfer.specs.Calls.{Reachable}
use Rattle.transfer.specs.declared.Transfer.{Transfer}
use Rattle.transfer.proofs.Exact as transfer
use Rattle.saved.specs.Saved.{bound_of, line_of, largest, shaped, state_of, taken}
use Rattle.saved.specs.Grounds.{LeftLine}
use Rattle.saved.proofs.Trips.{state_back, line_shaped, line_again, rules_small}

module _ (form : ℕ) (f : form ≤ largest) where
  left : (line : List ℕ) → taken form line ≡ true → LeftLine (bound_of form) form line
  left line e =
      record {
        state = state_of line;
        reached = (transfer.exact (bound_of form) (omega arith) (state_of line)).0 (and_right (shaped form line) _ e);
        is = sym (line_again form line (and_left (shaped form line) _ e));
      }

  -- the line of a state that keeps its rules
  pub kept_taken : (s : Transfer) → keeps_rules (bound_of form) s ≡ true → taken form (line_of form s) ≡ true
  kept_taken s e =
      and_true (line_shaped form s (rules_small (bound_of form) form s e (omega arith) f)) (ap (keeps_rules (bound_of form)) (state_back form s) ∙ e)

  back : (s : Transfer) → Reachable (bound_of form) s → taken form (line_of form s) ≡ true
  back s r = kept_taken s ((transfer.exact (bound_of form) (omega arith) s).1 r)

  pub exact : (line : List ℕ) → (taken form line ≡ true) ↔ LeftLine (bound_of form) form line
  exact line = (left line, λ l. ap (taken form) l.is ∙ back l.state l.reached)
