-- The test of a lent state accepts exactly the state before START and what some START and calls after it leave: of a read transfer, of a write and of a reply.
-- Assumes nothing.
use Prim.Native.Nat.{◌^◌, ◌≤◌, ◌<◌}
use mathlib.Core.Bool.{true}
use mathlib.Core.Logic.{◌↔◌}
use mathlib.Core.Path.{◌≡◌, sym, ◌∙◌}
use native.Mathlib.Omega.{arith}
use Rattle.transfer.specs.Calls.{Reachable}
use Rattle.transfer.proofs.Exact.{exact}
use Rattle.write.specs.Steps.{limit}
use Rattle.write.specs.Calls as writing
use Rattle.write.proofs.Exact as write'
use Rattle.claims.proofs.Calls.{KeepsRules}
use Rattle.claims.proofs.WriteCalls as calls
use Rattle.reply.specs.Calls as replying
use Rattle.reply.proofs.Exact as reply-test
use Rattle.claims.proofs.ReplyCalls as reply-calls

-- 01 READ.16
pub record Exact : Type 0 where
  -- of the test as the code answers it, for every bound of 2 or more
  pub test : (c : KeepsRules) → 2 ≤ c.args.1.0 → (c.answer ≡ true) ↔ Reachable c.args.1.0 c.args.0
  -- 02 c.2
  -- of a write's test, over the 64 tags that its eight bytes can name
  pub write : (c : calls.KeepsRules) → c.args.0.tags < 2 ^ 64 → (c.answer ≡ true) ↔ writing.Reachable limit c.args.0
  -- 02 c.3
  -- and of a reply's
  pub reply : (c : reply-calls.KeepsRules) → (c.answer ≡ true) ↔ replying.Reachable c.args.0

pub exactly : Exact
exactly = record {
  test = λ c two. let e = exact c.args.1.0 two c.args.0 in (λ h. e.0 (sym c.met ∙ h), λ h. c.met ∙ e.1 h);
  write = λ c small. let e = write'.exact limit (omega arith) c.args.0 small in (λ h. e.0 (sym c.met ∙ h), λ h. c.met ∙ e.1 h);
  reply = λ c. let e = reply-test.exact c.args.0 in (λ h. e.0 (sym c.met ∙ h), λ h. c.met ∙ e.1 h);
}
