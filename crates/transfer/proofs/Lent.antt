-- A lent state that passes the test has a history: that of calls which leave it. With that history demand 3 holds of it, and over any
-- calls after it. Assumes nothing.
use Prim.Native.Nat.{ℕ, ◌≤◌}
use mathlib.Core.Bool.{true}
use mathlib.Core.List.{List, []}
use mathlib.Core.Path.{◌≡◌}
use Rattle.transfer.specs.Rules.{unstarted, keeps_rules}
use Rattle.transfer.specs.Calls.{Call, step_of, run}
use Rattle.transfer.specs.History.{Entry}
use Rattle.transfer.specs.Log.{entries_of, history}
use Rattle.transfer.specs.Demand.{Demand3}
use Rattle.transfer.specs.declared.Transfer.{Transfer}
use Rattle.transfer.proofs.Demand.{demand_3_saved}
use Rattle.transfer.proofs.Exact.{reached}

-- over any calls of s, and one call more, after the history h
abbrev pub DemandFrom : ℕ → Transfer → List Entry → Type 0
DemandFrom bound s h =
    (cs : List Call) (c : Call) →
    let t = run bound cs s in
    Demand3 bound t (history bound cs s h) (entries_of bound c t) (step_of bound c t)

pub lent : (bound : ℕ) → 2 ≤ bound → (s : Transfer) → keeps_rules bound s ≡ true → (h : List Entry) × DemandFrom bound s h
lent bound two s kept =
    let r = reached bound two s kept in
    (history bound r.0 unstarted [], λ cs c. demand_3_saved bound r.0 cs c s r.1)
