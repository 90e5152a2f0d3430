-- The store over C's calls, each lent the store that the last one left. Assumes nothing.
use Rattle.std.specs.Prelude.{ℕ, cond, List, [], ◌∷◌}
use Rattle.write.specs.Steps.{limit}
use Rattle.take_history.specs.Calls.{Call}
use Rattle.take_history.specs.Store as machine
use Rattle.take_history.specs.Store.{Lent, started_by}
use Rattle.write_lent.specs.Lent.{state_of, is_refusal}
use Rattle.write_lent.specs.Face.{face_of}
use Rattle.write_lent.specs.declared.State.{State}

-- the store as a call leaves it
abbrev pub store_after : Call → State → List ℕ → List ℕ
store_after c s store = machine.store_after limit c (state_of s) store

abbrev pub store_run : List Call → State → List ℕ → List ℕ
store_run [] s store = store
store_run (c ∷ cs) s store = store_run cs (face_of c s).state (store_after c s store)

-- data comes with its bytes, and each call is lent the store that the last left
abbrev pub AllLent : List Call → State → List ℕ → Type 0
AllLent [] s store = Unit {0}
AllLent (c ∷ cs) s store = Lent c store × AllLent cs (face_of c s).state (store_after c s store)

-- the store as it was at the last START that was taken
abbrev pub first_after : Call → State → List ℕ → List ℕ → List ℕ
first_after c s store first = cond (is_refusal (face_of c s).answer) first (started_by c store first)

abbrev pub first_run : List Call → State → List ℕ → List ℕ → List ℕ
first_run [] s store first = first
first_run (c ∷ cs) s store first = first_run cs (face_of c s).state (store_after c s store) (first_after c s store first)
