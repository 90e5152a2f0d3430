-- What C sees of each call: the write's own step, of the write that the numbers say. Assumes nothing.
use Rattle.std.specs.Prelude.{ℕ, List, ◌≡◌}
use Rattle.write.specs.Steps.{limit}
use Rattle.take.specs.Ask.{ask_bytes}
use Rattle.take.specs.Take.{take_store}
use Rattle.take_history.specs.Calls.{Call, ask, take, step_of}
use Rattle.write_lent.specs.Lent.{state_of, seen}
use Rattle.write_lent.specs.declared.State.{State}
use Rattle.write_lent.specs.declared.Step.{Step}

-- C's calls are the write's, each given the same besides the state. Numbers that aren't formed are refused where a write is that breaks its
-- rules: first of all by START, XFER, answers and ends; by data behind 2 for a length that no frame has; by ask and take behind 1 and 2 for what
-- they were given
abbrev pub face_of : Call → State → Step
face_of c s = seen s (step_of limit c (state_of s))

-- the output as an ask leaves it
abbrev pub bytes_of : ℕ → ℕ → ℕ → ℕ → List ℕ → State → List ℕ
bytes_of others destination source tag out s = ask_bytes limit others (state_of s) destination source tag out

-- the store as a take leaves it
abbrev pub store_of : ℕ → ℕ → ℕ → List ℕ → List ℕ → State → List ℕ
store_of destination source tag frame store s = take_store limit (state_of s) destination source tag frame store

-- what an ask promises of its answer and state r, and of the output as it leaves it
pub record Asked (s : State) (others destination source tag : ℕ) (before : List ℕ) (r : Step) (after : List ℕ) : Type 0 where
  pub step : r ≡ face_of (ask others destination source tag before) s
  pub bytes : after ≡ bytes_of others destination source tag before s

-- what a take promises of its answer and state r, and of the store as it leaves it
pub record Taken (s : State) (destination source tag : ℕ) (frame before : List ℕ) (r : Step) (after : List ℕ) : Type 0 where
  pub step : r ≡ face_of (take destination source tag frame before) s
  pub store : after ≡ store_of destination source tag frame before s
