-- A call hands the write that it was lent to a step, and gives back what is seen of it. Assumes nothing.
use Prim.Native.Nat.{ℕ}
use mathlib.Core.List.{List}
use mathlib.Core.Path.{◌≡◌, ap, ◌∙◌}
use Rattle.write.specs.Steps.{limit}
use Rattle.write.specs.declared.Write.{Write}
use Rattle.write.specs.declared.Stepped.{Stepped}
use Rattle.take.specs.Ask.{ask_step, ask_bytes, Asks}
use Rattle.take.specs.Take.{take_step, take_store, Takes}
use Rattle.write_lent.specs.Lent.{state_of, seen}
use Rattle.write_lent.specs.Face.{Asked, Taken}
use Rattle.write_lent.specs.declared.State.{State}
use Rattle.write_lent.specs.declared.Step.{Step}

pub steps : (step : Write → Stepped) (s : State) {w : Write} {r : Stepped} {q : Step}
    → w ≡ state_of s → r ≡ step w → q ≡ seen s r → q ≡ seen s (step (state_of s))
steps step s state does sees = sees ∙ ap (seen s) (does ∙ ap step state)

-- with the output
pub asks : (s : State) (others destination source tag : ℕ) (before : List ℕ) {w : Write} {r : Stepped} {q : Step} {after : List ℕ}
    → w ≡ state_of s → Asks limit others w destination source tag before r after → q ≡ seen s r → Asked s others destination source tag before q after
asks s others destination source tag before state does sees =
    record {
      step = steps (λ u. ask_step limit others u destination source before) s state does.step sees;
      bytes = does.bytes ∙ ap (λ (u : Write). ask_bytes limit others u destination source tag before) state;
    }

-- with the store
pub takes : (s : State) (destination source tag : ℕ) (frame before : List ℕ) {w : Write} {r : Stepped} {q : Step} {after : List ℕ}
    → w ≡ state_of s → Takes limit w destination source tag frame before r after → q ≡ seen s r → Taken s destination source tag frame before q after
takes s destination source tag frame before state does sees =
    record {
      step = steps (λ u. take_step limit u destination source tag frame before) s state does.step sees;
      store = does.store ∙ ap (λ (u : Write). take_store limit u destination source tag frame before) state;
    }
