-- Calls on a write, one behind the other, and what they leave. Assumes nothing.
use Rattle.refusals.specs.declared.Refusal.{Refusal}
use Rattle.std.specs.Prelude.{ℕ, ◌^◌, ◌<◌, Bool, List, [], ◌∷◌, ◌⊎◌, ◌≡◌, Ok, Result, is_err}
use Rattle.write.specs.Rules.{unstarted}
use Rattle.write.specs.Steps.{start_step, xfer_step, ack_step, miss_step, got_step, end_step}
use Rattle.write.specs.declared.Write.{Write}
use Rattle.write.specs.declared.Stepped.{Stepped}
use Rattle.write.specs.declared.Answer.{Answer}
use Rattle.write.specs.declared.Phase.{Phase}

-- with what each is given: START's B, N, X and R; of XFER the tags in use by the port's other writes; of DATA its transfer tag, its offset and its
-- length
pub data Call : Type 0 where
  start : ℕ → ℕ → ℕ → ℕ → Call
  xfer : ℕ → Call
  ack nak timeout lost : Call
  got : ℕ → ℕ → ℕ → Call
  nexus cancel : Call

unfoldable pub step_of : ℕ → Call → Write → Stepped
step_of k (start b n x r) s = start_step k b n x r s
step_of k (xfer others) s = xfer_step k others s
step_of k ack s = ack_step k s
step_of k nak s = miss_step k s
step_of k timeout s = miss_step k s
step_of k lost s = miss_step k s
step_of k (got t o n) s = got_step k t o n s
step_of k nexus s = end_step k s
step_of k cancel s = end_step k s

abbrev pub is_refused : Result Answer Refusal → Bool
is_refused a = is_err a

-- the state after some calls, the first first
abbrev pub run : ℕ → List Call → Write → Write
run k [] s = s
run k (c ∷ cs) s = run k cs (step_of k c s).state

-- the others' tags are a set of k tags
abbrev pub Typed : ℕ → Call → Type 0
Typed k (start b n x r) = Unit {0}
Typed k (xfer others) = others < 2 ^ k
Typed k ack = Unit {0}
Typed k nak = Unit {0}
Typed k timeout = Unit {0}
Typed k lost = Unit {0}
Typed k (got t o n) = Unit {0}
Typed k nexus = Unit {0}
Typed k cancel = Unit {0}

abbrev pub AllTyped : ℕ → List Call → Type 0
AllTyped k [] = Unit {0}
AllTyped k (c ∷ cs) = Typed k c × AllTyped k cs

-- a START of the state before START is taken, and the calls after it leave s
pub record Left (k : ℕ) (s : Write) : Type 0 where
  pub b : ℕ
  pub n : ℕ
  pub x : ℕ
  pub r : ℕ
  pub taken : (start_step k b n x r unstarted).answer ≡ Ok Answer.Ok
  pub calls : List Call
  pub typed : AllTyped k calls
  pub leave : run k calls (start_step k b n x r unstarted).state ≡ s

-- s is the state before START, or what some START and calls after it leave
abbrev pub Reachable : ℕ → Write → Type 0
Reachable k s = (s ≡ unstarted) ⊎ Left k s

-- a call that doesn't name another write's tag
abbrev pub Alone : Call → Type 0
Alone (start b n x r) = Unit {0}
Alone (xfer others) = others ≡ 0
Alone ack = Unit {0}
Alone nak = Unit {0}
Alone timeout = Unit {0}
Alone lost = Unit {0}
Alone (got t o n) = Unit {0}
Alone nexus = Unit {0}
Alone cancel = Unit {0}

abbrev pub AllAlone : List Call → Type 0
AllAlone [] = Unit {0}
AllAlone (c ∷ cs) = Alone c × AllAlone cs

-- some calls take every byte
pub record Finishes (k : ℕ) (s : Write) : Type 0 where
  pub calls : List Call
  pub alone : AllAlone calls
  pub done : (run k calls s).phase ≡ Phase.Done
