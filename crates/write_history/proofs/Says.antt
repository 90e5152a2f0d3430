-- What one call says of a write with its history: of the entry that it adds, of the word it answers, and of the invariant behind it. Assumes nothing.
use Rattle.refusals.specs.declared.Refusal.{Refusal}
use Rattle.std.specs.Prelude.{Ok, Result}
use Prim.Native.Nat.{ℕ, ◌+◌}
use mathlib.Core.Bool.{true, false, not}
use mathlib.Core.List.{List, [], ◌∷◌, ◌++◌}
use mathlib.Core.Logic.{◌↔◌}
use mathlib.Core.Path.{◌≡◌}
use Rattle.write.specs.Steps.{unfinished}
use Rattle.write.specs.Calls.{is_refused}
use Rattle.write.specs.declared.Write.{Write}
use Rattle.write.specs.declared.Stepped.{Stepped}
use Rattle.write.specs.declared.Answer.{Answer}
use Rattle.write_history.specs.History.{Data, Entry, started, asked, acked, nacked, timed_out, was_lost, came, ended, due, View, view, takes, end_of_data, entries}
use Rattle.write_history.specs.Words.{word_by, final}
use Rattle.write_history.specs.Demand.{end_of_request, last_end, Asks, Takes, Late}
use Rattle.write_history.proofs.Invariant.{Inv}

-- of data that came: it was taken in order, or is late, and was taken up to the request's end exactly if complete is answered
pub record Comes (s : Write) (v : View) (d : Data) (st : Stepped) : Type 0 where
  pub takes' : takes v d ≡ true → Takes v d
  pub late : takes v d ≡ false → Late s v d st
  pub done : takes v d ≡ true → end_of_data d ≡ end_of_request v.request → st.answer ≡ Ok Answer.Done

-- of an entry
abbrev pub Said : ℕ → Write → View → Stepped → Entry → Type 0
Said k s v st (started q) = Unit {0}
Said k s v st (asked x) = Asks k v x
Said k s v st acked = v.fate ≡ due
Said k s v st nacked = v.fate ≡ due
Said k s v st timed_out = v.fate ≡ due
Said k s v st was_lost = v.fate ≡ due
Said k s v st (came d) = Comes s v d st
Said k s v st ended = Unit {0}

abbrev pub AllSaid : ℕ → Write → View → Stepped → List Entry → Type 0
AllSaid k s v st [] = Unit {0}
AllSaid k s v st (e ∷ es) = Said k s v st e × AllSaid k s v st es

-- the word is the history's: complete only at the request's end, and failed exactly at failure R+1
pub record Word (v w : View) (a : Result Answer Refusal) : Type 0 where
  pub done : a ≡ Ok Answer.Done → (w.request ≡ v.request) × (last_end v.request.offset w.taken ≡ end_of_request v.request)
  pub fails : (a ≡ Ok Answer.Fail) ↔ ((v.failures ≡ v.request.resends) × (w.failures ≡ v.request.resends + 1))

-- the word is the history's
abbrev pub Told : View → Stepped → List Entry → Type 0
Told v st [] = Unit {0}
Told v st (e ∷ es) = (st.answer ≡ word_by v e) × Told v st es

-- a call that did st, and adds e if it is not refused
pub record Call (k : ℕ) (s : Write) (h : List Entry) (e : Entry) (st : Stepped) : Type 0 where
  pub keeps : Inv k st.state (view (entries e st.answer ++ h))
  pub says : AllSaid k s (view h) st (entries e st.answer)
  pub word : Word (view h) (view (entries e st.answer ++ h)) st.answer
  pub told : Told (view h) st (entries e st.answer)
  -- it leaves the write unfinished exactly if its word doesn't finish one
  pub goes : is_refused st.answer ≡ false → unfinished st.state.phase ≡ not (final st.answer)
  pub kept : is_refused st.answer ≡ true → st.state ≡ s
