-- What request c) asks of a write, sentence by sentence, in numbers that C sees: of a state s with the history h, and of one call more, answered
-- `next`, that adds the entries es. Assumes nothing.
use Rattle.std.specs.Prelude.{ℕ, ◌+◌, ◌≤◌, true, false, List, [], ◌∷◌, ◌++◌, ◌⊎◌, ◌↔◌, ◌≡◌, length}
use Rattle.laws.specs.Tags.{digit}
use Rattle.write.specs.Steps.{limit}
use Rattle.write_history.specs.History.{Request, Xfer, Data, Entry, asked, came, due, View, view, takes, end_of_data, end_of_xfer, Among}
use Rattle.write_history.specs.Words.{word_by, underway}
use Rattle.write_history.specs.Demand.{last_end, EndToEnd, Covers, ranges, Answered, Asks, Takes}
use Rattle.write_lent.specs.Numbers.{answer_number}
use Rattle.write_lent.specs.declared.State.{State}
use Rattle.write_lent.specs.declared.Step.{Step}

-- an XFER_RDY is due, its answer is due, or data is due
abbrev pub Unfinished : State → Type 0
Unfinished s = (s.phase ≡ 1) ⊎ ((s.phase ≡ 2) ⊎ (s.phase ≡ 3))

-- B, N, X and R as s holds them
abbrev pub request_of : State → Request
request_of s = record { offset = s.offset; count = s.count; burst = s.burst; resends = s.resends }

-- what is said of data d that is not taken: it carries a tag in use, lies in the latest XFER_RDY's range, is answered 22, and does nothing
pub record LateSeen (s : State) (v : View) (d : Data) (next : Step) : Type 0 where
  pub busy : Among d.transfer v.busy
  pub latest : Xfer
  pub earlier : List Xfer
  pub is : v.asks ≡ latest ∷ earlier
  pub lies : (latest.offset ≤ d.offset) × (end_of_data d ≤ end_of_xfer latest)
  pub stays : next ≡ record { state = s; answer = 22 }

pub record WriteSeen (s : State) (h es : List Entry) (next : Step) : Type 0 where
  -- the state holds what START was given
  pub request : (view h).request ≡ request_of s
  -- the taken frames lie end to end from B
  pub order : EndToEnd s.offset (view h).taken
  -- and the state's next byte is behind them
  pub next_is : s.next ≡ last_end s.offset (view h).taken
  -- complete, 19, is answered only once the taken frames cover the request, each byte once and nothing outside it,
  pub complete : next.answer ≡ 19 → Covers s.offset (s.offset + s.count) (view (es ++ h)).taken
  -- and then it is answered
  pub completes : (d : Data) → es ≡ came d ∷ [] → takes (view h) d ≡ true → end_of_data d ≡ s.offset + s.count → next.answer ≡ 19
  pub asks : (x : Xfer) → es ≡ asked x ∷ [] → Asks limit (view h) x
  -- an answer is taken only while one is due
  pub answers : Answered es → (view h).fate ≡ due
  pub received : (d : Data) → es ≡ came d ∷ [] → takes (view h) d ≡ true → Takes (view h) d
  pub late : (d : Data) → es ≡ came d ∷ [] → takes (view h) d ≡ false → LateSeen s (view h) d next
  -- the write's tags are those in use by the history; a finished one has none
  pub tags : Unfinished s → (t : ℕ) → (digit s.tags t ≡ 1) ↔ Among t (view h).busy
  pub freed : (Unfinished s → ⊥) → s.tags ≡ 0
  -- retries used are the failures, at most R, and failed, 20, is answered exactly at failure R+1
  pub used : Unfinished s → s.used ≡ (view h).failures
  pub bounded : s.used ≤ s.resends
  pub fails : (next.answer ≡ 20) ↔ (((view h).failures ≡ s.resends) × ((view (es ++ h)).failures ≡ s.resends + 1))
  -- at most as many XFER_RDYs go as the request has ranges, and R
  pub few : length (view h).asks ≤ ranges s.count s.burst + s.resends
  -- the write is unfinished exactly if the history says so, and every call that is taken answers the number of the history's word
  pub lives : Unfinished s ↔ (underway h ≡ true)
  pub word : (e : Entry) → es ≡ e ∷ [] → next.answer ≡ answer_number (word_by (view h) e)
