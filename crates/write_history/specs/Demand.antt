-- What request c) asks of a write, sentence by sentence: of a write s with the history h, and of one call more, answered `next`, that adds
-- the entries es. Assumes nothing.
use Rattle.std.specs.Prelude.{ℕ, ◌+◌, ◌-◌, ◌/◌, ◌≤◌, ◌<◌, min, true, false, List, [], ◌∷◌, ◌++◌, ◌⊎◌, ◌↔◌, ◌≡◌, length, Ok}
use Rattle.laws.specs.Tags.{digit}
use Rattle.write.specs.Steps.{unfinished}
use Rattle.write.specs.declared.Write.{Write}
use Rattle.write.specs.declared.Stepped.{Stepped}
use Rattle.write.specs.declared.Answer.{Answer}
use Rattle.write_history.specs.History.{Request, Xfer, Data, Entry, asked, acked, nacked, timed_out, was_lost, came, due, good, failed, View, view, takes, end_of_data, end_of_xfer, Among}
use Rattle.write_history.specs.Words.{word_by, underway}
use Rattle.write_history.specs.Log.{request_of}

abbrev pub end_of_request : Request → ℕ
end_of_request q = q.offset + q.count

-- the end of the latest of the frames, b where there is none
abbrev pub last_end : ℕ → List Data → ℕ
last_end b [] = b
last_end b (d ∷ ds) = end_of_data d

-- the frames, the latest first, lie end to end from b: each begins where the one before it ended
abbrev pub EndToEnd : ℕ → List Data → Type 0
EndToEnd b [] = Unit {0}
EndToEnd b (d ∷ ds) = (d.offset ≡ last_end b ds) × EndToEnd b ds

-- byte x lies in the frame
abbrev pub In : ℕ → Data → Type 0
In x d = (d.offset ≤ x) × (x < end_of_data d)

-- byte x lies in none of the frames, and in exactly one of them
abbrev pub InNone : ℕ → List Data → Type 0
InNone x [] = Unit {0}
InNone x (d ∷ ds) = (In x d → ⊥) × InNone x ds

abbrev pub InOne : ℕ → List Data → Type 0
InOne x [] = ⊥
InOne x (d ∷ ds) = (In x d × InNone x ds) ⊎ ((In x d → ⊥) × InOne x ds)

-- each frame lies between b and e
abbrev pub Inside : ℕ → ℕ → List Data → Type 0
Inside b e [] = Unit {0}
Inside b e (d ∷ ds) = ((b ≤ d.offset) × (end_of_data d ≤ e)) × Inside b e ds

-- the frames are the bytes from b to e, each once
pub record Covers (b e : ℕ) (ds : List Data) : Type 0 where
  pub once : (x : ℕ) → b ≤ x → x < e → InOne x ds
  pub inside : Inside b e ds

-- how many ranges of x bytes hold n bytes, the last possibly shorter
abbrev pub ranges : ℕ → ℕ → ℕ
ranges n x = (n + (x - 1)) / x

-- es is an answer to an XFER_RDY
abbrev pub Answered : List Entry → Type 0
Answered es = (es ≡ acked ∷ []) ⊎ ((es ≡ nacked ∷ []) ⊎ ((es ≡ timed_out ∷ []) ⊎ (es ≡ was_lost ∷ [])))

-- what is said of an XFER_RDY x that goes behind the history
pub record Asks (k : ℕ) (v : View) (x : Xfer) : Type 0 where
  -- a request for bytes: it names the first byte not taken, and X bytes or what is left;
  pub from : x.offset ≡ last_end v.request.offset v.taken
  pub long : x.length ≡ min v.request.burst (end_of_request v.request - x.offset)
  -- none goes while the one before it is due or good;
  pub alone : (v.fate ≡ due → ⊥) × (v.fate ≡ good → ⊥)
  -- its transfer tag is one of k, and differs from the previous
  pub listed : x.transfer < k
  pub apart : (y : Xfer) (ys : List Xfer) → v.asks ≡ y ∷ ys → x.transfer ≡ y.transfer → ⊥
  -- and from every tag in use, the write's own
  pub fresh : Among x.transfer v.busy → ⊥
  -- and the others';
  pub others : digit x.others x.transfer ≡ 0
  -- retransmit bit one, exactly for a retry; retry data frames is zero
  pub retry : (x.retransmit ≡ 1) ↔ (v.fate ≡ failed)
  pub first : (v.fate ≡ failed → ⊥) → x.retransmit ≡ 0
  pub plain : x.retry ≡ 0
  -- a retry asks for the range of the one that failed
  pub same : v.fate ≡ failed → (y : Xfer) (ys : List Xfer) → v.asks ≡ y ∷ ys → (x.offset ≡ y.offset) × (x.length ≡ y.length)

-- what is said of data d that is taken
pub record Takes (v : View) (d : Data) : Type 0 where
  -- data frames received in order of offset: it begins where the last one ended
  pub order : d.offset ≡ last_end v.request.offset v.taken
  -- it lies in the range of the XFER_RDY whose transfer tag it carries, and that one's ACK was reported
  pub answered : v.fate ≡ good
  pub latest : Xfer
  pub earlier : List Xfer
  pub is : v.asks ≡ latest ∷ earlier
  pub under : d.transfer ≡ latest.transfer
  pub lies : (latest.offset ≤ d.offset) × (end_of_data d ≤ end_of_xfer latest)

-- what is said of data d that is not taken: it carries a tag in use, lies in the latest XFER_RDY's range, and does nothing
pub record Late (s : Write) (v : View) (d : Data) (next : Stepped) : Type 0 where
  pub busy : Among d.transfer v.busy
  pub latest : Xfer
  pub earlier : List Xfer
  pub is : v.asks ≡ latest ∷ earlier
  pub lies : (latest.offset ≤ d.offset) × (end_of_data d ≤ end_of_xfer latest)
  pub stays : next ≡ record { answer = Ok Answer.Late; state = s }

pub record WriteDemand (k : ℕ) (s : Write) (h es : List Entry) (next : Stepped) : Type 0 where
  -- the state holds what START was given
  pub request : (view h).request ≡ request_of s
  -- the taken frames lie end to end from B
  pub order : EndToEnd (view h).request.offset (view h).taken
  -- and the state's next byte is behind them
  pub next_is : s.next ≡ last_end (view h).request.offset (view h).taken
  -- complete is answered only once the taken frames cover the request, each byte once and nothing outside it,
  pub complete : next.answer ≡ Ok Answer.Done → Covers (view h).request.offset (end_of_request (view h).request) (view (es ++ h)).taken
  -- and then it is answered
  pub completes : (d : Data) → es ≡ came d ∷ [] → takes (view h) d ≡ true → end_of_data d ≡ end_of_request (view h).request → next.answer ≡ Ok Answer.Done
  pub asks : (x : Xfer) → es ≡ asked x ∷ [] → Asks k (view h) x
  -- an answer is taken only while one is due
  pub answers : Answered es → (view h).fate ≡ due
  pub received : (d : Data) → es ≡ came d ∷ [] → takes (view h) d ≡ true → Takes (view h) d
  pub late : (d : Data) → es ≡ came d ∷ [] → takes (view h) d ≡ false → Late s (view h) d next
  -- the write's tags are those in use by the history; a finished one has none
  pub tags : unfinished s.phase ≡ true → (t : ℕ) → (digit s.tags t ≡ 1) ↔ Among t (view h).busy
  pub freed : unfinished s.phase ≡ false → s.tags ≡ 0
  -- retries used are the failures, at most R, and failed is answered exactly at failure R+1
  pub used : unfinished s.phase ≡ true → s.used ≡ (view h).failures
  pub bounded : s.used ≤ s.resends
  pub fails : (next.answer ≡ Ok Answer.Fail) ↔ (((view h).failures ≡ (view h).request.resends) × ((view (es ++ h)).failures ≡ (view h).request.resends + 1))
  -- at most as many XFER_RDYs go as the request has ranges, and R
  pub few : length (view h).asks ≤ ranges (view h).request.count (view h).request.burst + (view h).request.resends
  -- the write is unfinished exactly if the history says so, and every call that is taken answers the history's word
  pub lives : unfinished s.phase ≡ underway h
  pub word : (e : Entry) → es ≡ e ∷ [] → next.answer ≡ word_by (view h) e
