-- What is asked of a reply, sentence by sentence, in numbers that C sees: of a state s with the history h, and of one call more, answered `next`,
-- that adds the entries es. F is what the history holds of a RESPONSE, and `bit` its retransmit bit. Assumes nothing.
use Rattle.std.specs.Prelude.{ℕ, ◌+◌, ◌≤◌, true, List, [], ◌∷◌, ◌++◌, ◌⊎◌, ◌↔◌, ◌≡◌, length}
use Rattle.laws.specs.Names.{flag}
use Rattle.reply.specs.History.{EntryOf, sent, due, good, failed, view, allowed, last_failed, failures, Latest, is_answer}
use Rattle.reply.specs.Words.{underway, word_by}
use Rattle.reply_lent.specs.Numbers.{answer_number}
use Rattle.reply_lent.specs.declared.State.{State}
use Rattle.reply_lent.specs.declared.Step.{Step}

-- Ask or Wait
abbrev pub Unfinished : State → Type 0
Unfinished s = (s.phase ≡ 1) ⊎ (s.phase ≡ 2)

pub record RepliesSeen {F : Type 0} (bit : F → ℕ) (s : State) (h es : List (EntryOf F)) (next : Step) : Type 0 where
  -- delivered only if the latest RESPONSE's ACK was reported;
  pub delivered : next.answer ≡ 19 → Latest good (view (es ++ h))
  pub sure : s.phase ≡ 3 → Latest good (view h)
  -- retransmit exactly if the one before it since START failed;
  pub retransmit : (f : F) → es ≡ sent f ∷ [] → bit f ≡ flag (last_failed (view h))
  -- none goes while the one before it is due or good;
  pub goes : (f : F) → es ≡ sent f ∷ [] → (view h ≡ []) ⊎ Latest failed (view h)
  -- at most R+1 go;
  pub few : length (view h) ≤ allowed h + 1
  -- an answer is taken only while one is due;
  pub awaited : (e : EntryOf F) → es ≡ e ∷ [] → is_answer e ≡ true → Latest due (view h)
  -- R is START's, and while unfinished retries used is the number of failures, at most R;
  pub asked : s.resends ≡ allowed h
  pub used : Unfinished s → (s.used ≡ failures (view h)) × (failures (view h) ≤ allowed h)
  -- Fail exactly at failure R+1;
  pub fails : (next.answer ≡ 20) ↔ ((failures (view h) ≡ allowed h) × (failures (view (es ++ h)) ≡ allowed h + 1))
  -- the reply is unfinished exactly if the history says so, and every call that is taken answers the history's word
  pub lives : Unfinished s ↔ (underway h ≡ true)
  pub word : (e : EntryOf F) → es ≡ e ∷ [] → next.answer ≡ answer_number (word_by h e)
