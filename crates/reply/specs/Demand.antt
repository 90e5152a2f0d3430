-- What is asked of a reply, sentence by sentence: of a reply s with the history h, and of one call more, answered `next`, that adds the
-- entries es. F is what the history holds of a RESPONSE, and `bit` its retransmit bit. Assumes nothing.
use Rattle.std.specs.Prelude.{ℕ, ◌+◌, ◌≤◌, true, List, [], ◌∷◌, ◌++◌, ◌⊎◌, ◌↔◌, ◌≡◌, length, Ok}
use Rattle.laws.specs.Names.{flag}
use Rattle.reply.specs.Steps.{unfinished}
use Rattle.reply.specs.History.{EntryOf, sent, due, good, failed, view, allowed, last_failed, failures, Latest, is_answer}
use Rattle.reply.specs.Words.{underway, word_by}
use Rattle.reply.specs.declared.Reply.{Reply}
use Rattle.reply.specs.declared.Stepped.{Stepped}
use Rattle.reply.specs.declared.Answer.{Answer}
use Rattle.reply.specs.declared.Phase.{Phase}

pub record Replies {F : Type 0} (bit : F → ℕ) (s : Reply) (h es : List (EntryOf F)) (next : Stepped) : Type 0 where
  -- delivered only if the latest RESPONSE's ACK was reported;
  pub delivered : next.answer ≡ Ok Answer.Done → Latest good (view (es ++ h))
  pub sure : s.phase ≡ Phase.Done → Latest good (view h)
  -- retransmit exactly if the one before it since START failed;
  pub retransmit : (f : F) → es ≡ sent f ∷ [] → bit f ≡ flag (last_failed (view h))
  -- none goes while the one before it is due or good;
  pub goes : (f : F) → es ≡ sent f ∷ [] → (view h ≡ []) ⊎ Latest failed (view h)
  -- at most R+1 go;
  pub few : length (view h) ≤ allowed h + 1
  -- an answer is taken only while one is due;
  pub awaited : (e : EntryOf F) → es ≡ e ∷ [] → is_answer e ≡ true → Latest due (view h)
  -- R is START's, and while unfinished retries used is the number of failures, at most R;
  pub asked : s.resends ≡ allowed h
  pub used : unfinished s.phase ≡ true → (s.used ≡ failures (view h)) × (failures (view h) ≤ allowed h)
  -- Fail exactly at failure R+1;
  pub fails : (next.answer ≡ Ok Answer.Fail) ↔ ((failures (view h) ≡ allowed h) × (failures (view (es ++ h)) ≡ allowed h + 1))
  -- the reply is unfinished exactly if the history says so, and every call that is taken answers the history's word
  pub lives : unfinished s.phase ≡ underway h
  pub word : (e : EntryOf F) → es ≡ e ∷ [] → next.answer ≡ word_by h e
