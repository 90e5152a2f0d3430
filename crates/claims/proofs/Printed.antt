-- Demand 3 over what `readrun` reads and prints alone, sentence by sentence: B and N are those of the START line as typed, a frame lies
-- between the read offsets of two lines, the answers are the lines of input that were not refused, and the balance point is a column.
-- Assumes nothing.
use Rattle.std.specs.Prelude.{Ok}
use Prim.Native.Nat.{ℕ, ◌+◌, ◌≤◌, ◌<◌}
use mathlib.Core.Bool.{true, false}
use mathlib.Core.List.{List, [], ◌∷◌, ◌++◌}
use mathlib.Core.Path.{◌≡◌, sym, ◌∙◌}
use lib.ListN.{length}
use Rattle.transfer.specs.History.{Frame, View, sent, is_refused, view, Covered}
use Rattle.transfer.specs.declared.Answer.{Answer}
use Rattle.runs.specs.Turns.{Turn, turns_of, Read}
use Rattle.runs.specs.Ledger.{Ledger, blank_ledger, goes_on, adds, entered, words_for, Among, is_drain, Holds, Leads}
use Rattle.runs.proofs.Shown.{one_reading}
use Rattle.runs.proofs.Ledger.{read_out, ledger_holds, ledger_leads}

-- a place in a run: the lines read and printed before it, and those behind it
pub record Place : Type 0 where
  pub input : List ℕ
  pub past : List Turn
  pub rest : List Turn
  pub read : Read input (past ++ rest)

-- the ledger of the lines before it, and what its history says of the frames
abbrev ledger : Place → Ledger
ledger p = entered blank_ledger p.past

abbrev seen : Place → View
seen p = view (ledger p).history

-- 01 TEXT.2 01 READ.3 01 READ.7
pub record Printed : Type 0 where
  -- every run has such lines, and leaves no choice of them
  pub some : (input : List ℕ) → (ts : List Turn) × Read input ts
  pub one : (input : List ℕ) (ts us : List Turn) → Read input ts → Read input us → ts ≡ us
  -- "the balance point lies within the request;
  pub within : (p : Place) → ((ledger p).offset ≤ (ledger p).balance) × ((ledger p).balance ≤ (ledger p).offset + (ledger p).count)
  -- every requested byte before it was in a frame whose ACK was reported, by the history of frames and answers;
  pub sure : (p : Place) (x : ℕ) → (ledger p).offset ≤ x → x < (ledger p).balance → Covered x (seen p).acked
  -- each resend begins at the balance point;
  pub resend : (p : Place) (t : Turn) (more : List Turn) (f : Frame) → p.rest ≡ t ∷ more → adds (ledger p) t ≡ sent f ∷ [] → (seen p).attempt ≡ [] → f.at ≡ (ledger p).balance
  -- if frames were sent in the present attempt and all were ACKed, it stands at the end of the last;
  pub settled : (p : Place) (f : Frame) (fs : List Frame) → (seen p).attempt ≡ f ∷ fs → (seen p).good ≡ (seen p).attempt → (ledger p).balance ≡ f.at + f.len
  -- "delivered" is answered only once every requested byte was ACKed;
  pub delivers : (p : Place) (t : Turn) (more : List Turn) → p.rest ≡ t ∷ more → t.shown.word ≡ Ok Answer.Done → (x : ℕ) → (ledger p).offset ≤ x → x < (ledger p).offset + (ledger p).count → Covered x (view (adds (ledger p) t ++ (ledger p).history)).acked
  -- at most 64 frames are unanswered.
  pub few : (p : Place) → length (seen p).waiting ≤ 64
  -- Frames and answers are never matched by a short number."
  pub counted : (p : Place) → (ledger p).going ≡ true → (ledger p).unanswered ≡ length (seen p).waiting
  pub over : (p : Place) → (ledger p).going ≡ false → (ledger p).unanswered ≡ 0
  -- 01 TEXT.2
  -- a line that is not refused has one of its command's words
  pub words : (p : Place) (t : Turn) (more : List Turn) → p.rest ≡ t ∷ more → is_refused t.shown.word ≡ false → Among t.shown.word (words_for t.said)
  -- and drain exactly if the transfer goes on and a NAK was reported in the present attempt
  pub drains : (p : Place) (t : Turn) (more : List Turn) → p.rest ≡ t ∷ more → is_refused t.shown.word ≡ false → goes_on t.shown.word (ledger p).going ≡ true → is_drain t.shown.word ≡ (view (adds (ledger p) t ++ (ledger p).history)).nak

all : (p : Place) → Holds (ledger p)
all p = ledger_holds p.input p.past p.rest p.read

here : (p : Place) (t : Turn) (more : List Turn) → p.rest ≡ t ∷ more → Leads (ledger p) t
here p = ledger_leads p.input p.past p.rest p.read

pub printed : Printed
printed = record {
  some = λ input. (turns_of input, read_out input);
  one = λ input ts us r q. one_reading ts us (r.said ∙ sym q.said) (r.printed ∙ sym q.printed);
  within = λ p. (all p).within;
  sure = λ p. (all p).sure;
  resend = λ p t more f e. (here p t more e).resend f;
  settled = λ p. (all p).settled;
  delivers = λ p t more e. (here p t more e).delivers;
  few = λ p. (all p).few;
  counted = λ p. (all p).counted;
  over = λ p. (all p).over;
  words = λ p t more e. (here p t more e).says;
  drains = λ p t more e. (here p t more e).drains;
}
