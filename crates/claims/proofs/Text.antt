-- Demand 2, text: what `readrun`'s calls write, whatever the blocks that come in and the buffers that go out, is document 01's output,
-- since each call takes up what the last one carried over; a line says a command exactly if it is that command written; and a number
-- is read as it is written. Assumes nothing.
use Rattle.std.specs.Prelude.{Ok, Some, None, Option}
use Prim.Native.Nat.{ℕ, suc, ◌+◌, ◌≤◌, ◌<◌}
use mathlib.Core.Bool.{Bool, cond}
use mathlib.Core.List.{List, [], ◌++◌, map}
use mathlib.Core.Path.{◌≡◌, refl, sym, ap, ◌∙◌}
use native.Mathlib.Omega.{arith}
use borrow.Author.Tests.{lt-ltb}
use lib.ListN.{length, take, drop, replicate, length-drop}
use lib.Seq.{take-append_seam}
use Rattle.laws.proofs.Lists.{front_again}
use Rattle.lines.specs.Numbers.{read_number, decimal}
use Rattle.lines.proofs.Numbers.{read_written, written_read}
use Rattle.refusals.specs.declared.Refusal.{Refusal}
use Rattle.transfer.specs.Steps.{limit, refused}
use Rattle.transfer.specs.Calls.{Call, step_of}
use Rattle.transfer.specs.declared.Answer.{Answer}
use Rattle.transfer.specs.declared.Transfer.{Transfer}
use Rattle.runs.specs.Commands.{read_line, written, Writable, obeyed}
use Rattle.runs.specs.Rows.{word_of, row_of, longest_row}
use Rattle.runs.specs.Feed.{Carry, next_line, carry_of, run_of, fresh, after, said, takes, taken_of, closing, Feeds}
use Rattle.runs.specs.Output.{output_of}
use Rattle.runs.specs.Typed.{typed_lines, typed_commands, typed_calls, other_lines, typed_words, typed_answers, typed_row}
use Rattle.runs.specs.declared.Command.{Command}
use Rattle.runs.specs.declared.Run.{Run}
use Rattle.runs.specs.declared.Fed.{Fed}
use Rattle.runs.proofs.Commands.{long}
use Rattle.runs.proofs.Inverse.{said_is, is_said}
use Rattle.runs.proofs.Carry.{after_append, said_append}
use Rattle.runs.proofs.Output.{whole, carried, all_closed, blocks, blocks_said, feed_within, feed_moves, feed_stops}
use Rattle.runs.proofs.Facts as facts
use Rattle.claims.proofs.Calls.{ReadNumber, Fresh, Feed, Close}
use Rattle.claims.proofs.Named.{digits, most, feed_run, feed_block, feed_lent, feed_left, close_run, close_lent, close_left}

-- some calls of `feed`, each with the run that the last one left, have taken this input, written these words and left this run
pub data Ran : List ℕ → List ℕ → Run → Type 0 where
  begun : (c : Fresh) → Ran [] [] c.answer
  fed : {input words : List ℕ} {run : Run} → Ran input words run → (c : Feed) → feed_run c ≡ run → Ran (input ++ take c.answer.used (feed_block c)) (words ++ take c.answer.wrote (feed_left c)) c.answer.run

-- n calls of `feed`, each given what the last one left of a block, and room for a row, which has at most 71 bytes
pub data Loop : List ℕ → ℕ → Type 0 where
  stop : {block : List ℕ} → Loop block 0
  turn : {block : List ℕ} {n : ℕ} (c : Feed) → feed_block c ≡ block → 71 ≤ length (feed_lent c) → 0 < length block → Loop (drop c.answer.used block) n → Loop block (suc n)

-- what a run says of some bytes
abbrev words_of : Run → List ℕ → List ℕ
words_of run s = said (carry_of run) s

-- 01 TEXT.1 01 TEXT.2 01 TEXT.3 01 TEXT.4 01 TEXT.5
pub record Text : Type 0 where
  pub prints : {input words : List ℕ} {run : Run} → Ran input words run → (c : Close) → close_run c ≡ run → longest_row ≤ length (close_lent c) → words ++ take c.answer.wrote (close_left c) ≡ output_of input
  -- feeding s and then t is feeding s ++ t
  pub parts : (run : Run) (s t : List ℕ) →
      (run_of (after (carry_of (run_of (after (carry_of run) s))) t) ≡ run_of (after (carry_of run) (s ++ t)))
      × (words_of run s ++ words_of (run_of (after (carry_of run) s)) t ≡ words_of run (s ++ t))
  -- with room for a row `feed` takes some of what it is given
  pub moves : (c : Feed) → 71 ≤ length (feed_lent c) → 0 < length (feed_block c) → (0 < c.answer.used) × (c.answer.used ≤ length (feed_block c))
  -- so that a loop that feeds what is left ends
  pub ends : (block : List ℕ) (n : ℕ) → Loop block n → n ≤ length block
  -- and it leaves something only where less room is left
  pub stops : (c : Feed) → c.answer.used < length (feed_block c) → length (feed_lent c) < c.answer.wrote + 71
  -- lines are numbered one by one, up to the last number of 64 bits
  pub numbers : (n : ℕ) → n < 18446744073709551615 → next_line n ≡ n + 1
  pub says : (s : List ℕ) (c : Option Command) → (c ≡ None → ⊥) → read_line s ≡ c → s ≡ written c
  pub said : (c : Option Command) → Writable c → read_line (written c) ≡ c
  pub reads : (c : ReadNumber) (n : ℕ) → digits c ≡ decimal n → n ≤ most c → c.answer ≡ Some n
  pub writes : (c : ReadNumber) (n : ℕ) → c.answer ≡ Some n → (decimal n ≡ digits c) × (n ≤ most c)
  -- 01 TEXT.1
  -- each line, typed, says its command, and the command does what its call does
  pub commands : map read_line typed_lines ≡ typed_commands
  pub calls : (s : Transfer) → map (λ (c : Option Command). obeyed c s) typed_commands ≡ map (λ (c : Call). step_of limit c s) typed_calls
  -- 01 TEXT.2
  -- each answer has its word, typed, and a row its columns in their order
  pub words : map word_of typed_answers ≡ typed_words
  pub columns : row_of 7 (Ok Answer.Done) 11 12 13 14 ≡ typed_row
  -- 01 TEXT.4 01 TEXT.5
  -- other lines, typed, and every line over 255 bytes, are refused with 2
  pub others : map read_line other_lines ≡ replicate 13 None
  pub long : (s : List ℕ) → 255 < length s → read_line s ≡ None
  pub bad : (s : Transfer) → obeyed None s ≡ refused s Refusal.Unlisted

-- what one call does, by its promise
module _ {run : Run} {block out out' : List ℕ} {r : Fed} (f : Feeds run block out r out') where
  abbrev taken : List ℕ
  taken = taken_of run block out

  took : take r.used block ≡ taken
  took = ap (λ (x : Fed). take x.used block) f.answer ∙ front_again (takes (length out) (carry_of run) block) block

  wrote : take r.wrote out' ≡ said (carry_of run) taken
  wrote = (λ i. take (f.answer i).wrote (f.bytes i)) ∙ take-append_seam (said (carry_of run) taken) (drop (length (said (carry_of run) taken)) out)

  ran : r.run ≡ run_of (after (carry_of run) taken)
  ran = ap (λ (x : Fed). x.run) f.answer

-- how a run stands
stands : {input words : List ℕ} {run : Run} → Ran input words run → (run ≡ run_of (after fresh input)) × (words ≡ said fresh input)
stands (begun c) = (c.met, refl)
stands (fed {input} {words} {run} r c e) =
    let at = stands r in
    let carry : carry_of (feed_run c) ≡ after fresh input = ap carry_of (e ∙ at.0) ∙ carried (after fresh input) in
    let t = taken c.met in (
      ran c.met
          ∙ ap run_of (ap (λ (d : Carry). after d t) carry ∙ sym (after_append fresh input t) ∙ ap (λ (s : List ℕ). after fresh (input ++ s)) (sym (took c.met))),
      (λ i. at.1 i ++ (wrote c.met ∙ ap (λ (d : Carry). said d t) carry) i)
          ∙ sym (said_append fresh input t)
          ∙ ap (λ (s : List ℕ). said fresh (input ++ s)) (sym (took c.met)),
    )

-- each call of a loop takes a byte at least
few_calls : {block : List ℕ} {n : ℕ} → Loop block n → n ≤ length block
few_calls stop = omega arith
few_calls (turn {block} {n} c is room some left) =
    let same : length (feed_block c) ≡ length block = ap length is in
    let moved = feed_moves c.met room (omega arith) in
    omega (arith, few_calls left, length-drop c.answer.used block)

pub text : Text
text = record {
  prints = λ {input} {words} {run} r c e h.
      let at = stands r in
      let is : close_run c ≡ run_of (after fresh input) = e ∙ at.0 in
      let all = all_closed (length (close_lent c)) (carry_of (close_run c)) (close_run c).len h in
      (λ i. at.1 i ++ (wrote c.met ∙ ap (said (carry_of (close_run c))) all) i)
      ∙ ap (λ (x : Run). said fresh input ++ said (carry_of x) (closing x.len)) is
      ∙ ap (λ (d : Carry). said fresh input ++ said d (closing (length (after fresh input).begun))) (carried (after fresh input))
      ∙ whole input;
  parts = λ run s t. (blocks run s t, blocks_said run s t);
  moves = λ c room some. (feed_moves c.met room some, feed_within c.met);
  ends = λ block n f. few_calls f;
  stops = λ c left. feed_stops c.met left;
  numbers = λ n h. ap (λ (t : Bool). cond t (n + 1) n) (lt-ltb n 18446744073709551615 h);
  says = λ s c fine e. said_is c fine s e;
  said = is_said;
  reads = λ c n e h. c.met ∙ ap (read_number (most c)) e ∙ read_written (most c) n h;
  writes = λ c n e. written_read (most c) (digits c) n (sym c.met ∙ e);
  commands = facts.commands;
  calls = facts.calls;
  words = facts.words;
  columns = facts.columns;
  others = facts.others;
  long = long;
  bad = facts.bad;
}
