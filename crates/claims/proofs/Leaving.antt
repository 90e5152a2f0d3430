-- Each accepted submit of the port leaves by one last word, and is present until then, over any calls from a setup on, refused calls and
-- later setups among them. What was submitted and what ended is read from the calls that were taken and their answers alone. A state that breaks
-- its rules is refused, and no call leaves one, so that nothing is asked of the rules. Assumes nothing.
use Prim.Native.Nat.{ℕ, ◌+◌, ◌<◌}
use mathlib.Core.Bool.{true, false, ◌||◌}
use mathlib.Core.List.{List, []}
use mathlib.Core.Logic.{◌↔◌}
use mathlib.Core.Path.{◌≡◌}
use lib.ListN.{length, get_or}
use Rattle.open_frame.specs.declared.Head.{Head}
use Rattle.port_parts.specs.Parts.{blank}
use Rattle.port_rules.specs.Kept.{Free}
use Rattle.port_rows.specs.Finds.{is_of}
use Rattle.port_rows.specs.declared.Answer.{Answer}
use Rattle.port_rows.specs.declared.Key.{Key}
use Rattle.port_rows.specs.declared.Submission.{Submission}
use Rattle.port_rows.specs.declared.Withdrawn.{Withdrawn}
use Rattle.port.specs.Grounds.{HasKey, Absent}
use Rattle.port.specs.History.{State, Call, submit, cancel, stepped_by, is_refused, is_last, leave, run, entries_of, history}
use Rattle.port_history.specs.Standing.{is_setup, is_submitted, submits, last_words, gone, there, wrong, standing, silent}
use Rattle.port_history.specs.Turns.{keyed, Given, Comes, Leaves, Rests, Holds, Zeros}
use Rattle.port_history.specs.Runs.{Run, now, past}
use Rattle.port_history.specs.Ends.{Ends}
use Rattle.port_history.specs.Marks.{is_cancel, is_acknowledged, is_going, since, cancels, closes}
use Rattle.port_history.proofs.Givens.{submits_given, cancels_given}
use Rattle.port_history.proofs.Turns.{comes_when, leaves_when, rests_else, refused_nothing}
use Rattle.port_history.proofs.Ends.{ends_from}
use Rattle.port_history.proofs.Since.{acknowledged, withheld, closed_once}
use Rattle.port_history.proofs.Leaving.{tells, alternates, there_exactly, gone_exactly, counts_gone, counts_there, until}

-- what the call c answers behind some calls
abbrev said : Run → Call → Answer
said r c = (stepped_by c (now r)).answer

pub record Leaving : Type 0 where
  -- one call of any lent state; a port has eight phys. 01 PORT.11
  -- Submitted: a request comes into the lowest free slot, no request had its key, and the answer names its slot and head
  pub comes : (c : Call) (s : State) → length s.port.phys ≡ 8 → is_submitted (stepped_by c s).answer.word ≡ true → Comes s.list (leave c s).list (stepped_by c s).answer
  -- 01 PORT.12
  -- a submit that is taken is Submitted, and the request that comes has the head and the submission time that it was given
  pub gives : (x : Submission) (s : State) → is_refused (stepped_by (submit x) s).answer.word ≡ false → Given x (stepped_by (submit x) s).answer (get_or (leave (submit x) s).list (stepped_by (submit x) s).answer.slot blank)
  -- and a cancel that is taken answers about a request with the key that it was given
  pub withdraws : (x : Withdrawn) (s : State) → is_refused (stepped_by (cancel x) s).answer.word ≡ false → is_of (stepped_by (cancel x) s).answer.frame.head x.key ≡ true
  -- a last word: the request that it names by slot and head was present and is all zeros
  pub leaves : (c : Call) (s : State) → length s.port.phys ≡ 8 → is_last (stepped_by c s).answer.word ≡ true → Leaves s.list (leave c s).list (stepped_by c s).answer
  -- any other word but a setup's: no request comes and none leaves
  pub rests : (c : Call) (s : State) → length s.port.phys ≡ 8 → is_setup c ≡ false → is_submitted (stepped_by c s).answer.word ≡ false → is_last (stepped_by c s).answer.word ≡ false → Rests s.list (leave c s).list (stepped_by c s).answer
  -- a refused call changes nothing and is not in the history
  pub refused : (c : Call) (s : State) → is_refused (stepped_by c s).answer.word ≡ true → (leave c s ≡ s) × (entries_of c s ≡ [])
  -- any calls, for each key: submits and last words alternate, a submit first, and every answer between them names what was submitted
  pub alternates : (r : Run) (x : Key) → standing x (past r) ≡ wrong → ⊥
  -- a request with the key is in the list exactly between them, by that slot and head
  pub present : (r : Run) (x : Key) (slot : ℕ) (head : Head) → (standing x (past r) ≡ there slot head) ↔ Holds x (there slot head) (now r).list
  pub absent : (r : Run) (x : Key) → (standing x (past r) ≡ gone) ↔ Absent (now r).list x
  -- so there are as many last words as accepted submits, and one fewer while a request with the key is present
  pub as_many : (r : Run) (x : Key) → Absent (now r).list x → submits x (past r) ≡ last_words x (past r)
  pub one_fewer : (r : Run) (x : Key) (slot : ℕ) → slot < 32 → HasKey (get_or (now r).list slot blank) x → submits x (past r) ≡ last_words x (past r) + 1
  -- an accepted submit is present, by the slot and head of its Submitted, whatever calls follow that say no last word on it and set up
  -- nothing anew
  pub until : (r : Run) (c : Call) → is_submitted (said r c).word ≡ true → (ds : List Call) → silent (keyed (said r c).frame.head) (history ds (leave c (now r)) []) ≡ true → Holds (keyed (said r c).frame.head) (there (said r c).slot (said r c).frame.head) (run ds (leave c (now r))).list
  -- 01 PORT.11
  -- a free record is all zeros
  pub zeros : (r : Run) → Zeros (now r).list
  -- 01 PORT.23
  -- its last word is Cancel Acknowledged exactly if a Cancel of it was taken since its submit, this call or an earlier one
  pub acknowledged : (r : Run) (c : Call) → is_last (said r c).word ≡ true → is_acknowledged (said r c).word ≡ is_cancel c || since cancels (keyed (said r c).frame.head) (past r)
  -- and from then on neither its frame nor an open for it goes
  pub withheld : (r : Run) (c : Call) → is_going (said r c).word ≡ true → since cancels (keyed (said r c).frame.head) (past r) ≡ false
  -- 01 PORT.13
  -- choose closes a phy for it at most once
  pub closes_once : (r : Run) (c : Call) → closes (record { call = c; answer = said r c }) ≡ true → since closes (keyed (said r c).frame.head) (past r) ≡ false
  -- a request that is present can leave: one call says a last word on it, or one behind another that is no setup
  pub ends : (r : Run) (slot : ℕ) → slot < 32 → (Free (get_or (now r).list slot blank) → ⊥) → Ends (now r) slot

pub leaving : Leaving
leaving = record {
  comes = comes_when;
  gives = submits_given;
  withdraws = cancels_given;
  leaves = leaves_when;
  rests = rests_else;
  refused = refused_nothing;
  alternates = alternates;
  present = there_exactly;
  absent = gone_exactly;
  as_many = counts_gone;
  one_fewer = counts_there;
  until = until;
  zeros = λ r. (tells r).zeros;
  acknowledged = acknowledged;
  withheld = withheld;
  closes_once = closed_once;
  ends = ends_from;
}
