-- What a board keeps of C's answers counts submits and last words as the port's own history does: an answer's number tells which word it is, and
-- the frame that C sees has the key of the request. Assumes nothing.
use Rattle.refusals.specs.declared.Refusal.{Refusal}
use Rattle.std.specs.Prelude.{Err, Ok, Result}
use Prim.Native.Nat.{ℕ, ◌+◌, ◌<◌}
use mathlib.Core.Bool.{Bool, true, false, cond, ◌&&◌}
use mathlib.Core.List.{List, [], ◌∷◌, ◌++◌, map}
use mathlib.Core.Path.{◌≡◌, refl, sym, ap, subst, ◌∙◌}
use lib.Dec.{leb}
use lib.ListN.{length, get_or}
use native.Mathlib.Omega.{arith}
use borrow.Author.Tests.{ne_eqb, lt-leb}
use Rattle.laws.specs.Sets.{bit}
use Rattle.refusals.specs.Refusals.{number_of}
use Rattle.refusals.proofs.Numbers.{range}
use Rattle.open_lent.specs.Lent as frames
use Rattle.port_parts.specs.Parts.{blank}
use Rattle.port_parts.specs.declared.Request.{Request}
use Rattle.port_rules.specs.Kept.{InRange}
use Rattle.port_rows.specs.Finds.{is_of}
use Rattle.port_rows.specs.declared.Key.{Key}
use Rattle.port_rows.specs.declared.Word.{Word}
use Rattle.port_rows.specs.declared.Word.TheVariants.{Taken, Submitted, Nothing, Send, Open, Close, StopArb, Retried, Waiting, CancelAcknowledged, Ended, NexusLoss, ConnectionLost, Status}
use Rattle.port.specs.Grounds.{HasKey, Absent}
use Rattle.port.specs.History.{State, Call, setup, Entry, stepped_by, is_refused, is_last, entries_of, history}
use Rattle.port_lent.specs.Numbers.{word_number}
use Rattle.port_lent.specs.Runs.{Lent, state_of, face_of, leave, run}
use Rattle.port_lent.proofs.Runs.{said, refusal_is, leaves, runs}
use Rattle.port_history.specs.Standing.{is_setup, is_submitted, submits, last_words}
use Rattle.port_history.specs.Runs.{Run, now, past}
use Rattle.port_history.proofs.Leaving.{counts_gone, counts_there}
use Rattle.claims.specs.PortLedger.{Noted, noted_by, ledger, is_submission, is_end, noted}

-- ---- an entry of the history as C sees it

abbrev seen : Entry → Noted
seen e = record { call = e.call; answer = word_number e.answer.word; frame = frames.shown e.answer.frame }

-- its number tells whether a word is Submitted, and whether it is a last one
pub record Told (w : Result Word Refusal) : Type 0 where
  pub begins : is_submission (word_number w) ≡ is_submitted w
  pub ends : is_end (word_number w) ≡ is_last w

told : (w : Result Word Refusal) → Told w
told (Ok Taken) = record { begins = refl; ends = refl }
told (Ok Submitted) = record { begins = refl; ends = refl }
told (Ok Nothing) = record { begins = refl; ends = refl }
told (Ok Send) = record { begins = refl; ends = refl }
told (Ok Open) = record { begins = refl; ends = refl }
told (Ok Close) = record { begins = refl; ends = refl }
told (Ok StopArb) = record { begins = refl; ends = refl }
told (Ok Retried) = record { begins = refl; ends = refl }
told (Ok Waiting) = record { begins = refl; ends = refl }
told (Ok CancelAcknowledged) = record { begins = refl; ends = refl }
told (Ok (Ended why)) = record { begins = refl; ends = refl }
told (Ok NexusLoss) = record { begins = refl; ends = refl }
told (Ok ConnectionLost) = record { begins = refl; ends = refl }
told (Ok (Status byte)) = record { begins = refl; ends = refl }
told (Err k) =
    let few = (range k).1 in
    let below : number_of k < 40 = omega (arith, few) in
    record {
      begins = ne_eqb (number_of k) 32 (λ e. omega (arith, few, e));
      ends = ap (λ (t : Bool). t && leb (number_of k) 44) (lt-leb 40 (number_of k) below);
    }

-- ---- the counts

submits_seen : (x : Key) (h : List Entry) → noted is_submission x (map seen h) ≡ submits x h
submits_seen x [] = refl
submits_seen x (e ∷ h) = λ i. cond (is_setup e.call) 0 (bit ((told e.answer.word).begins i && is_of e.answer.frame.head x) + submits_seen x h i)

ends_seen : (x : Key) (h : List Entry) → noted is_end x (map seen h) ≡ last_words x h
ends_seen x [] = refl
ends_seen x (e ∷ h) = λ i. cond (is_setup e.call) 0 (bit ((told e.answer.word).ends i && is_of e.answer.frame.head x) + ends_seen x h i)

-- ---- the ledger is the history as C sees it

noted_is : (c : Call) (s : Lent) (h : List Entry) → noted_by c s ++ map seen h ≡ map seen (entries_of c (state_of s) ++ h)
noted_is c s h = by (is_refused (said c s)) refl
  where
    one : Bool → List Noted
    one b = cond b [] (record { call = c; answer = (face_of c s).answer; frame = (face_of c s).frame } ∷ [])

    entry : Bool → List Entry
    entry b = cond b [] (record { call = c; answer = (stepped_by c (state_of s)).answer } ∷ [])

    by : (b : Bool) → is_refused (said c s) ≡ b → noted_by c s ++ map seen h ≡ map seen (entries_of c (state_of s) ++ h)
    by true e = ap (λ b. one b ++ map seen h) (refusal_is c s ∙ e) ∙ sym (ap (λ b. map seen (entry b ++ h)) e)
    by false e = ap (λ b. one b ++ map seen h) (refusal_is c s ∙ e) ∙ sym (ap (λ b. map seen (entry b ++ h)) e)

ledger_is : (cs : List Call) (s : Lent) (h : List Entry) → ledger cs s (map seen h) ≡ map seen (history cs (state_of s) h)
ledger_is [] s h = refl
ledger_is (c ∷ cs) s h =
    ap (ledger cs (leave c s)) (noted_is c s h)
    ∙ ledger_is cs (leave c s) (entries_of c (state_of s) ++ h)
    ∙ ap (λ (t : State). map seen (history cs t (entries_of c (state_of s) ++ h))) (leaves c s)

-- ---- any calls from a setup on

-- a list of 32 records, whatever they hold, a setup in range, and calls behind it, refused ones and later setups among them
pub record FaceRun : Type 0 where
  pub lent : Lent
  pub sized : length lent.list ≡ 32
  pub count : ℕ
  pub loss : ℕ
  pub range : InRange count loss
  pub calls : List Call

abbrev pub kept : FaceRun → List Noted
kept r = ledger (setup r.count r.loss ∷ r.calls) r.lent []

abbrev pub records : FaceRun → List Request
records r = (run (setup r.count r.loss ∷ r.calls) r.lent).list

-- 01 PORT.11
pub record PortLedger : Type 0 where
  -- by C's answers there are as many last words as submits of a key, and one fewer while the list has a request with it
  pub as_many : (r : FaceRun) (x : Key) → Absent (records r) x → noted is_submission x (kept r) ≡ noted is_end x (kept r)
  pub one_fewer : (r : FaceRun) (x : Key) (slot : ℕ) → slot < 32 → HasKey (get_or (records r) slot blank) x → noted is_submission x (kept r) ≡ noted is_end x (kept r) + 1

abbrev machine : FaceRun → Run
machine r = record { lent = state_of r.lent; sized = r.sized; count = r.count; loss = r.loss; range = r.range; calls = r.calls }

module _ (r : FaceRun) (x : Key) where
  abbrev all : List Call
  all = setup r.count r.loss ∷ r.calls

  same_list : records r ≡ (now (machine r)).list
  same_list = ap (λ (t : State). t.list) (runs all r.lent)

  begun : noted is_submission x (kept r) ≡ submits x (past (machine r))
  begun = ap (noted is_submission x) (ledger_is all r.lent []) ∙ submits_seen x (past (machine r))

  over : noted is_end x (kept r) ≡ last_words x (past (machine r))
  over = ap (noted is_end x) (ledger_is all r.lent []) ∙ ends_seen x (past (machine r))

pub port_ledger : PortLedger
port_ledger = record {
  as_many = λ r x none. begun r x ∙ counts_gone (machine r) x (subst (λ (l : List Request). Absent l x) (same_list r x) none) ∙ sym (over r x);
  one_fewer = λ r x slot less has.
      begun r x
      ∙ counts_there (machine r) x slot less (subst (λ (l : List Request). HasKey (get_or l slot blank) x) (same_list r x) has)
      ∙ ap (λ (n : ℕ). n + 1) (sym (over r x));
}
