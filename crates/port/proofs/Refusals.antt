-- A call of the port is refused exactly by the first of its grounds that holds, since each of its tests decides one ground: the test of
-- the lent state says its rules, a scan finds a request exactly if there is one, and where the rules are kept no two share a key. Assumes nothing.
use Rattle.std.specs.Prelude.{Err, Ok, Result}
use Prim.Native.Nat.{ℕ}
use mathlib.Core.Path.{◌≡◌, refl, sym, ap, ◌∙◌}
use mathlib.Core.Bool.{Bool, true, false, not, cond}
use mathlib.Core.List.{List, [], ◌∷◌}
use mathlib.Core.Logic.{◌↔◌}
use lib.Dec.{eqb}
use lib.ListN.{length, get_or}
use Rattle.laws.proofs.Bools.{never}
use Rattle.refusals.specs.Causes.{Cause, ◌when◌, refuse, First}
use Rattle.refusals.specs.declared.Refusal.{Refusal}
use Rattle.refusals.proofs.Causes as causes
use Rattle.port_parts.specs.Parts.{blank, is_waiting, is_opening, names}
use Rattle.port_parts.specs.Reasons.{reason_of, is_retried}
use Rattle.port_parts.specs.declared.Pick.{Pick}
use Rattle.port_parts.specs.declared.Reason.{Reason}
use Rattle.port_parts.specs.declared.Port.{Port}
use Rattle.port_parts.specs.declared.Request.{Request}
use Rattle.port_rows.specs.Finds.{room_of, slot_of}
use Rattle.port_rows.specs.Calls.{phy_at, is_cancelled, closing_phy, sent, opening, closing, idle, failed_word, is_nexus_lost, submitted, cancelled, chosen, connected, failed, framed, closed_done, disabled_done, setup_core, submit_core, cancel_core, choose_core, opened_core, open_failed_core, frame_status_core, closed_core, enable_core, disable_core}
use Rattle.port_rows.specs.Changed.{marked}
use Rattle.port_rows.specs.Answers.{with_phy, fresh, unconnected_phy, no_loss, unnamed, refused_by, said, stored, ended}
use Rattle.port_rows.specs.Answers as answers
use Rattle.port_rows.specs.declared.Done.{Done}
use Rattle.port_rows.specs.declared.Word.{Word}
use Rattle.port_rows.specs.declared.Word.TheVariants.{Taken, Submitted, Send, Close, StopArb, Retried, Waiting, CancelAcknowledged, Ended, NexusLoss, ConnectionLost, Status}
use Rattle.port.specs.History.{State, Call, done_of, short_of, stepped_by, is_refused, setup, submit, cancel, choose, opened, open_failed, frame_status, closed, enable, disable}
use Rattle.port.specs.Calls.{answered, short, on_phy, pick_at}
use Rattle.port.specs.Grounds.{grounds_of}
use Rattle.port.proofs.Decides.{causes_of, tested}

-- ---- the answer is the first cause's refusal

-- what a call leaves where it is not refused
unfoldable pub taken_of : Call → State → Done
taken_of (setup count loss) s = unnamed (fresh count loss) (Ok Taken) true
taken_of (submit x) s =
    stored (answers.later s.port x.now) (said (Ok Submitted) (room_of s.list x.head).free 8 (submitted (room_of s.list x.head) x)) (submitted (room_of s.list x.head) x) no_loss
taken_of (cancel x) s = cancelled s.port (get_or s.list (slot_of s.list x.key) blank) (slot_of s.list x.key) x.now
taken_of (choose x) s = chosen s.port (get_or s.list (pick_at s.list s.port x.now).slot blank) (pick_at s.list s.port x.now) x.now
taken_of (opened x) s = connected s.port (phy_at s.port x.phy) (on_phy s.list s.port x.phy) x
taken_of (open_failed x) s = failed s.port (phy_at s.port x.phy) (on_phy s.list s.port x.phy) (reason_of x.why) x.phy x.now
taken_of (frame_status x) s = framed s.port (phy_at s.port x.phy) (on_phy s.list s.port x.phy) x
taken_of (closed x) s = closed_done s.port (phy_at s.port x.phy) (on_phy s.list s.port x.phy) x
taken_of (enable x) s = ended (with_phy s.port x.phy unconnected_phy x.now) (said (Ok Taken) 32 x.phy (on_phy s.list s.port x.phy))
taken_of (disable x) s = disabled_done s.port (phy_at s.port x.phy) (on_phy s.list s.port x.phy) x

abbrev goes_on : Call → State → Result Word Refusal
goes_on c s = (taken_of c s).answer.word

-- the causes behind the first, which is the list's length
abbrev pub behind : List Cause → List Cause
behind [] = []
behind (c ∷ cs) = cs

pub length_first : (c : Call) (s : State) → causes_of c s ≡ (Refusal.Length when not (eqb (length s.list) 32)) ∷ behind (causes_of c s)
unfolding causes_of
length_first (setup count loss) s = refl
length_first (submit x) s = refl
length_first (cancel x) s = refl
length_first (choose x) s = refl
length_first (opened x) s = refl
length_first (open_failed x) s = refl
length_first (frame_status x) s = refl
length_first (closed x) s = refl
length_first (enable x) s = refl
length_first (disable x) s = refl

-- a refusal gives the port that it was lent; a setup was lent none
pub done_is : (c : Call) (s : State) → done_of c s ≡ refuse (refused_by (short_of c s).port) (behind (causes_of c s)) (taken_of c s)
unfolding done_of causes_of taken_of setup_core submit_core cancel_core choose_core opened_core open_failed_core frame_status_core closed_core enable_core disable_core
done_is (setup count loss) s = refl
done_is (submit x) s = refl
done_is (cancel x) s = refl
done_is (choose x) s = refl
done_is (opened x) s = refl
done_is (open_failed x) s = refl
done_is (frame_status x) s = refl
done_is (closed x) s = refl
done_is (enable x) s = refl
done_is (disable x) s = refl

-- a list of another length is refused
pub short_is : (c : Call) (s : State) → short_of c s ≡ short (short_of c s).port
short_is (setup count loss) s = refl
short_is (submit x) s = refl
short_is (cancel x) s = refl
short_is (choose x) s = refl
short_is (opened x) s = refl
short_is (open_failed x) s = refl
short_is (frame_status x) s = refl
short_is (closed x) s = refl
short_is (enable x) s = refl
short_is (disable x) s = refl

-- the length comes first, and then the causes of the core
by_length : (b : Bool) (d : Done) (p : Port) → (cond b (answered d) (short p)).answer.word ≡ cond (not b) (Err Refusal.Length) d.answer.word
by_length true d p = refl
by_length false d p = refl

word_is : (c : Call) (s : State) → (stepped_by c s).answer.word ≡ refuse Err (causes_of c s) (goes_on c s)
word_is c s =
    (λ i. (cond long (answered (done_is c s i)) (short_is c s i)).answer.word) ∙ by_length long (refuse (refused_by p) cs (taken_of c s)) p
    ∙ ap (cond (not long) (Err Refusal.Length)) (causes.through (λ (d : Done). d.answer.word) (refused_by p) cs (taken_of c s))
    ∙ ap (λ (all : List Cause). refuse Err all (goes_on c s)) (sym (length_first c s))
  where
    long : Bool
    long = eqb (length s.list) 32

    p : Port
    p = (short_of c s).port

    cs : List Cause
    cs = behind (causes_of c s)

-- where a call isn't refused its word is no refusal
choice : (t : Bool) (v w : Result Word Refusal) → is_refused v ≡ false → is_refused w ≡ false → is_refused (cond t v w) ≡ false
choice true v w a b = a
choice false v w a b = b

cancelled_word : (p : Port) (r : Request) (s now : ℕ) → is_refused (cancelled p r s now).answer.word ≡ false
unfolding cancelled
cancelled_word p r s now = by (is_waiting r) (is_opening (phy_at p r.phy))
  where
    by : (t u : Bool)
        → is_refused (cond t (ended (answers.later p now) (said (Ok CancelAcknowledged) s 8 r)) (stored (with_phy p r.phy (closing_phy (phy_at p r.phy)) now) (said (cond u (Ok StopArb) (Ok Close)) s r.phy r) (marked r 1 r.closed) no_loss)).answer.word ≡ false
    by true u = refl
    by false true = refl
    by false false = refl

chosen_word : (p : Port) (r : Request) (b : Pick) (now : ℕ) → is_refused (chosen p r b now).answer.word ≡ false
unfolding chosen
chosen_word p r b now = by (eqb b.step 1) (eqb b.step 2) (eqb b.step 3)
  where
    by : (t u v : Bool) → is_refused (cond t (sent p r b now) (cond u (opening p r b now) (cond v (closing p r b now) (idle p now)))).answer.word ≡ false
    by true u v = refl
    by false true v = refl
    by false false true = refl
    by false false false = refl

failed_word_lem : (p : Port) (r : Request) (why : Reason) (now : ℕ) → is_refused (failed_word p r why now) ≡ false
failed_word_lem p r why now = by (is_cancelled r) (not (is_retried why)) (is_nexus_lost p r why now)
  where
    by : (t u v : Bool) → is_refused (cond t (Ok CancelAcknowledged) (cond u (Ok (Ended why)) (cond v (Ok NexusLoss) (Ok Retried)))) ≡ false
    by true u v = refl
    by false true v = refl
    by false false true = refl
    by false false false = refl

pub taken_word : (c : Call) (s : State) → is_refused (taken_of c s).answer.word ≡ false
unfolding taken_of
taken_word (setup count loss) s = refl
taken_word (submit x) s = refl
taken_word (cancel x) s = cancelled_word s.port (get_or s.list (slot_of s.list x.key) blank) (slot_of s.list x.key) x.now
taken_word (choose x) s = chosen_word s.port (get_or s.list (pick_at s.list s.port x.now).slot blank) (pick_at s.list s.port x.now) x.now
taken_word (opened x) s = choice (is_cancelled (on_phy s.list s.port x.phy)) (Ok Close) (Ok Send) refl refl
taken_word (open_failed x) s = failed_word_lem s.port (on_phy s.list s.port x.phy) (reason_of x.why) x.now
taken_word (frame_status x) s = choice (is_cancelled (on_phy s.list s.port x.phy)) (Ok CancelAcknowledged) (Ok (Status x.status)) refl refl
taken_word (closed x) s =
    choice (names (phy_at s.port x.phy)) (cond (is_cancelled (on_phy s.list s.port x.phy)) (Ok CancelAcknowledged) (Ok ConnectionLost)) (Ok Taken)
    (choice (is_cancelled (on_phy s.list s.port x.phy)) (Ok CancelAcknowledged) (Ok ConnectionLost) refl refl) refl
taken_word (enable x) s = refl
taken_word (disable x) s =
    choice (names (phy_at s.port x.phy)) (cond (is_cancelled (on_phy s.list s.port x.phy)) (Ok CancelAcknowledged) (Ok Waiting)) (Ok Taken)
    (choice (is_cancelled (on_phy s.list s.port x.phy)) (Ok CancelAcknowledged) (Ok Waiting) refl refl) refl

apart : (c : Call) (s : State) (k : Refusal) → goes_on c s ≡ Err k → ⊥
apart c s k e = never (sym (taken_word c s) ∙ ap is_refused e)

one : (j k : Refusal) → ◌≡◌ {A = Result Word Refusal} (Err j) (Err k) → j ≡ k
one j k e = cc

-- a call is refused with k exactly if k is the first ground that holds
pub refused_exactly : (c : Call) (s : State) (k : Refusal) → ((stepped_by c s).answer.word ≡ Err k) ↔ First (grounds_of c s) k
refused_exactly c s k =
    let t = tested c s in (
      λ e. (t.same k).0 (causes.only Err (goes_on c s) one (apart c s) t.decided k (sym (word_is c s) ∙ e)),
      λ f. word_is c s ∙ causes.if_first Err (goes_on c s) one (apart c s) t.decided k ((t.same k).1 f),
    )
