-- Submit stores, and cancel hits, what the call was given: submit's record has its head and time, and the request that cancel finds has its key.
-- Assumes nothing.
use Prim.Native.Nat.{ℕ, ◌<◌}
use mathlib.Core.Path.{◌≡◌, refl, sym, ap, subst}
use mathlib.Core.Bool.{true, false, not}
use mathlib.Core.List.{List}
use native.Mathlib.Omega.{arith}
use lib.Dec.{leb}
use lib.ListN.{length, get_or}
use borrow.Author.Tests.{leb-false}
use Rattle.laws.proofs.Bools.{nor, and_right}
use Rattle.laws.proofs.Finds.{Found, none, at}
use Rattle.refusals.proofs.Causes.{NoneGiven}
use Rattle.port_parts.specs.Parts.{blank, is_free}
use Rattle.port_parts.specs.declared.Request.{Request}
use Rattle.port_rows.specs.Calls.{is_cancelled}
use Rattle.port_rows.specs.Finds.{room_of, is_of, has_key, slot_of}
use Rattle.port_rows.specs.declared.Done.{Done}
use Rattle.port_rows.specs.declared.Key.{Key}
use Rattle.port_rows.specs.declared.Submission.{Submission}
use Rattle.port_rows.specs.declared.Withdrawn.{Withdrawn}
use Rattle.port.specs.Calls.{on32, left_of}
use Rattle.port.specs.History.{State, Call, submit, cancel, done_of, stepped_by, is_refused, leave}
use Rattle.port.specs.declared.Stepped.{Stepped}
use Rattle.port.proofs.Begins.{left_here}
use Rattle.port.proofs.Found.{key_found}
use Rattle.port.proofs.Decides.{causes_of}
use Rattle.port.proofs.Refusals.{taken_of, behind}
use Rattle.port_invariant.proofs.Leaves.{by_taken, when_taken, taken_so}
use Rattle.port_invariant.proofs.Ways.{by_cancelled}
use Rattle.port_history.specs.Turns.{Given}

-- a submit that is taken answers Submitted, and stores what it was given
pub submits_given : (x : Submission) (s : State) → is_refused (stepped_by (submit x) s).answer.word ≡ false → Given x (stepped_by (submit x) s).answer (get_or (leave (submit x) s).list (stepped_by (submit x) s).answer.slot blank)
unfolding causes_of taken_of
submits_given x s on =
    subst (λ (t : State). Given x (stepped_by c s).answer (get_or t.list (stepped_by c s).answer.slot blank)) (sym (taken_so c s (stepped_by c s) (on32 l (left_of l (done_of c s)) l) (refl, refl) on))
    (when_taken c s (λ (r : Stepped) (m : List Request). Given x r.answer (get_or m r.answer.slot blank)) (λ size. by_taken c s (λ (d : Done). Given x d.answer (get_or (left_of l d) d.answer.slot blank)) (stored size)) on)
  where
    c : Call
    c = submit x

    l : List Request
    l = s.list

    stored : length l ≡ 32 → NoneGiven (behind (causes_of c s)) → Given x (taken_of c s).answer (get_or (left_of l (taken_of c s)) (taken_of c s).answer.slot blank)
    stored size passed =
        let here = left_here l (taken_of c s) size refl (leb-false 32 (room_of l x.head).free passed.1.1.1.1.0) in
        record { word = refl; named = refl; head = ap (λ (r : Request). r.head) here; time = ap (λ (r : Request). r.submitted) here }

-- what a scan for a key found has it
found_of : (l : List Request) (x : Key) (n : ℕ) → Found blank (λ r. has_key r x) l 32 32 n → n < 32 → is_of (get_or l n blank).head x ≡ true
found_of l x n (none e off) h = absurd (omega arith)
found_of l x n (at m t off) h = and_right (not (is_free (get_or l n blank))) (is_of (get_or l n blank).head x) t

-- a cancel that is taken answers about a request with the key that it was given
pub cancels_given : (x : Withdrawn) (s : State) → is_refused (stepped_by (cancel x) s).answer.word ≡ false → is_of (stepped_by (cancel x) s).answer.frame.head x.key ≡ true
unfolding causes_of taken_of
cancels_given x s =
    when_taken (cancel x) s (λ (r : Stepped) (m : List Request). is_of r.answer.frame.head x.key ≡ true) (λ size. by_taken (cancel x) s (λ (d : Done). is_of d.answer.frame.head x.key ≡ true) has)
  where
    l : List Request
    l = s.list

    i : ℕ
    i = slot_of l x.key

    has : NoneGiven (behind (causes_of (cancel x) s)) → is_of (taken_of (cancel x) s).answer.frame.head x.key ≡ true
    has passed =
        let named = found_of l x.key i (key_found l x.key) (leb-false 32 i (nor (leb 32 i) (is_cancelled (get_or l i blank)) passed.1.1.1.0).0) in
        by_cancelled (λ (d : Done). is_of d.answer.frame.head x.key ≡ true) s.port (get_or l i blank) i x.now (λ t. named) (λ t. named)
