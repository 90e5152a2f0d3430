-- Refusal 3 among a call's causes: what the call is given comes before it, and nothing else answers 3, so it is answered exactly where that is in
-- order and the test of the state, or of START's own numbers, fails. Assumes nothing.
use Rattle.ssp_frame.specs.declared.data_out.OutHead.{OutHead}
use Rattle.ssp_frame.specs.declared.Frame.{Frame}
use Rattle.std.specs.Prelude.{Err, Ok, Result}
use Prim.Native.Nat.{ℕ, ◌^◌}
use mathlib.Core.Bool.{Bool, true, false, not, cond, ◌&&◌, ◌||◌}
use mathlib.Core.List.{List, [], ◌∷◌, ◌++◌}
use mathlib.Core.Logic.{◌⊎◌, ◌↔◌}
use mathlib.Core.Path.{◌≡◌, refl, sym, ap, ◌∙◌}
use native.Mathlib.Omega.{arith}
use borrow.Author.Tests.{not-false}
use lib.Dec.{leb, eqb}
use lib.ListN.{length}
use Rattle.laws.specs.Tests.{Says}
use Rattle.laws.proofs.Bools.{never, impossible, clash, and_left, and_right, nor, by_test}
use Rattle.laws.proofs.Tests.{less, most, equal, both, either, unless, means}
use Rattle.refusals.specs.Causes.{Cause, ◌when◌, refuse}
use Rattle.refusals.specs.Refusals.{number_of}
use Rattle.refusals.specs.declared.Refusal.{Refusal}
use Rattle.refusals.proofs.Causes.{NoneGiven, none_append, Verdict, stopped, passes, verdict, through, unrefused}
use Rattle.ssp_frame.specs.Out.{read_causes, out_of, read_data_out}
use Rattle.write.specs.Rules.{in_range, keeps_rules}
use Rattle.write.specs.Steps.{limit, refused, unfinished, asking, waiting, early, free, asked, sized, fits}
use Rattle.write.specs.Steps as steps
use Rattle.write.specs.Calls as plainly
use Rattle.write.specs.Calls.{is_refused, start, xfer, ack, nak, timeout, lost, got, nexus, cancel}
use Rattle.write.specs.declared.Write.{Write}
use Rattle.write.specs.declared.Stepped.{Stepped}
use Rattle.write.proofs.Fits.{sized_says}
use Rattle.write.proofs.Kept.{in_range_lem}
use Rattle.write.proofs.Refusals.{causes_of, goes_on, step_is}
use Rattle.write.proofs.Refusals as refusals
use Rattle.take.specs.Ask.{addressed, ask_step}
use Rattle.take.specs.Take.{ours, take_step}
use Rattle.take.specs.Grounds.{Addressed}
use Rattle.take_history.specs.Calls as machine
use Rattle.take_history.specs.Calls.{Call, plain, ask, take}
use Rattle.write_lent.specs.Numbers.{answer_number}
use Rattle.write_lent.specs.Lent.{is_refusal}
use Rattle.write_lent.specs.Grounds.{StartOut, OutOfRange, Sized, InOrder}
use Rattle.write_lent.proofs.Trips.{refusal_told}

-- ---- 3 among any causes

-- none of these is 3
abbrev other3 : List Cause → Bool
other3 [] = true
other3 (c ∷ cs) = not (eqb (number_of c.refusal) 3) && other3 cs

module _ (c : Cause) (cs : List Cause) (others : other3 (c ∷ cs) ≡ true) where
  first_other : number_of c.refusal ≡ 3 → ⊥
  first_other e = (unless (equal (number_of c.refusal) 3)).0 (and_left (not (eqb (number_of c.refusal) 3)) (other3 cs) others) e

  rest_other : other3 cs ≡ true
  rest_other = and_right (not (eqb (number_of c.refusal) 3)) (other3 cs) others

not_three : (cs : List Cause) → other3 cs ≡ true → (n : ℕ) → (n ≡ 3 → ⊥) → refuse number_of cs n ≡ 3 → ⊥
not_three [] others n other = other
not_three (c ∷ cs) others n other =
    by_test (λ (m : ℕ). m ≡ 3 → ⊥) c.given (λ _. first_other c cs others) (λ _. not_three cs (rest_other c cs others) n other)

three_among : (before after : List Cause) → other3 before ≡ true → other3 after ≡ true → (t : Bool) (n : ℕ) → (n ≡ 3 → ⊥)
    → (refuse number_of (before ++ ((Refusal.Rules when t) ∷ after)) n ≡ 3) ↔ (NoneGiven before × (t ≡ true))
three_among [] after off then true n other = (λ e. (tt, refl), λ h. refl)
three_among [] after off then false n other = (λ e. absurd (not_three after then n other e), λ h. impossible h.1)
three_among (c ∷ cs) after off then t n other = by c.given refl (three_among cs after (rest_other c cs off) then t n other)
  where
    rest : ℕ
    rest = refuse number_of (cs ++ ((Refusal.Rules when t) ∷ after)) n

    by : (g : Bool) → c.given ≡ g → (rest ≡ 3) ↔ (NoneGiven cs × (t ≡ true))
        → (cond g (number_of c.refusal) rest ≡ 3) ↔ (((c.given ≡ false) × NoneGiven cs) × (t ≡ true))
    by true is later = (λ e. absurd (first_other c cs off e), λ h. impossible (sym h.0.0 ∙ is))
    by false is later = (λ e. let q = later.0 e in ((is, q.0), q.1), λ h. later.1 (h.0.1, h.1))

-- ---- a call's causes: what it is given, 3, and what only a good state can show

abbrev sized_first : plainly.Call → List Cause
sized_first (start b n x r) = []
sized_first (xfer others) = []
sized_first ack = []
sized_first nak = []
sized_first timeout = []
sized_first lost = []
sized_first (got t o n) = (Refusal.Unlisted when not (sized n)) ∷ []
sized_first nexus = []
sized_first cancel = []

abbrev given : Call → List Cause
given (plain c) = sized_first c
given (ask others destination source tag out) = (Refusal.Length when not (leb 36 (length out))) ∷ (Refusal.Unlisted when not (addressed destination source)) ∷ []
given (take destination source tag frame store) = read_causes frame ++ ((Refusal.Unlisted when not (addressed destination source)) ∷ [])

abbrev out_by : plainly.Call → Bool
out_by (start b n x r) = not (in_range limit b n x r)
out_by (xfer others) = false
out_by ack = false
out_by nak = false
out_by timeout = false
out_by lost = false
out_by (got t o n) = false
out_by nexus = false
out_by cancel = false

-- START's own numbers, or the state
abbrev pub off_rules : Call → Write → Bool
off_rules c w = out_by (machine.plain_of c) || not (keeps_rules limit w)

-- the causes of a call: what it is given, 3, and what only a good state can show; and what it does where none holds
record Parts (c : Call) (w : Write) : Type 0 where
  front : other3 (given c) ≡ true
  after : List Cause
  back : other3 after ≡ true
  goes : Stepped
  taken : is_refused goes.answer ≡ false
  is : machine.step_of limit c w ≡ refuse (refused w) (given c ++ ((Refusal.Rules when off_rules c w) ∷ after)) goes

-- of a call without bytes
plainly_parted : (c : plainly.Call) (w : Write) → other3 (sized_first c) ≡ true → (after : List Cause) → other3 after ≡ true
    → causes_of limit c w ≡ sized_first c ++ ((Refusal.Rules when off_rules (plain c) w) ∷ after) → Parts (plain c) w
plainly_parted c w front after back same =
    record {
      front = front;
      after = after;
      back = back;
      goes = goes_on limit c w;
      taken = refusals.taken limit c w;
      is = step_is limit c w ∙ ap (λ (cs : List Cause). refuse (refused w) cs (goes_on limit c w)) same;
    }

parts : (c : Call) (w : Write) → Parts c w
unfolding causes_of goes_on ask_step take_step
parts (plain (start b n x r)) w = plainly_parted (start b n x r) w refl ((Refusal.Unfit when unfinished w.phase) ∷ []) refl refl
parts (plain (xfer others)) w =
    plainly_parted (xfer others) w refl ((Refusal.Unfit when not (asking w.phase)) ∷ (Refusal.Full when leb limit (free limit others w)) ∷ []) refl refl
parts (plain ack) w = plainly_parted ack w refl ((Refusal.Unfit when not (waiting w.phase)) ∷ []) refl refl
parts (plain nak) w = plainly_parted nak w refl ((Refusal.Unfit when not (waiting w.phase)) ∷ []) refl refl
parts (plain timeout) w = plainly_parted timeout w refl ((Refusal.Unfit when not (waiting w.phase)) ∷ []) refl refl
parts (plain lost) w = plainly_parted lost w refl ((Refusal.Unfit when not (waiting w.phase)) ∷ []) refl refl
parts (plain (got t o n)) w =
    plainly_parted (got t o n) w refl
    ((Refusal.Unfit when (not (unfinished w.phase) || early t w)) ∷ (Refusal.Unlisted when not (fits t o n w)) ∷ []) refl refl
parts (plain nexus) w = plainly_parted nexus w refl ((Refusal.Unfit when not (unfinished w.phase)) ∷ []) refl refl
parts (plain cancel) w = plainly_parted cancel w refl ((Refusal.Unfit when not (unfinished w.phase)) ∷ []) refl refl
parts (ask others destination source tag out) w =
    record {
      front = refl;
      after = (Refusal.Unfit when not (asking w.phase)) ∷ (Refusal.Full when leb limit (free limit others w)) ∷ [];
      back = refl;
      goes = asked (free limit others w) w;
      taken = refl;
      is = refl;
    }
parts (take destination source tag frame store) w =
    let f = out_of frame in
    let t = f.head.transfer in
    let o = f.head.offset in
    record {
      front = refl;
      after =
          (Refusal.Unfit when (not (unfinished w.phase) || early t w))
          ∷ (Refusal.Unlisted when not (ours f.head destination source tag))
          ∷ (Refusal.Unlisted when not (fits t o f.length w))
          ∷ (Refusal.Length when not (leb w.count (length store)))
          ∷ [];
      back = refl;
      goes = steps.got t o f.length w;
      taken = refusals.taken limit (got t o f.length) w;
      is = refl;
    }

-- ---- in words

abbrev is_read : Result (Frame OutHead) Refusal → Bool
is_read (Ok f) = true
is_read (Err k) = false

frame_read : (frame : List ℕ) → NoneGiven (read_causes frame) ↔ (read_data_out frame ≡ Ok (out_of frame))
unfolding read_data_out
frame_read frame = (λ off. sym (unrefused Err (Ok (out_of frame)) (read_causes frame) off), λ e. by e (verdict (read_causes frame)))
  where
    by : read_data_out frame ≡ Ok (out_of frame) → Verdict (read_causes frame) → NoneGiven (read_causes frame)
    by e (stopped k h) = absurd (never (ap is_read (sym (h (Result (Frame OutHead) Refusal) Err (Ok (out_of frame))) ∙ e)))
    by e (passes off h) = off

addressed_says : (destination source : ℕ) → Says (addressed destination source) (Addressed destination source)
addressed_says destination source =
    means (both (less destination (256 ^ 3)) (less source (256 ^ 3)))
    (λ h. (omega (arith, h.0), omega (arith, h.1)), λ h. (omega (arith, h.0), omega (arith, h.1)))

-- a cause that is a test denied is off where the test says so
denied_says : {t : Bool} {P : Type 0} → Says t P → (not t ≡ false) ↔ P
denied_says {t} p = (λ e. p.0 (not-false t e), λ h. ap not (p.1 h))

sized_order : (c : plainly.Call) → NoneGiven (sized_first c) ↔ Sized c
sized_order (start b n x r) = (λ h. h, λ h. h)
sized_order (xfer others) = (λ h. h, λ h. h)
sized_order ack = (λ h. h, λ h. h)
sized_order nak = (λ h. h, λ h. h)
sized_order timeout = (λ h. h, λ h. h)
sized_order lost = (λ h. h, λ h. h)
sized_order (got t o n) = let size = denied_says (sized_says n) in (λ h. size.0 h.0, λ h. (size.1 h, tt))
sized_order nexus = (λ h. h, λ h. h)
sized_order cancel = (λ h. h, λ h. h)

in_order : (c : Call) → NoneGiven (given c) ↔ InOrder c
in_order (plain c) = sized_order c
in_order (ask others destination source tag out) =
    let long = denied_says (most 36 (length out)) in
    let both = denied_says (addressed_says destination source) in
    (λ h. (long.0 h.0, both.0 h.1.0), λ h. (long.1 h.0, (both.1 h.1, tt)))
in_order (take destination source tag frame store) =
    let read = frame_read frame in
    let both = denied_says (addressed_says destination source) in (
      λ h. (read.0 (h.0, (h.1.0, tt)), both.0 h.1.1.0),
      λ h. let off = read.1 h.0 in (off.0, (off.1.0, (both.1 h.1, tt))),
    )

-- a call answers 3 exactly where what it is given is in order, and START's own numbers are out of range or the state breaks its rules
pub three_is : (c : Call) (w : Write) → (answer_number (machine.step_of limit c w).answer ≡ 3) ↔ (InOrder c × (off_rules c w ≡ true))
three_is c w =
    let p = parts c w in
    let cs = given c ++ ((Refusal.Rules when off_rules c w) ∷ p.after) in
    let told : answer_number (machine.step_of limit c w).answer ≡ refuse number_of cs (answer_number p.goes.answer) =
    ap (λ (st : Stepped). answer_number st.answer) p.is ∙ through (λ (st : Stepped). answer_number st.answer) (refused w) cs p.goes in
    let other : answer_number p.goes.answer ≡ 3 → ⊥ = λ e. clash (is_refused p.goes.answer) (sym (refusal_told p.goes.answer) ∙ ap is_refusal e) p.taken in
    let among = three_among (given c) p.after p.front p.back (off_rules c w) (answer_number p.goes.answer) other in (
      λ e. let q = among.0 (sym told ∙ e) in ((in_order c).0 q.0, q.1),
      λ h. told ∙ among.1 ((in_order c).1 h.0, h.1),
    )

-- a call that is taken was lent a write that keeps its rules
pub taken_kept : (c : Call) (w : Write) → is_refused (machine.step_of limit c w).answer ≡ false → keeps_rules limit w ≡ true
taken_kept c w on = by (verdict (given c ++ ((Refusal.Rules when off_rules c w) ∷ (parts c w).after)))
  where
    by : Verdict (given c ++ ((Refusal.Rules when off_rules c w) ∷ (parts c w).after)) → keeps_rules limit w ≡ true
    by (stopped k v) = impossible (sym on ∙ ap (λ (st : Stepped). is_refused st.answer) ((parts c w).is ∙ v Stepped (refused w) (parts c w).goes))
    by (passes off v) =
        let rules = (none_append (given c) ((Refusal.Rules when off_rules c w) ∷ (parts c w).after) off).1.0 in
        not-false (keeps_rules limit w) (nor (out_by (machine.plain_of c)) (not (keeps_rules limit w)) rules).1

out_says : (c : plainly.Call) → Says (out_by c) (StartOut c)
out_says (start b n x r) = unless (in_range_lem limit b n x r)
out_says (xfer others) = (never, λ h. absurd h)
out_says ack = (never, λ h. absurd h)
out_says nak = (never, λ h. absurd h)
out_says timeout = (never, λ h. absurd h)
out_says lost = (never, λ h. absurd h)
out_says (got t o n) = (never, λ h. absurd h)
out_says nexus = (never, λ h. absurd h)
out_says cancel = (never, λ h. absurd h)

pub off_says : (c : Call) (w : Write) {P : Type 0} → Says (keeps_rules limit w) P → Says (off_rules c w) (OutOfRange c ⊎ (P → ⊥))
off_says c w p = either (out_says (machine.plain_of c)) (unless p)
