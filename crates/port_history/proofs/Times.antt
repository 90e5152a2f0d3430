-- The stamps of a request are what the history says of it, since the same entries change them. So choose names no request within 15
-- microseconds of its last Retried, and an Open carries the wait since the request's first Open behind its last reset. Assumes nothing.
use Rattle.refusals.specs.declared.Refusal.{Refusal}
use Rattle.std.specs.Prelude.{Err, Ok, Result}
use Prim.Native.Nat.{ℕ, ◌+◌, ◌-◌, ◌≤◌, ◌<◌}
use mathlib.Core.Path.{◌≡◌, refl, sym, ap, subst, ◌∙◌}
use mathlib.Core.Bool.{Bool, true, false, cond, ◌||◌}
use mathlib.Core.List.{List, [], ◌∷◌}
use lib.ListN.{length, get_or}
use Rattle.laws.proofs.Bools.{never, and_right, or_left, or_right}
use Rattle.open_frame.specs.Wait.{wait_of}
use Rattle.port_parts.specs.Parts.{blank, no_stamp, stamped, is_set}
use Rattle.port_parts.specs.Reasons.{is_blocked}
use Rattle.port_parts.specs.declared.Request.{Request}
use Rattle.port_parts.specs.declared.Stamp.{Stamp}
use Rattle.port_rows.specs.declared.Answer.{Answer}
use Rattle.port_rows.specs.declared.Key.{Key}
use Rattle.port_rows.specs.declared.Word.{Word}
use Rattle.port_rows.specs.declared.Word.TheVariants.{Taken, Submitted, Nothing, Send, Open, Close, StopArb, Retried, Waiting, CancelAcknowledged, Ended, NexusLoss, ConnectionLost, Status}
use Rattle.port.specs.History.{State, Call, stepped_by, Entry}
use Rattle.port_history.specs.Standing.{is_setup, accepts, speaks}
use Rattle.port_history.specs.Turns.{keyed}
use Rattle.port_history.specs.Runs.{Run, now, past}
use Rattle.port_history.specs.Marks.{is_going, is_choose, is_close}
use Rattle.port_history.specs.Times.{time_of, is_open, retries, retries_of, resets, opens, opens_of, first_time, picks}
use Rattle.port_history.proofs.Entries.{keyed_of}
use Rattle.port_history.proofs.Turns.{same_answer, goes_on, taken_lawful, plain_by, rests_else}
use Rattle.port_history.proofs.Leaving.{tells}
use Rattle.port_history.proofs.Carried.{carried, Field, shows}
use Rattle.port_history.proofs.Fields.{field_of}
use Rattle.port_history.proofs.Since.{between}
use Rattle.port_history.proofs.Stamps.{retry_by, first_by, retry_kept, first_kept, chooses, Chosen, Chooses, chosen_so}

-- ---- the two stamps

abbrev retrying : Field Stamp
retrying = field_of Stamp (λ r. r.retry) no_stamp retry_by retry_kept

abbrev waiting : Field Stamp
waiting = field_of Stamp (λ r. r.first) no_stamp first_by first_kept

-- ---- are the latest and the first of some times

abbrev latest : List ℕ → Stamp
latest [] = no_stamp
latest (t ∷ older) = stamped t

abbrev oldest : List ℕ → Stamp
oldest [] = no_stamp
oldest (t ∷ older) = stamped (first_time t older)

-- one Open more
one_more : (t : ℕ) (older : List ℕ) → cond (is_set (oldest older)) (oldest older) (stamped t) ≡ stamped (first_time t older)
one_more t [] = refl
one_more t (u ∷ older) = refl

retry_is : (x : Key) (h : List Entry) → carried no_stamp retry_by x h ≡ latest (retries_of x h)
retry_is x [] = refl
retry_is x (e ∷ h) = by (is_setup e.call) (accepts x e) (speaks x e) (retries e) (carried no_stamp retry_by x h) (retries_of x h) (retry_is x h)
  where
    by : (s f n k : Bool) (v : Stamp) (ts : List ℕ) → v ≡ latest ts
        → cond s no_stamp (cond f no_stamp (cond n (cond k (stamped (time_of e.call)) v) v)) ≡ latest (cond s [] (cond f [] (cond n (cond k (time_of e.call ∷ ts) ts) ts)))
    by true f n k v ts is = refl
    by false true n k v ts is = refl
    by false false true true v ts is = refl
    by false false true false v ts is = is
    by false false false k v ts is = is

first_is : (x : Key) (h : List Entry) → carried no_stamp first_by x h ≡ oldest (opens_of is_blocked x h)
first_is x [] = refl
first_is x (e ∷ h) = by (is_setup e.call) (accepts x e) (speaks x e) (resets is_blocked e) (opens e) (carried no_stamp first_by x h) (opens_of is_blocked x h) (first_is x h)
  where
    by : (s f n a k : Bool) (v : Stamp) (ts : List ℕ) → v ≡ oldest ts
        → cond s no_stamp (cond f no_stamp (cond n (cond a no_stamp (cond k (cond (is_set v) v (stamped (time_of e.call))) v)) v)) ≡ oldest (cond s [] (cond f [] (cond n (cond a [] (cond k (time_of e.call ∷ ts) ts)) ts)))
    by true f n a k v ts is = refl
    by false true n a k v ts is = refl
    by false false true true k v ts is = refl
    by false false true false true v ts is = ap (λ (t : Stamp). cond (is_set t) t (stamped (time_of e.call))) is ∙ one_more (time_of e.call) ts
    by false false true false false v ts is = is
    by false false false a k v ts is = is

-- ---- what choose answers

open_goes : (w : Result Word Refusal) → is_open w ≡ true → is_going w || is_close w ≡ true
open_goes (Ok Taken) e = absurd (never e)
open_goes (Ok Submitted) e = absurd (never e)
open_goes (Ok Nothing) e = absurd (never e)
open_goes (Ok Send) e = refl
open_goes (Ok Open) e = refl
open_goes (Ok Close) e = refl
open_goes (Ok StopArb) e = absurd (never e)
open_goes (Ok Retried) e = absurd (never e)
open_goes (Ok Waiting) e = absurd (never e)
open_goes (Ok CancelAcknowledged) e = absurd (never e)
open_goes (Ok (Ended why)) e = absurd (never e)
open_goes (Ok NexusLoss) e = absurd (never e)
open_goes (Ok ConnectionLost) e = absurd (never e)
open_goes (Ok (Status byte)) e = absurd (never e)
open_goes (Err k) e = absurd (never e)

module _ (r : Run) (c : Call) where
  abbrev s : State
  s = now r

  abbrev said : Answer
  said = (stepped_by c s).answer

  abbrev known : Key
  known = keyed said.frame.head

  -- the record at the answer's slot
  abbrev at : Request
  at = get_or s.list said.slot blank

  eight : length s.port.phys ≡ 8
  eight = (tells r).ok.sound.eight

  plain_of : is_going said.word || is_close said.word ≡ true → is_setup c ≡ false
  plain_of e = plain_by c s eight (λ w. is_going w || is_close w) refl (λ k. refl) (between said.word e).1 e

  -- a field of the request that the answer names
  named : (A : Type 0) (k : Field A) → is_going said.word || is_close said.word ≡ true → said.slot < 32 → k.of at ≡ carried k.start k.step known (past r)
  named A k e below =
      let is = between said.word e in
      let there = (rests_else c s eight (plain_of e) is.0.0 is.0.1).named below in
      shows A k r known said.slot below (there.0, keyed_of there.1)

  -- what choose says of the request that it names
  chosen : is_going said.word || is_close said.word ≡ true → chooses c said ≡ true → Chosen s.list c said
  chosen word e =
      let on = (between said.word word).1 in
      let plain = plain_of word in
      subst (Chooses s.list c) (sym (same_answer c s eight on)) (chosen_so s (taken_lawful c s eight plain on) c plain (goes_on c s eight on)) e

  -- 01 PORT.12
  pub rests : picks (record { call = c; answer = said }) ≡ true → (t : ℕ) (older : List ℕ) → retries_of known (past r) ≡ t ∷ older → t + 15 ≤ time_of c
  rests e t older last =
      let word = and_right (is_choose c) (is_going said.word || is_close said.word) e in
      let is-chosen = chosen word (or_left (is_open said.word) e) in
      let is : at.retry ≡ stamped t = named Stamp retrying word is-chosen.slot ∙ retry_is known (past r) ∙ ap latest last in
      subst (λ (n : ℕ). n + 15 ≤ time_of c) (ap (λ (u : Stamp). u.at) is) (is-chosen.ready (ap (λ (u : Stamp). u.set) is))

  -- 01 PORT.16
  pub waits : is_open said.word ≡ true → said.frame.awt.0 ≡ wait_of (time_of c - first_time (time_of c) (opens_of is_blocked known (past r)))
  waits e =
      let word = open_goes said.word e in
      let is-chosen = chosen word (or_right (picks (record { call = c; answer = said })) e) in
      let is : at.first ≡ oldest (opens_of is_blocked known (past r)) = named Stamp waiting word is-chosen.slot ∙ first_is known (past r) in
      is-chosen.wait e
      ∙ ap (λ (u : Stamp). wait_of (time_of c - (cond (is_set u) u (stamped (time_of c))).at)) is
      ∙ ap (λ (u : Stamp). wait_of (time_of c - u.at)) (one_more (time_of c) (opens_of is_blocked known (past r)))
