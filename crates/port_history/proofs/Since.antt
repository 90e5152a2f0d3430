-- A mark that Submitted leaves off and only entries of one kind set is set exactly if the history has such an entry since the submit: no other call
-- changes it. So it is with a Cancel, and with the Close by which choose closes a phy for a request. Assumes nothing.
use Rattle.refusals.specs.declared.Refusal.{Refusal}
use Rattle.std.specs.Prelude.{Err, Ok, Result}
use Prim.Native.Nat.{ℕ, ◌<◌}
use mathlib.Core.Path.{◌≡◌, refl, sym, ap, subst, ◌∙◌}
use mathlib.Core.Bool.{Bool, true, false, cond, ◌&&◌, ◌||◌}
use mathlib.Core.List.{List, [], ◌∷◌}
use lib.Dec.{eqb}
use lib.ListN.{length, get_or}
use Rattle.laws.proofs.Bools.{never, and_right, or_left, or_right}
use Rattle.port_parts.specs.Parts.{blank}
use Rattle.port_rows.specs.Calls.{is_cancelled}
use Rattle.port_rows.specs.declared.Answer.{Answer}
use Rattle.port_rows.specs.declared.Key.{Key}
use Rattle.port_rows.specs.declared.Word.{Word}
use Rattle.port_rows.specs.declared.Word.TheVariants.{Taken, Submitted, Nothing, Send, Open, Close, StopArb, Retried, Waiting, CancelAcknowledged, Ended, NexusLoss, ConnectionLost, Status}
use Rattle.port.specs.Grounds.{HasKey}
use Rattle.port.specs.History.{State, Call, done_of, stepped_by, is_refused, is_last, Entry}
use Rattle.port_history.specs.Standing.{is_setup, is_submitted, accepts, speaks}
use Rattle.port_history.specs.Turns.{keyed}
use Rattle.port_history.specs.Runs.{Run, now, past}
use Rattle.port_history.specs.Marks.{is_cancel, is_acknowledged, is_going, is_choose, is_close, since, cancels, closes}
use Rattle.port_history.proofs.Marks.{Marks, marked_so}
use Rattle.port_history.proofs.Entries.{words, keyed_of}
use Rattle.port_history.proofs.Turns.{same_answer, goes_on, taken_lawful, plain_by, leaves_when, rests_else}
use Rattle.port_history.proofs.Leaving.{tells}
use Rattle.port_history.proofs.Carried.{carried, shows}
use Rattle.port_history.proofs.Fields.{Kept, field_of}

-- ---- a mark that entries of a kind set

abbrev set_by : (Entry → Bool) → Entry → ℕ → ℕ
set_by kind e n = cond (kind e) 1 n

since_is : (kind : Entry → Bool) (x : Key) (h : List Entry) → eqb (carried 0 (set_by kind) x h) 1 ≡ since kind x h
since_is kind x [] = refl
since_is kind x (e ∷ h) = by (is_setup e.call) (accepts x e) (speaks x e) (kind e) (carried 0 (set_by kind) x h) (since kind x h) (since_is kind x h)
  where
    by : (s f n k : Bool) (v : ℕ) (t : Bool) → eqb v 1 ≡ t → eqb (cond s 0 (cond f 0 (cond n (cond k 1 v) v))) 1 ≡ cond s false (cond f false ((k && n) || t))
    by true f n k v t is = refl
    by false true n k v t is = refl
    by false false true true v t is = refl
    by false false true false v t is = is
    by false false false true v t is = is
    by false false false false v t is = is

-- ---- the two marks

cancelled_kept : Kept ℕ (λ r. r.cancelled) 0 (set_by cancels)
cancelled_kept = record {
  new = λ v x. refl;
  timers = λ r t. refl;
  stop_arb = λ p r k x. refl;
  stop_close = λ p r k x. refl;
  send = λ p r b x. refl;
  begin = λ p r b x. refl;
  close = λ p r b x. refl;
  opened_close = λ p f r x. refl;
  opened_send = λ p f r x. refl;
  retried = λ p f r x. refl;
  disabled = λ p f r x. refl;
}

closed_kept : Kept ℕ (λ r. r.closed) 0 (set_by closes)
closed_kept = record {
  new = λ v x. refl;
  timers = λ r t. refl;
  stop_arb = λ p r k x. refl;
  stop_close = λ p r k x. refl;
  send = λ p r b x. refl;
  begin = λ p r b x. refl;
  close = λ p r b x. refl;
  opened_close = λ p f r x. refl;
  opened_send = λ p f r x. refl;
  retried = λ p f r x. refl;
  disabled = λ p f r x. refl;
}

module _ (r : Run) (x : Key) (i : ℕ) (below : i < 32) (has : HasKey (get_or (now r).list i blank) x) where
  pub cancelled_since : is_cancelled (get_or (now r).list i blank) ≡ since cancels x (past r)
  cancelled_since = ap (λ (n : ℕ). eqb n 1) (shows ℕ (field_of ℕ (λ q. q.cancelled) 0 (set_by cancels) cancelled_kept) r x i below has) ∙ since_is cancels x (past r)

  closed_since : eqb (get_or (now r).list i blank).closed 1 ≡ since closes x (past r)
  closed_since = ap (λ (n : ℕ). eqb n 1) (shows ℕ (field_of ℕ (λ q. q.closed) 0 (set_by closes) closed_kept) r x i below has) ∙ since_is closes x (past r)

-- neither Submitted nor a last word nor a refusal
abbrev pub Between : Result Word Refusal → Type 0
Between w = ((is_submitted w ≡ false) × (is_last w ≡ false)) × (is_refused w ≡ false)

pub between : (w : Result Word Refusal) → is_going w || is_close w ≡ true → Between w
between (Ok Taken) e = absurd (never e)
between (Ok Submitted) e = absurd (never e)
between (Ok Nothing) e = absurd (never e)
between (Ok Send) e = ((refl, refl), refl)
between (Ok Open) e = ((refl, refl), refl)
between (Ok Close) e = ((refl, refl), refl)
between (Ok StopArb) e = absurd (never e)
between (Ok Retried) e = absurd (never e)
between (Ok Waiting) e = absurd (never e)
between (Ok CancelAcknowledged) e = absurd (never e)
between (Ok (Ended why)) e = absurd (never e)
between (Ok NexusLoss) e = absurd (never e)
between (Ok ConnectionLost) e = absurd (never e)
between (Ok (Status byte)) e = absurd (never e)
between (Err k) e = absurd (never e)

module _ (r : Run) (c : Call) where
  abbrev s : State
  s = now r

  abbrev said : Answer
  said = (stepped_by c s).answer

  abbrev known : Key
  known = keyed said.frame.head

  eight : length s.port.phys ≡ 8
  eight = (tells r).ok.sound.eight

  marks : is_setup c ≡ false → is_refused said.word ≡ false → Marks s.list (is_cancel c) (is_choose c) (done_of c s)
  marks plain on = marked_so s (taken_lawful c s eight plain on) c plain (goes_on c s eight on)

  -- a last word is Cancel Acknowledged exactly if this call is a Cancel or one was taken since the submit
  pub acknowledged : is_last said.word ≡ true → is_acknowledged said.word ≡ is_cancel c || since cancels known (past r)
  acknowledged e =
      let go = leaves_when c s eight e in
      let on = ((words said.word).0 e).1 in
      subst (λ (a : Answer). is_last a.word ≡ true → is_acknowledged a.word ≡ is_cancel c || is_cancelled (get_or s.list a.slot blank)) (sym (same_answer c s eight on))
      (marks (plain_by c s eight is_last refl (λ k. refl) on e) on).last e
      ∙ ap (λ (t : Bool). is_cancel c || t) (cancelled_since r known said.slot go.slot (go.present, keyed_of go.head))

  -- once a Cancel was taken neither its frame nor an open for it goes
  pub withheld : is_going said.word ≡ true → since cancels known (past r) ≡ false
  withheld e =
      let is = between said.word (or_left (is_close said.word) e) in
      let plain = plain_by c s eight is_going refl (λ k. refl) is.1 e in
      let off = subst (λ (a : Answer). is_going a.word ≡ true → (a.slot < 32) × (is_cancelled (get_or s.list a.slot blank) ≡ false)) (sym (same_answer c s eight is.1)) (marks plain is.1).goes e in
      let there = (rests_else c s eight plain is.0.0 is.0.1).named off.0 in
      sym (cancelled_since r known said.slot off.0 (there.0, keyed_of there.1)) ∙ off.1

  -- choose closes a phy for a request once
  pub closed_once : closes (record { call = c; answer = said }) ≡ true → since closes known (past r) ≡ false
  closed_once e =
      let word = and_right (is_choose c) (is_close said.word) e in
      let is = between said.word (or_right (is_going said.word) word) in
      let plain = plain_by c s eight is_close refl (λ k. refl) is.1 word in
      let off = subst (λ (a : Answer). is_choose c && is_close a.word ≡ true → (a.slot < 32) × ((get_or s.list a.slot blank).closed ≡ 0)) (sym (same_answer c s eight is.1)) (marks plain is.1).once e in
      let there = (rests_else c s eight plain is.0.0 is.0.1).named off.0 in
      sym (closed_since r known said.slot off.0 (there.0, keyed_of there.1)) ∙ ap (λ (n : ℕ). eqb n 1) off.1
