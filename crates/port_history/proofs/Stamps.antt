-- What the calls do to the stamps of a request, that of its last retry and that of its first open since its last reset: Submitted leaves them off,
-- Retried sets the one, and clears the other but for Pathway Blocked, and Open sets the other if it is off. Choose names only a request that is
-- ready, and an Open, which is choose's, carries the wait since the other. Assumes nothing.
use Prim.Native.Nat.{ℕ, ◌+◌, ◌-◌, ◌≤◌, ◌<◌}
use mathlib.Core.Path.{◌≡◌, refl}
use mathlib.Core.Bool.{Bool, true, false, not, cond, ◌||◌}
use mathlib.Core.List.{List}
use lib.ListN.{get_or}
use Rattle.laws.proofs.Bools.{never}
use Rattle.open_frame.specs.Wait.{wait_of}
use Rattle.port_parts.specs.Parts.{blank, no_stamp, stamped, is_set}
use Rattle.port_parts.specs.Qualifies.{Qualifies, sends, opens, closes}
use Rattle.port_parts.specs.Reasons.{reason_of, is_blocked}
use Rattle.port_parts.specs.declared.Phy.{Phy}
use Rattle.port_parts.specs.declared.Request.{Request}
use Rattle.port_parts.specs.declared.Stamp.{Stamp}
use Rattle.port_rows.specs.Calls.{first_open}
use Rattle.port_rows.specs.declared.Answer.{Answer}
use Rattle.port.specs.History.{State, Call, Entry, done_of, is_refused}
use Rattle.port_history.specs.Standing.{is_setup}
use Rattle.port_history.specs.Turns.{Lawful}
use Rattle.port_history.specs.Times.{time_of, is_open, retries, resets, picks}
use Rattle.port_history.proofs.Each.{Each, by_each}
use Rattle.port_history.proofs.Fields.{Kept}

-- ---- what an entry about a request makes of its stamps

abbrev pub retry_by : Entry → Stamp → Stamp
retry_by e t = cond (retries e) (stamped (time_of e.call)) t

abbrev pub first_by : Entry → Stamp → Stamp
first_by e t = cond (resets is_blocked e) no_stamp (cond (is_open e.answer.word) (cond (is_set t) t (stamped (time_of e.call))) t)

-- ---- and what the calls make of them

pub retry_kept : Kept Stamp (λ r. r.retry) no_stamp retry_by
retry_kept = record {
  new = λ v x. refl;
  timers = λ r t. refl;
  stop_arb = λ p r k x. refl;
  stop_close = λ p r k x. refl;
  send = λ p r b x. refl;
  begin = λ p r b x. refl;
  close = λ p r b x. refl;
  opened_close = λ p f r x. refl;
  opened_send = λ p f r x. refl;
  retried = λ p f r x. refl;
  disabled = λ p f r x. refl;
}

-- by whether the reason is Pathway Blocked
first_again : (b : Bool) (t : Stamp) → cond b t no_stamp ≡ cond (not b) no_stamp t
first_again true t = refl
first_again false t = refl

pub first_kept : Kept Stamp (λ r. r.first) no_stamp first_by
first_kept = record {
  new = λ v x. refl;
  timers = λ r t. refl;
  stop_arb = λ p r k x. refl;
  stop_close = λ p r k x. refl;
  send = λ p r b x. refl;
  begin = λ p r b x. refl;
  close = λ p r b x. refl;
  opened_close = λ p f r x. refl;
  opened_send = λ p f r x. refl;
  retried = λ p f r x. first_again (is_blocked (reason_of x.why)) r.first;
  disabled = λ p f r x. refl;
}

-- ---- what choose names, and what an Open carries

-- choose names a request, or answers Open, as no other call does
abbrev pub chooses : Call → Answer → Bool
chooses c a = picks (record { call = c; answer = a }) || is_open a.word

-- the request at the answer's slot, where the list was l, rests no longer, and an Open carries its wait
pub record Chosen (l : List Request) (c : Call) (a : Answer) : Type 0 where
  pub slot : a.slot < 32
  pub ready : (get_or l a.slot blank).retry.set ≡ 1 → (get_or l a.slot blank).retry.at + 15 ≤ time_of c
  pub wait : is_open a.word ≡ true → a.frame.awt.0 ≡ wait_of (time_of c - (first_open (get_or l a.slot blank) (time_of c)).at)

abbrev pub Chooses : List Request → Call → Answer → Type 0
Chooses l c a = chooses c a ≡ true → Chosen l c a

-- what qualifies is ready
rested : {now : ℕ} {r : Request} {f : Phy} {step : ℕ} → Qualifies now r f step → r.retry.set ≡ 1 → r.retry.at + 15 ≤ now
rested (sends e ready stage reach) = ready.1
rested (opens e ready stage) = ready.1
rested (closes e ready stage reach unused) = ready.1

module _ (s : State) where
  abbrev l : List Request
  l = s.list

  chosens : Each s (λ c d. Chooses l c d.answer)
  chosens = record {
    submits = λ x e. absurd (never e);
    withdraws = λ x e. absurd (never e);
    stops = λ x e. absurd (never e);
    stops_closing = λ x e. absurd (never e);
    sends = λ x b w n e. record { slot = w.slot; ready = rested w.fits; wait = λ o. absurd (never o) };
    opens = λ x b w n e. record { slot = w.slot; ready = rested w.fits; wait = λ o. refl };
    closes = λ x b w n e. record { slot = w.slot; ready = rested w.fits; wait = λ o. absurd (never o) };
    idles = λ x e. absurd (never e);
    opened_cancelled = λ x h c e. absurd (never e);
    opened_sends = λ x h c e. absurd (never e);
    failed_cancelled = λ x h c u v e. absurd (never e);
    failed_ends = λ x h c f v e. absurd (never e);
    failed_loses = λ x h c f g e. absurd (never e);
    failed_again = λ x h c f g e. absurd (never e);
    status_cancelled = λ x h c e. absurd (never e);
    status_ends = λ x h c e. absurd (never e);
    closed_cancelled = λ x h c e. absurd (never e);
    closed_ends = λ x h c e. absurd (never e);
    closed_free = λ x far t e. absurd (never e);
    enables = λ x e. absurd (never e);
    disabled_cancelled = λ x h c e. absurd (never e);
    disabled_waits = λ x h c e. absurd (never e);
    disabled_free = λ x far t e. absurd (never e);
  }

  module _ (ok : Lawful s) (c : Call) (plain : is_setup c ≡ false) (on : is_refused (done_of c s).answer.word ≡ false) where
    pub chosen_so : Chooses l c (done_of c s).answer
    chosen_so = by_each s ok (λ c d. Chooses l c d.answer) chosens c plain on
