-- A field of a request is changed only where a call stores its record anew: submit, a Cancel of a request in progress, choose's three ways, Opened, a retry, and the disabling
-- of its phy. So what each of these does to a field says what every call behind setup does to it. Assumes nothing.
use Prim.Native.Nat.{ℕ, ◌<◌}
use mathlib.Core.Path.{◌≡◌, refl, sym, ◌∙◌}
use mathlib.Core.Bool.{true, false}
use native.Mathlib.Omega.{arith}
use lib.ListN.{get_or}
use Rattle.laws.proofs.Bools.{never}
use Rattle.port_parts.specs.Parts.{blank}
use Rattle.port_parts.specs.Reasons.{reason_of}
use Rattle.port_parts.specs.declared.Phy.{Phy}
use Rattle.port_parts.specs.declared.Pick.{Pick}
use Rattle.port_parts.specs.declared.Port.{Port}
use Rattle.port_parts.specs.declared.Request.{Request}
use Rattle.port_parts.specs.declared.Stamp.{Stamp}
use Rattle.port_rows.specs.Changed.{timed}
use Rattle.port_rows.specs.Calls.{submitted, phy_at, sent, opening, closing}
use Rattle.port_rows.specs.Finds.{room_of, slot_of}
use Rattle.port_rows.specs.declared.Confirmed.{Confirmed}
use Rattle.port_rows.specs.declared.Done.{Done}
use Rattle.port_rows.specs.declared.Failure.{Failure}
use Rattle.port_rows.specs.declared.Room.{Room}
use Rattle.port_rows.specs.declared.Submission.{Submission}
use Rattle.port_rows.specs.declared.Withdrawn.{Withdrawn}
use Rattle.port.specs.Calls.{on_phy}
use Rattle.port.specs.History.{State, Call, cancel, choose, opened, open_failed, disable, Entry, done_of, is_refused, is_last}
use Rattle.port.specs.declared.Time.{Time}
use Rattle.port_invariant.proofs.Ways.{stopped_by, opened_by, failed_by, disabled_by}
use Rattle.port_history.specs.Standing.{is_setup, is_submitted}
use Rattle.port_history.specs.Turns.{Lawful}
use Rattle.port_history.proofs.Each.{Each, by_each}
use Rattle.port_history.proofs.Carried.{Carries, Field}

-- what the ways of the calls that store a record do to a field: Submitted sets it, any other way makes a step of its call and answer
pub record Kept (A : Type 0) (of : Request → A) (start : A) (step : Entry → A → A) : Type 0 where
  pub new : (v : Room) (x : Submission) → of (submitted v x) ≡ start
  pub timers : (r : Request) (t : Stamp) → of (timed r t) ≡ of r
  pub stop_arb : (p : Port) (r : Request) (k : ℕ) (x : Withdrawn) → let d = stopped_by p r k x.now true in of d.entry ≡ step (record { call = cancel x; answer = d.answer }) (of r)
  pub stop_close : (p : Port) (r : Request) (k : ℕ) (x : Withdrawn) → let d = stopped_by p r k x.now false in of d.entry ≡ step (record { call = cancel x; answer = d.answer }) (of r)
  pub send : (p : Port) (r : Request) (b : Pick) (x : Time) → let d = sent p r b x.now in of d.entry ≡ step (record { call = choose x; answer = d.answer }) (of r)
  pub begin : (p : Port) (r : Request) (b : Pick) (x : Time) → let d = opening p r b x.now in of d.entry ≡ step (record { call = choose x; answer = d.answer }) (of r)
  pub close : (p : Port) (r : Request) (b : Pick) (x : Time) → let d = closing p r b x.now in of d.entry ≡ step (record { call = choose x; answer = d.answer }) (of r)
  pub opened_close : (p : Port) (f : Phy) (r : Request) (x : Confirmed) → let d = opened_by p f r x true in of d.entry ≡ step (record { call = opened x; answer = d.answer }) (of r)
  pub opened_send : (p : Port) (f : Phy) (r : Request) (x : Confirmed) → let d = opened_by p f r x false in of d.entry ≡ step (record { call = opened x; answer = d.answer }) (of r)
  pub retried : (p : Port) (f : Phy) (r : Request) (x : Failure) → let d = failed_by p f r (reason_of x.why) x.phy x.now false true false in of d.entry ≡ step (record { call = open_failed x; answer = d.answer }) (of r)
  pub disabled : (p : Port) (f : Phy) (r : Request) (x : Confirmed) → let d = disabled_by p f r x true false in of d.entry ≡ step (record { call = disable x; answer = d.answer }) (of r)

module _ (A : Type 0) (of : Request → A) (start : A) (step : Entry → A → A) (ways : Kept A of start step) (s : State) where
  abbrev Law : Call → Done → Type 0
  Law = Carries A of start step s.list

  -- neither Submitted nor a last word
  rest : {c : Call} {d : Done} → d.cleared ≡ false → is_submitted d.answer.word ≡ false → (d.answer.slot < 32 → of d.entry ≡ step (record { call = c; answer = d.answer }) (of (get_or s.list d.answer.slot blank))) → Law c d
  rest some first same = record { some = some; new = λ e. absurd (never (sym first ∙ e)); same = λ _ _ h. same h }

  -- a last word
  end : {c : Call} {d : Done} → d.cleared ≡ false → is_last d.answer.word ≡ true → is_submitted d.answer.word ≡ false → Law c d
  end some last first = record { some = some; new = λ e. absurd (never (sym first ∙ e)); same = λ _ e _. absurd (never (sym e ∙ last)) }

  fields : Each s Law
  fields = record {
    submits = λ x. record { some = refl; new = λ _. ways.new (room_of s.list x.head) x; same = λ e _ _. absurd (never (sym e)) };
    withdraws = λ x. end refl refl refl;
    stops = λ x. rest refl refl (λ _. ways.stop_arb s.port (get_or s.list (slot_of s.list x.key) blank) (slot_of s.list x.key) x);
    stops_closing = λ x. rest refl refl (λ _. ways.stop_close s.port (get_or s.list (slot_of s.list x.key) blank) (slot_of s.list x.key) x);
    sends = λ x b w n. rest refl refl (λ _. ways.send s.port (get_or s.list b.slot blank) b x);
    opens = λ x b w n. rest refl refl (λ _. ways.begin s.port (get_or s.list b.slot blank) b x);
    closes = λ x b w n. rest refl refl (λ _. ways.close s.port (get_or s.list b.slot blank) b x);
    idles = λ x. rest refl refl (λ h. absurd (omega arith));
    opened_cancelled = λ x h e. rest refl refl (λ _. ways.opened_close s.port (phy_at s.port x.phy) (on_phy s.list s.port x.phy) x);
    opened_sends = λ x h e. rest refl refl (λ _. ways.opened_send s.port (phy_at s.port x.phy) (on_phy s.list s.port x.phy) x);
    failed_cancelled = λ x h e u v. end refl refl refl;
    failed_ends = λ x h e f v. end refl refl refl;
    failed_loses = λ x h e f g. end refl refl refl;
    failed_again = λ x h e f g. rest refl refl (λ _. ways.retried s.port (phy_at s.port x.phy) (on_phy s.list s.port x.phy) x);
    status_cancelled = λ x h e. end refl refl refl;
    status_ends = λ x h e. end refl refl refl;
    closed_cancelled = λ x h e. end refl refl refl;
    closed_ends = λ x h e. end refl refl refl;
    closed_free = λ x far t. rest refl refl (λ h. absurd (omega (arith, h, far)));
    enables = λ x. rest refl refl (λ h. absurd (omega arith));
    disabled_cancelled = λ x h e. end refl refl refl;
    disabled_waits = λ x h e. rest refl refl (λ _. ways.disabled s.port (phy_at s.port x.phy) (on_phy s.list s.port x.phy) x);
    disabled_free = λ x far t. rest refl refl (λ h. absurd (omega (arith, h, far)));
  }

  pub carries_by : Lawful s → (c : Call) → is_setup c ≡ false → is_refused (done_of c s).answer.word ≡ false → Law c (done_of c s)
  carries_by ok = by_each s ok Law fields

-- so it is a field that the history tells
abbrev pub field_of : (A : Type 0) (of : Request → A) (start : A) (step : Entry → A → A) → Kept A of start step → Field A
field_of A of start step ways = record { of = of; start = start; step = step; timers = ways.timers; laws = carries_by A of start step ways }
