-- The table does what each sentence of document 01 says: a row is looked up by computation, and an OPEN that crosses another goes by the
-- two numbers that priority compares. Assumes nothing.
use Rattle.std.specs.Prelude.{None, Option, Some}
use Prim.Native.Nat.{ℕ, ◌+◌, ◌<◌, min}
use mathlib.Core.Bool.{Bool, true, false, not, cond, ◌&&◌, ◌||◌}
use mathlib.Core.List.{List, [], ◌∷◌, append-nil}
use mathlib.Core.Path.{◌≡◌, refl, sym, ap, subst⁻¹, ◌∙◌}
use native.Mathlib.Omega.{arith}
use lib.Dec.{eqb, ltb}
use borrow.Author.Tests.{eq-eqb, ne_eqb, le-ltb, lt-ltb, not-true}
use Rattle.laws.proofs.Bools.{impossible, and_false, or_left}
use Rattle.laws.proofs.Tests.{equal, both, unless}
use Rattle.open_frame.specs.Priority.{higher_than}
use Rattle.open_frame.specs.declared.OpenFrame.{OpenFrame}
use Rattle.xl_parts.specs.declared.Phase.{Phase}
use Rattle.xl_parts.specs.declared.Phase.TheVariants.{Xl0, Xl1, Xl2, Xl3, Xl4, Xl5, Xl6, Xl7, Xl8, Xl9, Xl10}
use Rattle.xl_parts.specs.declared.Wait.{Wait}
use Rattle.xl_parts.specs.declared.Reject.{Reject}
use Rattle.xl_parts.specs.declared.Primitive.{Primitive}
use Rattle.xl_parts.specs.declared.Message.{Message}
use Rattle.xl_parts.specs.declared.Notice.{Notice}
use Rattle.xl_parts.specs.declared.BreakEvent.{BreakEvent}
use Rattle.xl_parts.specs.declared.Event.{Event}
use Rattle.xl_parts.specs.declared.Event.TheVariants.{Line, Router, Manager, Own, Break, Disable}
use Rattle.xl_parts.specs.declared.BreakAction.{BreakAction}
use Rattle.xl_parts.specs.declared.Action.{Action}
use Rattle.xl_parts.specs.declared.Action.TheVariants.{Send}
use Rattle.xl_parts.specs.declared.Memory.{Memory}
use Rattle.xl_parts.specs.declared.State.{State}
use Rattle.xl_parts.specs.Parts.{Effect, first, stay}
use Rattle.xl_rows.specs.Table.{comes_back, backoff, crossed, takes, unexpected}
use Rattle.xl_rows.specs.Sentences.{one_of, link, known, gives, listed_in, OneOfEight, no, bad, wrong, rate, protocol, blocked, busy, retry, BacksOff, Crosses, Sentences}

-- what holds of each state holds of any
pub by_phase : (P : Phase → Type 0) → P Xl0 → P Xl1 → P Xl2 → P Xl3 → P Xl4 → P Xl5 → P Xl6 → P Xl7 → P Xl8 → P Xl9 → P Xl10 → (p : Phase) → P p
by_phase P a b c d e f g h i j k Xl0 = a
by_phase P a b c d e f g h i j k Xl1 = b
by_phase P a b c d e f g h i j k Xl2 = c
by_phase P a b c d e f g h i j k Xl3 = d
by_phase P a b c d e f g h i j k Xl4 = e
by_phase P a b c d e f g h i j k Xl5 = f
by_phase P a b c d e f g h i j k Xl6 = g
by_phase P a b c d e f g h i j k Xl7 = h
by_phase P a b c d e f g h i j k Xl8 = i
by_phase P a b c d e f g h i j k Xl9 = j
by_phase P a b c d e f g h i j k Xl10 = k

module _ (f : OpenFrame) (m : Memory) (n : ℕ) where
  -- the event e, where document 01 does not list it, in the state p
  abbrev Unlisted : Event → Phase → Type 0
  Unlisted e p = one_of p (listed_in e) ≡ false → takes f e (link p m n) ≡ unexpected (link p m n)

  -- here it does
  listed : {A : Type 0} → true ≡ false → A
  listed e = impossible (sym e)

  on_line : (v : Primitive) (p : Phase) → Unlisted (Line v) p
  on_line Primitive.Open = by_phase (Unlisted (Line Primitive.Open)) listed (λ q. refl) (λ q. refl) (λ q. refl) (λ q. refl) listed listed (λ q. refl) (λ q. refl) (λ q. refl) (λ q. refl)
  on_line Primitive.OpenAccept = by_phase (Unlisted (Line Primitive.OpenAccept)) (λ q. refl) (λ q. refl) (λ q. refl) (λ q. refl) (λ q. refl) (λ q. refl) listed (λ q. refl) (λ q. refl) (λ q. refl) (λ q. refl)
  on_line (Primitive.OpenReject k) = by_phase (Unlisted (Line (Primitive.OpenReject k))) (λ q. refl) (λ q. refl) (λ q. refl) (λ q. refl) (λ q. refl) (λ q. refl) listed (λ q. refl) (λ q. refl) (λ q. refl) (λ q. refl)
  on_line (Primitive.Aip w) = by_phase (Unlisted (Line (Primitive.Aip w))) (λ q. refl) (λ q. refl) (λ q. refl) (λ q. refl) (λ q. refl) (λ q. refl) listed (λ q. refl) (λ q. refl) (λ q. refl) (λ q. refl)
  on_line Primitive.Close = by_phase (Unlisted (Line Primitive.Close)) (λ q. refl) (λ q. refl) (λ q. refl) (λ q. refl) (λ q. refl) (λ q. refl) (λ q. refl) listed listed (λ q. refl) (λ q. refl)

  by_router : (v : Message) (p : Phase) → Unlisted (Router v) p
  by_router Message.SendOpen = by_phase (Unlisted (Router Message.SendOpen)) listed (λ q. refl) (λ q. refl) (λ q. refl) (λ q. refl) (λ q. refl) (λ q. refl) (λ q. refl) (λ q. refl) (λ q. refl) (λ q. refl)
  by_router Message.SendClose = by_phase (Unlisted (Router Message.SendClose)) (λ q. refl) (λ q. refl) (λ q. refl) (λ q. refl) (λ q. refl) (λ q. refl) (λ q. refl) listed (λ q. refl) (λ q. refl) (λ q. refl)
  by_router (Message.ArbStatus w) = by_phase (Unlisted (Router (Message.ArbStatus w))) (λ q. refl) (λ q. refl) (λ q. refl) listed (λ q. refl) (λ q. refl) (λ q. refl) (λ q. refl) (λ q. refl) (λ q. refl) (λ q. refl)
  by_router Message.OpenAccept = by_phase (Unlisted (Router Message.OpenAccept)) (λ q. refl) (λ q. refl) (λ q. refl) listed (λ q. refl) (λ q. refl) (λ q. refl) (λ q. refl) (λ q. refl) (λ q. refl) (λ q. refl)
  by_router (Message.OpenReject k) = by_phase (Unlisted (Router (Message.OpenReject k))) (λ q. refl) (λ q. refl) (λ q. refl) listed (λ q. refl) (λ q. refl) (λ q. refl) (λ q. refl) (λ q. refl) (λ q. refl) (λ q. refl)
  by_router Message.BackoffRetry = by_phase (Unlisted (Router Message.BackoffRetry)) (λ q. refl) (λ q. refl) (λ q. refl) listed (λ q. refl) (λ q. refl) (λ q. refl) (λ q. refl) (λ q. refl) (λ q. refl) (λ q. refl)
  by_router Message.BackoffReversePath = by_phase (Unlisted (Router Message.BackoffReversePath)) (λ q. refl) (λ q. refl) (λ q. refl) listed (λ q. refl) (λ q. refl) (λ q. refl) (λ q. refl) (λ q. refl) (λ q. refl) (λ q. refl)

  by_itself : (v : Notice) (p : Phase) → Unlisted (Own v) p
  by_itself Notice.PathTimer = by_phase (Unlisted (Own Notice.PathTimer)) (λ q. refl) listed (λ q. refl) (λ q. refl) (λ q. refl) (λ q. refl) (λ q. refl) (λ q. refl) (λ q. refl) (λ q. refl) (λ q. refl)
  by_itself Notice.Sent = by_phase (Unlisted (Own Notice.Sent)) (λ q. refl) (λ q. refl) (λ q. refl) (λ q. refl) listed listed (λ q. refl) (λ q. refl) (λ q. refl) listed (λ q. refl)
  by_itself Notice.Forwarded = by_phase (Unlisted (Own Notice.Forwarded)) (λ q. refl) (λ q. refl) listed (λ q. refl) (λ q. refl) (λ q. refl) (λ q. refl) (λ q. refl) (λ q. refl) (λ q. refl) (λ q. refl)

  of_break : (v : BreakEvent) (p : Phase) → Unlisted (Break v) p
  of_break BreakEvent.Received = by_phase (Unlisted (Break BreakEvent.Received)) (λ q. refl) listed listed listed (λ q. refl) listed listed listed listed (λ q. refl) listed
  of_break BreakEvent.Routed = by_phase (Unlisted (Break BreakEvent.Routed)) (λ q. refl) (λ q. refl) (λ q. refl) listed (λ q. refl) (λ q. refl) listed listed listed (λ q. refl) (λ q. refl)
  of_break BreakEvent.Timeout = by_phase (Unlisted (Break BreakEvent.Timeout)) (λ q. refl) (λ q. refl) (λ q. refl) (λ q. refl) (λ q. refl) (λ q. refl) (λ q. refl) (λ q. refl) (λ q. refl) (λ q. refl) listed

  any : (e : Event) (p : Phase) → Unlisted e p
  any (Line v) = on_line v
  any (Router v) = by_router v
  any (Manager v) = by_phase (Unlisted (Manager v)) (λ q. refl) listed (λ q. refl) (λ q. refl) (λ q. refl) (λ q. refl) (λ q. refl) (λ q. refl) (λ q. refl) (λ q. refl) (λ q. refl)
  any (Own v) = by_itself v
  any (Break v) = of_break v
  any Disable = by_phase (Unlisted Disable) listed listed listed listed listed listed listed listed listed listed listed

-- one more, up to the largest
one_more : (p : Phase) (m : Memory) (n : ℕ) → n < 4294967295 → unexpected (link p m n) ≡ gives (link p m (n + 1)) []
one_more p m n l = let e : min (n + 1) 4294967295 ≡ n + 1 = omega (arith, l) in ap (λ (k : ℕ). gives (link p m k) []) e

-- the states of a connection, or of a path to one
joined : (P : Phase → Type 0) → P Xl3 → P Xl6 → P Xl7 → P Xl8 → (p : Phase) → one_of p (Xl3 ∷ Xl6 ∷ Xl7 ∷ Xl8 ∷ []) ≡ true → P p
joined P a b c d = by_phase (λ p. one_of p (Xl3 ∷ Xl6 ∷ Xl7 ∷ Xl8 ∷ []) ≡ true → P p) impossible impossible impossible (λ q. a) impossible impossible (λ q. b) (λ q. c) (λ q. d) impossible impossible

one_of_eight : (k : Reject) → OneOfEight k
one_of_eight Reject.NoDestination = no
one_of_eight Reject.BadDestination = bad
one_of_eight Reject.WrongDestination = wrong
one_of_eight Reject.Rate = rate
one_of_eight Reject.Protocol = protocol
one_of_eight Reject.PathwayBlocked = blocked
one_of_eight Reject.Busy = busy
one_of_eight Reject.Retry = retry

-- the OPEN g, where f was transmitted
module _ (f g : OpenFrame) where
  lower : g.awt.0 < f.awt.0 → higher_than g f ≡ false
  lower l = λ i. le-ltb f.awt.0 g.awt.0 (omega (arith, l)) i || (ne_eqb g.awt.0 f.awt.0 (λ e. omega (arith, e, l)) i && (ltb f.head.source g.head.source || (eqb g.head.source f.head.source && false)))

  behind : g.awt.0 ≡ f.awt.0 → higher_than g f ≡ ltb f.head.source g.head.source || (eqb g.head.source f.head.source && false)
  behind e = λ i. le-ltb f.awt.0 g.awt.0 (omega (arith, e)) i || (eq-eqb g.awt.0 f.awt.0 e i && (ltb f.head.source g.head.source || (eqb g.head.source f.head.source && false)))

  higher : f.awt.0 < g.awt.0 → higher_than g f ≡ true
  higher l = λ i. lt-ltb f.awt.0 g.awt.0 l i || (eqb g.awt.0 f.awt.0 && (ltb f.head.source g.head.source || (eqb g.head.source f.head.source && false)))

  -- behind the actions `lead`, in XL6
  module _ (lead : List Action) (m : Memory) (n : ℕ) where
    abbrev Back : Effect → Type 0
    Back = BacksOff f g lead m.heard m.close m.blocked n

    abbrev at : Option Wait → State
    at a = link Xl6 (known (Some f) m.heard a m.broke m.close m.blocked) n

    pub backs : (a : Option Wait) → Back (first lead (backoff f g (at a)))
    backs a = record {
      reverses = λ d r. rw (eq-eqb _ _ d, eq-eqb _ _ r);
      retries = λ off. rw (not-true (comes_back g f) ((unless (both (equal g.head.destination f.head.source) (equal g.head.rate f.head.rate))).1 off));
    }

    -- with no AIP seen the test is priority's alone
    tested : (t : Bool) → higher_than g f ≡ t → first lead (crossed (Some f) g (at None)) ≡ first lead (cond (not t) (stay [] (at None)) (backoff f g (at None)))
    tested t e = ap (λ (t : Bool). first lead (cond (not t) (stay [] (at None)) (backoff f g (at None)))) e

    pub stands : higher_than g f ≡ false → first lead (crossed (Some f) g (at None)) ≡ gives (at None) lead
    stands e = tested false e ∙ ap (λ (acts : List Action). gives (at None) acts) (append-nil lead)

    pub overtakes : higher_than g f ≡ true → (a : Option Wait) → Back (first lead (crossed (Some f) g (at a)))
    overtakes e None = subst⁻¹ Back (tested true e) (backs None)
    overtakes e (Some w) = backs (Some w)

    pub crosses : Crosses f g lead m.heard m.broke m.close m.blocked n (first lead (crossed (Some f) g (at None)))
    crosses = record {
      smaller = λ l. stands (lower l);
      not_larger = λ e l. stands (behind e ∙ (λ i. le-ltb f.head.source g.head.source l i || and_false (eqb g.head.source f.head.source) refl i));
      larger_wait = λ l. overtakes (higher l) None;
      larger_source = λ e l. overtakes (behind e ∙ or_left (eqb g.head.source f.head.source && false) (lt-ltb f.head.source g.head.source l)) None;
    }

pub sentences : (f : OpenFrame) (m : Memory) (n : ℕ) → Sentences takes f m n
sentences f m n = record {
  -- 01 XL.2
  unlisted = λ p e q l. any f m n e p q ∙ one_more p m n l;
  stops = λ p e q. any f m 4294967295 e p q;
  -- 01 XL.3
  disables = λ p. refl;
  -- 01 XL.5
  kinds = one_of_eight;
  -- 01 XL.7 01 XL.36
  break_received = joined (λ p. takes f (Break BreakEvent.Received) (link p m n) ≡ gives (link Xl9 m n) (Action.Break BreakAction.Send ∷ Action.Break BreakAction.Transmit ∷ [])) refl refl refl refl;
  break_routed = joined (λ p. takes f (Break BreakEvent.Routed) (link p m n) ≡ gives (link Xl10 m n) (Action.Break BreakAction.Transmit ∷ [])) refl refl refl refl;
  -- 01 XL.8 01 XL.10 01 XL.11
  open_in_0 = refl;
  -- 01 XL.9 01 XL.10
  send_open = refl;
  -- 01 XL.10 01 XL.12
  won = refl;
  -- 01 XL.10 01 XL.13
  lost = refl;
  -- 01 XL.14
  no_destination = refl;
  bad_destination = refl;
  bad_link_rate = refl;
  pathway_blocked = refl;
  -- 01 XL.15
  waiting_on_connection = refl;
  waiting_on_partial = refl;
  blocked_on_partial = refl;
  -- 01 XL.16
  timer_blocked = λ q. rw q;
  timer_else = λ q. rw q;
  -- 01 XL.17 01 XL.36
  break_in_1 = refl;
  -- 01 XL.18
  break_in_2 = refl;
  -- 01 XL.19
  forwarded = λ q. rw q;
  forwarded_broken = λ q. rw q;
  -- 01 XL.20
  status_in_3 = λ w. refl;
  -- 01 XL.21
  accept_in_3 = refl;
  -- 01 XL.10 01 XL.22
  reject_in_3 = λ k. refl;
  -- 01 XL.10 01 XL.11 01 XL.23
  retry_in_3 = refl;
  -- 01 XL.10 01 XL.24
  reverse_in_3 = refl;
  -- 01 XL.10 01 XL.25
  sent_in_4 = refl;
  -- 01 XL.26
  open_in_5 = refl;
  break_in_5 = refl;
  -- 01 XL.27
  sent_in_5 = λ q h. simp (q, h);
  sent_broken = λ q. rw q;
  sent_crosses = λ t g. crosses t g (Send (Message.ArbStatus Wait.Device) ∷ []) (known (Some t) None None false m.close m.blocked) n;
  sent_backs_off = λ t g w. backs t g (Send (Message.ArbStatus Wait.Device) ∷ []) (known (Some t) None None false m.close m.blocked) n (Some w);
  -- 01 XL.28
  accept_in_6 = refl;
  -- 01 XL.10 01 XL.29
  reject_in_6 = λ k. refl;
  -- 01 XL.30
  aip_in_6 = λ w. refl;
  -- 01 XL.31
  open_in_6 = λ t. crosses t f [] m n;
  -- 01 XL.32
  backs_off = λ t w. backs t f [] m n (Some w);
  -- 01 XL.33
  close_in_7 = λ q. simp q;
  second_close = λ q l. let e : takes f (Line Primitive.Close) (link Xl7 m n) ≡ unexpected (link Xl7 m n) = rw q in e ∙ one_more Xl7 m n l;
  -- 01 XL.10 01 XL.34
  closes_last = λ q. rw q;
  closes_first = λ q. rw q;
  -- 01 XL.10 01 XL.35
  close_in_8 = refl;
  -- 01 XL.10 01 XL.37
  sent_in_9 = refl;
  -- 01 XL.10 01 XL.38
  break_in_10 = refl;
  timeout_in_10 = refl;
}
