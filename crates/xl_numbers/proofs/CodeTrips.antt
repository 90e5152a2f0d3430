-- Every event that a code names is a member of its group's list, in the place of its kind, with its detail; an action is said as the event
-- that another link hears. Assumes nothing.
use Rattle.std.specs.Prelude.{None, Option, Some}
use Rattle.std.specs.Option.{option_map}
use Rattle.std.proofs.lemmas.Option.{none-some, same_Some}
use Prim.Native.Nat.{ℕ, ◌-◌, ◌≤◌, ◌<◌}
use mathlib.Core.Bool.{true, false, ◌&&◌}
use mathlib.Core.Path.{◌≡◌, refl, ap, ◌∙◌}
use native.Mathlib.Omega.{arith}
use lib.Dec.{eqb, ltb}
use borrow.Author.Tests.{ltb-true, ltb-false, eqb-true, eqb-false, lt-ltb}
use Rattle.laws.specs.Names.{Named}
use Rattle.laws.proofs.Bools.{by_test, and_left, and_right}
use Rattle.laws.proofs.Places.{each_at}
use Rattle.xl_parts.specs.declared.Primitive.{Primitive}
use Rattle.xl_parts.specs.declared.Message.{Message}
use Rattle.xl_parts.specs.declared.Confirmation.{Confirmation}
use Rattle.xl_parts.specs.declared.Notice.{Notice}
use Rattle.xl_parts.specs.declared.BreakEvent.{BreakEvent}
use Rattle.xl_parts.specs.declared.BreakAction.{BreakAction}
use Rattle.xl_parts.specs.declared.Event.{Event}
use Rattle.xl_parts.specs.declared.Event.TheVariants.{Line, Router, Manager, Own, Break, Disable}
use Rattle.xl_parts.specs.declared.Action.{Action}
use Rattle.xl_numbers.specs.declared.codes.Code.{Code}
use Rattle.xl_numbers.specs.Codes.{coded, event_number, up_to, line_events, router_events, manager_events, own_events, from_line, from_router, from_manager, own, event_of, said, action_number, heard, action_of}
use Rattle.xl_numbers.proofs.KindTrips.{wait_back, wait_at, reject_back, reject_at, denial_back, denial_at, arbitration_back, arbitration_at}

-- the code is that of whatever event is named
abbrev Right : ℕ → ℕ → Option Event → Type 0
Right d kind r = (e : Event) → r ≡ Some e → coded kind d ≡ event_number e

same_event : (e f : Event) → Some e ≡ Some f → event_number e ≡ event_number f
same_event e f p = ap event_number (same_Some e f p)

none : (d kind : ℕ) → Right d kind None
none d kind e p = absurd (none-some e p)

module _ (d : ℕ) where
  detailed : (details kind : ℕ) (e : Event) → (d < details → coded kind d ≡ event_number e) → Right d kind (up_to details d e)
  detailed details kind e h = by_test (Right d kind) (ltb d details) (λ t f p. h (ltb-true d details t) ∙ same_event e f p) (λ t. none d kind)

  plain : (kind : ℕ) (e : Event) → coded kind 0 ≡ event_number e → Right d kind (up_to 1 d e)
  plain kind e h = detailed 1 kind e (λ l. let z : d ≡ 0 = omega arith in ap (coded kind) z ∙ h)

  line : (kind : ℕ) → Right d kind (from_line kind d)
  line kind =
      each_at (Right d) None (none d) 0 (line_events d)
      (none d 0, (plain 1 (Line Primitive.Open) refl, (plain 2 (Line Primitive.OpenAccept) refl, (detailed 8 3 _ (λ l. ap (coded 3) (reject_at d l)), (detailed 4 4 _ (λ l. ap (coded 4) (wait_at d l)), (plain 5 (Line Primitive.Close) refl, (plain 6 (Break BreakEvent.Received) refl, tt)))))))
      kind kind (omega arith)

  router : (kind : ℕ) → 16 ≤ kind → Right d kind (from_router (kind - 16) d)
  router kind l =
      each_at (Right d) None (none d) 16 (router_events d)
      (plain 16 (Router Message.SendOpen) refl, (plain 17 (Router Message.SendClose) refl, (plain 18 (Break BreakEvent.Routed) refl, (detailed 4 19 _ (λ l. ap (coded 19) (wait_at d l)), (plain 20 (Router Message.OpenAccept) refl, (detailed 8 21 _ (λ l. ap (coded 21) (reject_at d l)), (plain 22 (Router Message.BackoffRetry) refl, (plain 23 (Router Message.BackoffReversePath) refl, tt))))))))
      (kind - 16) kind (omega arith)

  manager : (kind : ℕ) → 32 ≤ kind → Right d kind (from_manager (kind - 32) d)
  manager kind l =
      each_at (Right d) None (none d) 32 (manager_events d)
      (plain 32 (Manager Confirmation.ArbWon) refl, (plain 33 (Manager Confirmation.ArbLost) refl, (detailed 4 34 _ (λ l. ap (coded 34) (denial_at d l)), (detailed 3 35 _ (λ l. ap (coded 35) (arbitration_at d l)), tt))))
      (kind - 32) kind (omega arith)

  itself : (kind : ℕ) → 48 ≤ kind → Right d kind (own (kind - 48) d)
  itself kind l =
      each_at (Right d) None (none d) 48 (own_events d)
      (plain 48 (Own Notice.PathTimer) refl, (plain 49 (Own Notice.Sent) refl, (plain 50 (Own Notice.Forwarded) refl, (plain 51 (Break BreakEvent.Timeout) refl, tt))))
      (kind - 48) kind (omega arith)

  disable : (kind : ℕ) → kind ≡ 63 → Right d kind (up_to 1 d Disable)
  disable kind e = rw e (plain 63 Disable refl)

event_at : (c : Code) → Right c.detail c.kind (event_of c)
unfolding event_of
event_at c =
    let kind = c.kind in
    let d = c.detail in
    let R = Right d kind in
    by_test R (ltb kind 16) (λ t. line d kind)
    (λ t. by_test R (ltb kind 32) (λ u. router d kind (ltb-false kind 16 t))
    (λ u. by_test R (ltb kind 48) (λ v. manager d kind (ltb-false kind 32 u))
    (λ v. by_test R (eqb kind 63) (λ w. disable d kind (eqb-true kind 63 w)) (λ w. itself d kind (ltb-false kind 48 v)))))

event_back : (e : Event) → event_of (event_number e) ≡ Some e
unfolding event_of
event_back (Line Primitive.Open) = refl
event_back (Line Primitive.OpenAccept) = refl
event_back (Line (Primitive.OpenReject k)) = rw (lt-ltb _ 8 (reject_back k).0, (reject_back k).1)
event_back (Line (Primitive.Aip w)) = rw (lt-ltb _ 4 (wait_back w).0, (wait_back w).1)
event_back (Line Primitive.Close) = refl
event_back (Router Message.SendOpen) = refl
event_back (Router Message.SendClose) = refl
event_back (Router (Message.ArbStatus w)) = rw (lt-ltb _ 4 (wait_back w).0, (wait_back w).1)
event_back (Router Message.OpenAccept) = refl
event_back (Router (Message.OpenReject k)) = rw (lt-ltb _ 8 (reject_back k).0, (reject_back k).1)
event_back (Router Message.BackoffRetry) = refl
event_back (Router Message.BackoffReversePath) = refl
event_back (Manager Confirmation.ArbWon) = refl
event_back (Manager Confirmation.ArbLost) = refl
event_back (Manager (Confirmation.ArbReject d)) = rw (lt-ltb _ 4 (denial_back d).0, (denial_back d).1)
event_back (Manager (Confirmation.Arbitrating a)) = rw (lt-ltb _ 3 (arbitration_back a).0, (arbitration_back a).1)
event_back (Own Notice.PathTimer) = refl
event_back (Own Notice.Sent) = refl
event_back (Own Notice.Forwarded) = refl
event_back (Break BreakEvent.Received) = refl
event_back (Break BreakEvent.Routed) = refl
event_back (Break BreakEvent.Timeout) = refl
event_back Disable = refl

pub event_named : Named (λ (c : Code) (e : Event). event_of c ≡ Some e) event_number
event_named c e = (event_at c e, (λ q. rw q (event_back e)))

-- what is said has the numbers of what is heard
same_action : (a b : Option Action) → Some a ≡ Some b → action_number a ≡ action_number b
same_action a b p = ap action_number (same_Some a b p)

said_as : (e : Event) (a : Option Action) → option_map Some (said e) ≡ Some a → event_number e ≡ action_number a
said_as (Line p) a h = same_action (Some (Action.Transmit p)) a h
said_as (Router m) a h = same_action (Some (Action.Send m)) a h
said_as (Manager c) a h = absurd (none-some a h)
said_as (Own n) a h = absurd (none-some a h)
said_as (Break BreakEvent.Received) a h = same_action (Some (Action.Break BreakAction.Transmit)) a h
said_as (Break BreakEvent.Routed) a h = same_action (Some (Action.Break BreakAction.Send)) a h
said_as (Break BreakEvent.Timeout) a h = absurd (none-some a h)
said_as Disable a h = absurd (none-some a h)

heard_as : (c : Code) (r : Option Event) → event_of c ≡ r → (a : Option Action) → heard r ≡ Some a → c ≡ action_number a
heard_as c (Some e) q a h = event_at c e q ∙ said_as e a h
heard_as c None q a h = absurd (none-some a h)

requests : (c : Code) → c.kind ≡ 40 → c.detail < 2 → c ≡ action_number (Some (Action.RequestPath (eqb c.detail 1)))
requests c k l =
    by_test (λ (n : ℕ). c ≡ coded 40 n) (eqb c.detail 1) (λ t. λ i. coded (k i) (eqb-true c.detail 1 t i))
    (λ t. let z : c.detail ≡ 0 = omega (arith, eqb-false c.detail 1 t) in λ i. coded (k i) (z i))

action_at : (c : Code) (a : Option Action) → action_of c ≡ Some a → c ≡ action_number a
unfolding action_of
action_at c =
    let kind = c.kind in
    let d = c.detail in
    let R : Option (Option Action) → Type 0 = λ r. (a : Option Action) → r ≡ Some a → c ≡ action_number a in
    by_test R (eqb kind 0 && eqb d 0)
    (λ t a h. (λ i. coded (eqb-true kind 0 (and_left (eqb kind 0) (eqb d 0) t) i) (eqb-true d 0 (and_right (eqb kind 0) (eqb d 0) t) i)) ∙ same_action None a h)
    (λ t. by_test R (eqb kind 40 && ltb d 2)
    (λ u a h. requests c (eqb-true kind 40 (and_left (eqb kind 40) (ltb d 2) u)) (ltb-true d 2 (and_right (eqb kind 40) (ltb d 2) u)) ∙ same_action (Some (Action.RequestPath (eqb d 1))) a h)
    (λ u. heard_as c (event_of c) refl))

action_back : (a : Option Action) → action_of (action_number a) ≡ Some a
unfolding action_of
action_back None = refl
action_back (Some (Action.Transmit Primitive.Open)) = ap heard (event_back (Line Primitive.Open))
action_back (Some (Action.Transmit Primitive.OpenAccept)) = ap heard (event_back (Line Primitive.OpenAccept))
action_back (Some (Action.Transmit (Primitive.OpenReject k))) = ap heard (event_back (Line (Primitive.OpenReject k)))
action_back (Some (Action.Transmit (Primitive.Aip w))) = ap heard (event_back (Line (Primitive.Aip w)))
action_back (Some (Action.Transmit Primitive.Close)) = ap heard (event_back (Line Primitive.Close))
action_back (Some (Action.Send Message.SendOpen)) = ap heard (event_back (Router Message.SendOpen))
action_back (Some (Action.Send Message.SendClose)) = ap heard (event_back (Router Message.SendClose))
action_back (Some (Action.Send (Message.ArbStatus w))) = ap heard (event_back (Router (Message.ArbStatus w)))
action_back (Some (Action.Send Message.OpenAccept)) = ap heard (event_back (Router Message.OpenAccept))
action_back (Some (Action.Send (Message.OpenReject k))) = ap heard (event_back (Router (Message.OpenReject k)))
action_back (Some (Action.Send Message.BackoffRetry)) = ap heard (event_back (Router Message.BackoffRetry))
action_back (Some (Action.Send Message.BackoffReversePath)) = ap heard (event_back (Router Message.BackoffReversePath))
action_back (Some (Action.RequestPath true)) = refl
action_back (Some (Action.RequestPath false)) = refl
action_back (Some (Action.Break BreakAction.Transmit)) = ap heard (event_back (Break BreakEvent.Received))
action_back (Some (Action.Break BreakAction.Send)) = ap heard (event_back (Break BreakEvent.Routed))

pub action_named : Named (λ (c : Code) (a : Option Action). action_of c ≡ Some a) action_number
action_named c a = (action_at c a, (λ q. rw q (action_back a)))
