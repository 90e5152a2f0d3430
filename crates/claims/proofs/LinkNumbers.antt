-- The numbers of what a link hears, does and remembers: each table is read backwards by its own list, as crate xl_numbers shows. Assumes nothing.
use Rattle.refusals.specs.declared.Refusal.{Refusal}
use Rattle.std.specs.Prelude.{Option, Result, Some}
use Prim.Native.Nat.{ℕ, ◌<◌}
use mathlib.Core.List.{[], ◌∷◌, map}
use mathlib.Core.Path.{◌≡◌, refl}
use Rattle.xl_parts.specs.declared.Phase.{Phase}
use Rattle.xl_parts.specs.declared.Wait.{Wait}
use Rattle.xl_parts.specs.declared.Reject.{Reject}
use Rattle.xl_parts.specs.declared.Denial.{Denial}
use Rattle.xl_parts.specs.declared.Arbitration.{Arbitration}
use Rattle.xl_parts.specs.declared.Primitive.{Primitive}
use Rattle.xl_parts.specs.declared.Message.{Message}
use Rattle.xl_parts.specs.declared.BreakEvent.{BreakEvent}
use Rattle.xl_parts.specs.declared.BreakAction.{BreakAction}
use Rattle.xl_parts.specs.declared.Event.{Event}
use Rattle.xl_parts.specs.declared.Action.{Action}
use Rattle.xl_parts.specs.declared.LinkStatus.{LinkStatus}
use Rattle.xl_numbers.specs.declared.codes.Code.{Code}
use Rattle.laws.specs.Names.{Named}
use Rattle.xl_numbers.specs.Details.{wait_number, wait_of, reject_number, reject_of, denial_number, denial_of, arbitration_number, arbitration_of}
use Rattle.xl_parts.specs.Parts.{phase_number}
use Rattle.xl_numbers.specs.States.{phase_of, aip_number, aip_of, status_number}
use Rattle.xl_numbers.specs.Codes.{event_number, event_of, action_number, action_of}
use Rattle.xl_numbers.proofs.KindTrips.{wait_named, reject_named, denial_named, arbitration_named}
use Rattle.xl_numbers.proofs.StateTrips.{phase_named, aip_named, one_status}
use Rattle.xl_numbers.specs.Typed.{typed_events, typed_codes, typed_actions, typed_action_codes, typed_rejects, typed_waits, typed_denials, typed_arbitrations, typed_phases, typed_aips, typed_statuses}
use Rattle.xl_numbers.proofs.CodeTrips.{event_named, action_named}
use Rattle.xl_numbers.proofs.Typed.{events_typed, actions_typed, rejects_typed, waits_typed, denials_typed, arbitrations_typed, phases_typed, aips_typed, statuses_typed}

-- a number names a value exactly if it is the value's own
pub record LinkNumbers : Type 0 where
  pub phases : Named (λ (n : ℕ) (p : Phase). phase_of n ≡ Some p) phase_number
  pub aips : Named (λ (n : ℕ) (a : Option Wait). aip_of n ≡ Some a) aip_number
  pub events : Named (λ (c : Code) (e : Event). event_of c ≡ Some e) event_number
  pub actions : Named (λ (c : Code) (a : Option Action). action_of c ≡ Some a) action_number
  -- the kinds within these
  pub waits : Named (λ (n : ℕ) (w : Wait). (n < 4) × (wait_of n ≡ w)) wait_number
  pub rejects : Named (λ (n : ℕ) (k : Reject). (n < 8) × (reject_of n ≡ k)) reject_number
  pub denials : Named (λ (n : ℕ) (d : Denial). (n < 4) × (denial_of n ≡ d)) denial_number
  pub arbitrations : Named (λ (n : ℕ) (a : Arbitration). (n < 3) × (arbitration_of n ≡ a)) arbitration_number
  -- no two statuses share a number
  pub statuses : (a b : Result LinkStatus Refusal) → status_number a ≡ status_number b → a ≡ b
  -- what one link says has the numbers of what another hears
  pub transmitted : (p : Primitive) → action_number (Some (Action.Transmit p)) ≡ event_number (Event.Line p)
  pub sent : (m : Message) → action_number (Some (Action.Send m)) ≡ event_number (Event.Router m)
  pub broken : action_number (Some (Action.Break BreakAction.Transmit)) ≡ event_number (Event.Break BreakEvent.Received)
  pub routed : action_number (Some (Action.Break BreakAction.Send)) ≡ event_number (Event.Break BreakEvent.Routed)
  -- and the numbers are those that are typed a second time
  pub typed_events_lem : map event_number typed_events ≡ typed_codes
  pub typed_actions_lem : map action_number typed_actions ≡ typed_action_codes
  pub typed_rejects_lem : map reject_number typed_rejects ≡ 0 ∷ 1 ∷ 2 ∷ 3 ∷ 4 ∷ 5 ∷ 6 ∷ 7 ∷ []
  pub typed_waits_lem : map wait_number typed_waits ≡ 0 ∷ 1 ∷ 2 ∷ 3 ∷ []
  pub typed_denials_lem : map denial_number typed_denials ≡ 0 ∷ 1 ∷ 2 ∷ 3 ∷ []
  pub typed_arbitrations_lem : map arbitration_number typed_arbitrations ≡ 0 ∷ 1 ∷ 2 ∷ []
  pub typed_phases_lem : map phase_number typed_phases ≡ 0 ∷ 1 ∷ 2 ∷ 3 ∷ 4 ∷ 5 ∷ 6 ∷ 7 ∷ 8 ∷ 9 ∷ 10 ∷ []
  pub typed_aips_lem : map aip_number typed_aips ≡ 0 ∷ 1 ∷ 2 ∷ 3 ∷ 4 ∷ []
  pub typed_statuses_lem : map status_number typed_statuses ≡ 48 ∷ 49 ∷ 50 ∷ 51 ∷ []

pub link_numbers : LinkNumbers
link_numbers = record {
  phases = phase_named;
  aips = aip_named;
  events = event_named;
  actions = action_named;
  waits = wait_named;
  rejects = reject_named;
  denials = denial_named;
  arbitrations = arbitration_named;
  statuses = one_status;
  transmitted = λ p. refl;
  sent = λ m. refl;
  broken = refl;
  routed = refl;
  typed_events_lem = events_typed;
  typed_actions_lem = actions_typed;
  typed_rejects_lem = rejects_typed;
  typed_waits_lem = waits_typed;
  typed_denials_lem = denials_typed;
  typed_arbitrations_lem = arbitrations_typed;
  typed_phases_lem = phases_typed;
  typed_aips_lem = aips_typed;
  typed_statuses_lem = statuses_typed;
}
