-- Each table gives the numbers that are typed, by its definition. Assumes nothing.
use mathlib.Core.Path.{◌≡◌, refl}
use mathlib.Core.List.{[], ◌∷◌, map}
use Rattle.xl_parts.specs.Parts.{phase_number}
use Rattle.xl_numbers.specs.Details.{wait_number, reject_number, denial_number, arbitration_number}
use Rattle.xl_numbers.specs.States.{aip_number, status_number}
use Rattle.xl_numbers.specs.Codes.{event_number, action_number}
use Rattle.xl_numbers.specs.Typed.{typed_events, typed_codes, typed_actions, typed_action_codes, typed_rejects, typed_waits, typed_denials, typed_arbitrations, typed_phases, typed_aips, typed_statuses}

pub events_typed : map event_number typed_events ≡ typed_codes
events_typed = refl

pub actions_typed : map action_number typed_actions ≡ typed_action_codes
actions_typed = refl

-- 01 XL.5
pub rejects_typed : map reject_number typed_rejects ≡ 0 ∷ 1 ∷ 2 ∷ 3 ∷ 4 ∷ 5 ∷ 6 ∷ 7 ∷ []
rejects_typed = refl

pub waits_typed : map wait_number typed_waits ≡ 0 ∷ 1 ∷ 2 ∷ 3 ∷ []
waits_typed = refl

pub denials_typed : map denial_number typed_denials ≡ 0 ∷ 1 ∷ 2 ∷ 3 ∷ []
denials_typed = refl

pub arbitrations_typed : map arbitration_number typed_arbitrations ≡ 0 ∷ 1 ∷ 2 ∷ []
arbitrations_typed = refl

-- 01 XL.4
pub phases_typed : map phase_number typed_phases ≡ 0 ∷ 1 ∷ 2 ∷ 3 ∷ 4 ∷ 5 ∷ 6 ∷ 7 ∷ 8 ∷ 9 ∷ 10 ∷ []
phases_typed = refl

pub aips_typed : map aip_number typed_aips ≡ 0 ∷ 1 ∷ 2 ∷ 3 ∷ 4 ∷ []
aips_typed = refl

pub statuses_typed : map status_number typed_statuses ≡ 48 ∷ 49 ∷ 50 ∷ 51 ∷ []
statuses_typed = refl
