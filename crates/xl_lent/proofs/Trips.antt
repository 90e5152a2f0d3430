-- A state is shown as numbers that say it, and numbers that say a state are those that it is shown as: member by member, by the tables of
-- crate xl_numbers. Assumes nothing.
use Rattle.xl_parts.specs.declared.Wait.{Wait}
use Rattle.xl_parts.specs.declared.Action.{Action}
use Rattle.open_frame.specs.declared.OpenFrame.{OpenFrame}
use Rattle.std.specs.Prelude.{is_some, None, Option, Some}
use Prim.Native.Nat.{ℕ, ◌<◌}
use mathlib.Core.Bool.{true}
use mathlib.Core.List.{[], ◌∷◌, map}
use mathlib.Core.Path.{◌≡◌, refl, sym, ap}
use native.Mathlib.Omega.{arith}
use lib.Dec.{eqb}
use borrow.Author.Tests.{eqb-true, eqb-false}
use Rattle.laws.proofs.Bools.{by_test, and_left, and_right}
use Rattle.open_lent.specs.declared.Open.{Open}
use Rattle.open_lent.proofs.Trips as frame-trips
use Rattle.xl_parts.specs.declared.Phase.{Phase}
use Rattle.xl_parts.specs.declared.State.{State}
use Rattle.xl_parts.specs.Parts.{Actions, phase_number, ready}
use Rattle.xl_numbers.specs.States.{phases, phase_of, aip_number, aips, aip_of}
use Rattle.xl_numbers.specs.Codes.{action_number, action_of}
use Rattle.laws.proofs.Names.{flag_back, flag_at}
use Rattle.laws.proofs.Places.{each_within}
use Rattle.xl_numbers.proofs.KindTrips.{wait_back}
use Rattle.xl_numbers.proofs.StateTrips.{phase_named, aip_named}
use Rattle.xl_numbers.proofs.CodeTrips.{action_named}
use Rattle.xl.specs.Rules.{fielded, keeps_rules}
use Rattle.xl_lent.specs.declared.Link.{Link}
use Rattle.xl_lent.specs.Lent.{phase_in, aip_in, held_of, held_number, frame_shown, state_of, shown, formed, coded, zeros, NarrowHeld, Narrow}
use Rattle.xl_lent.specs.Formed.{WellHeld}
use Rattle.xl_lent.specs.Typed.{typed_link, typed_state, blocked_link, blocked_state, closed_link, closed_state}
use Rattle.xl_lent.proofs.Says.{formed_says}

-- ---- what is typed a second time

-- all zeros is XL0 with nothing remembered
pub zeros_ready : state_of zeros ≡ ready
zeros_ready = refl

pub ready_zeros : shown ready ≡ zeros
ready_zeros = refl

pub typed_says : state_of typed_link ≡ typed_state
typed_says = refl

pub blocked_says : state_of blocked_link ≡ blocked_state
blocked_says = refl

pub closed_says : state_of closed_link ≡ closed_state
closed_says = refl

pub typed_shown : shown typed_state ≡ typed_link
typed_shown = refl

pub blocked_shown : shown blocked_state ≡ blocked_link
blocked_shown = refl

pub closed_shown : shown closed_state ≡ closed_link
closed_shown = refl

-- ---- from a state to its numbers and back

phase_back : (p : Phase) → phase_in (phase_of (phase_number p)) ≡ p
phase_back p = ap phase_in ((phase_named (phase_number p) p).1 refl)

aip_back : (a : Option Wait) → aip_in (aip_of (aip_number a)) ≡ a
aip_back a = ap aip_in ((aip_named (aip_number a) a).1 refl)

held_back : (h : Option OpenFrame) → NarrowHeld h → held_of (held_number h) (frame_shown h) ≡ h
held_back None n = refl
held_back (Some f) n = ap Some (frame-trips.frame_back f n)

pub state_back : (s : State) → Narrow s → state_of (shown s) ≡ s
state_back s n =
    let m = s.memory in
    let phase = phase_back s.phase in
    let held = held_back m.held n.held in
    let heard = held_back m.heard n.heard in
    let aip = aip_back m.aip in
    let broke = (flag_back m.broke).1 in
    let close = (flag_back m.close).1 in
    let blocked = (flag_back m.blocked).1 in
    λ i. record {
      phase = phase i;
      memory = record { held = held i; heard = heard i; aip = aip i; broke = broke i; close = close i; blocked = blocked i };
      count = s.count;
    }

-- a state that keeps the rules has frames of OPEN's fields
narrow_held : (h : Option OpenFrame) → fielded h ≡ true → NarrowHeld h
narrow_held None ok = tt
narrow_held (Some f) ok = frame-trips.narrow f ok

pub narrow : (s : State) → keeps_rules s ≡ true → Narrow s
unfolding keeps_rules
narrow s ok =
    let rest = and_right (fielded s.memory.held) _ ok in
    record { held = narrow_held s.memory.held (and_left (fielded s.memory.held) _ ok); heard = narrow_held s.memory.heard (and_left (fielded s.memory.heard) _ rest) }

-- ---- what is shown says a state

phase_small : (p : Phase) → phase_number p < 11
phase_small Phase.Xl0 = omega arith
phase_small Phase.Xl1 = omega arith
phase_small Phase.Xl2 = omega arith
phase_small Phase.Xl3 = omega arith
phase_small Phase.Xl4 = omega arith
phase_small Phase.Xl5 = omega arith
phase_small Phase.Xl6 = omega arith
phase_small Phase.Xl7 = omega arith
phase_small Phase.Xl8 = omega arith
phase_small Phase.Xl9 = omega arith
phase_small Phase.Xl10 = omega arith

aip_small : (a : Option Wait) → aip_number a < 5
aip_small None = omega arith
aip_small (Some w) = omega (arith, (wait_back w).0)

well_shown : (h : Option OpenFrame) → WellHeld (held_number h) (frame_shown h)
well_shown None = record { zero4 = refl; zero2 = refl; zero1 = refl; absent = λ off. refl }
well_shown (Some f) = record { zero4 = refl; zero2 = refl; zero1 = refl; absent = λ off. absurd (off refl) }

pub shown_formed : (s : State) → formed (shown s) ≡ true
shown_formed s =
    let m = s.memory in
    (formed_says (shown s)).1
    (record {
      phase = phase_small s.phase;
      holds = (flag_back (is_some m.held)).0;
      hears = (flag_back (is_some m.heard)).0;
      aip = aip_small m.aip;
      broke = (flag_back m.broke).0;
      close = (flag_back m.close).0;
      blocked = (flag_back m.blocked).0;
      zero4 = refl;
      zero1 = refl;
      held = well_shown m.held;
      heard = well_shown m.heard;
    })

-- ---- from numbers to the state that they say and back

phase_at : (n : ℕ) → n < 11 → n ≡ phase_number (phase_in (phase_of n))
phase_at n l =
    each_within (λ (n : ℕ) (r : Option Phase). n ≡ phase_number (phase_in r)) None 0 phases
    (refl, (refl, (refl, (refl, (refl, (refl, (refl, (refl, (refl, (refl, (refl, tt)))))))))))
    n n (omega arith) l

aip_at : (n : ℕ) → n < 5 → n ≡ aip_number (aip_in (aip_of n))
aip_at n l =
    each_within (λ (n : ℕ) (r : Option (Option Wait)). n ≡ aip_number (aip_in r)) None 0 aips
    (refl, (refl, (refl, (refl, (refl, tt)))))
    n n (omega arith) l

held_at : (n : ℕ) (o : Open) → n < 2 → n ≡ held_number (held_of n o)
held_at n o l = by_test (λ (h : Option OpenFrame). n ≡ held_number h) (eqb n 1) (eqb-true n 1) (λ e. let z : n ≡ 0 = omega (arith, eqb-false n 1 e) in z)

frame_at : (n : ℕ) (o : Open) → WellHeld n o → NarrowHeld (held_of n o) → frame_shown (held_of n o) ≡ o
frame_at n o w = by_test (λ (h : Option OpenFrame). NarrowHeld h → frame_shown h ≡ o) (eqb n 1)
    (λ e. frame-trips.lent_back o ((frame-trips.formed_says o).1 (w.zero4, (w.zero2, w.zero1))))
    (λ e _. sym (w.absent (eqb-false n 1 e)))

pub lent_back : (l : Link) → formed l ≡ true → Narrow (state_of l) → shown (state_of l) ≡ l
lent_back l ok n =
    let w = (formed_says l).0 ok in
    let held = frame_at l.holds l.held w.held n.held in
    let heard = frame_at l.hears l.heard w.heard n.heard in
    let phase = sym (phase_at l.phase w.phase) in
    let holds = sym (held_at l.holds l.held w.holds) in
    let hears = sym (held_at l.hears l.heard w.hears) in
    let aip = sym (aip_at l.aip w.aip) in
    let broke = sym (flag_at l.broke w.broke) in
    let close = sym (flag_at l.close w.close) in
    let blocked = sym (flag_at l.blocked w.blocked) in
    let zero4 = sym w.zero4 in
    let zero1 = sym w.zero1 in
    λ i. record {
      held = held i;
      heard = heard i;
      unexpected = l.unexpected;
      zero4 = zero4 i;
      phase = phase i;
      holds = holds i;
      hears = hears i;
      aip = aip i;
      broke = broke i;
      close = close i;
      blocked = blocked i;
      zero1 = zero1 i;
    }

-- ---- actions

-- the numbers of a step's four actions name each of them, in order
pub four_back : (a b c d : Option Action) → map action_of (coded (a ∷ b ∷ c ∷ d ∷ [])) ≡ Some a ∷ Some b ∷ Some c ∷ Some d ∷ []
four_back a b c d = λ i. back a i ∷ back b i ∷ back c i ∷ back d i ∷ []
  where
    back : (a : Option Action) → action_of (action_number a) ≡ Some a
    back a = (action_named (action_number a) a).1 refl

-- and so of any list of actions
pub actions_back : (acts : Actions) → map action_of (coded acts) ≡ map Some acts
actions_back [] = refl
actions_back (a ∷ acts) = λ i. (action_named (action_number a) a).1 refl i ∷ actions_back acts i
