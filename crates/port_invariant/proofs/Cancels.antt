-- Cancel frees a waiting request, and marks one in progress, whose phy goes on naming it: a phy with its frame out becomes a closing one.
-- Assumes nothing.
use Rattle.port_invariant.proofs.Spreads.{none_changes}
use Prim.Native.Nat.{ℕ, ◌≤◌, ◌<◌}
use mathlib.Core.Path.{◌≡◌, refl}
use mathlib.Core.Bool.{true, false}
use mathlib.Core.Logic.{inl, inr}
use mathlib.Core.List.{List}
use native.Mathlib.Omega.{arith}
use lib.ListN.{length, get_or}
use borrow.Author.Tests.{eqb-true, eqb-false}
use Rattle.laws.proofs.Bools.{never, by_test}
use Rattle.port_parts.specs.Parts.{blank, is_sending, is_opening, is_waiting}
use Rattle.port_parts.specs.declared.Phy.{Phy}
use Rattle.port_parts.specs.declared.Port.{Port}
use Rattle.port_parts.specs.declared.Request.{Request}
use Rattle.port_rules.specs.Kept.{PhyKept, Free, Present, Kept}
use Rattle.port_rows.specs.Answers.{staged_phy, no_loss}
use Rattle.port_rows.specs.Changed.{marked}
use Rattle.port_rows.specs.Calls.{phy_at, closing_phy, cancelled}
use Rattle.port_rows.specs.declared.Done.{Done}
use Rattle.port.specs.Calls.{left_of}
use Rattle.port_invariant.proofs.Changes.{changed}
use Rattle.port_invariant.proofs.Enters.{free_enters, same_enters}
use Rattle.port_invariant.proofs.Holds.{old_retry, old_first, old_loss, present_as, busy_kept, present_at, in_progress, its_phy, its_name, number_low}
use Rattle.port_invariant.proofs.Lates.{waits_on}
use Rattle.port_invariant.proofs.Links.{stay}
use Rattle.port_invariant.proofs.Ways.{ended_by, stopped_by, by_cancelled}

marked_present : (r : Request) (last now : ℕ) → last ≤ now → r.stage ≡ 2 → Present r last → Present (marked r 1 r.closed) now
marked_present r last now on busy was =
    present_as r last now on was (marked r 1 r.closed) refl refl was.flags.stage (omega arith) (λ e. busy) was.flags.closed (old_retry r last now on was) (old_first r last now on was) (old_loss r last now on was) was.loss

module _ (p : Port) (l : List Request) (size : length l ≡ 32) (eight : length p.phys ≡ 8) (was : Kept p l) (i now : ℕ) (low : i < 32) (on : p.last ≤ now) (there : Free (get_or l i blank) → ⊥) where
  abbrev r : Request
  r = get_or l i blank

  abbrev f : Phy
  f = phy_at p r.phy

  abbrev Keeps : Done → Type 0
  Keeps d = Kept d.port (left_of l d)

  held : Present r p.last
  held = present_at p l was i low there

  freed : is_waiting r ≡ true → Keeps (ended_by p r i now)
  freed w =
      let d = ended_by p r i now in
      let waits = eqb-true r.stage 1 w in
      waits_on p l size eight was d.answer blank now on (λ h e. omega arith) (λ e. omega arith) (λ h. free_enters p l i no_loss now) d.port

  module _ (off : is_waiting r ≡ false) where
    busy : r.stage ≡ 2
    busy = in_progress p l was i low there (eqb-false r.stage 1 off)

    in_port : r.phy < 8
    in_port = its_phy p l was i low busy

    named : f.slot ≡ i
    named = its_name p l was i low busy

    closed_kept : PhyKept p.count (closing_phy f) r.phy
    closed_kept = by_test (λ (n : ℕ). PhyKept p.count (staged_phy n f.slot f) r.phy) (is_sending f) sending same
      where
        old : PhyKept p.count f r.phy
        old = was.phys r.phy in_port

        sending : is_sending f ≡ true → PhyKept p.count (staged_phy 6 f.slot f) r.phy
        sending s =
            let out = eqb-true f.stage 4 s in
            busy_kept p.count (staged_phy 6 f.slot f) r.phy (number_low p l was r.phy in_port (λ e. omega arith)) (omega arith) old.protocol (omega (arith, named)) (inl (inr (inr refl)))

        same : is_sending f ≡ false → PhyKept p.count (staged_phy f.stage f.slot f) r.phy
        same s = record { stage = old.stage; protocol = old.protocol; slot = old.slot; must = old.must; may = old.may; past = old.past }

    marks : Keeps (stopped_by p r i now (is_opening f))
    marks =
        changed p l size eight was r.phy (closing_phy f) d.answer (marked r 1 r.closed) no_loss now (record {
          number = in_port;
          time = on;
          timer = λ y c. none_changes c;
          phy = closed_kept;
          linked = stay f (closing_phy f) r.phy r (marked r 1 r.closed) i refl refl refl (was.requests i low).paired.phy ((was.requests i low).paired.each r.phy in_port);
          entered = λ h. same_enters p l was i low there (marked r 1 r.closed) now refl refl (marked_present r p.last now on busy held);
        }) d.port
      where
        d : Done
        d = stopped_by p r i now (is_opening f)

  pub cancel_keeps : Keeps (cancelled p r i now)
  cancel_keeps = by_cancelled Keeps p r i now freed marks
