-- The records before the walk and behind it stay as they were, and each turn leaves one as `left_step` says; a call that frees all has no
-- walk. Assumes nothing.
use Rattle.std.proofs.Common.{ℕ, ◌≡◌, ◌<◌, ◌≤◌, get_or, set, length, replicate, List, arith, sym, ap, ◌∙◌}
use Rattle.port_parts.specs.Parts.{blank}
use Rattle.port_parts.specs.declared.Request.{Request}
use Rattle.port_rows.specs.Records.{left_step}
use Rattle.port.specs.Walk.{walk_from, walk_to}
use Rattle.port_list.proofs.Leave.{folded, folded_none, folded_still, folded_next}
use Rattle.port.proofs.Still.{ordered as in_order, within, before, behind, freed}
use Rattle.port.proofs.leaves.left.Goals as goal

pub loop-i-init : goal.loop-i-init
loop-i-init c =
    let d = c.args.d in
    let l = c.args.list.now in
    let o = in_order d in
    record {
      from = omega arith;
      ordered = omega arith;
      so_far =
          folded_none left_step l d
          ∙ sym (folded_still left_step l d 0 (walk_from d) (omega arith) (λ (r : Request) (i : ℕ) (lo : 0 ≤ i) (hi : i < walk_from d). before d r i hi))
          ∙ ap (folded left_step l d) (sym c.walk_from-i.ensures);
    }

pub slice_copy_out-left_step : goal.slice_copy_out-left_step
slice_copy_out-left_step c = let w = within c.args.d in omega arith

pub bounds-list-i : goal.bounds-list-i
bounds-list-i c = let w = within c.args.d in omega arith

pub offset_bounds-list-i : goal.offset_bounds-list-i
offset_bounds-list-i c = let w = within c.args.d in omega arith

pub offset_bounds-list-i-in-loop-i : goal.offset_bounds-list-i-in-loop-i
offset_bounds-list-i-in-loop-i c = let w = within c.args.d in omega arith

pub loop-i-preserved : goal.loop-i-preserved
loop-i-preserved c =
    let l = c.loop-i in
    record {
      from = omega arith;
      ordered = omega arith;
      so_far =
          ap (set l.list l.i) c.left_step.ensures
          ∙ ap (λ (ys : List Request). set ys l.i (left_step (get_or ys l.i blank) l.i c.args.d)) l.invariant.so_far
          ∙ folded_next left_step c.args.list.now c.args.d l.i;
    }

pub returns : goal.returns
returns c =
    let d = c.args.d in
    let l = c.args.list.now in
    let w = within d in
    let n : c.loop-i.i ≡ walk_to d = omega arith in
    (c.answered-2.ensures, c.loop-i.invariant.so_far ∙ ap (folded left_step l d) n ∙ sym (folded_still left_step l d (walk_to d) 32 w (λ (r : Request) (i : ℕ) (lo : walk_to d ≤ i) (hi : i < 32). behind d r i lo hi)))

-- a setup frees every record
pub returns-then-d : goal.returns-then-d
returns-then-d c =
    let l = c.args.list.now in
    let filled = c.fill.ensures.after (λ y e. cc) in
    (c.answered.ensures, filled ∙ ap (λ (r : Request). replicate (length l) r) c.blank.ensures ∙ freed l c.args.d c.if-d.true (omega arith))
