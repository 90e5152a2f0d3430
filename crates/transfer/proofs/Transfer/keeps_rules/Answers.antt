-- `taken` counts the frames out only in a placed state, and elsewhere asks for zeros alone, as `rules` does. Assumes nothing.
use mathlib.Core.Path.{◌≡◌, refl, ◌∙◌}
use mathlib.Core.Bool.{◌||◌, true}
use Rattle.laws.proofs.Bools.{or_alone}
use Rattle.transfer.specs.Rules.{end_of, zeros, placed, phase_rule, keeps_rules}
use Rattle.transfer.proofs.Facts.{placed_says}
use Rattle.transfer.proofs.Transfer.keeps_rules.Goals as goal

pub frames_out-out-requires : goal.frames_out-out-requires
frames_out-out-requires c = let s = c.args.self in
    let is_placed : placed (end_of s) s ≡ true = rw (← c.end-end.ensures, ← c.placed.ensures, c.if-placed.true) in
    let h = (placed_says (end_of s) s).0 is_placed in
    (h.0.0.1.1.1.0, h.0.1.1.0)

pub returns-then-placed : goal.returns-then-placed
unfolding keeps_rules
returns-then-placed c =
    let s = c.args.self in
    let bound = c.args.bound in
    rw (← c.end-end.ensures, ← c.placed.ensures, c.if-placed.true)
    (λ i. c.zeros-zeros.ensures i || (c.phase_rule.ensures ∙ (λ j. phase_rule bound c.end-end.result (c.frames_out-out.ensures j) s.phase s)) i)

pub returns : goal.returns
unfolding keeps_rules
returns c = rw (← c.end-end.ensures, ← c.placed.ensures, c.if-placed.false) (c.zeros-zeros.ensures ∙ or_alone (zeros c.args.self) refl)
