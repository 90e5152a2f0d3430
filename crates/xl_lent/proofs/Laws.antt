-- A link whose numbers say a state meets the machine's own step, which refuses an unlisted frame before it looks at the state, as C is
-- told. Assumes nothing.
use mathlib.Core.Bool.{Bool, true, false, not, cond, ◌&&◌}
use mathlib.Core.Path.{◌≡◌, refl, ap}
use Rattle.laws.proofs.Bools.{impossible}
use Rattle.refusals.specs.Refusals.{number_of}
use Rattle.refusals.specs.declared.Refusal.{Refusal}
use Rattle.open_frame.specs.Open.{head_listed}
use Rattle.open_frame.specs.declared.OpenFrame.{OpenFrame}
use Rattle.xl_parts.specs.declared.Event.{Event}
use Rattle.xl_parts.specs.declared.Stepped.{Stepped}
use Rattle.xl_numbers.specs.States.{status_number}
use Rattle.xl.specs.Steps as steps
use Rattle.xl.specs.Steps.{has_frame, step_of}
use Rattle.xl.specs.Status.{status_of}
use Rattle.xl_lent.specs.declared.Link.{Link}
use Rattle.xl_lent.specs.Lent.{state_of, formed}
use Rattle.xl_lent.specs.Face.{refused, told, met, link_status}

module _ (l : Link) (e : Event) (f : OpenFrame) where
  abbrev unlisted : Bool
  unlisted = has_frame e && not (head_listed f.head)

  -- a step that the machine refuses as C is refused
  gated : (t u : Bool) (r : Stepped) → (t ≡ true → r ≡ steps.refused (state_of l) Refusal.Unlisted) → u ≡ true → told l r ≡ cond t (refused l Refusal.Unlisted) (cond (not u) (refused l Refusal.Rules) (told l r))
  gated true u r h ok = ap (told l) (h refl)
  gated false true r h ok = refl
  gated false false r h ok = impossible ok

  first_unlisted : unlisted ≡ true → step_of f e (state_of l) ≡ steps.refused (state_of l) Refusal.Unlisted
  unfolding step_of
  first_unlisted p = rw p

  pub met_formed : formed l ≡ true → told l (step_of f e (state_of l)) ≡ met l e f
  unfolding met
  met_formed ok = gated unlisted (formed l) (step_of f e (state_of l)) first_unlisted ok

  pub met_unlisted : unlisted ≡ true → refused l Refusal.Unlisted ≡ met l e f
  unfolding met
  met_unlisted p = rw p

  pub met_malformed : unlisted ≡ false → formed l ≡ false → refused l Refusal.Rules ≡ met l e f
  unfolding met
  met_malformed p q = rw (p, q)

pub status_formed : (l : Link) → formed l ≡ true → status_number (status_of (state_of l)) ≡ link_status l
unfolding link_status
status_formed l ok = rw ok

pub status_malformed : (l : Link) → formed l ≡ false → number_of Refusal.Rules ≡ link_status l
unfolding link_status
status_malformed l off = rw off
