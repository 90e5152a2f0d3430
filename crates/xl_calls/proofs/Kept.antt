-- A link whose state keeps the rules keeps them over any calls: a frame that a row holds was held, remembered or tested before. Assumes nothing.
use mathlib.Core.Bool.{true}
use mathlib.Core.List.{List, [], ◌∷◌}
use mathlib.Core.Path.{◌≡◌, refl, subst⁻¹}
use Rattle.open_frame.specs.declared.OpenFrame.{OpenFrame}
use Rattle.xl_parts.specs.declared.Event.{Event}
use Rattle.xl_parts.specs.declared.State.{State}
use Rattle.xl_parts.specs.declared.Stepped.{Stepped}
use Rattle.xl_parts.specs.Parts.{Effect, ready}
use Rattle.xl_rows.specs.Table.{takes}
use Rattle.xl.specs.Rules.{keeps_rules}
use Rattle.xl.specs.Steps.{has_frame}
use Rattle.xl_calls.specs.Links.{Call, call_of, run}
use Rattle.xl_calls.proofs.Walk.{Good}
use Rattle.xl_calls.proofs.Links.{Took, listed, other, took, Fielded, good_of, of_good, fields_given, by_call}

-- whatever holds of a state's frames holds of the frames that the table leaves
pub good_after : (Q : OpenFrame → Type 0) (f : OpenFrame) (e : Event) (s : State) → Good Q s → (has_frame e ≡ true → Q f) → Good Q (takes f e s).state
good_after Q f e s good given = by (took Q f e s good given)
  where
    by : Took Q f e s → Good Q (takes f e s).state
    by (listed l x) = record { held = x.held; heard = x.heard; holds = x.holds }
    by (other l x) = subst⁻¹ (λ (y : Effect). Good Q y.state) x (record { held = good.held; heard = good.heard; holds = good.holds })

kept_call : (s : State) → keeps_rules s ≡ true → (c : Call) → keeps_rules (call_of c s).state ≡ true
kept_call s e =
    by_call (λ (c : Call) (r : Stepped). keeps_rules r.state ≡ true) s (λ c k. e)
    (λ c f ev off from. of_good (takes f ev s).state (good_after Fielded f ev s (good_of s e) (fields_given f ev s off)))

pub kept : (cs : List Call) (s : State) → keeps_rules s ≡ true → keeps_rules (run cs s) ≡ true
kept [] s e = e
kept (c ∷ cs) s e = kept cs (call_of c s).state (kept_call s e c)

pub ready_keeps : keeps_rules ready ≡ true
unfolding keeps_rules
ready_keeps = refl
