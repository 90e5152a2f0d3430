-- ArbReject of the kind that the detail names, looked up in its group's list: whether there is such a kind is asked once on either side.
use Rattle.std.proofs.Common.{◌≡◌, ◌∙◌, ap, sym, refl, Bool, true, false}
use Rattle.std.specs.Prelude.{cond, ltb, None, Some}
use Rattle.std.proofs.lemmas.Option.{none-some, same_Some}
use Rattle.xl_parts.specs.declared.Denial.{Denial}
use Rattle.xl_parts.specs.declared.Confirmation.{Confirmation}
use Rattle.xl_parts.specs.declared.Event.{Event}
use Rattle.xl_parts.specs.declared.Event.TheVariants.{Manager}
use Rattle.xl_numbers.specs.Details.{denial_of}
use Rattle.xl_numbers.proofs.codes.from_manager.Goals as goal

abbrev rejects : Denial → Event
rejects k = Manager (Confirmation.ArbReject k)

no_kind : (t : Bool) (k : Denial) → None ≡ cond t (Some k) None → None ≡ cond t (Some (rejects k)) None
no_kind true k h = absurd (none-some k h)
no_kind false k h = refl

a_kind : (t : Bool) (k j : Denial) → Some j ≡ cond t (Some k) None → Some (rejects j) ≡ cond t (Some (rejects k)) None
a_kind true k j h = ap (λ (x : Denial). Some (rejects x)) (same_Some j k h)
a_kind false k j h = absurd (none-some j (sym h))

pub returns-in_err-denial_of-in-2 : goal.returns-in_err-denial_of-in-2
returns-in_err-denial_of-in-2 c =
    let none = c.in_err-denial_of-in-2.was in
    rw c.in-2.is (c.from_residual.ensures ∙ no_kind (ltb c.args.detail 4) (denial_of c.args.detail) (sym none ∙ c.denial_of.ensures))

pub returns-in_ok-denial_of-in-2 : goal.returns-in_ok-denial_of-in-2
returns-in_ok-denial_of-in-2 c =
    let some = c.in_ok-denial_of-in-2.was in
    rw c.in-2.is (a_kind (ltb c.args.detail 4) (denial_of c.args.detail) c.in_ok-denial_of-in-2.field-0 (sym some ∙ c.denial_of.ensures))
