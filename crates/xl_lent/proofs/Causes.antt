-- What C is told is refused by the machine's own causes, to which that the numbers say a state is joined: the machine's refusals go
-- through what C sees of a step. Assumes nothing.
use Rattle.std.specs.Prelude.{Err, Ok, Result}
use Prim.Native.Nat.{ℕ}
use mathlib.Core.Bool.{Bool, true, false, not, cond, ◌&&◌}
use mathlib.Core.List.{List, [], ◌∷◌, ◌++◌}
use mathlib.Core.Path.{◌≡◌, refl, ap, ◌∙◌}
use lib.Dec.{eqb}
use lib.ListN.{length}
use borrow.Author.Tests.{not-false}
use Rattle.laws.proofs.Bools.{and_right, on_false}
use Rattle.refusals.specs.Causes.{Cause, ◌when◌, refuse}
use Rattle.refusals.specs.Refusals.{number_of}
use Rattle.refusals.specs.declared.Refusal.{Refusal}
use Rattle.refusals.proofs.Causes.{through}
use Rattle.open_frame.specs.Open.{head_listed, head_of, frame_of, typed, read_causes, read_open}
use Rattle.open_frame.specs.declared.OpenFrame.{OpenFrame}
use Rattle.xl_parts.specs.declared.Primitive.{Primitive}
use Rattle.xl_parts.specs.declared.Event.{Event}
use Rattle.xl_parts.specs.Parts.{done}
use Rattle.xl_numbers.specs.States.{status_number}
use Rattle.xl_rows.specs.Table.{takes}
use Rattle.xl.specs.Rules.{keeps_rules}
use Rattle.xl.specs.Steps as steps
use Rattle.xl.specs.Steps.{has_frame, step_of}
use Rattle.xl.specs.Status as status
use Rattle.xl.specs.Status.{in_phase, status_of}
use Rattle.xl_parts.specs.declared.LinkStatus.{LinkStatus}
use Rattle.xl_lent.specs.declared.Link.{Link}
use Rattle.xl_lent.specs.declared.Step.{Step}
use Rattle.xl_lent.specs.Lent.{state_of, formed}
use Rattle.xl_lent.specs.Face.{refused, told, met, opened, link_receive, link_status, keeps_lent}

-- 01 REFUSAL.3
-- that the rules are kept is all that the status asks, and the last thing that the others ask
abbrev pub kept_causes : Link → List Cause
kept_causes l = (Refusal.Rules when not (keeps_lent l)) ∷ []

-- 01 REFUSAL.2
abbrev pub met_causes : Link → Event → OpenFrame → List Cause
met_causes l e f = (Refusal.Unlisted when (has_frame e && not (head_listed f.head))) ∷ kept_causes l

-- 01 XL.6
abbrev pub receive_causes : Link → List ℕ → List Cause
receive_causes l b = read_causes b ++ kept_causes l

-- what is tested twice is tested once, and two tests for one refusal are one
joined : {A : Type 0} (t f k : Bool) (two three a : A) → cond t two (cond (not f) three (cond t two (cond (not k) three a))) ≡ cond t two (cond (not (f && k)) three a)
joined true f k two three a = refl
joined false true k two three a = refl
joined false false k two three a = refl

pub met_is : (l : Link) (e : Event) (f : OpenFrame) → met l e f ≡ refuse (refused l) (met_causes l e f) (told l (done (takes f e (state_of l))))
unfolding met step_of keeps_lent
met_is l e f =
    let s = state_of l in
    let t = has_frame e && not (head_listed f.head) in
    let d = done (takes f e s) in
    ap (λ (r : Step). cond t (refused l Refusal.Unlisted) (cond (not (formed l)) (refused l Refusal.Rules) r)) (through (told l) (steps.refused s) (steps.causes f e s) d)
    ∙ joined t (formed l) (keeps_rules s) (refused l Refusal.Unlisted) (refused l Refusal.Rules) (told l d)

-- a frame that was read has listed fields
pub receive_is : (l : Link) (b : List ℕ) → link_receive l b ≡ refuse (refused l) (receive_causes l b) (told l (done (takes (frame_of b) (Event.Line Primitive.Open) (state_of l))))
unfolding link_receive read_open
receive_is l b =
    let f = frame_of b in
    let e = Event.Line Primitive.Open in
    let d = told l (done (takes f e (state_of l))) in
    let listed = typed b && head_listed (head_of b) in
    through (opened l) Err (read_causes b) (Ok f)
    ∙ on_false (not (eqb (length b) 28)) (refused l Refusal.Length) (refuse (refused l) ((Refusal.Unlisted when not listed) ∷ []) (met l e f)) (refuse (refused l) ((Refusal.Unlisted when not listed) ∷ kept_causes l) d)
    (λ _. on_false (not listed) (refused l Refusal.Unlisted) (met l e f) (refuse (refused l) (kept_causes l) d)
    (λ off. met_is l e f ∙ ap (λ (t : Bool). refuse (refused l) ((Refusal.Unlisted when not t) ∷ kept_causes l) d) (and_right (typed b) _ (not-false listed off))))

pub status_is : (l : Link) → link_status l ≡ refuse number_of (kept_causes l) (status_number (Ok (in_phase (state_of l).phase (state_of l).memory.aip)))
unfolding link_status status_of keeps_lent
status_is l =
    let s = state_of l in
    let a : Result LinkStatus Refusal = Ok (in_phase s.phase s.memory.aip) in
    ap (λ (n : ℕ). cond (not (formed l)) (number_of Refusal.Rules) n) (through status_number Err (status.status_causes s) a)
    ∙ joined false (formed l) (keeps_rules s) (number_of Refusal.Rules) (number_of Refusal.Rules) (status_number a)
