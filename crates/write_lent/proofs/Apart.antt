-- Two writes that C lends never share a transfer tag: some calls without bytes leave both as they are left, and those keep them apart. Assumes
-- nothing.
use mathlib.Core.List.{List, [], ◌∷◌}
use mathlib.Core.Logic.{◌⊎◌, inl, inr, ⊎_elim}
use mathlib.Core.Path.{◌≡◌, refl, sym, ap, subst, ◌∙◌}
use Rattle.write.specs.Steps.{limit}
use Rattle.write.specs.Calls as plainly
use Rattle.write.specs.declared.Write.{Write}
use Rattle.write_history.specs.Apart as plain
use Rattle.write_history.specs.Apart.{Disjoint}
use Rattle.write_history.proofs.Apart as kept
use Rattle.take_history.specs.Calls as machine
use Rattle.take_history.specs.Calls.{Call, plain_of}
use Rattle.write_lent.specs.Lent.{shown}
use Rattle.write_lent.specs.Face.{face_of}
use Rattle.write_lent.specs.Apart.{Turn, one, other, Two, idle, turned, Fair, AllFair, turns}
use Rattle.write_lent.specs.declared.State.{State}
use Rattle.write_lent.specs.declared.Step.{Step}
use Rattle.write_lent.proofs.Plain.{typed_plain, moved}
use Rattle.write_lent.proofs.Runs.{step_shown}

abbrev both : plain.Two → Two
both w = record { one = shown w.one; other = shown w.other }

-- calls without bytes that leave the same
record Alike (cs : List Turn) (w : plain.Two) : Type 0 where
  calls : List plain.Turn
  fair : plain.AllFair limit calls w
  same : turns cs (both w) ≡ both (plain.turns limit calls w)

-- where a call shows the write as it was, or as the plain call leaves it
shown_moved : (c : Call) (w : Write) → ((face_of c (shown w)).state ≡ shown w) ⊎ ((face_of c (shown w)).state ≡ shown (plainly.step_of limit (plain_of c) w).state)
shown_moved c w = by (moved c w)
  where
    is : (face_of c (shown w)).state ≡ shown (machine.step_of limit c w).state
    is = ap (λ (r : Step). r.state) (step_shown c w)

    by : ((machine.step_of limit c w).state ≡ w) ⊎ ((machine.step_of limit c w).state ≡ (plainly.step_of limit (plain_of c) w).state)
        → ((face_of c (shown w)).state ≡ shown w) ⊎ ((face_of c (shown w)).state ≡ shown (plainly.step_of limit (plain_of c) w).state)
    by (inl e) = inl (is ∙ ap shown e)
    by (inr e) = inr (is ∙ ap shown e)

-- a turn leaves both writes as they were, or as the plain one does
data Moves (c : Turn) (w : plain.Two) : Type 0 where
  still : turned c (both w) ≡ both w → Moves c w
  like : (d : plain.Turn) → turned c (both w) ≡ both (plain.turned limit d w) → (Fair c (both w) → plain.Fair limit d w) → Moves c w

moves : (c : Turn) (w : plain.Two) → Moves c w
moves (one c) w =
    let at : State → Two = λ s. record { one = s; other = shown w.other } in
    ⊎_elim (λ e. still (ap at e)) (λ e. like (plain.Turn.one (plain_of c)) (ap at e) (λ f. (typed_plain c f.0, f.1))) (shown_moved c w.one)
moves (other c) w =
    let at : State → Two = λ s. record { one = shown w.one; other = s } in
    ⊎_elim (λ e. still (ap at e)) (λ e. like (plain.Turn.other (plain_of c)) (ap at e) (λ f. (typed_plain c f.0, f.1))) (shown_moved c w.other)

follow : (c : Turn) (cs : List Turn) (w : plain.Two) → ((v : plain.Two) → AllFair cs (both v) → Alike cs v) → AllFair (c ∷ cs) (both w) → Moves c w → Alike (c ∷ cs) w
follow c cs w rest fair (still e) =
    let a = rest w (subst (AllFair cs) e fair.1) in
    record { calls = a.calls; fair = a.fair; same = ap (turns cs) e ∙ a.same }
follow c cs w rest fair (like d e f) =
    let a = rest (plain.turned limit d w) (subst (AllFair cs) e fair.1) in
    record { calls = d ∷ a.calls; fair = (f fair.0, a.fair); same = ap (turns cs) e ∙ a.same }

alike : (cs : List Turn) (w : plain.Two) → AllFair cs (both w) → Alike cs w
alike [] w fair = record { calls = []; fair = tt; same = refl }
alike (c ∷ cs) w fair = follow c cs w (alike cs) fair (moves c w)

-- two writes from all zeros, and calls in any order
pub apart_seen : (cs : List Turn) → AllFair cs idle → Disjoint (turns cs idle).one.tags (turns cs idle).other.tags
apart_seen cs fair =
    let a = alike cs plain.idle fair in
    subst (λ (w : Two). Disjoint w.one.tags w.other.tags) (sym a.same) (kept.apart limit a.calls a.fair)
