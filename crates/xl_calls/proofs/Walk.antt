-- Each row holds only frames that were held, remembered or brought by its event, holds one wherever a state or an action needs it, counts
-- nothing, and has at most four actions: one walk over the table looks at every row. Assumes nothing.
use Rattle.std.specs.Prelude.{None, Option, Some}
use Prim.Native.Nat.{ℕ, ◌≤◌}
use mathlib.Core.Bool.{Bool, true, false, ◌&&◌, ◌||◌}
use mathlib.Core.List.{List, [], ◌∷◌, map}
use mathlib.Core.Path.{◌≡◌, refl, subst, subst⁻¹}
use native.Mathlib.Omega.{arith}
use lib.Dec.{lit≤}
use lib.ListN.{length}
use Rattle.laws.proofs.Bools.{and_left, impossible, or_left, or_right, by_test}
use Rattle.open_frame.specs.declared.OpenFrame.{OpenFrame}
use Rattle.xl_parts.specs.declared.Phase.{Phase}
use Rattle.xl_parts.specs.declared.Phase.TheVariants.{Xl0, Xl1, Xl2, Xl3, Xl4, Xl5, Xl6, Xl7, Xl8, Xl9, Xl10}
use Rattle.xl_parts.specs.declared.Reject.{Reject}
use Rattle.xl_parts.specs.declared.Primitive.{Primitive}
use Rattle.xl_parts.specs.declared.Message.{Message}
use Rattle.xl_parts.specs.declared.Event.{Event}
use Rattle.xl_parts.specs.declared.Event.TheVariants.{Line, Router, Manager, Own, Break, Disable}
use Rattle.xl_parts.specs.declared.Action.{Action}
use Rattle.xl_parts.specs.declared.Memory.{Memory}
use Rattle.xl_parts.specs.declared.State.{State}
use Rattle.xl_parts.specs.Parts.{Effect, holding, breaking, entered, on_entry, stay, to, first}
use Rattle.xl_parts.specs.Kinds.{kind_of, same, Said, said_by}
use Rattle.xl_rows.specs.Table.{stands, comes_back, backoff, broken, crossed, heard_in6, remembered, in6, sent_in5, send_close_in7, timed_out, forwarded, joined, rows, break_rows, rows_for, is_listed, takes, unexpected}
use Rattle.xl.specs.Rules.{is_frame, works}
use Rattle.xl.specs.Steps.{has_frame}
use Rattle.xl_calls.specs.Links.{names, some, Each}
use Rattle.xl_rows.proofs.Rows.{Every, found}

-- what is shown of an effect: Q holds of its frames, and its state and actions have the frame that they need
pub record Sound (Q : OpenFrame → Type 0) (count most : ℕ) (x : Effect) : Type 0 where
  pub held : Each Q x.state.memory.held
  pub heard : Each Q x.state.memory.heard
  pub holds : works x.state.phase ≡ true → is_frame x.state.memory.held ≡ true
  pub counts : x.state.count ≡ count
  pub shows : some names (map Some x.actions) ≡ true → is_frame x.state.memory.held ≡ true
  pub few : length x.actions ≤ most

-- a state whose frames have Q, with a frame where it needs one
pub record Good (Q : OpenFrame → Type 0) (s : State) : Type 0 where
  pub held : Each Q s.memory.held
  pub heard : Each Q s.memory.heard
  pub holds : works s.phase ≡ true → is_frame s.memory.held ≡ true

module _ (Q : OpenFrame → Type 0) (s : State) (good : Good Q s) where
  -- nothing changes
  still : (most : ℕ) → 0 ≤ most → Sound Q s.count most (stay [] s)
  still most l = record { held = good.held; heard = good.heard; holds = good.holds; counts = refl; shows = impossible; few = l }

  breaks_off : Sound Q s.count 3 (broken s)
  breaks_off = record { held = good.held; heard = good.heard; holds = impossible; counts = refl; shows = impossible; few = lit≤ tt }

  backs_off : (f g : OpenFrame) → Q g → Sound Q s.count 3 (backoff f g s)
  backs_off f g q = by_test (Sound Q s.count 3) (comes_back g f)
      (λ r. record { held = q; heard = good.heard; holds = λ e. refl; counts = refl; shows = λ e. refl; few = lit≤ tt })
      (λ r. record { held = q; heard = good.heard; holds = λ e. refl; counts = refl; shows = λ e. refl; few = lit≤ tt })

  crosses : (h : Option OpenFrame) (g : OpenFrame) → Q g → Sound Q s.count 3 (crossed h g s)
  crosses None g q = still 3 (lit≤ tt)
  crosses (Some f) g q = by_test (Sound Q s.count 3) (stands s.memory.aip f g) (λ t. still 3 (lit≤ tt)) (λ t. backs_off f g q)

  hears_in_6 : (h : Option OpenFrame) → Each Q h → Sound Q s.count 3 (heard_in6 h s)
  hears_in_6 None q = still 3 (lit≤ tt)
  hears_in_6 (Some g) q = crosses s.memory.held g q

  remembers : (m : Memory) → Each Q m.heard → Sound Q s.count 3 (remembered m s)
  remembers m q = by_test (Sound Q s.count 3) m.broke (λ t. breaks_off) (λ t. hears_in_6 m.heard q)

more : {Q : OpenFrame → Type 0} {count : ℕ} {x : Effect} → Sound Q count 3 x → Sound Q count 4 x
more p = let l = p.few in record { held = p.held; heard = p.heard; holds = p.holds; counts = p.counts; shows = p.shows; few = omega (arith, l) }

module _ (Q : OpenFrame → Type 0) (f : OpenFrame) (ev : Event) (s : State) (good : Good Q s) (given : has_frame ev ≡ true → Q f) where
  abbrev Right : Effect → Type 0
  Right = Sound Q s.count 4

  abbrev is : Event → Bool
  is e = same (kind_of ev) (kind_of e)

  by_open : is (Line Primitive.Open) && true ≡ true → Q f
  by_open e = given (or_left (is (Router Message.SendOpen) || is (Router Message.BackoffReversePath)) (and_left (is (Line Primitive.Open)) true e))

  by_send : is (Router Message.SendOpen) && true ≡ true → Q f
  by_send e = given (or_right (is (Line Primitive.Open)) (or_left (is (Router Message.BackoffReversePath)) (and_left (is (Router Message.SendOpen)) true e)))

  by_reverse : is (Router Message.BackoffReversePath) && true ≡ true → Q f
  by_reverse e = given (or_right (is (Line Primitive.Open)) (or_right (is (Router Message.SendOpen)) (and_left (is (Router Message.BackoffReversePath)) true e)))

  -- into XL0, or on to a state that needs no frame
  idle : (acts : List Action) → some names (map Some acts) ≡ false → length acts ≤ 4 → Right (record { state = entered Xl0 s; actions = acts })
  idle acts mute l = record { held = tt; heard = tt; holds = impossible; counts = refl; shows = λ e. impossible (subst (λ (t : Bool). t ≡ true) mute e); few = l }

  -- the frame stays held, and is there
  module _ (frame : is_frame s.memory.held ≡ true) where
    kept1 : Right (to Xl1 [] s)
    kept1 = record { held = good.held; heard = good.heard; holds = λ e. frame; counts = refl; shows = λ e. frame; few = lit≤ tt }

    kept2 : Right (to Xl2 (Action.Send Message.SendOpen ∷ []) s)
    kept2 = record { held = good.held; heard = good.heard; holds = λ e. frame; counts = refl; shows = λ e. frame; few = lit≤ tt }

    kept3 : Right (to Xl3 [] s)
    kept3 = record { held = good.held; heard = good.heard; holds = λ e. frame; counts = refl; shows = λ e. frame; few = lit≤ tt }

    kept4 : (k : Reject) → Right (to Xl4 (Action.Transmit (Primitive.OpenReject k) ∷ []) s)
    kept4 k = record { held = good.held; heard = good.heard; holds = λ e. frame; counts = refl; shows = impossible; few = lit≤ tt }

    asks : Right (timed_out s)
    asks = by_test Right s.memory.blocked
        (λ t. record { held = good.held; heard = good.heard; holds = λ e. frame; counts = refl; shows = λ e. frame; few = lit≤ tt })
        (λ t. still Q s good 4 (lit≤ tt))

    forwards : Right (forwarded s)
    forwards = by_test Right s.memory.broke (λ t. more (breaks_off Q s good)) (λ t. kept3)

    sent : Right (sent_in5 s)
    sent = first_of (remembers Q (in6 s) (record { held = good.held; heard = tt; holds = λ e. frame }) s.memory good.heard)
      where
        first_of : {x : Effect} → Sound Q s.count 3 x → Right (first (on_entry Xl6) x)
        first_of p = let l = p.few in record { held = p.held; heard = p.heard; holds = p.holds; counts = p.counts; shows = p.shows; few = omega (arith, l) }

  held1 : Q f → Right (to Xl1 [] (holding f s))
  held1 q = record { held = q; heard = good.heard; holds = λ e. refl; counts = refl; shows = λ e. refl; few = lit≤ tt }

  held5 : Q f → Right (to Xl5 (Action.Transmit Primitive.Open ∷ []) (holding f s))
  held5 q = record { held = q; heard = tt; holds = λ e. refl; counts = refl; shows = λ e. refl; few = lit≤ tt }

  -- the state stays, and its memory changes but for the frames
  notes : (a : Action) (m : Memory) → names a ≡ false → m.held ≡ s.memory.held → m.heard ≡ s.memory.heard → Right (record { state = record { phase = s.phase; memory = m; count = s.count }; actions = a ∷ [] })
  notes a m mute same-held same-heard = record {
    held = subst⁻¹ (Each Q) same-held good.held;
    heard = subst⁻¹ (Each Q) same-heard good.heard;
    holds = λ e. subst⁻¹ (λ (h : Option OpenFrame). is_frame h ≡ true) same-held (good.holds e);
    counts = refl;
    shows = λ e. impossible (subst (λ (t : Bool). t || false ≡ true) mute e);
    few = lit≤ tt;
  }

  breaks_noted : Right (stay [] (breaking s))
  breaks_noted = record { held = good.held; heard = good.heard; holds = good.holds; counts = refl; shows = impossible; few = lit≤ tt }

  connects : (a : Action) → names a ≡ false → Right (to Xl7 (a ∷ []) s)
  connects a mute = record { held = good.held; heard = good.heard; holds = impossible; counts = refl; shows = λ e. impossible (subst (λ (t : Bool). t || false ≡ true) mute e); few = lit≤ tt }

  send_close_in_7 : Right (send_close_in7 s)
  send_close_in_7 = by_test Right s.memory.close
      (λ t. idle (Action.Transmit Primitive.Close ∷ []) refl (lit≤ tt))
      (λ t. record { held = good.held; heard = good.heard; holds = impossible; counts = refl; shows = impossible; few = lit≤ tt })

  in9 : Right (to Xl9 [] s)
  in9 = record { held = good.held; heard = good.heard; holds = impossible; counts = refl; shows = impossible; few = lit≤ tt }

  in10 : Right (to Xl10 [] s)
  in10 = record { held = good.held; heard = good.heard; holds = impossible; counts = refl; shows = impossible; few = lit≤ tt }

  out : Right (to Xl0 [] s)
  out = idle [] refl (lit≤ tt)

  -- the frame of a state that needs one
  frame_in : (p : Phase) → works p ≡ true → s.phase ≡ p → is_frame s.memory.held ≡ true
  frame_in p w e = good.holds (subst⁻¹ (λ (q : Phase). works q ≡ true) e w)

  walk : (p : Phase) → s.phase ≡ p → (x : Said) → Every (kind_of ev) Right (rows p f x s)
  walk Xl0 e x = ((λ m. held1 (by_open m)), ((λ m. held5 (by_send m)), tt))
  walk Xl1 e x = let fr = frame_in Xl1 refl e in (
    (λ m. kept2 fr),
    (
      (λ m. out),
      (
        (λ m. kept4 fr _),
        (
          (λ m. notes _ _ refl refl refl),
          ((λ m. asks fr), tt),
        ),
      ),
    ),
  )
  walk Xl2 e x = ((λ m. forwards (frame_in Xl2 refl e)), tt)
  walk Xl3 e x = (
    (λ m. notes _ _ refl refl refl),
    (
      (λ m. connects _ refl),
      (
        (λ m. idle _ refl (lit≤ tt)),
        (
          (λ m. kept1 (frame_in Xl3 refl e)),
          ((λ m. held5 (by_reverse m)), tt),
        ),
      ),
    ),
  )
  walk Xl4 e x = ((λ m. out), tt)
  walk Xl5 e x = (
    (λ m. record { held = good.held; heard = by_open m; holds = good.holds; counts = refl; shows = impossible; few = lit≤ tt }),
    ((λ m. sent (frame_in Xl5 refl e)), tt),
  )
  walk Xl6 e x = (
    (λ m. connects _ refl),
    (
      (λ m. idle _ refl (lit≤ tt)),
      (
        (λ m. notes _ _ refl refl refl),
        ((λ m. more (crosses Q s good s.memory.held f (by_open m))), tt),
      ),
    ),
  )
  walk Xl7 e x = ((λ m. notes _ _ refl refl refl), ((λ m. send_close_in_7), tt))
  walk Xl8 e x = ((λ m. idle _ refl (lit≤ tt)), tt)
  walk Xl9 e x = ((λ m. out), tt)
  walk Xl10 e x = tt

  walk_joined : Every (kind_of ev) Right (joined s)
  walk_joined = ((λ m. more (breaks_off Q s good)), ((λ m. in10), tt))

  walk_break : (p : Phase) → Every (kind_of ev) Right (break_rows p s)
  walk_break Xl0 = tt
  walk_break Xl1 = ((λ m. in9), tt)
  walk_break Xl2 = ((λ m. breaks_noted), tt)
  walk_break Xl3 = walk_joined
  walk_break Xl4 = tt
  walk_break Xl5 = ((λ m. breaks_noted), tt)
  walk_break Xl6 = walk_joined
  walk_break Xl7 = walk_joined
  walk_break Xl8 = walk_joined
  walk_break Xl9 = tt
  walk_break Xl10 = ((λ m. out), ((λ m. out), tt))

  each : (e : Event) → Every (kind_of ev) Right (rows_for f e s)
  each (Line p) = walk s.phase refl (said_by (Line p))
  each (Router m) = walk s.phase refl (said_by (Router m))
  each (Manager c) = walk s.phase refl (said_by (Manager c))
  each (Own n) = walk s.phase refl (said_by (Own n))
  each (Break b) = walk_break s.phase
  each Disable = ((λ m. out), tt)

  -- what the table does with a listed event
  pub sound : is_listed f ev s ≡ true → Sound Q s.count 4 (takes f ev s)
  sound l = found (kind_of ev) (unexpected s) Right (rows_for f ev s) (each ev) l
