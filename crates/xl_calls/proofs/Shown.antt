-- A frame that an action names is the one that the new state holds, and that one came in by a call: rows hold no other. Assumes nothing.
use Rattle.std.specs.Prelude.{Err, None, Ok, Option, Result, Some}
use Prim.Native.Nat.{ℕ, ◌≤◌}
use mathlib.Core.Bool.{Bool, true, false, ◌||◌}
use mathlib.Core.List.{List, [], ◌∷◌, ◌++◌, map}
use mathlib.Core.Path.{◌≡◌, refl, sym, ap, subst, subst⁻¹, ◌∙◌}
use native.Mathlib.Omega.{arith}
use lib.ListN.{length}
use Rattle.laws.proofs.Bools.{impossible}
use Rattle.refusals.proofs.Causes.{NoneGiven, Verdict, stopped, passes, verdict}
use Rattle.refusals.specs.declared.Refusal.{Refusal}
use Rattle.open_frame.specs.declared.OpenFrame.{OpenFrame}
use Rattle.xl_parts.specs.declared.Event.{Event}
use Rattle.xl_parts.specs.declared.Action.{Action}
use Rattle.xl_parts.specs.declared.State.{State}
use Rattle.xl_parts.specs.declared.Stepped.{Stepped}
use Rattle.xl_parts.specs.Parts.{Effect, packed, done}
use Rattle.xl_rows.specs.Table.{takes}
use Rattle.xl.specs.Rules.{is_frame, keeps_rules}
use Rattle.xl.specs.Steps.{causes, refused, step_of}
use Rattle.xl_calls.specs.Links.{Call, call_of, run, brought, frames, names, some, gapless, Each, Shows, In, here, there}
use Rattle.xl_calls.proofs.Walk.{Good}
use Rattle.xl_calls.proofs.Links.{Took, listed, other, took, Fielded, good_of, fields_given, by_call}
use Rattle.xl_calls.proofs.Kept.{good_after}

shows_of : (Q : OpenFrame → Type 0) (h : Option OpenFrame) → is_frame h ≡ true → Each Q h → Shows Q h
shows_of Q None e q = impossible e
shows_of Q (Some f) e q = record { frame = f; held = refl; from = q }

or_more : (a : Bool) (b c : Bool) → (b ≡ true → c ≡ true) → a || b ≡ true → a || c ≡ true
or_more true b c h e = refl
or_more false b c h e = h e

-- what the four name, the list names
unpacked : (acts : List Action) → some names (packed acts) ≡ true → some names (map Some acts) ≡ true
unpacked [] e = e
unpacked (a ∷ []) e = e
unpacked (a ∷ b ∷ []) e = e
unpacked (a ∷ b ∷ c ∷ []) e = e
unpacked (a ∷ b ∷ c ∷ d ∷ more) e =
    or_more (names a) (names b || (names c || (names d || false))) (names b || (names c || (names d || some names (map Some more))))
    (or_more (names b) (names c || (names d || false)) (names c || (names d || some names (map Some more)))
    (or_more (names c) (names d || false) (names d || some names (map Some more)) (or_more (names d) false (some names (map Some more)) impossible))) e

-- a list is packed with no gap
no_gap : (acts : List Action) → gapless (packed acts) ≡ true
no_gap [] = refl
no_gap (a ∷ []) = refl
no_gap (a ∷ b ∷ []) = refl
no_gap (a ∷ b ∷ c ∷ []) = refl
no_gap (a ∷ b ∷ c ∷ d ∷ more) = refl

module _ (s : State) (keeps : keeps_rules s ≡ true) where
  pub gapless_call : (c : Call) → gapless (call_of c s).actions ≡ true
  gapless_call = by_call (λ (c : Call) (r : Stepped). gapless r.actions ≡ true) s (λ c k. refl) (λ c f e off from. no_gap (takes f e s).actions)

  -- no row has a fifth action
  pub few : (f : OpenFrame) (e : Event) → NoneGiven (causes f e s) → length (takes f e s).actions ≤ 4
  few f e off = by (took Fielded f e s (good_of s keeps) (fields_given f e s off))
    where
      by : Took Fielded f e s → length (takes f e s).actions ≤ 4
      by (listed l x) = x.few
      by (other l x) = subst⁻¹ (λ (y : Effect). length y.actions ≤ 4) x (omega arith)

  pub few_done : (f : OpenFrame) (e : Event) → (step_of f e s).answer ≡ Ok tt → length (takes f e s).actions ≤ 4
  unfolding step_of
  few_done f e d = by (verdict (causes f e s))
    where
      apart : (k : Refusal) → ◌≡◌ {A = Result (Unit {0}) Refusal} (Err k) (Ok tt) → ⊥
      apart k q = let z : ◌≡◌ {A = ℕ} 0 1 = cc in omega arith

      by : Verdict (causes f e s) → length (takes f e s).actions ≤ 4
      by (stopped k h) = absurd (apart k (sym (ap (λ (r : Stepped). r.answer) (h Stepped (refused s) (done (takes f e s)))) ∙ d))
      by (passes off h) = few f e off

module _ (Q : OpenFrame → Type 0) (s : State) (good : Good Q s) where
  -- a call that brings only frames of Q leaves only such, and its actions name only such
  module _ (c : Call) (all : (f : OpenFrame) → In f (brought c) → Q f) where
    pub good_call : Good Q (call_of c s).state
    good_call = by_call (λ (c : Call) (r : Stepped). ((f : OpenFrame) → In f (brought c) → Q f) → Good Q r.state) s (λ c k all. good) (λ c f e off from all. good_after Q f e s good (λ fr. all f (from fr))) c all

    pub shown : some names (call_of c s).actions ≡ true → Shows Q (call_of c s).state.memory.held
    shown = by_call (λ (c : Call) (r : Stepped). ((f : OpenFrame) → In f (brought c) → Q f) → some names r.actions ≡ true → Shows Q r.state.memory.held) s (λ c k all e. impossible e) (λ c f e off from all. by f e (took Q f e s good (λ fr. all f (from fr)))) c all
      where
        by : (f : OpenFrame) (e : Event) → Took Q f e s → some names (packed (takes f e s).actions) ≡ true → Shows Q (takes f e s).state.memory.held
        by f e (listed l x) h = shows_of Q (takes f e s).state.memory.held (x.shows (unpacked (takes f e s).actions h)) x.held
        by f e (other l x) h = impossible (subst (λ (y : Effect). some names (packed y.actions) ≡ true) x h)

weaker : (Q R : OpenFrame → Type 0) → ((g : OpenFrame) → Q g → R g) → (h : Option OpenFrame) → Each Q h → Each R h
weaker Q R m None q = tt
weaker Q R m (Some f) q = m f q

pub good_map : (Q R : OpenFrame → Type 0) → ((g : OpenFrame) → Q g → R g) → (s : State) → Good Q s → Good R s
good_map Q R m s g = record { held = weaker Q R m s.memory.held g.held; heard = weaker Q R m s.memory.heard g.heard; holds = g.holds }

in_right : (xs : List OpenFrame) {ys : List OpenFrame} {g : OpenFrame} → In g ys → In g (xs ++ ys)
in_right [] i = i
in_right (x ∷ xs) i = there (in_right xs i)

in_left : {g : OpenFrame} (ys : List OpenFrame) {xs : List OpenFrame} → In g xs → In g (xs ++ ys)
in_left ys here = here
in_left ys (there i) = there (in_left ys i)

abbrev Known : List OpenFrame → OpenFrame → Type 0
Known fs g = In g fs

-- after some calls every frame in the state came in by one of them, or was known before
pub run_good : (cs : List Call) (known : List OpenFrame) (s : State) → Good (Known known) s → Good (Known (frames cs known)) (run cs s)
run_good [] known s good = good
run_good (c ∷ cs) known s good =
    run_good cs (brought c ++ known) (call_of c s).state
    (good_call (Known (brought c ++ known)) s (good_map (Known known) (Known (brought c ++ known)) (λ g i. in_right (brought c) i) s good) c (λ f i. in_left known i))

-- and so did every frame that the next call's actions name
pub run_shown : (cs : List Call) (known : List OpenFrame) (s : State) → Good (Known known) s → (c : Call) → some names (call_of c (run cs s)).actions ≡ true → Shows (Known (brought c ++ frames cs known)) (call_of c (run cs s)).state.memory.held
run_shown cs known s good c =
    let all = frames cs known in
    shown (Known (brought c ++ all)) (run cs s) (good_map (Known all) (Known (brought c ++ all)) (λ g i. in_right (brought c) i) (run cs s) (run_good cs known s good)) c (λ f i. in_left all i)
