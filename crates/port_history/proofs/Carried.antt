-- A field of a request that Submitted sets, that only an answer about the request changes, and that no loss timer changes, is what the history says:
-- the same steps over the entries since the submit that name the request. Assumes nothing.
use Rattle.std.specs.Prelude.{Option}
use Prim.Native.Nat.{ℕ, ◌<◌}
use mathlib.Core.Path.{◌≡◌, refl, sym, ap, subst, ◌∙◌}
use mathlib.Core.Bool.{Bool, true, false, cond, ◌&&◌}
use mathlib.Core.List.{List, [], ◌∷◌, ◌++◌}
use mathlib.Core.Logic.{inl, inr}
use native.Mathlib.Omega.{arith}
use lib.Dec.{eqb, ltb}
use lib.ListN.{length, get_or}
use borrow.Author.Tests.{eqb-true, eqb-false, lt-ltb, ltb-true}
use Rattle.laws.proofs.Bools.{and_true, and_false}
use Rattle.open_frame.specs.declared.Head.{Head}
use Rattle.port_parts.specs.Parts.{blank}
use Rattle.port_parts.specs.declared.Port.{Port}
use Rattle.port_parts.specs.declared.Request.{Request}
use Rattle.port_parts.specs.declared.Stamp.{Stamp}
use Rattle.port_rules.specs.Kept.{Free, Kept}
use Rattle.port_rows.specs.Changed.{timed}
use Rattle.port_rows.specs.Finds.{is_of}
use Rattle.port_rows.specs.declared.Answer.{Answer}
use Rattle.port_rows.specs.declared.Done.{Done}
use Rattle.port_rows.specs.declared.Key.{Key}
use Rattle.port_rows.specs.declared.Loss.{Loss}
use Rattle.port_rows.specs.Records.{spread}
use Rattle.port.specs.Calls.{left_of}
use Rattle.port.specs.Grounds.{OfKey, HasKey}
use Rattle.port.specs.History.{State, Call, done_of, is_refused, is_last, leave, run, Entry, entries_of, history}
use Rattle.port.proofs.Begins.{left_here, left_there}
use Rattle.port.proofs.Found.{of_says, same_key_lem, one_of_key}
use Rattle.port_invariant.proofs.Leaves.{taken_entry, by_step}
use Rattle.port_invariant.proofs.Spreads.{by_spread}
use Rattle.port_history.specs.Standing.{is_setup, is_submitted, accepts, speaks}
use Rattle.port_history.specs.Turns.{Turns, Lawful}
use Rattle.port_history.specs.Runs.{Run, now, past}
use Rattle.port_history.proofs.Cores.{turned}
use Rattle.port_history.proofs.Steps.{first, first_zeros, setup_zeros}
use Rattle.port_history.proofs.Histories.{had}
use Rattle.port_history.proofs.Runs.{Tells, tells_after}
use Rattle.port_history.proofs.Leaving.{first_tells}

-- ---- a field

-- from a start, by the entries since the last accepted submit of x that name it
abbrev pub carried : {A : Type 0} → A → (Entry → A → A) → Key → List Entry → A
carried start step x [] = start
carried start step x (e ∷ older) = cond (is_setup e.call) start (cond (accepts x e) start (cond (speaks x e) (step e (carried start step x older)) (carried start step x older)))

-- what a call that is taken and is no setup does to it, where d is what the call leaves
pub record Carries (A : Type 0) (of : Request → A) (start : A) (step : Entry → A → A) (l : List Request) (c : Call) (d : Done) : Type 0 where
  pub some : d.cleared ≡ false
  pub new : is_submitted d.answer.word ≡ true → of d.entry ≡ start
  pub same : is_submitted d.answer.word ≡ false → is_last d.answer.word ≡ false → d.answer.slot < 32 → of d.entry ≡ step (record { call = c; answer = d.answer }) (of (get_or l d.answer.slot blank))

pub record Field (A : Type 0) : Type 0 where
  pub of : Request → A
  pub start : A
  pub step : Entry → A → A
  pub timers : (r : Request) (t : Stamp) → of (timed r t) ≡ of r
  pub laws : (s : State) → Lawful s → (c : Call) → is_setup c ≡ false → is_refused (done_of c s).answer.word ≡ false → Carries A of start step s.list c (done_of c s)

module _ (A : Type 0) (k : Field A) where
  abbrev pub shown : Key → List Entry → A
  shown = carried k.start k.step

  -- the fields of the requests with the key are what the history says
  abbrev Shows : Key → List Entry → List Request → Type 0
  Shows x h l = (i : ℕ) → i < 32 → HasKey (get_or l i blank) x → k.of (get_or l i blank) ≡ shown x h

  spread_field : (x : Option Loss) (r : Request) → k.of (spread x r) ≡ k.of r
  spread_field x r =
      by_spread x (λ (q : Request). k.of q ≡ k.of r) r (λ h. k.timers r h.loss.timer) (λ h. refl)

  -- ---- one call that is taken and no setup

  module _ (p : Port) (l : List Request) (c : Call) (d : Done) (len : length l ≡ 32) (kept : Kept p l) (plain : is_setup c ≡ false) (carries : Carries A k.of k.start k.step l c d) (turns : Turns l (left_of l d) d.answer) (x : Key) (h : List Entry) (before : Shows x h l) where
    abbrev m : List Request
    m = left_of l d

    abbrev a : Answer
    a = d.answer

    abbrev e : Entry
    e = record { call = c; answer = a }

    -- the history by what the entry is: a setup, Submitted of x, an answer that names x
    abbrev by_kind : Bool → Bool → Bool → A
    by_kind s f n = cond s k.start (cond f k.start (cond n (k.step e (shown x h)) (shown x h)))

    here : a.slot < 32 → HasKey (get_or m a.slot blank) x → k.of (get_or m a.slot blank) ≡ shown x (e ∷ h)
    here below has = by turns
      where
        field : k.of (get_or m a.slot blank) ≡ k.of d.entry
        field = ap k.of (left_here l d len carries.some below)

        by : Turns l m a → k.of (get_or m a.slot blank) ≡ shown x (e ∷ h)
        by (inl come) =
            let named = (of_says a.frame.head x).1 (subst (λ (g : Head). OfKey g x) come.head has.1) in
            field ∙ carries.new come.word ∙ sym (λ i. by_kind (plain i) (and_true come.word named i) (speaks x e))
        by (inr (inl go)) = absurd (has.0 (ap (λ (r : Request). r.stage) go.zeros))
        by (inr (inr rest)) =
            let was = had x (rest.all a.slot below) has in
            let named = (of_says a.frame.head x).1 (subst (λ (g : Head). OfKey g x) (rest.named below).1 was.1) in
            field ∙ carries.same rest.submitted rest.last below ∙ ap (k.step e) (before a.slot below was)
            ∙ sym (λ i. by_kind (plain i) (rest.submitted i && is_of a.frame.head x) (and_true (lt-ltb a.slot 32 below) named i))

    -- a request with the key at another slot: the entry says nothing of it
    other : (i : ℕ) → i < 32 → (i ≡ a.slot → ⊥) → HasKey (get_or m i blank) x → k.of (get_or m i blank) ≡ shown x (e ∷ h)
    other i below away has = by turns
      where
        field : k.of (get_or m i blank) ≡ k.of (get_or l i blank)
        field = ap k.of (left_there l d len carries.some i below away) ∙ spread_field d.loss (get_or l i blank)

        -- no other request has the key
        unnamed : HasKey (get_or l i blank) x → a.slot < 32 → (Free (get_or l a.slot blank) → ⊥) → (get_or l a.slot blank).head ≡ a.frame.head → is_of a.frame.head x ≡ false
        unnamed was there present head = off (is_of a.frame.head x) refl
          where
            off : (t : Bool) → is_of a.frame.head x ≡ t → t ≡ false
            off true is = absurd (away (one_of_key p l x kept i a.slot below there was (present, subst (λ (g : Head). OfKey g x) (sym head) ((of_says a.frame.head x).0 is))))
            off false is = refl

        same : HasKey (get_or l i blank) x → accepts x e ≡ false → speaks x e ≡ false → k.of (get_or m i blank) ≡ shown x (e ∷ h)
        same was f n = field ∙ before i below was ∙ sym (λ j. by_kind (plain j) (f j) (n j))

        by : Turns l m a → k.of (get_or m i blank) ≡ shown x (e ∷ h)
        by (inl come) =
            let was = had x (come.others i below away) has in
            let out = absent_of (is_of a.frame.head x) refl was in
            same was (and_false (is_submitted a.word) out) (and_false (ltb a.slot 32) out)
          where
            absent_of : (t : Bool) → is_of a.frame.head x ≡ t → HasKey (get_or l i blank) x → t ≡ false
            absent_of true is was =
                absurd (come.absent i below (was.0, same_key_lem (get_or l i blank).head a.frame.head x was.1 ((of_says a.frame.head x).0 is)))
            absent_of false is was = refl
        by (inr (inl go)) =
            let was = had x (go.others i below away) has in
            let out = unnamed was go.slot go.present go.head in
            same was (and_false (is_submitted a.word) out) (and_false (ltb a.slot 32) out)
        by (inr (inr rest)) = let was = had x (rest.all i below) has in same was (ap (λ (t : Bool). t && is_of a.frame.head x) rest.submitted) (by_place was (ltb a.slot 32) refl)
          where
            by_place : HasKey (get_or l i blank) x → (t : Bool) → ltb a.slot 32 ≡ t → t && is_of a.frame.head x ≡ false
            by_place was true b = let there = ltb-true a.slot 32 b in unnamed was there (rest.named there).0 (rest.named there).1
            by_place was false b = refl

    shows_on : Shows x (e ∷ h) m
    shows_on i below has = by (eqb i a.slot) refl
      where
        by : (t : Bool) → eqb i a.slot ≡ t → k.of (get_or m i blank) ≡ shown x (e ∷ h)
        by true is =
            let at : i ≡ a.slot = eqb-true i a.slot is in
            let low : a.slot < 32 = omega (arith, at, below) in
            ap (λ (n : ℕ). k.of (get_or m n blank)) at ∙ here low (subst (λ (n : ℕ). HasKey (get_or m n blank) x) at has)
        by false is = other i below (eqb-false i a.slot is) has

  -- ---- any calls

  none_there : (x : Key) (h : List Entry) (l : List Request) → ((i : ℕ) → i < 32 → get_or l i blank ≡ blank) → Shows x h l
  none_there x h l zeros i below has = absurd (has.0 (ap (λ (r : Request). r.stage) (zeros i below)))

  shows_after : (c : Call) (s : State) (h : List Entry) → Tells h s → (x : Key) → Shows x h s.list → Shows x (entries_of c s ++ h) (leave c s).list
  shows_after c s h t x before = by_step c s (λ (u : State) (es : List Entry). Shows x (es ++ h) u.list) (λ off. before) (λ size on. kind on (is_setup c) refl)
    where
      d : Done
      d = done_of c s

      kind : is_refused d.answer.word ≡ false → (b : Bool) → is_setup c ≡ b → Shows x (taken_entry c s d ∷ h) (left_of s.list d)
      kind on true e = none_there x (taken_entry c s d ∷ h) (left_of s.list d) (setup_zeros c s t.ok.list e on)
      kind on false e = shows_on s.port s.list c d t.ok.list t.ok.sound.kept e (k.laws s t.ok c e on) (turned s t.ok c e on) x h before

  shows_run : (cs : List Call) (s : State) (h : List Entry) → Tells h s → (x : Key) → Shows x h s.list → Shows x (history cs s h) (run cs s).list
  shows_run [] s h t x before = before
  shows_run (c ∷ cs) s h t x before = shows_run cs (leave c s) (entries_of c s ++ h) (tells_after c s h t) x (shows_after c s h t x before)

  -- from a setup on
  pub shows : (r : Run) (x : Key) → Shows x (past r) (now r).list
  shows r x =
      shows_run r.calls (leave (first r) r.lent) (entries_of (first r) r.lent ++ []) (first_tells r) x
      (none_there x (entries_of (first r) r.lent ++ []) (leave (first r) r.lent).list (first_zeros r))
