-- A swap that gives the state back changes nothing, so calls with swaps between them lead where the calls alone do, by the same history. Assumes nothing.
use mathlib.Core.List.{List, [], ◌∷◌, ◌++◌}
use mathlib.Core.Path.{◌≡◌, sym, ap, ◌∙◌}
use Rattle.claims.specs.Swaps.{Turn, calls_in, Machine, Leads, stands, called, swapped}

module _
    {S C E : Type 0}
    (m : Machine S C E)
    (run : List C → S → S)
    (history : List C → S → List E → List E)
    (ran : (s : S) → run [] s ≡ s)
    (runs : (c : C) (cs : List C) (s : S) → run (c ∷ cs) s ≡ run cs (m.after c s))
    (kept : (s : S) (h : List E) → history [] s h ≡ h)
    (keeps : (c : C) (cs : List C) (s : S) (h : List E) → history (c ∷ cs) s h ≡ history cs (m.after c s) (m.adds c s ++ h))
    (same : (s t : S) → m.Swaps s t → t ≡ s) where
  pub alone : {ts : List (Turn C)} {s s' : S} {h h' : List E} → Leads m ts s h s' h' → (s' ≡ run (calls_in ts) s) × (h' ≡ history (calls_in ts) s h)
  alone (stands {s} {h}) = (sym (ran s), sym (kept s h))
  alone (called {c} {ts} {s} {s'} {h} {h'} rest) =
      let on = alone rest in
      (on.0 ∙ sym (runs c (calls_in ts) s), on.1 ∙ sym (keeps c (calls_in ts) s h))
  alone (swapped {ts} {s} {t} {s'} {h} {h'} over rest) =
      let on = alone rest in
      let back = same s t over in
      (on.0 ∙ ap (run (calls_in ts)) back, on.1 ∙ ap (λ (u : S). history (calls_in ts) u h) back)
