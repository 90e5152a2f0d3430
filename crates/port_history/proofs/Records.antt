-- A call changes the record at its answer's slot into its entry, and of the others at most a loss timer: the walk that leaves the list
-- writes nothing else. So how a request comes, leaves or stays is read off the answer and the entry. Assumes nothing.
use Rattle.std.specs.Prelude.{Option}
use Prim.Native.Nat.{ℕ, ◌<◌}
use mathlib.Core.Path.{◌≡◌, refl, sym, ap, subst, ◌∙◌}
use mathlib.Core.Bool.{Bool, true, false}
use mathlib.Core.List.{List}
use mathlib.Core.Logic.{inl, inr}
use native.Mathlib.Omega.{arith}
use lib.Dec.{eqb}
use lib.ListN.{length, get_or}
use borrow.Author.Tests.{eqb-true, eqb-false}
use Rattle.port_parts.specs.Parts.{blank}
use Rattle.port_parts.specs.declared.Request.{Request}
use Rattle.port_rules.specs.Kept.{Free}
use Rattle.port_rows.specs.declared.Done.{Done}
use Rattle.port_rows.specs.declared.Loss.{Loss}
use Rattle.port_rows.specs.Records.{spread}
use Rattle.port.specs.Calls.{left_of}
use Rattle.port.specs.Grounds.{Absent}
use Rattle.port.specs.History.{is_last}
use Rattle.port.proofs.Begins.{left_here, left_there}
use Rattle.port_invariant.proofs.Spreads.{by_spread}
use Rattle.port_history.specs.Standing.{is_submitted}
use Rattle.port_history.specs.Turns.{keyed, Stays, OthersStay, Turns}

pub stays_self : (r : Request) → Stays r r
stays_self r = record { free = λ f. refl; present = λ p. (p, refl); time = λ p. refl }

-- a request that is still there with its head and time
pub stays_there : {r b : Request} → (Free r → ⊥) → (Free b → ⊥) → b.head ≡ r.head → b.submitted ≡ r.submitted → Stays r b
stays_there p q e t = record { free = λ f. absurd (p f); present = λ _. (q, e); time = λ _. t }

-- a loss timer goes into no free record, and changes neither stage nor head nor time
pub spread_stays : (x : Option Loss) (r : Request) → Stays r (spread x r)
spread_stays x r =
    record {
      free = λ f. by_spread x (λ (b : Request). b ≡ r) r (λ h. absurd (h.there f)) (λ h. refl);
      present = λ p. by_spread x (λ (b : Request). (Free b → ⊥) × (b.head ≡ r.head)) r (λ h. (p, refl)) (λ h. (p, refl));
      time = λ p. by_spread x (λ (b : Request). b.submitted ≡ r.submitted) r (λ h. refl) (λ h. refl);
    }

module _ (l : List Request) (d : Done) (len : length l ≡ 32) (some : d.cleared ≡ false) where
  others_stay : OthersStay l (left_of l d) d.answer
  others_stay i h other = subst (Stays (get_or l i blank)) (sym (left_there l d len some i h other)) (spread_stays d.loss (get_or l i blank))

  pub comes : is_submitted d.answer.word ≡ true → d.answer.slot < 32 → Free (get_or l d.answer.slot blank) → ((i : ℕ) → i < d.answer.slot → Free (get_or l i blank) → ⊥)
      → Absent l (keyed d.answer.frame.head) → (Free d.entry → ⊥) → d.entry.head ≡ d.answer.frame.head → Turns l (left_of l d) d.answer
  comes word slot free lowest absent there head =
      inl
      (record {
        word = word;
        slot = slot;
        free = free;
        lowest = lowest;
        absent = absent;
        present = subst (λ (r : Request). Free r → ⊥) (sym (left_here l d len some slot)) there;
        head = ap (λ (r : Request). r.head) (left_here l d len some slot) ∙ head;
        others = others_stay;
      })

  pub leaves : is_last d.answer.word ≡ true → d.answer.slot < 32 → (Free (get_or l d.answer.slot blank) → ⊥) → (get_or l d.answer.slot blank).head ≡ d.answer.frame.head
      → d.entry ≡ blank → Turns l (left_of l d) d.answer
  leaves word slot there head zeros =
      inr (inl (record { word = word; slot = slot; present = there; head = head; zeros = left_here l d len some slot ∙ zeros; others = others_stay }))

  -- a present request stays one, or the answer names none
  pub rests : is_submitted d.answer.word ≡ false → is_last d.answer.word ≡ false
      → (d.answer.slot < 32 → (Free (get_or l d.answer.slot blank) → ⊥) × (((get_or l d.answer.slot blank).head ≡ d.answer.frame.head) × ((Free d.entry → ⊥) × ((d.entry.head ≡ d.answer.frame.head) × (d.entry.submitted ≡ (get_or l d.answer.slot blank).submitted)))))
      → Turns l (left_of l d) d.answer
  rests submitted last entry = inr (inr (record { submitted = submitted; last = last; named = λ h. ((entry h).0, (entry h).1.0); all = λ i h. by i h (eqb i d.answer.slot) refl }))
    where
      by : (i : ℕ) → i < 32 → (t : Bool) → eqb i d.answer.slot ≡ t → Stays (get_or l i blank) (get_or (left_of l d) i blank)
      by i h true e =
          let at : i ≡ d.answer.slot = eqb-true i d.answer.slot e in
          let slot : d.answer.slot < 32 = omega (arith, at, h) in
          subst (λ (k : ℕ). Stays (get_or l k blank) (get_or (left_of l d) k blank)) (sym at) (subst (Stays (get_or l d.answer.slot blank)) (sym (left_here l d len some slot)) (stays_there (entry slot).0 (entry slot).1.1.0 ((entry slot).1.1.1.0 ∙ sym (entry slot).1.0) (entry slot).1.1.1.1))
      by i h false e = others_stay i h (eqb-false i d.answer.slot e)
