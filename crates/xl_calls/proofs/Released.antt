-- Which steps release a path: every row is looked at, with the state that it leaves. Assumes nothing.
use Rattle.std.specs.Prelude.{None, Option, Some}
use Prim.Native.Nat.{ℕ}
use mathlib.Core.Bool.{not, ◌&&◌}
use mathlib.Core.Path.{◌≡◌, refl}
use Rattle.laws.proofs.Bools.{by_test}
use Rattle.open_frame.specs.declared.OpenFrame.{OpenFrame}
use Rattle.xl_parts.specs.declared.Phase.{Phase}
use Rattle.xl_parts.specs.declared.Phase.TheVariants.{Xl0, Xl1, Xl2, Xl3, Xl4, Xl5, Xl6, Xl7, Xl8, Xl9, Xl10}
use Rattle.xl_parts.specs.declared.Event.{Event}
use Rattle.xl_parts.specs.declared.Event.TheVariants.{Line, Router, Manager, Own, Break, Disable}
use Rattle.xl_parts.specs.declared.Memory.{Memory}
use Rattle.xl_parts.specs.declared.State.{State}
use Rattle.xl_parts.specs.declared.Stepped.{Stepped}
use Rattle.xl_parts.specs.Parts.{Effect}
use Rattle.xl_parts.specs.Kinds.{Kind, kind_of, Said, said_by}
use Rattle.xl_rows.specs.Table.{stands, comes_back, crossed, heard_in6, in6, rows, break_rows, rows_for, takes, unexpected}
use Rattle.xl_rows.specs.Sentences.{one_of}
use Rattle.xl_rows.proofs.Rows.{Every}
use Rattle.xl_calls.specs.Links.{Call, call_of}
use Rattle.xl_parts.specs.Path.{on_path, releases}
use Rattle.xl_calls.specs.Path.{leaves_to}
use Rattle.xl_calls.proofs.Links.{by_call}
use Rattle.xl_calls.proofs.Looked.{looked}

-- a step from p to here releases a path exactly if here is one of the states that p leaves its path to
abbrev Leaves : Phase → Effect → Type 0
Leaves p x = on_path p && not (on_path x.state.phase) ≡ one_of x.state.phase (leaves_to p)

-- Disable, and what changes nothing but the count
idle : (p : Phase) → on_path p && not (on_path Xl0) ≡ one_of Xl0 (leaves_to p)
idle Xl0 = refl
idle Xl1 = refl
idle Xl2 = refl
idle Xl3 = refl
idle Xl4 = refl
idle Xl5 = refl
idle Xl6 = refl
idle Xl7 = refl
idle Xl8 = refl
idle Xl9 = refl
idle Xl10 = refl

stays : (p : Phase) → on_path p && not (on_path p) ≡ one_of p (leaves_to p)
stays Xl0 = refl
stays Xl1 = refl
stays Xl2 = refl
stays Xl3 = refl
stays Xl4 = refl
stays Xl5 = refl
stays Xl6 = refl
stays Xl7 = refl
stays Xl8 = refl
stays Xl9 = refl
stays Xl10 = refl

module _ (m : Memory) (n : ℕ) (f : OpenFrame) where
  abbrev at : Phase → State
  at p = record { phase = p; memory = m; count = n }

  crosses : (h : Option OpenFrame) (g : OpenFrame) → Leaves Xl6 (crossed h g (at Xl6))
  crosses None g = refl
  crosses (Some t) g = by_test (Leaves Xl6) (stands m.aip t g) (λ q. refl) (λ q. by_test (Leaves Xl6) (comes_back g t) (λ r. refl) (λ r. refl))

  -- the OPEN that XL5 remembered
  abbrev sent : State
  sent = in6 (at Xl5)

  crosses_in_5 : (h : Option OpenFrame) (g : OpenFrame) → Leaves Xl5 (crossed h g sent)
  crosses_in_5 None g = refl
  crosses_in_5 (Some t) g = by_test (Leaves Xl5) (stands m.aip t g) (λ q. refl) (λ q. by_test (Leaves Xl5) (comes_back g t) (λ r. refl) (λ r. refl))

  hears_in_5 : (h : Option OpenFrame) → Leaves Xl5 (heard_in6 h sent)
  hears_in_5 None = refl
  hears_in_5 (Some g) = crosses_in_5 m.held g

  walk : (k : Kind) (x : Said) (p : Phase) → Every k (Leaves p) (rows p f x (at p))
  walk k x Xl0 = ((λ q. refl), ((λ q. refl), tt))
  walk k x Xl1 = ((λ q. refl), ((λ q. refl), ((λ q. refl), ((λ q. refl), ((λ q. refl), tt)))))
  walk k x Xl2 = ((λ q. by_test (Leaves Xl2) m.broke (λ r. refl) (λ r. refl)), tt)
  walk k x Xl3 = ((λ q. refl), ((λ q. refl), ((λ q. refl), ((λ q. refl), ((λ q. refl), tt)))))
  walk k x Xl4 = ((λ q. refl), tt)
  walk k x Xl5 = ((λ q. refl), ((λ q. by_test (Leaves Xl5) m.broke (λ r. refl) (λ r. hears_in_5 m.heard)), tt))
  walk k x Xl6 = ((λ q. refl), ((λ q. refl), ((λ q. refl), ((λ q. crosses m.held f), tt))))
  walk k x Xl7 = ((λ q. refl), ((λ q. by_test (Leaves Xl7) m.close (λ r. refl) (λ r. refl)), tt))
  walk k x Xl8 = ((λ q. refl), tt)
  walk k x Xl9 = ((λ q. refl), tt)
  walk k x Xl10 = tt

  walk_break : (k : Kind) (p : Phase) → Every k (Leaves p) (break_rows p (at p))
  walk_break k Xl0 = tt
  walk_break k Xl1 = ((λ q. refl), tt)
  walk_break k Xl2 = ((λ q. refl), tt)
  walk_break k Xl3 = ((λ q. refl), ((λ q. refl), tt))
  walk_break k Xl4 = tt
  walk_break k Xl5 = ((λ q. refl), tt)
  walk_break k Xl6 = ((λ q. refl), ((λ q. refl), tt))
  walk_break k Xl7 = ((λ q. refl), ((λ q. refl), tt))
  walk_break k Xl8 = ((λ q. refl), ((λ q. refl), tt))
  walk_break k Xl9 = tt
  walk_break k Xl10 = ((λ q. refl), ((λ q. refl), tt))

  each : (p : Phase) (e : Event) → Every (kind_of e) (Leaves p) (rows_for f e (at p))
  each p (Line v) = walk (kind_of (Line v)) (said_by (Line v)) p
  each p (Router v) = walk (kind_of (Router v)) (said_by (Router v)) p
  each p (Manager v) = walk (kind_of (Manager v)) (said_by (Manager v)) p
  each p (Own v) = walk (kind_of (Own v)) (said_by (Own v)) p
  each p (Break v) = walk_break (kind_of (Break v)) p
  each p Disable = ((λ q. idle p), tt)

  leaves : (p : Phase) (e : Event) → Leaves p (takes f e (at p))
  leaves p e = looked (Leaves p) (kind_of e) (rows_for f e (at p)) (unexpected (at p)) (each p e) (stays p)

-- what the table does with an event releases a path exactly if it leaves one of these states
pub released : (f : OpenFrame) (e : Event) (s : State) → releases s (takes f e s).state ≡ one_of (takes f e s).state.phase (leaves_to s.phase)
released f e s = leaves s.memory s.count f s.phase e

-- and so does a call; one that is refused releases none
pub released_call : (s : State) (c : Call) → releases s (call_of c s).state ≡ one_of (call_of c s).state.phase (leaves_to s.phase)
released_call s = by_call (λ (c : Call) (r : Stepped). releases s r.state ≡ one_of r.state.phase (leaves_to s.phase)) s (λ c k. stays s.phase) (λ c f e off from. released f e s)
