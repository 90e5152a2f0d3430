-- The store is the payloads of the taken frames and behind them what was lent first, since data goes where the last ended; so at the end it is the
-- image that the frames carried. Assumes nothing.
use Prim.Native.Nat.{ℕ, ◌+◌, ◌-◌}
use mathlib.Core.Bool.{Bool, true, false, cond}
use mathlib.Core.List.{List, [], ◌∷◌, ◌++◌, append_assoc}
use mathlib.Core.Path.{◌≡◌, refl, sym, ap, ◌∙◌}
use native.Mathlib.Omega.{arith}
use lib.Dec.{eqb}
use lib.ListN.{length, take, drop, length-append}
use lib.Seq.{take_at, drop-append-add, take-add, drop-drop}
use Rattle.laws.proofs.Bools.{never, by_test}
use Rattle.write_history.specs.History.{Xfer, Data, View, taken_by, takes, take_into, end_of_data, end_of_xfer, note, came}
use Rattle.write_history.specs.Demand.{last_end, EndToEnd}
use Rattle.write_history.proofs.Covers.{at_least}
use Rattle.take.specs.Take.{laid}
use Rattle.take_history.specs.Store.{payloads, FromImage}

-- each frame has as many bytes as it says
abbrev pub Sized : List Data → Type 0
Sized [] = Unit {0}
Sized (d ∷ ds) = (length d.bytes ≡ d.length) × Sized ds

-- frames end to end have as many bytes as lie between b and the end of the last
pub filled : (b : ℕ) (ds : List Data) → EndToEnd b ds → Sized ds → b + length (payloads ds) ≡ last_end b ds
filled b [] o z = omega arith
filled b (d ∷ ds) o z =
    let rest = filled b ds o.1 z.1 in
    let from = o.0 in
    let here = z.0 in
    let both = length-append (payloads ds) d.bytes in
    omega arith

-- the store with the frames' bytes at its front
abbrev pub Holds : List Data → List ℕ → List ℕ → Type 0
Holds ds store first = store ≡ payloads ds ++ drop (length (payloads ds)) first

-- bytes laid behind others that are at the front
pub laid_behind : (front bytes first : List ℕ) → laid (length front) bytes (front ++ drop (length front) first) ≡ (front ++ bytes) ++ drop (length (front ++ bytes)) first
laid_behind front bytes first =
    let rest : drop (length front + length bytes) (front ++ drop (length front) first) ≡ drop (length (front ++ bytes)) first =
    drop-append-add front (drop (length front) first) (length bytes)
    ∙ drop-drop (length bytes) (length front) first
    ∙ ap (λ (n : ℕ). drop n first) (sym (length-append front bytes)) in
    (λ i. take_at front (drop (length front) first) (length front) refl i ++ (bytes ++ rest i))
    ∙ sym (append_assoc front bytes (drop (length (front ++ bytes)) first))

-- what the history makes of data
pub took : (v : View) (d : Data) → takes v d ≡ true → (note (came d) v).taken ≡ d ∷ v.taken
took v d e = ap (λ (b : Bool). (cond b (take_into v.asks d v) v).taken) e ∙ into v.asks e
  where
    into : (xs : List Xfer) → taken_by v.fate xs d ≡ true → (take_into xs d v).taken ≡ d ∷ v.taken
    into [] off = absurd (never off)
    into (x ∷ xs) _ = by_test (λ (w : View). w.taken ≡ d ∷ v.taken) (eqb (end_of_data d) (end_of_xfer x)) (λ _. refl) (λ _. refl)

pub left : (v : View) (d : Data) → takes v d ≡ false → note (came d) v ≡ v
left v d e = ap (λ (b : Bool). cond b (take_into v.asks d v) v) e

-- frames that carry the image's bytes are the image's bytes
pub pictured : (image : List ℕ) (b : ℕ) (ds : List Data) → EndToEnd b ds → FromImage image ds → payloads ds ≡ take (last_end b ds - b) (drop b image)
pictured image b [] o f = ap (λ (n : ℕ). take n (drop b image)) (let z : 0 ≡ b - b = omega arith in z)
pictured image b (d ∷ ds) o f =
    let from = o.0 in
    let least = at_least b ds o.1 in
    let m = last_end b ds - b in
    let at : d.offset ≡ b + m = omega arith in
    let here : d.bytes ≡ take d.length (drop m (drop b image)) = f.0 ∙ ap (λ (n : ℕ). take d.length (drop n image)) at ∙ ap (take d.length) (sym (drop-drop m b image)) in
    let all : m + d.length ≡ end_of_data d - b = omega arith in
    (λ i. pictured image b ds o.1 f.1 i ++ here i) ∙ sym (take-add m d.length (drop b image)) ∙ ap (λ (n : ℕ). take n (drop b image)) all
