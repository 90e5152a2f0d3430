-- Numbers are put with their tabs one behind the other, as they stand in `tabbed`, and a line for which there is room is put whole. Assumes nothing.
use Rattle.std.specs.Prelude.{Ok}
use Prim.Native.Nat.{ℕ, ◌+◌, ◌≤◌, ◌<◌}
use mathlib.Core.Bool.{true}
use mathlib.Core.List.{List, [], ◌∷◌, ◌++◌, append_assoc}
use mathlib.Core.Path.{◌≡◌, refl, ap, ◌∙◌}
use native.Mathlib.Numerals.{add-one}
use native.Mathlib.Omega.{arith}
use borrow.Author.Tests.{le-ltb}
use lib.ListN.{length, take, get_or}
use lib.Seq.{take-suc, take_all}
use Rattle.lines.specs.Numbers.{decimal}
use Rattle.lines.specs.Parts.{tab}
use Rattle.lines.specs.Puts.{Put}
use Rattle.lines.proofs.Puts.{then, fits_front}
use Rattle.transfer.specs.Rules.{keeps_rules}
use Rattle.transfer.specs.declared.Transfer.{Transfer}
use Rattle.saved.specs.Saved.{bound_of, room_of, line_of, Save}
use Rattle.saved.specs.Walk.{tabbed}
use Rattle.saved.proofs.Lines.{line_short}

tabbed_append : (ns ms : List ℕ) → tabbed (ns ++ ms) ≡ tabbed ns ++ tabbed ms
tabbed_append [] ms = refl
tabbed_append (n ∷ ns) ms = ap (λ (t : List ℕ). decimal n ++ (tab ∷ t)) (tabbed_append ns ms) ∙ rw append_assoc

-- a turn of the loop that puts numbers, and its end
pub one_number : {l m k j : List ℕ} {at r q p : ℕ} (ns : List ℕ) (i : ℕ) → i < length ns → Put l at (tabbed (take i ns)) r m →
    Put m r (decimal (get_or ns i 0)) q k → Put k q (tab ∷ []) p j → Put l at (tabbed (take (i + 1) ns)) p j
one_number ns i h a b c = rw (add-one i, take-suc ns i 0 h, tabbed_append (take i ns) (get_or ns i 0 ∷ [])) (then a (then b c))

pub all_numbers : {l m : List ℕ} {at r : ℕ} (ns : List ℕ) (i : ℕ) → length ns ≤ i → Put l at (tabbed (take i ns)) r m → Put l at (tabbed ns) r m
all_numbers ns i h a = rw (take_all i ns h) at a

-- a line that was put where there is room for every line of its form
pub line_saved : (form : ℕ) (s : Transfer) {l m : List ℕ} {r : ℕ} → form < 10 → room_of form ≤ length l → keeps_rules (bound_of form) s ≡ true → Put l 0 (line_of form s) r m →
    Save form s l (record { answer = Ok tt; length = r }) m
line_saved form s {l} {m} {r} f h k a =
    let fits : length (line_of form s) ≤ length l = omega (arith, line_short form s f k) in
    let long : r ≡ length (line_of form s) = omega (arith, a.place) in
    record {
      answer = rw (le-ltb (length l) (room_of form) h, k) (λ i. record { answer = Ok tt; length = long i });
      bytes = rw (le-ltb (length l) (room_of form) h, k) (fits_front a fits);
    }
