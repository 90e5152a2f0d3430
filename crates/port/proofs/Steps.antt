-- What a call of the list leaves, step by step: what it asks, what the scan finds of that, the slot that was found, the record there,
-- and the core on it. Each step's answer goes into the next, so that the last is `scanned` of the call's parts; and a list of 32
-- records is the case of `Called` that is served. Assumes nothing.
use Prim.Native.Nat.{ℕ}
use mathlib.Core.Path.{◌≡◌, refl, sym, ap, ◌∙◌}
use mathlib.Core.Bool.{Bool, cond}
use mathlib.Core.List.{List}
use lib.ListN.{length, get_or}
use borrow.Author.Tests.{eq-eqb}
use Rattle.std.specs.Array.{IsWholeChunk}
use Rattle.port_parts.specs.Parts.{blank}
use Rattle.port_parts.specs.declared.Port.{Port}
use Rattle.port_parts.specs.declared.Request.{Request}
use Rattle.port_rules.specs.Rules.{rules}
use Rattle.port_rows.specs.declared.Done.{Done}
use Rattle.port.specs.declared.Stepped.{Stepped}
use Rattle.port.specs.Calls.{on32, answered, left_of, Called}
use Rattle.port.specs.Scans.{scanned, asking, finds}
use Rattle.port.proofs.Scanned.{one_pass}

pub on_32 : {A : Type 0} (l : List Request) (a b : A) → length l ≡ 32 → a ≡ on32 l a b
on_32 l a b len = ap (λ (t : Bool). cond t a b) (sym (eq-eqb (length l) 32 len))

module _ {P X Q F : Type 0} (ask : P → X → Q) (scan : List Request → Q → F) (slot : F → X → ℕ) (core : P → Request → F → X → Done) (told : List Request → P → X → Done)
    (told_is : (l : List Request) (p : P) (x : X) → scanned ask scan slot core l p x ≡ told l p x) where
  pub steps : (l : List Request) (p : P) (x : X) {q : Q} {f : F} {i : ℕ} {r : Request} {d : Done} → q ≡ ask p x → f ≡ scan l q → i ≡ slot f x → r ≡ get_or l i blank → d ≡ core p r f x → d ≡ told l p x
  steps l p x q_is f_by i_by r_by d_by =
      let f_is = f_by ∙ ap (scan l) q_is in
      let i_is = i_by ∙ ap (λ (g : F). slot g x) f_is in
      let r_is = r_by ∙ ap (λ (k : ℕ). get_or l k blank) i_is in
      d_by ∙ (λ j. core p (r_is j) (f_is j) x) ∙ told_is l p x

  pub called : (l : List Request) (p : P) (x : X) (none : Stepped) {q : Q} {f : F} {i : ℕ} {r : Request} {d : Done} {y : Stepped} {after : List Request} → length l ≡ 32
      → q ≡ ask p x → f ≡ scan l q → i ≡ slot f x → r ≡ get_or l i blank → d ≡ core p r f x → (y ≡ answered d) × (after ≡ left_of l d) → Called l (told l p x) none y after
  called l p x none len q_is f_by i_by r_by d_by left =
      let d_is = steps l p x q_is f_by i_by r_by d_by in
      (left.0 ∙ ap answered d_is ∙ on_32 l (answered (told l p x)) none len, left.1 ∙ ap (left_of l) d_is ∙ on_32 l (left_of l (told l p x)) l len)

-- the same by what the code has: the list is looked at as a block of 32 records, and the pass tests the rules and finds what the call looks for
module _ {X A : Type 0} (look : List Request → Port → X → A) (slot : Bool × A → X → ℕ) (core : Port → Request → Bool × A → X → Done) (told : List Request → Port → X → Done)
    (told_is : (l : List Request) (p : Port) (x : X) → scanned asking (finds look) slot core l p x ≡ told l p x) where
  pub looked : (l : List Request) (p : Port) (x : X) (none : Stepped) {block : List Request} {kept : Bool} {found : A} {r : Request} {d : Done} {y : Stepped} {after : List Request}
      → IsWholeChunk l block 32 → kept ≡ rules p block → found ≡ look block p x → r ≡ get_or block (slot (kept, found) x) blank → d ≡ core p r (kept, found) x
      → (y ≡ answered d) × (after ≡ left_of l d) → Called l (told l p x) none y after
  looked l p x none {kept = kept} {found = found} whole rules_by found_by r_by =
      let is = whole.same in
      let kept_is = rules_by ∙ ap (rules p) is ∙ sym (one_pass p l) in
      let found_is = found_by ∙ ap (λ (k : List Request). look k p x) is in
      called asking (finds look) slot core told told_is l p x none whole.long refl (λ i. (kept_is i, found_is i)) refl (r_by ∙ ap (λ (k : List Request). get_or k (slot (kept, found) x) blank) is)
