-- What the history says of a key is what the list holds of it, call by call: Submitted comes where no request has the key, a last word on
-- the one request that has it, and nothing else changes who is present. The counts follow from the history alone. Assumes nothing.
use Prim.Native.Nat.{ℕ, ◌<◌}
use mathlib.Core.Path.{◌≡◌, refl, sym, ap, subst, ◌∙◌}
use mathlib.Core.Bool.{Bool, true, false, cond, ◌&&◌}
use mathlib.Core.List.{List}
use mathlib.Core.Logic.{◌⊎◌, inl, inr}
use lib.Dec.{eqb, ltb}
use lib.ListN.{get_or}
use borrow.Author.Tests.{eqb-true, eqb-false, eq-eqb, ltb-true}
use Rattle.laws.proofs.Bools.{never, and_true}
use Rattle.open_frame.specs.declared.Head.{Head}
use Rattle.port_parts.specs.Parts.{blank}
use Rattle.port_parts.specs.declared.Port.{Port}
use Rattle.port_parts.specs.declared.Request.{Request}
use Rattle.port_rules.specs.Kept.{Free, Kept}
use Rattle.port_rows.specs.Finds.{is_of}
use Rattle.port_rows.specs.declared.Answer.{Answer}
use Rattle.port_rows.specs.declared.Key.{Key}
use Rattle.port.specs.Grounds.{OfKey, HasKey, Absent}
use Rattle.port.specs.History.{Call}
use Rattle.port.proofs.Found.{of_says, same_key_lem, one_of_key}
use Rattle.port_history.specs.Standing.{is_setup, speaks, Standing, gone, there, wrong, same_head, agrees, accepted, ended, spoken, after}
use Rattle.port_history.specs.Turns.{Stays, OthersStay, Comes, Leaves, Rests, Turns, Holds}
use Rattle.port_history.proofs.Entries.{same_head_lem, after_setup, after_last, after_first, after_word, after_other}

-- ---- the list holds what the history says

-- a record that stays has a key exactly if it had it
pub had : (x : Key) {a b : Request} → Stays a b → HasKey b x → HasKey a x
had x {a} {b} s k = by (eqb a.stage 0) refl
  where
    by : (t : Bool) → eqb a.stage 0 ≡ t → HasKey a x
    by true e = absurd (k.0 (subst (λ (q : Request). Free q) (sym (s.free (eqb-true a.stage 0 e))) (eqb-true a.stage 0 e)))
    by false e = let same = (s.present (eqb-false a.stage 0 e)).1 in (eqb-false a.stage 0 e, subst (λ (h : Head). OfKey h x) same k.1)

has : (x : Key) {a b : Request} → Stays a b → HasKey a x → HasKey b x
has x s k = let still = s.present k.0 in (still.0, subst (λ (h : Head). OfKey h x) (sym still.1) k.1)

module _ (p : Port) (l m : List Request) (a : Answer) (kept : Kept p l) (x : Key) where
  -- a standing that stays, where no request of the key is at the answer's slot before or after
  still : (v : Standing) → ((i : ℕ) → i < 32 → HasKey (get_or l i blank) x ⊎ HasKey (get_or m i blank) x → Stays (get_or l i blank) (get_or m i blank)) → Holds x v l → Holds x v m
  still gone stay h = λ i below k. h i below (had x (stay i below (inr k)) k)
  still (there slot head) stay h = let s = stay slot h.0 (inl h.1.0) in (h.0, (has x s h.1.0, (s.present h.1.0.0).1 ∙ h.1.1))
  still wrong stay h = h

  -- others stay, so all of another key do
  aside : OthersStay l m a → (HasKey (get_or l a.slot blank) x → ⊥) → (HasKey (get_or m a.slot blank) x → ⊥) → (i : ℕ) → i < 32 → HasKey (get_or l i blank) x ⊎ HasKey (get_or m i blank) x → Stays (get_or l i blank) (get_or m i blank)
  aside others no-before no-after i h k = others i h (λ e. at e k)
    where
      at : i ≡ a.slot → HasKey (get_or l i blank) x ⊎ HasKey (get_or m i blank) x → ⊥
      at e (inl q) = no-before (subst (λ (n : ℕ). HasKey (get_or l n blank) x) e q)
      at e (inr q) = no-after (subst (λ (n : ℕ). HasKey (get_or m n blank) x) e q)

  -- ---- a request comes

  came : Comes l m a → is_of a.frame.head x ≡ true → (v : Standing) → Holds x v l → Holds x (accepted a v) m
  came c k gone h = (c.slot, ((c.present, subst (λ (g : Head). OfKey g x) (sym c.head) ((of_says a.frame.head x).0 k)), c.head))
  came c k (there slot head) h = c.absent slot h.0 (h.1.0.0, same_key_lem (get_or l slot blank).head a.frame.head x h.1.0.1 ((of_says a.frame.head x).0 k))
  came c k wrong h = h

  came_other : Comes l m a → is_of a.frame.head x ≡ false → (v : Standing) → Holds x v l → Holds x v m
  came_other c k v =
      still v
      (aside c.others (λ q. q.0 c.free)
      (λ q. never (sym k ∙ (of_says a.frame.head x).1 (subst (λ (g : Head). OfKey g x) c.head q.1))))

  -- ---- a request leaves

  blank_free : Leaves l m a → HasKey (get_or m a.slot blank) x → ⊥
  blank_free d q = q.0 (ap (λ (r : Request). r.stage) d.zeros)

  -- the request that an answer names
  named_key : (Free (get_or l a.slot blank) → ⊥) → (get_or l a.slot blank).head ≡ a.frame.head → is_of a.frame.head x ≡ true → HasKey (get_or l a.slot blank) x
  named_key present head k = (present, subst (λ (g : Head). OfKey g x) (sym head) ((of_says a.frame.head x).0 k))

  -- is the one that is there, since no two share a key
  agreed : a.slot < 32 → HasKey (get_or l a.slot blank) x → (get_or l a.slot blank).head ≡ a.frame.head → (slot : ℕ) (head : Head) → Holds x (there slot head) l → agrees a slot head ≡ true
  agreed below named is slot head h =
      let at : slot ≡ a.slot = one_of_key p l x kept slot a.slot h.0 below h.1.0 named in
      let same : head ≡ a.frame.head = sym h.1.1 ∙ ap (λ (n : ℕ). (get_or l n blank).head) at ∙ is in
      and_true (eq-eqb slot a.slot at) (ap (λ (g : Head). same_head g a.frame.head) same ∙ same_head_lem a.frame.head)

  left : Leaves l m a → is_of a.frame.head x ≡ true → (v : Standing) → Holds x v l → Holds x (ended a v) m
  left d k v h = by v h
    where
      leaver : HasKey (get_or l a.slot blank) x
      leaver = named_key d.present d.head k

      -- every other record has another key
      none_left : Absent m x
      none_left i below q = by_place (eqb i a.slot) refl
        where
          by_place : (t : Bool) → eqb i a.slot ≡ t → ⊥
          by_place true e = blank_free d (subst (λ (n : ℕ). HasKey (get_or m n blank) x) (eqb-true i a.slot e) q)
          by_place false e =
              let other = eqb-false i a.slot e in
              other (one_of_key p l x kept i a.slot below d.slot (had x (d.others i below other) q) leaver)

      by : (v : Standing) → Holds x v l → Holds x (ended a v) m
      by gone h = h a.slot d.slot leaver
      by (there slot head) h = subst (λ (t : Bool). Holds x (cond t gone wrong) m) (sym (agreed d.slot leaver d.head slot head h)) none_left
      by wrong h = h

  left_other : Leaves l m a → is_of a.frame.head x ≡ false → (v : Standing) → Holds x v l → Holds x v m
  left_other d k v =
      still v (aside d.others (λ q. never (sym k ∙ (of_says a.frame.head x).1 (subst (λ (g : Head). OfKey g x) d.head q.1))) (blank_free d))

  -- ---- none comes and none leaves

  rested : Rests l m a → is_of a.frame.head x ≡ true → a.slot < 32 → (v : Standing) → Holds x v l → Holds x (spoken a v) m
  rested d k below v h = by v h
    where
      named : HasKey (get_or l a.slot blank) x
      named = named_key (d.named below).0 (d.named below).1 k

      by : (v : Standing) → Holds x v l → Holds x (spoken a v) m
      by gone h = h a.slot below named
      by (there slot head) h =
          subst (λ (t : Bool). Holds x (cond t (there slot head) wrong) m) (sym (agreed below named (d.named below).1 slot head h)) (still (there slot head) (λ i b _. d.all i b) h)
      by wrong h = h

  -- ---- any call that is no setup

  pub holds_on : (c : Call) → is_setup c ≡ false → Turns l m a → (v : Standing) → Holds x v l → Holds x (after x (record { call = c; answer = a }) v) m
  holds_on c s turns v h = by (is_of a.frame.head x) refl turns
    where
      to : {w : Standing} → after x (record { call = c; answer = a }) v ≡ w → Holds x w m → Holds x (after x (record { call = c; answer = a }) v) m
      to e = subst (λ (w : Standing). Holds x w m) (sym e)

      by : (t : Bool) → is_of a.frame.head x ≡ t → Turns l m a → Holds x (after x (record { call = c; answer = a }) v) m
      by true k (inl come) = to (after_first x c a v s come.word k) (came come k v h)
      by true k (inr (inl leave)) = to (after_last x c a v s leave.word k) (left leave k v h)
      by false k (inl come) = to (after_other x c a v s k) (came_other come k v h)
      by false k (inr (inl leave)) = to (after_other x c a v s k) (left_other leave k v h)
      by true k (inr (inr rest)) = to (after_word x c a v s rest.last rest.submitted) (spoke (ltb a.slot 32) refl)
        where
          spoke : (u : Bool) → ltb a.slot 32 ≡ u → Holds x (cond (speaks x (record { call = c; answer = a })) (spoken a v) v) m
          spoke true b = subst (λ (u : Bool). Holds x (cond u (spoken a v) v) m) (sym (and_true b k)) (rested rest k (ltb-true a.slot 32 b) v h)
          spoke false b = subst (λ (u : Bool). Holds x (cond (u && is_of a.frame.head x) (spoken a v) v) m) (sym b) (still v (λ i below _. rest.all i below) h)
      by false k (inr (inr rest)) = to (after_other x c a v s k) (still v (λ i below _. rest.all i below) h)

-- a setup leaves none
pub holds_anew : (x : Key) (c : Call) (a : Answer) (v : Standing) (m : List Request) → is_setup c ≡ true → ((i : ℕ) → i < 32 → get_or m i blank ≡ blank) → Holds x (after x (record { call = c; answer = a }) v) m
holds_anew x c a v m s zeros = subst (λ (w : Standing). Holds x w m) (sym (after_setup x c a v s)) (λ i h k. k.0 (ap (λ (r : Request). r.stage) (zeros i h)))
