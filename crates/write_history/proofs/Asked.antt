-- XFER keeps the invariant, and its XFER_RDY says what the history has it say: the tag is picked out of what is free, and the range is the present one.
-- Assumes nothing.
use Rattle.std.specs.Prelude.{Ok}
use Prim.Native.Nat.{ℕ, suc, ◌+◌, ◌-◌, ◌*◌, ◌^◌, ◌<◌, min}
use mathlib.Core.Bool.{Bool, cond, ◌&&◌}
use mathlib.Core.List.{List, [], ◌∷◌}
use mathlib.Core.Logic.{◌↔◌}
use mathlib.Core.Path.{◌≡◌, refl, sym, ap, subst, ◌∙◌}
use native.Mathlib.Omega.{arith}
use lib.Dec.{eqb}
use lib.ListN.{length}
use borrow.Author.Tests.{leb-false, eq-eqb, ne_eqb, not-false}
use Rattle.laws.specs.Tags.{digit}
use Rattle.laws.proofs.Bools.{impossible, by_test, and_false}
use Rattle.laws.proofs.Tags.{some_in, one_own}
use Rattle.refusals.proofs.Causes.{by_causes}
use Rattle.write.specs.Rules.{until}
use Rattle.write.specs.Steps.{refused, previous, free, asked, retransmit_of}
use Rattle.write.specs.Steps.{xfer_causes, xfer_step}
use Rattle.write.specs.declared.Write.{Write}
use Rattle.write.specs.declared.Stepped.{Stepped}
use Rattle.write.specs.declared.Answer.{Answer}
use Rattle.write.specs.declared.Phase.{Phase}
use Rattle.write.proofs.Phases.{ask_phase}
use Rattle.write.proofs.Picks.{picked}
use Rattle.write_history.specs.History.{Request, Xfer, Entry, View, Fate, none, due, good, failed, full, view, note, end_of_xfer, Among}
use Rattle.write_history.specs.History as history
use Rattle.write_history.specs.Log.{xfer_of}
use Rattle.write_history.specs.Demand.{last_end, end_of_request, Asks}
use Rattle.write_history.proofs.Alike.{AlikeXfer}
use Rattle.write_history.proofs.Invariant.{Before, first, again, on, Asking, Inv}
use Rattle.write_history.proofs.Effects as effects
use Rattle.write_history.proofs.Says as says
use Rattle.write_history.proofs.Made.{calm}
use Rattle.write_history.proofs.Made as made

module _ (k : ℕ) (s : Write) (h : List Entry) (i : Inv k s (view h)) where
  abbrev Makes : Entry → Stepped → Type 0
  Makes e st = says.Call k s h e st

  -- what the history says before an XFER_RDY
  record Prior (v : View) (q : ℕ) : Type 0 where
    alone : (v.fate ≡ due → ⊥) × (v.fate ≡ good → ⊥)
    retry : (retransmit_of s ≡ 1) ↔ (v.fate ≡ failed)
    last : (y : Xfer) (ys : List Xfer) → v.asks ≡ y ∷ ys → (y.transfer ≡ s.tag) × (previous s ≡ 2 ^ s.tag)
    range : v.fate ≡ failed → (y : Xfer) (ys : List Xfer) → v.asks ≡ y ∷ ys → (y.offset ≡ s.offset + q * s.burst) × (end_of_xfer y ≡ until s)

  -- the latest is the latest
  head_is : (x y : Xfer) (xs ys : List Xfer) → x ∷ xs ≡ y ∷ ys → y ≡ x
  head_is x y xs ys e = ap (λ (zs : List Xfer). first_of zs) (sym e)
    where
      first_of : List Xfer → Xfer
      first_of [] = x
      first_of (z ∷ zs) = z

  -- with no tag in use the retransmit bit is zero
  no_retry : s.tags ≡ 0 → retransmit_of s ≡ 0
  no_retry e = ap (λ (t : Bool). cond {A = ℕ} t 0 1) (eq-eqb s.tags 0 e)

  -- a fate is one of five
  unlike : (f g : Fate) → ((f ≡ g) → ⊥) → (view h).fate ≡ f → (view h).fate ≡ g → ⊥
  unlike f g apart e d = apart (sym e ∙ d)

  prior : (q : ℕ) → Before s (view h) q → Prior (view h) q
  prior q (first f none' empty) =
      record {
        alone = (unlike none due (λ e. (let z : ◌≡◌ {A = ℕ} 0 1 = cc in omega arith)) f, unlike none good (λ e. (let z : ◌≡◌ {A = ℕ} 0 1 = cc in omega arith)) f);
        retry = (λ e. (let z = no_retry empty in absurd (omega arith)), λ e. absurd (unlike none failed (λ e. (let z : ◌≡◌ {A = ℕ} 0 1 = cc in omega arith)) f e));
        last = λ y ys e. absurd (let z : ◌≡◌ {A = ℕ} 0 (suc (length ys)) = ap length (sym none' ∙ e) in omega arith);
        range = λ e. absurd (unlike none failed (λ e. (let z : ◌≡◌ {A = ℕ} 0 1 = cc in omega arith)) f e);
      }
  prior q (again f l own) =
      record {
        alone = (unlike failed due (λ e. (let z : ◌≡◌ {A = ℕ} 0 1 = cc in omega arith)) f, unlike failed good (λ e. (let z : ◌≡◌ {A = ℕ} 0 1 = cc in omega arith)) f);
        retry = (λ _. f, λ _. ap (λ (t : Bool). cond {A = ℕ} t 0 1) (ne_eqb s.tags 0 (some_in s.tags s.tag own)));
        last = λ y ys e. (ap (λ (z : Xfer). z.transfer) (head_is l.one y l.earlier ys (sym l.is ∙ e)) ∙ l.under, previous_is);
        range = λ _ y ys e. let is = head_is l.one y l.earlier ys (sym l.is ∙ e) in (ap (λ (z : Xfer). z.offset) is ∙ l.from, ap end_of_xfer is ∙ l.to);
      }
    where
      previous_is : previous s ≡ 2 ^ s.tag
      previous_is =
          let some = ne_eqb s.tags 0 (some_in s.tags s.tag own) in
          ap (λ (t : Bool). cond t 0 (2 ^ s.tag)) (and_false (eqb s.next s.offset) some)
  prior q (on x xs f is under empty later) =
      record {
        alone = (unlike full due (λ e. (let z : ◌≡◌ {A = ℕ} 0 1 = cc in omega arith)) f, unlike full good (λ e. (let z : ◌≡◌ {A = ℕ} 0 1 = cc in omega arith)) f);
        retry = (λ e. (let z = no_retry empty in absurd (omega arith)), λ e. absurd (unlike full failed (λ e. (let z : ◌≡◌ {A = ℕ} 0 1 = cc in omega arith)) f e));
        last = λ y ys e. (ap (λ (z : Xfer). z.transfer) (head_is x y xs ys (sym is ∙ e)) ∙ under, ap (λ (t : Bool). cond (t && eqb s.tags 0) 0 (2 ^ s.tag)) (ne_eqb s.next s.offset (λ e. (omega arith))));
        range = λ e. absurd (unlike full failed (λ e. (let z : ◌≡◌ {A = ℕ} 0 1 = cc in omega arith)) f e);
      }

  -- XFER
  module _ (others : ℕ) (typed : others < 2 ^ k) (x : Xfer) (like : AlikeXfer x (xfer_of k others s)) where
    asks_so : (a : Asking k s (view h)) → free k others s < k → Asks k (view h) x
    asks_so a less =
        let o = a.is in
        let p = prior a.q a.before in
        let f = picked k others s typed o.small o.tag less in
        let u = effects.until_is k s (view h) i a.q o in
        let at = a.at in
        let from = like.offset in
        let long = like.length in
        let end = made.end_is k s h i in
        let room = o.short in
        record {
          from = like.offset ∙ i.next ∙ ap (λ (b : ℕ). last_end b (view h).taken) (sym (made.offset_is k s h i));
          long = (let most : x.length ≡ min s.burst (end_of_request (view h).request - x.offset) = omega arith in most) ∙ ap (λ (q : Request). min q.burst (end_of_request (view h).request - x.offset)) (sym i.request);
          alone = p.alone;
          listed = subst (λ (t : ℕ). t < k) (sym like.transfer) less;
          apart = λ y ys e same.
              let l = p.last y ys e in
              let out = f.last in
              let in' : digit (previous s) (free k others s) ≡ 1 = (λ j. digit (l.1 j) ((sym like.transfer ∙ same ∙ l.0) j)) ∙ one_own s.tag in
              omega (arith, out, in');
          fresh = λ b. (let out = f.own in let in' = (o.busy (free k others s)).1 (subst (λ (t : ℕ). Among t (view h).busy) like.transfer b) in omega (arith, out, in'));
          others = (λ j. digit (like.others j) (like.transfer j)) ∙ f.others;
          retry = (λ e. p.retry.0 (sym like.retransmit ∙ e), λ e. like.retransmit ∙ p.retry.1 e);
          first = λ off. like.retransmit ∙ by_test (λ (n : ℕ). n ≡ 0) (eqb s.tags 0) (λ t. refl) (λ t. absurd (off (p.retry.0 (ap (λ (b : Bool). cond {A = ℕ} b 0 1) t))));
          plain = like.retry;
          same = λ e y ys is.
              let r = p.range e y ys is in
              let first' = r.0 in
              let last' = r.1 in
              let ahead = effects.ahead k s (view h) i a.q o in
              (omega arith, omega arith);
        }

    pub goes : Makes (history.asked x) (xfer_step k others s)
    unfolding xfer_step
    goes =
        by_causes (Makes (history.asked x)) (refused s) (made.stays k s h i (history.asked x)) (xfer_causes k others s) (asked (free k others s) s)
        (λ off.
        let a = made.live k s h i Phase.Ask (ask_phase s.phase (not-false _ off.1.0)) in
        let less = leb-false k (free k others s) off.1.1.0 in
        record {
          keeps = effects.goes k s (view h) i a others x like typed less;
          says = (asks_so a less, tt);
          word = calm (view h) (note (history.asked x) (view h)) (Ok Answer.Sent) (λ e. cc) (λ e. cc) refl;
          told = (refl, tt);
          goes = λ _. refl;
          kept = impossible;
        })
