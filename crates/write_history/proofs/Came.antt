-- DATA keeps the invariant: under the awaited tag it is taken just as the history takes it, and under another tag in use it is late. Assumes nothing.
use Rattle.std.specs.Prelude.{Ok}
use Prim.Native.Nat.{ℕ, ◌+◌, ◌^◌, ◌≤◌}
use mathlib.Core.Bool.{Bool, true, false, not, cond, ◌&&◌}
use mathlib.Core.List.{List, [], ◌∷◌}
use mathlib.Core.Logic.{inl, inr}
use mathlib.Core.Path.{◌≡◌, refl, sym, ap, subst, ◌∙◌}
use native.Mathlib.Omega.{arith}
use lib.Dec.{ltb, leb, eqb}
use borrow.Author.Tests.{eqb-true, ltb-true, ltb-false, leb-true, eq-eqb, ne_eqb, not-false}
use Rattle.laws.specs.Tags.{digit, has}
use Rattle.laws.proofs.Bools.{never, impossible, by_test, and_left, and_right, and_false, nor, implied}
use Rattle.laws.proofs.Tags.{has_says, some_in}
use Rattle.refusals.proofs.Causes.{NoneGiven, by_causes}
use Rattle.write.specs.Rules.{end_of, until}
use Rattle.write.specs.Steps as steps
use Rattle.write.specs.Steps.{with, say, refused, unfinished, waiting, taking, awaited, early, sized, within, in_order, fits}
use Rattle.write.specs.Steps.{got_causes, got_step}
use Rattle.write.specs.Grounds.{Unfinished}
use Rattle.write.specs.declared.Write.{Write}
use Rattle.write.specs.declared.Stepped.{Stepped}
use Rattle.write.specs.declared.Answer.{Answer}
use Rattle.write.specs.declared.Phase.{Phase}
use Rattle.write.proofs.Phases.{take_phase, work_phase}
use Rattle.write_history.specs.History.{Xfer, Data, Entry, View, Fate, good, failed, view, note, takes, taken_by, awaits, end_of_data, end_of_xfer, Among}
use Rattle.write_history.specs.History as history
use Rattle.write_history.specs.Words.{ends_all, ends_range, word_by}
use Rattle.write_history.specs.Log.{data_of}
use Rattle.write_history.specs.Demand.{last_end, end_of_request, Takes}
use Rattle.write_history.proofs.Alike.{AlikeData}
use Rattle.write_history.proofs.Invariant.{Latest, Open, Before, first, again, on, Asking, Taking, Inv}
use Rattle.write_history.proofs.Effects as effects
use Rattle.write_history.proofs.Says.{Comes}
use Rattle.write_history.proofs.Says as says
use Rattle.write_history.proofs.Made.{calm, is_working}
use Rattle.write_history.proofs.Made as made

module _ (k : ℕ) (s : Write) (h : List Entry) (i : Inv k s (view h)) where
  abbrev Makes : Entry → Stepped → Type 0
  Makes e st = says.Call k s h e st

  -- DATA
  module _ (t o n : ℕ) (d : Data) (like : AlikeData d (data_of t o n)) where
    end_of_lem : end_of_data d ≡ o + n
    end_of_lem = λ j. like.offset j + like.length j

    -- data changes neither the request nor the count of failures
    kept_failures : (note (history.came d) (view h)).failures ≡ (view h).failures
    kept_failures = by_test (λ (v : View). v.failures ≡ (view h).failures) (takes (view h) d) (λ _. into (view h).asks) (λ _. refl)
      where
        into : (xs : List Xfer) → (history.take_into xs d (view h)).failures ≡ (view h).failures
        into [] = refl
        into (x ∷ xs) = by_test (λ (v : View). v.failures ≡ (view h).failures) (eqb (end_of_data d) (end_of_xfer x)) (λ _. refl) (λ _. refl)

    kept_request : (note (history.came d) (view h)).request ≡ (view h).request
    kept_request = by_test (λ (v : View). v.request ≡ (view h).request) (takes (view h) d) (λ _. into (view h).asks) (λ _. refl)
      where
        into : (xs : List Xfer) → (history.take_into xs d (view h)).request ≡ (view h).request
        into [] = refl
        into (x ∷ xs) = by_test (λ (v : View). v.request ≡ (view h).request) (eqb (end_of_data d) (end_of_xfer x)) (λ _. refl) (λ _. refl)

    -- under the awaited tag
    module _ (w : Taking k s (view h)) (under : t ≡ s.tag) (from : o ≡ s.next) (some : 1 ≤ n) (most : o + n ≤ until s) where
      first_is : d.offset ≡ s.next
      first_is = like.offset ∙ from

      under_is : d.transfer ≡ s.tag
      under_is = like.transfer ∙ under

      long : 1 ≤ d.length
      long = subst (λ (m : ℕ). 1 ≤ m) (sym like.length) some

      inside : end_of_data d ≤ until s
      inside = subst (λ (m : ℕ). m ≤ until s) (sym end_of_lem) most

      taken_it : takes (view h) d ≡ true
      taken_it = effects.takes_it k s (view h) i w d under_is first_is long inside

      taken_so : Takes (view h) d
      taken_so =
          let l = w.latest in
          let low = w.is.lies.least in
          let at = l.from in
          let to = l.to in
          let here = first_is in
          let up = inside in
          record {
            order = first_is ∙ i.next ∙ ap (λ (b : ℕ). last_end b (view h).taken) (sym (made.offset_is k s h i));
            answered = w.good;
            latest = l.one;
            earlier = l.earlier;
            is = l.is;
            under = under_is ∙ sym l.under;
            lies = (omega arith, omega arith);
          }

      comes_so : (st : Stepped) → (end_of_data d ≡ end_of_request (view h).request → st.answer ≡ Ok Answer.Done) → Comes s (view h) d st
      comes_so st done =
          record {
            takes' = λ _. taken_so;
            late = λ e. absurd (never (sym e ∙ taken_it));
            done = λ _ e. done e;
          }

      -- its word, by whether it ends the request and its range
      word_is : {a r : Bool} → ends_all (view h) d ≡ a → eqb (end_of_data d) (end_of_xfer w.latest.one) ≡ r → word_by (view h) (history.came d) ≡ cond a (Ok Answer.Done) (cond r (Ok Answer.More) (Ok Answer.Ok))
      word_is {a} {r} all range =
          let rest = cond (ends_all (view h) d) (Ok Answer.Done) (cond (ends_range (view h).asks d) (Ok Answer.More) (Ok Answer.Ok)) in
          ap (λ (b : Bool). cond b rest (Ok Answer.Late)) taken_it
          ∙ ap (λ (xs : List Xfer). cond (ends_all (view h) d) (Ok Answer.Done) (cond (ends_range xs d) (Ok Answer.More) (Ok Answer.Ok))) w.latest.is
          ∙ (λ j. cond (all j) (Ok Answer.Done) (cond (range j) (Ok Answer.More) (Ok Answer.Ok)))

      takes_so : Makes (history.came d) (steps.taken (o + n) s)
      unfolding steps.taken
      takes_so =
          let e = history.came d in
          let last = made.end_is k s h i in
          let here = end_of_lem in
          by_test (Makes e) (ltb (o + n) (until s))
          (λ b. let l = ltb-true (o + n) (until s) b in
          record {
            keeps = subst (λ (to : ℕ). Inv k (with s to s.tag (2 ^ s.tag) s.used Phase.Take) (note e (view h))) end_of_lem (effects.moves_on k s (view h) i w d under_is first_is long inside (omega arith));
            says = (comes_so (say (Ok Answer.Ok) (with s (o + n) s.tag (2 ^ s.tag) s.used Phase.Take)) (λ q. absurd (omega arith)), tt);
            word = calm (view h) (note e (view h)) (Ok Answer.Ok) (λ e. cc) (λ e. cc) kept_failures;
            told = (sym (word_is (ne_eqb (end_of_data d) (end_of_request (view h).request) (λ q. (omega arith))) (ne_eqb (end_of_data d) (end_of_xfer w.latest.one) (λ q. (let to = w.latest.to in omega arith)))), tt);
            goes = λ _. refl;
            kept = impossible;
          })
          (λ b. let l = ltb-false (o + n) (until s) b in
          by_test (Makes e) (ltb (o + n) (end_of s))
          (λ c. let m = ltb-true (o + n) (end_of s) c in
          record {
            keeps = subst (λ (to : ℕ). Inv k (with s to s.tag 0 s.used Phase.Ask) (note e (view h))) end_of_lem (effects.fills_up k s (view h) i w d under_is first_is long inside (omega arith) (omega arith));
            says = (comes_so (say (Ok Answer.More) (with s (o + n) s.tag 0 s.used Phase.Ask)) (λ q. absurd (omega arith)), tt);
            word = calm (view h) (note e (view h)) (Ok Answer.More) (λ e. cc) (λ e. cc) kept_failures;
            told = (sym (word_is (ne_eqb (end_of_data d) (end_of_request (view h).request) (λ q. (omega arith))) (eq-eqb (end_of_data d) (end_of_xfer w.latest.one) (let to = w.latest.to in omega arith))), tt);
            goes = λ _. refl;
            kept = impossible;
          })
          (λ c. let m = ltb-false (o + n) (end_of s) c in
          let kept = effects.completes_it k s (view h) i w d under_is first_is long inside (omega arith) in
          let whole = kept.next in
          record {
            keeps = subst (λ (to : ℕ). Inv k (with s to s.tag 0 s.used Phase.Done) (note e (view h))) end_of_lem kept;
            says = (comes_so (say (Ok Answer.Done) (with s (o + n) s.tag 0 s.used Phase.Done)) (λ q. refl), tt);
            word = record {
              done = λ _. (kept_request, ap (λ (b : ℕ). last_end b (note e (view h)).taken) (made.offset_is k s h i) ∙ sym whole ∙ (let ends : end_of_data d ≡ end_of_request (view h).request = omega arith in ends));
              fails = (λ e. cc, λ p. (let one = p.0 in let two = p.1 in let same = kept_failures in absurd (omega arith)));
            };
            told = (sym (word_is (eq-eqb (end_of_data d) (end_of_request (view h).request) (omega arith)) refl), tt);
            goes = λ _. refl;
            kept = impossible;
          }))

    -- under another tag in use: the latest XFER_RDY is the one whose range it lies in, and the history doesn't take it
    record Behind : Type 0 where
      q : ℕ
      open' : Open k s (view h) q
      latest : Latest s (view h) q
      off : takes (view h) d ≡ false

    off_by : (f : Fate) (xs : List Xfer) → (view h).fate ≡ f → awaits f ≡ false → taken_by (view h).fate xs d ≡ false
    off_by f [] e a = refl
    off_by f (x ∷ xs) e a = ap (λ (g : Fate). awaits g && eqb d.transfer x.transfer) e ∙ ap (λ (b : Bool). b && eqb d.transfer x.transfer) a

    off_tag : (q : ℕ) → Latest s (view h) q → eqb t s.tag ≡ false → takes (view h) d ≡ false
    off_tag q l e =
        ap (λ (xs : List Xfer). taken_by (view h).fate xs d) l.is
        ∙ (λ j. awaits (view h).fate && eqb (like.transfer j) (l.under j))
        ∙ and_false (awaits (view h).fate) e

    behind : Unfinished s.phase → early t s ≡ false → awaited t s ≡ false → digit s.tags t ≡ 1 → Behind
    behind (inl p) early' waits own = by a.before
      where
        a : Asking k s (view h)
        a = made.live k s h i Phase.Ask p

        by : Before s (view h) a.q → Behind
        by (first f none' empty) = absurd (some_in s.tags t own empty)
        by (again f l o') = record { q = a.q; open' = a.is; latest = l; off = off_by failed (view h).asks f refl }
        by (on x xs f is under empty later) = absurd (some_in s.tags t own empty)
    behind (inr (inl p)) early' waits own =
        let w = made.live k s h i Phase.Wait p in
        record { q = w.q; open' = w.is; latest = w.latest; off = off_tag w.q w.latest (ap (λ (p : Phase). waiting p && eqb t s.tag) (sym p) ∙ early') }
    behind (inr (inr p)) early' waits own =
        let w = made.live k s h i Phase.Take p in
        record { q = w.q; open' = w.is; latest = w.latest; off = off_tag w.q w.latest (ap (λ (p : Phase). taking p && eqb t s.tag) (sym p) ∙ waits) }

    late_so : Unfinished s.phase → Behind → digit s.tags t ≡ 1 → s.next ≤ o → o + n ≤ until s → Makes (history.came d) (say (Ok Answer.Late) s)
    late_so works b own least most =
        let l = b.latest in
        let low = b.open'.lies.least in
        let at = l.from in
        let to = l.to in
        let here = end_of_lem in
        let from = like.offset in
        let same : note (history.came d) (view h) ≡ view h = ap (λ (c : Bool). cond c (history.take_into (view h).asks d (view h)) (view h)) b.off in
        record {
          keeps = subst (Inv k s) (sym same) i;
          says = (
            record {
              takes' = λ e. absurd (never (sym b.off ∙ e));
              late = λ _. record {
                busy = subst (λ (u : ℕ). Among u (view h).busy) (sym like.transfer) ((b.open'.busy t).0 own);
                latest = l.one;
                earlier = l.earlier;
                is = l.is;
                lies = (omega arith, omega arith);
                stays = refl;
              };
              done = λ e. absurd (never (sym b.off ∙ e));
            },
            tt,
          );
          word = calm (view h) (note (history.came d) (view h)) (Ok Answer.Late) (λ e. cc) (λ e. cc) kept_failures;
          told = (sym (ap (λ (c : Bool). cond c (cond (ends_all (view h) d) (Ok Answer.Done) (cond (ends_range (view h).asks d) (Ok Answer.More) (Ok Answer.Ok))) (Ok Answer.Late)) b.off), tt);
          goes = λ _. is_working s.phase works;
          kept = impossible;
        }

    -- what DATA that is not refused is known for
    record Fit : Type 0 where
      some : 1 ≤ n
      works : Unfinished s.phase
      acked : early t s ≡ false
      own : digit s.tags t ≡ 1
      least : s.next ≤ o
      most : o + n ≤ until s
      order : in_order t o s ≡ true

    fit : NoneGiven (got_causes k t o n s) → Fit
    fit off =
        let small = not-false (sized n) off.0 in
        let busy = nor (not (unfinished s.phase)) (early t s) off.1.1.0 in
        let all = not-false (fits t o n s) off.1.1.1.0 in
        let rest = and_right (has s.tags t) (within o n s && in_order t o s) all in
        let lies = and_left (within o n s) (in_order t o s) rest in
        record {
          some = leb-true 1 n (and_left (leb 1 n) (leb n 1024) small);
          works = work_phase s.phase (not-false _ busy.0);
          acked = busy.1;
          own = (has_says s.tags t).0 (and_left (has s.tags t) (within o n s && in_order t o s) all);
          least = leb-true s.next o (and_left (leb s.next o) _ lies);
          most = leb-true (o + n) (until s) (and_left (leb (o + n) (until s)) _ (and_right (leb s.next o) _ lies));
          order = and_right (within o n s) (in_order t o s) rest;
        }

    -- under the awaited tag it begins with the next byte
    waits : awaited t s ≡ true → (Taking k s (view h)) × (t ≡ s.tag)
    waits a = (made.live k s h i Phase.Take (take_phase s.phase (and_left (taking s.phase) (eqb t s.tag) a)), eqb-true t s.tag (and_right (taking s.phase) (eqb t s.tag) a))

    at_next : awaited t s ≡ true → Fit → o ≡ s.next
    at_next a f = eqb-true o s.next (implied (awaited t s) (eqb o s.next) f.order a)

    -- the history takes just what is awaited
    pub takes_awaited : NoneGiven (got_causes k t o n s) → takes (view h) d ≡ awaited t s
    takes_awaited off = by (awaited t s) refl
      where
        f : Fit
        f = fit off

        by : (b : Bool) → awaited t s ≡ b → takes (view h) d ≡ b
        by true a = let w = waits a in taken_it w.0 w.1 (at_next a f) f.some f.most
        by false a = (behind f.works f.acked a f.own).off

    pub comes_in : Makes (history.came d) (got_step k t o n s)
    unfolding got_step steps.got
    comes_in =
        by_causes (Makes (history.came d)) (refused s) (made.stays k s h i (history.came d)) (got_causes k t o n s) (steps.got t o n s)
        (λ off.
        let f = fit off in
        by_test (Makes (history.came d)) (awaited t s)
        (λ a. let w = waits a in takes_so w.0 w.1 (at_next a f) f.some f.most)
        (λ a. late_so f.works (behind f.works f.acked a f.own) f.own f.least f.most))
