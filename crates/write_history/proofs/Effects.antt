-- What each call makes of the invariant: the latest XFER_RDY gets the fate that the call says, data moves the next byte to its end, and the tags
-- in use follow. Assumes nothing.
use Prim.Native.Nat.{ℕ, suc, ◌+◌, ◌*◌, ◌^◌, ◌≤◌, ◌<◌, min}
use mathlib.Core.Bool.{Bool, true, cond, ◌&&◌}
use mathlib.Core.List.{List, [], ◌∷◌}
use mathlib.Core.Logic.{◌⊎◌, inl, inr, ◌↔◌}
use mathlib.Core.Path.{◌≡◌, refl, sym, ap, subst, ◌∙◌}
use native.Mathlib.Omega.{arith}
use lib.Dec.{eqb}
use borrow.Author.Tests.{eq-eqb, ne_eqb}
use lib.ListN.{length}
use lib.Pow.{pow-lt, suc_ones}
use Rattle.laws.specs.Tags.{digit}
use Rattle.laws.proofs.Tags.{digit_zero, added, sum_small, one_own, one_other}
use Rattle.laws.proofs.Tests.{same_or_not}
use Rattle.write.specs.Rules.{end_of, until}
use Rattle.write.specs.Steps.{with, started, free}
use Rattle.write.specs.Grounds.{InRange}
use Rattle.write.proofs.Picks.{picked}
use Rattle.write.specs.declared.Write.{Write}
use Rattle.write.specs.declared.Phase.{Phase}
use Rattle.write_history.specs.History.{Xfer, Data, View, Fate, due, good, failed, full, nothing, fated, with_fate, awaits, taken_by, takes, take_into, end_of_data, end_of_xfer, note, asked, acked, came, Among}
use Rattle.write_history.specs.Log.{xfer_of}
use Rattle.write_history.specs.Demand.{last_end, EndToEnd, ranges}
use Rattle.write_history.proofs.Alike.{AlikeXfer}
use Rattle.write_history.proofs.Ranges.{Lies, quotient, range_is, begins}
use Rattle.write_history.proofs.Invariant.{Latest, Open, first, again, on, Asking, Waiting, Taking, Live, Inv}

-- no tag is in use
none_busy : (t : ℕ) → (digit 0 t ≡ 1) ↔ ⊥
none_busy t = (λ e. (let z = digit_zero t in omega (arith, e, z)), λ f. absurd f)

-- one alone
one_busy : (x t : ℕ) → (digit (2 ^ x) t ≡ 1) ↔ Among t (x ∷ [])
one_busy x t = (to (same_or_not t x), from)
  where
    to : (t ≡ x) ⊎ (t ≡ x → ⊥) → digit (2 ^ x) t ≡ 1 → Among t (x ∷ [])
    to (inl e) _ = inl e
    to (inr ne) e = absurd (let z = one_other x t ne in omega (arith, e, z))

    from : Among t (x ∷ []) → digit (2 ^ x) t ≡ 1
    from (inl e) = ap (digit (2 ^ x)) e ∙ one_own x
    from (inr f) = absurd f

-- one more
more_busy : (tags x : ℕ) (ts : List ℕ) → digit tags x ≡ 0 → ((t : ℕ) → (digit tags t ≡ 1) ↔ Among t ts) → (t : ℕ) → (digit (tags + 2 ^ x) t ≡ 1) ↔ Among t (x ∷ ts)
more_busy tags x ts out busy t = by (same_or_not t x)
  where
    by : (t ≡ x) ⊎ (t ≡ x → ⊥) → (digit (tags + 2 ^ x) t ≡ 1) ↔ Among t (x ∷ ts)
    by (inl e) = (λ _. inl e, λ _. ap (digit (tags + 2 ^ x)) e ∙ (added tags x out).here)
    by (inr ne) = (λ d. inr ((busy t).0 (sym ((added tags x out).there t ne) ∙ d)), back)
      where
        back : Among t (x ∷ ts) → digit (tags + 2 ^ x) t ≡ 1
        back (inl e) = absurd (ne e)
        back (inr a) = (added tags x out).there t ne ∙ (busy t).1 a

-- START
pub begun : (k b n x r : ℕ) → InRange k b n x r → Inv k (started b n x r) (nothing (record { offset = b; count = n; burst = x; resends = r }))
begun k b n x r range =
    let some = range.0 in
    let wide = range.1.1.1.0 in
    let less = range.1.1.1.1 in
    record {
      request = refl;
      order = tt;
      next = refl;
      used = omega arith;
      few = omega arith;
      live = record {
        q = 0;
        is = record { wide = wide; short = omega arith; tag = omega arith; lies = record { least = omega arith; most = omega arith }; small = omega (arith, suc_ones k); busy = none_busy; failures = refl };
        at = omega arith;
        count = refl;
        before = first refl refl refl;
      };
    }

module _ (k : ℕ) (s : Write) (v : View) (i : Inv k s v) where
  -- where the present range ends
  pub until_is : (q : ℕ) → Open k s v q → until s ≡ min (s.offset + q * s.burst + s.burst) (end_of s)
  until_is q o = ap (λ (p : ℕ). min (p + s.burst) (end_of s)) (range_is s o.wide q o.lies)

  pub ahead : (q : ℕ) → Open k s v q → s.next < until s
  ahead q o = let e = until_is q o in let l = o.lies.most in let m = o.short in omega arith

  -- XFER
  pub goes : (a : Asking k s v) (others : ℕ) (x : Xfer) → AlikeXfer x (xfer_of k others s) → others < 2 ^ k → free k others s < k
      → Inv k (with s s.next (free k others s) (s.tags + 2 ^ free k others s) s.used Phase.Wait) (note (asked x) v)
  goes a others x like typed less =
      let o = a.is in
      let f = picked k others s typed o.small o.tag less in
      let many = begins s o.wide a.q o.lies o.short in
      let count = a.count in
      let used = i.used in
      let under = like.transfer in
      let from = like.offset in
      let long = like.length in
      let before = ahead a.q o in
      record {
        request = i.request;
        order = i.order;
        next = i.next;
        used = i.used;
        few = omega arith;
        live = record {
          q = a.q;
          is = record {
            wide = o.wide;
            short = o.short;
            tag = less;
            lies = record { least = o.lies.least; most = o.lies.most };
            small = sum_small k s.tags (free k others s) o.small less f.own;
            busy = subst (λ (t : ℕ). (u : ℕ) → (digit (s.tags + 2 ^ free k others s) u ≡ 1) ↔ Among u (t ∷ v.busy)) (sym under) (more_busy s.tags (free k others s) v.busy f.own o.busy);
            failures = o.failures;
          };
          at = a.at;
          count = omega arith;
          due = refl;
          latest = record { one = x; earlier = v.asks; is = refl; from = from ∙ a.at; to = omega arith; under = under };
          own = (added s.tags (free k others s) f.own).here;
        };
      }

  -- an answer: the latest XFER_RDY, whose answer is due, gets its fate
  fate_is : (f : Fate) → v.fate ≡ due → fated f v.fate ≡ f
  fate_is f e = ap (fated f) e

  -- it changes the phase, and the count of failures
  kept_open : (q used : ℕ) (p : Phase) (f : Fate) (n : ℕ) → used ≡ n → Open k s v q → Open k (with s s.next s.tag s.tags used p) (with_fate f n v) q
  kept_open q used p f n e o =
      let l = o.lies in
      record { wide = o.wide; short = o.short; tag = o.tag; lies = record { least = l.least; most = l.most }; small = o.small; busy = o.busy; failures = e }

  kept_latest : (q used : ℕ) (p : Phase) (f : Fate) (n : ℕ) → Latest s v q → Latest (with s s.next s.tag s.tags used p) (with_fate f n v) q
  kept_latest q used p f n l = record { one = l.one; earlier = l.earlier; is = l.is; from = l.from; to = l.to; under = l.under }

  pub acks : Waiting k s v → Inv k (with s s.next s.tag s.tags s.used Phase.Take) (note acked v)
  acks w =
      record {
        request = i.request;
        order = i.order;
        next = i.next;
        used = i.used;
        few = i.few;
        live = record {
          q = w.q;
          is = kept_open w.q s.used Phase.Take (fated good v.fate) v.failures w.is.failures w.is;
          count = w.count;
          good = fate_is good w.due;
          latest = kept_latest w.q s.used Phase.Take (fated good v.fate) v.failures w.latest;
          own = w.own;
        };
      }

  -- NAK, TIMEOUT and LOST with a retry left
  pub misses : Waiting k s v → s.used < s.resends → Inv k (with s s.next s.tag s.tags (s.used + 1) Phase.Ask) (with_fate (fated failed v.fate) (suc v.failures) v)
  misses w left =
      let count = w.count in
      let failures = w.is.failures in
      record {
        request = i.request;
        order = i.order;
        next = i.next;
        used = omega arith;
        few = i.few;
        live = record {
          q = w.q;
          is = kept_open w.q (s.used + 1) Phase.Ask (fated failed v.fate) (suc v.failures) (omega arith) w.is;
          at = w.at;
          count = omega arith;
          before = again (fate_is failed w.due) (kept_latest w.q (s.used + 1) Phase.Ask (fated failed v.fate) (suc v.failures) w.latest) w.own;
        };
      }

  -- what finishes a write leaves no tag in use
  pub overs : (p : Phase) (w : View) → Live k p (with s s.next s.tag 0 s.used p) w → w.request ≡ v.request → w.taken ≡ v.taken → w.asks ≡ v.asks
      → Inv k (with s s.next s.tag 0 s.used p) w
  overs p w over request taken asks =
      record {
        request = request ∙ i.request;
        order = subst (EndToEnd s.offset) (sym taken) i.order;
        next = i.next ∙ ap (last_end s.offset) (sym taken);
        used = i.used;
        few = subst (λ (xs : List Xfer). length xs ≤ ranges s.count s.burst + s.resends) (sym asks) i.few;
        live = over;
      }

  -- data that is taken: it begins with the next byte, under the awaited tag, and ends within the range
  module _ (t : Taking k s v) (d : Data) (under : d.transfer ≡ s.tag) (from : d.offset ≡ s.next) (some : 1 ≤ d.length) (within : end_of_data d ≤ until s) where
    in_order : EndToEnd s.offset (d ∷ v.taken)
    in_order = (from ∙ i.next, i.order)

    -- the history takes it
    pub takes_it : takes v d ≡ true
    takes_it =
        let l = t.latest in
        ap (λ (xs : List Xfer). taken_by v.fate xs d) l.is
        ∙ (λ j. awaits (t.good j) && eqb d.transfer l.one.transfer)
        ∙ eq-eqb d.transfer l.one.transfer (under ∙ sym l.under)

    pub noted : note (came d) v ≡ take_into (t.latest.one ∷ t.latest.earlier) d v
    noted = ap (λ (b : Bool). cond b (take_into v.asks d v) v) takes_it ∙ ap (λ (xs : List Xfer). take_into xs d v) t.latest.is

    -- before the range's end
    inside : View
    inside = record { request = v.request; asks = v.asks; fate = v.fate; taken = d ∷ v.taken; busy = t.latest.one.transfer ∷ []; failures = v.failures }

    -- at its end
    whole : View
    whole = record { request = v.request; asks = v.asks; fate = full; taken = d ∷ v.taken; busy = []; failures = v.failures }

    is_inside : end_of_data d < until s → note (came d) v ≡ inside
    unfolding inside whole
    is_inside l = let e = t.latest.to in noted ∙ ap (λ (b : Bool). cond b whole inside) (ne_eqb (end_of_data d) (end_of_xfer t.latest.one) (omega arith))

    is_whole : end_of_data d ≡ until s → note (came d) v ≡ whole
    unfolding inside whole
    is_whole e = noted ∙ ap (λ (b : Bool). cond b whole inside) (eq-eqb (end_of_data d) (end_of_xfer t.latest.one) (e ∙ sym t.latest.to))

    moves : end_of_data d < until s → Inv k (with s (end_of_data d) s.tag (2 ^ s.tag) s.used Phase.Take) inside
    unfolding inside
    moves l =
        let o = t.is in
        let m = t.latest in
        let e = until_is t.q o in
        let low = o.lies.least in
        let lies : Lies s (end_of_data d) t.q = record { least = omega arith; most = omega arith } in
        let still = ap (λ (q : ℕ). min (s.offset + q * s.burst + s.burst) (end_of s)) (quotient s o.wide (end_of_data d) t.q lies) in
        record {
          request = i.request;
          order = in_order;
          next = refl;
          used = i.used;
          few = i.few;
          live = record {
            q = t.q;
            is = record {
              wide = o.wide;
              short = omega arith;
              tag = o.tag;
              lies = record { least = lies.least; most = lies.most };
              small = pow-lt {i = s.tag} {j = k} o.tag;
              busy = subst (λ (x : ℕ). (u : ℕ) → (digit (2 ^ s.tag) u ≡ 1) ↔ Among u (x ∷ [])) (sym m.under) (one_busy s.tag);
              failures = o.failures;
            };
            count = t.count;
            good = t.good;
            latest = record { one = m.one; earlier = m.earlier; is = m.is; from = m.from; to = m.to ∙ e ∙ sym still; under = m.under };
            own = one_own s.tag;
          };
        }

    fills : end_of_data d ≡ until s → end_of_data d < end_of s → Inv k (with s (end_of_data d) s.tag 0 s.used Phase.Ask) whole
    unfolding whole
    fills end l =
        let o = t.is in
        let m = t.latest in
        let e = until_is t.q o in
        let low = o.lies.least in
        let count = t.count in
        record {
          request = i.request;
          order = in_order;
          next = refl;
          used = i.used;
          few = i.few;
          live = record {
            q = t.q + 1;
            is = record { wide = o.wide; short = l; tag = o.tag; lies = record { least = omega arith; most = omega arith }; small = omega (arith, suc_ones k); busy = none_busy; failures = o.failures };
            at = omega arith;
            count = omega arith;
            before = on m.one m.earlier refl m.is m.under refl (omega arith);
          };
        }

    completes : end_of_data d ≡ until s → Inv k (with s (end_of_data d) s.tag 0 s.used Phase.Done) whole
    unfolding whole
    completes end = record { request = i.request; order = in_order; next = refl; used = i.used; few = i.few; live = refl }

    pub moves_on : end_of_data d < until s → Inv k (with s (end_of_data d) s.tag (2 ^ s.tag) s.used Phase.Take) (note (came d) v)
    moves_on l = subst (Inv k (with s (end_of_data d) s.tag (2 ^ s.tag) s.used Phase.Take)) (sym (is_inside l)) (moves l)

    pub fills_up : end_of_data d ≡ until s → end_of_data d < end_of s → Inv k (with s (end_of_data d) s.tag 0 s.used Phase.Ask) (note (came d) v)
    fills_up e l = subst (Inv k (with s (end_of_data d) s.tag 0 s.used Phase.Ask)) (sym (is_whole e)) (fills e l)

    pub completes_it : end_of_data d ≡ until s → Inv k (with s (end_of_data d) s.tag 0 s.used Phase.Done) (note (came d) v)
    completes_it e = subst (Inv k (with s (end_of_data d) s.tag 0 s.used Phase.Done)) (sym (is_whole e)) (completes e)
