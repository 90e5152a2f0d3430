-- What each call behind setup says by two marks of a request, that it is cancelled and that choose closed a phy for it: a last word is Cancel Acknowledged exactly
-- where the first is set or the call is a Cancel; nothing goes where it is set, and choose closes no phy where the second is. Assumes nothing.
use Prim.Native.Nat.{ℕ, ◌<◌}
use mathlib.Core.Path.{◌≡◌, refl, sym, ◌∙◌}
use mathlib.Core.Bool.{Bool, true, false, ◌&&◌, ◌||◌}
use mathlib.Core.List.{List}
use mathlib.Core.Logic.{◌⊎◌, inl, inr}
use native.Mathlib.Omega.{arith}
use lib.ListN.{get_or}
use borrow.Author.Tests.{ne_eqb}
use Rattle.laws.proofs.Bools.{never}
use Rattle.port_parts.specs.Parts.{blank}
use Rattle.port_parts.specs.Qualifies.{Qualifies, sends, opens, closes, Wins}
use Rattle.port_parts.specs.declared.Phy.{Phy}
use Rattle.port_parts.specs.declared.Pick.{Pick}
use Rattle.port_parts.specs.declared.Port.{Port}
use Rattle.port_parts.specs.declared.Request.{Request}
use Rattle.port_rules.specs.Kept.{Free, Present}
use Rattle.port_rows.specs.Calls.{phy_at, is_cancelled}
use Rattle.port_rows.specs.declared.Done.{Done}
use Rattle.port.specs.History.{State, Call, done_of, is_refused, is_last}
use Rattle.port_invariant.proofs.Ways.{waits}
use Rattle.port_history.specs.Standing.{is_setup}
use Rattle.port_history.specs.Turns.{Lawful}
use Rattle.port_history.specs.Marks.{is_cancel, is_acknowledged, is_going, is_choose, is_close}
use Rattle.port_history.proofs.Each.{Each, by_each}

-- what the answer says by the marks at its slot, where the list was l; the call is a Cancel or not, a choose or not
pub record Marks (l : List Request) (canceling choosing : Bool) (d : Done) : Type 0 where
  pub last : is_last d.answer.word ≡ true → is_acknowledged d.answer.word ≡ canceling || is_cancelled (get_or l d.answer.slot blank)
  pub goes : is_going d.answer.word ≡ true → (d.answer.slot < 32) × (is_cancelled (get_or l d.answer.slot blank) ≡ false)
  pub once : choosing && is_close d.answer.word ≡ true → (d.answer.slot < 32) × ((get_or l d.answer.slot blank).closed ≡ 0)

module _ (s : State) (ok : Lawful s) where
  abbrev l : List Request
  l = s.list

  abbrev p : Port
  p = s.port

  -- no last word
  rest : {c k : Bool} {d : Done} → is_last d.answer.word ≡ false
      → (is_going d.answer.word ≡ true → (d.answer.slot < 32) × (is_cancelled (get_or l d.answer.slot blank) ≡ false))
      → (k && is_close d.answer.word ≡ true → (d.answer.slot < 32) × ((get_or l d.answer.slot blank).closed ≡ 0)) → Marks l c k d
  rest last goes once = record { last = λ e. absurd (never (sym last ∙ e)); goes = goes; once = once }

  -- a last word
  end : {c : Bool} {d : Done} → is_going d.answer.word ≡ false → is_acknowledged d.answer.word ≡ c || is_cancelled (get_or l d.answer.slot blank) → Marks l c false d
  end going word = record { last = λ _. word; goes = λ e. absurd (never (sym going ∙ e)); once = λ e. absurd (never e) }

  -- a call that is no choose, and lets nothing go
  holds_back : {c : Bool} {d : Done} → is_last d.answer.word ≡ false → is_going d.answer.word ≡ false → Marks l c false d
  holds_back last going = rest last (λ e. absurd (never (sym going ∙ e))) (λ e. absurd (never e))

  -- a waiting request is not cancelled
  unmarked : (r : Request) → (Free r ⊎ Present r p.last) → r.stage ≡ 1 → is_cancelled r ≡ false
  unmarked r (inl f) w = absurd (omega (arith, f, w))
  unmarked r (inr k) w = ne_eqb r.cancelled 1 (λ e. let busy = k.cancelled e in omega (arith, w, busy))

  waiting : {now : ℕ} (b : Pick) → Wins p.phys now l b → is_cancelled (get_or l b.slot blank) ≡ false
  waiting b w = unmarked (get_or l b.slot blank) (ok.sound.kept.requests b.slot w.slot).present (waits w.fits)

  -- what closes a phy qualifies by rule (3)
  unclosed : (r : Request) (f : Phy) (now step : ℕ) → Qualifies now r f step → step ≡ 3 → r.closed ≡ 0
  unclosed r f now step (sends a ready b c) e = absurd (omega (arith, a, e))
  unclosed r f now step (opens a ready b) e = absurd (omega (arith, a, e))
  unclosed r f now step (closes a ready b c d) e = d

  marks : Each s (λ c d. Marks l (is_cancel c) (is_choose c) d)
  marks = record {
    submits = λ x. record { last = λ e. absurd (never e); goes = λ e. absurd (never e); once = λ e. absurd (never e) };
    withdraws = λ x. end refl refl;
    stops = λ x. holds_back refl refl;
    stops_closing = λ x. holds_back refl refl;
    sends = λ x b w n. rest refl (λ _. (w.slot, waiting b w)) (λ e. absurd (never e));
    opens = λ x b w n. rest refl (λ _. (w.slot, waiting b w)) (λ e. absurd (never e));
    closes = λ x b w n. rest refl (λ e. absurd (never e)) (λ _. (w.slot, unclosed (get_or l b.slot blank) (phy_at p b.phy) x.now b.step w.fits n));
    idles = λ x. rest refl (λ e. absurd (never e)) (λ e. absurd (never e));
    opened_cancelled = λ x h c. holds_back refl refl;
    opened_sends = λ x h c. rest refl (λ _. (h.0, c)) (λ e. absurd (never e));
    failed_cancelled = λ x h c u v. end refl (sym c);
    failed_ends = λ x h c f v. end refl (sym c);
    failed_loses = λ x h c f g. end refl (sym c);
    failed_again = λ x h c f g. holds_back refl refl;
    status_cancelled = λ x h c. end refl (sym c);
    status_ends = λ x h c. end refl (sym c);
    closed_cancelled = λ x h c. end refl (sym c);
    closed_ends = λ x h c. end refl (sym c);
    closed_free = λ x far t. holds_back refl refl;
    enables = λ x. holds_back refl refl;
    disabled_cancelled = λ x h c. end refl (sym c);
    disabled_waits = λ x h c. holds_back refl refl;
    disabled_free = λ x far t. holds_back refl refl;
  }

  pub marked_so : (c : Call) → is_setup c ≡ false → is_refused (done_of c s).answer.word ≡ false → Marks l (is_cancel c) (is_choose c) (done_of c s)
  marked_so = by_each s ok (λ c d. Marks l (is_cancel c) (is_choose c) d) marks
