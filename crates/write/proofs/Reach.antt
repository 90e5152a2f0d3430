-- What one call more leaves behind a START: what was left before keeps its rules, so the call does what its row says. Assumes nothing.
use Prim.Native.Nat.{ℕ, ◌+◌, ◌-◌, ◌^◌, ◌≤◌, ◌<◌}
use mathlib.Core.Bool.{true}
use mathlib.Core.List.{List, [], ◌∷◌, ◌++◌}
use mathlib.Core.Path.{◌≡◌, refl, sym, ap, subst, ◌∙◌}
use Rattle.laws.specs.Tags.{digit}
use Rattle.laws.proofs.Tags.{all_small}
use Rattle.write.specs.Rules.{keeps_rules}
use Rattle.write.specs.Steps.{with, started, previous, free}
use Rattle.write.specs.Calls.{Call, xfer, ack, nak, cancel, step_of, run, Typed, AllTyped}
use Rattle.write.specs.declared.Write.{Write}
use Rattle.write.specs.declared.Stepped.{Stepped}
use Rattle.write.specs.declared.Phase.{Phase}
use Rattle.write.proofs.Kept.{Setup, under}
use Rattle.write.proofs.Leaves.{Good, starts}
use Rattle.write.proofs.Moves.{xfer_step_lem, ack_step_lem, nak_again, nak_fail, cancel_step}
use Rattle.write.proofs.Picks.{picks}
use Rattle.write.proofs.Sound.{underway, kept, run_good}

-- what START leaves of the setup of s
abbrev pub begun : Write → Write
begun s = started s.offset s.count s.burst s.resends

-- two states of one setup are equal by their numbers
pub alike : (s : Write) {n n' t t' ts ts' u u' : ℕ} {p : Phase} → n ≡ n' → t ≡ t' → ts ≡ ts' → u ≡ u' → with s n t ts u p ≡ with s n' t' ts' u' p
alike s {p = p} a b c d = λ i. with s (a i) (b i) (c i) (d i) p

-- some calls leave t behind that START
pub record Reach (k : ℕ) (s t : Write) : Type 0 where
  pub calls : List Call
  pub typed : AllTyped k calls
  pub leave : run k calls (begun s) ≡ t

run_snoc : (k : ℕ) (cs : List Call) (c : Call) (s : Write) → run k (cs ++ (c ∷ [])) s ≡ (step_of k c (run k cs s)).state
run_snoc k [] c s = refl
run_snoc k (d ∷ cs) c s = run_snoc k cs c (step_of k d s).state

typed_snoc : (k : ℕ) (cs : List Call) (c : Call) → AllTyped k cs → Typed k c → AllTyped k (cs ++ (c ∷ []))
typed_snoc k [] c all one = (one, tt)
typed_snoc k (d ∷ cs) c all one = (all.0, typed_snoc k cs c all.1 one)

module _ (k : ℕ) (s : Write) (h : Setup k s) where
  -- one call more
  pub further : {t : Write} (c : Call) {a : Stepped} → Typed k c → Reach k s t → step_of k c t ≡ a → Reach k s a.state
  further c one r e = record {
    calls = r.calls ++ (c ∷ []);
    typed = typed_snoc k r.calls c r.typed one;
    leave = run_snoc k r.calls c (begun s) ∙ ap (λ (x : Write). (step_of k c x).state) r.leave ∙ ap (λ (x : Stepped). x.state) e;
  }

  pub same : {t u : Write} → t ≡ u → Reach k s t → Reach k s u
  same e r = record { calls = r.calls; typed = r.typed; leave = r.leave ∙ e }

  -- what is left keeps its rules
  pub reach_good : {t : Write} → Reach k s t → Good k t
  reach_good r = subst (Good k) r.leave (run_good k r.calls (begun s) r.typed (starts k s.offset s.count s.burst s.resends h))

  pub reach_kept : {t : Write} → Reach k s t → keeps_rules k t ≡ true
  reach_kept {t} r = kept k t (reach_good r)

  pub at_start : Reach k s (begun s)
  at_start = record { calls = []; typed = tt; leave = refl }

  module _ (next tag tags used : ℕ) where
    -- an XFER_RDY under any tag that is neither the write's own nor the previous
    pub send : (t : ℕ) → t < k → digit tags t ≡ 0 → digit (previous (with s next tag tags used Phase.Ask)) t ≡ 0
        → Reach k s (with s next tag tags used Phase.Ask) → Reach k s (with s next t (tags + 2 ^ t) used Phase.Wait)
    send t less own last r =
        let now : Write = with s next tag tags used Phase.Ask in
        let g = reach_good r in
        let last_less = under k now (underway k now g refl).0 in
        let is : free k (2 ^ t - 1) now ≡ t = picks k t now g.small last_less less own last in
        let most : free k (2 ^ t - 1) now < k = subst (λ (x : ℕ). x < k) (sym is) less in
        same (alike s refl is (ap (λ (x : ℕ). tags + 2 ^ x) is) refl)
        (further (xfer (2 ^ t - 1)) (all_small k t less) r (xfer_step_lem k now (reach_kept r) (2 ^ t - 1) refl most))

    pub fail_once : used < s.resends → Reach k s (with s next tag tags used Phase.Wait) → Reach k s (with s next tag tags (used + 1) Phase.Ask)
    fail_once l r = further nak tt r (nak_again k (with s next tag tags used Phase.Wait) (reach_kept r) refl l)

    pub fail_last : s.resends ≤ used → Reach k s (with s next tag tags used Phase.Wait) → Reach k s (with s next tag 0 used Phase.Fail)
    fail_last l r = further nak tt r (nak_fail k (with s next tag tags used Phase.Wait) (reach_kept r) refl l)

    pub deliver : Reach k s (with s next tag tags used Phase.Wait) → Reach k s (with s next tag tags used Phase.Take)
    deliver r = further ack tt r (ack_step_lem k (with s next tag tags used Phase.Wait) (reach_kept r) refl)

    pub cancel_take : Reach k s (with s next tag tags used Phase.Take) → Reach k s (with s next tag 0 used Phase.End)
    cancel_take r = further cancel tt r (cancel_step k (with s next tag tags used Phase.Take) (reach_kept r) refl)

  -- a range can be asked for: the first behind START alone, a later one under any previous tag and with any number of retries used
  pub record Due (p : ℕ) : Type 0 where
    pub first : p ≡ s.offset → Reach k s (with s p 0 0 0 Phase.Ask)
    pub later : (p ≡ s.offset → ⊥) → (t u : ℕ) → t < k → u ≤ s.resends → Reach k s (with s p t 0 u Phase.Ask)
