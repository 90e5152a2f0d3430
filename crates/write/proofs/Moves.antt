-- What a call makes of a state that keeps its rules and that it fits: its row, since no cause is given. Assumes nothing.
use Rattle.std.specs.Prelude.{Ok}
use Prim.Native.Nat.{ℕ, ◌+◌, ◌^◌, ◌≤◌, ◌<◌}
use mathlib.Core.Bool.{true, not, ◌&&◌, ◌||◌}
use mathlib.Core.Path.{◌≡◌, refl, sym, ap, ◌∙◌}
use lib.Dec.{eqb}
use borrow.Author.Tests.{lt-ltb, le-ltb, lt-leb, le-leb}
use Rattle.laws.specs.Tags.{digit}
use Rattle.refusals.proofs.Causes.{unrefused}
use Rattle.write.specs.Rules.{end_of, until, keeps_rules}
use Rattle.write.specs.Steps as steps
use Rattle.write.specs.Steps.{say, refused, with, unfinished, asking, waiting, free, asked, acked, finished, missed, taken, ended}
use Rattle.write.specs.Steps.{xfer_causes, answer_causes, got_causes, end_causes, xfer_step, ack_step, miss_step, got_step, end_step}
use Rattle.write.specs.Calls.{xfer, ack, nak, got, cancel, step_of}
use Rattle.write.specs.Grounds.{Within}
use Rattle.write.specs.declared.Write.{Write}
use Rattle.write.specs.declared.Answer.{Answer}
use Rattle.write.specs.declared.Phase.{Phase}
use Rattle.write.proofs.Fits.{sized_says, awaited_says, fits_says}

module _ (k : ℕ) (s : Write) (kept : keeps_rules k s ≡ true) where
  pub xfer_step_lem : (others : ℕ) → s.phase ≡ Phase.Ask → free k others s < k → step_of k (xfer others) s ≡ asked (free k others s) s
  unfolding step_of xfer_step
  xfer_step_lem others e l =
      sym (unrefused (refused s) (asked (free k others s) s) (xfer_causes k others s)
      (ap not kept, (ap (λ (p : Phase). not (asking p)) e, (lt-leb k (free k others s) l, tt))))

  pub ack_step_lem : s.phase ≡ Phase.Wait → step_of k ack s ≡ acked s
  unfolding step_of ack_step
  ack_step_lem e = sym (unrefused (refused s) (acked s) (answer_causes k s) (ap not kept, (ap (λ (p : Phase). not (waiting p)) e, tt)))

  nak_step : s.phase ≡ Phase.Wait → step_of k nak s ≡ missed s
  unfolding step_of miss_step
  nak_step e = sym (unrefused (refused s) (missed s) (answer_causes k s) (ap not kept, (ap (λ (p : Phase). not (waiting p)) e, tt)))

  pub nak_again : s.phase ≡ Phase.Wait → s.used < s.resends
      → step_of k nak s ≡ say (Ok Answer.Retry) (with s s.next s.tag s.tags (s.used + 1) Phase.Ask)
  unfolding missed
  nak_again e l = nak_step e ∙ (rw (lt-leb s.resends s.used l))

  pub nak_fail : s.phase ≡ Phase.Wait → s.resends ≤ s.used → step_of k nak s ≡ finished (Ok Answer.Fail) Phase.Fail s
  unfolding missed
  nak_fail e l = nak_step e ∙ (rw (le-leb s.resends s.used l))

  pub cancel_step : unfinished s.phase ≡ true → step_of k cancel s ≡ ended s
  unfolding step_of end_step
  cancel_step u = sym (unrefused (refused s) (ended s) (end_causes k s) (ap not kept, (ap not u, tt)))

  -- data that is due
  module _ (n : ℕ) (e : s.phase ≡ Phase.Take) (own : digit s.tags s.tag ≡ 1) (some : 1 ≤ n) (few : n ≤ 1024) (lies : Within s.next n s) where
    got_step_lem : step_of k (got s.tag s.next n) s ≡ taken (s.next + n) s
    unfolding step_of got_step steps.got
    got_step_lem =
        sym (unrefused (refused s) (steps.got s.tag s.next n s) (got_causes k s.tag s.next n s) (
          ap not ((sized_says n).1 (some, few)),
          (
            ap not kept,
            (
              ap (λ (p : Phase). not (unfinished p) || (waiting p && eqb s.tag s.tag)) e,
              (ap not ((fits_says s.tag s.next n s).1 (record { own = own; lies = lies; order = λ p q. refl })), tt),
            ),
          ),
        ))
        ∙ (rw ((awaited_says s.tag s).1 (e, refl)))

    pub got_before : s.next + n < until s
        → step_of k (got s.tag s.next n) s ≡ say (Ok Answer.Ok) (with s (s.next + n) s.tag (2 ^ s.tag) s.used Phase.Take)
    unfolding taken
    got_before l = got_step_lem ∙ (rw (lt-ltb (s.next + n) (until s) l))

    pub got_more : until s ≤ s.next + n → s.next + n < end_of s
        → step_of k (got s.tag s.next n) s ≡ say (Ok Answer.More) (with s (s.next + n) s.tag 0 s.used Phase.Ask)
    unfolding taken
    got_more l m = got_step_lem ∙ (rw (le-ltb (s.next + n) (until s) l, lt-ltb (s.next + n) (end_of s) m))

    pub got_done : until s ≤ s.next + n → end_of s ≤ s.next + n
        → step_of k (got s.tag s.next n) s ≡ say (Ok Answer.Done) (with s (s.next + n) s.tag 0 s.used Phase.Done)
    unfolding taken
    got_done l m = got_step_lem ∙ (rw (le-ltb (s.next + n) (until s) l, le-ltb (s.next + n) (end_of s) m))
