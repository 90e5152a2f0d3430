-- The table of words can be read backwards, so that no two words share number and detail, and a refusal is told by its number. Assumes nothing.
use Rattle.std.specs.Prelude.{Err, Ok, Result}
use Prim.Native.Nat.{ℕ, ◌-◌}
use mathlib.Core.Bool.{Bool, true, false, cond}
use mathlib.Core.List.{List, [], ◌∷◌, map}
use mathlib.Core.Logic.{◌↔◌}
use mathlib.Core.Path.{◌≡◌, refl, sym, ap, ◌∙◌}
use lib.Dec.{ltb}
use lib.ListN.{get_or}
use Rattle.laws.proofs.Bools.{never}
use Rattle.refusals.specs.Refusals.{number_of}
use Rattle.refusals.specs.declared.Refusal.{Refusal}
use Rattle.refusals.proofs.Numbers.{one_number}
use Rattle.port_parts.specs.Reasons.{reason_of}
use Rattle.port_parts.specs.declared.Reason.{Reason}
use Rattle.port_parts.specs.declared.Reason.TheVariants.{NoDestination, BadDestination, WrongDestination, LinkRateNotSupported, ProtocolNotSupported, PathwayBlocked, StpResourcesBusy, Retry, OpenTimeOut, BreakReceived, Other}
use Rattle.port_rows.specs.declared.Word.{Word}
use Rattle.port_rows.specs.declared.Word.TheVariants.{Taken, Submitted, Nothing, Send, Open, Close, StopArb, Retried, Waiting, CancelAcknowledged, Ended, NexusLoss, ConnectionLost, Status}
use Rattle.port.specs.History.{is_refused}
use Rattle.port_lent.specs.Numbers.{reason_number, word_number, detail_of}
use Rattle.port_lent.specs.Runs.{is_refusal}
use Rattle.port_lent.specs.Typed.{typed_words, typed_answers, typed_details, typed_reasons}

-- the number that C sees of a reason is the one by which Open Failed takes it
pub reason_back : (why : Reason) → reason_of (reason_number why) ≡ why
reason_back NoDestination = refl
reason_back BadDestination = refl
reason_back WrongDestination = refl
reason_back LinkRateNotSupported = refl
reason_back ProtocolNotSupported = refl
reason_back PathwayBlocked = refl
reason_back StpResourcesBusy = refl
reason_back Retry = refl
reason_back OpenTimeOut = refl
reason_back BreakReceived = refl
reason_back Other = refl

-- ---- words

-- from number 32 on, with the detail d
abbrev happened : ℕ → List (Result Word Refusal)
happened d =
    (Ok Submitted) ∷ (Ok Nothing) ∷ (Ok Send) ∷ (Ok Open) ∷ (Ok Close) ∷ (Ok StopArb) ∷ (Ok Retried) ∷ (Ok Waiting) ∷ (Ok CancelAcknowledged) ∷ Ok (Ended (reason_of d)) ∷ (Ok NexusLoss) ∷ (Ok ConnectionLost) ∷ Ok (Status d) ∷ []

abbrev word_of : ℕ → ℕ → Result Word Refusal
word_of n d = cond (ltb n 32) (Ok Taken) (get_or (happened d) (n - 32) (Ok Taken))

word_back : (w : Result Word Refusal) → is_refused w ≡ false → word_of (word_number w) (detail_of w) ≡ w
word_back (Ok Taken) e = refl
word_back (Ok Submitted) e = refl
word_back (Ok Nothing) e = refl
word_back (Ok Send) e = refl
word_back (Ok Open) e = refl
word_back (Ok Close) e = refl
word_back (Ok StopArb) e = refl
word_back (Ok Retried) e = refl
word_back (Ok Waiting) e = refl
word_back (Ok CancelAcknowledged) e = refl
word_back (Ok (Ended why)) e = ap (λ (w : Reason). Ok (Ended w)) (reason_back why)
word_back (Ok NexusLoss) e = refl
word_back (Ok ConnectionLost) e = refl
word_back (Ok (Status byte)) e = refl
word_back (Err k) e = absurd (never (sym e))

-- a refusal's number is from 1 to 10, and no other word's is
refusal_is : (k : Refusal) → is_refusal (number_of k) ≡ true
refusal_is Refusal.Length = refl
refusal_is Refusal.Unlisted = refl
refusal_is Refusal.Rules = refl
refusal_is Refusal.Phy = refl
refusal_is Refusal.Past = refl
refusal_is Refusal.Unfit = refl
refusal_is Refusal.Due = refl
refusal_is Refusal.Sent = refl
refusal_is Refusal.Present = refl
refusal_is Refusal.Full = refl

pub refusal_told : (w : Result Word Refusal) → is_refusal (word_number w) ≡ is_refused w
refusal_told (Ok Taken) = refl
refusal_told (Ok Submitted) = refl
refusal_told (Ok Nothing) = refl
refusal_told (Ok Send) = refl
refusal_told (Ok Open) = refl
refusal_told (Ok Close) = refl
refusal_told (Ok StopArb) = refl
refusal_told (Ok Retried) = refl
refusal_told (Ok Waiting) = refl
refusal_told (Ok CancelAcknowledged) = refl
refusal_told (Ok (Ended why)) = refl
refusal_told (Ok NexusLoss) = refl
refusal_told (Ok ConnectionLost) = refl
refusal_told (Ok (Status byte)) = refl
refusal_told (Err k) = refusal_is k

-- a word that is a refusal is one refusal's
pub refusal_of : (w : Result Word Refusal) → is_refused w ≡ true → (k : Refusal) × (w ≡ Err k)
refusal_of (Ok Taken) e = absurd (never e)
refusal_of (Ok Submitted) e = absurd (never e)
refusal_of (Ok Nothing) e = absurd (never e)
refusal_of (Ok Send) e = absurd (never e)
refusal_of (Ok Open) e = absurd (never e)
refusal_of (Ok Close) e = absurd (never e)
refusal_of (Ok StopArb) e = absurd (never e)
refusal_of (Ok Retried) e = absurd (never e)
refusal_of (Ok Waiting) e = absurd (never e)
refusal_of (Ok CancelAcknowledged) e = absurd (never e)
refusal_of (Ok (Ended why)) e = absurd (never e)
refusal_of (Ok NexusLoss) e = absurd (never e)
refusal_of (Ok ConnectionLost) e = absurd (never e)
refusal_of (Ok (Status byte)) e = absurd (never e)
refusal_of (Err k) e = (k, refl)

pub refusal_exactly : (w : Result Word Refusal) (k : Refusal) → (word_number w ≡ number_of k) ↔ (w ≡ Err k)
refusal_exactly w k = (there, λ e. ap word_number e)
  where
    there : word_number w ≡ number_of k → w ≡ Err k
    there n =
        let r = refusal_of w (sym (refusal_told w) ∙ ap is_refusal n ∙ refusal_is k) in
        r.1 ∙ ap Err (one_number r.0 k (sym (ap word_number r.1) ∙ n))

-- no two words share number and detail
pub one_word : (w v : Result Word Refusal) → word_number w ≡ word_number v → detail_of w ≡ detail_of v → w ≡ v
one_word w v n d = by (is_refused v) refl
  where
    by : (b : Bool) → is_refused v ≡ b → w ≡ v
    by true e = let r = refusal_of v e in (refusal_exactly w r.0).0 (n ∙ ap word_number r.1) ∙ sym r.1
    by false e = sym (word_back w (sym (refusal_told w) ∙ ap is_refusal n ∙ refusal_told v ∙ e)) ∙ (λ i. word_of (n i) (d i)) ∙ word_back v e

-- ---- typed a second time

pub words_typed : map word_number typed_words ≡ typed_answers
words_typed = refl

pub details_typed : map detail_of typed_words ≡ typed_details
details_typed = refl

pub reasons_typed : map reason_number typed_reasons ≡ 0 ∷ 1 ∷ 2 ∷ 3 ∷ 4 ∷ 5 ∷ 6 ∷ 7 ∷ 8 ∷ 9 ∷ []
reasons_typed = refl
