-- What one entry of the history does to who is present: no word is two of Submitted, a last word and a refusal, so an entry with one of
-- them does one thing. Assumes nothing.
use Rattle.refusals.specs.declared.Refusal.{Refusal}
use Rattle.std.specs.Prelude.{Err, Ok, Result}
use mathlib.Core.Path.{◌≡◌, refl, sym, ap, ◌∙◌}
use mathlib.Core.Bool.{Bool, true, false, cond, ◌&&◌}
use lib.Dec.{ltb}
use borrow.Author.Tests.{eq-eqb}
use Rattle.laws.proofs.Bools.{never, and_true, and_false}
use Rattle.open_frame.specs.declared.Head.{Head}
use Rattle.port_rows.specs.Finds.{is_of}
use Rattle.port_rows.specs.declared.Answer.{Answer}
use Rattle.port_rows.specs.declared.Key.{Key}
use Rattle.port_rows.specs.declared.Word.{Word}
use Rattle.port_rows.specs.declared.Word.TheVariants.{Taken, Submitted, Nothing, Send, Open, Close, StopArb, Retried, Waiting, CancelAcknowledged, Ended, NexusLoss, ConnectionLost, Status}
use Rattle.port.specs.Grounds.{OfKey}
use Rattle.port.specs.History.{Call, Entry, is_last, is_refused}
use Rattle.port_history.specs.Standing.{is_setup, is_submitted, accepts, ends, speaks, Standing, gone, same_head, accepted, ended, spoken, after}
use Rattle.port_history.specs.Turns.{keyed}

-- ---- words and keys

-- no word is two of Submitted, a last word and a refusal
pub words : (w : Result Word Refusal) → (is_last w ≡ true → (is_submitted w ≡ false) × (is_refused w ≡ false)) × (is_submitted w ≡ true → is_refused w ≡ false)
words (Ok Taken) = (λ e. (refl, refl), λ e. refl)
words (Ok Submitted) = (λ e. absurd (never e), λ e. refl)
words (Ok Nothing) = (λ e. (refl, refl), λ e. refl)
words (Ok Send) = (λ e. (refl, refl), λ e. refl)
words (Ok Open) = (λ e. (refl, refl), λ e. refl)
words (Ok Close) = (λ e. (refl, refl), λ e. refl)
words (Ok StopArb) = (λ e. (refl, refl), λ e. refl)
words (Ok Retried) = (λ e. (refl, refl), λ e. refl)
words (Ok Waiting) = (λ e. (refl, refl), λ e. refl)
words (Ok CancelAcknowledged) = (λ e. (refl, refl), λ e. refl)
words (Ok (Ended why)) = (λ e. (refl, refl), λ e. refl)
words (Ok NexusLoss) = (λ e. (refl, refl), λ e. refl)
words (Ok ConnectionLost) = (λ e. (refl, refl), λ e. refl)
words (Ok (Status byte)) = (λ e. (refl, refl), λ e. refl)
words (Err k) = (λ e. absurd (never e), λ e. absurd (never e))

pub last_is_not_first : (w : Result Word Refusal) → is_last w ≡ true → is_submitted w ≡ false
last_is_not_first w e = ((words w).0 e).0

first_is_not_last : (w : Result Word Refusal) → is_submitted w ≡ true → is_last w ≡ false
first_is_not_last w e = by (is_last w) refl
  where
    by : (t : Bool) → is_last w ≡ t → t ≡ false
    by true l = absurd (never (sym (last_is_not_first w l) ∙ e))
    by false l = refl

pub keyed_of : {g h : Head} → g ≡ h → OfKey g (keyed h)
keyed_of e = (ap (λ (h : Head). h.destination) e, (ap (λ (h : Head). h.protocol) e, ap (λ (h : Head). h.tag) e))

pub same_head_lem : (h : Head) → same_head h h ≡ true
same_head_lem h =
    and_true (eq-eqb h.initiator h.initiator refl)
    (and_true (eq-eqb h.protocol h.protocol refl)
    (and_true (eq-eqb h.features h.features refl)
    (and_true (eq-eqb h.rate h.rate refl)
    (and_true (eq-eqb h.tag h.tag refl) (and_true (eq-eqb h.destination h.destination refl) (eq-eqb h.source h.source refl))))))

-- ---- what an entry does to a standing

module _ (x : Key) (c : Call) (a : Answer) (v : Standing) where
  abbrev entry : Entry
  entry = record { call = c; answer = a }

  -- the standing by what the entry is: a setup, a last word on x, Submitted of x, another answer that names x
  abbrev by_kind : Bool → Bool → Bool → Bool → Standing
  by_kind s l f n = cond s gone (cond l (ended a v) (cond f (accepted a v) (cond n (spoken a v) v)))

  pub after_setup : is_setup c ≡ true → after x entry v ≡ gone
  after_setup s = ap (λ (t : Bool). by_kind t (ends x entry) (accepts x entry) (speaks x entry)) s

  pub after_last : is_setup c ≡ false → is_last a.word ≡ true → is_of a.frame.head x ≡ true → after x entry v ≡ ended a v
  after_last s l k = λ i. by_kind (s i) (l i && k i) (accepts x entry) (speaks x entry)

  pub after_first : is_setup c ≡ false → is_submitted a.word ≡ true → is_of a.frame.head x ≡ true → after x entry v ≡ accepted a v
  after_first s f k = λ i. by_kind (s i) (first_is_not_last a.word f i && is_of a.frame.head x) (f i && k i) (speaks x entry)

  -- neither Submitted nor a last word
  pub after_word : is_setup c ≡ false → is_last a.word ≡ false → is_submitted a.word ≡ false → after x entry v ≡ cond (speaks x entry) (spoken a v) v
  after_word s l f = λ i. by_kind (s i) (l i && is_of a.frame.head x) (f i && is_of a.frame.head x) (speaks x entry)

  pub after_other : is_setup c ≡ false → is_of a.frame.head x ≡ false → after x entry v ≡ v
  after_other s k = λ i. by_kind (s i) (and_false (is_last a.word) k i) (and_false (is_submitted a.word) k i) (and_false (ltb a.slot 32) k i)
