-- Entries that say the same but for the bytes: what is shown of a plain call's entry holds of one that was read from bytes. Assumes nothing.
use mathlib.Core.Path.{◌≡◌, refl}
use Rattle.write_history.specs.History.{Xfer, Data, Entry, started, asked, acked, nacked, timed_out, was_lost, came, ended}

pub record AlikeXfer (x y : Xfer) : Type 0 where
  pub retransmit : x.retransmit ≡ y.retransmit
  pub retry : x.retry ≡ y.retry
  pub transfer : x.transfer ≡ y.transfer
  pub offset : x.offset ≡ y.offset
  pub length : x.length ≡ y.length
  pub others : x.others ≡ y.others

pub record AlikeData (d e : Data) : Type 0 where
  pub transfer : d.transfer ≡ e.transfer
  pub offset : d.offset ≡ e.offset
  pub length : d.length ≡ e.length

pub record AsksLike (e : Entry) (y : Xfer) : Type 0 where
  pub one : Xfer
  pub is : e ≡ asked one
  pub like : AlikeXfer one y

pub record ComesLike (e : Entry) (y : Data) : Type 0 where
  pub one : Data
  pub is : e ≡ came one
  pub like : AlikeData one y

-- of the first entry nothing but the bytes may differ from the second
abbrev pub Alike : Entry → Entry → Type 0
Alike e (started q) = e ≡ started q
Alike e (asked x) = AsksLike e x
Alike e acked = e ≡ acked
Alike e nacked = e ≡ nacked
Alike e timed_out = e ≡ timed_out
Alike e was_lost = e ≡ was_lost
Alike e (came d) = ComesLike e d
Alike e ended = e ≡ ended

-- each is like itself
pub self : (e : Entry) → Alike e e
self (started q) = refl
self (asked x) = record { one = x; is = refl; like = record { retransmit = refl; retry = refl; transfer = refl; offset = refl; length = refl; others = refl } }
self acked = refl
self nacked = refl
self timed_out = refl
self was_lost = refl
self (came d) = record { one = d; is = refl; like = record { transfer = refl; offset = refl; length = refl } }
self ended = refl
