-- Two outcomes that meet a promise are equal: text by lines, and readrun's lines. Assumes nothing.
use Prim.Native.Nat.{ℕ}
use mathlib.Core.List.{List}
use mathlib.Core.Path.{◌≡◌, refl, sym, ◌∙◌}
use borrow.Fn.Kinds as kinds
use contract.Lifetimes
use denote.Triple.Clauses
use Rattle.lines.proofs.read_number.Kinds as read-number-of
use Rattle.lines.proofs.read_number.Reads as read_number
use Rattle.lines.proofs.place_from.Kinds as place-from-of
use Rattle.lines.proofs.place_from.Reads as place_from
use Rattle.lines.proofs.field_count.Kinds as field-count-of
use Rattle.lines.proofs.field_count.Reads as field_count
use Rattle.lines.proofs.field_at.Kinds as field-at-of
use Rattle.lines.proofs.field_at.Reads as field_at
use Rattle.lines.proofs.same.Kinds as same_of
use Rattle.lines.proofs.same.Reads as same
use Rattle.lines.proofs.put_byte.Kinds as put-byte-of
use Rattle.lines.proofs.put_byte.Reads as put_byte
use Rattle.lines.proofs.put_bytes.Kinds as put-bytes-of
use Rattle.lines.proofs.put_bytes.Reads as put_bytes
use Rattle.lines.proofs.put_number.Kinds as put-number-of
use Rattle.lines.proofs.put_number.Reads as put_number
use Rattle.runs.proofs.fresh.Kinds as fresh-of
use Rattle.runs.proofs.fresh.Reads as fresh
use Rattle.runs.proofs.take_line.Kinds as take-line-of
use Rattle.runs.proofs.take_line.Reads as take_line
use Rattle.runs.proofs.feed.Kinds as feed-of
use Rattle.runs.proofs.feed.Reads as feed
use Rattle.runs.proofs.close.Kinds as close_of
use Rattle.runs.proofs.close.Reads as close
use Rattle.claims.proofs.Calls.{One, none}
use Rattle.claims.proofs.Named.{behind3}

abbrev put_byte_left : (κs : Lifetimes.Lfts 1) → Clauses.AtExit (kinds.ended_of 1 put-byte-of.ps put-byte-of.r) κs → List ℕ
put_byte_left κs s = s.1.0.now

abbrev put_bytes_left : (κs : Lifetimes.Lfts 2) → Clauses.AtExit (kinds.ended_of 2 put-bytes-of.ps put-bytes-of.r) κs → List ℕ
put_bytes_left κs s = s.1.0.now

abbrev put_number_left : (κs : Lifetimes.Lfts 1) → Clauses.AtExit (kinds.ended_of 1 put-number-of.ps put-number-of.r) κs → List ℕ
put_number_left κs s = s.1.0.now

abbrev take_line_left : (κs : Lifetimes.Lfts 2) → Clauses.AtExit (kinds.ended_of 2 take-line-of.ps take-line-of.r) κs → List ℕ
take_line_left κs s = (behind3 s).0.now

abbrev feed_left : (κs : Lifetimes.Lfts 2) → Clauses.AtExit (kinds.ended_of 2 feed-of.ps feed-of.r) κs → List ℕ
feed_left κs s = s.1.1.0.now

abbrev close_left : (κs : Lifetimes.Lfts 1) → Clauses.AtExit (kinds.ended_of 1 close_of.ps close_of.r) κs → List ℕ
close_left κs s = s.1.0.now

pub record Text : Type 2 where
  pub read_number : One 1 read-number-of.ps read-number-of.r (none 1 read-number-of.ps read-number-of.r) read_number.Post
  pub place_from : One 1 place-from-of.ps place-from-of.r (none 1 place-from-of.ps place-from-of.r) place_from.Post
  pub field_count : One 1 field-count-of.ps field-count-of.r (none 1 field-count-of.ps field-count-of.r) field_count.Post
  pub field_at : (κs : Lifetimes.Lfts 1) (a : kinds.Dens κs field-at-of.ps) (x y : (kinds.res_t field-at-of.r κs).Denot) (s t : Clauses.AtExit (kinds.ended_of 1 field-at-of.ps field-at-of.r) κs) → field_at.Post κs a x s → field_at.Post κs a y t → x.now ≡ y.now
  pub same : One 2 same_of.ps same_of.r (none 2 same_of.ps same_of.r) same.Post
  pub put_byte : One 1 put-byte-of.ps put-byte-of.r put_byte_left put_byte.Post
  pub put_bytes : One 2 put-bytes-of.ps put-bytes-of.r put_bytes_left put_bytes.Post
  pub put_number : One 1 put-number-of.ps put-number-of.r put_number_left put_number.Post
  pub fresh : One 0 fresh-of.ps fresh-of.r (none 0 fresh-of.ps fresh-of.r) fresh.Post
  pub take_line : One 2 take-line-of.ps take-line-of.r take_line_left take_line.Post
  pub feed : One 2 feed-of.ps feed-of.r feed_left feed.Post
  pub close : One 1 close_of.ps close_of.r close_left close.Post

pub text : Text
text = record {
  read_number = λ κs a x y s t p q. (p ∙ sym q, refl);
  place_from = λ κs a x y s t p q. (p ∙ sym q, refl);
  field_count = λ κs a x y s t p q. (p ∙ sym q, refl);
  field_at = λ κs a x y s t p q. p ∙ sym q;
  same = λ κs a x y s t p q. (p ∙ sym q, refl);
  put_byte = λ κs a x y s t p q. (p.place ∙ sym q.place, p.bytes ∙ sym q.bytes);
  put_bytes = λ κs a x y s t p q. (p.place ∙ sym q.place, p.bytes ∙ sym q.bytes);
  put_number = λ κs a x y s t p q. (p.place ∙ sym q.place, p.bytes ∙ sym q.bytes);
  fresh = λ κs a x y s t p q. (p ∙ sym q, refl);
  take_line = λ κs a x y s t p q. (λ i. record { state = (p.state ∙ sym q.state) i; place = (p.bytes.place ∙ sym q.bytes.place) i }, p.bytes.bytes ∙ sym q.bytes.bytes);
  feed = λ κs a x y s t p q. (p.answer ∙ sym q.answer, p.bytes ∙ sym q.bytes);
  close = λ κs a x y s t p q. (p.answer ∙ sym q.answer, p.bytes ∙ sym q.bytes);
}
