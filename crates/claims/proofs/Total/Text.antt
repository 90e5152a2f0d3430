-- What the functions ask of their arguments holds of all of them: text by lines, a program's streams, and readrun's lines. Assumes nothing.
use mir.Syntax.{Dict}
use borrow.Fn.Kinds as kinds
use contract.Lifetimes.{Lfts, lft_at}
use contract.BorrowLft.{◌⊑◌}
use denote.RattleType.{RattleType}
use denote.Param.Laws.{Laws}
use Rattle.std.specs.declared.io.traits.Read
use Rattle.std.specs.declared.io.traits.Write
use Rattle.lines.proofs.read_number.Kinds as read-number-of
use Rattle.lines.proofs.read_number.Reads as read_number
use Rattle.lines.proofs.place_from.Kinds as place-from-of
use Rattle.lines.proofs.place_from.Reads as place_from
use Rattle.lines.proofs.field_count.Kinds as field-count-of
use Rattle.lines.proofs.field_count.Reads as field_count
use Rattle.lines.proofs.field_at.Kinds as field-at-of
use Rattle.lines.proofs.field_at.Reads as field_at
use Rattle.lines.proofs.same.Kinds as same_of
use Rattle.lines.proofs.same.Reads as same
use Rattle.lines.proofs.put_byte.Kinds as put-byte-of
use Rattle.lines.proofs.put_byte.Reads as put_byte
use Rattle.lines.proofs.put_bytes.Kinds as put-bytes-of
use Rattle.lines.proofs.put_bytes.Reads as put_bytes
use Rattle.lines.proofs.put_number.Kinds as put-number-of
use Rattle.lines.proofs.put_number.Reads as put_number
use Rattle.runs.proofs.fresh.Kinds as fresh-of
use Rattle.runs.proofs.fresh.Reads as fresh
use Rattle.runs.proofs.take_line.Kinds as take-line-of
use Rattle.runs.proofs.take_line.Reads as take_line
use Rattle.runs.proofs.feed.Kinds as feed-of
use Rattle.runs.proofs.feed.Reads as feed
use Rattle.runs.proofs.close.Kinds as close_of
use Rattle.runs.proofs.close.Reads as close
use Rattle.streams.proofs.read.Kinds as stream-read-of
use Rattle.streams.proofs.read.Reads as stream_read
use Rattle.streams.proofs.write.Kinds as stream-write-of
use Rattle.streams.proofs.write.Reads as stream_write
use Rattle.claims.proofs.Calls.{Anything}

pub record Text : Type 2 where
  pub read_number : Anything 1 read-number-of.ps read_number.Pre
  pub place_from : Anything 1 place-from-of.ps place_from.Pre
  pub field_count : Anything 1 field-count-of.ps field_count.Pre
  pub field_at : Anything 1 field-at-of.ps field_at.Pre
  pub same : Anything 2 same_of.ps same.Pre
  pub put_byte : Anything 1 put-byte-of.ps put_byte.Pre
  pub put_bytes : Anything 2 put-bytes-of.ps put_bytes.Pre
  pub put_number : Anything 1 put-number-of.ps put_number.Pre
  pub fresh : Anything 0 fresh-of.ps fresh.Pre
  pub take_line : Anything 2 take-line-of.ps take_line.Pre
  pub feed : Anything 2 feed-of.ps feed.Pre
  pub close : Anything 1 close_of.ps close.Pre
  -- over any reader and any writers: only that their types live where they are lent is asked, which the language sees to
  pub stream_read : (R E : RattleType) (l : Laws R) (m : Laws E) (r : Read.Ghosts R.Denot) (d : Dict) (e : Write.Ghosts E.Denot) (f : Dict) (κs : Lfts 6) (a : kinds.Dens κs (stream-read-of.ps R E l m)) → (lft_at 6 4 tt κs ⊑ R.lives) × (lft_at 6 5 tt κs ⊑ E.lives) → stream_read.Pre R E l m r d e f κs a
  pub stream_write : (W E : RattleType) (l : Laws W) (m : Laws E) (w : Write.Ghosts W.Denot) (d : Dict) (e : Write.Ghosts E.Denot) (f : Dict) (κs : Lfts 6) (a : kinds.Dens κs (stream-write-of.ps W E l m)) → (lft_at 6 4 tt κs ⊑ W.lives) × (lft_at 6 5 tt κs ⊑ E.lives) → stream_write.Pre W E l m w d e f κs a

pub text : Text
text = record {
  read_number = λ κs a. tt;
  place_from = λ κs a. tt;
  field_count = λ κs a. tt;
  field_at = λ κs a. tt;
  same = λ κs a. tt;
  put_byte = λ κs a. tt;
  put_bytes = λ κs a. tt;
  put_number = λ κs a. tt;
  fresh = λ κs a. tt;
  take_line = λ κs a. tt;
  feed = λ κs a. tt;
  close = λ κs a. tt;
  stream_read = λ R E l m r d e f κs a lives. lives;
  stream_write = λ W E l m w d e f κs a lives. lives;
}
