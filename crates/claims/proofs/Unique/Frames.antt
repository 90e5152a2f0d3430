-- Two outcomes that meet a promise are equal: refusals, numbers in bytes, frames and the calls from C. Assumes nothing.
use Rattle.ssp_frame.specs.declared.response.ResponseHead.{ResponseHead}
use Rattle.ssp_frame.specs.declared.data_out.OutHead.{OutHead}
use Rattle.ssp_frame.specs.declared.data.DataHead.{DataHead}
use Rattle.ssp_frame.specs.declared.Frame.{Frame}
use Prim.Native.Nat.{ℕ}
use mathlib.Core.List.{List, map}
use mathlib.Core.Path.{refl, sym, ◌∙◌}
use borrow.Fn.Kinds as kinds
use contract.Lifetimes
use denote.Triple.Clauses
use Rattle.open_frame.specs.declared.OpenFrame.{OpenFrame}
use Rattle.ssp_frame.specs.declared.xfer_rdy.XferHead.{XferHead}
use Rattle.refusals.proofs.Frames.{wrote_once}
use Rattle.refusals.proofs.U8FromRefusal.from.Kinds as number_of_lem
use Rattle.refusals.proofs.U8FromRefusal.from.Reads as number
use Rattle.refusals.proofs.answer.Kinds as answer-of
use Rattle.refusals.proofs.answer.Reads as answer
use Rattle.wire.proofs.get_be.Kinds as get-be-of
use Rattle.wire.proofs.get_be.Reads as get_be
use Rattle.wire.proofs.put_be.Kinds as put-be-of
use Rattle.wire.proofs.put_be.Reads as put_be
use Rattle.open_frame.proofs.head_listed.Kinds as head-listed-of
use Rattle.open_frame.proofs.head_listed.Reads as head_listed
use Rattle.open_frame.proofs.read_open.Kinds as read-open-of
use Rattle.open_frame.proofs.read_open.Reads as read_open_lem
use Rattle.open_frame.proofs.write_open.Kinds as write-open-of
use Rattle.open_frame.proofs.write_open.Reads as write_open
use Rattle.open_frame.proofs.wait_value.Kinds as wait-value-of
use Rattle.open_frame.proofs.wait_value.Reads as wait_value
use Rattle.open_frame.proofs.higher_than.Kinds as higher-than-of
use Rattle.open_frame.proofs.higher_than.Reads as higher_than
use Rattle.ssp_frame.proofs.data.data_listed.Kinds as data-listed-of
use Rattle.ssp_frame.proofs.data.data_listed.Reads as data_listed
use Rattle.ssp_frame.proofs.data.read_data.Kinds as read-data-of
use Rattle.ssp_frame.proofs.data.read_data.Reads as read_data_lem
use Rattle.ssp_frame.proofs.data.write_data.Kinds as write-data-of
use Rattle.ssp_frame.proofs.data.write_data.Reads as write_data
use Rattle.ssp_frame.proofs.xfer_rdy.xfer_listed.Kinds as xfer-listed-of
use Rattle.ssp_frame.proofs.xfer_rdy.xfer_listed.Reads as xfer_listed
use Rattle.ssp_frame.proofs.xfer_rdy.read_xfer_rdy.Kinds as read-xfer-rdy-of
use Rattle.ssp_frame.proofs.xfer_rdy.read_xfer_rdy.Reads as read_xfer_rdy_lem
use Rattle.ssp_frame.proofs.xfer_rdy.write_xfer_rdy.Kinds as write-xfer-rdy-of
use Rattle.ssp_frame.proofs.xfer_rdy.write_xfer_rdy.Reads as write_xfer_rdy
use Rattle.ssp_frame.proofs.data_out.out_listed.Kinds as out-listed-of
use Rattle.ssp_frame.proofs.data_out.out_listed.Reads as out_listed
use Rattle.ssp_frame.proofs.data_out.read_data_out.Kinds as read-data-out-of
use Rattle.ssp_frame.proofs.data_out.read_data_out.Reads as read_data_out_lem
use Rattle.ssp_frame.proofs.data_out.write_data_out.Kinds as write-data-out-of
use Rattle.ssp_frame.proofs.data_out.write_data_out.Reads as write_data_out
use Rattle.ssp_frame.proofs.response.response_sized.Kinds as response-sized-of
use Rattle.ssp_frame.proofs.response.response_sized.Reads as response_sized
use Rattle.ssp_frame.proofs.response.response_listed.Kinds as response-listed-of
use Rattle.ssp_frame.proofs.response.response_listed.Reads as response_listed
use Rattle.ssp_frame.proofs.response.read_response.Kinds as read-response-of
use Rattle.ssp_frame.proofs.response.read_response.Reads as read_response_lem
use Rattle.ssp_frame.proofs.response.write_response.Kinds as write-response-of
use Rattle.ssp_frame.proofs.response.write_response.Reads as write_response
use Rattle.sonerwal.proofs.frames.sonerwal_open_read.Kinds as sonerwal-open-read-of
use Rattle.sonerwal.proofs.frames.sonerwal_open_read.Reads as sonerwal_open_read
use Rattle.sonerwal.proofs.frames.sonerwal_open_write.Kinds as sonerwal-open-write-of
use Rattle.sonerwal.proofs.frames.sonerwal_open_write.Reads as sonerwal_open_write
use Rattle.sonerwal.proofs.frames.sonerwal_data_read.Kinds as sonerwal-data-read-of
use Rattle.sonerwal.proofs.frames.sonerwal_data_read.Reads as sonerwal_data_read
use Rattle.sonerwal.proofs.frames.sonerwal_data_write.Kinds as sonerwal-data-write-of
use Rattle.sonerwal.proofs.frames.sonerwal_data_write.Reads as sonerwal_data_write
use Rattle.sonerwal.proofs.frames.sonerwal_xfer_rdy_read.Kinds as sonerwal-xfer-rdy-read-of
use Rattle.sonerwal.proofs.frames.sonerwal_xfer_rdy_read.Reads as sonerwal_xfer_rdy_read
use Rattle.sonerwal.proofs.frames.sonerwal_xfer_rdy_write.Kinds as sonerwal-xfer-rdy-write-of
use Rattle.sonerwal.proofs.frames.sonerwal_xfer_rdy_write.Reads as sonerwal_xfer_rdy_write
use Rattle.sonerwal.proofs.frames.sonerwal_data_out_read.Kinds as sonerwal-data-out-read-of
use Rattle.sonerwal.proofs.frames.sonerwal_data_out_read.Reads as sonerwal_data_out_read
use Rattle.sonerwal.proofs.frames.sonerwal_data_out_write.Kinds as sonerwal-data-out-write-of
use Rattle.sonerwal.proofs.frames.sonerwal_data_out_write.Reads as sonerwal_data_out_write
use Rattle.sonerwal.proofs.frames.sonerwal_response_read.Kinds as sonerwal-response-read-of
use Rattle.sonerwal.proofs.frames.sonerwal_response_read.Reads as sonerwal_response_read
use Rattle.sonerwal.proofs.frames.sonerwal_response_write.Kinds as sonerwal-response-write-of
use Rattle.sonerwal.proofs.frames.sonerwal_response_write.Reads as sonerwal_response_write
use Rattle.sonerwal.proofs.sonerwal_version.Kinds as sonerwal-version-of
use Rattle.sonerwal.proofs.sonerwal_version.Reads as sonerwal_version
use Rattle.sonerwal.proofs.frames.sonerwal_wait_value.Kinds as sonerwal-wait-value-of
use Rattle.sonerwal.proofs.frames.sonerwal_wait_value.Reads as sonerwal_wait_value
use Rattle.sonerwal.proofs.frames.sonerwal_open_higher.Kinds as sonerwal-open-higher-of
use Rattle.sonerwal.proofs.frames.sonerwal_open_higher.Reads as sonerwal_open_higher
use Rattle.claims.proofs.Calls.{One, none}
use Rattle.claims.proofs.Named.{behind3, behind6, behind9, first6, first7, first8, first9, open_of, data_of, xfer_of, out_of, response_of}

abbrev put_be_left : (κs : Lifetimes.Lfts 1) → Clauses.AtExit (kinds.ended_of 1 put-be-of.ps put-be-of.r) κs → List ℕ
put_be_left κs s = s.0.now

abbrev write_open_left : (κs : Lifetimes.Lfts 1) → Clauses.AtExit (kinds.ended_of 1 write-open-of.ps write-open-of.r) κs → List ℕ
write_open_left κs s = s.1.0.now

abbrev write_data_left : (κs : Lifetimes.Lfts 2) → Clauses.AtExit (kinds.ended_of 2 write-data-of.ps write-data-of.r) κs → List ℕ
write_data_left κs s = s.1.1.0.now

abbrev sonerwal_open_read_left : (κs : Lifetimes.Lfts 10) → Clauses.AtExit (kinds.ended_of 10 sonerwal-open-read-of.ps sonerwal-open-read-of.r) κs → OpenFrame
sonerwal_open_read_left κs s = open_of (map (λ x. x.now) (first9 s.1))

abbrev sonerwal_open_write_left : (κs : Lifetimes.Lfts 1) → Clauses.AtExit (kinds.ended_of 1 sonerwal-open-write-of.ps sonerwal-open-write-of.r) κs → List ℕ
sonerwal_open_write_left κs s = (behind9 s).0.now

abbrev sonerwal_data_read_left : (κs : Lifetimes.Lfts 7) → Clauses.AtExit (kinds.ended_of 7 sonerwal-data-read-of.ps sonerwal-data-read-of.r) κs → Frame DataHead
sonerwal_data_read_left κs s = data_of (map (λ x. x.now) (first6 s.1))

abbrev sonerwal_data_write_left : (κs : Lifetimes.Lfts 2) → Clauses.AtExit (kinds.ended_of 2 sonerwal-data-write-of.ps sonerwal-data-write-of.r) κs → List ℕ
sonerwal_data_write_left κs s = (behind3 (behind3 s)).0.now

abbrev write_xfer_rdy_left : (κs : Lifetimes.Lfts 1) → Clauses.AtExit (kinds.ended_of 1 write-xfer-rdy-of.ps write-xfer-rdy-of.r) κs → List ℕ
write_xfer_rdy_left κs s = s.1.0.now

abbrev write_data_out_left : (κs : Lifetimes.Lfts 2) → Clauses.AtExit (kinds.ended_of 2 write-data-out-of.ps write-data-out-of.r) κs → List ℕ
write_data_out_left κs s = s.1.1.0.now

abbrev write_response_left : (κs : Lifetimes.Lfts 2) → Clauses.AtExit (kinds.ended_of 2 write-response-of.ps write-response-of.r) κs → List ℕ
write_response_left κs s = s.1.1.0.now

abbrev sonerwal_xfer_rdy_read_left : (κs : Lifetimes.Lfts 9) → Clauses.AtExit (kinds.ended_of 9 sonerwal-xfer-rdy-read-of.ps sonerwal-xfer-rdy-read-of.r) κs → XferHead
sonerwal_xfer_rdy_read_left κs s = xfer_of (map (λ x. x.now) (first8 s.1))

abbrev sonerwal_xfer_rdy_write_left : (κs : Lifetimes.Lfts 1) → Clauses.AtExit (kinds.ended_of 1 sonerwal-xfer-rdy-write-of.ps sonerwal-xfer-rdy-write-of.r) κs → List ℕ
sonerwal_xfer_rdy_write_left κs s = (behind6 s).1.1.0.now

abbrev sonerwal_data_out_read_left : (κs : Lifetimes.Lfts 8) → Clauses.AtExit (kinds.ended_of 8 sonerwal-data-out-read-of.ps sonerwal-data-out-read-of.r) κs → Frame OutHead
sonerwal_data_out_read_left κs s = out_of (map (λ x. x.now) (first7 s.1))

abbrev sonerwal_data_out_write_left : (κs : Lifetimes.Lfts 2) → Clauses.AtExit (kinds.ended_of 2 sonerwal-data-out-write-of.ps sonerwal-data-out-write-of.r) κs → List ℕ
sonerwal_data_out_write_left κs s = (behind6 s).1.0.now

abbrev sonerwal_response_read_left : (κs : Lifetimes.Lfts 8) → Clauses.AtExit (kinds.ended_of 8 sonerwal-response-read-of.ps sonerwal-response-read-of.r) κs → Frame ResponseHead
sonerwal_response_read_left κs s = response_of (map (λ x. x.now) (first7 s.1))

abbrev sonerwal_response_write_left : (κs : Lifetimes.Lfts 2) → Clauses.AtExit (kinds.ended_of 2 sonerwal-response-write-of.ps sonerwal-response-write-of.r) κs → List ℕ
sonerwal_response_write_left κs s = (behind6 s).1.0.now

pub record Frames : Type 2 where
  pub number : One 0 number_of_lem.ps number_of_lem.r (none 0 number_of_lem.ps number_of_lem.r) number.Post
  pub answer : One 0 answer-of.ps answer-of.r (none 0 answer-of.ps answer-of.r) answer.Post
  pub get_be : One 1 get-be-of.ps get-be-of.r (none 1 get-be-of.ps get-be-of.r) get_be.Post
  pub put_be : One 1 put-be-of.ps put-be-of.r put_be_left put_be.Post
  pub head_listed : One 0 head-listed-of.ps head-listed-of.r (none 0 head-listed-of.ps head-listed-of.r) head_listed.Post
  pub read_open_lem : One 1 read-open-of.ps read-open-of.r (none 1 read-open-of.ps read-open-of.r) read_open_lem.Post
  pub write_open : One 1 write-open-of.ps write-open-of.r write_open_left write_open.Post
  pub wait_value : One 0 wait-value-of.ps wait-value-of.r (none 0 wait-value-of.ps wait-value-of.r) wait_value.Post
  pub higher_than : One 0 higher-than-of.ps higher-than-of.r (none 0 higher-than-of.ps higher-than-of.r) higher_than.Post
  pub data_listed : One 0 data-listed-of.ps data-listed-of.r (none 0 data-listed-of.ps data-listed-of.r) data_listed.Post
  pub read_data_lem : One 1 read-data-of.ps read-data-of.r (none 1 read-data-of.ps read-data-of.r) read_data_lem.Post
  pub write_data : One 2 write-data-of.ps write-data-of.r write_data_left write_data.Post
  pub xfer_listed : One 0 xfer-listed-of.ps xfer-listed-of.r (none 0 xfer-listed-of.ps xfer-listed-of.r) xfer_listed.Post
  pub read_xfer_rdy_lem : One 1 read-xfer-rdy-of.ps read-xfer-rdy-of.r (none 1 read-xfer-rdy-of.ps read-xfer-rdy-of.r) read_xfer_rdy_lem.Post
  pub write_xfer_rdy : One 1 write-xfer-rdy-of.ps write-xfer-rdy-of.r write_xfer_rdy_left write_xfer_rdy.Post
  pub out_listed : One 0 out-listed-of.ps out-listed-of.r (none 0 out-listed-of.ps out-listed-of.r) out_listed.Post
  pub read_data_out_lem : One 1 read-data-out-of.ps read-data-out-of.r (none 1 read-data-out-of.ps read-data-out-of.r) read_data_out_lem.Post
  pub write_data_out : One 2 write-data-out-of.ps write-data-out-of.r write_data_out_left write_data_out.Post
  pub response_sized : One 0 response-sized-of.ps response-sized-of.r (none 0 response-sized-of.ps response-sized-of.r) response_sized.Post
  pub response_listed : One 0 response-listed-of.ps response-listed-of.r (none 0 response-listed-of.ps response-listed-of.r) response_listed.Post
  pub read_response_lem : One 1 read-response-of.ps read-response-of.r (none 1 read-response-of.ps read-response-of.r) read_response_lem.Post
  pub write_response : One 2 write-response-of.ps write-response-of.r write_response_left write_response.Post
  pub sonerwal_open_read : One 10 sonerwal-open-read-of.ps sonerwal-open-read-of.r sonerwal_open_read_left sonerwal_open_read.Post
  pub sonerwal_open_write : One 1 sonerwal-open-write-of.ps sonerwal-open-write-of.r sonerwal_open_write_left sonerwal_open_write.Post
  pub sonerwal_data_read : One 7 sonerwal-data-read-of.ps sonerwal-data-read-of.r sonerwal_data_read_left sonerwal_data_read.Post
  pub sonerwal_data_write : One 2 sonerwal-data-write-of.ps sonerwal-data-write-of.r sonerwal_data_write_left sonerwal_data_write.Post
  pub sonerwal_xfer_rdy_read : One 9 sonerwal-xfer-rdy-read-of.ps sonerwal-xfer-rdy-read-of.r sonerwal_xfer_rdy_read_left sonerwal_xfer_rdy_read.Post
  pub sonerwal_xfer_rdy_write : One 1 sonerwal-xfer-rdy-write-of.ps sonerwal-xfer-rdy-write-of.r sonerwal_xfer_rdy_write_left sonerwal_xfer_rdy_write.Post
  pub sonerwal_data_out_read : One 8 sonerwal-data-out-read-of.ps sonerwal-data-out-read-of.r sonerwal_data_out_read_left sonerwal_data_out_read.Post
  pub sonerwal_data_out_write : One 2 sonerwal-data-out-write-of.ps sonerwal-data-out-write-of.r sonerwal_data_out_write_left sonerwal_data_out_write.Post
  pub sonerwal_response_read : One 8 sonerwal-response-read-of.ps sonerwal-response-read-of.r sonerwal_response_read_left sonerwal_response_read.Post
  pub sonerwal_response_write : One 2 sonerwal-response-write-of.ps sonerwal-response-write-of.r sonerwal_response_write_left sonerwal_response_write.Post
  pub sonerwal_version : One 0 sonerwal-version-of.ps sonerwal-version-of.r (none 0 sonerwal-version-of.ps sonerwal-version-of.r) sonerwal_version.Post
  pub sonerwal_wait_value : One 0 sonerwal-wait-value-of.ps sonerwal-wait-value-of.r (none 0 sonerwal-wait-value-of.ps sonerwal-wait-value-of.r) sonerwal_wait_value.Post
  pub sonerwal_open_higher : One 0 sonerwal-open-higher-of.ps sonerwal-open-higher-of.r (none 0 sonerwal-open-higher-of.ps sonerwal-open-higher-of.r) sonerwal_open_higher.Post

pub frames : Frames
frames = record {
  number = λ κs a x y s t p q. (p ∙ sym q, refl);
  answer = λ κs a x y s t p q. (p ∙ sym q, refl);
  get_be = λ κs a x y s t p q. (p.number ∙ sym q.number, refl);
  put_be = λ κs a x y s t p q. (refl, p ∙ sym q);
  head_listed = λ κs a x y s t p q. (p ∙ sym q, refl);
  read_open_lem = λ κs a x y s t p q. (p ∙ sym q, refl);
  write_open = λ κs a x y s t p q. wrote_once p q;
  wait_value = λ κs a x y s t p q. (p ∙ sym q, refl);
  higher_than = λ κs a x y s t p q. (p ∙ sym q, refl);
  data_listed = λ κs a x y s t p q. (p ∙ sym q, refl);
  read_data_lem = λ κs a x y s t p q. (p ∙ sym q, refl);
  write_data = λ κs a x y s t p q. wrote_once p q;
  xfer_listed = λ κs a x y s t p q. (p ∙ sym q, refl);
  read_xfer_rdy_lem = λ κs a x y s t p q. (p ∙ sym q, refl);
  write_xfer_rdy = λ κs a x y s t p q. wrote_once p q;
  out_listed = λ κs a x y s t p q. (p ∙ sym q, refl);
  read_data_out_lem = λ κs a x y s t p q. (p ∙ sym q, refl);
  write_data_out = λ κs a x y s t p q. wrote_once p q;
  response_sized = λ κs a x y s t p q. (p ∙ sym q, refl);
  response_listed = λ κs a x y s t p q. (p ∙ sym q, refl);
  read_response_lem = λ κs a x y s t p q. (p ∙ sym q, refl);
  write_response = λ κs a x y s t p q. wrote_once p q;
  sonerwal_open_read = λ κs a x y s t p q. (p.answer ∙ sym q.answer, p.leaves ∙ sym q.leaves);
  sonerwal_open_write = λ κs a x y s t p q. (p.answer ∙ sym q.answer, p.leaves ∙ sym q.leaves);
  sonerwal_data_read = λ κs a x y s t p q. (p.answer ∙ sym q.answer, p.leaves ∙ sym q.leaves);
  sonerwal_data_write = λ κs a x y s t p q. (p.answer ∙ sym q.answer, p.leaves ∙ sym q.leaves);
  sonerwal_xfer_rdy_read = λ κs a x y s t p q. (p.answer ∙ sym q.answer, p.leaves ∙ sym q.leaves);
  sonerwal_xfer_rdy_write = λ κs a x y s t p q. (p.answer ∙ sym q.answer, p.leaves ∙ sym q.leaves);
  sonerwal_data_out_read = λ κs a x y s t p q. (p.answer ∙ sym q.answer, p.leaves ∙ sym q.leaves);
  sonerwal_data_out_write = λ κs a x y s t p q. (p.answer ∙ sym q.answer, p.leaves ∙ sym q.leaves);
  sonerwal_response_read = λ κs a x y s t p q. (p.answer ∙ sym q.answer, p.leaves ∙ sym q.leaves);
  sonerwal_response_write = λ κs a x y s t p q. (p.answer ∙ sym q.answer, p.leaves ∙ sym q.leaves);
  sonerwal_version = λ κs a x y s t p q. (p ∙ sym q, refl);
  sonerwal_wait_value = λ κs a x y s t p q. (p ∙ sym q, refl);
  sonerwal_open_higher = λ κs a x y s t p q. (p ∙ sym q, refl);
}
