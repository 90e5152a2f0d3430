-- A call answers refusal k exactly if k is the first cause that holds, in document 01's order, and then leaves every lent number
-- and byte as it was: its promise is the list of its tests, and each test decides its cause. Assumes nothing.
use Rattle.ssp_frame.specs.declared.data.DataHead.{DataHead}
use Rattle.ssp_frame.specs.declared.Frame.{Frame}
use Rattle.std.specs.Prelude.{Err, Ok, Result}
use Prim.Native.Nat.{ℕ, ◌≤◌}
use mathlib.Core.Bool.{Bool, true}
use mathlib.Core.List.{[], ◌∷◌, map}
use mathlib.Core.Logic.{◌↔◌}
use mathlib.Core.Path.{◌≡◌, refl, sym, ◌∙◌}
use native.Mathlib.Omega.{arith}
use lib.ListN.{length}
use Rattle.laws.proofs.Tests.{equal, most}
use Rattle.refusals.specs.Refusals.{number_of}
use Rattle.refusals.specs.Causes.{refuse, buffer_causes, Wrote}
use Rattle.refusals.specs.declared.Refusal.{Refusal}
use Rattle.refusals.proofs.Results.{one, apart}
use Rattle.refusals.proofs.Causes.{only, if_first, none_held, if_none, stays}
use Rattle.refusals.proofs.Frames.{frame_decides}
use Rattle.refusals.proofs.Numbers.{one_number, range, not_zero}
use Rattle.open_frame.specs.Open.{frame_of, open_bytes, read_open, write_causes as open_write_causes}
use Rattle.open_frame.specs.declared.OpenFrame.{OpenFrame}
use Rattle.ssp_frame.specs.Data.{data_left, data_of, read_data, write_causes as data_write_causes}
use Rattle.ssp_frame.specs.Xfer.{xfer_left, xfer_of, read_xfer_rdy, write_causes as xfer_write_causes}
use Rattle.ssp_frame.specs.declared.xfer_rdy.XferHead.{XferHead}
use Rattle.ssp_frame.specs.Out.{out_left, out_of, read_data_out, write_causes as out_write_causes}
use Rattle.ssp_frame.specs.declared.data_out.OutHead.{OutHead}
use Rattle.ssp_frame.specs.Response.{response_left, response_of, read_response, write_causes as response_write_causes}
use Rattle.ssp_frame.specs.declared.response.ResponseHead.{ResponseHead}
use Rattle.sonerwal.specs.Face.{Read, Write, Given, DataGiven, OpenReads, OpenWrites, DataReads, DataWrites, XferReads, XferWrites, OutReads, OutWrites, ResponseReads, ResponseWrites}
use Rattle.claims.specs.Causes.{Answers, ReadsOpen, WritesOpen, ReadsData, WritesData, ReadsXfer, WritesXfer, ReadsOut, WritesOut, ReadsResponse, WritesResponse}
use Rattle.claims.proofs.Calls.{ReadOpen, WriteOpen, ReadData, WriteData, FaceOpenRead, FaceOpenWrite, FaceDataRead, FaceDataWrite}
use Rattle.claims.proofs.Calls.{ReadXfer, WriteXfer, ReadOut, WriteOut, ReadResponse, WriteResponse, FaceXferRead, FaceXferWrite, FaceOutRead, FaceOutWrite, FaceResponseRead, FaceResponseWrite}
use Rattle.claims.proofs.Named.{open_read, open_write, data_read, data_write, c_open_read, c_open_write, c_data_read, c_data_write}
use Rattle.claims.proofs.Named.{xfer_read, xfer_write, out_read, out_write, response_read, response_write, c_xfer_read, c_xfer_write, c_out_read, c_out_write, c_response_read, c_response_write}
use Rattle.claims.proofs.Grounds.{open_length, open_bytes_lem, open_fields, data_lengths, data_fields, data_length, data_bytes}
use Rattle.claims.proofs.Grounds.{xfer_fields, xfer_bytes, out_fields, out_bytes, response_lengths, response_fields, response_length, response_bytes}

-- what two tests that decide two causes make of a call, where refusals are told apart from each other and from the other answer
module _ {A : Type 0} (refused : Refusal → A) (done : A) (one : (j k : Refusal) → refused j ≡ refused k → j ≡ k) (apart : (k : Refusal) → done ≡ refused k → ⊥) where
  answers : {L : Type 0} {s t : Bool} {P Q : Type 0} → (s ≡ true) ↔ P → (t ≡ true) ↔ Q → (new before : L) {x : A} {after : L} → x ≡ refuse refused (buffer_causes s t) done → after ≡ refuse (λ _. before) (buffer_causes s t) new → Answers refused done x P Q before after
  answers {s = s} {t = t} d e new before px pa =
      let both = frame_decides d e in
      record {
        exactly = λ k. (λ h. only refused done one apart both k (sym px ∙ h), λ h. px ∙ if_first refused done one apart both k h);
        otherwise = (λ h. none_held refused done one apart both (sym px ∙ h), λ h. px ∙ if_none refused done one apart both h);
        keeps = λ k h. pa ∙ stays refused done one apart (buffer_causes s t) new before k (sym px ∙ h);
      }

-- the readers' answers, by their definitions; they change nothing
open_answers : (c : Read (Result OpenFrame Refusal) (Unit {0})) → c.answer ≡ read_open c.frame → ReadsOpen Err (Ok (frame_of c.frame)) c
unfolding read_open
open_answers c p small = let s = c.frame in answers Err (Ok (frame_of s)) one (apart (frame_of s)) (open_length s) (open_bytes_lem s small) tt tt p refl

data_answers : (c : Read (Result (Frame DataHead) Refusal) (Unit {0})) → c.answer ≡ read_data c.frame → ReadsData Err (Ok (data_of c.frame)) c
unfolding read_data
data_answers c p small = let s = c.frame in answers Err (Ok (data_of s)) one (apart (data_of s)) (data_length (length s)) (data_bytes s small) tt tt p refl

xfer_answers : (c : Read (Result XferHead Refusal) (Unit {0})) → c.answer ≡ read_xfer_rdy c.frame → ReadsXfer Err (Ok (xfer_of c.frame)) c
unfolding read_xfer_rdy
xfer_answers c p small = let s = c.frame in answers Err (Ok (xfer_of s)) one (apart (xfer_of s)) (equal (length s) 36) (xfer_bytes s) tt tt p refl

out_answers : (c : Read (Result (Frame OutHead) Refusal) (Unit {0})) → c.answer ≡ read_data_out c.frame → ReadsOut Err (Ok (out_of c.frame)) c
unfolding read_data_out
out_answers c p small = let s = c.frame in answers Err (Ok (out_of s)) one (apart (out_of s)) (data_length (length s)) (out_bytes s) tt tt p refl

response_answers : (c : Read (Result (Frame ResponseHead) Refusal) (Unit {0})) → c.answer ≡ read_response c.frame → ReadsResponse Err (Ok (response_of c.frame)) c
unfolding read_response
response_answers c p small = let s = c.frame in answers Err (Ok (response_of s)) one (apart (response_of s)) (response_length (length s)) (response_bytes s small) tt tt p refl

-- the writers' answers and bytes, by what they promise
open_writes : (c : Write (Result (Unit {0}) Refusal) OpenFrame) → Wrote (open_write_causes c.given c.lent) (open_bytes c.given) c.lent c.answer c.left → WritesOpen Err (Ok tt) c
open_writes c p = answers Err (Ok tt) one (apart tt) (open_length c.lent) (open_fields c.given.head) (open_bytes c.given) c.lent p.answer p.bytes

data_writes : (c : Write (Result (Unit {0}) Refusal) DataGiven) → let g = c.given in Wrote (data_write_causes g.head g.body c.lent) (data_left g.head g.body c.lent) c.lent c.answer c.left → WritesData Err (Ok tt) c
data_writes c p = let g = c.given in answers Err (Ok tt) one (apart tt) (data_lengths (length g.body) (length c.lent)) (data_fields g.head) (data_left g.head g.body c.lent) c.lent p.answer p.bytes

xfer_writes : (c : Write (Result (Unit {0}) Refusal) XferHead) → Wrote (xfer_write_causes c.given c.lent) (xfer_left c.given c.lent) c.lent c.answer c.left → WritesXfer Err (Ok tt) c
xfer_writes c p = answers Err (Ok tt) one (apart tt) (most 36 (length c.lent)) (xfer_fields c.given) (xfer_left c.given c.lent) c.lent p.answer p.bytes

out_writes : (c : Write (Result (Unit {0}) Refusal) (Given OutHead)) → let g = c.given in Wrote (out_write_causes g.head g.body c.lent) (out_left g.head g.body c.lent) c.lent c.answer c.left → WritesOut Err (Ok tt) c
out_writes c p = let g = c.given in answers Err (Ok tt) one (apart tt) (data_lengths (length g.body) (length c.lent)) (out_fields g.head) (out_left g.head g.body c.lent) c.lent p.answer p.bytes

response_writes : (c : Write (Result (Unit {0}) Refusal) (Given ResponseHead)) → let g = c.given in Wrote (response_write_causes g.head g.body c.lent) (response_left g.head g.body c.lent) c.lent c.answer c.left → WritesResponse Err (Ok tt) c
response_writes c p =
    let g = c.given in
    answers Err (Ok tt) one (apart tt) (response_lengths g.head.present (length g.body) (length c.lent)) (response_fields g.head) (response_left g.head g.body c.lent) c.lent p.answer p.bytes

-- what C sees of each, as numbers
c_open_reads : (c : Read ℕ OpenFrame) → OpenReads c → ReadsOpen number_of 0 c
c_open_reads c p small = answers number_of 0 one_number not_zero (open_length c.frame) (open_bytes_lem c.frame small) (frame_of c.frame) c.lent p.answer p.leaves

c_open_writes : (c : Write ℕ OpenFrame) → OpenWrites c → WritesOpen number_of 0 c
c_open_writes c p = answers number_of 0 one_number not_zero (open_length c.lent) (open_fields c.given.head) (open_bytes c.given) c.lent p.answer p.leaves

c_data_reads : (c : Read ℕ (Frame DataHead)) → DataReads c → ReadsData number_of 0 c
c_data_reads c p small = answers number_of 0 one_number not_zero (data_length (length c.frame)) (data_bytes c.frame small) (data_of c.frame) c.lent p.answer p.leaves

c_data_writes : (c : Write ℕ DataGiven) → DataWrites c → WritesData number_of 0 c
c_data_writes c p = let g = c.given in answers number_of 0 one_number not_zero (data_lengths (length g.body) (length c.lent)) (data_fields g.head) (data_left g.head g.body c.lent) c.lent p.answer p.leaves

c_xfer_reads : (c : Read ℕ XferHead) → XferReads c → ReadsXfer number_of 0 c
c_xfer_reads c p small = answers number_of 0 one_number not_zero (equal (length c.frame) 36) (xfer_bytes c.frame) (xfer_of c.frame) c.lent p.answer p.leaves

c_xfer_writes : (c : Write ℕ XferHead) → XferWrites c → WritesXfer number_of 0 c
c_xfer_writes c p = answers number_of 0 one_number not_zero (most 36 (length c.lent)) (xfer_fields c.given) (xfer_left c.given c.lent) c.lent p.answer p.leaves

c_out_reads : (c : Read ℕ (Frame OutHead)) → OutReads c → ReadsOut number_of 0 c
c_out_reads c p small = answers number_of 0 one_number not_zero (data_length (length c.frame)) (out_bytes c.frame) (out_of c.frame) c.lent p.answer p.leaves

c_out_writes : (c : Write ℕ (Given OutHead)) → OutWrites c → WritesOut number_of 0 c
c_out_writes c p = let g = c.given in answers number_of 0 one_number not_zero (data_lengths (length g.body) (length c.lent)) (out_fields g.head) (out_left g.head g.body c.lent) c.lent p.answer p.leaves

c_response_reads : (c : Read ℕ (Frame ResponseHead)) → ResponseReads c → ReadsResponse number_of 0 c
c_response_reads c p small = answers number_of 0 one_number not_zero (response_length (length c.frame)) (response_bytes c.frame small) (response_of c.frame) c.lent p.answer p.leaves

c_response_writes : (c : Write ℕ (Given ResponseHead)) → ResponseWrites c → WritesResponse number_of 0 c
c_response_writes c p =
    let g = c.given in
    answers number_of 0 one_number not_zero (response_lengths g.head.present (length g.body) (length c.lent)) (response_fields g.head) (response_left g.head g.body c.lent) c.lent p.answer p.leaves

-- 01 REFUSAL.11 01 REFUSAL.12
pub record Refusals : Type 1 where
  -- what reads and writes frames answers and leaves: 1 for a wrong length, 2 for a field that is not listed, and else that it is done
  pub read_open_lem : (c : ReadOpen) → ReadsOpen Err (Ok (frame_of (open_read c).frame)) (open_read c)
  pub write_open : (c : WriteOpen) → WritesOpen Err (Ok tt) (open_write c)
  pub read_data_lem : (c : ReadData) → ReadsData Err (Ok (data_of (data_read c).frame)) (data_read c)
  pub write_data : (c : WriteData) → WritesData Err (Ok tt) (data_write c)
  pub read_xfer_rdy_lem : (c : ReadXfer) → ReadsXfer Err (Ok (xfer_of (xfer_read c).frame)) (xfer_read c)
  pub write_xfer_rdy : (c : WriteXfer) → WritesXfer Err (Ok tt) (xfer_write c)
  pub read_data_out_lem : (c : ReadOut) → ReadsOut Err (Ok (out_of (out_read c).frame)) (out_read c)
  pub write_data_out : (c : WriteOut) → WritesOut Err (Ok tt) (out_write c)
  pub read_response_lem : (c : ReadResponse) → ReadsResponse Err (Ok (response_of (response_read c).frame)) (response_read c)
  pub write_response : (c : WriteResponse) → WritesResponse Err (Ok tt) (response_write c)
  -- the same of C's calls, which answer the refusal's number, or 0
  pub sonerwal_open_read : (c : FaceOpenRead) → ReadsOpen number_of 0 (c_open_read c)
  pub sonerwal_open_write : (c : FaceOpenWrite) → WritesOpen number_of 0 (c_open_write c)
  pub sonerwal_data_read : (c : FaceDataRead) → ReadsData number_of 0 (c_data_read c)
  pub sonerwal_data_write : (c : FaceDataWrite) → WritesData number_of 0 (c_data_write c)
  pub sonerwal_xfer_rdy_read : (c : FaceXferRead) → ReadsXfer number_of 0 (c_xfer_read c)
  pub sonerwal_xfer_rdy_write : (c : FaceXferWrite) → WritesXfer number_of 0 (c_xfer_write c)
  pub sonerwal_data_out_read : (c : FaceOutRead) → ReadsOut number_of 0 (c_out_read c)
  pub sonerwal_data_out_write : (c : FaceOutWrite) → WritesOut number_of 0 (c_out_write c)
  pub sonerwal_response_read : (c : FaceResponseRead) → ReadsResponse number_of 0 (c_response_read c)
  pub sonerwal_response_write : (c : FaceResponseWrite) → WritesResponse number_of 0 (c_response_write c)

pub refusals : Refusals
refusals = record {
  read_open_lem = λ c. open_answers (open_read c) c.met;
  write_open = λ c. open_writes (open_write c) c.met;
  read_data_lem = λ c. data_answers (data_read c) c.met;
  write_data = λ c. data_writes (data_write c) c.met;
  read_xfer_rdy_lem = λ c. xfer_answers (xfer_read c) c.met;
  write_xfer_rdy = λ c. xfer_writes (xfer_write c) c.met;
  read_data_out_lem = λ c. out_answers (out_read c) c.met;
  write_data_out = λ c. out_writes (out_write c) c.met;
  read_response_lem = λ c. response_answers (response_read c) c.met;
  write_response = λ c. response_writes (response_write c) c.met;
  sonerwal_open_read = λ c. c_open_reads (c_open_read c) c.met;
  sonerwal_open_write = λ c. c_open_writes (c_open_write c) c.met;
  sonerwal_data_read = λ c. c_data_reads (c_data_read c) c.met;
  sonerwal_data_write = λ c. c_data_writes (c_data_write c) c.met;
  sonerwal_xfer_rdy_read = λ c. c_xfer_reads (c_xfer_read c) c.met;
  sonerwal_xfer_rdy_write = λ c. c_xfer_writes (c_xfer_write c) c.met;
  sonerwal_data_out_read = λ c. c_out_reads (c_out_read c) c.met;
  sonerwal_data_out_write = λ c. c_out_writes (c_out_write c) c.met;
  sonerwal_response_read = λ c. c_response_reads (c_response_read c) c.met;
  sonerwal_response_write = λ c. c_response_writes (c_response_write c) c.met;
}

-- 01 REFUSAL.1 01 REFUSAL.2 01 REFUSAL.3 01 REFUSAL.4 01 REFUSAL.5 01 REFUSAL.6 01 REFUSAL.7 01 REFUSAL.8 01 REFUSAL.9 01 REFUSAL.10
-- each refusal has a number of its own, from 1 to 10
pub record Numbers : Type 0 where
  pub own : (j k : Refusal) → number_of j ≡ number_of k → j ≡ k
  pub within : (k : Refusal) → (1 ≤ number_of k) × (number_of k ≤ 10)
  -- in the order of document 01's table
  pub table : map number_of (Refusal.Length ∷ Refusal.Unlisted ∷ Refusal.Rules ∷ Refusal.Phy ∷ Refusal.Past ∷ Refusal.Unfit ∷ Refusal.Due ∷ Refusal.Sent ∷ Refusal.Present ∷ Refusal.Full ∷ []) ≡ 1 ∷ 2 ∷ 3 ∷ 4 ∷ 5 ∷ 6 ∷ 7 ∷ 8 ∷ 9 ∷ 10 ∷ []

pub numbers : Numbers
numbers = record { own = one_number; within = range; table = refl }
