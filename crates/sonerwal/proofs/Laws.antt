-- C sees an answer as a number and what was lent as it is left, and both go through each way out of a reader or writer.
-- Assumes nothing.
use Rattle.ssp_frame.specs.declared.response.ResponseHead.{ResponseHead}
use Rattle.ssp_frame.specs.declared.data_out.OutHead.{OutHead}
use Rattle.ssp_frame.specs.declared.data.DataHead.{DataHead}
use Rattle.ssp_frame.specs.declared.Frame.{Frame}
use Rattle.std.specs.Prelude.{Err, Ok, Result}
use mathlib.Core.Bool.{Bool, true}
use mathlib.Core.Path.{◌≡◌, refl, sym, ◌∙◌, ap}
use mathlib.Core.List.{List}
use Prim.Native.Nat.{ℕ}
use Rattle.refusals.specs.Refusals.{number_of, answer_of}
use Rattle.refusals.specs.Causes.{Cause, refuse, buffer_causes, Wrote}
use Rattle.refusals.specs.declared.Refusal.{Refusal}
use Rattle.refusals.proofs.Causes.{through}
use Rattle.refusals.proofs.Frames.{by_none}
use Rattle.refusals.proofs.Numbers.{not_zero}
use Rattle.open_frame.specs.Open.{frame_of, read_open, read_causes as open_read_causes}
use Rattle.open_frame.specs.declared.OpenFrame.{OpenFrame}
use Rattle.ssp_frame.specs.Data.{data_of, read_data, read_causes as data_read_causes}
use Rattle.ssp_frame.specs.Xfer.{xfer_of, read_xfer_rdy, read_causes as xfer_read_causes}
use Rattle.ssp_frame.specs.declared.xfer_rdy.XferHead.{XferHead}
use Rattle.ssp_frame.specs.Out.{out_of, read_data_out, read_causes as out_read_causes}
use Rattle.ssp_frame.specs.Response.{response_of, read_response, read_causes as response_read_causes}
use Rattle.sonerwal.specs.Face.{Read, Called, OpenReads, DataReads, XferReads, OutReads, ResponseReads}

-- a reader's answer as a number, and the fields that it leaves of those that were lent
abbrev pub number_seen : {F : Type 0} → Result F Refusal → ℕ
number_seen (Ok f) = 0
number_seen (Err k) = number_of k

abbrev pub left_seen : {F : Type 0} → F → Result F Refusal → F
left_seen lent (Ok f) = f
left_seen lent (Err k) = lent

module _ {F : Type 0} (cs : List Cause) (new lent : F) where
  -- both are what its causes say
  read_as : {a : Result F Refusal} → a ≡ refuse Err cs (Ok new) → Called cs new lent (number_seen a) (left_seen lent a)
  read_as e = record {
    answer = ap number_seen e ∙ through number_seen Err cs (Ok new);
    leaves = ap (left_seen lent) e ∙ through (left_seen lent) Err cs (Ok new);
  }

  -- and by its answer C knows what the reader found
  finds_as : {f left : F} {r : ℕ} → Called cs new lent r left → refuse Err cs (Ok new) ≡ Ok f → (r ≡ 0) × (left ≡ f)
  finds_as p e =
      let is = read_as refl in
      (p.answer ∙ sym is.answer ∙ ap number_seen e, p.leaves ∙ sym is.leaves ∙ ap (left_seen lent) e)

pub open_read : (s : List ℕ) (lent : OpenFrame) {a : Result OpenFrame Refusal} → a ≡ read_open s → OpenReads (record { frame = s; lent = lent; answer = number_seen a; left = left_seen lent a })
unfolding read_open
open_read s lent e = read_as (open_read_causes s) (frame_of s) lent e

pub open_finds : (c : Read ℕ OpenFrame) {f : OpenFrame} → OpenReads c → read_open c.frame ≡ Ok f → (c.answer ≡ 0) × (c.left ≡ f)
unfolding read_open
open_finds c p e = finds_as (open_read_causes c.frame) (frame_of c.frame) c.lent p e

pub data_read : (s : List ℕ) (lent : Frame DataHead) {a : Result (Frame DataHead) Refusal} → a ≡ read_data s → DataReads (record { frame = s; lent = lent; answer = number_seen a; left = left_seen lent a })
unfolding read_data
data_read s lent e = read_as (data_read_causes s) (data_of s) lent e

pub data_finds : (c : Read ℕ (Frame DataHead)) {f : Frame DataHead} → DataReads c → read_data c.frame ≡ Ok f → (c.answer ≡ 0) × (c.left ≡ f)
unfolding read_data
data_finds c p e = finds_as (data_read_causes c.frame) (data_of c.frame) c.lent p e

pub xfer_read : (s : List ℕ) (lent : XferHead) {a : Result XferHead Refusal} → a ≡ read_xfer_rdy s → XferReads (record { frame = s; lent = lent; answer = number_seen a; left = left_seen lent a })
unfolding read_xfer_rdy
xfer_read s lent e = read_as (xfer_read_causes s) (xfer_of s) lent e

pub xfer_finds : (c : Read ℕ XferHead) {f : XferHead} → XferReads c → read_xfer_rdy c.frame ≡ Ok f → (c.answer ≡ 0) × (c.left ≡ f)
unfolding read_xfer_rdy
xfer_finds c p e = finds_as (xfer_read_causes c.frame) (xfer_of c.frame) c.lent p e

pub out_read : (s : List ℕ) (lent : Frame OutHead) {a : Result (Frame OutHead) Refusal} → a ≡ read_data_out s → OutReads (record { frame = s; lent = lent; answer = number_seen a; left = left_seen lent a })
unfolding read_data_out
out_read s lent e = read_as (out_read_causes s) (out_of s) lent e

pub out_finds : (c : Read ℕ (Frame OutHead)) {f : Frame OutHead} → OutReads c → read_data_out c.frame ≡ Ok f → (c.answer ≡ 0) × (c.left ≡ f)
unfolding read_data_out
out_finds c p e = finds_as (out_read_causes c.frame) (out_of c.frame) c.lent p e

pub response_read : (s : List ℕ) (lent : Frame ResponseHead) {a : Result (Frame ResponseHead) Refusal} → a ≡ read_response s → ResponseReads (record { frame = s; lent = lent; answer = number_seen a; left = left_seen lent a })
unfolding read_response
response_read s lent e = read_as (response_read_causes s) (response_of s) lent e

pub response_finds : (c : Read ℕ (Frame ResponseHead)) {f : Frame ResponseHead} → ResponseReads c → read_response c.frame ≡ Ok f → (c.answer ≡ 0) × (c.left ≡ f)
unfolding read_response
response_finds c p e = finds_as (response_read_causes c.frame) (response_of c.frame) c.lent p e

-- the same of any writer
pub wrote : {cs : List Cause} {new lent left : List ℕ} {w : Result (Unit {0}) Refusal} {r : ℕ} → Wrote cs new lent w left → r ≡ answer_of w → Called cs new lent r left
wrote {cs} p e = record { answer = e ∙ ap answer_of p.answer ∙ through answer_of Err cs (Ok tt); leaves = p.bytes }

-- ---- what C knows by its answer

-- a writer that answers 0 is done
zero_done : (w : Result (Unit {0}) Refusal) → answer_of w ≡ 0 → w ≡ Ok tt
zero_done (Ok tt) e = refl
zero_done (Err k) e = absurd (not_zero k (sym e))

module _ {cs : List Cause} {new lent left : List ℕ} {r : ℕ} (c : Called cs new lent r left) where
  pub writes : Wrote cs new lent (refuse Err cs (Ok tt)) left
  writes = record { answer = refl; bytes = c.leaves }

  pub done_writing : r ≡ 0 → ◌≡◌ {A = Result (Unit {0}) Refusal} (refuse Err cs (Ok tt)) (Ok tt)
  done_writing e = zero_done (refuse Err cs (Ok tt)) (through answer_of Err cs (Ok tt) ∙ sym c.answer ∙ e)

-- a writer that passes both tests answers 0 and leaves the new bytes
pub written : (new lent : List ℕ) {s t : Bool} {r : ℕ} {left : List ℕ} → Called (buffer_causes s t) new lent r left → s ≡ true → t ≡ true → (r ≡ 0) × (left ≡ new)
written new lent c sized listed = (c.answer ∙ sym (by_none number_of 0 sized listed), c.leaves ∙ sym (by_none (λ _. lent) new sized listed))
