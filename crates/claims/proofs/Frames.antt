-- Demand 2, frames: both round trips of every frame, for what the calls themselves answer and leave, since their promises
-- determine it. Assumes nothing.
use Rattle.ssp_frame.specs.declared.Frame.{Frame}
use Rattle.refusals.specs.declared.Refusal.{Refusal}
use Rattle.std.specs.Prelude.{Ok, Ok as Data, Ok as Open, Ok as Out, Ok as Response, Ok as Xfer, Result}
use Prim.Native.Nat.{ℕ, ◌+◌, ◌*◌, ◌/◌, ◌≤◌}
use mathlib.Core.Bool.{true}
use mathlib.Core.List.{List, [], ◌∷◌, ◌++◌, append-nil}
use mathlib.Core.Path.{◌≡◌, refl, sym, ap, ◌∙◌, subst}
use lib.Dec.{eqb, leb}
use lib.ListN.{length, take, drop, drop_of_length-le}
use native.Mathlib.Omega.{arith}
use lib.Seq.{take_at}
use borrow.Author.Tests.{eq-eqb, le-leb}
use Rattle.refusals.specs.Causes.{Wrote}
use Rattle.refusals.proofs.Frames.{done_wrote, wrote_is}
use Rattle.open_frame.specs.Open.{open_bytes, not_carried, cleared, head_listed, Widths, read_open, write_causes as open_write_causes}
use Rattle.open_frame.specs.declared.OpenFrame.{OpenFrame}
use Rattle.open_frame.proofs.Trip.{read_written as open-back, written_read as open-forth, found as open-fits}
use Rattle.ssp_frame.specs.Data.{frame_end, data_bytes, data_left, data_sized, data_listed, Typed, read_data, write_causes as data_write_causes}
use Rattle.ssp_frame.specs.declared.data.DataHead.{DataHead}
use Rattle.ssp_frame.proofs.Fields.{Listed, fitting, is_fitting, listed_is, is_listed}
use Rattle.ssp_frame.proofs.Trip.{read_written as data-back, written_read as data-forth, fits, frame_long, body_held}
use Rattle.ssp_frame.specs.Typed.{xfer_typed, out_body, out_typed, sense_body, sense_typed, response_body, response_typed}
use Rattle.ssp_frame.specs.Xfer.{xfer_bytes, xfer_left, xfer_listed, read_xfer_rdy, write_causes as xfer_write_causes}
use Rattle.ssp_frame.specs.Xfer as xfer
use Rattle.ssp_frame.specs.declared.xfer_rdy.XferHead.{XferHead}
use Rattle.ssp_frame.proofs.XferFields as xfer_fields
use Rattle.ssp_frame.proofs.XferTrip as xfer-trip
use Rattle.ssp_frame.specs.Out.{out_bytes, out_left, out_listed, read_data_out, write_causes as out_write_causes}
use Rattle.ssp_frame.specs.Out as out
use Rattle.ssp_frame.specs.declared.data_out.OutHead.{OutHead}
use Rattle.ssp_frame.proofs.OutFields as out_fields
use Rattle.ssp_frame.proofs.OutTrip as out-trip
use Rattle.ssp_frame.specs.Response.{response_end, response_bytes, response_left, response_sized, response_listed, read_response, write_causes as response_write_causes}
use Rattle.ssp_frame.specs.Response as response
use Rattle.ssp_frame.specs.declared.response.ResponseHead.{ResponseHead}
use Rattle.ssp_frame.proofs.ResponseFields as response_fields
use Rattle.ssp_frame.proofs.ResponseTrip as response-trip
use Rattle.sonerwal.specs.Face.{Given, DataGiven, OpenWrites, DataWrites, XferWrites, OutWrites, ResponseWrites}
use Rattle.sonerwal.specs.Typed.{open_numbers, open_typed, data_numbers, data_body, data_typed, xfer_numbers, out_numbers, sense_numbers, response_numbers}
use Rattle.sonerwal.proofs.Laid.{open_found, data_found, nine, six, eight, out_seven, response_seven}
use Rattle.sonerwal.proofs.Laid as laid
use Rattle.sonerwal.proofs.Laws.{open_finds, data_finds, xfer_finds, out_finds, response_finds, writes, done_writing, written}
use Rattle.claims.specs.Causes.{Bytes, Wide}
use Rattle.claims.proofs.Calls.{ReadOpen, WriteOpen, ReadData, WriteData, FaceOpenRead, FaceOpenWrite, FaceDataRead, FaceDataWrite}
use Rattle.claims.proofs.Calls.{ReadXfer, WriteXfer, ReadOut, WriteOut, ReadResponse, WriteResponse, FaceXferRead, FaceXferWrite, FaceOutRead, FaceOutWrite, FaceResponseRead, FaceResponseWrite}
use Rattle.claims.proofs.Named.{behind3, open_of, head_of_lem, open_read, open_write, data_read, data_write, open_given, open_left, data_given, data_left_lem, c_open_read, c_open_write, c_data_read, c_data_write}
use Rattle.claims.proofs.Named.{xfer_of, xfer_read, xfer_write, xfer_given, xfer_left_lem, c_xfer_read, c_xfer_write, out_head_of, out_read, out_write, out_given, out_left_lem, c_out_read, c_out_write}
use Rattle.claims.proofs.Named.{response_head_of, response_read, response_write, response_given, response_left_lem, c_response_read, c_response_write}

-- an output of which a frame is the front, and one that is all of it
front_of : (frame before after : List ℕ) (n : ℕ) → length frame ≡ n → after ≡ frame ++ drop n before → take n after ≡ frame
front_of frame before after n long e = ap (take n) e ∙ take_at frame (drop n before) n long

all_of : (frame before after : List ℕ) (n : ℕ) → n ≡ length before → after ≡ frame ++ drop n before → after ≡ frame
all_of frame before after n long e =
    let none : drop n before ≡ [] = drop_of_length-le before {i = n} (omega arith) in
    e ∙ ap (λ (l : List ℕ). frame ++ l) none ∙ append-nil frame

-- the round trips over the definitions, for any answer and bytes that a writer's promise admits
module _ (f : OpenFrame) (before : List ℕ) {x : Result (Unit {0}) Refusal} {after : List ℕ} (w : Wrote (open_write_causes f before) (open_bytes f) before x after) where
  open_wrote : x ≡ Ok tt → Widths f → read_open after ≡ Open f
  open_wrote e typed =
      let d = done_wrote (open_bytes f) before (eqb (length before) 28) (head_listed f.head) w e in
      ap read_open d.1.1 ∙ open-back f d.1.0 typed

  read_back : (s : List ℕ) → Bytes s → read_open s ≡ Open f → length before ≡ 28 → (x ≡ Ok tt) × (after ≡ cleared not_carried s)
  read_back s small e long =
      let r = open-fits s f e in
      let listed : head_listed f.head ≡ true = sym (ap (λ (g : OpenFrame). head_listed g.head) r.same) ∙ r.listed in
      let d = wrote_is (open_bytes f) before w (eq-eqb (length before) 28 long) listed in
      (d.0, d.1 ∙ open-forth s f small e)

module _ (h : DataHead) (body before : List ℕ) {x : Result (Unit {0}) Refusal} {after : List ℕ} (w : Wrote (data_write_causes h body before) (data_left h body before) before x after) where
  data_wrote : x ≡ Ok tt → Typed h → let s = take (frame_end (length body)) after in (read_data s ≡ Data (record { head = h; length = length body })) × (take (length body) (drop 24 s) ≡ body)
  data_wrote e typed =
      let n = length body in
      let d = done_wrote (data_left h body before) before (data_sized n (length before)) (data_listed h) w e in
      let fits = fitting n (length before) d.0 in
      let front = front_of (data_bytes h body) before after (frame_end n) (frame_long h body) d.1.1 in
      (ap read_data front ∙ data-back h body (listed_is h d.1.0) typed fits.least fits.most, ap (λ (l : List ℕ). take n (drop 24 l)) front ∙ body_held h body)

  data_back_again : (s : List ℕ) (f : Frame DataHead) → Bytes s → read_data s ≡ Data f → h ≡ f.head → body ≡ take f.length (drop 24 s) → length before ≡ length s → (x ≡ Ok tt) × (after ≡ s)
  data_back_again s f small e eh eb el =
      let ok = fits s f small e in
      let n : length body ≡ f.length = ap length eb ∙ ok.count in
      let end : frame_end (length body) ≡ length before = ap frame_end n ∙ ok.end ∙ sym el in
      let sized = is_fitting (length body) (length before) (record { most = omega (arith, ok.most); least = omega (arith, ok.least); room = omega arith }) in
      let listed = is_listed h (subst (λ (g : DataHead). Listed g) (sym eh) ok.listed) in
      let d = wrote_is (data_left h body before) before w sized listed in
      (d.0, all_of (data_bytes h body) before after (frame_end (length body)) end d.1 ∙ (λ i. data_bytes (eh i) (eb i)) ∙ data-forth s f small e)

module _ (h : XferHead) (before : List ℕ) {x : Result (Unit {0}) Refusal} {after : List ℕ} (w : Wrote (xfer_write_causes h before) (xfer_left h before) before x after) where
  xfer_wrote : x ≡ Ok tt → xfer.Typed h → read_xfer_rdy (take 36 after) ≡ Xfer h
  xfer_wrote e typed =
      let d = done_wrote (xfer_left h before) before (leb 36 (length before)) (xfer_listed h) w e in
      ap read_xfer_rdy (front_of (xfer_bytes h) before after 36 refl d.1.1) ∙ xfer-trip.read_written h ((xfer_fields.listed h).0 d.1.0) typed

  xfer_back_again : (s : List ℕ) → Bytes s → read_xfer_rdy s ≡ Xfer h → length before ≡ 36 → (x ≡ Ok tt) × (after ≡ s)
  xfer_back_again s small e long =
      let listed = (xfer_fields.listed h).1 (xfer-trip.found_listed s h small (xfer-trip.found s h e)) in
      let d = wrote_is (xfer_left h before) before w (le-leb 36 (length before) (omega arith)) listed in
      (d.0, all_of (xfer_bytes h) before after 36 (sym long) d.1 ∙ xfer-trip.written_read s h small e)

module _ (h : OutHead) (body before : List ℕ) {x : Result (Unit {0}) Refusal} {after : List ℕ} (w : Wrote (out_write_causes h body before) (out_left h body before) before x after) where
  out_wrote : x ≡ Ok tt → out.Typed h → let s = take (frame_end (length body)) after in (read_data_out s ≡ Out (record { head = h; length = length body })) × (take (length body) (drop 24 s) ≡ body)
  out_wrote e typed =
      let n = length body in
      let d = done_wrote (out_left h body before) before (data_sized n (length before)) (out_listed h) w e in
      let fits = fitting n (length before) d.0 in
      let front = front_of (out_bytes h body) before after (frame_end n) (out-trip.frame_long h body) d.1.1 in (
        ap read_data_out front ∙ out-trip.read_written h body ((out_fields.listed h).0 d.1.0) typed fits.least fits.most,
        ap (λ (l : List ℕ). take n (drop 24 l)) front ∙ out-trip.body_held h body,
      )

  out_back_again : (s : List ℕ) (f : Frame OutHead) → Bytes s → read_data_out s ≡ Out f → h ≡ f.head → body ≡ take f.length (drop 24 s) → length before ≡ length s → (x ≡ Ok tt) × (after ≡ s)
  out_back_again s f small e eh eb el =
      let ok = out-trip.fits s f small e in
      let n : length body ≡ f.length = ap length eb ∙ ok.count in
      let end : frame_end (length body) ≡ length before = ap frame_end n ∙ ok.end ∙ sym el in
      let sized = is_fitting (length body) (length before) (record { most = omega (arith, ok.most); least = omega (arith, ok.least); room = omega arith }) in
      let listed = (out_fields.listed h).1 (subst (λ (g : OutHead). out_fields.Listed g) (sym eh) ok.listed) in
      let d = wrote_is (out_left h body before) before w sized listed in
      (d.0, all_of (out_bytes h body) before after (frame_end (length body)) end d.1 ∙ (λ i. out_bytes (eh i) (eb i)) ∙ out-trip.written_read s f small e)

module _ (h : ResponseHead) (body before : List ℕ) {x : Result (Unit {0}) Refusal} {after : List ℕ} (w : Wrote (response_write_causes h body before) (response_left h body before) before x after) where
  response_wrote : x ≡ Ok tt → response.Typed h → let s = take (response_end (length body)) after in (read_response s ≡ Response (record { head = h; length = length body })) × (take (length body) (drop 48 s) ≡ body)
  response_wrote e typed =
      let n = length body in
      let d = done_wrote (response_left h body before) before (response_sized h.present n (length before)) (response_listed h) w e in
      let fits = (response_fields.fitting h.present n (length before)).0 d.0 in
      let front = front_of (response_bytes h body) before after (response_end n) (response-trip.frame_long h body) d.1.1 in (
        ap read_response front ∙ response-trip.read_written h body ((response_fields.listed h).0 d.1.0) typed fits.most fits.kind,
        ap (λ (l : List ℕ). take n (drop 48 l)) front ∙ response-trip.body_held h body,
      )

  response_back_again : (s : List ℕ) (f : Frame ResponseHead) → Bytes s → read_response s ≡ Response f → h ≡ f.head → body ≡ take f.length (drop 48 s) → length before ≡ length s → (x ≡ Ok tt) × (after ≡ s)
  response_back_again s f small e eh eb el =
      let ok = response-trip.fits s f small e in
      let n : length body ≡ f.length = ap length eb ∙ ok.count in
      let end : response_end (length body) ≡ length before = ap response_end n ∙ ok.end ∙ sym el in
      let kind : response_fields.Kind h.present (length body) = subst (λ (g : ResponseHead). response_fields.Kind g.present (length body)) (sym eh) (subst (response_fields.Kind f.head.present) (sym n) ok.kind) in
      let sized = (response_fields.fitting h.present (length body) (length before)).1 (record { most = omega (arith, ok.most); kind = kind; room = omega arith }) in
      let listed = (response_fields.listed h).1 (subst (λ (g : ResponseHead). response_fields.Listed g) (sym eh) ok.listed) in
      let d = wrote_is (response_left h body before) before w sized listed in
      (d.0, all_of (response_bytes h body) before after (response_end (length body)) end d.1 ∙ (λ i. response_bytes (eh i) (eb i)) ∙ response-trip.written_read s f small e)

-- what is written is read back, and what was read is written back: OPEN but for the bytes that are not carried, the others whole
-- 01 OPEN.1 01 OPEN.5 01 DATA.1 01 DATA.2
pub record Frames : Type 0 where
  -- 01 OPEN.2 01 OPEN.3 01 OPEN.4
  -- each field at its place: the bytes of a frame whose fields are all different
  pub open_laid : open_bytes (record { head = record { initiator = 1; protocol = 2; features = 3; rate = 9; tag = 258; destination = 1161981756646125696; source = 9332165983064197000 }; pbc = record { 0 = 19 }; awt = record { 0 = 5141 } })
      ≡ open_typed
  pub data_laid : data_bytes (record { destination = 66051; source = 263430; changing = 1; tag = 1800; offset = 151653132 }) data_body ≡ data_typed
  -- XFER_RDY with retransmit alone and with retry data frames alone, and RESPONSE with sense data and with response data
  pub xfer_laid : (xfer_bytes (record { destination = 66051; source = 263430; retransmit = 1; retry = 0; tag = 1800; transfer = 2314; offset = 185339150; length = 252711186 }) ≡ xfer_typed 2)
      × (xfer_bytes (record { destination = 66051; source = 263430; retransmit = 0; retry = 1; tag = 1800; transfer = 2314; offset = 185339150; length = 252711186 }) ≡ xfer_typed 4)
  pub out_laid : out_bytes (record { destination = 66051; source = 263430; changing = 1; tag = 1800; transfer = 2314; offset = 185339150 }) out_body ≡ out_typed
  pub response_laid : (response_bytes (record { destination = 66051; source = 263430; retransmit = 1; tag = 1800; present = 2; status = 9 }) sense_body ≡ sense_typed)
      × (response_bytes (record { destination = 66051; source = 263430; retransmit = 0; tag = 1800; present = 1; status = 0 }) response_body ≡ response_typed)
  pub open_written_read : (c : WriteOpen) (d : ReadOpen) → let w = open_write c in let r = open_read d in w.answer ≡ Ok tt → Widths w.given → r.frame ≡ w.left → r.answer ≡ Open w.given
  pub open_read_written : (d : ReadOpen) (c : WriteOpen) → let r = open_read d in let w = open_write c in Bytes r.frame → r.answer ≡ Open w.given → length w.lent ≡ 28 → (w.answer ≡ Ok tt) × (w.left ≡ cleared not_carried r.frame)
  pub data_written_read : (c : WriteData) (d : ReadData) → let w = data_write c in let r = data_read d in let n = length w.given.body in w.answer ≡ Ok tt → Typed w.given.head → r.frame ≡ take (frame_end n) w.left → (r.answer ≡ Data (record { head = w.given.head; length = n })) × (take n (drop 24 r.frame) ≡ w.given.body)
  pub data_read_written : (d : ReadData) (c : WriteData) (f : Frame DataHead) → let r = data_read d in let w = data_write c in Bytes r.frame → r.answer ≡ Data f → w.given.head ≡ f.head → w.given.body ≡ take f.length (drop 24 r.frame) → length w.lent ≡ length r.frame → (w.answer ≡ Ok tt) × (w.left ≡ r.frame)
  pub xfer_written_read : (c : WriteXfer) (d : ReadXfer) → let w = xfer_write c in let r = xfer_read d in w.answer ≡ Ok tt → xfer.Typed w.given → r.frame ≡ take 36 w.left → r.answer ≡ Xfer w.given
  pub xfer_read_written : (d : ReadXfer) (c : WriteXfer) → let r = xfer_read d in let w = xfer_write c in Bytes r.frame → r.answer ≡ Xfer w.given → length w.lent ≡ 36 → (w.answer ≡ Ok tt) × (w.left ≡ r.frame)
  pub out_written_read : (c : WriteOut) (d : ReadOut) → let w = out_write c in let r = out_read d in let n = length w.given.body in w.answer ≡ Ok tt → out.Typed w.given.head → r.frame ≡ take (frame_end n) w.left
      → (r.answer ≡ Out (record { head = w.given.head; length = n })) × (take n (drop 24 r.frame) ≡ w.given.body)
  pub out_read_written : (d : ReadOut) (c : WriteOut) (f : Frame OutHead) → let r = out_read d in let w = out_write c in Bytes r.frame → r.answer ≡ Out f → w.given.head ≡ f.head → w.given.body ≡ take f.length (drop 24 r.frame)
      → length w.lent ≡ length r.frame → (w.answer ≡ Ok tt) × (w.left ≡ r.frame)
  pub response_written_read : (c : WriteResponse) (d : ReadResponse) → let w = response_write c in let r = response_read d in let n = length w.given.body in w.answer ≡ Ok tt → response.Typed w.given.head → r.frame ≡ take (response_end n) w.left
      → (r.answer ≡ Response (record { head = w.given.head; length = n })) × (take n (drop 48 r.frame) ≡ w.given.body)
  pub response_read_written : (d : ReadResponse) (c : WriteResponse) (f : Frame ResponseHead) → let r = response_read d in let w = response_write c in Bytes r.frame → r.answer ≡ Response f → w.given.head ≡ f.head → w.given.body ≡ take f.length (drop 48 r.frame)
      → length w.lent ≡ length r.frame → (w.answer ≡ Ok tt) × (w.left ≡ r.frame)
  -- 01 DATA.5
  -- the same through C's calls, each number at its own place
  pub c_open_laid : (c : FaceOpenWrite) → let w = c_open_write c in open_given c ≡ open_numbers → length w.lent ≡ 28 → (w.answer ≡ 0) × (w.left ≡ open_typed)
  pub c_open_found : (c : FaceOpenRead) → let r = c_open_read c in r.frame ≡ open_typed → (r.answer ≡ 0) × (open_left c ≡ open_numbers)
  pub c_data_laid : (c : FaceDataWrite) → let w = c_data_write c in data_given c ≡ data_numbers → w.given.body ≡ data_body → 32 ≤ length w.lent → (w.answer ≡ 0) × (w.left ≡ data_typed ++ drop 32 w.lent)
  pub c_data_found : (c : FaceDataRead) → let r = c_data_read c in r.frame ≡ data_typed → (r.answer ≡ 0) × (data_left_lem c ≡ data_numbers ++ (length data_body ∷ []))
  pub c_xfer_laid : (c : FaceXferWrite) → let w = c_xfer_write c in xfer_given c ≡ xfer_numbers 1 0 → 36 ≤ length w.lent → (w.answer ≡ 0) × (w.left ≡ xfer_typed 2 ++ drop 36 w.lent)
  pub c_xfer_retry_laid : (c : FaceXferWrite) → let w = c_xfer_write c in xfer_given c ≡ xfer_numbers 0 1 → 36 ≤ length w.lent → (w.answer ≡ 0) × (w.left ≡ xfer_typed 4 ++ drop 36 w.lent)
  pub c_xfer_found : (c : FaceXferRead) → let r = c_xfer_read c in r.frame ≡ xfer_typed 2 → (r.answer ≡ 0) × (xfer_left_lem c ≡ xfer_numbers 1 0)
  pub c_xfer_retry_found : (c : FaceXferRead) → let r = c_xfer_read c in r.frame ≡ xfer_typed 4 → (r.answer ≡ 0) × (xfer_left_lem c ≡ xfer_numbers 0 1)
  pub c_out_laid : (c : FaceOutWrite) → let w = c_out_write c in out_given c ≡ out_numbers → w.given.body ≡ out_body → 32 ≤ length w.lent → (w.answer ≡ 0) × (w.left ≡ out_typed ++ drop 32 w.lent)
  pub c_out_found : (c : FaceOutRead) → let r = c_out_read c in r.frame ≡ out_typed → (r.answer ≡ 0) × (out_left_lem c ≡ out_numbers ++ (length out_body ∷ []))
  pub c_sense_laid : (c : FaceResponseWrite) → let w = c_response_write c in response_given c ≡ sense_numbers → w.given.body ≡ sense_body → 56 ≤ length w.lent → (w.answer ≡ 0) × (w.left ≡ sense_typed ++ drop 56 w.lent)
  pub c_sense_found : (c : FaceResponseRead) → let r = c_response_read c in r.frame ≡ sense_typed → (r.answer ≡ 0) × (response_left_lem c ≡ sense_numbers ++ (length sense_body ∷ []))
  pub c_response_laid : (c : FaceResponseWrite) → let w = c_response_write c in response_given c ≡ response_numbers → w.given.body ≡ response_body → 52 ≤ length w.lent → (w.answer ≡ 0) × (w.left ≡ response_typed ++ drop 52 w.lent)
  pub c_response_found : (c : FaceResponseRead) → let r = c_response_read c in r.frame ≡ response_typed → (r.answer ≡ 0) × (response_left_lem c ≡ response_numbers ++ (length response_body ∷ []))
  -- and each number that a writer was given is the one that the reader leaves at its place
  pub c_open_back : (c : FaceOpenWrite) (d : FaceOpenRead) → let w = c_open_write c in let r = c_open_read d in Wide (1 ∷ 1 ∷ 1 ∷ 1 ∷ 2 ∷ 8 ∷ 8 ∷ 1 ∷ 2 ∷ []) (open_given c) → w.answer ≡ 0 → r.frame ≡ w.left → (r.answer ≡ 0) × (open_left d ≡ open_given c)
  pub c_data_back : (c : FaceDataWrite) (d : FaceDataRead) → let w = c_data_write c in let r = c_data_read d in let n = length w.given.body in Wide (4 ∷ 4 ∷ 1 ∷ 2 ∷ 4 ∷ []) (data_given c) → w.answer ≡ 0 → r.frame ≡ take (24 + (n + 3) / 4 * 4) w.left → (r.answer ≡ 0) × (data_left_lem d ≡ data_given c ++ (n ∷ []))
  pub c_xfer_back : (c : FaceXferWrite) (d : FaceXferRead) → let w = c_xfer_write c in let r = c_xfer_read d in Wide (4 ∷ 4 ∷ 1 ∷ 1 ∷ 2 ∷ 2 ∷ 4 ∷ 4 ∷ []) (xfer_given c) → w.answer ≡ 0 → r.frame ≡ take 36 w.left → (r.answer ≡ 0) × (xfer_left_lem d ≡ xfer_given c)
  pub c_out_back : (c : FaceOutWrite) (d : FaceOutRead) → let w = c_out_write c in let r = c_out_read d in let n = length w.given.body in Wide (4 ∷ 4 ∷ 1 ∷ 2 ∷ 2 ∷ 4 ∷ []) (out_given c) → w.answer ≡ 0 → r.frame ≡ take (24 + (n + 3) / 4 * 4) w.left
      → (r.answer ≡ 0) × (out_left_lem d ≡ out_given c ++ (n ∷ []))
  pub c_response_back : (c : FaceResponseWrite) (d : FaceResponseRead) → let w = c_response_write c in let r = c_response_read d in let n = length w.given.body in Wide (4 ∷ 4 ∷ 1 ∷ 2 ∷ 1 ∷ 1 ∷ []) (response_given c) → w.answer ≡ 0 → r.frame ≡ take (48 + (n + 3) / 4 * 4) w.left
      → (r.answer ≡ 0) × (response_left_lem d ≡ response_given c ++ (n ∷ []))

-- ---- C's calls, for the numbers that they were given

-- what the promises say of any numbers, they say of these
open_wrote_these : (ns out left : List ℕ) (r : ℕ) → OpenWrites (record { given = open_of ns; lent = out; answer = r; left = left }) → ns ≡ open_numbers → length out ≡ 28 → (r ≡ 0) × (left ≡ open_typed)
open_wrote_these ns out left r p e long =
    let these = subst (λ (ms : List ℕ). OpenWrites (record { given = open_of ms; lent = out; answer = r; left = left })) e p in
    let d = written (open_bytes (open_of open_numbers)) out these (eq-eqb (length out) 28 long) refl in
    (d.0, d.1 ∙ laid.open_laid)

data_wrote_these : (ns body out left : List ℕ) (r : ℕ) → DataWrites (record { given = record { head = head_of_lem ns; body = body }; lent = out; answer = r; left = left }) → ns ≡ data_numbers → body ≡ data_body → 32 ≤ length out → (r ≡ 0) × (left ≡ data_typed ++ drop 32 out)
data_wrote_these ns body out left r p e eb long =
    let these = subst (λ (g : DataGiven). DataWrites (record { given = g; lent = out; answer = r; left = left })) (λ i. record { head = head_of_lem (e i); body = eb i }) p in
    let d = written (data_left (head_of_lem data_numbers) data_body out) out these (le-leb 32 (length out) long) refl in
    (d.0, d.1 ∙ ap (λ (l : List ℕ). l ++ drop 32 out) laid.data_laid)

-- what an XFER_RDY is written as: the numbers, its byte 10, and why the tests pass
xfer_wrote_these : (ns ms : List ℕ) (byte10 : ℕ) (out left : List ℕ) (r : ℕ) → xfer_listed (xfer_of ms) ≡ true → xfer_bytes (xfer_of ms) ≡ xfer_typed byte10
    → XferWrites (record { given = xfer_of ns; lent = out; answer = r; left = left }) → ns ≡ ms → 36 ≤ length out → (r ≡ 0) × (left ≡ xfer_typed byte10 ++ drop 36 out)
xfer_wrote_these ns ms byte10 out left r listed bytes p e long =
    let these = subst (λ (ks : List ℕ). XferWrites (record { given = xfer_of ks; lent = out; answer = r; left = left })) e p in
    let d = written (xfer_left (xfer_of ms) out) out these (le-leb 36 (length out) long) listed in
    (d.0, d.1 ∙ ap (λ (l : List ℕ). l ++ drop 36 out) bytes)

out_wrote_these : (ns body out left : List ℕ) (r : ℕ) → OutWrites (record { given = record { head = out_head_of ns; body = body }; lent = out; answer = r; left = left }) → ns ≡ out_numbers → body ≡ out_body → 32 ≤ length out → (r ≡ 0) × (left ≡ out_typed ++ drop 32 out)
out_wrote_these ns body out left r p e eb long =
    let these = subst (λ (g : Given OutHead). OutWrites (record { given = g; lent = out; answer = r; left = left })) (λ i. record { head = out_head_of (e i); body = eb i }) p in
    let d = written (out_left (out_head_of out_numbers) out_body out) out these (le-leb 32 (length out) long) refl in
    (d.0, d.1 ∙ ap (λ (l : List ℕ). l ++ drop 32 out) laid.out_laid)

-- a RESPONSE of these numbers and data, of m bytes
response_wrote_these : (ns ms body payload typed out left : List ℕ) (m r : ℕ) → response_listed (response_head_of ms) ≡ true → response_sized (response_head_of ms).present (length payload) (length out) ≡ true
    → response_left (response_head_of ms) payload out ≡ typed ++ drop m out
    → ResponseWrites (record { given = record { head = response_head_of ns; body = body }; lent = out; answer = r; left = left }) → ns ≡ ms → body ≡ payload → (r ≡ 0) × (left ≡ typed ++ drop m out)
response_wrote_these ns ms body payload typed out left m r listed sized bytes p e eb =
    let these = subst (λ (g : Given ResponseHead). ResponseWrites (record { given = g; lent = out; answer = r; left = left })) (λ i. record { head = response_head_of (e i); body = eb i }) p in
    let d = written (response_left (response_head_of ms) payload out) out these sized listed in
    (d.0, d.1 ∙ bytes)

pub frames : Frames
frames = record {
  open_laid = refl;
  data_laid = refl;
  xfer_laid = (refl, refl);
  out_laid = refl;
  response_laid = (refl, refl);
  open_written_read = λ c d e typed same. let w = open_write c in d.met ∙ ap read_open same ∙ open_wrote w.given w.lent c.met e typed;
  open_read_written = λ d c small e long. let w = open_write c in read_back w.given w.lent c.met (open_read d).frame small (sym d.met ∙ e) long;
  data_written_read = λ c d e typed same.
      let g = (data_write c).given in
      let t = data_wrote g.head g.body (data_write c).lent c.met e typed in
      (d.met ∙ ap read_data same ∙ t.0, ap (λ (l : List ℕ). take (length g.body) (drop 24 l)) same ∙ t.1);
  data_read_written = λ d c f small e eh eb el. let w = data_write c in data_back_again w.given.head w.given.body w.lent c.met (data_read d).frame f small (sym d.met ∙ e) eh eb el;
  xfer_written_read = λ c d e typed same. let w = xfer_write c in d.met ∙ ap read_xfer_rdy same ∙ xfer_wrote w.given w.lent c.met e typed;
  xfer_read_written = λ d c small e long. let w = xfer_write c in xfer_back_again w.given w.lent c.met (xfer_read d).frame small (sym d.met ∙ e) long;
  out_written_read = λ c d e typed same.
      let g = (out_write c).given in
      let t = out_wrote g.head g.body (out_write c).lent c.met e typed in
      (d.met ∙ ap read_data_out same ∙ t.0, ap (λ (l : List ℕ). take (length g.body) (drop 24 l)) same ∙ t.1);
  out_read_written = λ d c f small e eh eb el. let w = out_write c in out_back_again w.given.head w.given.body w.lent c.met (out_read d).frame f small (sym d.met ∙ e) eh eb el;
  response_written_read = λ c d e typed same.
      let g = (response_write c).given in
      let t = response_wrote g.head g.body (response_write c).lent c.met e typed in
      (d.met ∙ ap read_response same ∙ t.0, ap (λ (l : List ℕ). take (length g.body) (drop 48 l)) same ∙ t.1);
  response_read_written = λ d c f small e eh eb el. let w = response_write c in response_back_again w.given.head w.given.body w.lent c.met (response_read d).frame f small (sym d.met ∙ e) eh eb el;
  c_open_laid = λ c e long. let w = c_open_write c in open_wrote_these (open_given c) w.lent w.left w.answer c.met e long;
  c_open_found = λ c e. let t = open_finds (c_open_read c) c.met (ap read_open e ∙ open_found) in (t.0, ap nine t.1);
  c_data_laid = λ c e eb long. let w = c_data_write c in data_wrote_these (data_given c) w.given.body w.lent w.left w.answer c.met e eb long;
  c_data_found = λ c e. let t = data_finds (c_data_read c) c.met (ap read_data e ∙ data_found) in (t.0, ap six t.1);
  c_xfer_laid = λ c e long. let w = c_xfer_write c in xfer_wrote_these (xfer_given c) (xfer_numbers 1 0) 2 w.lent w.left w.answer refl (laid.xfer_laid).0 c.met e long;
  c_xfer_retry_laid = λ c e long. let w = c_xfer_write c in xfer_wrote_these (xfer_given c) (xfer_numbers 0 1) 4 w.lent w.left w.answer refl (laid.xfer_laid).1 c.met e long;
  c_xfer_found = λ c e. let t = xfer_finds (c_xfer_read c) c.met (ap read_xfer_rdy e ∙ (laid.xfer_found).0) in (t.0, ap eight t.1);
  c_xfer_retry_found = λ c e. let t = xfer_finds (c_xfer_read c) c.met (ap read_xfer_rdy e ∙ (laid.xfer_found).1) in (t.0, ap eight t.1);
  c_out_laid = λ c e eb long. let w = c_out_write c in out_wrote_these (out_given c) w.given.body w.lent w.left w.answer c.met e eb long;
  c_out_found = λ c e. let t = out_finds (c_out_read c) c.met (ap read_data_out e ∙ laid.out_found) in (t.0, ap out_seven t.1);
  c_sense_laid = λ c e eb long.
      let w = c_response_write c in
      let bytes = ap (λ (l : List ℕ). l ++ drop 56 w.lent) (laid.response_laid).0 in
      response_wrote_these (response_given c) sense_numbers w.given.body sense_body sense_typed w.lent w.left 56 w.answer refl (le-leb 56 (length w.lent) long) bytes c.met e eb;
  c_sense_found = λ c e. let t = response_finds (c_response_read c) c.met (ap read_response e ∙ (laid.response_found).0) in (t.0, ap response_seven t.1);
  c_response_laid = λ c e eb long.
      let w = c_response_write c in
      let bytes = ap (λ (l : List ℕ). l ++ drop 52 w.lent) (laid.response_laid).1 in
      response_wrote_these (response_given c) response_numbers w.given.body response_body response_typed w.lent w.left 52 w.answer refl (le-leb 52 (length w.lent) long) bytes c.met e eb;
  c_response_found = λ c e. let t = response_finds (c_response_read c) c.met (ap read_response e ∙ (laid.response_found).1) in (t.0, ap response_seven t.1);
  c_open_back = λ c d wide e same.
      let w = c_open_write c in
      let f = w.given in
      let long = (behind3 wide).1 in
      let widths : Widths f = record { tag = long.0; destination = long.1.0; source = long.1.1.0; pbc = (behind3 long).0; awt = (behind3 long).1.0 } in
      let t = open_finds (c_open_read d) d.met (ap read_open same ∙ open_wrote f w.lent (writes c.met) (done_writing c.met e) widths) in
      (t.0, ap nine t.1);
  c_data_back = λ c d wide e same.
      let w = c_data_write c in
      let n = length w.given.body in
      let end : 24 + (n + 3) / 4 * 4 ≡ frame_end n = omega arith in
      let long = behind3 wide in
      let t = data_wrote w.given.head w.given.body w.lent (writes c.met) (done_writing c.met e) (record { tag = long.0; offset = long.1.0 }) in
      let u = data_finds (c_data_read d) d.met (ap read_data (same ∙ ap (λ (k : ℕ). take k w.left) end) ∙ t.0) in
      (u.0, ap six u.1);
  c_xfer_back = λ c d wide e same.
      let w = c_xfer_write c in
      let long = (behind3 wide).1 in
      let typed : xfer.Typed w.given = record { tag = long.0; transfer = long.1.0; offset = long.1.1.0; length = long.1.1.1.0 } in
      let t = xfer_finds (c_xfer_read d) d.met (ap read_xfer_rdy same ∙ xfer_wrote w.given w.lent (writes c.met) (done_writing c.met e) typed) in
      (t.0, ap eight t.1);
  c_out_back = λ c d wide e same.
      let w = c_out_write c in
      let n = length w.given.body in
      let end : 24 + (n + 3) / 4 * 4 ≡ frame_end n = omega arith in
      let long = behind3 wide in
      let t = out_wrote w.given.head w.given.body w.lent (writes c.met) (done_writing c.met e) (record { tag = long.0; transfer = long.1.0; offset = long.1.1.0 }) in
      let u = out_finds (c_out_read d) d.met (ap read_data_out (same ∙ ap (λ (k : ℕ). take k w.left) end) ∙ t.0) in
      (u.0, ap out_seven u.1);
  c_response_back = λ c d wide e same.
      let w = c_response_write c in
      let n = length w.given.body in
      let end : 48 + (n + 3) / 4 * 4 ≡ response_end n = omega arith in
      let long = behind3 wide in
      let t = response_wrote w.given.head w.given.body w.lent (writes c.met) (done_writing c.met e) (record { tag = long.0; status = long.1.1.0 }) in
      let u = response_finds (c_response_read d) d.met (ap read_response (same ∙ ap (λ (k : ℕ). take k w.left) end) ∙ t.0) in
      (u.0, ap response_seven u.1);
}
