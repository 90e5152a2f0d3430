-- C's numbers keep their places: those of a typed frame of each kind stand where document 01 lays them, and come back in their order.
-- Assumes nothing.
use Rattle.ssp_frame.specs.declared.response.ResponseHead.{ResponseHead}
use Rattle.ssp_frame.specs.declared.data_out.OutHead.{OutHead}
use Rattle.ssp_frame.specs.declared.data.DataHead.{DataHead}
use Rattle.ssp_frame.specs.declared.Frame.{Frame}
use Rattle.std.specs.Prelude.{Ok as Data, Ok as Open, Ok as Out, Ok as Response, Ok as Xfer}
use mathlib.Core.List.{List, [], ◌∷◌}
use mathlib.Core.Path.{◌≡◌, refl}
use Prim.Native.Nat.{ℕ}
use Rattle.open_frame.specs.Open.{open_bytes, read_open}
use Rattle.open_frame.specs.declared.OpenFrame.{OpenFrame}
use Rattle.ssp_frame.specs.Data.{data_bytes, read_data}
use Rattle.ssp_frame.specs.Xfer.{xfer_bytes, read_xfer_rdy}
use Rattle.ssp_frame.specs.declared.xfer_rdy.XferHead.{XferHead}
use Rattle.ssp_frame.specs.Out.{out_bytes, read_data_out}
use Rattle.ssp_frame.specs.Response.{response_bytes, read_response}
use Rattle.ssp_frame.specs.Typed.{xfer_typed, out_body, out_typed, sense_body, sense_typed, response_body, response_typed}
use Rattle.ssp_frame.proofs.Laid as ssp
use Rattle.sonerwal.specs.Face.{open9, data5, data6, xfer8, out6, out7, response6, response7}
use Rattle.sonerwal.specs.Typed.{open_typed, data_body, data_typed}

-- 01 OPEN.2 01 OPEN.3 01 OPEN.4
pub open_laid : open_bytes (open9 1 2 3 9 258 1161981756646125696 9332165983064197000 19 5141) ≡ open_typed
open_laid = refl

pub open_found : read_open open_typed ≡ Open (open9 1 2 3 9 258 1161981756646125696 9332165983064197000 19 5141)
unfolding read_open
open_found = refl

-- 01 DATA.1 01 DATA.2
pub data_laid : data_bytes (data5 66051 263430 1 1800 151653132) data_body ≡ data_typed
data_laid = refl

pub data_found : read_data data_typed ≡ Data (data6 66051 263430 1 1800 151653132 5)
unfolding read_data
data_found = refl

-- byte 10: bit 1 retransmit, bit 2 retry data frames
pub xfer_laid : (xfer_bytes (xfer8 66051 263430 1 0 1800 2314 185339150 252711186) ≡ xfer_typed 2) × (xfer_bytes (xfer8 66051 263430 0 1 1800 2314 185339150 252711186) ≡ xfer_typed 4)
xfer_laid = (refl, refl)

pub xfer_found : (read_xfer_rdy (xfer_typed 2) ≡ Xfer (xfer8 66051 263430 1 0 1800 2314 185339150 252711186)) × (read_xfer_rdy (xfer_typed 4) ≡ Xfer (xfer8 66051 263430 0 1 1800 2314 185339150 252711186))
xfer_found = ssp.xfer_found

pub out_laid : out_bytes (out6 66051 263430 1 1800 2314 185339150) out_body ≡ out_typed
out_laid = refl

pub out_found : read_data_out out_typed ≡ Out (out7 66051 263430 1 1800 2314 185339150 5)
out_found = ssp.out_found

pub response_laid : (response_bytes (response6 66051 263430 1 1800 2 9) sense_body ≡ sense_typed) × (response_bytes (response6 66051 263430 0 1800 1 0) response_body ≡ response_typed)
response_laid = (refl, refl)

pub response_found : (read_response sense_typed ≡ Response (response7 66051 263430 1 1800 2 9 5)) × (read_response response_typed ≡ Response (response7 66051 263430 0 1800 1 0 4))
response_found = ssp.response_found

-- a frame's numbers in the order of the calls
abbrev pub nine : OpenFrame → List ℕ
nine f = f.head.initiator ∷ f.head.protocol ∷ f.head.features ∷ f.head.rate ∷ f.head.tag ∷ f.head.destination ∷ f.head.source ∷ f.pbc.0 ∷ f.awt.0 ∷ []

abbrev pub six : Frame DataHead → List ℕ
six f = f.head.destination ∷ f.head.source ∷ f.head.changing ∷ f.head.tag ∷ f.head.offset ∷ f.length ∷ []

abbrev pub eight : XferHead → List ℕ
eight h = h.destination ∷ h.source ∷ h.retransmit ∷ h.retry ∷ h.tag ∷ h.transfer ∷ h.offset ∷ h.length ∷ []

abbrev pub out_seven : Frame OutHead → List ℕ
out_seven f = f.head.destination ∷ f.head.source ∷ f.head.changing ∷ f.head.tag ∷ f.head.transfer ∷ f.head.offset ∷ f.length ∷ []

abbrev pub response_seven : Frame ResponseHead → List ℕ
response_seven f = f.head.destination ∷ f.head.source ∷ f.head.retransmit ∷ f.head.tag ∷ f.head.present ∷ f.head.status ∷ f.length ∷ []
