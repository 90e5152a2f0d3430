-- Each field of a write's frames at its own place: only these facts notice two fields or bits that reader, writer and definition
-- exchange alike. Assumes nothing.
use Rattle.std.specs.Prelude.{Ok as Out, Ok as Response, Ok as Xfer}
use mathlib.Core.Path.{◌≡◌, refl}
use Prim.Native.Nat.{ℕ}
use Rattle.ssp_frame.specs.Xfer.{xfer_bytes, read_xfer_rdy}
use Rattle.ssp_frame.specs.Out.{out_bytes, read_data_out}
use Rattle.ssp_frame.specs.Response.{response_bytes, read_response}
use Rattle.ssp_frame.specs.Typed.{xfer_typed, out_body, out_typed, sense_body, sense_typed, response_body, response_typed}
use Rattle.ssp_frame.specs.declared.xfer_rdy.XferHead.{XferHead}
use Rattle.ssp_frame.specs.declared.data_out.OutHead.{OutHead}
use Rattle.ssp_frame.specs.declared.response.ResponseHead.{ResponseHead}

-- the heads that the typed frames have
abbrev pub xfer_with : ℕ → ℕ → XferHead
xfer_with retransmit retry = record {
  destination = 66051;
  source = 263430;
  retransmit = retransmit;
  retry = retry;
  tag = 1800;
  transfer = 2314;
  offset = 185339150;
  length = 252711186;
}

abbrev pub out_head : OutHead
out_head = record { destination = 66051; source = 263430; changing = 1; tag = 1800; transfer = 2314; offset = 185339150 }

abbrev pub response_with : ℕ → ℕ → ℕ → ResponseHead
response_with retransmit present status = record { destination = 66051; source = 263430; retransmit = retransmit; tag = 1800; present = present; status = status }

-- byte 10: bit 1 retransmit, bit 2 retry data frames
pub xfer_laid : (xfer_bytes (xfer_with 1 0) ≡ xfer_typed 2) × (xfer_bytes (xfer_with 0 1) ≡ xfer_typed 4)
xfer_laid = (refl, refl)

pub xfer_found : (read_xfer_rdy (xfer_typed 2) ≡ Xfer (xfer_with 1 0)) × (read_xfer_rdy (xfer_typed 4) ≡ Xfer (xfer_with 0 1))
unfolding read_xfer_rdy
xfer_found = (refl, refl)

pub out_laid : out_bytes out_head out_body ≡ out_typed
out_laid = refl

pub out_found : read_data_out out_typed ≡ Out (record { head = out_head; length = 5 })
unfolding read_data_out
out_found = refl

-- sense data, and response data
pub response_laid : (response_bytes (response_with 1 2 9) sense_body ≡ sense_typed) × (response_bytes (response_with 0 1 0) response_body ≡ response_typed)
response_laid = (refl, refl)

pub response_found : (read_response sense_typed ≡ Response (record { head = response_with 1 2 9; length = 5 })) × (read_response response_typed ≡ Response (record { head = response_with 0 1 0; length = 4 }))
unfolding read_response
response_found = (refl, refl)
