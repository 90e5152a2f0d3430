-- What the functions ask of their arguments holds of all of them: refusals, numbers in bytes, frames and the calls from C. Assumes nothing.
use Rattle.refusals.proofs.U8FromRefusal.from.Kinds as number_of_lem
use Rattle.refusals.proofs.U8FromRefusal.from.Reads as number
use Rattle.refusals.proofs.answer.Kinds as answer-of
use Rattle.refusals.proofs.answer.Reads as answer
use Rattle.wire.proofs.get_be.Kinds as get-be-of
use Rattle.wire.proofs.get_be.Reads as get_be
use Rattle.wire.proofs.put_be.Kinds as put-be-of
use Rattle.wire.proofs.put_be.Reads as put_be
use Rattle.open_frame.proofs.head_listed.Kinds as head-listed-of
use Rattle.open_frame.proofs.head_listed.Reads as head_listed
use Rattle.open_frame.proofs.read_open.Kinds as read-open-of
use Rattle.open_frame.proofs.read_open.Reads as read_open_lem
use Rattle.open_frame.proofs.write_open.Kinds as write-open-of
use Rattle.open_frame.proofs.write_open.Reads as write_open
use Rattle.open_frame.proofs.wait_value.Kinds as wait-value-of
use Rattle.open_frame.proofs.wait_value.Reads as wait_value
use Rattle.open_frame.proofs.higher_than.Kinds as higher-than-of
use Rattle.open_frame.proofs.higher_than.Reads as higher_than
use Rattle.ssp_frame.proofs.data.data_listed.Kinds as data-listed-of
use Rattle.ssp_frame.proofs.data.data_listed.Reads as data_listed
use Rattle.ssp_frame.proofs.data.read_data.Kinds as read-data-of
use Rattle.ssp_frame.proofs.data.read_data.Reads as read_data_lem
use Rattle.ssp_frame.proofs.data.write_data.Kinds as write-data-of
use Rattle.ssp_frame.proofs.data.write_data.Reads as write_data
use Rattle.ssp_frame.proofs.xfer_rdy.xfer_listed.Kinds as xfer-listed-of
use Rattle.ssp_frame.proofs.xfer_rdy.xfer_listed.Reads as xfer_listed
use Rattle.ssp_frame.proofs.xfer_rdy.read_xfer_rdy.Kinds as read-xfer-rdy-of
use Rattle.ssp_frame.proofs.xfer_rdy.read_xfer_rdy.Reads as read_xfer_rdy_lem
use Rattle.ssp_frame.proofs.xfer_rdy.write_xfer_rdy.Kinds as write-xfer-rdy-of
use Rattle.ssp_frame.proofs.xfer_rdy.write_xfer_rdy.Reads as write_xfer_rdy
use Rattle.ssp_frame.proofs.data_out.out_listed.Kinds as out-listed-of
use Rattle.ssp_frame.proofs.data_out.out_listed.Reads as out_listed
use Rattle.ssp_frame.proofs.data_out.read_data_out.Kinds as read-data-out-of
use Rattle.ssp_frame.proofs.data_out.read_data_out.Reads as read_data_out_lem
use Rattle.ssp_frame.proofs.data_out.write_data_out.Kinds as write-data-out-of
use Rattle.ssp_frame.proofs.data_out.write_data_out.Reads as write_data_out
use Rattle.ssp_frame.proofs.response.response_sized.Kinds as response-sized-of
use Rattle.ssp_frame.proofs.response.response_sized.Reads as response_sized
use Rattle.ssp_frame.proofs.response.response_listed.Kinds as response-listed-of
use Rattle.ssp_frame.proofs.response.response_listed.Reads as response_listed
use Rattle.ssp_frame.proofs.response.read_response.Kinds as read-response-of
use Rattle.ssp_frame.proofs.response.read_response.Reads as read_response_lem
use Rattle.ssp_frame.proofs.response.write_response.Kinds as write-response-of
use Rattle.ssp_frame.proofs.response.write_response.Reads as write_response
use Rattle.sonerwal.proofs.frames.sonerwal_open_read.Kinds as sonerwal-open-read-of
use Rattle.sonerwal.proofs.frames.sonerwal_open_read.Reads as sonerwal_open_read
use Rattle.sonerwal.proofs.frames.sonerwal_open_write.Kinds as sonerwal-open-write-of
use Rattle.sonerwal.proofs.frames.sonerwal_open_write.Reads as sonerwal_open_write
use Rattle.sonerwal.proofs.frames.sonerwal_data_read.Kinds as sonerwal-data-read-of
use Rattle.sonerwal.proofs.frames.sonerwal_data_read.Reads as sonerwal_data_read
use Rattle.sonerwal.proofs.frames.sonerwal_data_write.Kinds as sonerwal-data-write-of
use Rattle.sonerwal.proofs.frames.sonerwal_data_write.Reads as sonerwal_data_write
use Rattle.sonerwal.proofs.frames.sonerwal_xfer_rdy_read.Kinds as sonerwal-xfer-rdy-read-of
use Rattle.sonerwal.proofs.frames.sonerwal_xfer_rdy_read.Reads as sonerwal_xfer_rdy_read
use Rattle.sonerwal.proofs.frames.sonerwal_xfer_rdy_write.Kinds as sonerwal-xfer-rdy-write-of
use Rattle.sonerwal.proofs.frames.sonerwal_xfer_rdy_write.Reads as sonerwal_xfer_rdy_write
use Rattle.sonerwal.proofs.frames.sonerwal_data_out_read.Kinds as sonerwal-data-out-read-of
use Rattle.sonerwal.proofs.frames.sonerwal_data_out_read.Reads as sonerwal_data_out_read
use Rattle.sonerwal.proofs.frames.sonerwal_data_out_write.Kinds as sonerwal-data-out-write-of
use Rattle.sonerwal.proofs.frames.sonerwal_data_out_write.Reads as sonerwal_data_out_write
use Rattle.sonerwal.proofs.frames.sonerwal_response_read.Kinds as sonerwal-response-read-of
use Rattle.sonerwal.proofs.frames.sonerwal_response_read.Reads as sonerwal_response_read
use Rattle.sonerwal.proofs.frames.sonerwal_response_write.Kinds as sonerwal-response-write-of
use Rattle.sonerwal.proofs.frames.sonerwal_response_write.Reads as sonerwal_response_write
use Rattle.sonerwal.proofs.sonerwal_version.Kinds as sonerwal-version-of
use Rattle.sonerwal.proofs.sonerwal_version.Reads as sonerwal_version
use Rattle.sonerwal.proofs.frames.sonerwal_wait_value.Kinds as sonerwal-wait-value-of
use Rattle.sonerwal.proofs.frames.sonerwal_wait_value.Reads as sonerwal_wait_value
use Rattle.sonerwal.proofs.frames.sonerwal_open_higher.Kinds as sonerwal-open-higher-of
use Rattle.sonerwal.proofs.frames.sonerwal_open_higher.Reads as sonerwal_open_higher
use Rattle.claims.proofs.Calls.{Anything}

pub record Frames : Type 2 where
  pub number : Anything 0 number_of_lem.ps number.Pre
  pub answer : Anything 0 answer-of.ps answer.Pre
  pub get_be : Anything 1 get-be-of.ps get_be.Pre
  pub put_be : Anything 1 put-be-of.ps put_be.Pre
  pub head_listed : Anything 0 head-listed-of.ps head_listed.Pre
  pub read_open_lem : Anything 1 read-open-of.ps read_open_lem.Pre
  pub write_open : Anything 1 write-open-of.ps write_open.Pre
  pub wait_value : Anything 0 wait-value-of.ps wait_value.Pre
  pub higher_than : Anything 0 higher-than-of.ps higher_than.Pre
  pub data_listed : Anything 0 data-listed-of.ps data_listed.Pre
  pub read_data_lem : Anything 1 read-data-of.ps read_data_lem.Pre
  pub write_data : Anything 2 write-data-of.ps write_data.Pre
  pub xfer_listed : Anything 0 xfer-listed-of.ps xfer_listed.Pre
  pub read_xfer_rdy_lem : Anything 1 read-xfer-rdy-of.ps read_xfer_rdy_lem.Pre
  pub write_xfer_rdy : Anything 1 write-xfer-rdy-of.ps write_xfer_rdy.Pre
  pub out_listed : Anything 0 out-listed-of.ps out_listed.Pre
  pub read_data_out_lem : Anything 1 read-data-out-of.ps read_data_out_lem.Pre
  pub write_data_out : Anything 2 write-data-out-of.ps write_data_out.Pre
  pub response_sized : Anything 0 response-sized-of.ps response_sized.Pre
  pub response_listed : Anything 0 response-listed-of.ps response_listed.Pre
  pub read_response_lem : Anything 1 read-response-of.ps read_response_lem.Pre
  pub write_response : Anything 2 write-response-of.ps write_response.Pre
  pub sonerwal_open_read : Anything 10 sonerwal-open-read-of.ps sonerwal_open_read.Pre
  pub sonerwal_open_write : Anything 1 sonerwal-open-write-of.ps sonerwal_open_write.Pre
  pub sonerwal_data_read : Anything 7 sonerwal-data-read-of.ps sonerwal_data_read.Pre
  pub sonerwal_data_write : Anything 2 sonerwal-data-write-of.ps sonerwal_data_write.Pre
  pub sonerwal_xfer_rdy_read : Anything 9 sonerwal-xfer-rdy-read-of.ps sonerwal_xfer_rdy_read.Pre
  pub sonerwal_xfer_rdy_write : Anything 1 sonerwal-xfer-rdy-write-of.ps sonerwal_xfer_rdy_write.Pre
  pub sonerwal_data_out_read : Anything 8 sonerwal-data-out-read-of.ps sonerwal_data_out_read.Pre
  pub sonerwal_data_out_write : Anything 2 sonerwal-data-out-write-of.ps sonerwal_data_out_write.Pre
  pub sonerwal_response_read : Anything 8 sonerwal-response-read-of.ps sonerwal_response_read.Pre
  pub sonerwal_response_write : Anything 2 sonerwal-response-write-of.ps sonerwal_response_write.Pre
  pub sonerwal_version : Anything 0 sonerwal-version-of.ps sonerwal_version.Pre
  pub sonerwal_wait_value : Anything 0 sonerwal-wait-value-of.ps sonerwal_wait_value.Pre
  pub sonerwal_open_higher : Anything 0 sonerwal-open-higher-of.ps sonerwal_open_higher.Pre

pub frames : Frames
frames = record {
  number = λ κs a. tt;
  answer = λ κs a. tt;
  get_be = λ κs a. tt;
  put_be = λ κs a. tt;
  head_listed = λ κs a. tt;
  read_open_lem = λ κs a. tt;
  write_open = λ κs a. tt;
  wait_value = λ κs a. tt;
  higher_than = λ κs a. tt;
  data_listed = λ κs a. tt;
  read_data_lem = λ κs a. tt;
  write_data = λ κs a. tt;
  xfer_listed = λ κs a. tt;
  read_xfer_rdy_lem = λ κs a. tt;
  write_xfer_rdy = λ κs a. tt;
  out_listed = λ κs a. tt;
  read_data_out_lem = λ κs a. tt;
  write_data_out = λ κs a. tt;
  response_sized = λ κs a. tt;
  response_listed = λ κs a. tt;
  read_response_lem = λ κs a. tt;
  write_response = λ κs a. tt;
  sonerwal_open_read = λ κs a. tt;
  sonerwal_open_write = λ κs a. tt;
  sonerwal_data_read = λ κs a. tt;
  sonerwal_data_write = λ κs a. tt;
  sonerwal_xfer_rdy_read = λ κs a. tt;
  sonerwal_xfer_rdy_write = λ κs a. tt;
  sonerwal_data_out_read = λ κs a. tt;
  sonerwal_data_out_write = λ κs a. tt;
  sonerwal_response_read = λ κs a. tt;
  sonerwal_response_write = λ κs a. tt;
  sonerwal_version = λ κs a. tt;
  sonerwal_wait_value = λ κs a. tt;
  sonerwal_open_higher = λ κs a. tt;
}
