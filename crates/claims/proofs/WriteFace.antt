-- What C sees of each call on a write is the write's own step, of the write that the numbers say; whatever is refused comes back as it was lent.
-- Assumes nothing.
use Prim.Native.Nat.{ℕ, ◌^◌, ◌<◌}
use mathlib.Core.Bool.{true, false}
use mathlib.Core.List.{List}
use mathlib.Core.Logic.{◌⊎◌, ◌↔◌}
use mathlib.Core.Path.{◌≡◌, refl}
use lib.ListN.{length}
use Rattle.refusals.specs.Causes.{First}
use Rattle.refusals.specs.Refusals.{number_of}
use Rattle.refusals.specs.declared.Refusal.{Refusal}
use Rattle.ssp_frame.specs.Out.{out_of}
use Rattle.write.specs.Steps.{limit}
use Rattle.write.specs.Calls as plainly
use Rattle.write.specs.Grounds.{grounds_of}
use Rattle.take.specs.Ask.{ask_bytes}
use Rattle.take.specs.Take.{take_store}
use Rattle.take.specs.Grounds.{ask_grounds, take_grounds}
use Rattle.take_history.specs.Calls as machine
use Rattle.take_history.specs.Calls.{Call, plain, ask, take}
use Rattle.write_lent.specs.Lent.{formed, state_of, seen, is_refusal}
use Rattle.write_lent.specs.Face.{face_of, bytes_of, store_of}
use Rattle.write_lent.specs.Grounds.{OutOfRange, InOrder}
use Rattle.write_lent.specs.History.{Reached}
use Rattle.write_lent.specs.declared.State.{State}
use Rattle.write_lent.proofs.Bytes.{keeps_bytes, keeps_store}
use Rattle.write_lent.proofs.Refused.{refused_stays, unformed_three, refused_seen, ask_seen, take_seen, three_exactly, told_apart}
use Rattle.claims.specs.Causes.{DataLength, OutBytes}
use Rattle.claims.proofs.Grounds.{data_length, out_bytes}
use Rattle.claims.proofs.WriteFaceCalls.{Start, Xfer, Ack, Nak, Timeout, Lost, Got, Nexus, Cancel, Ask, Take}
use Rattle.claims.proofs.WriteFaceCalls.{starting, asking, getting, ask_others, ask_number, ask_out, ask_left, ask_call, take_number, take_frame, take_store_lem, take_left, take_call}

pub record WriteFace : Type 1 where
  -- each function answers what C is said to see of its call
  pub starts : (c : Start) → c.answer ≡ face_of (starting c) c.args.0
  pub xfers : (c : Xfer) → c.answer ≡ face_of (asking c) c.args.0
  pub acks : (c : Ack) → c.answer ≡ face_of (plain plainly.Call.ack) c.args.0
  pub naks : (c : Nak) → c.answer ≡ face_of (plain plainly.Call.nak) c.args.0
  pub timeouts : (c : Timeout) → c.answer ≡ face_of (plain plainly.Call.timeout) c.args.0
  pub losts : (c : Lost) → c.answer ≡ face_of (plain plainly.Call.lost) c.args.0
  pub gots : (c : Got) → c.answer ≡ face_of (getting c) c.args.0
  pub nexuses : (c : Nexus) → c.answer ≡ face_of (plain plainly.Call.nexus) c.args.0
  pub cancels : (c : Cancel) → c.answer ≡ face_of (plain plainly.Call.cancel) c.args.0
  pub asks : (c : Ask) → (c.answer ≡ face_of (ask_call c) c.args.0) × (ask_left c ≡ bytes_of (ask_others c) (ask_number c 0) (ask_number c 1) (ask_number c 2) (ask_out c) c.args.0)
  pub takes : (c : Take) → (c.answer ≡ face_of (take_call c) c.args.0) × (take_left c ≡ store_of (take_number c 0) (take_number c 1) (take_number c 2) (take_frame c) (take_store_lem c) c.args.0)
  -- and that is the write's own step, of the write that the numbers say, told in numbers; a refusal gives back what was lent
  pub own : (c : Call) (s : State) → face_of c s ≡ seen s (machine.step_of limit c (state_of s))
  pub writes : (others destination source tag : ℕ) (out : List ℕ) (s : State) → bytes_of others destination source tag out s ≡ ask_bytes limit others (state_of s) destination source tag out
  pub stores : (destination source tag : ℕ) (frame store : List ℕ) (s : State) → store_of destination source tag frame store s ≡ take_store limit (state_of s) destination source tag frame store
  -- a plain call answers the number of refusal k exactly if k is the first cause that holds, of the write that the numbers say
  pub exactly : (c : plainly.Call) (s : State) → s.tags < 2 ^ limit → plainly.Typed limit c → (k : Refusal) → ((face_of (plain c) s).answer ≡ number_of k) ↔ First (grounds_of limit c (state_of s)) k
  pub asks_exactly : (s : State) (others destination source tag : ℕ) (out : List ℕ) → s.tags < 2 ^ limit → others < 2 ^ limit → (k : Refusal)
      → ((face_of (ask others destination source tag out) s).answer ≡ number_of k) ↔ First (ask_grounds limit others (state_of s) destination source out) k
  pub takes_exactly : (s : State) (destination source tag : ℕ) (frame store : List ℕ) → s.tags < 2 ^ limit → (k : Refusal)
      → ((face_of (take destination source tag frame store) s).answer ≡ number_of k)
      ↔ First (take_grounds (DataLength (length frame)) (OutBytes frame) limit (state_of s) (out_of frame) destination source tag (length store)) k
  -- whatever is refused gives back the state that it was lent, to the last member, and leaves every byte of output and store
  pub keeps : (c : Call) (s : State) → is_refusal (face_of c s).answer ≡ true → (face_of c s).state ≡ s
  pub keeps_bytes : (others destination source tag : ℕ) (out : List ℕ) (s : State) → is_refusal (face_of (ask others destination source tag out) s).answer ≡ true → bytes_of others destination source tag out s ≡ out
  pub keeps_store : (destination source tag : ℕ) (frame store : List ℕ) (s : State) → is_refusal (face_of (take destination source tag frame store) s).answer ≡ true → store_of destination source tag frame store s ≡ store
  -- numbers that name no write are 3, behind what the call is given
  pub unformed : (c : Call) (s : State) → formed s ≡ false → InOrder c → face_of c s ≡ record { state = s; answer = 3 }
  -- 3 is START's own numbers, or numbers that no calls gave back: so what C changed in between is told apart
  pub three : (c : Call) (s : State) → s.tags < 2 ^ limit → ((face_of c s).answer ≡ 3) ↔ (InOrder c × (OutOfRange c ⊎ (Reached s → ⊥)))
  pub apart : (c : Call) (s : State) → s.tags < 2 ^ limit → (is_refusal (face_of c s).answer ≡ true) ⊎ Reached s

pub write_face : WriteFace
write_face = record {
  starts = λ c. c.met;
  xfers = λ c. c.met;
  acks = λ c. c.met;
  naks = λ c. c.met;
  timeouts = λ c. c.met;
  losts = λ c. c.met;
  gots = λ c. c.met;
  nexuses = λ c. c.met;
  cancels = λ c. c.met;
  asks = λ c. (c.met.step, c.met.bytes);
  takes = λ c. (c.met.step, c.met.store);
  own = λ c s. refl;
  writes = λ others destination source tag out s. refl;
  stores = λ destination source tag frame store s. refl;
  exactly = λ c s small typed k. refused_seen s small c typed k;
  asks_exactly = λ s others destination source tag out small typed k. ask_seen s small destination source tag others typed out k;
  takes_exactly = λ s destination source tag frame store small k. take_seen s small destination source tag frame store (data_length (length frame)) (out_bytes frame) k;
  keeps = refused_stays;
  keeps_bytes = λ others destination source tag out s. keeps_bytes s destination source tag others out;
  keeps_store = λ destination source tag frame store s. keeps_store s destination source tag frame store;
  unformed = unformed_three;
  three = λ c s small. three_exactly c s small;
  apart = λ c s small. told_apart c s small;
}
