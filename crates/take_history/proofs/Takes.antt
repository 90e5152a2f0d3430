-- A frame of data that is not refused is read as it stands, and then it is DATA with its numbers: the causes of the call have those of the frame
-- and of DATA among them. Assumes nothing.
use Rattle.std.specs.Prelude.{Err, Ok}
use Prim.Native.Nat.{ℕ, ◌≤◌}
use mathlib.Core.Bool.{true, not}
use mathlib.Core.List.{List}
use mathlib.Core.Path.{◌≡◌, sym, ap, ◌∙◌}
use native.Mathlib.Omega.{arith}
use lib.Dec.{leb, ltb, eqb}
use lib.ListN.{length, drop, get_or, length-drop}
use lib.Seq.{length-take-le}
use borrow.Author.Tests.{leb-true, ltb-true, le-leb, not-false}
use Rattle.laws.proofs.Bools.{and_left, and_right, and_true}
use Rattle.refusals.specs.declared.Refusal.{Refusal}
use Rattle.refusals.proofs.Causes.{NoneGiven, none_append, Verdict, stopped, passes, verdict, unrefused}
use Rattle.wire.specs.Be.{be_at}
use Rattle.ssp_frame.specs.Header.{header_of, is_blank}
use Rattle.ssp_frame.specs.Data.{frame_sized, filled, rest_zero}
use Rattle.ssp_frame.specs.Out.{out_kind, read_causes, out_of, read_data_out}
use Rattle.write.specs.Steps.{refused, got, fits, sized, got_causes, got_step}
use Rattle.write.specs.declared.Write.{Write}
use Rattle.write.specs.declared.Stepped.{Stepped}
use Rattle.take.specs.Take.{ours, own_causes, take_causes, take_step, payload, stored_by, take_store}

-- a frame of data out has 1 to 1,024 bytes of data
pub record Long (frame : List ℕ) : Type 0 where
  pub least : 1 ≤ (out_of frame).length
  pub most : (out_of frame).length ≤ 1024
  pub count : length (payload frame) ≡ (out_of frame).length

long : (frame : List ℕ) → NoneGiven (read_causes frame) → Long frame
long frame off =
    let size = not-false (frame_sized (length frame)) off.0 in
    let low = leb-true 28 (length frame) (and_left (leb 28 (length frame)) _ size) in
    let high = leb-true (length frame) 1048 (and_left (leb (length frame) 1048) _ (and_right (leb 28 (length frame)) _ size)) in
    let blank = and_left (is_blank frame) (filled frame) (and_left (rest_zero frame) (out_kind (header_of frame)) (not-false _ off.1.0)) in
    let bits = and_right (eqb (be_at frame 8 2) 0) _ (and_right (eqb (get_or frame 4 0) 0) _ blank) in
    let few = ltb-true (get_or frame 11 0) 4 (and_left (ltb (get_or frame 11 0) 4) (eqb (be_at frame 12 4) 0) bits) in
    let rest = length-drop 24 frame in
    record { least = omega arith; most = omega arith; count = length-take-le (out_of frame).length (drop 24 frame) (omega arith) }

module _ (k : ℕ) (s : Write) (destination source tag : ℕ) (frame store : List ℕ) where
  -- the call is refused, and nothing moved
  pub record Kept : Type 0 where
    pub why : Refusal
    pub step : take_step k s destination source tag frame store ≡ refused s why
    pub stays : take_store k s destination source tag frame store ≡ store

  -- or it is DATA, and the store is as that says
  pub record Passed : Type 0 where
    pub read : read_data_out frame ≡ Ok (out_of frame)
    pub long : Long frame
    pub off : NoneGiven (got_causes k (out_of frame).head.transfer (out_of frame).head.offset (out_of frame).length s)
    pub does : take_step k s destination source tag frame store ≡ got (out_of frame).head.transfer (out_of frame).head.offset (out_of frame).length s
    pub step : take_step k s destination source tag frame store ≡ got_step k (out_of frame).head.transfer (out_of frame).head.offset (out_of frame).length s
    pub fits : fits (out_of frame).head.transfer (out_of frame).head.offset (out_of frame).length s ≡ true
    pub ours : ours (out_of frame).head destination source tag ≡ true
    pub room : s.count ≤ length store
    pub leaves : take_store k s destination source tag frame store ≡ stored_by s frame store

  pub data Outcome : Type 0 where
    kept : Kept → Outcome
    passed : Passed → Outcome

  -- the call's causes are off, so DATA's are
  data_off : Long frame → NoneGiven (own_causes k s (out_of frame) destination source tag (length store)) → NoneGiven (got_causes k (out_of frame).head.transfer (out_of frame).head.offset (out_of frame).length s)
  data_off l own =
      let size : sized (out_of frame).length ≡ true = and_true (le-leb 1 (out_of frame).length l.least) (le-leb (out_of frame).length 1024 l.most) in
      (ap not size, (own.1.0, (own.1.1.0, (own.1.1.1.1.0, tt))))

  pub outcome : Outcome
  unfolding take_step take_store got_step read_data_out
  outcome = by (verdict (take_causes k s destination source tag frame store))
    where
      by : Verdict (take_causes k s destination source tag frame store) → Outcome
      by (stopped r v) = kept (record { why = r; step = v Stepped (refused s) _; stays = v (List ℕ) (λ _. store) _ })
      by (passes off v) =
          let both = none_append (read_causes frame) (own_causes k s (out_of frame) destination source tag (length store)) off in
          let l = long frame both.0 in
          passed
          (record {
            read = sym (unrefused Err (Ok (out_of frame)) (read_causes frame) both.0);
            long = l;
            off = data_off l both.1;
            does = v Stepped (refused s) _;
            step = v Stepped (refused s) _ ∙ unrefused (refused s) _ (got_causes k (out_of frame).head.transfer (out_of frame).head.offset (out_of frame).length s) (data_off l both.1);
            fits = not-false _ both.1.1.1.1.1.0;
            ours = not-false _ both.1.1.1.1.0;
            room = leb-true s.count (length store) (not-false _ both.1.1.1.1.1.1.0);
            leaves = v (List ℕ) (λ _. store) _;
          })
