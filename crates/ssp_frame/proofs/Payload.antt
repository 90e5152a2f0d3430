-- A payload is the data with zeros behind it; lent the part of the output behind what was written before, the payload writer
-- completes the frame, since that stays. Assumes nothing.
use Rattle.refusals.specs.declared.Refusal.{Refusal}
use Rattle.std.specs.Prelude.{Err, Ok, Result}
use mathlib.Core.Path.{◌≡◌, refl, ◌∙◌, ap, sym}
use mathlib.Core.Bool.{Bool}
use mathlib.Core.List.{List, [], ◌∷◌, ◌++◌, append_assoc, append-nil}
use Prim.Native.Nat.{ℕ, zero, suc, ◌+◌, ◌-◌, ◌<◌}
use native.Mathlib.Nat.{add_assoc}
use native.Mathlib.Omega.{arith}
use lib.ListN.{length, take, drop, replicate}
use lib.Seq.{take-length, take-append_seam, length-take-le, drop-append-add, drop-append-le, drop-drop, take_at, drop_at}
use borrow.Rule.Slice.PartMut.{put_mid}
use Rattle.laws.proofs.Lists.{lent_tail, back_tail}
use Rattle.wire.specs.Be.{be_bytes, put_be}
use Rattle.wire.proofs.Laws.{fit, put_in}
use Rattle.refusals.specs.Causes.{refuse, buffer_causes, Wrote}
use Rattle.ssp_frame.specs.Data.{fill_of, padded, PayloadFits, data_sized, frame_left}
use Rattle.ssp_frame.specs.declared.header.Header.{Header}

-- what was copied to the front is found there
pub held : (body rest block : List ℕ) → block ≡ take (length body) body ++ rest → take (length body) block ≡ body
held body rest block e = ap (take (length body)) (e ∙ ap (λ (z : List ℕ). z ++ rest) (take-length body)) ∙ take-append_seam body rest

-- the last f bytes of a word of zeros
last : (f : ℕ) → f < 4 → drop (4 - f) (be_bytes 4 0) ≡ replicate f 0
last zero h = refl
last (suc zero) h = refl
last (suc (suc zero)) h = refl
last (suc (suc (suc zero))) h = refl
last (suc (suc (suc (suc f)))) h = absurd (omega arith)

-- behind n bytes, a word of zeros that ends at n + fill leaves the fill
pub behind : (n fill : ℕ) (out : List ℕ) → PayloadFits n fill (length out) → drop n (put_be out (n + fill - 4) 4 0) ≡ replicate fill 0 ++ drop (n + fill) out
behind n fill out ok =
    let k = n + fill - 4 in
    let front = take k out in
    let rest = drop (k + 4) out in
    let end : k + 4 ≡ n + fill = omega (arith, ok.word) in
    let long : length front ≡ k = length-take-le k out (omega (arith, ok.room)) in
    let from : n ≡ length front + (4 - fill) = omega (arith, ok.few, ok.word) in
    ap (drop n) (sym (put_in out k 4 0 (fit out k 4 (omega arith) (omega (arith, ok.room)))))
    ∙ ap (λ (m : ℕ). drop m (front ++ (be_bytes 4 0 ++ rest))) from
    ∙ drop-append-add front (be_bytes 4 0 ++ rest) (4 - fill)
    ∙ drop-append-le (4 - fill) (be_bytes 4 0) rest (omega arith)
    ∙ (λ i. last fill ok.few i ++ drop (end i) out)

-- what `put_payload` leaves, where src is the data and zeros stand behind its place
pub payload : (body out l src after : List ℕ) (fill : ℕ) → src ≡ body → drop (length body) l ≡ replicate fill 0 ++ drop (length body + fill) out → after ≡ take (length src) src ++ drop (length src) l → after ≡ body ++ (replicate fill 0 ++ drop (length body + fill) out)
payload body out l src after fill is zeros e =
    e ∙ (λ i. take (length (is i)) (is i) ++ drop (length (is i)) l) ∙ (λ i. take-length body i ++ zeros i)

-- what stands behind a front of k bytes, where the rest stayed
behind_front : (k : ℕ) (front out l : List ℕ) → length front ≡ k → l ≡ front ++ drop k out → drop k l ≡ drop k out
behind_front k front out l long el = ap (drop k) el ∙ drop_at front (drop k out) k long

-- a front of k bytes, and then the payload behind it, are the frame
pub framed : (k : ℕ) (front body out l ys : List ℕ) (fill : ℕ) → length front ≡ k → l ≡ front ++ drop k out
    → ys ≡ body ++ (replicate fill 0 ++ drop (length body + fill) (take (length l - k) (drop k l)))
    → put_mid k (length l - k) l ys ≡ (front ++ (body ++ replicate fill 0)) ++ drop (k + length body + fill) out
framed k front body out l ys fill long el ey =
    let n = length body in
    let rest : drop (n + fill) (take (length l - k) (drop k l)) ≡ drop (k + n + fill) out =
    ap (drop (n + fill)) (lent_tail k l ∙ behind_front k front out l long el) ∙ drop-drop (n + fill) k out ∙ ap (λ (m : ℕ). drop m out) (sym (add_assoc k n fill)) in
    back_tail k l ys
    ∙ (λ i. (ap (take k) el ∙ take_at front (drop k out) k long) i ++ (ey ∙ ap (λ (z : List ℕ). body ++ (replicate fill 0 ++ z)) rest) i)
    ∙ simp append_assoc

-- a front of k bytes, and then a row of n bytes behind it
pub rowed : (k n : ℕ) (front row out l after : List ℕ) → length front ≡ k → l ≡ front ++ drop k out → after ≡ take k l ++ (row ++ drop (k + n) l) → after ≡ (front ++ row) ++ drop (k + n) out
rowed k n front row out l after long el ea =
    let rest : drop (k + n) l ≡ drop (k + n) out = sym (drop-drop n k l) ∙ ap (drop n) (behind_front k front out l long el) ∙ drop-drop n k out in
    ea
    ∙ (λ i. (ap (take k) el ∙ take_at front (drop k out) k long) i ++ (row ++ rest i))
    ∙ sym (append_assoc front row (drop (k + n) out))

-- where there is no data, the front is the frame
pub unfilled : (k : ℕ) (front body out : List ℕ) → length body ≡ 0 → front ++ drop k out ≡ (front ++ padded body) ++ drop (k + length body + fill_of (length body)) out
unfilled k front [] out e =
    let same : k + 0 + 0 ≡ k = omega arith in
    λ i. sym (append-nil front) i ++ drop (sym same i) out
unfilled k front (x ∷ body) out e = absurd (omega arith)

-- what a writer of a header and a body promises, of the header and the test that its caller computed
module _ (body out : List ℕ) where
  pub wrote_as : {h g : Header} {t u : Bool} {after : List ℕ} {r : Result (Unit {0}) Refusal} → h ≡ g → t ≡ u
      → Wrote (buffer_causes (data_sized (length body) (length out)) t) (frame_left h body out) out r after
      → Wrote (buffer_causes (data_sized (length body) (length out)) u) (frame_left g body out) out r after
  wrote_as e d w = record {
    answer = w.answer ∙ (λ i. refuse Err (buffer_causes (data_sized (length body) (length out)) (d i)) (Ok tt));
    bytes = w.bytes ∙ (λ i. refuse (λ _. out) (buffer_causes (data_sized (length body) (length out)) (d i)) (frame_left (e i) body out));
  }
