-- Document 01's causes of refusal as propositions, in its words, byte by byte: what has to hold for a call not to be refused.
-- Assumes nothing.
use Rattle.std.specs.Prelude.{ℕ, ◌+◌, ◌-◌, ◌*◌, ◌/◌, ◌%◌, ◌^◌, ◌≤◌, ◌<◌, List, [], ◌∷◌, ◌≡◌, length, get_or, ◌↔◌}
use Rattle.refusals.specs.Causes.{buffer_grounds, First, None}
use Rattle.refusals.specs.declared.Refusal.{Refusal}
use Rattle.open_frame.specs.declared.Head.{Head}
use Rattle.open_frame.specs.declared.OpenFrame.{OpenFrame}
use Rattle.ssp_frame.specs.declared.data.DataHead.{DataHead}
use Rattle.ssp_frame.specs.declared.xfer_rdy.XferHead.{XferHead}
use Rattle.ssp_frame.specs.declared.data_out.OutHead.{OutHead}
use Rattle.ssp_frame.specs.declared.response.ResponseHead.{ResponseHead}
use Rattle.wire.specs.Be.{be_at}
use Rattle.sonerwal.specs.Face.{Read, Write, Given, DataGiven}

-- a slice of bytes
abbrev pub Bytes : List ℕ → Type 0
Bytes s = (i : ℕ) → get_or s i 0 < 256

-- numbers of so many bytes each
abbrev pub Wide : List ℕ → List ℕ → Type 0
Wide [] [] = Unit {0}
Wide [] (x ∷ xs) = ⊥
Wide (n ∷ ns) [] = ⊥
Wide (n ∷ ns) (x ∷ xs) = (x < 256 ^ n) × Wide ns xs

-- 01 OPEN.6: Any other length is refusal 1, any other type, protocol or rate 2.
pub record OpenBytes (s : List ℕ) : Type 0 where
  pub kind : get_or s 0 0 % 16 ≡ 1
  pub protocol : get_or s 0 0 / 16 % 8 ≤ 2
  pub least : 8 ≤ get_or s 1 0 % 16
  pub most : get_or s 1 0 % 16 ≤ 10

pub record OpenFields (h : Head) : Type 0 where
  pub initiator : h.initiator ≤ 1
  pub protocol : h.protocol ≤ 2
  pub features : h.features ≤ 15
  pub least : 8 ≤ h.rate
  pub most : h.rate ≤ 10

-- 01 DATA.3: Data of the wrong length, or an output shorter than the frame: refusal 1; bytes past the frame stay.
-- n bytes of data, and m of output; a frame is a multiple of four bytes long
pub record DataLengths (n m : ℕ) : Type 0 where
  pub least : 1 ≤ n
  pub most : n ≤ 1024
  pub room : 24 + (n + 3) / 4 * 4 ≤ m

pub record DataFields (h : DataHead) : Type 0 where
  pub destination : h.destination ≤ 16777215
  pub source : h.source ≤ 16777215
  pub changing : h.changing ≤ 1

-- 01 DATA.4: The reader takes 28 to 1,048 bytes, a multiple of four, else 1; any header byte off this layout or fill not zero is 2.
pub record DataLength (n : ℕ) : Type 0 where
  pub least : 28 ≤ n
  pub most : n ≤ 1048
  pub four : n % 4 ≡ 0

pub record DataBytes (s : List ℕ) : Type 0 where
  pub kind : get_or s 0 0 ≡ 1
  pub byte4 : get_or s 4 0 ≡ 0
  pub bytes8_9 : (i : ℕ) → i < 2 → get_or s (8 + i) 0 ≡ 0
  pub byte10 : get_or s 10 0 ≤ 1
  pub byte11 : get_or s 11 0 ≤ 3
  pub bytes12_15 : (i : ℕ) → i < 4 → get_or s (12 + i) 0 ≡ 0
  pub byte18 : get_or s 18 0 ≡ 255
  pub byte19 : get_or s 19 0 ≡ 255
  pub fill : (i : ℕ) → i < get_or s 11 0 → get_or s (length s - get_or s 11 0 + i) 0 ≡ 0

-- XFER_RDY: another type, a bit of byte 10 not named, a byte that is to be zero and isn't, or a write data length of 0 is 2
pub record XferBytes (s : List ℕ) : Type 0 where
  pub kind : get_or s 0 0 ≡ 5
  pub byte4 : get_or s 4 0 ≡ 0
  pub bytes8_9 : (i : ℕ) → i < 2 → get_or s (8 + i) 0 ≡ 0
  pub bit0 : get_or s 10 0 % 2 ≡ 0
  pub byte10 : get_or s 10 0 ≤ 7
  pub byte11 : get_or s 11 0 ≡ 0
  pub bytes12_15 : (i : ℕ) → i < 4 → get_or s (12 + i) 0 ≡ 0
  pub bytes20_23 : (i : ℕ) → i < 4 → get_or s (20 + i) 0 ≡ 0
  pub length : 1 ≤ get_or s 28 0 + get_or s 29 0 + get_or s 30 0 + get_or s 31 0
  pub bytes32_35 : (i : ℕ) → i < 4 → get_or s (32 + i) 0 ≡ 0

pub record XferFields (h : XferHead) : Type 0 where
  pub destination : h.destination ≤ 16777215
  pub source : h.source ≤ 16777215
  pub retransmit : h.retransmit ≤ 1
  pub retry : h.retry ≤ 1
  pub length : 1 ≤ h.length

-- data out: as DATA of a read, but under any transfer tag
pub record OutBytes (s : List ℕ) : Type 0 where
  pub kind : get_or s 0 0 ≡ 1
  pub byte4 : get_or s 4 0 ≡ 0
  pub bytes8_9 : (i : ℕ) → i < 2 → get_or s (8 + i) 0 ≡ 0
  pub byte10 : get_or s 10 0 ≤ 1
  pub byte11 : get_or s 11 0 ≤ 3
  pub bytes12_15 : (i : ℕ) → i < 4 → get_or s (12 + i) 0 ≡ 0
  pub fill : (i : ℕ) → i < get_or s 11 0 → get_or s (length s - get_or s 11 0 + i) 0 ≡ 0

pub record OutFields (h : OutHead) : Type 0 where
  pub destination : h.destination ≤ 16777215
  pub source : h.source ≤ 16777215
  pub changing : h.changing ≤ 1

-- RESPONSE: n bytes of data of their kind's length, and m of output
pub record ResponseLengths (present n m : ℕ) : Type 0 where
  pub most : n ≤ 1000
  pub none : present ≡ 0 → n ≡ 0
  pub response : present ≡ 1 → n ≡ 4
  pub sense : present ≡ 2 → 1 ≤ n
  pub room : 48 + (n + 3) / 4 * 4 ≤ m

pub record ResponseFields (h : ResponseHead) : Type 0 where
  pub destination : h.destination ≤ 16777215
  pub source : h.source ≤ 16777215
  pub retransmit : h.retransmit ≤ 1
  pub present : h.present ≤ 2
  pub status : h.present ≡ 1 → h.status ≡ 0

-- 48 to 1,048 bytes, a multiple of four, else 1
pub record ResponseLength (n : ℕ) : Type 0 where
  pub least : 48 ≤ n
  pub most : n ≤ 1048
  pub four : n % 4 ≡ 0

-- data present 0: no data, and both lengths are 0; 1 response data: 4 bytes, and status 0; 2 sense data: 1 byte or more
pub record Kinds (present status sense response n : ℕ) : Type 0 where
  pub listed : present ≤ 2
  pub none : present ≡ 0 → (n ≡ 0) × ((sense ≡ 0) × (response ≡ 0))
  pub one : present ≡ 1 → (n ≡ 4) × ((sense ≡ 0) × ((response ≡ n) × (status ≡ 0)))
  pub two : present ≡ 2 → (1 ≤ n) × ((sense ≡ n) × (response ≡ 0))

pub record ResponseBytes (s : List ℕ) : Type 0 where
  pub kind : get_or s 0 0 ≡ 7
  pub byte4 : get_or s 4 0 ≡ 0
  pub bytes8_9 : (i : ℕ) → i < 2 → get_or s (8 + i) 0 ≡ 0
  pub bit0 : get_or s 10 0 % 2 ≡ 0
  pub byte10 : get_or s 10 0 ≤ 3
  pub byte11 : get_or s 11 0 ≤ 3
  pub bytes12_15 : (i : ℕ) → i < 4 → get_or s (12 + i) 0 ≡ 0
  pub byte18 : get_or s 18 0 ≡ 255
  pub byte19 : get_or s 19 0 ≡ 255
  pub bytes20_23 : (i : ℕ) → i < 4 → get_or s (20 + i) 0 ≡ 0
  pub bytes24_31 : (i : ℕ) → i < 8 → get_or s (24 + i) 0 ≡ 0
  pub bytes32_33 : (i : ℕ) → i < 2 → get_or s (32 + i) 0 ≡ 0
  pub bytes36_39 : (i : ℕ) → i < 4 → get_or s (36 + i) 0 ≡ 0
  pub room : 48 + get_or s 11 0 ≤ length s
  pub fill : (i : ℕ) → i < get_or s 11 0 → get_or s (length s - get_or s 11 0 + i) 0 ≡ 0
  pub lengths : Kinds (get_or s 34 0) (get_or s 35 0) (be_at s 40 4) (be_at s 44 4) (length s - 48 - get_or s 11 0)

-- 01 READ.2
-- n bytes of data for a frame of `count` bytes, and m of output
pub record NextLengths (count n m : ℕ) : Type 0 where
  pub body : n ≡ count
  pub room : 24 + (n + 3) / 4 * 4 ≤ m

-- what is claimed of a call with the answer x, and with what it was lent before and after
pub record Answers {A L : Type 0} (refused : Refusal → A) (done x : A) (right listed : Type 0) (before after : L) : Type 1 where
  -- refusal k exactly if k is the first cause that holds
  pub exactly : (k : Refusal) → (x ≡ refused k) ↔ First (buffer_grounds right listed) k
  -- and the other answer exactly if none does
  pub otherwise : (x ≡ done) ↔ None (buffer_grounds right listed)
  -- a refusal leaves everything as it was
  pub keeps : (k : Refusal) → x ≡ refused k → after ≡ before

-- and so of each kind of call that reads or writes a frame, from Rattle or from C
abbrev pub ReadsOpen : {A F : Type 0} → (Refusal → A) → A → Read A F → Type 1
ReadsOpen refused done c = Bytes c.frame → Answers refused done c.answer (length c.frame ≡ 28) (OpenBytes c.frame) c.lent c.left

abbrev pub WritesOpen : {A : Type 0} → (Refusal → A) → A → Write A OpenFrame → Type 1
WritesOpen refused done c = Answers refused done c.answer (length c.lent ≡ 28) (OpenFields c.given.head) c.lent c.left

abbrev pub ReadsData : {A F : Type 0} → (Refusal → A) → A → Read A F → Type 1
ReadsData refused done c = Bytes c.frame → Answers refused done c.answer (DataLength (length c.frame)) (DataBytes c.frame) c.lent c.left

abbrev pub WritesData : {A : Type 0} → (Refusal → A) → A → Write A DataGiven → Type 1
WritesData refused done c = Answers refused done c.answer (DataLengths (length c.given.body) (length c.lent)) (DataFields c.given.head) c.lent c.left

abbrev pub ReadsXfer : {A F : Type 0} → (Refusal → A) → A → Read A F → Type 1
ReadsXfer refused done c = Bytes c.frame → Answers refused done c.answer (length c.frame ≡ 36) (XferBytes c.frame) c.lent c.left

abbrev pub WritesXfer : {A : Type 0} → (Refusal → A) → A → Write A XferHead → Type 1
WritesXfer refused done c = Answers refused done c.answer (36 ≤ length c.lent) (XferFields c.given) c.lent c.left

abbrev pub ReadsOut : {A F : Type 0} → (Refusal → A) → A → Read A F → Type 1
ReadsOut refused done c = Bytes c.frame → Answers refused done c.answer (DataLength (length c.frame)) (OutBytes c.frame) c.lent c.left

abbrev pub WritesOut : {A : Type 0} → (Refusal → A) → A → Write A (Given OutHead) → Type 1
WritesOut refused done c = Answers refused done c.answer (DataLengths (length c.given.body) (length c.lent)) (OutFields c.given.head) c.lent c.left

abbrev pub ReadsResponse : {A F : Type 0} → (Refusal → A) → A → Read A F → Type 1
ReadsResponse refused done c = Bytes c.frame → Answers refused done c.answer (ResponseLength (length c.frame)) (ResponseBytes c.frame) c.lent c.left

abbrev pub WritesResponse : {A : Type 0} → (Refusal → A) → A → Write A (Given ResponseHead) → Type 1
WritesResponse refused done c = Answers refused done c.answer (ResponseLengths c.given.head.present (length c.given.body) (length c.lent)) (ResponseFields c.given.head) c.lent c.left
