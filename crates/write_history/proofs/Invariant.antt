-- A write against its history, as an invariant: the latest XFER_RDY has the fate that the phase says and asks for the present range, and the
-- tags in use are those that the history leaves in use. Assumes nothing.
use Prim.Native.Nat.{ℕ, ◌+◌, ◌*◌, ◌^◌, ◌≤◌, ◌<◌}
use mathlib.Core.List.{List, [], ◌∷◌}
use mathlib.Core.Logic.{◌↔◌}
use mathlib.Core.Path.{◌≡◌}
use lib.ListN.{length}
use Rattle.laws.specs.Tags.{digit}
use Rattle.write.specs.Rules.{end_of, until}
use Rattle.write.specs.declared.Write.{Write}
use Rattle.write.specs.declared.Phase.{Phase}
use Rattle.write_history.specs.History.{Xfer, View, none, due, good, failed, full, end_of_xfer, Among}
use Rattle.write_history.specs.Log.{request_of}
use Rattle.write_history.specs.Demand.{last_end, EndToEnd, ranges}
use Rattle.write_history.proofs.Ranges.{Lies}

-- the latest XFER_RDY asks for the present range, q ranges behind B, under the state's tag
pub record Latest (s : Write) (v : View) (q : ℕ) : Type 0 where
  pub one : Xfer
  pub earlier : List Xfer
  pub is : v.asks ≡ one ∷ earlier
  pub from : one.offset ≡ s.offset + q * s.burst
  pub to : end_of_xfer one ≡ until s
  pub under : one.transfer ≡ s.tag

-- what holds of an unfinished write with the next byte behind q ranges
pub record Open (k : ℕ) (s : Write) (v : View) (q : ℕ) : Type 0 where
  pub wide : 4 ≤ s.burst
  pub short : s.next < end_of s
  pub tag : s.tag < k
  pub lies : Lies s s.next q
  pub small : s.tags < 2 ^ k
  pub busy : (t : ℕ) → (digit s.tags t ≡ 1) ↔ Among t v.busy
  pub failures : s.used ≡ v.failures

-- before an XFER_RDY: none went, or the latest failed, or its range is full
pub data Before (s : Write) (v : View) (q : ℕ) : Type 0 where
  first : v.fate ≡ none → v.asks ≡ [] → s.tags ≡ 0 → Before s v q
  again : v.fate ≡ failed → Latest s v q → digit s.tags s.tag ≡ 1 → Before s v q
  on : (x : Xfer) (xs : List Xfer) → v.fate ≡ full → v.asks ≡ x ∷ xs → x.transfer ≡ s.tag → s.tags ≡ 0 → s.offset < s.next → Before s v q

pub record Asking (k : ℕ) (s : Write) (v : View) : Type 0 where
  pub q : ℕ
  pub is : Open k s v q
  pub at : s.next ≡ s.offset + q * s.burst
  pub count : length v.asks ≡ q + s.used
  pub before : Before s v q

pub record Waiting (k : ℕ) (s : Write) (v : View) : Type 0 where
  pub q : ℕ
  pub is : Open k s v q
  pub at : s.next ≡ s.offset + q * s.burst
  pub count : length v.asks ≡ q + s.used + 1
  pub due : v.fate ≡ due
  pub latest : Latest s v q
  pub own : digit s.tags s.tag ≡ 1

pub record Taking (k : ℕ) (s : Write) (v : View) : Type 0 where
  pub q : ℕ
  pub is : Open k s v q
  pub count : length v.asks ≡ q + s.used + 1
  pub good : v.fate ≡ good
  pub latest : Latest s v q
  pub own : digit s.tags s.tag ≡ 1

abbrev pub Live : ℕ → Phase → Write → View → Type 0
Live k Phase.New s v = s.tags ≡ 0
Live k Phase.Ask s v = Asking k s v
Live k Phase.Wait s v = Waiting k s v
Live k Phase.Take s v = Taking k s v
Live k Phase.Done s v = s.tags ≡ 0
Live k Phase.Fail s v = s.tags ≡ 0
Live k Phase.End s v = s.tags ≡ 0

pub record Inv (k : ℕ) (s : Write) (v : View) : Type 0 where
  pub request : v.request ≡ request_of s
  pub order : EndToEnd s.offset v.taken
  pub next : s.next ≡ last_end s.offset v.taken
  pub used : s.used ≤ s.resends
  pub few : length v.asks ≤ ranges s.count s.burst + s.resends
  pub live : Live k s.phase s v
