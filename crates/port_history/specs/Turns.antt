-- Document 01, 'Port': what one call does to the records: a request comes, a request leaves, or none does either. Assumes nothing.
use Rattle.std.specs.Prelude.{ℕ, ◌<◌, ◌≡◌, true, false, List, ◌⊎◌, length, get_or, Ok}
use Rattle.open_frame.specs.declared.Head.{Head}
use Rattle.port_parts.specs.Parts.{ssp, no_slot, blank}
use Rattle.port_parts.specs.declared.Request.{Request}
use Rattle.port_rules.specs.Kept.{Free}
use Rattle.port_rows.specs.declared.Answer.{Answer}
use Rattle.port_rows.specs.declared.Key.{Key}
use Rattle.port_rows.specs.declared.Submission.{Submission}
use Rattle.port_rows.specs.declared.Word.TheVariants.{Submitted}
use Rattle.port.specs.Grounds.{HasKey, Absent}
use Rattle.port.specs.History.{State, is_last}
use Rattle.port_invariant.specs.Sound.{Sound}
use Rattle.port_history.specs.Standing.{Standing, gone, there, wrong, is_submitted}

abbrev pub keyed : Head → Key
keyed h = record { destination = h.destination; protocol = h.protocol; tag = h.tag }

-- a record that neither comes nor leaves: free it stays as it was, present it stays present with its head and submission time
pub record Stays (a b : Request) : Type 0 where
  pub free : Free a → b ≡ a
  pub present : (Free a → ⊥) → (Free b → ⊥) × (b.head ≡ a.head)
  pub time : (Free a → ⊥) → b.submitted ≡ a.submitted

-- what the submit x was given stands in its answer a, and in the record r that comes by it
pub record Given (x : Submission) (a : Answer) (r : Request) : Type 0 where
  pub word : a.word ≡ Ok Submitted
  pub named : a.frame.head ≡ x.head
  pub head : r.head ≡ x.head
  pub time : r.submitted ≡ x.now

-- the list was l and is m, and the answer is a
module _ (l m : List Request) (a : Answer) where
  abbrev pub OthersStay : Type 0
  OthersStay = (i : ℕ) → i < 32 → (i ≡ a.slot → ⊥) → Stays (get_or l i blank) (get_or m i blank)

  -- 01 PORT.11
  pub record Comes : Type 0 where
    pub word : is_submitted a.word ≡ true
    pub slot : a.slot < no_slot
    pub free : Free (get_or l a.slot blank)
    pub lowest : (i : ℕ) → i < a.slot → Free (get_or l i blank) → ⊥
    pub absent : Absent l (keyed a.frame.head)
    pub present : Free (get_or m a.slot blank) → ⊥
    pub head : (get_or m a.slot blank).head ≡ a.frame.head
    pub others : OthersStay

  pub record Leaves : Type 0 where
    pub word : is_last a.word ≡ true
    pub slot : a.slot < no_slot
    pub present : Free (get_or l a.slot blank) → ⊥
    pub head : (get_or l a.slot blank).head ≡ a.frame.head
    pub zeros : get_or m a.slot blank ≡ blank
    pub others : OthersStay

  -- an answer that names a request names one that is there
  pub record Rests : Type 0 where
    pub submitted : is_submitted a.word ≡ false
    pub last : is_last a.word ≡ false
    pub named : a.slot < no_slot → (Free (get_or l a.slot blank) → ⊥) × ((get_or l a.slot blank).head ≡ a.frame.head)
    pub all : (i : ℕ) → i < 32 → Stays (get_or l i blank) (get_or m i blank)

  abbrev pub Turns : Type 0
  Turns = Comes ⊎ (Leaves ⊎ Rests)

-- the list holds what the history says of x
abbrev pub Holds : Key → Standing → List Request → Type 0
Holds x gone l = Absent l x
Holds x (there slot head) l = (slot < no_slot) × (HasKey (get_or l slot blank) x × ((get_or l slot blank).head ≡ head))
Holds x wrong l = ⊥

-- a lent state that a call may take: 32 records, eight phys, and the rules
pub record Lawful (s : State) : Type 0 where
  pub list : length s.list ≡ 32
  pub sound : Sound s

-- 01 PORT.11
-- every free record is all zeros
abbrev pub Zeros : List Request → Type 0
Zeros l = (i : ℕ) → i < 32 → Free (get_or l i blank) → get_or l i blank ≡ blank

-- 01 PORT.10
-- an SSP request to the destination
abbrev pub Ssp : ℕ → Request → Type 0
Ssp destination r = (Free r → ⊥) × ((r.head.protocol ≡ ssp) × (r.head.destination ≡ destination))
