-- What C sees of the port's calls: the machine's own call on the port that the numbers say. Assumes nothing.
use Rattle.std.specs.Prelude.{cond, List, ◌≡◌, Result}
use Rattle.refusals.specs.Refusals.{number_of}
use Rattle.refusals.specs.declared.Refusal.{Refusal}
use Rattle.open_lent.specs.Lent as frames
use Rattle.port_parts.specs.Parts.{no_slot, no_phy}
use Rattle.port_parts.specs.declared.Port.{Port}
use Rattle.port_parts.specs.declared.Request.{Request}
use Rattle.port_rows.specs.declared.Done.{Done}
use Rattle.port_rows.specs.declared.Word.{Word}
use Rattle.port.specs.Calls.{on32, answered, left_of, short}
use Rattle.port.specs.History.{is_refused}
use Rattle.port.specs.declared.Stepped.{Stepped}
use Rattle.port_lent.specs.declared.Port.{Port as LentPort}
use Rattle.port_lent.specs.declared.PortStep.{PortStep}
use Rattle.port_lent.specs.Numbers.{word_number, detail_of}
use Rattle.port_lent.specs.Lent.{port_of, port_shown, no_port}

-- 01 REFUSAL.12
-- a refusal leaves the lent port, to the last member
abbrev pub port_after : LentPort → Result Word Refusal → Port → LentPort
port_after p w q = cond (is_refused w) p (port_shown q)

-- a call on the port p
abbrev pub shown : LentPort → Stepped → PortStep
shown p s = record {
  port = port_after p s.answer.word s.port;
  frame = frames.shown s.answer.frame;
  answer = word_number s.answer.word;
  detail = detail_of s.answer.word;
  slot = s.answer.slot;
  phy = s.answer.phy;
}

-- 01 REFUSAL.12
-- a refusal gives only its number: it names no request and no phy, and its frame is zeros
abbrev pub refused : LentPort → Refusal → PortStep
refused p k = record { port = p; frame = frames.clear; answer = number_of k; detail = 0; slot = no_slot; phy = no_phy }

-- a setup is lent no port, and one that is refused gives none
abbrev pub set_up : Stepped → PortStep
set_up s = shown no_port s

-- what a call that leaves d promises of what C sees of it, r, and of the list; none is its answer to a list of another length
abbrev pub Seen : (Stepped → PortStep) → List Request → Done → Stepped → PortStep → List Request → Type 0
Seen see l d none r after = (r ≡ see (on32 l (answered d) none)) × (after ≡ on32 l (left_of l d) l)

-- so it is of every call but setup, of the port that the lent numbers say
abbrev pub Told : LentPort → (List Request → Port → Done) → List Request → PortStep → List Request → Type 0
Told p call l r after = Seen (shown p) l (call l (port_of p)) (short (port_of p)) r after
