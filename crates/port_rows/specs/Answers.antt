-- Document 01, 'Port': what a call leaves and answers. Assumes nothing.
use Rattle.std.specs.Prelude.{ℕ, Bool, false, not, ◌&&◌, eqb, set, replicate, Err, Result, cond, Option, Some, None}
use Rattle.refusals.specs.declared.Refusal.{Refusal}
use Rattle.open_frame.specs.declared.Head.{Head}
use Rattle.open_frame.specs.declared.OpenFrame.{OpenFrame}
use Rattle.port_parts.specs.Parts.{no_slot, no_phy, no_stamp, disabled_phy, absent_phy, no_head, blank, is_ssp}
use Rattle.port_parts.specs.PhyStage as phy-stage
use Rattle.port_parts.specs.declared.Phy.{Phy}
use Rattle.port_parts.specs.declared.Port.{Port}
use Rattle.port_parts.specs.declared.Request.{Request}
use Rattle.port_parts.specs.declared.Stamp.{Stamp}
use Rattle.port_rows.specs.declared.Word.{Word}
use Rattle.port_rows.specs.declared.Answer.{Answer}
use Rattle.port_rows.specs.declared.Loss.{Loss}
use Rattle.port_rows.specs.declared.Done.{Done}

-- ---- what an answer names

abbrev pub no_frame : OpenFrame
no_frame = record { head = no_head; pbc = record { 0 = 0 }; awt = record { 0 = 0 } }

-- a request is named by what submit took of it
abbrev pub naming : Request → OpenFrame
naming r = record { head = r.head; pbc = record { 0 = 0 }; awt = record { 0 = 0 } }

-- no request and no phy
abbrev pub nameless : Result Word Refusal → Answer
nameless w = record { word = w; slot = no_slot; phy = no_phy; frame = no_frame }

-- what is said: a word on request r at slot s, and on phy k
abbrev pub said : Result Word Refusal → ℕ → ℕ → Request → Answer
said w s k r = record { word = w; slot = s; phy = k; frame = naming r }

-- ---- the port after a call

-- 01 PORT.3: Each later call gives its time in microseconds.
abbrev pub later : Port → ℕ → Port
later p now = record { count = p.count; loss = p.loss; last = now; phys = p.phys }

abbrev pub with_phy : Port → ℕ → Phy → ℕ → Port
with_phy p k f now = record { count = p.count; loss = p.loss; last = now; phys = set p.phys k f }

-- 01 PORT.2: The requests lie in a list of 32 records that the caller lends, free at setup, when the last time is 0.
abbrev pub fresh : ℕ → ℕ → Port
fresh count loss = record { count = count; loss = loss; last = 0; phys = replicate 8 disabled_phy }

-- what a refused setup gives in place of a port
abbrev pub no_port : Port
no_port = record { count = 0; loss = 0; last = 0; phys = replicate 8 absent_phy }

-- ---- phys

-- unconnected, free for an open
abbrev pub unconnected_phy : Phy
unconnected_phy = record { stage = phy-stage.unconnected; slot = no_slot; protocol = 0; destination = 0 }

abbrev pub opening_phy : ℕ → Phy
opening_phy s = record { stage = phy-stage.opening; slot = s; protocol = 0; destination = 0 }

-- connected to the destination and protocol of h
abbrev pub joined_phy : ℕ → ℕ → Head → Phy
joined_phy n s h = record { stage = n; slot = s; protocol = h.protocol; destination = h.destination }

-- in another stage, connected as before
abbrev pub staged_phy : ℕ → ℕ → Phy → Phy
staged_phy n s f = record { stage = n; slot = s; protocol = f.protocol; destination = f.destination }

-- ---- loss timers

abbrev pub no_loss : Option Loss
no_loss = None

-- the timer of r's destination is t from now on; every SSP request to the destination gets it
abbrev pub loss_by : Request → Stamp → Option Loss
loss_by r t = cond (is_ssp r.head && not (eqb r.loss.set t.set)) (Some (record { destination = r.head.destination; timer = t })) None

-- ---- what a call leaves

-- what is stored: the record `entry`, at the slot that the answer names, none at no slot; and a loss timer in every record of its destination
abbrev pub stored : Port → Answer → Request → Option Loss → Done
stored p a entry loss = record { port = p; answer = a; entry = entry; loss = loss; cleared = false }

-- 01 PORT.26
-- the request that the answer names leaves: its record is set free, and its loss timer with it
abbrev pub ended : Port → Answer → Done
ended p a = stored p a blank no_loss

-- an answer that names nothing; no record is stored, or all are cleared
abbrev pub unnamed : Port → Result Word Refusal → Bool → Done
unnamed p w cleared = record { port = p; answer = nameless w; entry = blank; loss = no_loss; cleared = cleared }

-- a refusal gives only its number, and leaves all as it was
abbrev pub refused_by : Port → Refusal → Done
refused_by p k = unnamed p (Err k) false
