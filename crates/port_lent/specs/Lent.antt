-- The numbers of a port as C lends them, the port that they say, and a port as numbers. Assumes nothing.
use Rattle.std.specs.Prelude.{ℕ, Bool, cond, ◌&&◌, List, map, eqb, get_or, replicate}
use Rattle.laws.specs.Folds.{all_below}
use Rattle.port_parts.specs.declared.Phy.{Phy}
use Rattle.port_parts.specs.declared.Port.{Port}
use Rattle.port_lent.specs.declared.Phy.{Phy as LentPhy}
use Rattle.port_lent.specs.declared.Port.{Port as LentPort}

-- ---- what C lends

-- every zero member is 0
abbrev pub phy_formed : LentPhy → Bool
phy_formed f = eqb f.zero4 0 && eqb f.zero1 0

-- all zeros
abbrev pub no_phy : LentPhy
no_phy = record { destination = 0; zero4 = 0; stage = 0; slot = 0; protocol = 0; zero1 = 0 }

unfoldable pub phys_formed : List LentPhy → Bool
phys_formed ps = all_below (λ k. phy_formed (get_or ps k no_phy)) 8

abbrev pub formed : LentPort → Bool
formed p = eqb p.zero4 0 && (eqb p.zero1 0 && phys_formed p.phys)

-- a port before its setup: all zeros
abbrev pub no_port : LentPort
no_port = record { last = 0; phys = replicate 8 no_phy; zero4 = 0; loss = 0; count = 0; zero1 = 0 }

-- ---- what it says

abbrev pub phy_of : LentPhy → Phy
phy_of f = record { stage = f.stage; slot = f.slot; protocol = f.protocol; destination = f.destination }

abbrev pub phys_of : List LentPhy → List Phy
phys_of ps = map phy_of ps

-- numbers that aren't well formed say a port without phys, which breaks its rules
abbrev pub count_of : LentPort → ℕ
count_of p = cond (formed p) p.count 0

abbrev pub port_of : LentPort → Port
port_of p = record { count = count_of p; loss = p.loss; last = p.last; phys = phys_of p.phys }

-- ---- what C sees

abbrev pub phy_shown : Phy → LentPhy
phy_shown f = record { destination = f.destination; zero4 = 0; stage = f.stage; slot = f.slot; protocol = f.protocol; zero1 = 0 }

abbrev pub phys_shown : List Phy → List LentPhy
phys_shown ps = map phy_shown ps

abbrev pub port_shown : Port → LentPort
port_shown p = record { last = p.last; phys = phys_shown p.phys; zero4 = 0; loss = p.loss; count = p.count; zero1 = 0 }
