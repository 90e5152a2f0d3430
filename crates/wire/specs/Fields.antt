-- A layout: numbers that follow each other without a gap, each in its own count of bytes. Assumes nothing.
use Rattle.std.specs.Prelude.{ℕ, ◌+◌, List, [], ◌∷◌, ◌++◌}
use Rattle.wire.specs.Be.{be_bytes}

pub record Field : Type 0 where
  pub width : ℕ
  pub value : ℕ

infix 10 ◌bytes◌
abbrev pub ◌bytes◌ : ℕ → ℕ → Field
n bytes v = record { width = n; value = v }

abbrev pub lay_bytes : List Field → List ℕ
lay_bytes [] = []
lay_bytes (f ∷ fs) = be_bytes f.width f.value ++ lay_bytes fs

abbrev pub size : List Field → ℕ
size [] = 0
size (f ∷ fs) = f.width + size fs
