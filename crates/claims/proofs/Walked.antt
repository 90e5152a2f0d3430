-- A function's `spec` is what the checker makes of its source, in the logic's own terms, and its
-- theorem says that the code meets just that: what it asks of a caller and what it promises are read off it. Assumes nothing.
use mathlib.Core.Path.{◌≡◌}
use seplogic.Ra.Ura.{Ura}
use base.Logic.{SProp, emp}
use prog.Memory.{Memory}
use prog.Routine.{Routine}
use types.Logic.{Logic}
use contract.Lifetimes.{Lfts}
use contract.Monad.{Fun, fact}
use denote.Triple.Clauses.{Ended, AtExit}
use denote.Triple.Entry.{Args, Res}
use denote.Triple.Spec.{Spec, SpecAt, exits}
use borrow.Fn.World.{World}

abbrev pub Made : Ended → Type 2
Made T = (M : Type 1) (𝓤 : Ura M) (𝓛 : Logic 𝓤) → (Memory → SProp 𝓤) → (Routine → Fun 𝓤) → Spec 𝓤 T.signature

module _ (T : Ended) (spec : Made T) where
  -- at any model of the logic
  abbrev at : (w : World) (κs : Lfts T.signature.lifetimes) → Args T.signature κs → SpecAt w.𝓤 T.signature κs
  at w κs a = spec w.M w.𝓤 w.𝓛 w.𝓜.mem w.𝓡.run κs a

  -- a caller brings nothing beside the arguments, whatever they are
  abbrev pub AsksNothing : Type 2
  AsksNothing = (w : World) (κs : Lfts T.signature.lifetimes) (a : Args T.signature κs) → (g : (at w κs a).ghost) × ((at w κs a).requires g ≡ emp w.𝓤)

  -- a fact of the arguments, of the answer and of the parameters at the end
  abbrev Fact : Type 1
  Fact = (κs : Lfts T.signature.lifetimes) → Args T.signature κs → Res T.signature κs → AtExit T κs → Type 0

  -- what is promised of the answer and of the parameters at the end is the fact P
  pub record Means (P : Fact) : Type 2 where
    pub is : (w : World) (κs : Lfts T.signature.lifetimes) (a : Args T.signature κs) (g : (at w κs a).ghost) (r : Res T.signature κs) →
        (at w κs a).ensures g r ≡ exits w.𝓛 T.signature T.kept κs a (λ e. fact w.𝓤 (P κs a r e))

  -- and it is the fact of one answer and one `left` alone
  abbrev pub OneEnd : {L : Type 0} → ((κs : Lfts T.signature.lifetimes) → AtExit T κs → L) → Type 2
  OneEnd left =
      (P : Fact)
      × (Means P
      × ((κs : Lfts T.signature.lifetimes) (a : Args T.signature κs) (x y : Res T.signature κs) (s t : AtExit T κs) → P κs a x s → P κs a y t → (x ≡ y) × (left κs s ≡ left κs t)))
