-- Document 01's sentence on the link status, a second time: state by state, over what `status` answers. Assumes nothing.
use Rattle.refusals.specs.declared.Refusal.{Refusal}
use Rattle.std.specs.Prelude.{true, [], ◌∷◌, ◌≡◌, Ok, Option, Result, Some}
use Rattle.xl_parts.specs.declared.Phase.TheVariants.{Xl0, Xl1, Xl2, Xl3, Xl4, Xl5, Xl6, Xl7, Xl8, Xl9, Xl10}
use Rattle.xl_parts.specs.declared.Wait.{Wait}
use Rattle.xl_parts.specs.declared.State.{State}
use Rattle.xl_parts.specs.declared.LinkStatus.{LinkStatus}
use Rattle.xl_rows.specs.Sentences.{one_of}

-- in XL3 and XL6, where the latest AIP or ArbStatus was `latest`
pub record Waits (status : Result LinkStatus Refusal) (latest : Option Wait) : Type 0 where
  pub blocked : latest ≡ Some Wait.Partial → status ≡ Ok LinkStatus.BlockedPartial
  pub other : (latest ≡ Some Wait.Partial → ⊥) → status ≡ Ok LinkStatus.Partial

-- 01 XL.39: Link status: Ready XL0; Connected XL7, XL8; Blocked Partial XL3, XL6 if the latest AIP or ArbStatus was waiting on partial; else Partial.
pub record Statuses (status : State → Result LinkStatus Refusal) (s : State) : Type 0 where
  pub ready : s.phase ≡ Xl0 → status s ≡ Ok LinkStatus.Ready
  pub connected : one_of s.phase (Xl7 ∷ Xl8 ∷ []) ≡ true → status s ≡ Ok LinkStatus.Connected
  pub waits : one_of s.phase (Xl3 ∷ Xl6 ∷ []) ≡ true → Waits (status s) s.memory.aip
  pub other : one_of s.phase (Xl1 ∷ Xl2 ∷ Xl4 ∷ Xl5 ∷ Xl9 ∷ Xl10 ∷ []) ≡ true → status s ≡ Ok LinkStatus.Partial
