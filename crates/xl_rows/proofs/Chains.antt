-- The table does what the chains of document 01's events say: each event is looked up in the state that the one before it left, by
-- computation. Assumes nothing.
use Rattle.std.specs.Prelude.{None, Some}
use Prim.Native.Nat.{ℕ}
use mathlib.Core.Bool.{false}
use mathlib.Core.List.{[], ◌∷◌}
use mathlib.Core.Path.{refl}
use Rattle.open_frame.specs.declared.OpenFrame.{OpenFrame}
use Rattle.xl_parts.specs.declared.Wait.{Wait}
use Rattle.xl_parts.specs.declared.Message.{Message}
use Rattle.xl_parts.specs.declared.Action.TheVariants.{Send}
use Rattle.xl_parts.specs.declared.Memory.{Memory}
use Rattle.xl_rows.specs.Table.{takes}
use Rattle.xl_rows.specs.Sentences.{known}
use Rattle.xl_rows.specs.Chains.{Chains}
use Rattle.xl_rows.proofs.Sentences.{backs, crosses}

pub chains : (f g : OpenFrame) (m : Memory) (n : ℕ) → Chains takes f g m n
chains f g m n = let sent = crosses f g (Send (Message.ArbStatus Wait.Device) ∷ []) (known (Some f) None None false m.close m.blocked) n in record {
  -- 01 XL.15 01 XL.16
  blocked_timer = refl;
  partial_timer = refl;
  connection_timer = refl;
  blocked_partial_timer = refl;
  partial_blocked_timer = refl;
  -- 01 XL.8 01 XL.13 01 XL.16
  lost_open_timer = refl;
  -- 01 XL.12 01 XL.16 01 XL.19 01 XL.23
  won_retry_timer = refl;
  -- 01 XL.12 01 XL.19
  won_forwarded = refl;
  -- 01 XL.18 01 XL.19
  break_forwarded_lem = refl;
  -- 01 XL.26 01 XL.27
  break_sent_lem = refl;
  break_open_sent = refl;
  -- 01 XL.27
  break_as_in_6 = λ q. rw q;
  open_as_in_6 = λ q h. rw (q, h);
  -- 01 XL.9 01 XL.26 01 XL.27 01 XL.31 01 XL.32
  open_sent = sent;
  opens_sent = λ h. sent;
  -- 01 XL.24 01 XL.26 01 XL.27 01 XL.31 01 XL.32
  reverse_open_sent = sent;
  -- 01 XL.9 01 XL.27 01 XL.31 01 XL.32
  sent_open = crosses f g [] (known (Some f) None None false m.close m.blocked) n;
  -- 01 XL.30 01 XL.31 01 XL.32
  aip_open = λ w. backs f g [] m n (Some w);
  -- 01 XL.33 01 XL.34
  close_send_close = λ q. rw q;
  -- 01 XL.34 01 XL.35
  send_close_close = λ q. rw q;
}
