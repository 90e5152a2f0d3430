-- A request that is present can be ended: a waiting one by Cancel, one in progress by disabling its phy, after which it waits or is
-- gone. The rules say that neither call is refused at the last time. Assumes nothing.
use Rattle.std.specs.Prelude.{Ok}
use Prim.Native.Nat.{ℕ, ◌<◌}
use mathlib.Core.Path.{◌≡◌, refl, sym, ap, subst, ◌∙◌}
use mathlib.Core.Bool.{Bool, true, false, not, cond, ◌||◌}
use mathlib.Core.List.{List}
use mathlib.Core.Logic.{inl}
use native.Mathlib.Omega.{arith}
use lib.Dec.{eqb, ltb}
use lib.ListN.{length, get_or}
use borrow.Author.Tests.{eqb-true, eqb-false, eq-eqb, ne_eqb, lt-ltb, le-ltb, lt-leb}
use Rattle.laws.proofs.Bools.{never, by_test}
use Rattle.laws.proofs.Finds.{Found, none, at}
use Rattle.refusals.proofs.Causes.{unrefused}
use Rattle.open_frame.specs.declared.Head.{Head}
use Rattle.open_frame.proofs.Fields.{listed_is}
use Rattle.port_parts.specs.Parts.{disabled_phy, blank, is_waiting, is_disabled}
use Rattle.port_parts.specs.declared.Phy.{Phy}
use Rattle.port_parts.specs.declared.Port.{Port}
use Rattle.port_parts.specs.declared.Request.{Request}
use Rattle.port_rules.specs.Rules.{rules}
use Rattle.port_rules.specs.Kept.{Free, Present}
use Rattle.port_rules.proofs.Facts.{rules_say}
use Rattle.port_rows.specs.Answers.{later, with_phy, no_loss, refused_by, said, stored, ended}
use Rattle.port_rows.specs.Changed.{placed}
use Rattle.port_rows.specs.Calls.{phy_at, is_cancelled, cancelled, disabled_done, cancel_causes, phy_causes, cancel_core, disable_core}
use Rattle.port_rows.specs.Finds.{has_key, slot_of}
use Rattle.port_rows.specs.declared.Confirmed.{Confirmed}
use Rattle.port_rows.specs.declared.Done.{Done}
use Rattle.port_rows.specs.declared.Withdrawn.{Withdrawn}
use Rattle.port_rows.specs.declared.Word.TheVariants.{Taken, Waiting, CancelAcknowledged}
use Rattle.port.specs.Calls.{left_of, on_phy}
use Rattle.port.specs.History.{State, Call, cancel, disable, done_of, is_refused, is_last, leave, Entry}
use Rattle.port.specs.declared.Stepped.{Stepped}
use Rattle.port.proofs.Found.{key_says, key_found, one_of_key}
use Rattle.port.proofs.Begins.{left_here}
use Rattle.port_invariant.proofs.Holds.{present_at, in_progress, its_phy, its_name, names_none, number_low}
use Rattle.port_invariant.proofs.Leaves.{by_step}
use Rattle.port_history.specs.Turns.{keyed, Lawful}
use Rattle.port_history.specs.Runs.{Run, now}
use Rattle.port_history.specs.Ends.{LastOn, Ends, at_once, second}
use Rattle.port_history.proofs.Steps.{answers, lawful_after}
use Rattle.port_history.proofs.Entries.{keyed_of}
use Rattle.port_history.proofs.Leaving.{tells}

last_on : (s : State) (c : Call) (d : Done) (slot : ℕ) (head : Head) → length s.list ≡ 32 → done_of c s ≡ d → is_last d.answer.word ≡ true → d.answer.slot ≡ slot → d.answer.frame.head ≡ head → LastOn s c slot head
last_on s c d slot head len is word at-s named =
    record {
      word = ap (λ (r : Stepped). is_last r.answer.word) (answers c s len) ∙ ap (λ (k : Done). is_last k.answer.word) is ∙ word;
      slot_is = ap (λ (r : Stepped). r.answer.slot) (answers c s len) ∙ ap (λ (k : Done). k.answer.slot) is ∙ at-s;
      head_is = ap (λ (r : Stepped). r.answer.frame.head) (answers c s len) ∙ ap (λ (k : Done). k.answer.frame.head) is ∙ named;
    }

module _ (s : State) (ok : Lawful s) (slot : ℕ) (below : slot < 32) (there : Free (get_or s.list slot blank) → ⊥) where
  abbrev l : List Request
  l = s.list

  abbrev p : Port
  p = s.port

  abbrev r : Request
  r = get_or l slot blank

  rules_hold : not (rules p l) ≡ false
  rules_hold = ap not ((rules_say p l).1 ok.sound.kept)

  in_time : ltb p.last p.last ≡ false
  in_time = le-ltb p.last p.last (omega arith)

  present : Present r p.last
  present = present_at p l ok.sound.kept slot below there

  -- ---- a waiting one, by Cancel

  abbrev x : Withdrawn
  x = record { key = keyed r.head; now = p.last }

  found : slot_of l x.key ≡ slot
  found = by (key_found l x.key)
    where
      here : has_key r x.key ≡ true
      here = (key_says r x.key).1 (there, keyed_of {g = r.head} {h = r.head} refl)

      by : Found blank (λ q. has_key q x.key) l 32 32 (slot_of l x.key) → slot_of l x.key ≡ slot
      by (none e none_has) = absurd (never (sym (none_has slot below) ∙ here))
      by (at m t low) = one_of_key p l x.key ok.sound.kept (slot_of l x.key) slot m below ((key_says (get_or l (slot_of l x.key) blank) x.key).0 t) (there, keyed_of {g = r.head} {h = r.head} refl)

  abbrev cancel_done : Done
  cancel_done = ended (later p p.last) (said (Ok CancelAcknowledged) slot 8 r)

  cancel_is : r.stage ≡ 1 → done_of (cancel x) s ≡ cancel_done
  unfolding done_of cancel_core cancelled
  cancel_is waits =
      (λ i. cancel_core p (get_or l (found i) blank) (rules p l) (found i) x)
      ∙ sym
      (unrefused (refused_by p) (cancelled p r slot p.last) (cancel_causes p r (rules p l) slot x)
      (ap not (lt-ltb r.head.protocol 3 (listed_is r.head present.fields).protocol), (rules_hold, (in_time, ((λ i. lt-leb 32 slot below i || uncancelled i), tt)))))
      ∙ by_test (λ (d : Done). d ≡ cancel_done) (is_waiting r) (λ _. refl) (λ e. absurd (never (sym e ∙ eq-eqb r.stage 1 waits)))
    where
      uncancelled : is_cancelled r ≡ false
      uncancelled = ne_eqb r.cancelled 1 (λ e. let busy = present.cancelled e in omega (arith, waits, busy))

  waiting_ends : r.stage ≡ 1 → LastOn s (cancel x) slot r.head
  waiting_ends waits = last_on s (cancel x) cancel_done slot r.head ok.list (cancel_is waits) refl refl refl

  -- ---- one in progress, by disabling its phy

  module _ (busy : r.stage ≡ 2) where
    abbrev f : Phy
    f = phy_at p r.phy

    in_port : r.phy < 8
    in_port = its_phy p l ok.sound.kept slot below busy

    names_it : f.slot ≡ slot
    names_it = its_name p l ok.sound.kept slot below busy

    named : f.slot < 32
    named = omega (arith, names_it, below)

    enabled : f.stage ≡ 0 → ⊥
    enabled e = names_none p l ok.sound.kept r.phy in_port 0 e (inl (omega arith)) named

    counted_in : r.phy < p.count
    counted_in = number_low p l ok.sound.kept r.phy in_port enabled

    abbrev y : Confirmed
    y = record { phy = r.phy; now = p.last }

    -- where the request is cancelled it leaves, else it waits
    abbrev disable_done : Bool → Done
    disable_done u = stored (with_phy p r.phy disabled_phy p.last) (said (cond u (Ok CancelAcknowledged) (Ok Waiting)) slot r.phy r) (cond u blank (placed r 1 0)) no_loss

    disable_is : done_of (disable y) s ≡ disable_done (is_cancelled r)
    unfolding done_of disable_core
    disable_is =
        sym
        (unrefused (refused_by p) (disabled_done p f (on_phy l p r.phy) y) (phy_causes p (rules p l) r.phy p.last (is_disabled f))
        (rules_hold, (ap not (lt-ltb r.phy p.count counted_in), (in_time, (ne_eqb f.stage 0 enabled, tt)))))
        ∙ (λ i. left (lt-ltb f.slot 32 named i) (names_it i))
      where
        left : Bool → ℕ → Done
        left t k =
            let q = get_or l k blank in
            stored (with_phy p r.phy disabled_phy p.last) (said (cond t (cond (is_cancelled q) (Ok CancelAcknowledged) (Ok Waiting)) (Ok Taken)) k r.phy q) (cond (is_cancelled q) blank (placed q 1 0)) no_loss

    disabling_ends : is_cancelled r ≡ true → LastOn s (disable y) slot r.head
    disabling_ends e = last_on s (disable y) (disable_done true) slot r.head ok.list (disable_is ∙ ap disable_done e) refl refl refl

    -- the request behind the call
    waits_again : is_cancelled r ≡ false → get_or (leave (disable y) s).list slot blank ≡ placed r 1 0
    waits_again e =
        by_step (disable y) s (λ (t : State) (es : List Entry). get_or t.list slot blank ≡ placed r 1 0)
        (λ disabled_phy. absurd (never (sym (ap (λ (q : Stepped). is_refused q.answer.word) (answers (disable y) s ok.list) ∙ ap (λ (d : Done). is_refused d.answer.word) is) ∙ disabled_phy)))
        (λ size on. ap (λ (d : Done). get_or (left_of l d) slot blank) is ∙ left_here l (disable_done false) ok.list refl below)
      where
        is : done_of (disable y) s ≡ disable_done false
        is = disable_is ∙ ap disable_done e

ends : (s : State) → Lawful s → (slot : ℕ) → slot < 32 → (Free (get_or s.list slot blank) → ⊥) → Ends s slot
ends s ok slot below there = by (eqb r.stage 1) refl (is_cancelled r) refl
  where
    r : Request
    r = get_or s.list slot blank

    busy : eqb r.stage 1 ≡ false → r.stage ≡ 2
    busy e = in_progress s.port s.list ok.sound.kept slot below there (eqb-false r.stage 1 e)

    by : (t : Bool) → eqb r.stage 1 ≡ t → (u : Bool) → is_cancelled r ≡ u → Ends s slot
    by true w u c = at_once (cancel (x s ok slot below there)) (waiting_ends s ok slot below there (eqb-true r.stage 1 w))
    by false w true c = at_once (disable (y s ok slot below there (busy w))) (disabling_ends s ok slot below there (busy w) c)
    by false w false c =
        let b = disable (y s ok slot below there (busy w)) in
        let after = lawful_after b s ok in
        let again = waits_again s ok slot below there (busy w) c in
        let waits : (get_or (leave b s).list slot blank).stage ≡ 1 = ap (λ (q : Request). q.stage) again in
        let still : Free (get_or (leave b s).list slot blank) → ⊥ = λ e. omega (arith, waits, e) in
        let cancels = cancel (x (leave b s) after slot below still) in
        second b cancels refl
        (subst (LastOn (leave b s) cancels slot) (ap (λ (q : Request). q.head) again) (waiting_ends (leave b s) after slot below still waits))

pub ends_from : (r : Run) (slot : ℕ) → slot < 32 → (Free (get_or (now r).list slot blank) → ⊥) → Ends (now r) slot
ends_from r = ends (now r) (tells r).ok
