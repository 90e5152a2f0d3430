-- Each accepted submit leaves at most once, by one last word, and is present until then: submits and last words of a key alternate in the
-- history of any calls from a setup on, and the list holds a request of the key exactly between them. Assumes nothing.
use Prim.Native.Nat.{ℕ, ◌+◌, ◌<◌}
use mathlib.Core.Path.{◌≡◌, refl, sym, ap, subst, ◌∙◌}
use mathlib.Core.Bool.{Bool, true, false, cond}
use mathlib.Core.List.{List, [], ◌∷◌, ◌++◌, append-nil, append_assoc}
use mathlib.Core.Logic.{◌↔◌}
use native.Mathlib.Omega.{arith}
use lib.ListN.{get_or}
use Rattle.laws.proofs.Bools.{never}
use Rattle.open_frame.specs.declared.Head.{Head}
use Rattle.port_parts.specs.Parts.{blank}
use Rattle.port_rows.specs.declared.Answer.{Answer}
use Rattle.port_rows.specs.declared.Key.{Key}
use Rattle.port.specs.Grounds.{HasKey, Absent}
use Rattle.port.specs.History.{State, Call, stepped_by, leave, run, Entry, entries_of, history}
use Rattle.port.proofs.Found.{one_of_key}
use Rattle.port_history.specs.Standing.{is_setup, is_submitted, accepts, ends, speaks, submits, last_words, Standing, gone, there, wrong, agrees, accepted, ended, spoken, standing, silent}
use Rattle.port_history.specs.Turns.{keyed, Holds, Lawful}
use Rattle.port_history.specs.Runs.{Run, now, past}
use Rattle.port_history.proofs.Steps.{first, by_first, first_lawful, first_zeros}
use Rattle.port_history.proofs.Entries.{words, keyed_of}
use Rattle.port_history.proofs.Counts.{one, there_not_wrong, gone_not_wrong, counted}
use Rattle.port_history.proofs.Turns.{comes_when}
use Rattle.port_history.proofs.Runs.{Tells, tells_anew, tells_after, tells_run}

-- ---- what a history that tells the state says

module _ (h : List Entry) (s : State) (t : Tells h s) (x : Key) where
  fine : standing x h ≡ wrong → ⊥
  fine e = subst (λ (v : Standing). Holds x v s.list) e (t.holds x)

  there_now : (slot : ℕ) (head : Head) → Holds x (there slot head) s.list → standing x h ≡ there slot head
  there_now slot head k = by (standing x h) (t.holds x)
    where
      by : (v : Standing) → Holds x v s.list → v ≡ there slot head
      by gone off = absurd (off slot k.0 k.1.0)
      by (there i g) q =
          let at : i ≡ slot = one_of_key s.port s.list x t.ok.sound.kept i slot q.0 k.0 q.1.0 k.1.0 in
          let same : g ≡ head = sym q.1.1 ∙ ap (λ (n : ℕ). (get_or s.list n blank).head) at ∙ k.1.1 in
          λ j. there (at j) (same j)
      by wrong q = absurd q

  gone_now : Absent s.list x → standing x h ≡ gone
  gone_now off = by (standing x h) (t.holds x)
    where
      by : (v : Standing) → Holds x v s.list → v ≡ gone
      by gone q = refl
      by (there i g) q = absurd (off i q.0 q.1.0)
      by wrong q = absurd q

  counts_none : Absent s.list x → submits x h ≡ last_words x h
  counts_none off = let none : one (standing x h) ≡ 0 = ap one (gone_now off) in omega (arith, counted x h fine, none)

  counts_one : (slot : ℕ) → slot < 32 → HasKey (get_or s.list slot blank) x → submits x h ≡ last_words x h + 1
  counts_one slot below k =
      let more : one (standing x h) ≡ 1 = ap one (there_now slot (get_or s.list slot blank).head (below, (k, refl))) in
      omega (arith, counted x h fine, more)

module _ (r : Run) where
  pub first_tells : Tells (entries_of (first r) r.lent ++ []) (leave (first r) r.lent)
  first_tells = by_first r (λ (s : State) (es : List Entry). ((i : ℕ) → i < 32 → get_or s.list i blank ≡ blank) → Lawful s → Tells (es ++ []) s) (λ on. tells_anew (first r) _ [] _ refl) (first_zeros r) (first_lawful r)

  pub tells : Tells (past r) (now r)
  tells = tells_run r.calls (leave (first r) r.lent) (entries_of (first r) r.lent ++ []) first_tells

  module _ (x : Key) where
    pub alternates : standing x (past r) ≡ wrong → ⊥
    alternates = fine (past r) (now r) tells x

    pub there_exactly : (slot : ℕ) (head : Head) → (standing x (past r) ≡ there slot head) ↔ Holds x (there slot head) (now r).list
    there_exactly slot head = (λ e. subst (λ (v : Standing). Holds x v (now r).list) e (tells.holds x), there_now (past r) (now r) tells x slot head)

    pub gone_exactly : (standing x (past r) ≡ gone) ↔ Absent (now r).list x
    gone_exactly = (λ e. subst (λ (v : Standing). Holds x v (now r).list) e (tells.holds x), gone_now (past r) (now r) tells x)

    -- as many submits as last words, and one more where a request with the key is present
    pub counts_gone : Absent (now r).list x → submits x (past r) ≡ last_words x (past r)
    counts_gone = counts_none (past r) (now r) tells x

    pub counts_there : (slot : ℕ) → slot < 32 → HasKey (get_or (now r).list slot blank) x → submits x (past r) ≡ last_words x (past r) + 1
    counts_there = counts_one (past r) (now r) tells x

-- ---- until its last word

-- what is added to a history stands before it
history_joins : (cs : List Call) (s : State) (h : List Entry) → history cs s h ≡ history cs s [] ++ h
history_joins [] s h = refl
history_joins (c ∷ cs) s h =
    history_joins cs (leave c s) (entries_of c s ++ h) ∙ sym (append_assoc (history cs (leave c s) []) (entries_of c s) h)
    ∙ ap (λ (es : List Entry). es ++ h) (ap (λ (es : List Entry). history cs (leave c s) [] ++ es) (sym (append-nil (entries_of c s))) ∙ sym (history_joins cs (leave c s) (entries_of c s ++ [])))

-- entries with neither a setup nor a last word on x leave it there
still_there : (x : Key) (slot : ℕ) (head : Head) (h q : List Entry) → silent x q ≡ true → standing x h ≡ there slot head → (standing x (q ++ h) ≡ wrong → ⊥) → standing x (q ++ h) ≡ there slot head
still_there x slot head h [] quiet at fine = at
still_there x slot head h (e ∷ q) quiet at fine = by (is_setup e.call) (ends x e) (accepts x e) (speaks x e) (standing x (q ++ h)) quiet (λ still ok. still_there x slot head h q still at ok) fine
  where
    by : (s l f n : Bool) (v : Standing) → cond s false (cond l false (silent x q)) ≡ true → (silent x q ≡ true → (v ≡ wrong → ⊥) → v ≡ there slot head)
        → (cond s gone (cond l (ended e.answer v) (cond f (accepted e.answer v) (cond n (spoken e.answer v) v))) ≡ wrong → ⊥)
        → cond s gone (cond l (ended e.answer v) (cond f (accepted e.answer v) (cond n (spoken e.answer v) v))) ≡ there slot head
    by true l f n v quiet before fine = absurd (never quiet)
    by false true f n v quiet before fine = absurd (never quiet)
    by false false true n gone quiet before fine = absurd (other (before quiet gone_not_wrong))
      where
        other : gone ≡ there slot head → ⊥
        other e = let z : ◌≡◌ {A = ℕ} 0 1 = cc in omega arith
    by false false true n (there s g) quiet before fine = absurd (fine refl)
    by false false true n wrong quiet before fine = absurd (fine refl)
    by false false false true gone quiet before fine = absurd (fine refl)
    by false false false true (there s g) quiet before fine = same (agrees e.answer s g) fine
      where
        same : (t : Bool) → (cond t (there s g) wrong ≡ wrong → ⊥) → cond t (there s g) wrong ≡ there slot head
        same true ok = before quiet there_not_wrong
        same false ok = absurd (ok refl)
    by false false false true wrong quiet before fine = absurd (fine refl)
    by false false false false v quiet before fine = before quiet fine

-- a request that a call c submits
module _ (r : Run) (c : Call) (submitted : is_submitted (stepped_by c (now r)).answer.word ≡ true) where
  abbrev a : Answer
  a = (stepped_by c (now r)).answer

  abbrev x : Key
  x = keyed a.frame.head

  -- it is in the history
  entered : entries_of c (now r) ≡ record { call = c; answer = a } ∷ []
  entered = ap (λ (t : Bool). cond t [] (record { call = c; answer = a } ∷ [])) ((words a.word).1 submitted)

  behind : Tells (record { call = c; answer = a } ∷ past r) (leave c (now r))
  behind = subst (λ (es : List Entry). Tells (es ++ past r) (leave c (now r))) entered (tells_after c (now r) (past r) (tells r))

  -- and stands there behind the call, since its key was absent
  stands : standing x (record { call = c; answer = a } ∷ past r) ≡ there a.slot a.frame.head
  stands =
      let come = comes_when c (now r) (tells r).ok.sound.eight submitted in
      there_now (record { call = c; answer = a } ∷ past r) (leave c (now r)) behind x a.slot a.frame.head (come.slot, ((come.present, keyed_of come.head), come.head))

  -- whatever calls follow, while they neither set up anew nor say a last word on it, it is there with its slot and head
  pub until : (ds : List Call) → silent x (history ds (leave c (now r)) []) ≡ true → Holds x (there a.slot a.frame.head) (run ds (leave c (now r))).list
  until ds quiet =
      let all = tells_run ds (leave c (now r)) (record { call = c; answer = a } ∷ past r) behind in
      let parted = history_joins ds (leave c (now r)) (record { call = c; answer = a } ∷ past r) in
      let fine : standing x (history ds (leave c (now r)) [] ++ (record { call = c; answer = a } ∷ past r)) ≡ wrong → ⊥ = λ e. subst (λ (v : Standing). Holds x v (run ds (leave c (now r))).list) (ap (standing x) parted ∙ e) (all.holds x) in
      subst (λ (v : Standing). Holds x v (run ds (leave c (now r))).list)
      (ap (standing x) parted ∙ still_there x a.slot a.frame.head (record { call = c; answer = a } ∷ past r) (history ds (leave c (now r)) []) quiet stands fine) (all.holds x)
