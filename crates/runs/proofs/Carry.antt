-- Blocks do not matter: what a run says of bytes and of bytes behind them it says of them all at once, and a line that is parted
-- over blocks is put together again. Assumes nothing.
use Prim.Native.Nat.{ℕ, zero, suc, ◌+◌, ◌-◌, ◌≤◌, ◌<◌}
use mathlib.Core.Bool.{Bool, true, false, cond, ◌&&◌, ◌||◌}
use mathlib.Core.List.{List, [], ◌∷◌, ◌++◌, append-nil, append_assoc}
use mathlib.Core.Path.{◌≡◌, refl, sym, ap, ◌∙◌}
use native.Mathlib.Omega.{arith}
use borrow.Author.Tests.{eqb-true, eqb-false, ltb-false, le-ltb}
use lib.Dec.{eqb, ltb}
use lib.ListN.{length, take, drop, replicate, length-take, length-append, length-drop}
use lib.Seq.{take_all, take-add, take-append-add, drop-drop}
use Rattle.laws.proofs.Bools.{nor}
use Rattle.lines.specs.Parts.{lf, place_of, place_from}
use Rattle.lines.proofs.Parts.{free, not_sep, free_rest, front_free, at_place, place_le}
use Rattle.runs.specs.Rows.{longest_row}
use Rattle.runs.specs.Feed.{Carry, enough, ended, longer, row_at, said_at, after_byte, after, said, takes}

pub after_append : (c : Carry) (s t : List ℕ) → after c (s ++ t) ≡ after (after c s) t
after_append c [] t = refl
after_append c (b ∷ s) t = after_append (after_byte c b) s t

pub said_append : (c : Carry) (s t : List ℕ) → said c (s ++ t) ≡ said c s ++ said (after c s) t
said_append c [] t = refl
said_append c (b ∷ s) t =
    ap (λ (l : List ℕ). said_at c b ++ l) (said_append (after_byte c b) s t)
    ∙ sym (append_assoc (said_at c b) (said (after_byte c b) s) (said (after (after_byte c b) s) t))

-- ---- bytes with no LF among them

-- the line that has begun goes on with p
abbrev pub on : Carry → List ℕ → Carry
on c p = record { line = c.line; begun = take enough (c.begun ++ p); state = c.state }

pub take_again : (n : ℕ) (xs ys : List ℕ) → take n (take n xs ++ ys) ≡ take n (xs ++ ys)
take_again zero xs ys = refl
take_again (suc n) [] ys = refl
take_again (suc n) (x ∷ xs) ys = ap (λ (l : List ℕ). x ∷ l) (take_again n xs ys)

pub on_short : (c : Carry) (p : List ℕ) → length (on c p).begun ≤ enough
on_short c p = omega (arith, length-take enough (c.begun ++ p))

byte_on : (c : Carry) (b : ℕ) (p : List ℕ) → free lf (b ∷ p) ≡ true → after_byte c b ≡ longer c b
byte_on c b p f = ap (λ (t : Bool). cond t (ended c) (longer c b)) (not_sep lf b p f)

pub after_free : (c : Carry) (p : List ℕ) → length c.begun ≤ enough → free lf p ≡ true → after c p ≡ on c p
after_free c [] h f = λ i. record { line = c.line; begun = sym (ap (take enough) (append-nil c.begun) ∙ take_all enough c.begun h) i; state = c.state }
after_free c (b ∷ p) h f =
    ap (λ (d : Carry). after d p) (byte_on c b p f)
    ∙ after_free (longer c b) p (on_short c (b ∷ [])) (free_rest lf b p f)
    ∙ (λ i. record { line = c.line; begun = (take_again enough (c.begun ++ (b ∷ [])) p ∙ ap (take enough) (append_assoc c.begun (b ∷ []) p)) i; state = c.state })

pub said_free : (c : Carry) (p : List ℕ) → free lf p ≡ true → said c p ≡ []
said_free c [] f = refl
said_free c (b ∷ p) f = ap (λ (t : Bool). cond t (row_at c) [] ++ said (after_byte c b) p) (not_sep lf b p f) ∙ said_free (after_byte c b) p (free_rest lf b p f)

takes_free : (room : ℕ) (c : Carry) (p s : List ℕ) → free lf p ≡ true → takes room c (p ++ s) ≡ length p + takes room (after c p) s
takes_free room c [] s f = omega arith
takes_free room c (b ∷ p) s f =
    let rest : takes room (longer c b) (p ++ s) ≡ length p + takes room (after (longer c b) p) s = takes_free room (longer c b) p s (free_rest lf b p f) in
    ap (λ (t : Bool). cond (t && ltb room longest_row) 0 (suc (takes (room - length (cond t (row_at c) [])) (cond t (ended c) (longer c b)) (p ++ s)))) (not_sep lf b p f)
    ∙ (let z : room - 0 ≡ room = omega arith in ap (λ (n : ℕ). suc (takes n (longer c b) (p ++ s))) z)
    ∙ ap suc rest
    ∙ ap (λ (d : Carry). suc (length p + takes room (after d p) s)) (sym (byte_on c b p f))
    ∙ omega arith

-- what is kept of it stands in front, and zeros behind it
pub zeros_left : (n : ℕ) (xs : List ℕ) → drop (length xs) (replicate {A = ℕ} n 0) ≡ replicate (n - length (take n xs)) 0
zeros_left zero [] = refl
zeros_left zero (x ∷ xs) = refl
zeros_left (suc n) [] = let z : suc n - 0 ≡ suc n = omega arith in ap (λ (k : ℕ). replicate {A = ℕ} k 0) (sym z)
zeros_left (suc n) (x ∷ xs) =
    let z : suc n - suc (length (take n xs)) ≡ n - length (take n xs) = omega arith in
    zeros_left n xs ∙ ap (λ (k : ℕ). replicate {A = ℕ} k 0) (sym z)

-- ---- a block, line by line

-- how a run that began with c₀ stands before byte i of a block, where it has said w and can say cap bytes in all
pub record Going (c₀ : Carry) (block : List ℕ) (cap : ℕ) (c : Carry) (w : List ℕ) (i : ℕ) : Type 0 where
  pub inside : i ≤ length block
  pub short : length c.begun ≤ enough
  pub room : length w ≤ cap
  pub here : after c₀ (take i block) ≡ c
  pub words : said c₀ (take i block) ≡ w
  pub rest : takes cap c₀ block ≡ i + takes (cap - length w) c (drop i block)

pub going_first : (c : Carry) (block : List ℕ) (cap : ℕ) → length c.begun ≤ enough → Going c block cap c [] 0
going_first c block cap h =
    let z : cap - 0 ≡ cap = omega arith in
    record {
      inside = omega arith;
      short = h;
      room = omega arith;
      here = refl;
      words = refl;
      rest = ap (λ (n : ℕ). takes n c block) (sym z) ∙ omega arith;
    }

-- where it stands behind some bytes more, of which it says v
going_on : {c₀ : Carry} {block : List ℕ} {cap : ℕ} {c : Carry} {w : List ℕ} {i : ℕ} → Going c₀ block cap c w i → (n : ℕ) → (after c₀ (take (i + n) block) ≡ after c (take n (drop i block))) × (said c₀ (take (i + n) block) ≡ w ++ said c (take n (drop i block)))
going_on {c₀} {block} {cap} {c} {w} {i} g n = (
  ap (after c₀) (take-add i n block) ∙ after_append c₀ (take i block) (take n (drop i block)) ∙ ap (λ (d : Carry). after d (take n (drop i block))) g.here,
  ap (said c₀) (take-add i n block) ∙ said_append c₀ (take i block) (take n (drop i block)) ∙ (λ j. g.words j ++ said (g.here j) (take n (drop i block))),
)

-- the next LF is at `end`, or the block ends there
module _ {c₀ : Carry} {block : List ℕ} {cap : ℕ} {c : Carry} {w : List ℕ} {i end : ℕ} (g : Going c₀ block cap c w i) (e : end ≡ place_from lf block i) where
  -- the bytes up to there
  abbrev pub part : List ℕ
  part = take (end - i) (drop i block)

  apart : end - i ≡ place_of lf (drop i block)
  apart = omega (arith, e)

  part_free : free lf part ≡ true
  part_free = ap (λ (n : ℕ). free lf (take n (drop i block))) apart ∙ front_free lf (drop i block)

  pub end_inside : end ≤ length block
  end_inside = omega (arith, e, place_le lf (drop i block), length-drop i block, g.inside)

  pub end_behind : i ≤ end
  end_behind = omega (arith, e)

  part_length : length part ≡ end - i
  part_length = omega (arith, length-take (end - i) (drop i block), length-drop i block, end_inside)

  -- what the part leaves
  on_part : after c part ≡ on c part
  on_part = after_free c part g.short part_free

  up : i + (end - i) ≡ end
  up = omega (arith, end_behind)

  pub there : (after c₀ (take end block) ≡ on c part) × (said c₀ (take end block) ≡ w)
  there =
      let a = going_on g (end - i) in (
        ap (λ (n : ℕ). after c₀ (take n block)) (sym up) ∙ a.0 ∙ on_part,
        ap (λ (n : ℕ). said c₀ (take n block)) (sym up) ∙ a.1 ∙ ap (λ (l : List ℕ). w ++ l) (said_free c part part_free) ∙ append-nil w,
      )

  takes_part : (s : List ℕ) → drop i block ≡ part ++ s → takes cap c₀ block ≡ end + takes (cap - length w) (on c part) s
  takes_part s d =
      g.rest
      ∙ ap (λ (l : List ℕ). i + takes (cap - length w) c l) d
      ∙ ap (λ (n : ℕ). i + n) (takes_free (cap - length w) c part s part_free)
      ∙ ap (λ (x : Carry). i + (length part + takes (cap - length w) x s)) on_part
      ∙ omega (arith, part_length, end_behind)

  -- nothing is left behind the part
  at_end : end ≡ length block → takes cap c₀ block ≡ end
  at_end h =
      let whole : drop i block ≡ part ++ [] = sym (append-nil part ∙ take_all (end - i) (drop i block) (omega (arith, length-drop i block))) in
      takes_part [] whole ∙ omega arith

  -- or an LF and more
  abbrev behind_lf : List ℕ
  behind_lf = drop (end + 1) block

  split : end < length block → drop i block ≡ part ++ (lf ∷ behind_lf)
  split h =
      let z : i + suc (end - i) ≡ end + 1 = omega (arith, end_behind) in
      at_place lf (drop i block) (omega (arith, e, length-drop i block))
      ∙ (λ j. take (sym apart j) (drop i block) ++ (lf ∷ drop (suc (sym apart j)) (drop i block)))
      ∙ ap (λ (l : List ℕ). part ++ (lf ∷ l)) (drop-drop (suc (end - i)) i block ∙ ap (λ (n : ℕ). drop n block) z)

  full : end < length block → ltb (cap - length w) longest_row ≡ true → takes cap c₀ block ≡ end
  full h t = takes_part (lf ∷ behind_lf) (split h) ∙ ap (λ (u : Bool). end + cond u 0 (suc (takes (cap - length w - length (row_at (on c part))) (ended (on c part)) behind_lf))) t ∙ omega arith

  -- there the run stops if the block ends or a row might not fit
  pub stops : eqb end (length block) || ltb (cap - length w) longest_row ≡ true → takes cap c₀ block ≡ end
  stops = by (eqb end (length block)) refl
    where
      by : (t : Bool) → eqb end (length block) ≡ t → t || ltb (cap - length w) longest_row ≡ true → takes cap c₀ block ≡ end
      by true q h = at_end (eqb-true end (length block) q)
      by false q h = full (let ne = eqb-false end (length block) q in omega (arith, end_inside, ne)) h

  -- and otherwise a line ends there
  pub going_line : eqb end (length block) || ltb (cap - length w) longest_row ≡ false → length (row_at (on c part)) ≤ longest_row → Going c₀ block cap (ended (on c part)) (w ++ row_at (on c part)) (end + 1)
  going_line h l =
      let off = nor (eqb end (length block)) (ltb (cap - length w) longest_row) h in
      let ne = eqb-false end (length block) off.0 in
      let below : end < length block = omega (arith, end_inside, ne) in
      let fits : longest_row ≤ cap - length w = ltb-false (cap - length w) longest_row off.1 in
      let long : length (w ++ row_at (on c part)) ≡ length w + length (row_at (on c part)) = length-append w (row_at (on c part)) in
      let z : i + (end + 1 - i) ≡ end + 1 = omega (arith, end_behind) in
      let more : take (end + 1 - i) (drop i block) ≡ part ++ (lf ∷ []) =
      ap (take (end + 1 - i)) (split below)
      ∙ (let y : end + 1 - i ≡ length part + 1 = omega (arith, part_length, end_behind) in ap (λ (n : ℕ). take n (part ++ (lf ∷ behind_lf))) y)
      ∙ take-append-add part (lf ∷ behind_lf) 1 in
      let a = going_on g (end + 1 - i) in
      record {
        inside = omega (arith, below);
        short = omega arith;
        room = omega (arith, long, l, fits, g.room);
        here = ap (λ (n : ℕ). after c₀ (take n block)) (sym z) ∙ a.0 ∙ ap (after c) more ∙ after_append c part (lf ∷ []) ∙ ap ended on_part;
        words =
            ap (λ (n : ℕ). said c₀ (take n block)) (sym z)
            ∙ a.1
            ∙ ap (λ (s : List ℕ). w ++ said c s) more
            ∙ ap (λ (s : List ℕ). w ++ s) (said_append c part (lf ∷ []) ∙ (λ j. said_free c part part_free j ++ said (on_part j) (lf ∷ [])) ∙ append-nil (row_at (on c part)));
        rest =
            takes_part (lf ∷ behind_lf) (split below)
            ∙ ap (λ (u : Bool). end + cond u 0 (suc (takes (cap - length w - length (row_at (on c part))) (ended (on c part)) behind_lf))) (le-ltb (cap - length w) longest_row fits)
            ∙ (let y : cap - length w - length (row_at (on c part)) ≡ cap - length (w ++ row_at (on c part)) = omega (arith, long) in ap (λ (r : ℕ). end + suc (takes r (ended (on c part)) behind_lf)) y)
            ∙ omega arith;
      }
