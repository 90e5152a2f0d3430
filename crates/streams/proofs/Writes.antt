-- What one write among several takes: as many of the bytes that are left as it says, or none where it fails; so the writer holds so
-- many more of the whole. Assumes nothing.
use Rattle.std.proofs.Common.{◌≡◌, ℕ, ◌+◌, ◌-◌, ◌≤◌, List, [], ◌++◌, length, take, drop, arith, IfOk, OnErr, Result, Ok, Err, sym, ap, ◌∙◌, subst}
use Rattle.std.proofs.Math.ListN.{length-take, length-drop}
use Rattle.std.proofs.Math.Seq.{take-add}
use Rattle.std.proofs.lemmas.List.{take_rest}
use Rattle.std.proofs.KnownBytes.{Appends-nil, Appends-kept, Appends-trans}
use Rattle.std.specs.Io.KnownBytes.{Appends, WriteAppends}
use Rattle.std.specs.Io.{WritesAtMost}
use Rattle.std.specs.declared.option.Option.{Option}

-- the bytes from a place on, as a slice has them
abbrev rest : ℕ → List ℕ → List ℕ
rest from bytes = take (length bytes - from) (drop from bytes)

module _ (n from : ℕ) (bytes : List ℕ) (fits : from ≤ length bytes) where
  pub within : {E : Type 0} (r : Result ℕ E) → WritesAtMost r (rest from bytes) → IfOk r (λ k. n ≡ k) → OnErr r (n ≡ 0) → from + n ≤ length bytes
  within (Ok k) most is none = omega (arith, length-take (length bytes - from) (drop from bytes), length-drop from bytes)
  within (Err e) most is none = omega arith

  module _ (before between after : Option (List ℕ)) (held : Appends before between (take from bytes)) where
    more : Appends between after (take n (rest from bytes)) → Appends before after (take (from + n) bytes)
    more took = subst (Appends before after)
        (sym (take-add from n bytes ∙ ap (λ l. take from bytes ++ take n l) (sym (take_rest bytes from))))
        (Appends-trans before between after _ _ held took)

    pub holds : {E : Type 0} (r : Result ℕ E) → WriteAppends between after r (rest from bytes) → IfOk r (λ k. n ≡ k) → OnErr r (n ≡ 0) → Appends before after (take (from + n) bytes)
    holds (Ok k) took is none = more (subst (λ m. Appends between after (take m (rest from bytes))) (sym is) took)
    holds (Err e) kept is none =
        more (subst (λ m. Appends between after (take m (rest from bytes))) (sym none) (Appends-kept between between after [] (Appends-nil between) kept))
