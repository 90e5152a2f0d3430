-- What calls have in common: a refused one changes nothing, and the history's request is the state's. Assumes nothing.
use Rattle.std.specs.Prelude.{Err, Ok, Result}
use Prim.Native.Nat.{ℕ}
use mathlib.Core.Bool.{true}
use mathlib.Core.List.{List}
use mathlib.Core.Logic.{inl, inr}
use mathlib.Core.Path.{◌≡◌, refl, sym, ap, subst}
use native.Mathlib.Omega.{arith}
use Rattle.laws.proofs.Bools.{impossible}
use Rattle.refusals.specs.declared.Refusal.{Refusal}
use Rattle.write.specs.Rules.{end_of}
use Rattle.write.specs.Steps.{refused, unfinished}
use Rattle.write.specs.Grounds.{Unfinished}
use Rattle.write.specs.declared.Write.{Write}
use Rattle.write.specs.declared.Stepped.{Stepped}
use Rattle.write.specs.declared.Answer.{Answer}
use Rattle.write.specs.declared.Phase.{Phase}
use Rattle.write_history.specs.History.{Request, Entry, View, view}
use Rattle.write_history.specs.Demand.{end_of_request}
use Rattle.write_history.proofs.Invariant.{Live, Inv}
use Rattle.write_history.proofs.Says.{Word}
use Rattle.write_history.proofs.Says as says

-- a word that is neither complete nor failed, and no failure more
pub calm : (v w : View) (a : Result Answer Refusal) → (a ≡ Ok Answer.Done → ⊥) → (a ≡ Ok Answer.Fail → ⊥) → w.failures ≡ v.failures → Word v w a
calm v w a d f e =
    record {
      done = λ t. absurd (d t);
      fails = (λ t. absurd (f t), λ p. (let one = p.0 in let two = p.1 in absurd (omega arith)));
    }

pub is_working : (p : Phase) → Unfinished p → unfinished p ≡ true
is_working p (inl e) = ap unfinished e
is_working p (inr (inl e)) = ap unfinished e
is_working p (inr (inr e)) = ap unfinished e

module _ (k : ℕ) (s : Write) (h : List Entry) (i : Inv k s (view h)) where
  abbrev pub Makes : Entry → Stepped → Type 0
  Makes e st = says.Call k s h e st

  pub stays : (e : Entry) (r : Refusal) → Makes e (refused s r)
  stays e r = record { keeps = i; says = tt; word = calm (view h) (view h) (Err r) (λ e. cc) (λ e. cc) refl; told = tt; goes = λ off. impossible (sym off); kept = λ _. refl }

  pub live : (p : Phase) → s.phase ≡ p → Live k p s (view h)
  live p e = subst (λ (p : Phase). Live k p s (view h)) e i.live

  -- B, N, X and R by the history
  pub offset_is : (view h).request.offset ≡ s.offset
  offset_is = ap (λ (q : Request). q.offset) i.request

  pub end_is : end_of_request (view h).request ≡ end_of s
  end_is = ap end_of_request i.request

  pub resends_is : (view h).request.resends ≡ s.resends
  resends_is = ap (λ (q : Request). q.resends) i.request
