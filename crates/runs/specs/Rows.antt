-- Document 01, 'Read transfer': the line of output that a line of input gives. Assumes nothing.
use Rattle.refusals.specs.declared.Refusal.{Refusal}
use Rattle.std.specs.Prelude.{ℕ, List, [], ◌∷◌, ◌++◌, Err, Ok, Result}
use Rattle.lines.specs.Numbers.{decimal}
use Rattle.lines.specs.Parts.{tab, lf, joined}
use Rattle.refusals.specs.Refusals.{number_of}
use Rattle.transfer.specs.declared.Answer.{Answer}
use Rattle.transfer.specs.declared.Stepped.{Stepped}
use Rattle.runs.specs.Letters.{a, d, e, f, i, k, l, n, o, r, s, t, y}

abbrev pub ok : List ℕ
ok = o ∷ k ∷ []

abbrev pub sent : List ℕ
sent = s ∷ e ∷ n ∷ t ∷ []

abbrev pub drain : List ℕ
drain = d ∷ r ∷ a ∷ i ∷ n ∷ []

abbrev pub retry : List ℕ
retry = r ∷ e ∷ t ∷ r ∷ y ∷ []

abbrev pub done : List ℕ
done = d ∷ o ∷ n ∷ e ∷ []

abbrev pub fail : List ℕ
fail = f ∷ a ∷ i ∷ l ∷ []

abbrev pub end : List ℕ
end = e ∷ n ∷ d ∷ []

abbrev pub word_of : Result Answer Refusal → List ℕ
word_of (Ok Answer.Ok) = ok
word_of (Ok Answer.Sent) = sent
word_of (Ok Answer.Drain) = drain
word_of (Ok Answer.Retry) = retry
word_of (Ok Answer.Done) = done
word_of (Ok Answer.Fail) = fail
word_of (Ok Answer.End) = end
word_of (Err refusal) = decimal (number_of refusal)

-- 01 TEXT.2: Each gives: line number, word (ok, sent, drain if an answer leaves it so, retry, done, fail, end for NEXUS and CANCEL, or refusal number), read offset, balance, unanswered, resends used.
unfoldable pub row_of : ℕ → Result Answer Refusal → ℕ → ℕ → ℕ → ℕ → List ℕ
row_of line word read balance unanswered used =
    joined tab (decimal line ∷ word_of word ∷ decimal read ∷ decimal balance ∷ decimal unanswered ∷ decimal used ∷ [])
    ++ (lf ∷ [])

abbrev pub row : ℕ → Stepped → List ℕ
row line step = row_of line step.answer step.state.read step.state.balance step.state.unanswered step.state.used

-- the longest row: a line number of 20 digits, a word of 5 letters, and four numbers of 10 digits
abbrev pub longest_row : ℕ
longest_row = 71
