-- LRAT texts: each log has one, no other has the same, and where reading stops is the first bad line.
use Rattle.std.proofs.Common.{◌≡◌, ◌≢◌, ℕ, ◌+◌, ◌-◌, ◌^◌, ◌<◌, ◌≤◌, zero, suc, List, [], ◌∷◌, ◌++◌, length, get_or, take, Some, slice_get, Ok, Err, Result, arith, refl, sym, ap, ap₂, ◌∙◌, inl, inr, subst}
use Rattle.std.specs.Prelude.{All, IfOk, IsErrOf, MatchResult}
use Rattle.std.specs.Fmt.{decimal}
use Rattle.std.proofs.lemmas.Bool.{cases_lt}
use Rattle.std.proofs.lemmas.List.{append_assoc, append-nil, length-append, length-take-le, take_more}
use Rattle.std.proofs.lemmas.List.Elements.{All-head, All-tail, All-get_or, All-more}
use Rattle.std.proofs.lemmas.Option.{slice_get_past, slice_get_within, get_or_from_slice_get}
use Rattle.eq_proof.specs.declared.text.TextErr.{TextErr}
use Rattle.eq_proof.specs.declared.text.TextErr.TheVariants.{At, Memory}
use Rattle.eq_proof.specs.Literal.{Literal}
use Rattle.eq_proof.specs.Clause.{IsClause}
use Rattle.eq_proof.specs.Inference.{Inference}
use Rattle.eq_proof.specs.Text.{lines_of, IsFirstBadLine, literal_word, clause_words, number_words, IsUpTo, IsClauseUpTo, IsNumber}
use Rattle.eq_proof.specs.Lrat.{step_line, lrat_text, IsStep, IsNumbered, IsLrat}
use Rattle.eq_proof.proofs.WordLists.{one_list, one_number, numbers}
use Rattle.eq_proof.proofs.FormulaTexts.{one_clause}
use Rattle.eq_proof.proofs.Lines.{HasNoFeed, HasNoFeed-append, HasNoFeed-decimal, HasNoFeed-literal, HasNoFeed-ended, IsLine, lines_cons, first_line, no_first_line, agree_behind, line_behind}

-- ---- one line

pub step_line-append : (n : ℕ) (step : Inference) (rest : List ℕ) → step_line n step ++ rest ≡ decimal n ++ 32 ∷ (clause_words step.clause ++ 32 ∷ (number_words step.ants ++ 10 ∷ rest))
step_line-append n step rest =
    append_assoc (decimal n) (32 ∷ (clause_words step.clause ++ 32 ∷ (number_words step.ants ++ 10 ∷ []))) rest
    ∙ ap (λ (t : List ℕ). decimal n ++ 32 ∷ t)
    (append_assoc (clause_words step.clause) (32 ∷ (number_words step.ants ++ 10 ∷ [])) rest ∙ ap (λ (t : List ℕ). clause_words step.clause ++ 32 ∷ t) (append_assoc (number_words step.ants) (10 ∷ []) rest))

-- a line has a byte at least
pub step_line-long : (n : ℕ) (step : Inference) → 1 ≤ length (step_line n step)
step_line-long n step = omega (arith, length-append (decimal n) (32 ∷ (clause_words step.clause ++ 32 ∷ (number_words step.ants ++ 10 ∷ []))))

low : 2 ^ 31 - 1 < 2 ^ 31
low = omega arith

HasNoFeed-number : (n : ℕ) → IsNumber n → HasNoFeed (decimal n)
HasNoFeed-number n fits = HasNoFeed-decimal n fits.1

step_line-is : (n : ℕ) (step : Inference) → n < 2 ^ 64 → IsStep step → IsLine (step_line n step)
step_line-is n step small fits =
    let clause = HasNoFeed-ended literal_word (IsUpTo (2 ^ 31 - 1)) (HasNoFeed-literal (2 ^ 31 - 1) low) step.clause fits.clause.within in
    let ants = HasNoFeed-ended decimal IsNumber HasNoFeed-number step.ants fits.ants in
    record {
      front = decimal n ++ 32 ∷ (clause_words step.clause ++ 32 ∷ number_words step.ants);
      no_feed = HasNoFeed-append (decimal n) (32 ∷ (clause_words step.clause ++ 32 ∷ number_words step.ants)) (HasNoFeed-decimal n small) (refl, HasNoFeed-append (clause_words step.clause) (32 ∷ number_words step.ants) clause (refl, ants));
      parts = sym (append_assoc (decimal n) (32 ∷ (clause_words step.clause ++ 32 ∷ number_words step.ants)) (10 ∷ []) ∙ ap (λ (t : List ℕ). decimal n ++ 32 ∷ t) (append_assoc (clause_words step.clause) (32 ∷ number_words step.ants) (10 ∷ [])));
    }

-- what follows the number of a step
pub behind_number : (n m : ℕ) (step : Inference) (text rest more : List ℕ) → n < 2 ^ 64 → m < 2 ^ 64 → text ≡ decimal n ++ 32 ∷ rest → text ≡ step_line m step ++ more
    → (n ≡ m) × (rest ≡ clause_words step.clause ++ 32 ∷ (number_words step.ants ++ 10 ∷ more))
behind_number n m step text rest more small small' read e =
    one_number n m rest (clause_words step.clause ++ 32 ∷ (number_words step.ants ++ 10 ∷ more)) small small' (sym read ∙ e ∙ step_line-append m step more)

pub behind_clause : (clause other : List _) (r s : List ℕ) → IsClauseUpTo (2 ^ 31 - 1) clause → IsClauseUpTo (2 ^ 31 - 1) other → clause_words clause ++ r ≡ clause_words other ++ s → (clause ≡ other) × (r ≡ s)
behind_clause clause other r s fits fits' e = one_clause (2 ^ 31 - 1) low clause other r s fits fits' e

pub behind_numbers : (ns ms r s : List ℕ) → All IsNumber ns → All IsNumber ms → number_words ns ++ r ≡ number_words ms ++ s → (ns ≡ ms) × (r ≡ s)
behind_numbers ns ms r s fits fits' e = one_list decimal IsNumber numbers ns ms r s fits fits' e

one_step : (n : ℕ) (step other : Inference) (r s : List ℕ) → n < 2 ^ 64 → IsStep step → IsStep other → step_line n step ++ r ≡ step_line n other ++ s → (step ≡ other) × (r ≡ s)
one_step n step other r s small fits fits' e =
    let first = behind_number n n other (step_line n step ++ r) (clause_words step.clause ++ 32 ∷ (number_words step.ants ++ 10 ∷ r)) s small small (step_line-append n step r) e in
    let second = behind_clause step.clause other.clause (32 ∷ (number_words step.ants ++ 10 ∷ r)) (32 ∷ (number_words other.ants ++ 10 ∷ s)) fits.clause fits'.clause first.1 in
    let third = behind_numbers step.ants other.ants (10 ∷ r) (10 ∷ s) fits.ants fits'.ants (cc (second.1)) in
    (ap₂ (λ (c : List _) (a : List ℕ). let made : Inference = record { clause = c; ants = a } in made) second.0 third.0, cc (third.1))

-- ---- whole texts

-- the lines of steps that are numbered from here
abbrev step_lines : ℕ → List Inference → List (List ℕ)
step_lines n [] = []
step_lines n (step ∷ log) = step_line n step ∷ step_lines (suc n) log

length-step_lines : (n : ℕ) (log : List Inference) → length (step_lines n log) ≡ length log
length-step_lines n [] = refl
length-step_lines n (step ∷ log) = ap suc (length-step_lines (suc n) log)

lines_of_log : (n : ℕ) (log : List Inference) (rest : List ℕ) → n + length log ≤ 2 ^ 64 → All IsStep log → lines_of (lrat_text n log ++ rest) ≡ step_lines n log ++ lines_of rest
lines_of_log n [] rest small fits = refl
lines_of_log n (step ∷ log) rest small fits =
    ap lines_of (append_assoc (step_line n step) (lrat_text (suc n) log) rest)
    ∙ lines_cons (step_line n step) (lrat_text (suc n) log ++ rest) (step_line-is n step (omega arith) (All-head IsStep step log fits))
    ∙ ap (λ (ls : List (List ℕ)). step_line n step ∷ ls) (lines_of_log (suc n) log rest (omega arith) (All-tail IsStep step log fits))

abbrev no_step : Inference
no_step = record { clause = []; ants = [] }

step_lines-at : (n : ℕ) (log : List Inference) (place : ℕ) → place < length log → slice_get (step_lines n log) place ≡ Some (step_line (n + place) (get_or log place no_step))
step_lines-at n [] place lt = absurd (omega arith)
step_lines-at n (step ∷ log) zero lt = ap (λ (k : ℕ). Some (step_line k step)) (omega arith)
step_lines-at n (step ∷ log) (suc place) lt =
    step_lines-at (suc n) log place (omega arith) ∙ ap (λ (k : ℕ). Some (step_line k (get_or log place no_step))) (omega arith)

lrat_text-append : (n : ℕ) (log more : List Inference) → lrat_text n (log ++ more) ≡ lrat_text n log ++ lrat_text (n + length log) more
lrat_text-append n [] more = ap (λ (k : ℕ). lrat_text k more) (omega arith)
lrat_text-append n (step ∷ log) more =
    ap (λ (t : List ℕ). step_line n step ++ t) (lrat_text-append (suc n) log more ∙ ap (λ (k : ℕ). lrat_text (suc n) log ++ lrat_text k more) (omega arith))
    ∙ sym (append_assoc (step_line n step) (lrat_text (suc n) log) (lrat_text (n + suc (length log)) more))

-- a step more
lrat_text-push : (n : ℕ) (log : List Inference) (step : Inference) → lrat_text n (log ++ step ∷ []) ≡ lrat_text n log ++ step_line (n + length log) step
lrat_text-push n log step = lrat_text-append n log (step ∷ []) ∙ ap (λ (t : List ℕ). lrat_text n log ++ t) (append-nil (step_line (n + length log) step))

pub lrat_text-at : (n : ℕ) (log : List Inference) (place : ℕ) (step : Inference) → slice_get log place ≡ Some step → lrat_text n (take (place + 1) log) ≡ lrat_text n (take place log) ++ step_line (n + place) step
lrat_text-at n log place step at =
    let within = slice_get_within log place step at in
    let more : take (place + 1) log ≡ take place log ++ step ∷ [] = take_more log place step within ∙ ap (λ (s : Inference). take place log ++ s ∷ []) (get_or_from_slice_get log place step step at) in
    ap (lrat_text n) more ∙ lrat_text-push n (take place log) step ∙ ap (λ (k : ℕ). lrat_text n (take place log) ++ step_line (n + k) step) (length-take-le place log (omega arith))

-- a text is that of one log
pub one_log : (n : ℕ) (log other : List Inference) → n + length log ≤ 2 ^ 64 → n + length other ≤ 2 ^ 64 → All IsStep log → All IsStep other → lrat_text n log ≡ lrat_text n other → log ≡ other
one_log n [] [] small small' fits fits' e = refl
one_log n [] (step ∷ other) small small' fits fits' e =
    absurd (omega (arith, ap length e, length-append (step_line n step) (lrat_text (suc n) other), step_line-long n step))
one_log n (step ∷ log) [] small small' fits fits' e =
    absurd (omega (arith, ap length e, length-append (step_line n step) (lrat_text (suc n) log), step_line-long n step))
one_log n (step ∷ log) (step' ∷ other) small small' fits fits' e =
    let first = one_step n step step' (lrat_text (suc n) log) (lrat_text (suc n) other) (omega arith) (All-head IsStep step log fits) (All-head IsStep step' other fits') e in
    let next = one_log (suc n) log other (omega arith) (omega arith) (All-tail IsStep step log fits) (All-tail IsStep step' other fits') first.1 in
    cc (first.0, next)

-- ---- the first bad line

-- behind steps stands a line that is no step's with the next number
pub no_step_is_bad : (first : ℕ) (log : List Inference) (text rest : List ℕ) (line : ℕ) → first + length log ≤ 2 ^ 64 → length log < 2 ^ 32 → All IsStep log → text ≡ lrat_text first log ++ rest → line ≡ length log + 1 → rest ≢ []
    → ((step : Inference) (more : List ℕ) → IsStep step → rest ≢ step_line (first + length log) step ++ more) → IsFirstBadLine (IsLrat first) text line
no_step_is_bad first log text rest line small few fits read line-is nonempty none =
    let front = step_lines first log in
    let front_length : length front ≡ length log = length-step_lines first log in
    let lines : lines_of text ≡ front ++ lines_of rest = ap lines_of read ∙ lines_of_log first log rest small fits in
    let good = lrat_text first log in
    let good_lines : lines_of good ≡ front ++ [] = ap lines_of (sym (append-nil good)) ∙ lines_of_log first log [] small fits in
    record {
      begins = (good, (log, record { last_fits = small; few = few; steps = fits }, refl), agree_behind good text front [] (lines_of rest) (line - 1) good_lines lines (omega arith));
      breaks = λ other is agree.
          let others = is.0 in
          let theirs : lines_of other ≡ step_lines first others ++ [] = ap lines_of (is.2 ∙ sym (append-nil (lrat_text first others))) ∙ lines_of_log first others [] is.1.last_fits is.1.steps in
          let ours : slice_get (lines_of text) (length log) ≡ slice_get (lines_of rest) 0 = ap (slice_get (lines_of text)) (sym front_length) ∙ line_behind text front (lines_of rest) lines in
          let at : slice_get (step_lines first others) (length log) ≡ slice_get (lines_of rest) 0 =
          ap (λ (ls : List (List ℕ)). slice_get ls (length log)) (sym (theirs ∙ append-nil (step_lines first others))) ∙ agree (length log) (omega arith) ∙ ours in
          elim (cases_lt (length log) (length others)) [
            | inl lt ↦
                let step = get_or others (length log) no_step in
                let begins = first_line rest (step_line (first + length log) step) (sym at ∙ step_lines-at first others (length log) lt) in
                none step begins.0 (All-get_or IsStep others (length log) no_step lt is.1.steps) begins.1
            | inr past ↦ nonempty (no_first_line rest (sym at ∙ slice_get_past (step_lines first others) (length log) (omega (arith, length-step_lines first others))))
          ];
    }

-- a step more
pub read_step : (first : ℕ) (log more : List Inference) (step : Inference) (number : ℕ) (text rest after : List ℕ) → text ≡ lrat_text first log ++ rest → rest ≡ step_line number step ++ after → number ≡ first + length log → more ≡ log ++ step ∷ []
    → text ≡ lrat_text first more ++ after
read_step first log more step number text rest after read line number-is pushed =
    let all : lrat_text first more ≡ lrat_text first log ++ step_line number step = ap (lrat_text first) pushed ∙ lrat_text-push first log step ∙ ap (λ (k : ℕ). lrat_text first log ++ step_line k step) (sym number-is) in
    read ∙ ap (λ (t : List ℕ). lrat_text first log ++ t) line ∙ sym (append_assoc (lrat_text first log) (step_line number step) after) ∙ ap (λ (t : List ℕ). t ++ after) (sym all)

-- what is in the grammar has no bad line, so it is read as the log that it is the text of
pub read_again : (first : ℕ) (text : List ℕ) (result : Result (List Inference) TextErr) → IfOk result (λ log. text ≡ lrat_text first log) → IfOk result (λ log. IsNumbered first log)
    → ((line : ℕ) → IsErrOf result (At line) → IsFirstBadLine (IsLrat first) text line)
    → (log : List Inference) → IsNumbered first log → text ≡ lrat_text first log → MatchResult result (λ found. found ≡ log) (λ e. e ≡ Memory)
read_again first text (Ok found) read own bad log fits e = one_log first found log own.last_fits fits.last_fits own.steps fits.steps (sym read ∙ e)
read_again first text (Err (At line)) read own bad log fits e = absurd ((bad line refl).breaks text (log, fits, e) (λ k lt. refl))
read_again first text (Err Memory) read own bad log fits e = refl

-- a step more that fits its type
pub steps_more : (log : List Inference) (place : ℕ) (clause : List Literal) (ants : List ℕ) → slice_get log place ≡ Some (record { clause = clause; ants = ants }) → IsClause clause → All (IsUpTo (2 ^ 31 - 1)) clause → All (λ n. 1 ≤ n) ants → All (λ n. n < 2 ^ 64) ants
    → All IsStep (take place log) → All IsStep (take (place + 1) log)
steps_more log place clause ants at ordered range from_one small before =
    let step : Inference = record { clause = clause; ants = ants } in
    let inside = slice_get_within log place step at in
    let same : get_or log place step ≡ step = get_or_from_slice_get log place step step at in
    let fit : IsStep step = record { clause = record { ordered = ordered; within = range }; ants = λ k d lt. (from_one k d lt, small k d lt) } in
    All-more IsStep log place step inside before (subst IsStep (sym same) fit)
