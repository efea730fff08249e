-- DIMACS texts: each formula has one, no other has the same, and where reading stops is the first bad line.
use Rattle.std.proofs.Common.{◌≡◌, ◌≢◌, ℕ, ◌+◌, ◌-◌, ◌^◌, ◌<◌, ◌≤◌, suc, List, [], ◌∷◌, ◌++◌, length, map, take, get_or, replicate, Some, slice_get, arith, refl, sym, ap, ◌∙◌, subst, inl, inr}
use Rattle.std.specs.Prelude.{All, codes, Result, Ok, Err, IfOk, IsErrOf, MatchResult}
use Rattle.std.specs.Fmt.{decimal}
use Rattle.std.specs.List.{flat_map}
use Rattle.std.proofs.lemmas.Bool.{cases_lt}
use Rattle.std.proofs.lemmas.List.{append_assoc, append-nil, append_cancel_left, length-append, length-replicate, length-map, get_or-map}
use Rattle.std.proofs.lemmas.List.Elements.{All-head, All-tail, All-nil, All-append, All-replicate, All-get_or, All-weaker, All-more}
use Rattle.std.proofs.lemmas.Option.{slice_get-get_or, slice_get_past, same_Some, slice_get_within, get_or_from_slice_get}
use Rattle.std.proofs.lemmas.Grind.{flat_map-append}
use Rattle.eq_proof.specs.declared.formula.Formula.{Formula}
use Rattle.eq_proof.specs.declared.text.TextErr.{TextErr}
use Rattle.eq_proof.specs.declared.text.TextErr.TheVariants.{At, Memory}
use Rattle.eq_proof.specs.Literal.{Literal}
use Rattle.eq_proof.specs.Clause.{IsClause}
use Rattle.eq_proof.specs.Text.{lines_of, AgreeOn, IsFirstBadLine, literal_word, clause_words, IsUpTo, IsClauseUpTo}
use Rattle.eq_proof.specs.Dimacs.{header_line, clause_line, dimacs_text, highest_of, IsFormula, IsDimacs, IsOff, IsStop}
use Rattle.eq_proof.proofs.Numerals.{one_decimal}
use Rattle.eq_proof.proofs.WordLists.{literals, one_list, one_number}
use Rattle.eq_proof.proofs.Lines.{HasNoFeed-append, HasNoFeed-decimal, HasNoFeed-literal, HasNoFeed-ended, IsLine, lines_cons, lines_flat_map, first_line, no_first_line, agree_behind, line_behind}

-- ---- one line

pub highest-small : (vars : ℕ) → highest_of vars < 2 ^ 31
highest-small vars = omega arith

pub one_clause : (most : ℕ) → most < 2 ^ 31 → (c d : List Literal) (r s : List ℕ) → IsClauseUpTo most c → IsClauseUpTo most d → clause_words c ++ r ≡ clause_words d ++ s → (c ≡ d) × (r ≡ s)
one_clause most small c d r s fits fits' e = one_list literal_word (IsUpTo most) (literals most small) c d r s fits.within fits'.within e

-- a clause's line is its words and a line feed
pub clause_line-append : (c : List Literal) (rest : List ℕ) → clause_line c ++ rest ≡ clause_words c ++ 10 ∷ rest
clause_line-append c rest = append_assoc (clause_words c) (10 ∷ []) rest

one_clause_line : (most : ℕ) → most < 2 ^ 31 → (c d : List Literal) (r s : List ℕ) → IsClauseUpTo most c → IsClauseUpTo most d → clause_line c ++ r ≡ clause_line d ++ s → (c ≡ d) × (r ≡ s)
one_clause_line most small c d r s fits fits' e =
    let both = one_clause most small c d (10 ∷ r) (10 ∷ s) fits fits' (sym (clause_line-append c r) ∙ e ∙ clause_line-append d s) in
    (both.0, cc (both.1))

clause_line-is : (most : ℕ) → most < 2 ^ 31 → (c : List Literal) → IsClauseUpTo most c → IsLine (clause_line c)
clause_line-is most small c fits = record { front = clause_words c; no_feed = HasNoFeed-ended literal_word (IsUpTo most) (HasNoFeed-literal most small) c fits.within; parts = refl }

-- a header behind its first words
pub header_line-append : (vars count : ℕ) (rest : List ℕ) → header_line vars count ++ rest ≡ codes "p cnf " ++ (decimal vars ++ 32 ∷ (decimal count ++ 10 ∷ rest))
header_line-append vars count rest =
    ap (λ (t : List ℕ). codes "p cnf " ++ t) (append_assoc (decimal vars) (32 ∷ (decimal count ++ 10 ∷ [])) rest ∙ ap (λ (t : List ℕ). decimal vars ++ 32 ∷ t) (append_assoc (decimal count) (10 ∷ []) rest))

pub one_header : (v w m n : ℕ) (r s : List ℕ) → v < 2 ^ 64 → w < 2 ^ 64 → m < 2 ^ 64 → n < 2 ^ 64 → header_line v m ++ r ≡ header_line w n ++ s → (v ≡ w) × (m ≡ n) × (r ≡ s)
one_header v w m n r s fits fits' small small' e =
    let e' = append_cancel_left (codes "p cnf ") (decimal v ++ 32 ∷ (decimal m ++ 10 ∷ r)) (decimal w ++ 32 ∷ (decimal n ++ 10 ∷ s)) (sym (header_line-append v m r) ∙ e ∙ header_line-append w n s) in
    let first = one_number v w (decimal m ++ 10 ∷ r) (decimal n ++ 10 ∷ s) fits fits' e' in
    let second = one_decimal m n (10 ∷ r) (10 ∷ s) small small' refl refl first.1 in
    (first.0, second.0, cc (second.1))

header_line-is : (vars count : ℕ) → vars < 2 ^ 64 → count < 2 ^ 64 → IsLine (header_line vars count)
header_line-is vars count fits small = record {
  front = codes "p cnf " ++ (decimal vars ++ 32 ∷ decimal count);
  no_feed = HasNoFeed-append (codes "p cnf ") (decimal vars ++ 32 ∷ decimal count) (refl, (refl, (refl, (refl, (refl, (refl, tt)))))) (HasNoFeed-append (decimal vars) (32 ∷ decimal count) (HasNoFeed-decimal vars fits) (refl, HasNoFeed-decimal count small));
  parts = ap (λ (t : List ℕ). codes "p cnf " ++ t) (sym (append_assoc (decimal vars) (32 ∷ decimal count) (10 ∷ [])));
}

-- ---- whole texts

lines_of_clauses : (most : ℕ) → most < 2 ^ 31 → (clauses : List (List Literal)) (rest : List ℕ) → All (IsClauseUpTo most) clauses → lines_of (flat_map clause_line clauses ++ rest) ≡ map clause_line clauses ++ lines_of rest
lines_of_clauses most small clauses rest fits = lines_flat_map clause_line (IsClauseUpTo most) (clause_line-is most small) clauses rest fits

-- the lines of a header, of clauses and of a rest
lines_of_parts : (vars count most : ℕ) → vars < 2 ^ 64 → count < 2 ^ 64 → most < 2 ^ 31 → (clauses : List (List Literal)) (text rest : List ℕ) → All (IsClauseUpTo most) clauses → text ≡ flat_map clause_line clauses ++ rest
    → lines_of (header_line vars count ++ text) ≡ (header_line vars count ∷ map clause_line clauses) ++ lines_of rest
lines_of_parts vars count most fits small low clauses text rest each e =
    lines_cons (header_line vars count) text (header_line-is vars count fits small) ∙ ap (λ (ls : List (List ℕ)). header_line vars count ∷ ls) (ap lines_of e ∙ lines_of_clauses most low clauses rest each)

same_clauses : (most : ℕ) → most < 2 ^ 31 → (cs ds : List (List Literal)) → All (IsClauseUpTo most) cs → All (IsClauseUpTo most) ds → length cs ≡ length ds → flat_map clause_line cs ≡ flat_map clause_line ds → cs ≡ ds
same_clauses most small [] [] fits fits' len e = refl
same_clauses most small [] (d ∷ ds) fits fits' len e = absurd (omega arith)
same_clauses most small (c ∷ cs) [] fits fits' len e = absurd (omega arith)
same_clauses most small (c ∷ cs) (d ∷ ds) fits fits' len e =
    let first = one_clause_line most small c d (flat_map clause_line cs) (flat_map clause_line ds) (All-head (IsClauseUpTo most) c cs fits) (All-head (IsClauseUpTo most) d ds fits') e in
    let next = same_clauses most small cs ds (All-tail (IsClauseUpTo most) c cs fits) (All-tail (IsClauseUpTo most) d ds fits') (omega arith) first.1 in
    cc (first.0, next)

-- a text is that of one formula
pub one_formula : (v w : ℕ) (cs ds : List (List Literal)) → IsFormula v cs → IsFormula w ds → dimacs_text v cs ≡ dimacs_text w ds → (v ≡ w) × (cs ≡ ds)
one_formula v w cs ds f g e =
    let head = one_header v w (length cs) (length ds) (flat_map clause_line cs) (flat_map clause_line ds) (omega (arith, f.vars_fit)) (omega (arith, g.vars_fit)) f.count_fits g.count_fits e in
    let P : ℕ → Type 0 = λ v. All (IsClauseUpTo (highest_of v)) cs in
    (head.0, same_clauses (highest_of w) (highest-small w) cs ds (subst P head.0 f.clauses_fit) g.clauses_fit head.1 head.2)

-- ---- the first bad line

empty_fits : (most : ℕ) → IsClauseUpTo most []
empty_fits most = record { ordered = λ i j d p q. absurd (omega arith); within = All-nil (IsUpTo most) }

-- a text without a header
pub no_header : (text : List ℕ) → ((vars count : ℕ) (rest : List ℕ) → vars < 2 ^ 32 → count < 2 ^ 64 → text ≢ header_line vars count ++ rest) → IsFirstBadLine IsDimacs text 1
no_header text none = record {
  begins = (dimacs_text 0 [], (0, [], record { vars_fit = omega arith; count_fits = omega arith; clauses_fit = All-nil (IsClauseUpTo (highest_of 0)) }, refl), λ k lt. absurd (omega arith));
  breaks = λ good is agree.
      let f = is.2 in
      let head = header_line is.0 (length is.1) in
      let first : slice_get (lines_of text) 0 ≡ Some head =
      sym (agree 0 (omega arith)) ∙ ap (λ (t : List ℕ). slice_get (lines_of t) 0) is.3
      ∙ ap (λ (ls : List (List ℕ)). slice_get ls 0) (lines_cons head (flat_map clause_line is.1) (header_line-is is.0 (length is.1) (omega (arith, f.vars_fit)) f.count_fits)) in
      let begins = first_line text head first in
      none is.0 (length is.1) begins.0 f.vars_fit f.count_fits begins.1;
}

-- the line of a clause at a place
clause_at : (clauses : List (List Literal)) (place : ℕ) → place < length clauses → slice_get (map clause_line clauses) place ≡ Some (clause_line (get_or clauses place []))
clause_at clauses place lt =
    slice_get-get_or (map clause_line clauses) place [] (omega (arith, length-map clauses clause_line)) ∙ ap (λ (l : List ℕ). Some l) (get_or-map clause_line clauses place [] [] lt)

-- no other text agrees with this one on the line where reading stops
breaks_off : (most count done : ℕ) (rest : List ℕ) (others : List (List Literal)) → IsOff most count done rest → All (IsClauseUpTo most) others → length others ≡ count → done ≤ count
    → slice_get (map clause_line others ++ []) done ≡ slice_get (lines_of rest) 0 → ⊥
breaks_off most count done rest others off fits len le e =
    let e' : slice_get (map clause_line others) done ≡ slice_get (lines_of rest) 0 = ap (λ (ls : List (List ℕ)). slice_get ls done) (sym (append-nil (map clause_line others))) ∙ e in
    elim (cases_lt done count) [
      | inl lt ↦
          let within : done < length others = omega arith in
          let begins = first_line rest (clause_line (get_or others done [])) (sym e' ∙ clause_at others done within) in
          off.no_clause lt (get_or others done []) begins.0 (All-get_or (IsClauseUpTo most) others done [] within fits) begins.1
      | inr past ↦
          off.too_many past (no_first_line rest (sym e' ∙ slice_get_past (map clause_line others) done (omega (arith, length-map others clause_line))))
    ]

-- a text that agrees with this one so far has its header
same_head : (vars count : ℕ) (text other : List ℕ) (v : ℕ) (others : List (List Literal)) → vars < 2 ^ 32 → count < 2 ^ 64 → IsFormula v others → other ≡ dimacs_text v others
    → slice_get (lines_of other) 0 ≡ slice_get (lines_of (header_line vars count ++ text)) 0 → (v ≡ vars) × (length others ≡ count)
same_head vars count text other v others fits small f e agree =
    let head = header_line v (length others) in
    let theirs : slice_get (lines_of other) 0 ≡ Some head =
    ap (λ (t : List ℕ). slice_get (lines_of t) 0) e ∙ ap (λ (ls : List (List ℕ)). slice_get ls 0) (lines_cons head (flat_map clause_line others) (header_line-is v (length others) (omega (arith, f.vars_fit)) f.count_fits)) in
    let ours : slice_get (lines_of (header_line vars count ++ text)) 0 ≡ Some (header_line vars count) =
    ap (λ (ls : List (List ℕ)). slice_get ls 0) (lines_cons (header_line vars count) text (header_line-is vars count (omega arith) small)) in
    let same : head ≡ header_line vars count = same_Some head (header_line vars count) (sym theirs ∙ agree ∙ ours) in
    let both = one_header v vars (length others) count [] [] (omega (arith, f.vars_fit)) (omega arith) f.count_fits small (ap (λ (l : List ℕ). l ++ []) same) in
    (both.0, both.1)

breaks_on : (vars count : ℕ) (text : List ℕ) (line : ℕ) (stop : IsStop (highest_of vars) count text line) → vars < 2 ^ 32 → count < 2 ^ 64
    → (other : List ℕ) (v : ℕ) (others : List (List Literal)) → IsFormula v others → other ≡ dimacs_text v others → AgreeOn line other (header_line vars count ++ text) → ⊥
breaks_on vars count text line stop fits small other v others f e agree =
    let most = highest_of vars in
    let low = highest-small vars in
    let done = length stop.clauses in
    let front : List (List ℕ) = header_line vars count ∷ map clause_line stop.clauses in
    let front_length : length front ≡ suc done = ap suc (length-map stop.clauses clause_line) in
    let lines = lines_of_parts vars count most (omega arith) small low stop.clauses text stop.rest stop.fits stop.parts in
    let head = same_head vars count text other v others fits small f e (agree 0 (omega (arith, stop.line_is))) in
    let P : ℕ → Type 0 = λ v. All (IsClauseUpTo (highest_of v)) others in
    let each = subst P head.0 f.clauses_fit in
    let e' : other ≡ header_line vars count ++ flat_map clause_line others =
    e ∙ ap (λ (w : ℕ). header_line w (length others) ++ flat_map clause_line others) head.0 ∙ ap (λ (n : ℕ). header_line vars n ++ flat_map clause_line others) head.1 in
    let theirs = lines_of_parts vars count most (omega arith) small low others (flat_map clause_line others) [] each (sym (append-nil (flat_map clause_line others))) in
    let at : slice_get (lines_of other) (suc done) ≡ slice_get (lines_of stop.rest) 0 =
    agree (suc done) (omega (arith, stop.line_is)) ∙ ap (slice_get (lines_of (header_line vars count ++ text))) (sym front_length) ∙ line_behind (header_line vars count ++ text) front (lines_of stop.rest) lines in
    let at' : slice_get (map clause_line others ++ []) done ≡ slice_get (lines_of other) (suc done) =
    sym (ap (λ (t : List ℕ). slice_get (lines_of t) (suc done)) e' ∙ ap (λ (ls : List (List ℕ)). slice_get ls (suc done)) theirs) in
    breaks_off most count done stop.rest others stop.off each head.1 stop.few (at' ∙ at)

pub stop_is_bad : (vars count : ℕ) (text : List ℕ) (line : ℕ) → vars < 2 ^ 32 → count < 2 ^ 64 → IsStop (highest_of vars) count text line → IsFirstBadLine IsDimacs (header_line vars count ++ text) line
stop_is_bad vars count text line fits small stop =
    let most = highest_of vars in
    let low = highest-small vars in
    let done = length stop.clauses in
    let front : List (List ℕ) = header_line vars count ∷ map clause_line stop.clauses in
    let front_length : length front ≡ suc done = ap suc (length-map stop.clauses clause_line) in
    let lines = lines_of_parts vars count most (omega arith) small low stop.clauses text stop.rest stop.fits stop.parts in
    let fill : List (List Literal) = replicate (count - done) [] in
    let whole = stop.clauses ++ fill in
    let whole_length : length whole ≡ count = omega (arith, length-append stop.clauses fill, length-replicate {A = List Literal} (count - done) [], stop.few) in
    let whole_fits = All-append (IsClauseUpTo most) stop.clauses fill stop.fits (All-replicate (IsClauseUpTo most) (count - done) [] (empty_fits most)) in
    let good : List ℕ = header_line vars count ++ (flat_map clause_line stop.clauses ++ flat_map clause_line fill) in
    let good_is : good ≡ dimacs_text vars whole =
    ap (λ (t : List ℕ). header_line vars count ++ t) (sym (flat_map-append clause_line stop.clauses fill)) ∙ ap (λ (n : ℕ). header_line vars n ++ flat_map clause_line whole) (sym whole_length) in
    let good_lines = lines_of_parts vars count most (omega arith) small low stop.clauses (flat_map clause_line stop.clauses ++ flat_map clause_line fill) (flat_map clause_line fill) stop.fits refl in
    record {
      begins = (
        good,
        (vars, whole, record { vars_fit = fits; count_fits = omega (arith, whole_length); clauses_fit = whole_fits }, good_is),
        agree_behind good (header_line vars count ++ text) front (lines_of (flat_map clause_line fill)) (lines_of stop.rest) (line - 1) good_lines lines (omega (arith, stop.line_is, front_length)),
      );
      breaks = λ other is agree. breaks_on vars count text line stop fits small other is.0 is.1 is.2 is.3 agree;
    }

pub stop_no_clause : (most count done line : ℕ) (text rest : List ℕ) (clauses : List (List Literal)) → text ≡ flat_map clause_line clauses ++ rest → length clauses ≡ done → done < count → line ≡ done + 2 → All (IsClauseUpTo most) clauses
    → ((clause : List Literal) (more : List ℕ) → IsClauseUpTo most clause → rest ≢ clause_line clause ++ more) → IsStop most count text line
stop_no_clause most count done line text rest clauses read counted lt line-is fits none = record {
  clauses = clauses;
  rest = rest;
  parts = read;
  line_is = omega arith;
  few = omega arith;
  fits = fits;
  off = record { no_clause = λ below. none; too_many = λ past. absurd (omega arith) };
}

pub stop_too_many : (most count done line : ℕ) (text rest : List ℕ) (clauses : List (List Literal)) → text ≡ flat_map clause_line clauses ++ rest → length clauses ≡ done → done ≡ count → line ≡ count + 2 → All (IsClauseUpTo most) clauses
    → rest ≢ [] → IsStop most count text line
stop_too_many most count done line text rest clauses read counted end line-is fits more = record {
  clauses = clauses;
  rest = rest;
  parts = read;
  line_is = omega arith;
  few = omega arith;
  fits = fits;
  off = record { no_clause = λ below. absurd (omega arith); too_many = λ past. more };
}

-- a clause more
pub read_more : (clauses more : List (List Literal)) (clause lits : List Literal) (text rest after : List ℕ) → text ≡ flat_map clause_line clauses ++ rest → rest ≡ clause_line lits ++ after → clause ≡ lits → more ≡ clauses ++ clause ∷ []
    → text ≡ flat_map clause_line more ++ after
read_more clauses more clause lits text rest after read line same pushed =
    let all : flat_map clause_line more ≡ flat_map clause_line clauses ++ clause_line lits =
    ap (flat_map clause_line) (pushed ∙ ap (λ (c : List Literal). clauses ++ c ∷ []) same) ∙ flat_map-append clause_line clauses (lits ∷ []) ∙ ap (λ (t : List ℕ). flat_map clause_line clauses ++ t) (append-nil (clause_line lits)) in
    read ∙ ap (λ (t : List ℕ). flat_map clause_line clauses ++ t) line ∙ sym (append_assoc (flat_map clause_line clauses) (clause_line lits) after) ∙ ap (λ (t : List ℕ). t ++ after) (sym all)

-- a formula's literals are of its variables
pub within_vars : (vars : ℕ) (clauses : List (List Literal)) → All (IsClauseUpTo (highest_of vars)) clauses → All (λ clause. All (λ l. l.var ≤ vars) clause) clauses
within_vars vars clauses fits = All-weaker (IsClauseUpTo (highest_of vars)) (λ clause. All (λ l. l.var ≤ vars) clause)
    (λ clause each. All-weaker (IsUpTo (highest_of vars)) (λ l. l.var ≤ vars) (λ l up. omega (arith, up.1)) clause each.within) clauses fits

-- what is in the grammar has no bad line, so it is read as the formula that it is the text of
pub read_again : (text : List ℕ) (result : Result Formula TextErr) → IfOk result (λ f. text ≡ dimacs_text f.vars f.clauses) → IfOk result (λ f. IsFormula f.vars f.clauses)
    → ((line : ℕ) → IsErrOf result (At line) → IsFirstBadLine IsDimacs text line)
    → (vars : ℕ) (clauses : List (List Literal)) → IsFormula vars clauses → text ≡ dimacs_text vars clauses → MatchResult result (λ f. (f.vars ≡ vars) × (f.clauses ≡ clauses)) (λ e. e ≡ Memory)
read_again text (Ok f) read own bad vars clauses fits e = one_formula f.vars vars f.clauses clauses own fits (sym read ∙ e)
read_again text (Err (At line)) read own bad vars clauses fits e = absurd ((bad line refl).breaks text (vars, clauses, fits, e) (λ k lt. refl))
read_again text (Err Memory) read own bad vars clauses fits e = refl

-- a clause more that fits its type and a formula's variables
pub fits_more : (vars : ℕ) (clauses : List (List Literal)) (place : ℕ) (clause : List Literal) → slice_get clauses place ≡ Some clause → IsClause clause → All (IsUpTo (2 ^ 31 - 1)) clause → All (λ clause. All (λ l. l.var ≤ vars) clause) clauses
    → All (IsClauseUpTo (highest_of vars)) (take place clauses) → All (IsClauseUpTo (highest_of vars)) (take (place + 1) clauses)
fits_more vars clauses place clause at ordered range within before =
    let inside = slice_get_within clauses place clause at in
    let same : get_or clauses place clause ≡ clause = get_or_from_slice_get clauses place clause clause at in
    let P : List Literal → Type 0 = λ clause. All (λ l. l.var ≤ vars) clause in
    let below : P clause = subst P same (within place clause inside) in
    let fit : IsClauseUpTo (highest_of vars) clause = record { ordered = ordered; within = λ k d lt. ((range k d lt).0, omega (arith, (range k d lt).1, below k d lt)) } in
    All-more (IsClauseUpTo (highest_of vars)) clauses place clause inside before (subst (IsClauseUpTo (highest_of vars)) (sym same) fit)
