-- A text is read as a job exactly where it asks for this job.
use Rattle.std.proofs.Common.{◌≡◌, ◌≢◌, ℕ, zero, suc, ◌+◌, ◌-◌, ◌*◌, ◌/◌, ◌%◌, ◌^◌, ◌<◌, ◌≤◌, Bool, true, false, cond, not, ◌&&◌, ltb, leb, List, [], ◌∷◌, ◌++◌, length, get_or, take, drop, Option, Some, None, refl, sym, ap, subst, ◌∙◌, inl, inr, append_assoc, drop-cons, arith, length-append}
use Rattle.std.specs.Prelude.{codes, decimal, All, slice_get, ◌==◌}
use Rattle.std.specs.List.{list_all}
use Rattle.std.specs.Bool.{Decides}
use Rattle.std.proofs.lemmas.Bool.{and_parts, cases_lt, lt-ltb, le-ltb, le-leb, leb-true, ltb-true, eqb-true, ne_eqb}
use Rattle.std.proofs.lemmas.Bool.Decides.{Decides-by_and, Decides-and, Decides-or, Decides-eqb, nat_tests}
use Rattle.std.proofs.lemmas.List.{take-append-drop, take_at, nil_from_length}
use Rattle.std.proofs.Math.Seq.{get_or-append_seam}
use Rattle.std.proofs.Math.ListN.{drop_of_length-le}
use Rattle.std.proofs.lemmas.List.Folds.{list_all-append}
use Rattle.std.proofs.lemmas.Option.{cond_some, same_Some, none-some}
use Rattle.std.proofs.lemmas.Fmt.{AppendsLastDigit, decimal_digit, decimal_from_appends}
use Rattle.eq_names.specs.Name.{IsNameByte}
use Rattle.eq_first.specs.declared.job.Side.{Side}
use Rattle.eq_first.specs.declared.job.Job.{Job}
use Rattle.eq_first.specs.Configuration.{IsShort, IsStrategyByte, IsSide, IsJob}
use Rattle.eq_first.specs.JobWords.{HasNames}
use Rattle.eq_first.specs.Lines.{◌>>=◌, behind_at, fixed_at, is_name_byte, is_short, is_file, is_strategy_byte, is_strategy, side_at, unclosed, strategy_at, depth_of, depth_at, design_at, job_at}
use Rattle.eq_first.proofs.Texts.{bind_some, no_feed, behind_takes, behind_again, fixed_takes, fixed_again}

-- a test that was passed
pub guarded : {A : Type 0} (b : Bool) (o : Option A) (y : A) → cond b o None ≡ Some y → (b ≡ true) × (o ≡ Some y)
guarded true o y e = (refl, e)
guarded false o y e = absurd cc

-- ---- numbers

-- the digits of a number that has at most k
abbrev written : ℕ → ℕ → List ℕ
written zero n = []
written (suc k) n = cond (ltb n 10) ((48 + n) ∷ []) (written k (n / 10) ++ (48 + n % 10) ∷ [])

written_appends : AppendsLastDigit written
written_appends = record { one = λ k n lt. rw (lt-ltb n 10 lt) refl; more = λ k n le. rw (le-ltb n 10 le) refl }

one_digit : (n : ℕ) → n < 10 → decimal n ≡ (48 + n) ∷ []
one_digit n lt = decimal_digit n lt

two_digits : (n : ℕ) → 10 ≤ n → n < 100 → decimal n ≡ (48 + n / 10) ∷ (48 + n % 10) ∷ []
two_digits n le lt =
    let k = length (decimal n) in
    let small : n < 2 ^ 64 = omega arith in
    let long : k ≤ suc (suc k) = omega arith in
    sym (decimal_from_appends written written_appends (suc (suc k)) n small long) ∙ rw (le-ltb n 10 le, lt-ltb (n / 10) 10 (omega arith)) refl

tens_of : (t u n : ℕ) → u < 10 → n ≡ 10 * t + u → (n / 10 ≡ t) × (n % 10 ≡ u)
tens_of t u n lt e = (omega arith, omega arith)

pub depth_takes : (digits : List ℕ) (n : ℕ) → depth_of digits ≡ Some n → (digits ≡ decimal n) × (1 ≤ n) × (n ≤ 64)
unfolding depth_of
depth_takes [] n e = absurd cc
depth_takes (a ∷ []) n e =
    let g = cond_some (leb 49 a && leb a 57) (a - 48) n e in
    let p = and_parts (leb 49 a) (leb a 57) g.0 in
    let low = leb-true 49 a p.0 in
    let high = leb-true a 57 p.1 in
    let small : n < 10 = omega arith in
    let digit : 48 + n ≡ a = omega arith in
    (sym (one_digit n small ∙ rw digit refl), omega arith, omega arith)
depth_takes (a ∷ b ∷ []) n e =
    let m = 10 * (a - 48) + (b - 48) in
    let g = cond_some (leb 49 a && leb a 54 && leb 48 b && leb b 57 && leb m 64) m n e in
    let p = and_parts (leb 49 a && leb a 54 && leb 48 b && leb b 57) (leb m 64) g.0 in
    let q = and_parts (leb 49 a && leb a 54 && leb 48 b) (leb b 57) p.0 in
    let r = and_parts (leb 49 a && leb a 54) (leb 48 b) q.0 in
    let s = and_parts (leb 49 a) (leb a 54) r.0 in
    let a_low = leb-true 49 a s.0 in
    let a_high = leb-true a 54 s.1 in
    let b_low = leb-true 48 b r.1 in
    let b_high = leb-true b 57 q.1 in
    let small = leb-true m 64 p.1 in
    let same : n ≡ 10 * (a - 48) + (b - 48) = sym g.1 in
    let parts = tens_of (a - 48) (b - 48) n (omega arith) same in
    let first : 48 + n / 10 ≡ a = omega arith in
    let second : 48 + n % 10 ≡ b = omega arith in
    (sym (two_digits n (omega arith) (omega arith) ∙ rw (first, second) refl), omega arith, omega arith)
depth_takes (a ∷ b ∷ c ∷ ds) n e = absurd cc

pub depth_again : (n : ℕ) → 1 ≤ n → n ≤ 64 → depth_of (decimal n) ≡ Some n
unfolding depth_of
depth_again n low high =
    elim (cases_lt n 10) [
      | inl lt ↦ rw (one_digit n lt) (rw (le-leb 49 (48 + n) (omega arith), le-leb (48 + n) 57 (omega arith)) (ap Some (omega arith)))
      | inr le ↦
          let value : 10 * (48 + n / 10 - 48) + (48 + n % 10 - 48) ≡ n = omega arith in
          rw (two_digits n le (omega arith)) (rw (le-leb 49 (48 + n / 10) (omega arith), le-leb (48 + n / 10) 54 (omega arith), le-leb 48 (48 + n % 10) (omega arith), le-leb (48 + n % 10) 57 (omega arith), value, le-leb n 64 high) refl)
    ]

-- ---- names

name_byte-Decides : (b : ℕ) → Decides (is_name_byte b) (IsNameByte b)
name_byte-Decides b = (λ e. let p = and_parts (leb 0x21 b) (leb b 0x7E) e in (leb-true 0x21 b p.0, leb-true b 0x7E p.1), λ h. rw (le-leb 0x21 b h.0, le-leb b 0x7E h.1) refl)

names-Decides : (name : List ℕ) → Decides (list_all is_name_byte name) (All IsNameByte name)
names-Decides = Decides-by_and is_name_byte IsNameByte (list_all is_name_byte) name_byte-Decides refl (λ _ _. refl)

filled : (xs : List ℕ) → 0 < length xs → xs ≢ []
filled [] lt e = absurd (omega arith)
filled (x ∷ xs) lt e = absurd cc

some_long : (xs : List ℕ) → xs ≢ [] → 0 < length xs
some_long [] h = absurd (h refl)
some_long (x ∷ xs) h = omega arith

pub short_is : (name : List ℕ) → is_short name ≡ true → IsShort name
unfolding is_short
short_is name e =
    let p = and_parts (ltb 0 (length name) && leb (length name) 1024) (list_all is_name_byte name) e in
    let q = and_parts (ltb 0 (length name)) (leb (length name) 1024) p.0 in
    (record { some = filled name (ltb-true _ _ q.0); bytes = (names-Decides name).0 p.1 }, leb-true _ _ q.1)

pub is_short_from : (name : List ℕ) → IsShort name → is_short name ≡ true
unfolding is_short
is_short_from name h = rw (lt-ltb 0 (length name) (some_long name h.0.some), le-leb (length name) 1024 h.1, (names-Decides name).1 h.0.bytes) refl

pub not_true : (b : Bool) → not b ≡ true → b ≡ false
not_true true e = absurd cc
not_true false e = refl

dash_is : (name : List ℕ) → (get_or name 0 0 == 45) ≡ false → slice_get name 0 ≢ Some 45
dash_is [] e h = absurd cc
dash_is (x ∷ xs) e h = let x45 : x ≡ 45 = same_Some x 45 h in absurd (grind (arith, nat_tests))

no_dash_from : (name : List ℕ) → slice_get name 0 ≢ Some 45 → (get_or name 0 0 == 45) ≡ false
no_dash_from [] h = refl
no_dash_from (x ∷ xs) h = ne_eqb x 45 (λ e. h (ap Some e))

file_is : (name : List ℕ) → is_file name ≡ true → IsShort name × (slice_get name 0 ≢ Some 45)
unfolding is_file
file_is name e =
    let p = and_parts (is_short name) (not (get_or name 0 0 == 45)) e in
    (short_is name p.0, dash_is name (not_true _ p.1))

is_file_from : (name : List ℕ) → IsShort name → slice_get name 0 ≢ Some 45 → is_file name ≡ true
unfolding is_file
is_file_from name h d = rw (is_short_from name h, no_dash_from name d) refl

-- a name has no line feed
feed_free : (b : ℕ) → is_name_byte b ≡ true → not (b == 10) ≡ true
feed_free b e = let h = (name_byte-Decides b).0 e in rw (ne_eqb b 10 (λ (f : b ≡ 10). absurd (omega (arith, h.0)))) refl

no_feed_by : (p : ℕ → Bool) → ((b : ℕ) → p b ≡ true → not (b == 10) ≡ true) → (xs : List ℕ) → list_all p xs ≡ true → no_feed xs ≡ true
no_feed_by p free [] e = refl
no_feed_by p free (x ∷ xs) e = let q = and_parts (p x) (list_all p xs) e in rw (free x q.0, no_feed_by p free xs q.1) refl

name_feed : (name : List ℕ) → IsShort name → no_feed name ≡ true
name_feed name h = no_feed_by is_name_byte feed_free name ((names-Decides name).1 h.0.bytes)

no_feed-append : (xs ys : List ℕ) → no_feed xs ≡ true → no_feed ys ≡ true → no_feed (xs ++ ys) ≡ true
no_feed-append xs ys h k = list_all-append (λ b. not (b == 10)) xs ys ∙ rw (h, k) refl

-- ---- a side

pub side_takes : (text : List ℕ) (side : Side) (rest : List ℕ) → side_at text ≡ Some (side, rest)
    → IsSide side × (text ≡ (codes "read_verilog " ++ side.file) ++ 10 ∷ ((codes "prep -top " ++ side.top) ++ 10 ∷ rest))
unfolding side_at
side_takes text side rest e =
    let a = bind_some (behind_at (codes "read_verilog ") text) (λ file. behind_at (codes "prep -top ") file.1 >>= λ top. cond (is_file file.0) (cond (is_short top.0) (Some (record { file = file.0; top = top.0 }, top.1)) None) None) (side, rest) e in
    let b = bind_some (behind_at (codes "prep -top ") a.0.1) (λ top. cond (is_file a.0.0) (cond (is_short top.0) (Some (record { file = a.0.0; top = top.0 }, top.1)) None) None) (side, rest) a.2 in
    let g = guarded (is_file a.0.0) (cond (is_short b.0.0) (Some (record { file = a.0.0; top = b.0.0 }, b.0.1)) None) (side, rest) b.2 in
    let h = cond_some (is_short b.0.0) (record { file = a.0.0; top = b.0.0 }, b.0.1) (side, rest) g.1 in
    let one = behind_takes (codes "read_verilog ") text a.0.0 a.0.1 a.1 in
    let two = behind_takes (codes "prep -top ") a.0.1 b.0.0 b.0.1 b.1 in
    let file = file_is a.0.0 g.0 in
    let P : Side × List ℕ → Type 0 = λ r. IsSide r.0 × (text ≡ (codes "read_verilog " ++ r.0.file) ++ 10 ∷ ((codes "prep -top " ++ r.0.top) ++ 10 ∷ r.1)) in
    subst P h.1 (record { file = file.0; no_dash = file.1; top = short_is b.0.0 h.0 }, one ∙ ap (λ (t : List ℕ). (codes "read_verilog " ++ a.0.0) ++ 10 ∷ t) two)

pub side_again : (side : Side) (rest : List ℕ) → IsSide side
    → side_at ((codes "read_verilog " ++ side.file) ++ 10 ∷ ((codes "prep -top " ++ side.top) ++ 10 ∷ rest)) ≡ Some (side, rest)
unfolding side_at
side_again side rest h =
    let one = behind_again (codes "read_verilog ") side.file ((codes "prep -top " ++ side.top) ++ 10 ∷ rest) (no_feed-append (codes "read_verilog ") side.file refl (name_feed side.file h.file)) in
    let two = behind_again (codes "prep -top ") side.top rest (no_feed-append (codes "prep -top ") side.top refl (name_feed side.top h.top)) in
    ap (λ (o : Option (List ℕ × List ℕ)). o >>= λ file. behind_at (codes "prep -top ") file.1 >>= λ top. cond (is_file file.0) (cond (is_short top.0) (Some (record { file = file.0; top = top.0 }, top.1)) None) None) one
    ∙ ap (λ (o : Option (List ℕ × List ℕ)). o >>= λ top. cond (is_file side.file) (cond (is_short top.0) (Some (record { file = side.file; top = top.0 }, top.1)) None) None) two
    ∙ rw (is_file_from side.file h.file h.no_dash, is_short_from side.top h.top) refl

-- ---- the strategy

leb-Decides : (a b : ℕ) → Decides (leb a b) (a ≤ b)
leb-Decides a b = (leb-true a b, le-leb a b)

strategy_byte-Decides : (b : ℕ) → Decides (is_strategy_byte b) (IsStrategyByte b)
strategy_byte-Decides b =
    Decides-or (leb 48 b && leb b 57) _ (Decides-and (leb 48 b) (leb b 57) (leb-Decides 48 b) (leb-Decides b 57))
    (Decides-or (leb 65 b && leb b 90) _ (Decides-and (leb 65 b) (leb b 90) (leb-Decides 65 b) (leb-Decides b 90))
    (Decides-or (leb 97 b && leb b 122) _ (Decides-and (leb 97 b) (leb b 122) (leb-Decides 97 b) (leb-Decides b 122))
    (Decides-or (b == 95) (b == 45) (Decides-eqb b 95) (Decides-eqb b 45))))

strategies-Decides : (name : List ℕ) → Decides (list_all is_strategy_byte name) (All IsStrategyByte name)
strategies-Decides = Decides-by_and is_strategy_byte IsStrategyByte (list_all is_strategy_byte) strategy_byte-Decides refl (λ _ _. refl)

strategy_free : (b : ℕ) → is_strategy_byte b ≡ true → not (b == 10) ≡ true
strategy_free b e = let h = (strategy_byte-Decides b).0 e in rw (ne_eqb b 10 (λ (f : b ≡ 10). absurd (grind arith))) refl

name_of_strategy : (b : ℕ) → IsStrategyByte b → IsNameByte b
name_of_strategy b h = grind arith

pub record IsStrategy (name : List ℕ) : Type 0 where
  pub bytes : All IsStrategyByte name
  pub named : name ≢ []
  pub short : length name ≤ 1024

strategy_is : (name : List ℕ) → is_strategy name ≡ true → IsStrategy name
unfolding is_strategy
strategy_is name e =
    let p = and_parts (ltb 0 (length name) && leb (length name) 1024) (list_all is_strategy_byte name) e in
    let q = and_parts (ltb 0 (length name)) (leb (length name) 1024) p.0 in
    record { bytes = (strategies-Decides name).0 p.1; named = filled name (ltb-true _ _ q.0); short = leb-true _ _ q.1 }

is_strategy_from : (name : List ℕ) → IsStrategy name → is_strategy name ≡ true
unfolding is_strategy
is_strategy_from name h = rw (lt-ltb 0 (length name) (some_long name h.named), le-leb (length name) 1024 h.short, (strategies-Decides name).1 h.bytes) refl

unclosed_takes : (line name : List ℕ) → unclosed line ≡ Some name → line ≡ name ++ 93 ∷ []
unfolding unclosed
unclosed_takes line name e =
    let n = length line - 1 in
    let g = cond_some (ltb 0 (length line) && (get_or line n 0 == 93)) (take n line) name e in
    let p = and_parts (ltb 0 (length line)) (get_or line n 0 == 93) g.0 in
    let some : 0 < length line = ltb-true _ _ p.0 in
    let inside : n < length line = omega arith in
    let bracket : get_or line n 0 ≡ 93 = eqb-true _ _ p.1 in
    let none : drop (suc n) line ≡ [] = drop_of_length-le line {i = suc n} (omega arith) in
    let end : drop n line ≡ 93 ∷ [] = drop-cons line n 0 inside ∙ rw (bracket, none) refl in
    sym (take-append-drop n line) ∙ rw (g.1, end) refl

unclosed_again : (name : List ℕ) → unclosed (name ++ 93 ∷ []) ≡ Some name
unfolding unclosed
unclosed_again name =
    let long : length (name ++ 93 ∷ []) ≡ suc (length name) = omega (arith, length-append name (93 ∷ [])) in
    let before : length (name ++ 93 ∷ []) - 1 ≡ length name = omega arith in
    rw (before, get_or-append_seam name 93 [] 0, lt-ltb 0 (length (name ++ 93 ∷ [])) (omega arith), take_at name (93 ∷ []) (length name) refl) refl

pub strategy_takes : (text name rest : List ℕ) → strategy_at text ≡ Some (name, rest)
    → IsStrategy name × (text ≡ ((codes "[strategy " ++ name) ++ codes "]") ++ 10 ∷ rest)
unfolding strategy_at
strategy_takes text name rest e =
    let a = bind_some (behind_at (codes "[strategy ") text) (λ tail. unclosed tail.0 >>= λ n. cond (is_strategy n) (Some (n, tail.1)) None) (name, rest) e in
    let b = bind_some (unclosed a.0.0) (λ n. cond (is_strategy n) (Some (n, a.0.1)) None) (name, rest) a.2 in
    let g = cond_some (is_strategy b.0) (b.0, a.0.1) (name, rest) b.2 in
    let line = behind_takes (codes "[strategy ") text a.0.0 a.0.1 a.1 in
    let closed : codes "[strategy " ++ a.0.0 ≡ (codes "[strategy " ++ b.0) ++ codes "]" = ap (λ (t : List ℕ). codes "[strategy " ++ t) (unclosed_takes a.0.0 b.0 b.1) ∙ sym (append_assoc (codes "[strategy ") b.0 (codes "]")) in
    let P : List ℕ × List ℕ → Type 0 = λ r. IsStrategy r.0 × (text ≡ ((codes "[strategy " ++ r.0) ++ codes "]") ++ 10 ∷ r.1) in
    subst P g.1 (strategy_is b.0 g.0, line ∙ ap (λ (t : List ℕ). t ++ 10 ∷ a.0.1) closed)

pub strategy_again : (name rest : List ℕ) → IsStrategy name → strategy_at (((codes "[strategy " ++ name) ++ codes "]") ++ 10 ∷ rest) ≡ Some (name, rest)
unfolding strategy_at
strategy_again name rest h =
    let free = no_feed-append name (codes "]") (no_feed_by is_strategy_byte strategy_free name ((strategies-Decides name).1 h.bytes)) refl in
    let one = behind_again (codes "[strategy ") (name ++ codes "]") rest (no_feed-append (codes "[strategy ") (name ++ codes "]") refl free) in
    let shown : behind_at (codes "[strategy ") (((codes "[strategy " ++ name) ++ codes "]") ++ 10 ∷ rest) ≡ Some (name ++ codes "]", rest) =
    ap (λ (t : List ℕ). behind_at (codes "[strategy ") (t ++ 10 ∷ rest)) (append_assoc (codes "[strategy ") name (codes "]")) ∙ one in
    ap (λ (o : Option (List ℕ × List ℕ)). o >>= λ tail. unclosed tail.0 >>= λ n. cond (is_strategy n) (Some (n, tail.1)) None) shown
    ∙ ap (λ (o : Option (List ℕ)). o >>= λ n. cond (is_strategy n) (Some (n, rest)) None) (unclosed_again name)
    ∙ rw (is_strategy_from name h) refl

-- ---- the whole

abbrev design_text : List ℕ → Side → List ℕ → List ℕ
design_text heading side rest = heading ++ 10 ∷ ((codes "read_verilog " ++ side.file) ++ 10 ∷ ((codes "prep -top " ++ side.top) ++ 10 ∷ rest))

design_takes : (heading text : List ℕ) (side : Side) (rest : List ℕ) → design_at heading text ≡ Some (side, rest) → IsSide side × (text ≡ design_text heading side rest)
unfolding design_at
design_takes heading text side rest e =
    let a = bind_some (fixed_at heading text) side_at (side, rest) e in
    let b = side_takes a.0 side rest a.2 in
    (b.0, fixed_takes heading text a.0 a.1 ∙ ap (λ (t : List ℕ). heading ++ 10 ∷ t) b.1)

design_again : (heading : List ℕ) (side : Side) (rest : List ℕ) → no_feed heading ≡ true → IsSide side → design_at heading (design_text heading side rest) ≡ Some (side, rest)
unfolding design_at
design_again heading side rest free h =
    ap (λ (o : Option (List ℕ)). o >>= side_at) (fixed_again heading ((codes "read_verilog " ++ side.file) ++ 10 ∷ ((codes "prep -top " ++ side.top) ++ 10 ∷ rest)) free) ∙ side_again side rest h

both : {a b c d : List ℕ} → a ≡ c → b ≡ d → ◌≡◌ {A = List ℕ × List ℕ} (a, b) (c, d)
both e f = cc

decimal_feed : (n : ℕ) → n < 100 → no_feed (decimal n) ≡ true
decimal_feed n lt =
    elim (cases_lt n 10) [
      | inl small ↦ rw (one_digit n small, ne_eqb (48 + n) 10 (λ (f : 48 + n ≡ 10). absurd (omega arith))) refl
      | inr le ↦ rw (two_digits n le lt, ne_eqb (48 + n / 10) 10 (λ (f : 48 + n / 10 ≡ 10). absurd (omega arith)), ne_eqb (48 + n % 10) 10 (λ (f : 48 + n % 10 ≡ 10). absurd (omega arith))) refl
    ]

abbrev depth_text : ℕ → List ℕ
depth_text n = (codes "depth " ++ decimal n) ++ 10 ∷ []

depth_line_takes : (text : List ℕ) (n : ℕ) → depth_at text ≡ Some n → (text ≡ depth_text n) × (1 ≤ n) × (n ≤ 64)
unfolding depth_at
depth_line_takes text n e =
    let a = bind_some (behind_at (codes "depth ") text) (λ line. depth_of line.0 >>= λ number. cond (length line.1 == 0) (Some number) None) n e in
    let b = bind_some (depth_of a.0.0) (λ number. cond (length a.0.1 == 0) (Some number) None) n a.2 in
    let g = cond_some (length a.0.1 == 0) b.0 n b.2 in
    let none : a.0.1 ≡ [] = nil_from_length a.0.1 (eqb-true _ _ g.0) in
    let digits = depth_takes a.0.0 b.0 b.1 in
    let P : ℕ → Type 0 = λ m. (text ≡ depth_text m) × (1 ≤ m) × (m ≤ 64) in
    subst P g.1 (behind_takes (codes "depth ") text a.0.0 a.0.1 a.1 ∙ ap (λ (p : List ℕ × List ℕ). (codes "depth " ++ p.0) ++ 10 ∷ p.1) (both digits.0 none), digits.1, digits.2)

depth_line_again : (n : ℕ) → 1 ≤ n → n ≤ 64 → depth_at (depth_text n) ≡ Some n
unfolding depth_at
depth_line_again n low high =
    let free = no_feed-append (codes "depth ") (decimal n) refl (decimal_feed n (omega arith)) in
    ap (λ (o : Option (List ℕ × List ℕ)). o >>= λ line. depth_of line.0 >>= λ number. cond (length line.1 == 0) (Some number) None) (behind_again (codes "depth ") (decimal n) [] free)
    ∙ ap (λ (o : Option ℕ). o >>= λ number. cond (length {A = ℕ} [] == 0) (Some number) None) (depth_again n low high)

strategy_of : {job : Job} (text : List ℕ) → IsJob text job → IsStrategy job.strategy
strategy_of text h = record { bytes = h.strategy; named = h.named; short = h.short }

pub job_takes : (text : List ℕ) (job : Job) → job_at text ≡ Some job → IsJob text job
unfolding job_at
job_takes text job e =
    let a = bind_some (design_at (codes "[gold]") text) (λ gold. design_at (codes "[gate]") gold.1 >>= λ gate. strategy_at gate.1 >>= λ strategy. fixed_at (codes "use sat") strategy.1 >>= λ rest. depth_at rest >>= λ depth. Some (record { gold = gold.0; gate = gate.0; strategy = strategy.0; depth = depth })) job e in
    let b = bind_some (design_at (codes "[gate]") a.0.1) (λ gate. strategy_at gate.1 >>= λ strategy. fixed_at (codes "use sat") strategy.1 >>= λ rest. depth_at rest >>= λ depth. Some (record { gold = a.0.0; gate = gate.0; strategy = strategy.0; depth = depth })) job a.2 in
    let c = bind_some (strategy_at b.0.1) (λ strategy. fixed_at (codes "use sat") strategy.1 >>= λ rest. depth_at rest >>= λ depth. Some (record { gold = a.0.0; gate = b.0.0; strategy = strategy.0; depth = depth })) job b.2 in
    let d = bind_some (fixed_at (codes "use sat") c.0.1) (λ rest. depth_at rest >>= λ depth. Some (record { gold = a.0.0; gate = b.0.0; strategy = c.0.0; depth = depth })) job c.2 in
    let f = bind_some (depth_at d.0) (λ depth. Some (record { gold = a.0.0; gate = b.0.0; strategy = c.0.0; depth = depth })) job d.2 in
    let gold = design_takes (codes "[gold]") text a.0.0 a.0.1 a.1 in
    let gate = design_takes (codes "[gate]") a.0.1 b.0.0 b.0.1 b.1 in
    let strategy = strategy_takes b.0.1 c.0.0 c.0.1 c.1 in
    let solver = fixed_takes (codes "use sat") c.0.1 d.0 d.1 in
    let depth = depth_line_takes d.0 f.0 f.1 in
    let from_solver : c.0.1 ≡ codes "use sat" ++ 10 ∷ depth_text f.0 = solver ∙ ap (λ (t : List ℕ). codes "use sat" ++ 10 ∷ t) depth.0 in
    let from_strategy : b.0.1 ≡ ((codes "[strategy " ++ c.0.0) ++ codes "]") ++ 10 ∷ (codes "use sat" ++ 10 ∷ depth_text f.0) = strategy.1 ∙ ap (λ (t : List ℕ). ((codes "[strategy " ++ c.0.0) ++ codes "]") ++ 10 ∷ t) from_solver in
    let from_gate : a.0.1 ≡ design_text (codes "[gate]") b.0.0 (((codes "[strategy " ++ c.0.0) ++ codes "]") ++ 10 ∷ (codes "use sat" ++ 10 ∷ depth_text f.0)) = gate.1 ∙ ap (λ (t : List ℕ). design_text (codes "[gate]") b.0.0 t) from_strategy in
    let all = gold.1 ∙ ap (λ (t : List ℕ). design_text (codes "[gold]") a.0.0 t) from_gate in
    let P : Job → Type 0 = λ j. IsJob text j in
    subst P (same_Some _ job f.2) (record { gold = gold.0; gate = gate.0; strategy = strategy.0.bytes; named = strategy.0.named; short = strategy.0.short; positive = depth.1; at_most = depth.2; lines = all })

pub job_again : (text : List ℕ) (job : Job) → IsJob text job → job_at text ≡ Some job
unfolding job_at
job_again text job h =
    let last = depth_text job.depth in
    let solver = codes "use sat" ++ 10 ∷ last in
    let strategy = ((codes "[strategy " ++ job.strategy) ++ codes "]") ++ 10 ∷ solver in
    let gate = design_text (codes "[gate]") job.gate strategy in
    ap job_at h.lines
    ∙ ap (λ (o : Option (Side × List ℕ)). o >>= λ gold. design_at (codes "[gate]") gold.1 >>= λ gate. strategy_at gate.1 >>= λ strategy. fixed_at (codes "use sat") strategy.1 >>= λ rest. depth_at rest >>= λ depth. Some (record { gold = gold.0; gate = gate.0; strategy = strategy.0; depth = depth })) (design_again (codes "[gold]") job.gold gate refl h.gold)
    ∙ ap (λ (o : Option (Side × List ℕ)). o >>= λ gate. strategy_at gate.1 >>= λ strategy. fixed_at (codes "use sat") strategy.1 >>= λ rest. depth_at rest >>= λ depth. Some (record { gold = job.gold; gate = gate.0; strategy = strategy.0; depth = depth })) (design_again (codes "[gate]") job.gate strategy refl h.gate)
    ∙ ap (λ (o : Option (List ℕ × List ℕ)). o >>= λ strategy. fixed_at (codes "use sat") strategy.1 >>= λ rest. depth_at rest >>= λ depth. Some (record { gold = job.gold; gate = job.gate; strategy = strategy.0; depth = depth })) (strategy_again job.strategy solver (strategy_of text h))
    ∙ ap (λ (o : Option (List ℕ)). o >>= λ rest. depth_at rest >>= λ depth. Some (record { gold = job.gold; gate = job.gate; strategy = job.strategy; depth = depth })) (fixed_again (codes "use sat") last refl)
    ∙ ap (λ (o : Option ℕ). o >>= λ depth. Some (record { gold = job.gold; gate = job.gate; strategy = job.strategy; depth = depth })) (depth_line_again job.depth h.positive h.at_most)

-- the strategy's name is a name
pub job_names : (text : List ℕ) (job : Job) → IsJob text job → HasNames job
job_names text job h = record { gold = h.gold; gate = h.gate; strategy = record { some = h.named; bytes = λ k d lt. name_of_strategy _ (h.strategy k d lt) } }

pub none_read : (text : List ℕ) → job_at text ≡ None → (job : Job) → IsJob text job → ⊥
none_read text e job h = none-some job (sym e ∙ job_again text job h)

pub same_job : (text : List ℕ) (a b : Job) → IsJob text a → IsJob text b → a ≡ b
same_job text a b h k = same_Some a b (sym (job_again text a h) ∙ job_again text b k)
