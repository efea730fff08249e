-- The words of concatenations and of repeats.
use Rattle.std.proofs.Common.{◌≡◌, ℕ, zero, suc, ◌+◌, ◌-◌, ◌*◌, ◌%◌, ◌<◌, ◌≤◌, Bool, true, false, nat_lt, ◌&&◌, cond, List, [], ◌∷◌, length, slice_get, Option, Some, None, refl, arith, sym, ap, ap₂, subst, ◌∙◌, inl, inr}
use Rattle.std.proofs.Math.Nat.{mod-eq_of_lt, mod-lt, mul-zero}
use Rattle.std.proofs.Math.Path.{fun_ext}
use Rattle.std.proofs.lemmas.Bool.{cases_lt}
use Rattle.eq_model.specs.System.{Values}
use Rattle.eq_net.specs.declared.types.NetInfo.{NetInfo}
use Rattle.eq_net.specs.declared.types.WordBit.{WordBit}
use Rattle.eq_net.specs.Tree as word
use Rattle.eq_net.specs.Tree.{Tree}
use Rattle.eq_net.specs.Meaning.{if_there, width, bit_of, reads_of, copy_in}
use Rattle.eq_net.specs.Net.{HasWordBit, IsWord, number_of, word_at}
use Rattle.eq_verilog.specs.Trees.{ExprTree, const, net, bit, part, empty, joined, repeated, unary, binary, choice, join_all}
use Rattle.eq_verilog.specs.Scopes.{Scope, position, span}
use Rattle.eq_verilog.specs.Scopes as scopes
use Rattle.eq_verilog.specs.Sizes.{own}
use Rattle.eq_verilog.specs.Expressions.{value, reads, wire}
use Rattle.eq_flatten.specs.Forms.{numbered, word_bits}
use Rattle.eq_flatten.specs.Rendering.{AllRender, Reflects, Renders}
use Rattle.eq_flatten.proofs.Listing.{first_false, first_true, numbered_all, numbered_length, taken_at}
use Rattle.eq_flatten.proofs.Rendered.{and_cond, none_left}

-- a position in the first or the second of two parts, or in none
joined_at : {A : Type 0} (m n j : ℕ) (x y z : A) → cond (nat_lt j (m + n)) (cond (nat_lt j n) x y) z ≡ cond (nat_lt j
    n) x (cond (nat_lt (j - n) m) y z)
joined_at m n j x y z =
    elim (cases_lt j n) [
      | inl less ↦ (let e = first_true j n less in let f = first_true j (m + n) (omega arith) in rw (e, f) refl)
      | inr more ↦ (
          let e = first_false j n more in
          elim (cases_lt (j - n) m) [
            | inl inside ↦ (let f = first_true (j - n) m inside in let g = first_true j (m + n) (omega arith) in rw
                (e, f, g) refl)
            | inr past ↦ (let f = first_false (j - n) m past in let g = first_false j (m + n) (omega arith) in rw (
              e,
              f,
              g,
            ) refl)
          ])
    ]

-- what is so below a bound may be put in below it
below : {A : Type 0} (b : Bool) (x y z d : A) → cond b x d ≡ y → cond b x z ≡ cond b y z
below true x y z d h = h
below false x y z d h = refl

-- ---- wires

-- beyond an expression's size there is no wire
past_wire : (s : Scope) (e : ExprTree) (j : ℕ) → own s e ≤ j → wire s e j ≡ None
past_wire s (const c) j le = refl
past_wire s (net n) j le = ap (λ b. cond b (Some (s.first n + (0 + j))) None) (first_false j (scopes.width s n) le)
past_wire s (bit n i) j le = ap (λ b. cond b (Some (s.first n + (position (s.range n) i + j))) None) (first_false j 1
    le)
past_wire s (part n l r) j le = ap (λ b. cond b (Some (s.first n + (position (s.range n) r + j))) None) (first_false j
    (span l r) le)
past_wire s empty j le = refl
past_wire s (joined a b) j le =
    ap (λ t. cond t (wire s b j) (wire s a (j - own s b))) (first_false j (own s b) (omega arith))
    ∙ past_wire s a (j - own s b) (omega arith)
past_wire s (repeated n a) j le = ap (λ t. cond t (wire s a (j % own s a)) None) (first_false j (n * own s a) le)
past_wire s (unary o a) j le = refl
past_wire s (binary o a b) j le = refl
past_wire s (choice c a b) j le = refl

guard_wire : (s : Scope) (e : ExprTree) (j : ℕ) → cond (nat_lt j (own s e)) (wire s e j) None ≡ wire s e j
guard_wire s e j = elim (cases_lt j (own s e)) [
  | inl less ↦ ap (λ b. cond b (wire s e j) None) (first_true j (own s e) less)
  | inr more ↦ ap (λ b. cond b (wire s e j) None) (first_false j (own s e) more) ∙ sym (past_wire s e j more)
]

-- ---- concatenations

module _ (nets : List NetInfo) (words : List Tree) (s : Scope) where
  pub parts_size : (es : List ExprTree) (ts : List Tree) → AllRender nets words s es ts →
      width (word.join_all ts) ≡ own s (join_all es)
  parts_size [] [] h = refl
  parts_size (e ∷ es) (t ∷ ts) h = ap₂ (λ m n. m + n) h.0.size (parts_size es ts h.1)
  parts_size [] (t ∷ ts) h = absurd h
  parts_size (e ∷ es) [] h = absurd h

  parts_word : (es : List ExprTree) (ts : List Tree) → AllRender nets words s es ts →
      IsWord nets words (length words) (word.join_all ts)
  parts_word [] [] h = tt
  parts_word (e ∷ es) (t ∷ ts) h = (h.0.is_word, parts_word es ts h.1)
  parts_word [] (t ∷ ts) h = absurd h
  parts_word (e ∷ es) [] h = absurd h

  parts_bits : (v : Values) (earlier : ℕ → ℕ → Bool) → Reflects (bit_of v (number_of nets)) words earlier →
      (es : List ExprTree) (ts : List Tree) → AllRender nets words s es ts → (w j : ℕ) →
      cond (nat_lt j (own s (join_all es))) (bit_of v (number_of nets) earlier (word.join_all ts) j) false ≡ value s v
      (join_all es) w j
  parts_bits v earlier q [] [] h w j = none_left (nat_lt j 0) false
  parts_bits v earlier q (e ∷ es) (t ∷ ts) h w j =
      let m = own s e in
      let n = own s (join_all es) in
      let x : ℕ → Bool = bit_of v (number_of nets) earlier t in
      let y : ℕ → Bool = bit_of v (number_of nets) earlier (word.join_all ts) in
      ap (λ k. cond (nat_lt j (m + n)) (cond (nat_lt j k) (y j) (x (j - k))) false) (parts_size es ts h.1)
      ∙ joined_at m n j (y j) (x (j - n)) false
      ∙ below (nat_lt j n) (y j) (value s v (join_all es) n j) (cond (nat_lt (j - n) m) (x (j - n)) false) false
      (parts_bits v earlier q es ts h.1 n j)
      ∙ ap (λ (f : ℕ → Bool). cond (nat_lt j n) (value s v (join_all es) n j) (cond (nat_lt (j - n) m) (f (j - n))
      false)) (h.0.values v earlier q)
      ∙ ap (λ b. cond (nat_lt j n) (value s v (join_all es) n j) b) (sym (and_cond (nat_lt (j - n) m) (value s v e m
      (j - n))))
  parts_bits v earlier q [] (t ∷ ts) h w j = absurd h
  parts_bits v earlier q (e ∷ es) [] h w j = absurd h

  parts_reads : (earlier : ℕ → ℕ → List ℕ) → Reflects (reads_of (number_of nets)) words earlier →
      (es : List ExprTree) (ts : List Tree) → AllRender nets words s es ts → (w j : ℕ) →
      cond (nat_lt j (own s (join_all es))) (reads_of (number_of nets) earlier (word.join_all ts) j) [] ≡ reads s
      (join_all es) w j
  parts_reads earlier q [] [] h w j = none_left (nat_lt j 0) []
  parts_reads earlier q (e ∷ es) (t ∷ ts) h w j =
      let m = own s e in
      let n = own s (join_all es) in
      let x : ℕ → List ℕ = reads_of (number_of nets) earlier t in
      let y : ℕ → List ℕ = reads_of (number_of nets) earlier (word.join_all ts) in
      ap (λ k. cond (nat_lt j (m + n)) (cond (nat_lt j k) (y j) (x (j - k))) []) (parts_size es ts h.1)
      ∙ joined_at m n j (y j) (x (j - n)) []
      ∙ below (nat_lt j n) (y j) (reads s (join_all es) n j) (cond (nat_lt (j - n) m) (x (j - n)) []) [] (parts_reads
      earlier q es ts h.1 n j)
      ∙ ap (λ (f : ℕ → List ℕ). cond (nat_lt j n) (reads s (join_all es) n j) (cond (nat_lt (j - n) m) (f (j - n))
      [])) (h.0.reads_same earlier q)
  parts_reads earlier q [] (t ∷ ts) h w j = absurd h
  parts_reads earlier q (e ∷ es) [] h w j = absurd h

  parts_copies : (earlier : ℕ → ℕ → Option ℕ) → Reflects (copy_in (number_of nets)) words earlier →
      (es : List ExprTree) (ts : List Tree) → AllRender nets words s es ts → (j : ℕ) →
      cond (nat_lt j (own s (join_all es))) (copy_in (number_of nets) earlier (word.join_all ts) j) None ≡ wire s
      (join_all es) j
  parts_copies earlier q [] [] h j = none_left (nat_lt j 0) None
  parts_copies earlier q (e ∷ es) (t ∷ ts) h j =
      let m = own s e in
      let n = own s (join_all es) in
      let x : ℕ → Option ℕ = copy_in (number_of nets) earlier t in
      let y : ℕ → Option ℕ = copy_in (number_of nets) earlier (word.join_all ts) in
      ap (λ k. cond (nat_lt j (m + n)) (cond (nat_lt j k) (y j) (x (j - k))) None) (parts_size es ts h.1)
      ∙ joined_at m n j (y j) (x (j - n)) None
      ∙ below (nat_lt j n) (y j) (wire s (join_all es) j) (cond (nat_lt (j - n) m) (x (j - n)) None) None
      (parts_copies earlier q es ts h.1 j)
      ∙ ap (λ (f : ℕ → Option ℕ). cond (nat_lt j n) (wire s (join_all es) j) (cond (nat_lt (j - n) m) (f (j - n))
      None)) (h.0.copies earlier q)
      ∙ ap (λ o. cond (nat_lt j n) (wire s (join_all es) j) o) (guard_wire s e (j - n))
  parts_copies earlier q [] (t ∷ ts) h j = absurd h
  parts_copies earlier q (e ∷ es) [] h j = absurd h

  -- the words of the parts, one behind the other and extended, are the concatenation
  pub renders_parts : (es : List ExprTree) (ts : List Tree) (w : ℕ) → own s (join_all es) ≤ w →
      AllRender nets words s es ts →
      Renders nets words s (join_all es) w (word.extended (word.join_all ts) w)
  renders_parts es ts w fits h =
      let size = parts_size es ts h in
      record {
        is_word = (parts_word es ts h, (let e = size in omega arith));
        size = refl;
        values = λ v earlier q. fun_ext (λ j.
            and_cond (nat_lt j (width (word.join_all ts))) (bit_of v (number_of nets) earlier (word.join_all ts) j)
            ∙ ap (λ k. cond (nat_lt j k) (bit_of v (number_of nets) earlier (word.join_all ts) j) false) size
            ∙ parts_bits v earlier q es ts h w j);
        reads_same = λ earlier q. fun_ext (λ j.
            ap (λ k. cond (nat_lt j k) (reads_of (number_of nets) earlier (word.join_all ts) j) []) size
            ∙ parts_reads earlier q es ts h w j);
        copies = λ earlier q. fun_ext (λ j.
            ap (λ k. cond (nat_lt j k) (copy_in (number_of nets) earlier (word.join_all ts) j) None) size
            ∙ parts_copies earlier q es ts h j);
      }

  -- ---- repeats

  some_bits : (n m j : ℕ) → j < n * m → 0 < m
  some_bits n zero j lt = absurd (let e = mul-zero n in omega arith)
  some_bits n (suc m) j lt = omega arith

  -- a word that is made once, and picked again and again
  pub renders_repeat : (n : ℕ) (a : ExprTree) (w k : ℕ) (x : Tree) → n * own s a ≤ w → k < length words →
      word_at words k ≡ x →
      Renders nets words s a (own s a) x →
      Renders nets words s (repeated n a) w (word.extended (word.pick (word_bits k (own s a) (n * own s a))) w)
  renders_repeat n a w k x fits there at h =
      let m = own s a in
      let f : ℕ → WordBit = λ j. record { word = k; bit = j % m } in
      record {
        is_word = (
          numbered_all (HasWordBit words (length words)) f (n * m) (λ j lt. (
            there,
            (let size : width (word_at words k) ≡ m = ap width at ∙ h.size in
                let small : j % m < m = mod-lt j (some_bits n m j lt) in subst (λ q. j % m < q) (sym size) small),
          )),
          (let e = numbered_length f (n * m) in omega arith),
        );
        size = refl;
        values = λ v earlier q. fun_ext (λ j.
            let same : earlier k ≡ value s v a m = q k there ∙ ap (bit_of v (number_of nets) earlier) at
            ∙ h.values v earlier q in
            and_cond (nat_lt j (length (numbered f (n * m)))) (if_there false (λ (b : WordBit). earlier b.word b.bit)
            (slice_get (numbered f (n * m)) j))
            ∙ taken_at false (λ (b : WordBit). earlier b.word b.bit) f (n * m) j
            ∙ ap (λ (g : ℕ → Bool). cond (nat_lt j (n * m)) (g (j % m)) false) same
            ∙ sym (and_cond (nat_lt j (n * m)) (value s v a m (j % m))));
        reads_same = λ earlier q. fun_ext (λ j.
            let same : earlier k ≡ reads s a m = q k there ∙ ap (reads_of (number_of nets) earlier) at
            ∙ h.reads_same earlier q in
            taken_at [] (λ (b : WordBit). earlier b.word b.bit) f (n * m) j
            ∙ ap (λ (g : ℕ → List ℕ). cond (nat_lt j (n * m)) (g (j % m)) []) same);
        copies = λ earlier q. fun_ext (λ j.
            let same : earlier k ≡ wire s a = q k there ∙ ap (copy_in (number_of nets) earlier) at
            ∙ h.copies earlier q in
            taken_at None (λ (b : WordBit). earlier b.word b.bit) f (n * m) j
            ∙ ap (λ (g : ℕ → Option ℕ). cond (nat_lt j (n * m)) (g (j % m)) None) same);
      }

  -- ---- a repeat of one

  -- a concatenation has nothing beyond its size, and the same below it in each context
  past_value : (v : Values) (es : List ExprTree) (w j : ℕ) → own s (join_all es) ≤ j →
      value s v (join_all es) w j ≡ false
  past_value v [] w j le = refl
  past_value v (e ∷ es) w j le =
      ap (λ b. cond b (value s v (join_all es) (own s (join_all es)) j) (nat_lt (j - own s (join_all es)) (own s e) &&
      value s v e (own s e) (j - own s (join_all es))))
      (first_false j (own s (join_all es)) (omega arith))
      ∙ ap (λ b. b && value s v e (own s e) (j - own s (join_all es))) (first_false (j - own s (join_all es)) (own s
      e) (omega arith))

  past_reads : (es : List ExprTree) (w j : ℕ) → own s (join_all es) ≤ j → reads s (join_all es) w j ≡ []
  past_reads [] w j le = refl
  past_reads (e ∷ es) w j le =
      ap (λ b. cond b (reads s (join_all es) (own s (join_all es)) j) (cond (nat_lt (j - own s (join_all es)) (own s
      e)) (reads s e (own s e) (j - own s (join_all es))) []))
      (first_false j (own s (join_all es)) (omega arith))
      ∙ ap (λ b. cond b (reads s e (own s e) (j - own s (join_all es))) []) (first_false (j - own s (join_all es))
      (own s e) (omega arith))

  same_value : (v : Values) (es : List ExprTree) (w m : ℕ) → value s v (join_all es) w ≡ value s v (join_all es) m
  same_value v [] w m = fun_ext (λ j. refl)
  same_value v (e ∷ es) w m = fun_ext (λ j. refl)

  same_reads : (es : List ExprTree) (w m : ℕ) → reads s (join_all es) w ≡ reads s (join_all es) m
  same_reads [] w m = fun_ext (λ j. refl)
  same_reads (e ∷ es) w m = fun_ext (λ j. refl)

  once_at : {A : Type 0} (f : ℕ → A) (d : A) (m j : ℕ) → (m ≤ j → f j ≡ d) → f j ≡ cond (nat_lt j (1 * m)) (f (j % m)) d
  once_at f d m j past =
      let one : 1 * m ≡ m = omega arith in
      elim (cases_lt j m) [
        | inl less ↦ ap f (sym (mod-eq_of_lt less)) ∙ ap (λ b. cond b (f (j % m)) d) (sym (ap (nat_lt j) one
            ∙ first_true j m less))
        | inr more ↦ past more ∙ ap (λ b. cond b (f (j % m)) d) (sym (ap (nat_lt j) one ∙ first_false j m more))
      ]

  -- what is repeated once is what it is
  pub renders_once : (es : List ExprTree) (w : ℕ) (t : Tree) → Renders nets words s (join_all es) w t →
      Renders nets words s (repeated 1 (join_all es)) w t
  renders_once es w t h =
      let m = own s (join_all es) in
      record {
        is_word = h.is_word;
        size = h.size;
        values = λ v earlier q. h.values v earlier q ∙ same_value v es w m ∙ fun_ext (λ j.
            once_at (value s v (join_all es) m) false m j (past_value v es m j)
            ∙ sym (and_cond (nat_lt j (1 * m)) (value s v (join_all es) m (j % m))));
        reads_same = λ earlier q. h.reads_same earlier q ∙ same_reads es w m ∙ fun_ext (λ j.
            once_at (reads s (join_all es) m) [] m j (past_reads es m j));
        copies = λ earlier q. h.copies earlier q ∙ fun_ext (λ j. once_at (wire s (join_all es)) None m j (past_wire s
            (join_all es) j));
      }
