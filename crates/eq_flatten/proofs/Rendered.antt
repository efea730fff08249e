-- Names, selects and constants as words; and the words of operators of one operand.
use Rattle.std.proofs.Common.{◌≡◌, ℕ, zero, suc, ◌+◌, ◌<◌, ◌≤◌, Bool, true, false, not, nat_lt, ◌&&◌, ◌==◌, cond, List, [], ◌∷◌, length, slice_get, slice_index_or, Option, Some, None, refl, arith, sym, ap, ◌∙◌}
use Rattle.std.proofs.Math.Path.{fun_ext}
use Rattle.std.proofs.lemmas.Bool.{ltb-true}
use Rattle.std.proofs.lemmas.Bool.Decides.{Decides-eqb}
use Rattle.std.proofs.lemmas.Option.{get_or_from_slice_get}
use Rattle.eq_model.specs.System.{Values}
use Rattle.eq_names.specs.declared.BitName.{BitName}
use Rattle.eq_vlex.specs.declared.token.Constant.{Constant}
use Rattle.eq_net.specs.declared.types.NetInfo.{NetInfo}
use Rattle.eq_net.specs.Numbers.{Digits, digit}
use Rattle.eq_net.specs.Nets.{width_of}
use Rattle.eq_net.specs.Operators as on
use Rattle.eq_net.specs.Tree as word
use Rattle.eq_net.specs.Tree.{Tree}
use Rattle.eq_net.specs.Meaning.{if_there, width, bit_of, reads_of, copy_in}
use Rattle.eq_net.specs.Net.{HasBit, IsWord, net_at, number_of, offset}
use Rattle.eq_verilog.specs.Trees.{Name, ExprTree, const}
use Rattle.eq_verilog.specs.Scopes.{Scope}
use Rattle.eq_verilog.specs.Sizes.{UnaryForm, complement, opposite, reduction, operand_size, unary_own}
use Rattle.eq_verilog.specs.Expressions.{selected, value, reads, wire, unary_bit, unary_reads}
use Rattle.eq_analysis.specs.Finding.{net_in, scope_of}
use Rattle.eq_flatten.specs.Forms.{formed, numbered, net_bits}
use Rattle.eq_flatten.specs.Rendering.{Renders}
use Rattle.eq_flatten.proofs.Listing.{numbered_all, numbered_at, numbered_length, taken_at, there_at}

pub and_cond : (b x : Bool) → (b && x) ≡ cond {A = Bool} b x false
and_cond true x = refl
and_cond false x = refl

pub nothing_left : (b : Bool) → (b && false) ≡ false
nothing_left true = refl
nothing_left false = refl

pub none_left : {A : Type 0} (b : Bool) (x : A) → cond b x x ≡ x
none_left true x = refl
none_left false x = refl

-- ---- names and selects: n bits of a net from position p up

module _ (nets : List NetInfo) (names : List Name) (from : ℕ) (name : Name) (p n : ℕ) where
  -- what is taken of a bit that is read is taken of the bit that is meant
  pub read_at : {A : Type 0} (d : A) (g : ℕ → A) (j : ℕ) →
      cond (nat_lt j (length (net_bits (net_in names from name) p n)))
      (if_there d (λ b. g (number_of nets b)) (slice_get (net_bits (net_in names from name) p n) j)) d
      ≡ if_there d g (selected (scope_of nets names from) name p n j)
  read_at d g j =
      taken_at d (λ b. g (number_of nets b)) (λ i. record { net = net_in names from name; bit = p + i }) n j
      ∙ there_at d g (nat_lt j n) (offset nets (net_in names from name) + (p + j))

  pub some_wire : (o : Option ℕ) → if_there None (λ b. Some b) o ≡ o
  some_wire None = refl
  some_wire (Some b) = refl

  -- the word that reads them is an expression that means them
  pub renders_read : (words : List Tree) (e : ExprTree) (w : ℕ) →
      ((v : Values) (j : ℕ) → value (scope_of nets names from) v e w j ≡ if_there false v (selected (scope_of nets
      names from) name p n j)) →
      ((j : ℕ) → reads (scope_of nets names from) e w j ≡ if_there [] (λ b. b ∷ []) (selected (scope_of nets names
      from) name p n j)) →
      ((j : ℕ) → wire (scope_of nets names from) e j ≡ selected (scope_of nets names from) name p n j) →
      n ≤ w → net_in names from name < length nets → p + n ≤ width_of (net_at nets (net_in names from name)) →
      Renders nets words (scope_of nets names from) e w (word.extended (word.read (net_bits (net_in names from name) p
      n)) w)
  renders_read words e w hv hr hw fits there inside = record {
    is_word = (
      numbered_all (HasBit nets) (λ j. record { net = net_in names from name; bit = p + j }) n (λ j lt. (
        there,
        omega
            arith,
      )),
      (let e = numbered_length {A = BitName} (λ j. record { net = net_in names from name; bit = p + j }) n in omega
          arith),
    );
    size = refl;
    values = λ v earlier h. fun_ext (λ j.
        and_cond (nat_lt j (length (net_bits (net_in names from name) p n))) (if_there false (λ b. v (number_of nets
        b)) (slice_get (net_bits (net_in names from name) p n) j))
        ∙ read_at false v j ∙ sym (hv v j));
    reads_same = λ earlier h. fun_ext (λ j. read_at [] (λ b. b ∷ []) j ∙ sym (hr j));
    copies = λ earlier h. fun_ext (λ j. read_at None (λ b. Some b) j
        ∙ some_wire (selected (scope_of nets names from) name p n j) ∙ sym (hw j));
  }

-- ---- constants

digit_bit : (n : ℕ) (f : Digits) (j : ℕ) → (nat_lt j (length (numbered f n)) && slice_index_or (numbered f n) j false)
    ≡ on.extended n f j
digit_bit n f j = ap (λ m. nat_lt j m && slice_index_or (numbered f n) j false) (numbered_length f n)
    ∙ guarded (nat_lt j n) (λ e. value_at (numbered f n) j (f j) (numbered_at f n j (ltb-true j n e)))
  where
    guarded : (b : Bool) → (b ≡ true → slice_index_or (numbered f n) j false ≡ f j) →
        (b && slice_index_or (numbered f n) j false) ≡ (b && f j)
    guarded true h = h refl
    guarded false h = refl

    value_at : (xs : List Bool) (i : ℕ) (x : Bool) → slice_get xs i ≡ Some x → slice_index_or xs i false ≡ x
    value_at xs i x e = get_or_from_slice_get xs i x false e

pub renders_constant : (nets : List NetInfo) (words : List Tree) (s : Scope) (c : Constant) (w : ℕ) → c.size ≤ w →
    Renders nets words s (const c) w (word.extended (word.const (numbered (digit c.value) c.size)) w)
renders_constant nets words s c w fits = record {
  is_word = (tt, (let e = numbered_length (digit c.value) c.size in omega arith));
  size = refl;
  values = λ v earlier h. fun_ext (λ j. digit_bit c.size (digit c.value) j);
  reads_same = λ earlier h. fun_ext (λ j. none_left (nat_lt j (length (numbered (digit c.value) c.size))) []);
  copies = λ earlier h. fun_ext (λ j. none_left (nat_lt j (length (numbered (digit c.value) c.size))) None);
}

-- ---- operators of one operand

-- a result of one bit is the same when it is extended
pub one_bit_is : (x : Bool) (j : ℕ) → on.extended 1 (on.one_bit x) j ≡ on.one_bit x j
one_bit_is x zero = refl
one_bit_is x (suc j) = at_zero (nat_lt (suc j) 1) (suc j == 0) refl
  where
    at_zero : (b t : Bool) → t ≡ (suc j == 0) → (b && (t && x)) ≡ (t && x)
    at_zero true t e = refl
    at_zero false true e = absurd (let k : suc j ≡ 0 = (Decides-eqb (suc j) 0).0 (sym e) in omega arith)
    at_zero false false e = refl

pub one_read_is : (rs : List ℕ) (j : ℕ) → on.extended_reads 1 (on.one_read rs) j ≡ on.one_read rs j
one_read_is rs zero = refl
one_read_is rs (suc j) = at_zero (nat_lt (suc j) 1) (suc j == 0) refl
  where
    at_zero : (b t : Bool) → t ≡ (suc j == 0) → cond b (cond t rs []) [] ≡ cond t rs []
    at_zero true t e = refl
    at_zero false true e = absurd (let k : suc j ≡ 0 = (Decides-eqb (suc j) 0).0 (sym e) in omega arith)
    at_zero false false e = refl

formed_size : (form : UnaryForm) (t : Tree) (w n : ℕ) → width t ≡ operand_size form w n → width (formed form t w) ≡ w
formed_size complement t w n h = h
formed_size opposite t w n h = h
formed_size (reduction r) t w n h = refl

formed_word : (nets : List NetInfo) (words : List Tree) (k : ℕ) (form : UnaryForm) (t : Tree) (w n : ℕ) →
    unary_own form n ≤ w →
    IsWord nets words k t → IsWord nets words k (formed form t w)
formed_word nets words k complement t w n le h = h
formed_word nets words k opposite t w n le h = h
formed_word nets words k (reduction r) t w n le h = (h, le)

formed_bits : (number : BitName → ℕ) (v : Values) (earlier : ℕ → ℕ → Bool) (form : UnaryForm) (t : Tree) (f : Digits)
    (w n : ℕ) →
    width t ≡ n → bit_of v number earlier t ≡ f → (j : ℕ) → bit_of v number earlier (formed form t w) j ≡ unary_bit
    form n f j
formed_bits number v earlier complement t f w n e h j = ap (λ (g : Digits). not (g j)) h
formed_bits number v earlier opposite t f w n e h j =
    ap (λ m. on.negative m (bit_of v number earlier t) j) e ∙ ap (λ (g : Digits). on.negative n g j) h
formed_bits number v earlier (reduction r) t f w n e h j =
    one_bit_is (on.reduce r (width t) (bit_of v number earlier t)) j
    ∙ ap (λ m. on.one_bit (on.reduce r m (bit_of v number earlier t)) j) e
    ∙ ap (λ (g : Digits). on.one_bit (on.reduce r n g) j) h

formed_reads : (number : BitName → ℕ) (earlier : ℕ → ℕ → List ℕ) (form : UnaryForm) (t : Tree) (f : on.Reads) (w n :
    ℕ) →
    width t ≡ n → reads_of number earlier t ≡ f → (j : ℕ) → reads_of number earlier (formed form t w) j ≡ unary_reads
    form n f j
formed_reads number earlier complement t f w n e h j = ap (λ (g : on.Reads). g j) h
formed_reads number earlier opposite t f w n e h j = ap (λ (g : on.Reads). on.negative_reads g j) h
formed_reads number earlier (reduction r) t f w n e h j =
    one_read_is (on.all_reads (width t) (reads_of number earlier t)) j
    ∙ ap (λ m. on.one_read (on.all_reads m (reads_of number earlier t)) j) e
    ∙ ap (λ (g : on.Reads). on.one_read (on.all_reads n g) j) h

formed_copies : (number : BitName → ℕ) (earlier : ℕ → ℕ → Option ℕ) (form : UnaryForm) (t : Tree) (w j : ℕ) →
    copy_in number earlier (formed form t w) j ≡ None
formed_copies number earlier complement t w j = refl
formed_copies number earlier opposite t w j = refl
formed_copies number earlier (reduction r) t w j = none_left (nat_lt j 1) None

-- for an expression whose bits are told by a form and an operand of n bits
pub renders_formed : (nets : List NetInfo) (words : List Tree) (s : Scope) (a e : ExprTree) (form : UnaryForm) (w m n
    : ℕ) (t : Tree) →
    m ≡ operand_size form w n → unary_own form n ≤ w → Renders nets words s a m t →
    ((v : Values) (j : ℕ) → value s v e w j ≡ unary_bit form m (value s v a m) j) →
    ((j : ℕ) → reads s e w j ≡ unary_reads form m (reads s a m) j) →
    ((j : ℕ) → wire s e j ≡ None) → Renders nets words s e w (formed form t w)
renders_formed nets words s a e form w m n t is fits h hv hr hw = record {
  is_word = formed_word nets words (length words) form t w n fits h.is_word;
  size = formed_size form t w n (h.size ∙ is);
  values = λ v earlier r. fun_ext (λ j. formed_bits (number_of nets) v earlier form t (value s v a m) w m h.size
      (h.values v earlier r) j ∙ sym (hv v j));
  reads_same = λ earlier r. fun_ext (λ j. formed_reads (number_of nets) earlier form t (reads s a m) w m h.size
      (h.reads_same earlier r) j ∙ sym (hr j));
  copies = λ earlier r. fun_ext (λ j. formed_copies (number_of nets) earlier form t w j ∙ sym (hw j));
}
