-- What the marks of a clock's class tell of a design.
use Rattle.std.proofs.Common.{◌≡◌, ◌≢◌, ℕ, zero, suc, ◌+◌, ◌-◌, ◌<◌, ◌≤◌, List, [], ◌∷◌, Bool, true, false, cond, ◌||◌, ◌==◌, nat_lt, map, replicate, length, length-append, slice_index_or, slice_get, All, AllPairs, Contains, Option, Some, None, IfSome, refl, arith, sym, ap, subst, ◌∙◌, inl, inr}
use Rattle.std.specs.Prelude.{is_some, bytes_eq}
use Rattle.std.specs.Option.{option_or}
use Rattle.std.specs.List.{list_any}
use Rattle.std.specs.Cmp.Lexicographic.{bytes_decides}
use Rattle.std.proofs.Math.ListN.{get_or-append, length-replicate}
use Rattle.std.proofs.Math.Seq.{get_or-append_right}
use Rattle.std.proofs.lemmas.Bool.{cases_lt, false_from_ne_true, lt-ltb, lt-leb}
use Rattle.std.proofs.lemmas.List.{get_or-map, get_or-replicate}
use Rattle.std.proofs.lemmas.List.Elements.{All-contains_itself}
use Rattle.eq_model.specs.Nets.{at_bit, inner}
use Rattle.eq_model.specs.System.{IsDriver, IsSystem, reads_ever}
use Rattle.eq_names.specs.declared.BitName.{BitName}
use Rattle.eq_net.specs.declared.types.Dir.{Dir}
use Rattle.eq_net.specs.declared.types.Dir.TheVariants.{Inner, Input as InputPort, Output as OutputPort}
use Rattle.eq_net.specs.declared.types.Driver.{Driver}
use Rattle.eq_net.specs.declared.types.Driver.TheVariants.{Input, Undriven, Expr as WordOf, Reg}
use Rattle.eq_net.specs.declared.types.NetInfo.{NetInfo}
use Rattle.eq_net.specs.declared.types.WordBit.{WordBit}
use Rattle.eq_net.specs.Nets.{side_of, width_of}
use Rattle.eq_net.specs.Meaning.{if_there, table, copy_in, reads_of, all_copies_of, width}
use Rattle.eq_net.specs.Net.{AreWords, HasBit, IsWord, NamesWord, Parts, bits_of, copy_of, design_of, driver_at, name_at, nets_of, no_net, number_of, offset, source_of, system_of, word_at}
use Rattle.eq_net.specs.Numbers.{some_one}
use Rattle.eq_net.specs.Tree.{Tree, const, read, pick, negated, opposite, binary, reduced, choice, empty, joined, extended}
use Rattle.eq_verilog.specs.Clocks.{end_of, is_bit, leads_to, takes_as_data}
use Rattle.eq_verilog.specs.Declarations.{goes_out}
use Rattle.eq_verilog.specs.Firsts.{first_below, one_below}
use Rattle.eq_verilog.specs.Nets as elab
use Rattle.eq_marks.specs.Ports.{is_output_of, takes}
use Rattle.eq_marks.specs.declared.marks.Way.TheVariants.{Copies, Reads}
use Rattle.eq_marks.specs.inner.Carrying.{HasRows, mark_of, rows_mark}
use Rattle.eq_marks.specs.inner.Clocking.{IsClass, leads}
use Rattle.eq_marks.specs.inner.Taking.{AreCopies, AreOwn, IsClassOf, driven_mark, is_output_net, output_flags, read_mark, takes_at}
use Rattle.eq_marks.proofs.Ends.{cases_option}
use Rattle.eq_marks.proofs.MarkMeaning.{all_copies, all_read, some_mark}
use Rattle.eq_marks.proofs.MarkTables.{if_some}

length_map : {A B : Type 0} (f : A → B) (xs : List A) → length (map f xs) ≡ length xs
length_map f [] = refl
length_map f (x ∷ xs) = (let e = length_map f xs in omega arith)

-- ---- words

empty_there : (words : List Tree) (k : ℕ) → length words ≤ k → word_at words k ≡ empty
empty_there [] k le = refl
empty_there (t ∷ ts) zero le = absurd (omega arith)
empty_there (t ∷ ts) (suc k) le = empty_there ts k (omega arith)

-- where no word stands, the empty word does
word_is : (nets : List NetInfo) (words : List Tree) → AreWords nets words → (k : ℕ) → IsWord nets words k (word_at
    words k)
word_is nets words are k = elim (cases_lt k (length words)) [
  | inl less ↦ are k less
  | inr more ↦ (let P : Tree → Type 0 = λ t. IsWord nets words k t in subst P (sym (empty_there words k more)) tt)
]

-- ---- copies are of bits

module _ (number : BitName → ℕ) (nets : List NetInfo) (bits : ℕ) (bound : (n : BitName) → HasBit nets n → number n <
    bits) where
  abbrev Below : Option ℕ → Type 0
  Below o = IfSome o (λ x. x < bits)

  by_test : (c : Bool) (x y : Option ℕ) → Below x → Below y → Below (cond {A = Option ℕ} c x y)
  by_test true x y h k = h
  by_test false x y h k = k

  named_below : (o : Option BitName) → IfSome o (HasBit nets) → Below (if_there None (λ n. Some (number n)) o)
  named_below None h = tt
  named_below (Some n) h = bound n h

  module _ (d : ℕ → ℕ → Option ℕ) (earlier : (w j : ℕ) → Below (d w j)) (words : List Tree) (k : ℕ) where
    picked_below : (o : Option WordBit) → Below (if_there None (λ (b : WordBit). d b.word b.bit) o)
    picked_below None = tt
    picked_below (Some b) = earlier b.word b.bit

    word_below : (t : Tree) → IsWord nets words k t → (j : ℕ) → Below (copy_in number d t j)
    word_below (const bits) is j = tt
    word_below (read names) is j = named_below (slice_get names j) (if_some (HasBit nets) names is j)
    word_below (pick bits) is j = picked_below (slice_get bits j)
    word_below (negated a) is j = tt
    word_below (opposite a) is j = tt
    word_below (binary o a b) is j = tt
    word_below (reduced o a) is j = tt
    word_below (choice c a b) is j = tt
    word_below empty is j = tt
    word_below (joined a b) is j = by_test (nat_lt j (width b)) (copy_in number d b j) (copy_in number d a (j - width
        b)) (word_below b is.1 j) (word_below a is.0 (j - width b))
    word_below (extended a n) is j = by_test (nat_lt j (width a)) (copy_in number d a j) None (word_below a is.0 j) tt

  table_below : (words : List Tree) → ((k : ℕ) → IsWord nets words k (word_at words k)) → (k w j : ℕ) → Below (table
      None (copy_in number) words k w j)
  table_below words are zero w j = tt
  table_below words are (suc k) w j =
      let d = table None (copy_in number) words k in
      by_test (w == k) (copy_in number d (word_at words k) j) (d w j) (word_below d (table_below words are k) words k
      (word_at words k) (are k) j) (table_below words are k w j)

  driver_below : (words : List Tree) → AreWords nets words → (n : Driver) → number ≡ number_of nets → Below (copy_of
      nets words n)
  driver_below words are Input is = tt
  driver_below words are Undriven is = tt
  driver_below words are (WordOf w j) is =
      subst (λ (f : BitName → ℕ). Below (all_copies_of f words w j)) is (table_below words (word_is nets words are)
      (length words) w j)
  driver_below words are (Reg init w j) is = tt

below_bits : (bits d : ℕ) (o : Option ℕ) → IfSome o (λ x. x < bits) → o ≡ Some d → d < bits
below_bits bits d o h is = subst (λ o. IfSome o (λ x. x < bits)) is h

-- ---- the copies of bits

module _ (n : Parts) (bound : (k j : ℕ) → k < length n.nets → j < width_of (slice_index_or n.nets k no_net) → offset
    n.nets k + j < bits_of n.nets)
    (are : AreWords n.nets n.words) (size : length n.drivers ≡ bits_of n.nets) where
  number_below : (b : BitName) → HasBit n.nets b → number_of n.nets b < bits_of n.nets
  number_below b h = bound b.net b.bit h.0 h.1

  -- a copy is of a bit
  pub copy_below : (b d : ℕ) → (design_of n).copy_of b ≡ Some d → d < bits_of n.nets
  copy_below b d e =
      below_bits (bits_of n.nets) d ((design_of n).copy_of b)
      (driver_below (number_of n.nets) n.nets (bits_of n.nets) number_below n.words are (driver_at n b) refl) e

  module _ (own : List (Option ℕ)) (ours : AreOwn (bits_of n.nets) own) (rows : List (List (Option ℕ)))
      (has : HasRows Copies (λ m. mark_of own (number_of n.nets m)) n.words (length n.words) rows) where
    named_own : BitName → Option ℕ
    named_own m = mark_of own (number_of n.nets m)

    driver_copy : (d : Driver) → NamesWord n.words d → driven_mark (rows_mark rows) d ≡ copy_of n.nets n.words d
    driver_copy Input names = refl
    driver_copy Undriven names = refl
    driver_copy (WordOf w j) names =
        has.each w j names.0 names.1
        ∙ all_copies (λ m. mark_of own (number_of n.nets m)) (number_of n.nets) n.nets (λ m h. ours.each (number_of
        n.nets m) (number_below m h)) n.words (word_is n.nets n.words are) (length n.words) w j
    driver_copy (Reg init w j) names = refl

    pub bits_copied : All (NamesWord n.words) n.drivers → (copies : List (Option ℕ)) → copies ≡ map (driven_mark
        (rows_mark rows)) n.drivers → AreCopies n copies
    bits_copied names copies is =
        let count : length copies ≡ bits_of n.nets = ap length is ∙ length_map (driven_mark (rows_mark rows)) n.drivers
        ∙ size in
        let each : (b : ℕ) → b < bits_of n.nets → mark_of copies b ≡ (design_of n).copy_of b = λ b lt.
        ap (λ xs. mark_of xs b) is
        ∙ get_or-map (driven_mark (rows_mark rows)) n.drivers b Undriven None (omega arith)
        ∙ driver_copy (driver_at n b) (names b Undriven (omega arith)) in
        record {
          size = count;
          each = each;
          within = λ b d lt e. (
              let lb : b < bits_of n.nets = omega arith in
              let less = copy_below b d (sym (each b lb) ∙ e) in
              omega arith);
        }

-- ---- the class

module _ (f g : ℕ → Option ℕ) (n : ℕ) (same : (b : ℕ) → b < n → f b ≡ g b) (inside : (b d : ℕ) → b < n → f b ≡ Some d →
    d < n) where
  -- copies that are the same lead to the same end
  pub ends_same : (k b : ℕ) → b < n → end_of f k b ≡ end_of g k b
  ends_same zero b lt = refl
  ends_same (suc k) b lt = elim (cases_option (f b)) [
    | inl none ↦ ap (if_there (Some b) (end_of f k)) none ∙ sym (ap (if_there (Some b) (end_of g k)) (sym (same b lt) ∙
        none))
    | inr some ↦ ap (if_there (Some b) (end_of f k)) some.1 ∙ ends_same k some.0 (inside b some.0 lt some.1)
        ∙ sym (ap (if_there (Some b) (end_of g k)) (sym (same b lt) ∙ some.1))
  ]

pub class_is : (n : Parts) (c start : ℕ) (copies class : List (Option ℕ)) → AreCopies n copies → start ≡ c → IsClass
    copies start class → IsClassOf n c class
class_is n c start copies class a is k = record {
  size = k.size ∙ a.size;
  each = λ b lt.
      let lc : b < length copies = (let s = a.size in omega arith) in
      k.each b lc ∙ ap (λ x. leads copies x b) is ∙ ap (λ m. leads_to (mark_of copies) m c b) a.size
      ∙ ap (is_bit c) (ends_same (mark_of copies) (design_of n).copy_of (bits_of n.nets) a.each
      (λ x d lx e. (let s = a.size in let w = a.within x d (omega arith) e in omega arith)) (bits_of n.nets) b lt);
}

-- ---- outputs

out_is : (d : Dir) → is_output_net d ≡ goes_out (side_of d)
out_is Inner = refl
out_is InputPort = refl
out_is OutputPort = refl

pub flags_length : (nets : List NetInfo) → length (output_flags nets) ≡ bits_of nets
flags_length [] = refl
flags_length (n ∷ ns) =
    (let e = flags_length ns in let s = length-append (replicate (width_of n) (is_output_net n.dir)) (output_flags ns)
    in
    let r = length-replicate (width_of n) (is_output_net n.dir) in omega arith)

pub flag_at : (nets : List NetInfo) (b : ℕ) → b < bits_of nets → slice_index_or (output_flags nets) b false ≡ goes_out
    (at_bit inner (λ m p. m.dir) (nets_of nets) b)
flag_at [] b lt = absurd (omega arith)
flag_at (n ∷ ns) b lt =
    let w = width_of n in
    let x = is_output_net n.dir in
    let r = length-replicate w x in
    let here = side_of n.dir in
    let later = at_bit inner (λ m p. m.dir) (nets_of ns) (b - w) in
    elim (cases_lt b w) [
      | inl less ↦ get_or-append (replicate w x) (output_flags ns) false b (omega arith) ∙ get_or-replicate w b x false
          less ∙ out_is n.dir
          ∙ sym (ap (λ t. goes_out (cond t here later)) (lt-ltb b w less))
      | inr more ↦ get_or-append_right (replicate w x) (output_flags ns) b false (omega arith)
          ∙ ap (λ k. slice_index_or (output_flags ns) (b - k) false) r ∙ flag_at ns (b - w) (omega arith)
          ∙ sym (ap (λ t. goes_out (cond t here later)) (lt-leb (suc b) w (omega arith)))
    ]

-- ---- some bit

some_or : (o : Option ℕ) (t : Bool) (n : ℕ) → is_some (option_or o (cond {A = Option ℕ} t (Some n) None)) ≡ (is_some o
    || t)
some_or None true n = refl
some_or None false n = refl
some_or (Some m) t n = refl

-- tests that agree below a bound pass first at the same number
pub first_same : (n : ℕ) (f g : ℕ → Bool) → ((b : ℕ) → b < n → f b ≡ g b) → first_below n f ≡ first_below n g
first_same zero f g same = refl
first_same (suc n) f g same =
    ap (λ o. option_or o (cond {A = Option ℕ} (f n) (Some n) None)) (first_same n f g (λ b lt. same b (omega arith)))
    ∙ ap (λ t. option_or (first_below n g) (cond {A = Option ℕ} t (Some n) None)) (same n (omega arith))

pub one_is_some : (n : ℕ) (test : ℕ → Bool) → some_one n test ≡ one_below n test
one_is_some zero test = refl
one_is_some (suc n) test = ap (λ b. b || test n) (one_is_some n test) ∙ sym (some_or (first_below n test) (test n) n)

any_same : (f g : ℕ → Bool) (xs : List ℕ) → All (λ x. f x ≡ g x) xs → list_any f xs ≡ list_any g xs
any_same f g [] h = refl
any_same f g (x ∷ xs) h =
    ap (λ b. b || list_any f xs) (h 0 0 (omega arith)) ∙ ap (λ b. g x || b) (any_same f g xs (λ k d lt. h (suc k) d
    (omega arith)))

-- the same of all that is in a list
pub any_among : (f g : ℕ → Bool) (bits : ℕ) (xs : List ℕ) → ((b : ℕ) → Contains xs b → b < bits) → ((b : ℕ) → b < bits → f
    b ≡ g b) → list_any f xs ≡ list_any g xs
any_among f g bits xs inside same =
    any_same f g xs (λ k d lt. same (slice_index_or xs k d) (inside (slice_index_or xs k d) (All-contains_itself xs k d
    lt)))

module _ (n : Parts) (c : ℕ) (class : List (Option ℕ)) (is : IsClassOf n c class) (system : IsSystem (system_of n))
    (size : length n.drivers ≡ bits_of n.nets)
    (rows : List (List (Option ℕ))) (has : HasRows Reads (λ m. mark_of class (number_of n.nets m)) n.words (length
    n.words) rows) where
  row_reads : (w j : ℕ) → w < length n.words → j < width (word_at n.words w) →
      is_some (rows_mark rows w j) ≡ list_any (λ b. is_some (mark_of class b)) (table [] (reads_of (number_of n.nets))
      n.words (length n.words) w j)
  row_reads w j lw lj = ap (λ (o : Option ℕ). is_some o) (has.each w j lw lj)
      ∙ all_read (λ (o : Option ℕ). is_some o) refl some_mark (λ b. is_some (mark_of class b)) (λ m. mark_of class (number_of n.nets m)) (number_of n.nets) (λ m.
      refl) n.words (length n.words) w j

  driver_reads : (d : Driver) → NamesWord n.words d → IsDriver (bits_of n.nets) (source_of n.nets n.words d) →
      is_some (read_mark (rows_mark rows) d) ≡ list_any (leads_to (design_of n).copy_of (bits_of n.nets) c) (reads_ever
      (source_of n.nets n.words d))
  driver_reads Input names inside = refl
  driver_reads Undriven names inside = refl
  driver_reads (WordOf w j) names inside =
      row_reads w j names.0 names.1
      ∙ any_among (λ b. is_some (mark_of class b)) (leads_to (design_of n).copy_of (bits_of n.nets) c) (bits_of n.nets)
      (table [] (reads_of (number_of n.nets)) n.words (length n.words) w j) inside.bounded is.each
  driver_reads (Reg init w j) names inside =
      row_reads w j names.0 names.1
      ∙ any_among (λ b. is_some (mark_of class b)) (leads_to (design_of n).copy_of (bits_of n.nets) c) (bits_of n.nets)
      (table [] (reads_of (number_of n.nets)) n.words (length n.words) w j) inside.bounded is.each

  bit_takes : (outputs : List Bool) → outputs ≡ output_flags n.nets → All (NamesWord n.words) n.drivers → (b : ℕ) → b <
      length n.drivers →
      takes_at n.drivers outputs class (rows_mark rows) b ≡ takes_as_data (system_of n) (design_of n).copy_of
      (is_output_of (design_of n)) c b
  bit_takes outputs flags names b lt =
      let lb : b < bits_of n.nets = omega arith in
      let out = is_output_of (design_of n) b in
      let reads = is_some (read_mark (rows_mark rows) (driver_at n b)) in
      ap (λ t. cond t (slice_index_or outputs b false) reads) (is.each b lb)
      ∙ ap (λ x. cond (leads_to (design_of n).copy_of (bits_of n.nets) c b) x reads) (ap (λ (xs : List Bool).
      slice_index_or xs b false) flags ∙ flag_at n.nets b lb)
      ∙ ap (λ x. cond (leads_to (design_of n).copy_of (bits_of n.nets) c b) out x) (driver_reads (driver_at n b) (names
      b Undriven lt) (system b lb))

  pub first_taken : (outputs : List Bool) → outputs ≡ output_flags n.nets → All (NamesWord n.words) n.drivers →
      first_below (length n.drivers) (takes_at n.drivers outputs class (rows_mark rows))
      ≡ first_below (bits_of n.nets) (takes (design_of n) c)
  first_taken outputs flags names =
      first_same (length n.drivers) (takes_at n.drivers outputs class (rows_mark rows)) (takes (design_of n) c)
      (bit_takes outputs flags names)
      ∙ ap (λ k. first_below k (takes (design_of n) c)) size

-- ---- names

-- a net with its own name begins where its place says
pub named_offset : (nets : List NetInfo) → AllPairs (λ a b. a.name ≢ b.name) nets → (k : ℕ) → k < length nets →
    elab.offset (nets_of nets) (name_at nets k) ≡ offset nets k
named_offset [] apart k lt = absurd (omega arith)
named_offset (x ∷ xs) apart zero lt =
    ap (λ t. cond t 0 (width_of x + elab.offset (nets_of xs) x.name)) ((bytes_decides x.name x.name).1 refl)
named_offset (x ∷ xs) apart (suc k) lt =
    let other : bytes_eq (name_at xs k) x.name ≡ false = false_from_ne_true (bytes_eq (name_at xs k) x.name)
    (λ same. apart 0 (suc k) no_net (omega arith) lt (sym ((bytes_decides (name_at xs k) x.name).0 same))) in
    ap (λ t. cond t 0 (width_of x + elab.offset (nets_of xs) (name_at xs k))) other
    ∙ ap (λ m. width_of x + m) (named_offset xs (λ i j d less there. apart (suc i) (suc j) d (omega arith) (omega
    arith)) k (omega arith))
