-- The places of a target's bits, written position by position, have the next values that the target is set to.
use Rattle.std.proofs.Common.{◌≡◌, ℕ, zero, suc, ◌+◌, ◌<◌, ◌≤◌, ◌^◌, ◌==◌, max, Bool, true, false, cond, List, [], ◌∷◌, ◌++◌, length, length-append, slice_get, slice_index_or, Option, Some, None, is_some, refl, arith, sym, ap, subst, ◌∙◌, inl, inr}
use Rattle.std.proofs.lemmas.Bool.{cases_Bool, cases_lt, false≢true}
use Rattle.std.proofs.lemmas.Bool.Decides.{Decides-eqb}
use Rattle.std.proofs.lemmas.Option.{none-some, same_Some, slice_get-get_or, slice_get_within}
use Rattle.eq_model.specs.System.{Values}
use Rattle.eq_names.specs.declared.BitName.{BitName}
use Rattle.eq_net.specs.declared.types.NetInfo.{NetInfo}
use Rattle.eq_net.specs.declared.types.WordBit.{WordBit}
use Rattle.eq_net.specs.Tree.{Tree}
use Rattle.eq_net.specs.Meaning.{all_reads_of, if_there, values_of}
use Rattle.eq_net.specs.Nets.{width_of}
use Rattle.eq_net.specs.Net.{AreWords, HasBit, HasWordBit, bits_of, net_at, number_of, offset, word_at}
use Rattle.eq_verilog.specs.Clocks.{is_bit}
use Rattle.eq_verilog.specs.Trees.{ExprTree, set}
use Rattle.eq_verilog.specs.Scopes.{Scope}
use Rattle.eq_verilog.specs.Sizes.{context, own}
use Rattle.eq_verilog.specs.Expressions.{reads, value, wire}
use Rattle.eq_verilog.specs.Equations.{formula, place_below, place_in}
use Rattle.eq_verilog.specs.Registers.{Table}
use Rattle.eq_flatten.specs.Driving.{number_in, AreWired}
use Rattle.eq_flatten.specs.Equating.{AreStarts}
use Rattle.eq_flatten.specs.Meant.{AddsMeant, AreMeant}
use Rattle.eq_flatten.specs.Rendering.{KeepsFront, Makes, Renders}
use Rattle.eq_registers.specs.Standing.{AreNext, AreThere, StandsFor}
use Rattle.eq_registers.specs.Running.{AllKeys, HasRun}
use Rattle.eq_registers.specs.inner.Writing.{AreKeyed, IsWritten, entry}
use Rattle.eq_registers.proofs.Placed.{some_at}
use Rattle.eq_registers.proofs.Grown.{added_cost, added_word, keeps_more, keeps_twice, renders_later, words_more}
use Rattle.eq_registers.proofs.Stood.{stands_later, stands_word, there_later}

false_same : (a b : ℕ) → a ≡ b → (a == b) ≡ false → ⊥
false_same a b e f = (let t = (Decides-eqb a b).1 e in absurd (cc))

-- ---- positions of a target

-- a position is one of the first n
pub below : (n : ℕ) (f : ℕ → Option ℕ) (b i : ℕ) → place_below n f b ≡ Some i → i < n
below zero f b i e = absurd (none-some i e)
below (suc n) f b i e = elim (cases_Bool (is_bit b (f n))) [
  | inl here ↦ (
      let same : n ≡ i = same_Some n i (sym (ap (λ t. cond t (Some n) (place_below n f b)) here) ∙ e) in
      omega (arith, same))
  | inr other ↦ (
      let less = below n f b i (sym (ap (λ t. cond t (Some n) (place_below n f b)) other) ∙ e) in
      omega (arith, less))
]

-- the bit at one of the first n positions has one of these
pub stands_below : (n : ℕ) (f : ℕ → Option ℕ) (b i : ℕ) → i < n → f i ≡ Some b → is_some (place_below n f b) ≡ true
stands_below zero f b i lt e = absurd (omega arith)
stands_below (suc n) f b i lt e = elim (cases_Bool (is_bit b (f n))) [
  | inl here ↦ ap (λ t. is_some (cond t (Some n) (place_below n f b))) here
  | inr other ↦ elim (cases_lt i n) [
    | inl less ↦
        ap (λ t. is_some (cond t (Some n) (place_below n f b))) other ∙ stands_below n f b i less e
    | inr more ↦ (
        let same : i ≡ n = omega (arith, lt, more) in
        let is : is_bit b (f n) ≡ true =
        ap (λ k. is_bit b (f k)) (sym same) ∙ ap (is_bit b) e ∙ (Decides-eqb b b).1 refl in
        absurd (false≢true (sym other ∙ is)))
  ]
]

-- ---- one position more

module _ (keys : List ℕ) (f : ℕ → Option ℕ) (word : ℕ) where
  pub written_none : (before : List WordBit) → IsWritten keys f word before before 0
  written_none before = record { size = refl; entries = λ p b key. refl }

  pub written_more : (before mid after : List WordBit) (n c : ℕ) → IsWritten keys f word before mid n → f n ≡ Some c →
      length after ≡ length mid →
      ((p : ℕ) → slice_get keys p ≡ Some c → slice_get after p ≡ Some (entry word n)) →
      ((p b : ℕ) → slice_get keys p ≡ Some b → (b ≡ c → ⊥) → slice_get after p ≡ slice_get mid p) →
      IsWritten keys f word before after (suc n)
  written_more before mid after n c so_far is size here others = record {
    size = size ∙ so_far.size;
    entries = λ p b key.
        let had = slice_get before p in
        let next : Bool → Option ℕ = λ t. cond t (Some n) (place_below n f b) in
        let shown : Option ℕ → Option WordBit = λ o. if_there had (λ j. Some (entry word j)) o in
        let goes : place_below (suc n) f b ≡ next (c == b) = ap (λ o. next (is_bit b o)) is in
        elim (cases_Bool (c == b)) [
          | inl same ↦
              here p (key ∙ ap (λ x. Some x) (sym ((Decides-eqb c b).0 same)))
              ∙ sym (ap shown (goes ∙ ap next same))
          | inr other ↦
              others p b key (λ e. false_same c b (sym e) other) ∙ so_far.entries p b key
              ∙ sym (ap shown (goes ∙ ap next other))
        ];
  }

-- ---- the bits of a target by their numbers

pub bit_below : (nets : List NetInfo) (k j : ℕ) → k < length nets → j < width_of (net_at nets k) →
    offset nets k + j < bits_of nets
bit_below [] k j there inside = absurd (omega (arith, there))
bit_below (n ∷ ns) zero j there inside = omega (arith, inside)
bit_below (n ∷ ns) (suc k) j there inside = (let h = bit_below ns k j (omega (arith, there)) inside in omega (arith, h))

module _ (nets : List NetInfo) (starts : List ℕ) (are : AreStarts nets starts) where
  pub numbers_agree : (b : BitName) → HasBit nets b → number_of nets b ≡ number_in starts b
  numbers_agree b has = ap (λ n. n + b.bit) (sym (are.are b.net has.0))

  pub meant_wired : (s : Scope) (t : ExprTree) (bits : List BitName) → AreMeant nets s t bits →
      AreWired starts bits (wire s t)
  meant_wired s t bits meant j d inside =
      sym (meant.wires j)
      ∙ ap (λ (o : Option BitName). if_there None (λ (b : BitName). Some (number_of nets b)) o)
      (slice_get-get_or bits j d inside)
      ∙ ap (λ n. Some n) (numbers_agree (slice_index_or bits j d) (meant.there j d inside))

  -- each has a place where all that is set has one
  pub meant_keyed : (s : Scope) (t e : ExprTree) (keys : List ℕ) (bits : List BitName) → AreMeant nets s t bits →
      bits_of nets < 2 ^ 32 → AllKeys keys s (set t e) → AreKeyed starts keys bits
  meant_keyed s t e keys bits meant few all k d inside =
      let b = slice_index_or bits k d in
      let h : HasBit nets b = meant.there k d inside in
      let lies = bit_below nets b.net b.bit h.0 h.1 in
      let same = numbers_agree b h in
      let long = are.size in
      let net = h.0 in
      let size = meant.size in (
        omega (arith, net, long),
        omega (arith, lies, same, few),
        all (number_in starts b) (stands_below (own s t) (wire s t) (number_in starts b) k (omega (arith, inside, size))
            (meant_wired s t bits meant k d inside)),
      )

-- ---- a target that is set

module _ (nets : List NetInfo) (s : Scope) (t e : ExprTree) (keys : List ℕ) (old mid : List Tree) (x : Tree)
    (before after : List WordBit) where
  abbrev New : List Tree
  New = mid ++ x ∷ []

  abbrev Written : Type 0
  Written = IsWritten keys (wire s t) (length mid) before after (own s t)

  abbrev Here : ℕ → Option ℕ → Option WordBit
  Here p o = if_there (slice_get before p) (λ j. Some (entry (length mid) j)) o

  word_there : length mid < length New
  word_there = (let e = length-append mid (x ∷ []) in omega arith)

  word_renders : Makes nets s e (context s t s e) old mid x → Renders nets New s e (context s t s e) (word_at New (length mid))
  word_renders makes =
      subst (λ (y : Tree). Renders nets New s e (context s t s e) y) (sym (added_word mid x))
      (renders_later nets mid New s e (context s t s e) x (keeps_more mid x) makes.renders)

  grown : Makes nets s e (context s t s e) old mid x → KeepsFront old New
  grown makes = keeps_twice old mid New makes.extends (keeps_more mid x)

  position_fits : (b i : ℕ) → place_in s t b ≡ Some i → i < context s t s e
  position_fits b i is = (let less = below (own s t) (wire s t) b i is in omega (arith, less))

  entry_is : (p : ℕ) (w : WordBit) (i : ℕ) → Here p (Some i) ≡ Some w → entry (length mid) i ≡ w
  entry_is p w i is = same_Some (entry (length mid) i) w is

  -- an entry is there
  entry_there : Makes nets s e (context s t s e) old mid x → AreThere old before → (p b : ℕ) (w : WordBit) (o : Option ℕ) →
      place_in s t b ≡ o → Here p o ≡ Some w → HasWordBit New (length New) w
  entry_there makes there p b w None is here = there_later nets old New w (grown makes) (there p w here)
  entry_there makes there p b w (Some i) is here =
      subst (λ (y : WordBit). HasWordBit New (length New) y) (entry_is p w i here)
      (word_there, (let size = (word_renders makes).size in let fits = position_fits b i is in omega (arith, size, fits)))

  -- and has the bit's next value
  entry_stands : Makes nets s e (context s t s e) old mid x →
      ((v : Values) (j : ℕ) → values_of v (number_of nets) New (length mid) j ≡ value s v e (context s t s e) j) →
      ((j : ℕ) → all_reads_of (number_of nets) New (length mid) j ≡ reads s e (context s t s e) j) →
      (table : Table) → AreNext nets old keys before table → (p b : ℕ) (w : WordBit) (o : Option ℕ) →
      slice_get keys p ≡ Some b → place_in s t b ≡ o → Here p o ≡ Some w →
      StandsFor nets New w (if_there (table b) (formula s t s e) o)
  entry_stands makes values reading table next p b w None key is here =
      stands_later nets old New w (table b) (grown makes) (next p b w key here)
  entry_stands makes values reading table next p b w (Some i) key is here =
      subst (λ (y : WordBit). StandsFor nets New y (formula s t s e i)) (entry_is p w i here)
      (stands_word nets New s e (context s t s e) (length mid) i word_there (word_renders makes) (position_fits b i is)
      values reading)

  entry_fresh : KeepsFront old mid → (p : ℕ) (w : WordBit) (o : Option ℕ) → is_some o ≡ true → Here p o ≡ Some w →
      length old ≤ w.word
  entry_fresh more p w None is here = absurd (false≢true is)
  entry_fresh more p w (Some i) is here =
      let same = ap (λ (y : WordBit). y.word) (entry_is p w i here) in
      let le = more.more in
      omega (arith, same, le)

  entry_kept : (p : ℕ) (o : Option ℕ) → is_some o ≡ false → Here p o ≡ slice_get before p
  entry_kept p None is = refl
  entry_kept p (Some i) is = absurd (false≢true (sym is))

  pub target_set : Makes nets s e (context s t s e) old mid x → Written → length before ≡ length keys →
      AreWords nets old → AreThere old before →
      ((v : Values) (j : ℕ) → values_of v (number_of nets) New (length mid) j ≡ value s v e (context s t s e) j) →
      ((j : ℕ) → all_reads_of (number_of nets) New (length mid) j ≡ reads s e (context s t s e) j) →
      HasRun nets s (set t e) keys old New before after
  target_set makes written size are there values reading = record {
    extends = grown makes;
    words = words_more nets mid x (makes.words are) makes.renders.is_word;
    size = written.size;
    there = λ p w here.
        let inside = slice_get_within after p w here in
        let same = written.size in
        let key = some_at keys p (omega (arith, inside, same, size)) in
        entry_there makes there p key.0 w (place_in s t key.0) refl (sym (written.entries p key.0 key.1) ∙ here);
    next = λ table next p b w key here.
        entry_stands makes values reading table next p b w (place_in s t b) key refl (sym (written.entries p b key) ∙ here);
    fresh = λ p b w key is here.
        entry_fresh makes.extends p w (place_in s t b) is (sym (written.entries p b key) ∙ here);
    kept = λ p b key is. written.entries p b key ∙ entry_kept p (place_in s t b) is;
    costs = λ n le. (let p = makes.costs in let a = added_cost mid x in omega (arith, p, a));
  }

-- the bits of a target, put behind none
pub meant_alone : (nets : List NetInfo) (s : Scope) (t : ExprTree) (old new : List BitName) → old ≡ [] →
    AddsMeant nets s t old new → AreMeant nets s t new
meant_alone nets s t old new none adds =
    subst (λ (bs : List BitName). AreMeant nets s t bs)
    (sym (adds.added ∙ ap (λ (bs : List BitName). bs ++ adds.bits) none)) adds.meant

-- what the code makes of an assignment
pub set_made : (nets : List NetInfo) (s : Scope) (t e : ExprTree) (keys starts : List ℕ) (bits : List BitName)
    (w n k : ℕ) (old mid new : List Tree) (x : Tree) (before after : List WordBit)
    → AreStarts nets starts → AreMeant nets s t bits → Makes nets s e w old mid x
    → w ≡ max n (own s e) → n ≡ length bits → new ≡ mid ++ x ∷ [] → k ≡ length mid
    → ((f : ℕ → Option ℕ) → AreWired starts bits f → IsWritten keys f k before after (length bits))
    → length before ≡ length keys → AreWords nets old → AreThere old before
    → ((nets : List NetInfo) (words : List Tree) (s : Scope) (e : ExprTree) (w k : ℕ) → AreWords nets words →
    k < length words → Renders nets words s e w (word_at words k) → (v : Values) (j : ℕ) →
    values_of v (number_of nets) words k j ≡ value s v e w j)
    → ((nets : List NetInfo) (words : List Tree) (s : Scope) (e : ExprTree) (w k : ℕ) → AreWords nets words →
    k < length words → Renders nets words s e w (word_at words k) → (j : ℕ) →
    all_reads_of (number_of nets) words k j ≡ reads s e w j)
    → HasRun nets s (set t e) keys old new before after
set_made nets s t e keys starts bits w n k old mid new x before after are meant made width count added number written
    size words there values reading =
    let c = context s t s e in
    let is : w ≡ c = width ∙ ap (λ i. max i (own s e)) (count ∙ meant.size) in
    let makes : Makes nets s e c old mid x = subst (λ i. Makes nets s e i old mid x) is made in
    let goes : IsWritten keys (wire s t) (length mid) before after (own s t) =
    subst (λ i. IsWritten keys (wire s t) (length mid) before after i) meant.size
    (subst (λ i. IsWritten keys (wire s t) i before after (length bits)) number
    (written (wire s t) (meant_wired nets starts are s t bits meant))) in
    let now = mid ++ x ∷ [] in
    let good = words_more nets mid x (makes.words words) makes.renders.is_word in
    let inside = word_there nets s t e keys old mid x before after in
    let renders = word_renders nets s t e keys old mid x before after makes in
    subst (λ ws. HasRun nets s (set t e) keys old ws before after) (sym added)
    (target_set nets s t e keys old mid x before after makes goes size words there
    (values nets now s e c (length mid) good inside renders)
    (reading nets now s e c (length mid) good inside renders))
