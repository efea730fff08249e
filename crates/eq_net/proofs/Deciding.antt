-- What the test of a net says.
use Rattle.std.proofs.Common.{◌≡◌, ◌≢◌, ℕ, zero, suc, ◌<◌, ◌≤◌, ◌==◌, List, [], ◌∷◌, Bool, true, false, not, ◌&&◌, ◌||◌, nat_lt, nat_le, Option, Some, None, cond, length, All, AllPairs, Contains, ◌↔◌, refl, arith, ap, sym, subst, inl, inr, eq-eqb}
use Rattle.std.specs.List.{list_any}
use Rattle.std.specs.Option.{ForSome}
use Rattle.std.proofs.lemmas.Bool.{cases_lt, eqb-true, leb-true, ltb-true}
use Rattle.std.proofs.lemmas.List.Elements.{All-contains}
use Rattle.eq_model.specs.Nets.{Dir as Side, inner, is_input, is_output, at_bit}
use Rattle.eq_model.specs.System.{System, IsSystem, IsLoopFree, Reads as ReadsBit, reads_now}
use Rattle.eq_names.specs.declared.BitName.{BitName}
use Rattle.eq_net.specs.declared.types.NetInfo.{NetInfo}
use Rattle.eq_net.specs.declared.types.WordBit.{WordBit}
use Rattle.eq_net.specs.declared.types.Dir.{Dir}
use Rattle.eq_net.specs.declared.types.Dir.TheVariants.{Inner, Input as InputPort, Output as OutputPort}
use Rattle.eq_net.specs.declared.types.Driver.{Driver}
use Rattle.eq_net.specs.declared.types.Driver.TheVariants.{Input, Undriven, Expr as WordOf, Reg}
use Rattle.eq_net.specs.Nets.{width_of}
use Rattle.eq_net.specs.Operators.{has_free_sizes}
use Rattle.eq_net.specs.Tree.{Tree, const, read, pick, negated, opposite, binary, reduced, choice, empty, joined, extended}
use Rattle.eq_net.specs.Meaning.{reads_of, table, width}
use Rattle.eq_net.specs.Net.{AreWords, HasBit, HasWordBit, IsClock, IsNet, IsPortNet, IsWord, NamesWord, Parts, bits_of, driver_at, least_cost, most_cost, net_at, nets_of, number_of, source_of, system_of, word_at}
use Rattle.eq_net.specs.Decided.{all_hold, apart, below, every, has_bit, has_word_bit, is_above, is_clock, is_input_port, is_input_side, is_net, is_net_by_bits, is_outside, is_port, is_ranked, is_word, names_word, reads_below, same_name, same_truth, tests_with}
use Rattle.eq_net.proofs.Bounded.{AreIn, LeavesIn, none, word_in}
use Rattle.eq_net.proofs.Designed.{words_make_a_system}

-- ---- truth values, lists and numbers

left : (x y : Bool) → (x && y) ≡ true → x ≡ true
left true y e = refl
left false y e = absurd (cc)

right : (x y : Bool) → (x && y) ≡ true → y ≡ true
right true y e = e
right false y e = absurd (cc)

-- where not x, y
either : (x y : Bool) → (x || y) ≡ true → x ≡ false → y ≡ true
either true y e f = absurd (cc)
either false y e f = e

unless : (x y : Bool) → (not x || y) ≡ true → x ≡ true → y ≡ true
unless true y e f = e
unless false y e f = absurd (cc)

all_of_every : {A : Type 0} (p : A → Bool) (P : A → Type 0) → ((x : A) → p x ≡ true → P x) → (xs : List A) → every p xs ≡ true → All P xs
all_of_every p P h [] e k d lt = absurd (omega arith)
all_of_every p P h (x ∷ xs) e zero d lt = h x (left (p x) (every p xs) e)
all_of_every p P h (x ∷ xs) e (suc k) d lt = all_of_every p P h xs (right (p x) (every p xs) e) k d (omega arith)

each_below : (p : ℕ → Bool) (n : ℕ) → below p n ≡ true → (k : ℕ) → k < n → p k ≡ true
each_below p zero e k lt = absurd (omega arith)
each_below p (suc n) e k lt = elim (cases_lt k n) [
  | inl less ↦ each_below p n (left (below p n) (p n) e) k less
  | inr more ↦ (
      let same : n ≡ k = omega arith in
      let P : ℕ → Type 0 = λ i. p i ≡ true in
      subst P same (right (below p n) (p n) e))
]

differs : (x : Bool) → not x ≡ true → x ≡ true → ⊥
differs true e f = absurd (cc)
differs false e f = absurd (cc)

pairs_apart : {A : Type 0} (same : A → A → Bool) (P : A → A → Type 0) → ((x y : A) → not (same x y) ≡ true → P x y) →
    (xs : List A) → apart same xs ≡ true → AllPairs P xs
pairs_apart same P h [] e i j d lt lj = absurd (omega arith)
pairs_apart same P h (x ∷ xs) e i zero d lt lj = absurd (omega arith)
pairs_apart same P h (x ∷ xs) e zero (suc j) d lt lj =
    all_of_every (λ y. not (same x y)) (P x) (h x) xs (left (every (λ y. not (same x y)) xs) (apart same xs) e) j d (omega arith)
pairs_apart same P h (x ∷ xs) e (suc i) (suc j) d lt lj =
    pairs_apart same P h xs (right (every (λ y. not (same x y)) xs) (apart same xs) e) i j d (omega arith) (omega arith)

eq_self : (a : ℕ) → (a == a) ≡ true
eq_self a = eq-eqb a a refl

name_self : (a : List ℕ) → same_name a a ≡ true
name_self [] = refl
name_self (x ∷ xs) = rw (eq_self x) (name_self xs)

names_differ : (a b : List ℕ) → not (same_name a b) ≡ true → a ≢ b
names_differ a b e same = differs (same_name a b) e (let P : List ℕ → Type 0 = λ x. same_name a x ≡ true in subst P same (name_self a))

numbers_differ : (a b : ℕ) → not (a == b) ≡ true → a ≢ b
numbers_differ a b e same = differs (a == b) e (eq-eqb a b same)

-- ---- words

bit_there : (nets : List NetInfo) (b : BitName) → has_bit nets b ≡ true → HasBit nets b
bit_there nets b e = (
  ltb-true b.net (length nets) (left (nat_lt b.net (length nets)) (nat_lt b.bit (width_of (net_at nets b.net))) e),
  ltb-true b.bit (width_of (net_at nets b.net)) (right (nat_lt b.net (length nets)) (nat_lt b.bit (width_of (net_at nets b.net))) e),
)

word_bit_there : (words : List Tree) (k : ℕ) (b : WordBit) → has_word_bit words k b ≡ true → HasWordBit words k b
word_bit_there words k b e = (
  ltb-true b.word k (left (nat_lt b.word k) (nat_lt b.bit (width (word_at words b.word))) e),
  ltb-true b.bit (width (word_at words b.word)) (right (nat_lt b.word k) (nat_lt b.bit (width (word_at words b.word))) e),
)

module _ (nets : List NetInfo) (words : List Tree) (k : ℕ) where
  a_word : (t : Tree) → is_word nets words k t ≡ true → IsWord nets words k t
  a_word (const bits) e = tt
  a_word (read names) e = all_of_every (has_bit nets) (HasBit nets) (bit_there nets) names e
  a_word (pick bits) e = all_of_every (has_word_bit words k) (HasWordBit words k) (word_bit_there words k) bits e
  a_word (negated a) e = a_word a e
  a_word (opposite a) e = a_word a e
  a_word (binary o a b) e =
      let x = is_word nets words k a in
      let y = is_word nets words k b in
      let z = has_free_sizes o || (width a == width b) in
      let rest = right x (y && z) e in
      (a_word a (left x (y && z) e), a_word b (left y z rest), λ f. eqb-true (width a) (width b) (either (has_free_sizes o) (width a == width b) (right y z rest) f))
  a_word (reduced o a) e = a_word a e
  a_word (choice c a b) e =
      let w = is_word nets words k c in
      let x = is_word nets words k a in
      let y = is_word nets words k b in
      let z = width a == width b in
      let rest = right w (x && (y && z)) e in
      let last = right x (y && z) rest in
      (a_word c (left w (x && (y && z)) e), a_word a (left x (y && z) rest), a_word b (left y z last), eqb-true (width a) (width b) (right y z last))
  a_word empty e = tt
  a_word (joined a b) e = (a_word a (left (is_word nets words k a) (is_word nets words k b) e), a_word b (right (is_word nets words k a) (is_word nets words k b) e))
  a_word (extended a n) e =
      (a_word a (left (is_word nets words k a) (nat_le (width a) n) e), leb-true (width a) n (right (is_word nets words k a) (nat_le (width a) n) e))

place_named : (words : List Tree) (w j : ℕ) → (nat_lt w (length words) && nat_lt j (width (word_at words w))) ≡ true → (w < length words) × (j < width (word_at words w))
place_named words w j e = (
  ltb-true w (length words) (left (nat_lt w (length words)) (nat_lt j (width (word_at words w))) e),
  ltb-true j (width (word_at words w)) (right (nat_lt w (length words)) (nat_lt j (width (word_at words w))) e),
)

a_driver : (words : List Tree) (d : Driver) → names_word words d ≡ true → NamesWord words d
a_driver words Input e = tt
a_driver words Undriven e = tt
a_driver words (WordOf w j) e = place_named words w j e
a_driver words (Reg init w j) e = place_named words w j e

-- ---- nets

outside_of : (d : Driver) → is_outside d ≡ true → d ≡ Input
outside_of Input e = refl
outside_of Undriven e = absurd (cc)
outside_of (WordOf w j) e = absurd (cc)
outside_of (Reg init w j) e = absurd (cc)

side_of_input : (s : Side) → is_input_side s ≡ true → s ≡ is_input
side_of_input inner e = absurd (cc)
side_of_input is_input e = refl
side_of_input is_output e = absurd (cc)

both_ways : (x y : Bool) → same_truth x y ≡ true → (x ≡ true → y ≡ true) × (y ≡ true → x ≡ true)
both_ways true y e = ((λ f. e), (λ f. refl))
both_ways false true e = absurd (cc)
both_ways false false e = ((λ f. f), (λ f. f))

an_input : (d : Driver) (s : Side) → same_truth (is_outside d) (is_input_side s) ≡ true → (d ≡ Input) ↔ (s ≡ is_input)
an_input d s e =
    let ways = both_ways (is_outside d) (is_input_side s) e in
    ((λ f. side_of_input s (ways.0 (ap is_outside f))), (λ f. outside_of d (ways.1 (ap is_input_side f))))

not_inner : (d : Dir) → is_port d ≡ true → d ≢ Inner
not_inner Inner e f = absurd (cc)
not_inner InputPort e f = absurd (cc)
not_inner OutputPort e f = absurd (cc)

port_of : (d : Dir) → d ≢ Inner → is_port d ≡ true
port_of Inner ne = absurd (ne refl)
port_of InputPort ne = refl
port_of OutputPort ne = refl

input_port_of : (d : Dir) → is_input_port d ≡ true → d ≡ InputPort
input_port_of Inner e = absurd (cc)
input_port_of InputPort e = refl
input_port_of OutputPort e = absurd (cc)

a_clock : (nets : List NetInfo) (clock : Option ℕ) → is_clock nets clock ≡ true → ForSome clock (IsClock nets)
a_clock nets None e k is = absurd (cc)
a_clock nets (Some n) e k is =
    let x = nat_lt n (length nets) in
    let y = width_of (net_at nets n) == 1 in
    let z = is_input_port (net_at nets n).dir in
    let rest = right x (y && z) e in
    let P : ℕ → Type 0 = λ i. IsClock nets i in
    let same : n ≡ k = cc in
    subst P same (ltb-true n (length nets) (left x (y && z) e), eqb-true (width_of (net_at nets n)) 1 (left y z rest), input_port_of (net_at nets n).dir (right y z rest))

-- ---- the order of reading

module _ (rank tops : ℕ → ℕ) (number : BitName → ℕ) (r : ℕ → ℕ → List ℕ) (top : ℕ)
    (earlier : (b : WordBit) → tops b.word ≤ top → AreIn (λ i. rank i < top) (r b.word b.bit)) where
  ranked_leaves : (t : Tree) → is_ranked rank tops number top t ≡ true → LeavesIn (λ i. rank i < top) number r t
  ranked_leaves (const bits) e = tt
  ranked_leaves (read names) e = all_of_every (λ n. nat_lt (rank (number n)) top) (λ n. rank (number n) < top) (λ n. ltb-true (rank (number n)) top) names e
  ranked_leaves (pick bits) e =
      all_of_every (λ (b : WordBit). nat_le (tops b.word) top) (λ (b : WordBit). AreIn (λ i. rank i < top) (r b.word b.bit))
      (λ b f. earlier b (leb-true (tops b.word) top f)) bits e
  ranked_leaves (negated a) e = ranked_leaves a e
  ranked_leaves (opposite a) e = ranked_leaves a e
  ranked_leaves (binary o a b) e =
      let x = is_ranked rank tops number top a in
      let y = is_ranked rank tops number top b in
      (ranked_leaves a (left x y e), ranked_leaves b (right x y e))
  ranked_leaves (reduced o a) e = ranked_leaves a e
  ranked_leaves (choice c a b) e =
      let x = is_ranked rank tops number top c in
      let y = is_ranked rank tops number top a in
      let z = is_ranked rank tops number top b in
      let rest = right x (y && z) e in
      (ranked_leaves c (left x (y && z) e), ranked_leaves a (left y z rest), ranked_leaves b (right y z rest))
  ranked_leaves empty e = tt
  ranked_leaves (joined a b) e =
      let x = is_ranked rank tops number top a in
      let y = is_ranked rank tops number top b in
      (ranked_leaves a (left x y e), ranked_leaves b (right x y e))
  ranked_leaves (extended a n) e = ranked_leaves a e

this_or_before : (top : ℕ) (rank : ℕ → ℕ) (xs ys : List ℕ) (t : Bool) → (t ≡ true → AreIn (λ i. rank i < top) xs) → AreIn (λ i. rank i < top) ys →
    AreIn (λ i. rank i < top) (cond t xs ys)
this_or_before top rank xs ys true x y = x refl
this_or_before top rank xs ys false x y = y

-- what a word's bits read has a rank below the word's top
table_ranked : (rank tops : ℕ → ℕ) (number : BitName → ℕ) (words : List Tree) →
    ((k : ℕ) → k < length words → is_ranked rank tops number (tops k) (word_at words k) ≡ true) → (n : ℕ) → n ≤ length words → (w j : ℕ) →
    AreIn (λ i. rank i < tops w) (table [] (reads_of number) words n w j)
table_ranked rank tops number words ranked zero le w j = none (λ i. rank i < tops w)
table_ranked rank tops number words ranked (suc n) le w j =
    let r = table [] (reads_of number) words n in
    let before = table_ranked rank tops number words ranked n (omega arith) in
    this_or_before (tops w) rank (reads_of number r (word_at words n) j) (r w j) (w == n) (λ e. (
    let same : w ≡ n = eqb-true w n e in
    let P : ℕ → Type 0 = λ k. AreIn (λ i. rank i < tops k) (reads_of number r (word_at words n) j) in
    subst P (sym same) (word_in (λ i. rank i < tops n) number r (word_at words n)
    (ranked_leaves rank tops number r (tops n) (λ b low i c. (let lt = before b.word b.bit i c in omega arith)) (word_at words n) (ranked n (omega arith))) j)))
    (before w j)

driver_ranked : (n : Parts) (rank tops : ℕ → ℕ) → ((w j : ℕ) → AreIn (λ i. rank i < tops w) (table [] (reads_of (number_of n.nets)) n.words (length n.words) w j)) →
    (d : Driver) (a : ℕ) → is_above tops d (rank a) ≡ true → (b : ℕ) → Contains (reads_now (source_of n.nets n.words d)) b → rank b < rank a
driver_ranked n rank tops low Input a e b c = (let lt : c.0 < 0 = c.1 in absurd (omega arith))
driver_ranked n rank tops low Undriven a e b c = (let lt : c.0 < 0 = c.1 in absurd (omega arith))
driver_ranked n rank tops low (WordOf w j) a e b c = (let lt = low w j b c in let le = leb-true (tops w) (rank a) e in omega arith)
driver_ranked n rank tops low (Reg init w j) a e b c = (let lt : c.0 < 0 = c.1 in absurd (omega arith))

-- a netlist whose points hold is a net, where the order of reading leaves no loop
points : (n : Parts) (words bits : Bool) → all_hold (tests_with words bits n) ≡ true →
    (AreWords n.nets n.words → words ≡ true → bits ≡ true → IsLoopFree (system_of n)) → IsNet n
points n words bits e loop_free =
    let t = tests_with words bits n in
    let e1 = right t.names _ e in
    let e2 = right t.one_driver _ e1 in
    let e3 = right t.words_read _ e2 in
    let e4 = right t.drivers_named _ e3 in
    let e5 = right t.inputs _ e4 in
    let e6 = right t.ports_apart _ e5 in
    let e7 = right t.ports_are _ e6 in
    let e8 = right t.all_ports _ e7 in
    let e9 = right t.clocked _ e8 in
    let e10 = right t.words_ranked _ e9 in
    let e11 = right t.bits_ranked _ e10 in
    let are : AreWords n.nets n.words = λ k lt. a_word n.nets n.words k (word_at n.words k)
    (each_below (λ i. is_word n.nets n.words i (word_at n.words i)) (length n.words) (left t.words_read _ e2) k lt) in
    record {
      names = pairs_apart (λ (a b : NetInfo). same_name a.name b.name) (λ a b. a.name ≢ b.name) (λ a b f. names_differ a.name b.name f) n.nets (left t.names _ e);
      one_driver = eqb-true (length n.drivers) (bits_of n.nets) (left t.one_driver _ e1);
      words_read = are;
      drivers_named = all_of_every (names_word n.words) (NamesWord n.words) (a_driver n.words) n.drivers (left t.drivers_named _ e3);
      inputs = λ b lt. an_input (driver_at n b) (at_bit inner (λ m p. m.dir) (nets_of n.nets) b)
          (each_below (λ i. same_truth (is_outside (driver_at n i)) (is_input_side (at_bit inner (λ m p. m.dir) (nets_of n.nets) i))) (bits_of n.nets) (left t.inputs _ e4) b lt);
      ports_apart = pairs_apart (λ p q. p == q) (λ p q. p ≢ q) numbers_differ n.ports (left t.ports_apart _ e5);
      ports_are = all_of_every (λ k. nat_lt k (length n.nets) && is_port (net_at n.nets k).dir) (IsPortNet n.nets)
          (λ k f. (ltb-true k (length n.nets) (left (nat_lt k (length n.nets)) (is_port (net_at n.nets k).dir) f), not_inner (net_at n.nets k).dir (right (nat_lt k (length n.nets)) (is_port (net_at n.nets k).dir) f)))
          n.ports (left t.ports_are _ e6);
      all_ports = λ k is. (unless (is_port (net_at n.nets k).dir) (list_any (λ p. p == k) n.ports)
          (each_below (λ i. not (is_port (net_at n.nets i).dir) || list_any (λ p. p == i) n.ports) (length n.nets) (left t.all_ports _ e7) k is.0) (port_of (net_at n.nets k).dir is.1));
      clocked = a_clock n.nets n.clock (left t.clocked _ e8);
      loop_free = loop_free are (left t.words_ranked _ e9) (left t.bits_ranked _ e10);
      covered = leb-true (least_cost n) n.cost (left (nat_le (least_cost n) n.cost) (nat_le n.cost most_cost) e11);
      limited = leb-true n.cost most_cost (right (nat_le (least_cost n) n.cost) (nat_le n.cost most_cost) e11);
    }

module _ (ranked : (s : System) → IsSystem s → (rank : ℕ → ℕ) → ((a b : ℕ) → a < s.bits → ReadsBit s a b → rank b < rank a) → IsLoopFree s) where
  -- a netlist of which the test says yes is a net
  pub decided : (rank tops : ℕ → ℕ) (n : Parts) → is_net rank tops n ≡ true → IsNet n
  decided rank tops n e =
      points n _ _ e (λ are words bits. (
      let low = table_ranked rank tops (number_of n.nets) n.words
      (each_below (λ k. is_ranked rank tops (number_of n.nets) (tops k) (word_at n.words k)) (length n.words) words) (length n.words) (omega arith) in
      ranked (system_of n) (words_make_a_system n are) rank (λ a b lt reads. driver_ranked n rank tops low (driver_at n a) a
      (each_below (λ i. is_above tops (driver_at n i) (rank i)) (bits_of n.nets) bits a lt) b reads)))

  -- and so is one of which the test of bits does
  pub decided_by_bits : (rank : ℕ → ℕ) (n : Parts) → is_net_by_bits rank n ≡ true → IsNet n
  decided_by_bits rank n e =
      points n true _ e (λ are words bits. ranked (system_of n) (words_make_a_system n are) rank (λ a b lt reads.
      All-contains (λ r. rank r < rank a) (reads_now ((system_of n).driver a)) b
      (all_of_every (λ r. nat_lt (rank r) (rank a)) (λ r. rank r < rank a) (λ r. ltb-true (rank r) (rank a)) (reads_now ((system_of n).driver a))
      (each_below (reads_below rank n) (bits_of n.nets) bits a lt)) reads))
