-- What drives each bit, when the gates of all words stand.
use Rattle.std.proofs.Common.{◌≡◌, ℕ, zero, suc, ◌+◌, ◌<◌, List, [], ◌∷◌, true, false, All, map, sum_by, slice_index_or, length, refl, arith, sym, ap, subst, ◌∙◌}
use Rattle.std.proofs.lemmas.List.Elements.{All-head, All-tail}
use Rattle.eq_model.specs.System.{Values, reads_ever}
use Rattle.eq_bits.specs.declared.node.Node.{Node}
use Rattle.eq_bits.specs.declared.node.Node.TheVariants.{Const, Input as InputNode}
use Rattle.eq_bits.specs.Node.{AreNodes, node_at}
use Rattle.eq_net.specs.declared.types.NetInfo.{NetInfo}
use Rattle.eq_net.specs.declared.types.Driver.{Driver}
use Rattle.eq_net.specs.declared.types.Driver.TheVariants.{Input, Undriven, Expr, Reg}
use Rattle.eq_net.specs.Meaning.{all_reads_of, cost_of}
use Rattle.eq_net.specs.Net.{NamesWord, Parts, bits_of, driver_at, number_of, source_of}
use Rattle.eq_net.specs.Tree.{Tree}
use Rattle.eq_blast.specs.inner.Growing.{Grown, HasConstants}
use Rattle.eq_blast.specs.inner.Rows.{HasRows, asked_in, drive_node}
use Rattle.eq_blast.specs.inner.Wiring.{Computes, HasBits, IsClosed, IsGiven, IsWired, drive_of, node_of, source_at}
use Rattle.eq_blast.proofs.Asked.{table_asked}
use Rattle.eq_blast.proofs.Growth.{constants_still}
use Rattle.eq_blast.proofs.Performed.{zero_has, zero_value}

drive_at : (rows : List (List ℕ)) (ds : List Driver) (b : ℕ) → slice_index_or (map (drive_node rows) ds) b 0 ≡ drive_node rows (slice_index_or ds b Undriven)
drive_at rows [] b = refl
drive_at rows (d ∷ ds) zero = refl
drive_at rows (d ∷ ds) (suc b) = drive_at rows ds b

length_map : (rows : List (List ℕ)) (ds : List Driver) → length (map (drive_node rows) ds) ≡ length ds
length_map rows [] = refl
length_map rows (d ∷ ds) = (let e = length_map rows ds in omega arith)

named_at : (words : List Tree) (ds : List Driver) (b : ℕ) → All (NamesWord words) ds → NamesWord words (slice_index_or ds b Undriven)
named_at words [] b h = tt
named_at words (d ∷ ds) zero h = All-head (NamesWord words) d ds h
named_at words (d ∷ ds) (suc b) h = named_at words ds b (All-tail (NamesWord words) d ds h)

module _ (nets : List NetInfo) (words : List Tree) (nodes : List Node) (rows : List (List ℕ)) (base : HasConstants nodes) (has : HasRows nets words (length words) nodes rows) where
  -- the node has what the driver gives
  record Drives (o : Driver) : Type 0 where
    pub there : drive_node rows o < length nodes
    pub value : (x : Values) → Computes nodes x → IsGiven (source_of nets words o) (λ c. x (node_of c)) (x (drive_node rows o))
    pub reads : (d : Values) → IsClosed nodes d → HasBits d (reads_ever (source_of nets words o)) → d (drive_node rows o) ≡ true

  read_bits : (w j : ℕ) (d : Values) → HasBits d (all_reads_of (number_of nets) words w j) → asked_in nets words (length words) d w j ≡ true
  read_bits w j d h = table_asked d (number_of nets) words (length words) w j h

  driven : (o : Driver) → NamesWord words o → Drives o
  driven Input n = record { there = (let r = base.room in omega arith); value = λ x c. tt; reads = λ d c h. zero_has nodes base d c }
  driven Undriven n = record { there = (let r = base.room in omega arith); value = λ x c. zero_value nodes base x c; reads = λ d c h. zero_has nodes base d c }
  driven (Expr w j) n = (let i = has.each w j n.0 n.1 in record { there = i.there; value = λ x c. i.value x c; reads = λ d c h. i.has d c (read_bits w j d h) })
  driven (Reg init w j) n = (let i = has.each w j n.0 n.1 in record { there = i.there; value = λ x c. i.value x c; reads = λ d c h. i.has d c (read_bits w j d h) })

  driven_at : (ds : List Driver) → All (NamesWord words) ds → (b : ℕ) → Drives (slice_index_or ds b Undriven)
  driven_at ds h b = driven (slice_index_or ds b Undriven) (named_at words ds b h)

-- the graph of all words is the one that is wanted
pub wired : (net : Parts) (b0 b1 b2 : List Node) (rows : List (List ℕ)) (drives : List ℕ) → length net.drivers ≡ bits_of net.nets → All (NamesWord net.words) net.drivers →
    b0 ≡ Const false ∷ Const true ∷ [] → length b1 ≡ length b0 + bits_of net.nets → ((m : ℕ) → m < length b0 → node_at b1 m ≡ node_at b0 m) →
    ((b : ℕ) → b < bits_of net.nets → node_at b1 (length b0 + b) ≡ InputNode b) → Grown (sum_by cost_of net.words) b1 b2 → HasRows net.nets net.words (length net.words) b2 rows → AreNodes b2 →
    drives ≡ map (drive_node rows) net.drivers → IsWired net b2 drives
wired net b0 b1 b2 rows drives one named is size kept bits grown has nodes made =
    let two : length b0 ≡ 2 = ap length is in
    let zero_at : node_at b1 0 ≡ Const false = kept 0 (omega arith) ∙ ap (λ ns. node_at ns 0) is in
    let one_at : node_at b1 1 ≡ Const true = kept 1 (omega arith) ∙ ap (λ ns. node_at ns 1) is in
    let base0 : HasConstants b1 = record { room = omega arith; zero_node = zero_at; one_node = one_at } in
    let base = constants_still (sum_by cost_of net.words) b1 b2 grown base0 in
    let at : (b : ℕ) → drive_of drives b ≡ drive_node rows (driver_at net b) = λ b. ap (λ (ds : List ℕ). slice_index_or ds b 0) made ∙ drive_at rows net.drivers b in
    record {
      open_graph = record {
        room = (let s = grown.size in omega arith);
        zero_node = base.zero_node;
        one_node = base.one_node;
        bits = λ b lt. grown.kept (node_of b) (omega arith) ∙ ap (λ n. node_at b1 (n + b)) (sym two) ∙ bits b lt;
        gates = λ m le lt. grown.gates m (omega arith) lt;
        operands = nodes;
      };
      bound = (let s = grown.bound in omega arith);
      count = ap length made ∙ length_map rows net.drivers ∙ one;
      there = λ b lt. (let d = driven_at net.nets net.words b2 rows base has net.drivers named b in let P : ℕ → Type 0 = λ n. n < length b2 in subst P (sym (at b)) d.there);
      value = λ b lt x c. (
          let d = driven_at net.nets net.words b2 rows base has net.drivers named b in
          let P : ℕ → Type 0 = λ n. IsGiven (source_at net b) (λ c. x (node_of c)) (x n) in
          subst P (sym (at b)) (d.value x c));
      reads = λ b lt d c h. (
          let e = driven_at net.nets net.words b2 rows base has net.drivers named b in
          let P : ℕ → Type 0 = λ n. d n ≡ true in
          subst P (sym (at b)) (e.reads d c h));
    }
