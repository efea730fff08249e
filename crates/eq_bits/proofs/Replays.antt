-- Values that are computed cycle by cycle are those of every run. In each cycle, what a node has in a run is what it
-- computes from the nodes before it and from what it is given, and that is the same in the scratch.
use Rattle.std.proofs.Common.{◌≡◌, ℕ, zero, suc, ◌<◌, ◌-◌, List, [], Bool, true, slice_index_or, length, refl, arith, sym, subst, ◌∙◌}
use Rattle.std.proofs.lemmas.List.Elements.{All-get_or}
use Rattle.eq_model.specs.System.{Values, IsInput, Meets, Follows, compute}
use Rattle.eq_model.specs.Frames.{values}
use Rattle.eq_bits.specs.declared.node.Node.{Node}
use Rattle.eq_bits.specs.declared.node.Node.TheVariants.{Const, Input, Not, And, Xor, Mux, Buf, Reg}
use Rattle.eq_bits.specs.declared.part.Part.{Part}
use Rattle.eq_bits.specs.declared.run.Run.{Run}
use Rattle.eq_bits.specs.Node.{driver_of, input_of, is_register, node_at, AreNodes, IsNode}
use Rattle.eq_bits.specs.Cycle.{held, place, values_with, values_after}
use Rattle.eq_bits.specs.Part.{NamesNodes}
use Rattle.eq_bits.specs.Replay.{IsFirstDifference, IsReplay, IsSame, meaning, output_at}
use Rattle.eq_bits.specs.inner.Computing.{HasComputed}
use Rattle.eq_bits.specs.inner.Replaying.{HasCycle, IsFirstOutput, IsSameAt}
use Rattle.eq_bits.proofs.Computing.{compute_same}

-- two lists of values that are computed from the same given values are the same
module _ (nodes : List Node) (are : AreNodes nodes) (u v w : Values)
    (v_is : (m : ℕ) → m < length nodes → v m ≡ compute (driver_of (node_at nodes m)) v (u m))
    (w_is : (m : ℕ) → m < length nodes → w m ≡ compute (driver_of (node_at nodes m)) w (u m)) where
  below : (k m : ℕ) → m < k → m < length nodes → v m ≡ w m
  below zero m less there = absurd (omega arith)
  below (suc k) m less there =
      v_is m there
      ∙ compute_same (length nodes) m (node_at nodes m) (are m there) v w (u m)
      (λ r before. below k r (omega arith) (omega arith))
      ∙ sym (w_is m there)

  pub computed_once : (m : ℕ) → m < length nodes → v m ≡ w m
  computed_once m there = below (suc m) m (omega arith) there

-- a node that meets its driver, and has what it is given, has what it computes
computes : (node : Node) (v inputs before : Values) (x : Bool) → Meets (driver_of node) v x →
    (IsInput (driver_of node) → x ≡ inputs (input_of node)) →
    Follows (driver_of node) before x → x ≡ compute (driver_of node) v (held inputs before node)
computes (Const b) v inputs before x meets given follows = meets
computes (Input i) v inputs before x meets given follows = given tt
computes (Not a) v inputs before x meets given follows = meets
computes (And a b) v inputs before x meets given follows = meets
computes (Xor a b) v inputs before x meets given follows = meets
computes (Mux s a b) v inputs before x meets given follows = meets
computes (Buf a) v inputs before x meets given follows = meets
computes (Reg next init) v inputs before x meets given follows = follows

-- what a register has in the first cycle, said as what it follows
begins_as : (node : Node) (x r : Bool) → (is_register node ≡ true → x ≡ r) → Follows (driver_of node) (λ _. r) x
begins_as (Const b) x r h = tt
begins_as (Input i) x r h = tt
begins_as (Not a) x r h = tt
begins_as (And a b) x r h = tt
begins_as (Xor a b) x r h = tt
begins_as (Mux s a b) x r h = tt
begins_as (Buf a) x r h = tt
begins_as (Reg next init) x r h = h refl

-- what follows from some values follows from the same values
follows_same : (n m : ℕ) (node : Node) → IsNode n m node → (v w : Values) (x : Bool) → ((k : ℕ) → k < n → v k ≡ w k) →
    Follows (driver_of node) v x → Follows (driver_of node) w x
follows_same n m (Const b) is v w x same h = tt
follows_same n m (Input i) is v w x same h = tt
follows_same n m (Not a) is v w x same h = tt
follows_same n m (And a b) is v w x same h = tt
follows_same n m (Xor a b) is v w x same h = tt
follows_same n m (Mux s a b) is v w x same h = tt
follows_same n m (Buf a) is v w x same h = tt
follows_same n m (Reg next init) is v w x same h = h ∙ same next is

module _ (part : Part) (run : Run) where
  -- what a node has in a run's first cycle, and in a later one after values that are those of the run
  pub in_first : (x : ℕ → Values) → IsReplay part run x → 0 < length run.inputs → (m : ℕ) → m < length part.nodes →
      x 0 m ≡ compute (driver_of (node_at part.nodes m)) (x 0)
      (values_with part.nodes run.regs (slice_index_or run.inputs 0 []) m)
  in_first x is some m there =
      computes (node_at part.nodes m) (x 0) (values (slice_index_or run.inputs 0 []))
      (λ _. values run.regs (place part.nodes m)) (x 0 m)
      (is.follows.solves.now 0 m some there refl)
      (λ input. is.follows.inputs 0 m some there input)
      (begins_as (node_at part.nodes m) (x 0 m) (values run.regs (place part.nodes m)) (is.begins some m there))

  pub in_next : (x : ℕ → Values) → IsReplay part run x → (c : ℕ) → suc c < length run.inputs → (before : Values) →
      ((k : ℕ) → k < length part.nodes → x c k ≡ before k) → (m : ℕ) → m < length part.nodes →
      x (suc c) m ≡ compute (driver_of (node_at part.nodes m)) (x (suc c))
      (values_after part.nodes before (slice_index_or run.inputs (suc c) []) m)
  in_next x is c more before same m there =
      computes (node_at part.nodes m) (x (suc c)) (values (slice_index_or run.inputs (suc c) [])) before (x (suc c) m)
      (is.follows.solves.now (suc c) m more there refl)
      (λ input. is.follows.inputs (suc c) m more there input)
      (follows_same (length part.nodes) m (node_at part.nodes m) (part.is_part.operands m there) (x c) before
      (x (suc c) m)
      same (is.follows.solves.next c m more there refl))

  -- the first cycle
  first_cycle : (xs : List Bool) → 0 < length run.inputs →
      HasComputed part.nodes (values_with part.nodes run.regs (slice_index_or run.inputs 0 [])) (length part.nodes)
      xs → HasCycle part run 0 xs
  first_cycle xs some computed x is =
      computed_once part.nodes part.is_part.operands
      (values_with part.nodes run.regs (slice_index_or run.inputs 0 [])) (values xs) (x 0)
      computed (in_first x is some)

  -- a cycle after the one that the scratch has
  next_cycle : (c : ℕ) (before xs : List Bool) → suc c < length run.inputs → HasCycle part run c before →
      HasComputed part.nodes (values_after part.nodes (values before) (slice_index_or run.inputs (suc c) []))
      (length part.nodes) xs → HasCycle part run (suc c) xs
  next_cycle c before xs more has computed x is =
      computed_once part.nodes part.is_part.operands
      (values_after part.nodes (values before) (slice_index_or run.inputs (suc c) [])) (values xs) (x (suc c))
      computed (in_next x is c more (values before) (λ k lt. sym (has x is k lt)))

  -- the same for what is lent of the part and the run
  pub begun : (c : ℕ) (nodes : List Node) (regs inputs xs : List Bool) → c ≡ 0 → c < length run.inputs →
      nodes ≡ part.nodes → regs ≡ run.regs → inputs ≡ slice_index_or run.inputs c [] →
      HasComputed nodes (values_with nodes regs inputs) (length nodes) xs → HasCycle part run c xs
  begun (suc c) nodes regs inputs xs first there n r i computed = absurd (omega arith)
  begun zero nodes regs inputs xs first there n r i computed =
      let P : List Node → Type 0 = λ ns. HasComputed ns (values_with ns regs inputs) (length ns) xs in
      let Q : List Bool → Type 0 = λ rs. HasComputed part.nodes (values_with part.nodes rs inputs)
      (length part.nodes) xs in
      let R : List Bool → Type 0 = λ is. HasComputed part.nodes (values_with part.nodes run.regs is)
      (length part.nodes) xs in
      first_cycle xs there (subst R i (subst Q r (subst P n computed)))

  pub followed : (c : ℕ) (nodes : List Node) (inputs before xs : List Bool) → 0 < c → c < length run.inputs →
      nodes ≡ part.nodes → inputs ≡ slice_index_or run.inputs c [] → (0 < c → HasCycle part run (c - 1) before) →
      HasComputed nodes (values_after nodes (values before) inputs) (length nodes) xs → HasCycle part run c xs
  followed zero nodes inputs before xs later there n i has computed = absurd (omega arith)
  followed (suc c) nodes inputs before xs later there n i has computed =
      let P : List Node → Type 0 = λ ns. HasComputed ns (values_after ns (values before) inputs) (length ns) xs in
      let R : List Bool → Type 0 = λ is. HasComputed part.nodes (values_after part.nodes (values before) is)
      (length part.nodes) xs in
      let less : suc c - 1 ≡ c = omega arith in
      let S : ℕ → Type 0 = λ k. HasCycle part run k before in
      next_cycle c before xs there (subst S less (has later)) (subst R i (subst P n computed))

-- in a cycle whose values the scratch has, outputs differ in the run just where they differ in the scratch
module _ (part : Part) (run : Run) (c : ℕ) (xs : List Bool) (has : HasCycle part run c xs) (x : ℕ →
    Values) (is : IsReplay part run x) where
  both : (o : ℕ) → o < length part.outputs → NamesNodes (length part.nodes) (output_at part.outputs o)
  both o there =
      All-get_or (NamesNodes (length part.nodes)) part.outputs o (record { name = []; gold = 0; gate = 0 }) there
      part.is_part.outputs_there

  gold_is : (o : ℕ) → o < length part.outputs →
      values xs (output_at part.outputs o).gold ≡ x c (output_at part.outputs o).gold
  gold_is o there = has x is (output_at part.outputs o).gold (both o there).0

  gate_is : (o : ℕ) → o < length part.outputs →
      values xs (output_at part.outputs o).gate ≡ x c (output_at part.outputs o).gate
  gate_is o there = has x is (output_at part.outputs o).gate (both o there).1

  pub same_in_run : (o : ℕ) → o < length part.outputs → IsSameAt part.outputs (values xs) o →
      IsSameAt part.outputs (x c) o
  same_in_run o there same = sym (gold_is o there) ∙ same ∙ gate_is o there

  pub differs_in_run : (o : ℕ) → c < length run.inputs → IsFirstOutput part.outputs (values xs) o →
      IsSame (meaning part) c x →
      IsFirstDifference (meaning part) (length run.inputs) x c o
  differs_in_run o there first before = record {
    cycle = there;
    output = first.output;
    differs = λ same. first.differs (gold_is o first.output ∙ same ∙ sym (gate_is o first.output));
    first_output = λ p less. same_in_run p (let lt = first.output in omega arith) (first.first p less);
    first_cycle = before;
  }
