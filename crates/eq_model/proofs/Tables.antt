-- What a table's design and plan have is seen by computing on the table.
use Rattle.std.proofs.Common.{◌≡◌, ℕ, zero, suc, ◌<◌, Bool, true, false, not, nat_lt, ◌&&◌, ◌||◌, ◌==◌, List, [], ◌∷◌, length, slice_index_or, Contains, refl, arith, sym, ap, subst, ◌∙◌, ◌↔◌, inl, inr}
use Rattle.std.specs.List.{list_all, list_any}
use Rattle.std.proofs.lemmas.Bool.{and_parts, or_cases, not-true, cases_lt, ltb-true}
use Rattle.std.proofs.lemmas.Bool.Decides.{Decides-eqb}
use Rattle.std.proofs.lemmas.List.Elements.{Contains-append_left, Contains-append_right}
use Rattle.eq_model.specs.System.{Values, IsExpr, IsDriver, IsInput, reads_now, Reads, IsLoopFree}
use Rattle.eq_model.specs.Run.{key, dir, IsDesign}
use Rattle.eq_model.specs.Nets.{Dir, is_input, IsPort}
use Rattle.eq_model.specs.Plan.{Covers}
use Rattle.eq_model.specs.Cut.{any_below}
use Rattle.eq_model.specs.Table.{Gate, low, wire, inverter, and_gate, or_gate, xor_gate, reads_of, value_of, expr_of, Signal, input_port, output_port, inner_wire, inner_register, inner_open, dir_of, driver_of, signal_at, is_port, nets_of_lines, is_input_port, design, plan_of}
use Rattle.eq_model.proofs.Order.{contains_head, passes, free_from_rank}
use Rattle.eq_model.proofs.TableNets.{ports_are, ports_once, table_width, table_names, table_dir, table_key}
use Rattle.eq_model.proofs.Places.{find_below, found, same_number}

-- each number below n passes
abbrev all_below : ℕ → (ℕ → Bool) → Bool
all_below zero test = true
all_below (suc n) test = test n && all_below n test

at_all : (n : ℕ) (test : ℕ → Bool) → all_below n test ≡ true → (b : ℕ) → b < n → test b ≡ true
at_all zero test h b lt = absurd (omega arith)
at_all (suc n) test h b lt =
    let parts = and_parts (test n) (all_below n test) h in
    elim (cases_lt b n) [
      | inl less ↦ at_all n test parts.1 b less
      | inr more ↦ (let e : n ≡ b = omega arith in let P : ℕ → Type 0 = λ k. test k ≡ true in subst P e parts.0)
    ]

-- from a test that allows x only with y
implied : (x y : Bool) → (not x || y) ≡ true → x ≡ true → y ≡ true
implied true y h e = h
implied false y h e = absurd (cc)

-- designs

value_same : (g : Gate) (v w : Values) → ((b : ℕ) → Contains (reads_of g) b → v b ≡ w b) → value_of g v ≡ value_of g w
value_same low v w same = refl
value_same (wire b) v w same = same b (contains_head b [])
value_same (inverter g) v w same = ap not (value_same g v w same)
value_same (and_gate g h) v w same =
    let e = value_same g v w (λ b c. same b (Contains-append_left (reads_of g) (reads_of h) b c)) in
    let f = value_same h v w (λ b c. same b (Contains-append_right (reads_of g) (reads_of h) b c)) in
    rw (e, f) refl
value_same (or_gate g h) v w same =
    let e = value_same g v w (λ b c. same b (Contains-append_left (reads_of g) (reads_of h) b c)) in
    let f = value_same h v w (λ b c. same b (Contains-append_right (reads_of g) (reads_of h) b c)) in
    rw (e, f) refl
value_same (xor_gate g h) v w same =
    let e = value_same g v w (λ b c. same b (Contains-append_left (reads_of g) (reads_of h) b c)) in
    let f = value_same h v w (λ b c. same b (Contains-append_right (reads_of g) (reads_of h) b c)) in
    rw (e, f) refl

abbrev all_under : ℕ → List ℕ → Bool
all_under n xs = list_all (λ b. nat_lt b n) xs

-- a line reads signals of the table alone
abbrev fits : ℕ → Signal → Bool
fits n input_port = true
fits n (output_port g) = all_under n (reads_of g)
fits n (inner_wire g) = all_under n (reads_of g)
fits n (inner_register init g) = all_under n (reads_of g)
fits n inner_open = true

abbrev pub is_sound : List Signal → Bool
is_sound lines = all_below (length lines) (λ b. fits (length lines) (signal_at lines b))

expr_is : (n : ℕ) (g : Gate) → all_under n (reads_of g) ≡ true → IsExpr n (expr_of g)
expr_is n g h = record { bounded = λ b c. ltb-true b n (passes (λ b. nat_lt b n) (reads_of g) h b c); respects = value_same g }

driver_is : (n : ℕ) (s : Signal) → fits n s ≡ true → IsDriver n (driver_of s)
driver_is n input_port h = tt
driver_is n (output_port g) h = expr_is n g h
driver_is n (inner_wire g) h = expr_is n g h
driver_is n (inner_register init g) h = expr_is n g h
driver_is n inner_open h = tt

inputs_of : (s : Signal) → IsInput (driver_of s) ↔ (dir_of s ≡ is_input)
inputs_of input_port = ((λ _. refl), (λ _. tt))
inputs_of (output_port g) = ((λ h. absurd h), (λ e. absurd (cc)))
inputs_of (inner_wire g) = ((λ h. absurd h), (λ e. absurd (cc)))
inputs_of (inner_register init g) = ((λ h. absurd h), (λ e. absurd (cc)))
inputs_of inner_open = ((λ h. absurd h), (λ e. absurd (cc)))

pub design_is : (lines : List Signal) → is_sound lines ≡ true → IsDesign (design lines)
design_is lines h = record {
  drivers = λ b lt. driver_is (length lines) (signal_at lines b) (at_all (length lines) (λ b. fits (length lines) (signal_at lines b)) h b lt);
  widths = table_width 0 lines;
  names = table_names 0 lines;
  inputs = λ b lt. (
      let P : Dir → Type 0 = λ d. IsInput (driver_of (signal_at lines b)) ↔ (d ≡ is_input) in
      subst P (sym (table_dir lines b lt)) (inputs_of (signal_at lines b)));
  ports_once = ports_once (nets_of_lines 0 lines) (table_names 0 lines);
  ports = ports_are (nets_of_lines 0 lines);
  clocked = λ name e. absurd (cc);
}

-- each line reads lines of lower rank
abbrev pub is_ranked : List Signal → List ℕ → Bool
is_ranked lines ranks =
    all_below (length lines) (λ a. list_all (λ b. nat_lt (slice_index_or ranks b 0) (slice_index_or ranks a 0)) (reads_now (driver_of (signal_at lines a))))

pub design_is_free : (lines : List Signal) (ranks : List ℕ) → is_sound lines ≡ true → is_ranked lines ranks ≡ true → IsLoopFree (design lines).system
design_is_free lines ranks sound h = free_from_rank (design lines).system (design_is lines sound).drivers (λ b. slice_index_or ranks b 0)
    (λ a b lt c.
    let lower : ℕ → Bool = λ b. nat_lt (slice_index_or ranks b 0) (slice_index_or ranks a 0) in
    let all = at_all (length lines) (λ a. list_all (λ b. nat_lt (slice_index_or ranks b 0) (slice_index_or ranks a 0)) (reads_now (driver_of (signal_at lines a)))) h a lt in
    ltb-true (slice_index_or ranks b 0) (slice_index_or ranks a 0) (passes lower (reads_now (driver_of (signal_at lines a))) all b c))

-- plans

abbrev same_side : Signal → Signal → Bool
same_side input_port input_port = true
same_side (output_port g) (output_port h) = true
same_side (inner_wire g) (inner_wire h) = true
same_side (inner_register i g) (inner_register j h) = true
same_side inner_open inner_open = true
same_side _ _ = false

same_dir : (s t : Signal) → same_side s t ≡ true → dir_of s ≡ dir_of t
same_dir input_port input_port e = refl
same_dir (output_port g) (output_port h) e = refl
same_dir (inner_wire g) (inner_wire h) e = refl
same_dir (inner_register i g) (inner_register j h) e = refl
same_dir inner_open inner_open e = refl
same_dir _ _ e = absurd (cc)

port_is : (s : Signal) → IsPort (dir_of s) → is_port s ≡ true
port_is input_port h = refl
port_is (output_port g) h = refl
port_is (inner_wire g) h = absurd h
port_is (inner_register i g) h = absurd h
port_is inner_open h = absurd h

input_is : (s : Signal) → (is_input_port s ≡ true) ↔ (dir_of s ≡ is_input)
input_is input_port = ((λ _. refl), (λ _. refl))
input_is (output_port g) = ((λ e. absurd (cc)), (λ e. absurd (cc)))
input_is (inner_wire g) = ((λ e. absurd (cc)), (λ e. absurd (cc)))
input_is (inner_register i g) = ((λ e. absurd (cc)), (λ e. absurd (cc)))
input_is inner_open = ((λ e. absurd (cc)), (λ e. absurd (cc)))

abbrev in_list : List ℕ → ℕ → Bool
in_list xs i = list_any (λ j. j == i) xs

listed : (p : ℕ → Bool) (xs : List ℕ) (i : ℕ) → in_list xs i ≡ true → list_all p xs ≡ true → p i ≡ true
listed p [] i h all = absurd (cc)
listed p (x ∷ xs) i h all =
    let parts = and_parts (p x) (list_all p xs) all in
    elim (or_cases (x == i) (in_list xs i) h) [
      | inl e ↦ (let P : ℕ → Type 0 = λ k. p k ≡ true in subst P (same_number x i e) parts.0)
      | inr e ↦ listed p xs i e parts.1
    ]

abbrev has_some : List ℕ → Bool
has_some [] = false
has_some (x ∷ xs) = true

first_listed : (xs : List ℕ) → has_some xs ≡ true → (i : ℕ) × (in_list xs i ≡ true)
first_listed [] h = absurd (cc)
first_listed (x ∷ xs) h = (x, (let e : (x == x) ≡ true = (Decides-eqb x x).1 refl in rw e refl))

module _ (gold gate : List Signal) (n : ℕ) (inverted : ℕ → Bool) (parts : List (List ℕ)) where
  abbrev part : ℕ → List ℕ
  part q = slice_index_or parts q []

  abbrev holds : ℕ → ℕ → Bool
  holds i q = in_list (part q) i

  -- pair i stands in one partition
  abbrev in_just_one : ℕ → Bool
  in_just_one i = any_below (length parts) (holds i) && all_below (length parts) (λ r. not (holds i r) || (r == find_below (length parts) (holds i)))

  -- what a plan is to have, seen by computing
  pub record IsComplete : Type 0 where
    pub gold_size : nat_lt n (suc (length gold)) ≡ true
    pub gate_size : nat_lt n (suc (length gate)) ≡ true
    pub gold_ports : all_below (length gold) (λ a. not (is_port (signal_at gold a)) || nat_lt a n) ≡ true
    pub gate_ports : all_below (length gate) (λ a. not (is_port (signal_at gate a)) || nat_lt a n) ≡ true
    pub sides : all_below n (λ i. same_side (signal_at gold i) (signal_at gate i)) ≡ true
    pub signs : all_below n (λ i. not (is_port (signal_at gold i)) || not (inverted i)) ≡ true
    pub ones : all_below n (λ i. not (not (is_input_port (signal_at gold i))) || in_just_one i) ≡ true
    pub pairs : all_below (length parts) (λ q. list_all (λ j. nat_lt j n && not (is_input_port (signal_at gold j))) (part q)) ≡ true
    pub some : all_below (length parts) (λ q. has_some (part q)) ≡ true

  module _ (is : IsComplete) where
    dir_at : (i : ℕ) → i < n → dir_of (signal_at gold i) ≡ dir_of (signal_at gate i)
    dir_at i lt = same_dir (signal_at gold i) (signal_at gate i) (at_all n (λ i. same_side (signal_at gold i) (signal_at gate i)) is.sides i lt)

    gold_dir : (i : ℕ) → i < n → dir (design gold) i ≡ dir_of (signal_at gold i)
    gold_dir i lt = (let size : n < suc (length gold) = ltb-true n (suc (length gold)) is.gold_size in table_dir gold i (omega arith))

    dirs : (i : ℕ) → i < n → dir (design gold) i ≡ dir (design gate) i
    dirs i lt = (
        let size : n < suc (length gate) = ltb-true n (suc (length gate)) is.gate_size in
        gold_dir i lt ∙ dir_at i lt ∙ sym (table_dir gate i (omega arith)))

    keys : (i : ℕ) → i < n → key (design gold) i ≡ key (design gate) i
    keys i lt =
        let gold_size : n < suc (length gold) = ltb-true n (suc (length gold)) is.gold_size in
        let gate_size : n < suc (length gate) = ltb-true n (suc (length gate)) is.gate_size in
        table_key gold i (omega arith) ∙ sym (table_key gate i (omega arith))

    gold_port : (a : ℕ) → a < length gold → IsPort (dir_of (signal_at gold a)) → a < n
    gold_port a la h = ltb-true a n (implied (is_port (signal_at gold a)) (nat_lt a n)
        (at_all (length gold) (λ a. not (is_port (signal_at gold a)) || nat_lt a n) is.gold_ports a la) (port_is (signal_at gold a) h))

    gate_port : (a : ℕ) → a < length gate → IsPort (dir_of (signal_at gate a)) → a < n
    gate_port a la h = ltb-true a n (implied (is_port (signal_at gate a)) (nat_lt a n)
        (at_all (length gate) (λ a. not (is_port (signal_at gate a)) || nat_lt a n) is.gate_ports a la) (port_is (signal_at gate a) h))

    in_one : (i : ℕ) → i < n → is_input_port (signal_at gold i) ≡ false →
        (q : ℕ) × (q < length parts) × (holds i q ≡ true) × ((r : ℕ) → r < length parts → holds i r ≡ true → r ≡ q)
    in_one i lt h =
        let q = find_below (length parts) (holds i) in
        let unique : ℕ → Bool = λ r. not (holds i r) || (r == find_below (length parts) (holds i)) in
        let e : not (is_input_port (signal_at gold i)) ≡ true = rw h refl in
        let both = and_parts (any_below (length parts) (holds i)) (all_below (length parts) unique)
        (implied (not (is_input_port (signal_at gold i))) (in_just_one i) (at_all n (λ i. not (not (is_input_port (signal_at gold i))) || in_just_one i) is.ones i lt) e) in
        let f = found (length parts) (holds i) both.0 in
        (q, f.0, f.1, (λ r lr hr. same_number r q (implied (holds i r) (r == q) (at_all (length parts) unique both.1 r lr) hr)))

    in_pairs : (q i : ℕ) → q < length parts → holds i q ≡ true → (i < n) × (is_input_port (signal_at gold i) ≡ false)
    in_pairs q i lq h =
        let test : ℕ → Bool = λ j. nat_lt j n && not (is_input_port (signal_at gold j)) in
        let both = and_parts (nat_lt i n) (not (is_input_port (signal_at gold i)))
        (listed test (part q) i h (at_all (length parts) (λ q. list_all (λ j. nat_lt j n && not (is_input_port (signal_at gold j))) (part q)) is.pairs q lq)) in
        (ltb-true i n both.0, not-true (is_input_port (signal_at gold i)) both.1)

    pub plan_covers : Covers (design gold) (design gate) (plan_of gold n inverted parts)
    plan_covers =
        let gold_size : n < suc (length gold) = ltb-true n (suc (length gold)) is.gold_size in
        let gate_size : n < suc (length gate) = ltb-true n (suc (length gate)) is.gate_size in
        let P : Dir → Type 0 = λ d. IsPort d in
        record {
          one_to_one = record {
            gold_bits = λ i lt. omega arith;
            gate_bits = λ i lt. omega arith;
            gold_once = λ i j li lj e. e;
            gate_once = λ i j li lj e. e;
          };
          gold_ports = λ a la h. (
              let lt = gold_port a la (subst P (table_dir gold a la) h) in
              (a, lt, refl, subst P (dirs a lt) h, sym (keys a lt)));
          gate_ports = λ a la h. (
              let lt = gate_port a la (subst P (table_dir gate a la) h) in
              (a, lt, refl, subst P (sym (dirs a lt)) h, keys a lt));
          plain_ports = λ i lt h. not-true (inverted i) (implied (is_port (signal_at gold i)) (not (inverted i))
              (at_all n (λ i. not (is_port (signal_at gold i)) || not (inverted i)) is.signs i lt) (port_is (signal_at gold i) (subst P (gold_dir i lt) h)));
          gold_inputs = λ i lt. (
            (λ e. gold_dir i lt ∙ (input_is (signal_at gold i)).0 e),
            (λ e. (input_is (signal_at gold i)).1 (sym (gold_dir i lt) ∙ e)),
          );
          gate_inputs = λ i lt. (
            (λ e. sym (dirs i lt) ∙ gold_dir i lt ∙ (input_is (signal_at gold i)).0 e),
            (λ e. (input_is (signal_at gold i)).1 (sym (gold_dir i lt) ∙ dirs i lt ∙ e)),
          );
          in_one = in_one;
          in_pairs = in_pairs;
          some_held = λ q lq. first_listed (part q) (at_all (length parts) (λ q. has_some (part q)) is.some q lq);
        }

-- each line reads earlier lines alone
abbrev pub is_ordered : List Signal → Bool
is_ordered lines = all_below (length lines) (λ a. all_under a (reads_now (driver_of (signal_at lines a))))

pub design_is_ordered : (lines : List Signal) → is_ordered lines ≡ true → (a b : ℕ) → a < length lines → Reads (design lines).system a b → b < a
design_is_ordered lines h a b la c = ltb-true b a (passes (λ b. nat_lt b a) (reads_now (driver_of (signal_at lines a)))
    (at_all (length lines) (λ a. all_under a (reads_now (driver_of (signal_at lines a)))) h a la) b c)
