-- Examples without registers.
use Rattle.std.proofs.Common.{◌≡◌, ◌≢◌, ℕ, zero, suc, ◌<◌, Bool, true, false, not, ◌&&◌, ◌||◌, ◌==◌, [], ◌∷◌, slice_index_or, Contains, refl, arith, sym, ◌∙◌, ◌⊎◌, inl, inr}
use Rattle.eq_model.specs.System.{Values, IsHeld, Reads, IsLoopFree, Cycle, HasOneCycle, Meets, nothing}
use Rattle.eq_model.specs.Run.{Given, Equivalent}
use Rattle.eq_model.specs.Agreement.{SameDriver, SameDesign}
use Rattle.eq_model.specs.Plan.{Plan, Covers, gate_value}
use Rattle.eq_model.specs.Cut.{Base, Never}
use Rattle.eq_model.specs.Table.{design, plan_of, plain}
use Rattle.eq_model.specs.Examples.{conjunction, de_morgan, disjunction, ring, p_reads_q, q_reads_p, apart, doubled, reads_both, reads_inner, reads_inverted, inner_cut, inner_merged, inner_left_out}
use Rattle.eq_model.proofs.Order.{contains_head, contains_tail}
use Rattle.eq_model.proofs.Composition.{equivalent}
use Rattle.eq_model.proofs.Tables.{design_is, design_is_free, IsComplete, plan_covers}
use Rattle.eq_model.proofs.Witness.{refuted, initial_v, initial_w, base_shown, one_pair, never_one}

-- the inputs of this number are 1
abbrev only_one : ℕ → Given
only_one j c k = slice_index_or k.0 0 (suc j) == j

-- two designs of one function

abbrev conjunctions : Plan
conjunctions = plan_of conjunction 3 plain ((2 ∷ []) ∷ [])

conjunction_free : IsLoopFree (design conjunction).system
conjunction_free = design_is_free conjunction (0 ∷ 0 ∷ 1 ∷ []) refl refl

de_morgan_free : IsLoopFree (design de_morgan).system
de_morgan_free = design_is_free de_morgan (0 ∷ 0 ∷ 1 ∷ []) refl refl

complete_conjunctions : IsComplete conjunction de_morgan 3 plain ((2 ∷ []) ∷ [])
complete_conjunctions = record { gold_size = refl; gate_size = refl; gold_ports = refl; gate_ports = refl; sides = refl; signs = refl; ones = refl; pairs = refl; some = refl }

de_morgan_law : (a b : Bool) → not (not a || not b) ≡ (a && b)
de_morgan_law true true = refl
de_morgan_law true false = refl
de_morgan_law false b = refl

conjunctions_never : (q : ℕ) → q < 1 → Never (design conjunction).system (design de_morgan).system conjunctions (conjunctions.holds q)
conjunctions_never zero lq = never_one (design conjunction).system (design de_morgan).system conjunctions (conjunctions.holds 0) 2 (one_pair 2) (λ n v w run begins c lc.
    let a = run.equal c 0 lc (omega arith) refl in
    let b = run.equal c 1 lc (omega arith) refl in
    let e : (v c 0 && v c 1) ≡ (w c 0 && w c 1) = rw (a, b) refl in
    run.gold_solves.now c 2 lc (omega arith) refl ∙ e ∙ sym (de_morgan_law (w c 0) (w c 1)) ∙ sym (run.gate_solves.now c 2 lc (omega arith) refl))
conjunctions_never (suc q) lq = absurd (omega arith)

pub conjunctions_equivalent : Equivalent (design conjunction) (design de_morgan)
conjunctions_equivalent = equivalent (design conjunction) (design de_morgan) conjunctions (design_is conjunction refl) (design_is de_morgan refl) de_morgan_free
    (plan_covers conjunction de_morgan 3 plain ((2 ∷ []) ∷ []) complete_conjunctions) conjunctions_never conjunction_free

-- they agree, since they read the same bits and have the same values
pub conjunctions_agree : SameDesign (design conjunction) (design de_morgan)
conjunctions_agree = record {
  system = record { bits = refl; drivers = drivers };
  nets = refl;
  ports = refl;
  clock = refl;
  copies = λ b lb. refl;
}
  where
    drivers : (b : ℕ) → b < 3 → SameDriver ((design conjunction).driver b) ((design de_morgan).driver b)
    drivers zero lb = tt
    drivers (suc zero) lb = tt
    drivers (suc (suc zero)) lb = record { reads = λ b. ((λ c. c), (λ c. c)); value = λ v. sym (de_morgan_law (v 0) (v 1)) }
    drivers (suc (suc (suc b))) lb = absurd (omega arith)

-- two designs of two functions

disjunction_free : IsLoopFree (design disjunction).system
disjunction_free = design_is_free disjunction (0 ∷ 0 ∷ 1 ∷ []) refl refl

pub disjunction_differs : Equivalent (design conjunction) (design disjunction) → ⊥
disjunction_differs = refuted (design conjunction) (design disjunction) (design_is conjunction refl).drivers (design_is disjunction refl).drivers conjunction_free disjunction_free
    (only_one 0) 0 2 2 (omega arith) (omega arith) refl refl refl (λ e. cc)

-- a loop

pub ring_loops : IsLoopFree (design ring).system → ⊥
ring_loops free = free 0 (1 ∷ []) (omega arith) (contains_head 1 [], contains_head 0 [])

ring_solved : (u : Values) (x : Bool) → Cycle (design ring).system nothing u (λ b. x)
ring_solved u x = record { held = held; driven = driven }
  where
    held : (b : ℕ) → b < 2 → (nothing b ≡ true) ⊎ IsHeld ((design ring).driver b) → x ≡ u b
    held b lb (inl e) = absurd (cc)
    held zero lb (inr h) = absurd h
    held (suc zero) lb (inr h) = absurd h
    held (suc (suc b)) lb (inr h) = absurd (omega arith)

    driven : (b : ℕ) → b < 2 → nothing b ≡ false → Meets ((design ring).driver b) (λ b. x) x
    driven zero lb kept = refl
    driven (suc zero) lb kept = refl
    driven (suc (suc b)) lb kept = absurd (omega arith)

pub ring_is_open : (u : Values) → HasOneCycle (design ring).system nothing u → ⊥
ring_is_open u one = (let e : true ≡ false = one.only (λ b. true) (λ b. false) (ring_solved u true) (ring_solved u false) 0 (omega arith) in cc)

-- reads that form a cycle only between the two designs

absorb_or : (a b : Bool) → (a && (a || b)) ≡ a
absorb_or true b = refl
absorb_or false b = refl

absorb_and : (a b : Bool) → (a || (a && b)) ≡ a
absorb_and true b = refl
absorb_and false b = refl

p_reads_q_free : IsLoopFree (design p_reads_q).system
p_reads_q_free = design_is_free p_reads_q (0 ∷ 2 ∷ 1 ∷ []) refl refl

q_reads_p_free : IsLoopFree (design q_reads_p).system
q_reads_p_free = design_is_free q_reads_p (0 ∷ 1 ∷ 2 ∷ []) refl refl

pub apart_crossed : Reads (design p_reads_q).system 1 2 × Reads (design q_reads_p).system 2 1
apart_crossed = (
  contains_tail 0 (0 ∷ 2 ∷ []) 2 (contains_tail 0 (2 ∷ []) 2 (contains_head 2 [])),
  contains_tail 0 (0 ∷ 1 ∷ []) 1 (contains_tail 0 (1 ∷ []) 1 (contains_head 1 [])),
)

complete_apart : IsComplete p_reads_q q_reads_p 3 plain ((1 ∷ []) ∷ (2 ∷ []) ∷ [])
complete_apart = record { gold_size = refl; gate_size = refl; gold_ports = refl; gate_ports = refl; sides = refl; signs = refl; ones = refl; pairs = refl; some = refl }

pub apart_covers : Covers (design p_reads_q) (design q_reads_p) apart
apart_covers = plan_covers p_reads_q q_reads_p 3 plain ((1 ∷ []) ∷ (2 ∷ []) ∷ []) complete_apart

pub apart_never : (q : ℕ) → q < 2 → Never (design p_reads_q).system (design q_reads_p).system apart (apart.holds q)
apart_never zero lq = never_one (design p_reads_q).system (design q_reads_p).system apart (apart.holds 0) 1 (one_pair 1) (λ n v w run begins c lc.
    run.gold_solves.now c 1 lc (omega arith) refl ∙ absorb_or (v c 0) (v c 2) ∙ run.equal c 0 lc (omega arith) refl ∙ sym (run.gate_solves.now c 1 lc (omega arith) refl))
apart_never (suc zero) lq = never_one (design p_reads_q).system (design q_reads_p).system apart (apart.holds 1) 2 (one_pair 2) (λ n v w run begins c lc.
    run.gold_solves.now c 2 lc (omega arith) refl ∙ run.equal c 0 lc (omega arith) refl ∙ sym (absorb_and (w c 0) (w c 1)) ∙ sym (run.gate_solves.now c 2 lc (omega arith) refl))
apart_never (suc (suc q)) lq = absurd (omega arith)

pub apart_equivalent : Equivalent (design p_reads_q) (design q_reads_p)
apart_equivalent = equivalent (design p_reads_q) (design q_reads_p) apart (design_is p_reads_q refl) (design_is q_reads_p refl) q_reads_p_free apart_covers apart_never p_reads_q_free

-- p's reads differ, so the designs are equivalent and don't agree
pub apart_disagree : SameDesign (design p_reads_q) (design q_reads_p) → ⊥
apart_disagree same = none ((same.system.drivers 1 (omega arith)).reads 2).0
  where
    read : Contains {X = ℕ} (0 ∷ 0 ∷ 2 ∷ []) 2
    read = contains_tail 0 (0 ∷ 2 ∷ []) 2 (contains_tail 0 (2 ∷ []) 2 (contains_head 2 []))

    unread : Contains {X = ℕ} (0 ∷ []) 2 → ⊥
    unread (zero, lt, e) = (let f : ◌≡◌ {A = ℕ} 0 2 = e in omega arith)
    unread (suc k, lt, e) = omega arith

    none : (Contains {X = ℕ} (0 ∷ 0 ∷ 2 ∷ []) 2 → Contains {X = ℕ} (0 ∷ []) 2) → ⊥
    none to = unread (to read)

pub doubled_covers : Covers (design p_reads_q) (design q_reads_p) doubled → ⊥
doubled_covers covers =
    let one = covers.in_one 2 (omega arith) refl in
    let first : 0 ≡ one.0 = one.3 0 (omega arith) refl in
    let second : 1 ≡ one.0 = one.3 1 (omega arith) refl in
    omega arith

-- a cut that hides what is equal

reads_both_free : IsLoopFree (design reads_both).system
reads_both_free = design_is_free reads_both (0 ∷ 2 ∷ 1 ∷ []) refl refl

reads_inner_free : IsLoopFree (design reads_inner).system
reads_inner_free = design_is_free reads_inner (0 ∷ 2 ∷ 1 ∷ []) refl refl

complete_inner : IsComplete reads_both reads_inner 3 plain ((1 ∷ []) ∷ (2 ∷ []) ∷ [])
complete_inner = record { gold_size = refl; gate_size = refl; gold_ports = refl; gate_ports = refl; sides = refl; signs = refl; ones = refl; pairs = refl; some = refl }

pub inner_covers : Covers (design reads_both) (design reads_inner) inner_cut
inner_covers = plan_covers reads_both reads_inner 3 plain ((1 ∷ []) ∷ (2 ∷ []) ∷ []) complete_inner

-- n is 1 and a is 0
abbrev inner_high : ℕ → Values
inner_high c b = b == 2

pub inner_fails : Base (design reads_both).system (design reads_inner).system inner_cut (inner_cut.holds 0) 1
inner_fails = base_shown (design reads_both).system (design reads_inner).system (design_is reads_both refl).drivers (design_is reads_inner refl).drivers reads_both_free reads_inner_free
    inner_cut (inner_cut.holds 0) inner_high inner_high 0 equal (1, omega arith, refl, (λ e. cc))
  where
    equal : (c i : ℕ) → c < 1 → i < 3 → inner_cut.holds 0 i ≡ false →
        initial_v (design reads_both).system (design reads_inner).system (design_is reads_both refl).drivers (design_is reads_inner refl).drivers reads_both_free reads_inner_free inner_cut (inner_cut.holds 0) inner_high inner_high c i
        ≡ gate_value inner_cut i (initial_w (design reads_both).system (design reads_inner).system (design_is reads_both refl).drivers (design_is reads_inner refl).drivers reads_both_free reads_inner_free inner_cut (inner_cut.holds 0) inner_high inner_high c)
    equal zero zero lc li out = refl
    equal zero (suc zero) lc li out = absurd (cc)
    equal zero (suc (suc zero)) lc li out = refl
    equal zero (suc (suc (suc i))) lc li out = absurd (omega arith)
    equal (suc c) i lc li out = absurd (omega arith)

pub inner_equal : Never (design reads_both).system (design reads_inner).system inner_cut (inner_cut.holds 1)
inner_equal = never_one (design reads_both).system (design reads_inner).system inner_cut (inner_cut.holds 1) 2 (one_pair 2) (λ n v w run begins c lc.
    run.gold_solves.now c 2 lc (omega arith) refl ∙ run.equal c 0 lc (omega arith) refl ∙ sym (run.gate_solves.now c 2 lc (omega arith) refl))

complete_merged : IsComplete reads_both reads_inner 3 plain ((1 ∷ 2 ∷ []) ∷ [])
complete_merged = record { gold_size = refl; gate_size = refl; gold_ports = refl; gate_ports = refl; sides = refl; signs = refl; ones = refl; pairs = refl; some = refl }

and_itself : (a : Bool) → (a && a) ≡ a
and_itself true = refl
and_itself false = refl

merged_never : (q : ℕ) → q < 1 → Never (design reads_both).system (design reads_inner).system inner_merged (inner_merged.holds q)
merged_never zero lq n v w run begins c lc differ = go differ.0 differ.1 differ.2 differ.3
  where
    inputs : v c 0 ≡ w c 0
    inputs = run.equal c 0 lc (omega arith) refl

    go : (i : ℕ) → i < 3 → inner_merged.holds 0 i ≡ true → v c i ≢ gate_value inner_merged i (w c) → ⊥
    go zero li h ne = absurd (cc)
    go (suc zero) li h ne = ne (
        let a = run.gold_solves.now c 2 lc (omega arith) refl in
        let e : (v c 2 && v c 0) ≡ (v c 0 && v c 0) = rw a refl in
        run.gold_solves.now c 1 lc (omega arith) refl ∙ e ∙ and_itself (v c 0) ∙ inputs ∙ sym (run.gate_solves.now c 2 lc (omega arith) refl) ∙ sym (run.gate_solves.now c 1 lc (omega arith) refl))
    go (suc (suc zero)) li h ne =
        ne (run.gold_solves.now c 2 lc (omega arith) refl ∙ inputs ∙ sym (run.gate_solves.now c 2 lc (omega arith) refl))
    go (suc (suc (suc i))) li h ne = absurd (omega arith)
merged_never (suc q) lq n v w run begins c lc differ = absurd (omega arith)

pub inner_equivalent : Equivalent (design reads_both) (design reads_inner)
inner_equivalent = equivalent (design reads_both) (design reads_inner) inner_merged (design_is reads_both refl) (design_is reads_inner refl) reads_inner_free
    (plan_covers reads_both reads_inner 3 plain ((1 ∷ 2 ∷ []) ∷ []) complete_merged) merged_never reads_both_free

-- a cut that nothing answers for

reads_inverted_free : IsLoopFree (design reads_inverted).system
reads_inverted_free = design_is_free reads_inverted (0 ∷ 2 ∷ 1 ∷ []) refl refl

pub left_out_never : (q : ℕ) → q < 1 → Never (design reads_inner).system (design reads_inverted).system inner_left_out (inner_left_out.holds q)
left_out_never zero lq = never_one (design reads_inner).system (design reads_inverted).system inner_left_out (inner_left_out.holds 0) 1 (one_pair 1) (λ n v w run begins c lc.
    run.gold_solves.now c 1 lc (omega arith) refl ∙ run.equal c 2 lc (omega arith) refl ∙ sym (run.gate_solves.now c 1 lc (omega arith) refl))
left_out_never (suc q) lq = absurd (omega arith)

pub left_out_differs : Equivalent (design reads_inner) (design reads_inverted) → ⊥
left_out_differs = refuted (design reads_inner) (design reads_inverted) (design_is reads_inner refl).drivers (design_is reads_inverted refl).drivers reads_inner_free reads_inverted_free
    (only_one 0) 0 1 1 (omega arith) (omega arith) refl refl refl (λ e. cc)

pub left_out_covers : Covers (design reads_inner) (design reads_inverted) inner_left_out → ⊥
left_out_covers covers = left_out_differs (equivalent (design reads_inner) (design reads_inverted) inner_left_out (design_is reads_inner refl) (design_is reads_inverted refl)
    reads_inverted_free covers left_out_never reads_inner_free)
