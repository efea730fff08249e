-- The value of each bit depends on the bits that it reads alone, for every design, also a refused one. Bit by bit, from
-- operators (as `eq_net` has them) to expressions, right sides, statements and drivers.
use Rattle.std.proofs.Common.{◌≡◌, ℕ, ◌-◌, ◌*◌, ◌%◌, Bool, true, false, not, nat_lt, ◌||◌, cond, List, [], ◌∷◌, Option, Some, None, find, unwrap_or, arith, refl, ap}
use Rattle.eq_model.specs.System.{Values, Expr as Formula, Driver, input, undriven, equation, register}
use Rattle.eq_vparse.specs.declared.tree.BinOp.{BinOp}
use Rattle.eq_vparse.specs.declared.tree.BinOp.TheVariants as bin
use Rattle.eq_net.specs.Meaning.{if_there}
use Rattle.eq_net.specs.Numbers.{Digits}
use Rattle.eq_net.specs.Operators.{Reads, extended, extended_reads, has_free_sizes}
use Rattle.eq_net.specs.Following.{AgreeOn, Follow, ChoicesFollow, ExtensionsFollow, NegativesFollow, OperationsFollow, ReductionsFollow}
use Rattle.eq_verilog.specs.Trees.{ExprTree, const, net, bit, part, empty, joined, repeated, unary, binary, choice, StmtTree, idle, set, sequence, branch}
use Rattle.eq_verilog.specs.Scopes.{Scope}
use Rattle.eq_verilog.specs.Sizes.{UnaryForm, complement, opposite, reduction, unary_form, own, inner_size, left_size, right_size, sizing, left_sized, right_sized, context}
use Rattle.eq_verilog.specs.Expressions.{wire, value, reads, unary_bit, unary_reads, word_op}
use Rattle.eq_verilog.specs.Equations.{Equation, formula, place_in, driving}
use Rattle.eq_verilog.specs.Registers.{Process, Table, itself, chosen, run, sets, following, begins}
use Rattle.eq_verilog.specs.Depending.{DependsOnReads, DriverDepends}
use Rattle.eq_verilog.specs.Designs.{Flat, driver_of, is_reg_bit, is_input_bit}

-- ---- expressions

agree_one : (v u : Values) (b : ℕ) → AgreeOn v u (b ∷ []) → v b ≡ u b
agree_one v u b h = h b (0, omega arith, refl)

-- a choice of reads with a choice of values
branch_same : (v u : Values) (rs qs : List ℕ) (x y s t b : Bool) → (AgreeOn v u rs → x ≡ y) →
    (AgreeOn v u qs → s ≡ t) → AgreeOn v u (cond b rs qs) → cond b x s ≡ cond b y t
branch_same v u rs qs x y s t true h k a = h a
branch_same v u rs qs x y s t false h k a = k a

wire_same : (v u : Values) (o : Option ℕ) → AgreeOn v u (if_there [] (λ b. b ∷ []) o) →
    if_there false v o ≡ if_there false u o
wire_same v u None a = refl
wire_same v u (Some b) a = agree_one v u b a

-- the operands of all operators but shifts, `&&` and `||` have the same size
pub same_sizes : (op : BinOp) (w n m : ℕ) → has_free_sizes (word_op op) ≡ false →
    left_sized (sizing op) w n m ≡ right_sized (sizing op) w n m
same_sizes bin.Shl w n m e = absurd (cc)
same_sizes bin.Shr w n m e = absurd (cc)
same_sizes bin.LogAnd w n m e = absurd (cc)
same_sizes bin.LogOr w n m e = absurd (cc)
same_sizes bin.Lt w n m e = refl
same_sizes bin.Le w n m e = refl
same_sizes bin.Gt w n m e = refl
same_sizes bin.Ge w n m e = refl
same_sizes bin.Eq w n m e = refl
same_sizes bin.Ne w n m e = refl
same_sizes bin.Add w n m e = refl
same_sizes bin.Sub w n m e = refl
same_sizes bin.And w n m e = refl
same_sizes bin.Xor w n m e = refl
same_sizes bin.Xnor w n m e = refl
same_sizes bin.Or w n m e = refl

-- With the laws of eq_net that operators follow what they read
module _ (operations : OperationsFollow) (reductions : ReductionsFollow) (negatives : NegativesFollow) (extensions : ExtensionsFollow)
    (choices : ChoicesFollow) where
  unary_same : (v u : Values) (r : Reads) (f h : Digits) → Follow v u r f h → (form : UnaryForm) (n j : ℕ) →
      AgreeOn v u (unary_reads form n r j) → unary_bit form n f j ≡ unary_bit form n h j
  unary_same v u r f h ff complement n j a = ap not (ff j a)
  unary_same v u r f h ff opposite n j a = negatives v u r f h ff n j a
  unary_same v u r f h ff (reduction o) n j a = reductions v u r f h ff o n j a

  -- values that agree on what bit j of an expression reads give it the same value
  pub value_same : (s : Scope) (v u : Values) (e : ExprTree) (w j : ℕ) → AgreeOn v u (reads s e w j) →
      value s v e w j ≡ value s u e w j
  value_same s v u (const c) w j a = refl
  value_same s v u (net n) w j a = wire_same v u (wire s (net n) j) a
  value_same s v u (bit n i) w j a = wire_same v u (wire s (bit n i) j) a
  value_same s v u (part n l r) w j a = wire_same v u (wire s (part n l r) j) a
  value_same s v u empty w j a = refl
  value_same s v u (joined x y) w j a =
      branch_same v u (reads s y (own s y) j) (extended_reads (own s x) (reads s x (own s x)) (j - own s y))
      (value s v y (own s y) j) (value s u y (own s y) j)
      (extended (own s x) (value s v x (own s x)) (j - own s y))
      (extended (own s x) (value s u x (own s x)) (j - own s y))
      (nat_lt j (own s y))
      (value_same s v u y (own s y) j)
      (extensions v u (reads s x (own s x)) (value s v x (own s x)) (value s u x (own s x))
      (value_same s v u x (own s x))
      (own s x) (j - own s y)) a
  value_same s v u (repeated n x) w j a =
      extensions v u (λ i. reads s x (own s x) (i % own s x)) (λ i. value s v x (own s x) (i % own s x))
      (λ i. value s u x (own s x) (i % own s x)) (λ i. value_same s v u x (own s x) (i % own s x)) (n * own s x) j a
  value_same s v u (unary op x) w j a =
      unary_same v u (reads s x (inner_size s op x w))
      (value s v x (inner_size s op x w)) (value s u x (inner_size s op x w))
      (value_same s v u x (inner_size s op x w)) (unary_form op) (inner_size s op x w) j a
  value_same s v u (binary op x y) w j a =
      operations v u (reads s x (left_size s op x y w)) (reads s y (right_size s op x y w))
      (value s v x (left_size s op x y w)) (value s v y (right_size s op x y w))
      (value s u x (left_size s op x y w)) (value s u y (right_size s op x y w))
      (value_same s v u x (left_size s op x y w)) (value_same s v u y (right_size s op x y w))
      (word_op op) (left_size s op x y w) (right_size s op x y w) j (same_sizes op w (own s x) (own s y)) a
  value_same s v u (choice c x y) w j a =
      choices v u (reads s c (own s c)) (reads s x w) (reads s y w) (value s v c (own s c)) (value s u c (own s c))
      (value s v x w) (value s v y w) (value s u x w) (value s u y w)
      (value_same s v u c (own s c)) (value_same s v u x w) (value_same s v u y w) (own s c) j a

  -- ---- formulas

  formula_respects : (ts : Scope) (t : ExprTree) (ss : Scope) (e : ExprTree) (j : ℕ) →
      DependsOnReads (formula ts t ss e j)
  formula_respects ts t ss e j v u a = value_same ss v u e (context ts t ss e) j a

  itself_respects : (b : ℕ) → DependsOnReads (itself b)
  itself_respects b v u a = agree_one v u b a

  chosen_respects : (s : Scope) (c : ExprTree) (x y : Formula) → DependsOnReads x → DependsOnReads y →
      DependsOnReads (chosen s c x y)
  chosen_respects s c x y hx hy v u a =
      choices v u (reads s c (own s c)) (λ i. x.reads) (λ i. y.reads) (value s v c (own s c)) (value s u c (own s c))
      (λ i. x.value v) (λ i. y.value v) (λ i. x.value u) (λ i. y.value u) (value_same s v u c (own s c))
      (λ i. hx v u) (λ i. hy v u) (own s c) 0 a

  there_respects : {A : Type 0} (d : Formula) (f : A → Formula) (o : Option A) →
      DependsOnReads d → ((x : A) → DependsOnReads (f x)) → DependsOnReads (if_there d f o)
  there_respects d f None hd hf = hd
  there_respects d f (Some x) hd hf = hf x

  cond_respects : (b : Bool) (x y : Formula) → DependsOnReads x → DependsOnReads y → DependsOnReads (cond b x y)
  cond_respects true x y hx hy = hx
  cond_respects false x y hx hy = hy

  -- a statement leaves a table of formulas that depend on what they read
  pub run_respects : (s : Scope) (st : StmtTree) (table : Table) → ((b : ℕ) → DependsOnReads (table b)) → (b : ℕ) →
      DependsOnReads (run s st table b)
  run_respects s idle table h b = h b
  run_respects s (set t e) table h b =
      there_respects (table b) (formula s t s e) (place_in s t b) (h b) (formula_respects s t s e)
  run_respects s (sequence x y) table h b = run_respects s y (run s x table) (run_respects s x table h) b
  run_respects s (branch c x y) table h b =
      cond_respects (sets s x b || sets s y b) (chosen s c (run s x table b) (run s y table b)) (table b)
      (chosen_respects s c (run s x table b) (run s y table b) (run_respects s x table h b) (run_respects s y table h b))
      (h b)

  following_respects : (ps : List Process) (b : ℕ) → DependsOnReads (following ps b)
  following_respects ps b =
      there_respects (itself b) (λ (p : Process). run p.scope p.body itself b)
      (find (λ (p : Process). sets p.scope p.body b) ps)
      (itself_respects b) (λ p. run_respects p.scope p.body itself itself_respects b)

  -- ---- drivers

  place_respects : (e : Equation) (o : Option ℕ) (rest : Option Formula) →
      DriverDepends (if_there undriven equation rest) →
      DriverDepends (if_there undriven equation
      (if_there rest (λ j. Some (formula e.target_scope e.target e.source_scope e.source j)) o))
  place_respects e None rest h = h
  place_respects e (Some j) rest h = formula_respects e.target_scope e.target e.source_scope e.source j

  driving_respects : (es : List Equation) (b : ℕ) → DriverDepends (if_there undriven equation (driving es b))
  driving_respects [] b = tt
  driving_respects (e ∷ es) b =
      place_respects e (place_in e.target_scope e.target b) (driving es b) (driving_respects es b)

  cond_driver : (b : Bool) (x y : Driver) → DriverDepends x → DriverDepends y → DriverDepends (cond b x y)
  cond_driver true x y hx hy = hx
  cond_driver false x y hx hy = hy

  -- each driver's value depends on what it reads
  pub driver_respects : (f : Flat) (b : ℕ) → DriverDepends (driver_of f b)
  driver_respects f b =
      let other : Driver = if_there undriven equation (driving f.equations b) in
      cond_driver (is_reg_bit f b) (register (unwrap_or (begins f.initials b) false) (following f.processes b))
      (cond (is_input_bit f b) input other)
      (following_respects f.processes b)
      (cond_driver (is_input_bit f b) input other tt (driving_respects f.equations b))
