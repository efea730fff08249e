-- Always items and initial values mean the same in scopes that say the same of a module's nets.
use Rattle.std.proofs.Common.{◌≡◌, ℕ, max, Bool, ◌||◌, cond, List, [], ◌∷◌, ◌++◌, Option, refl, ap, ap₂, ◌∙◌}
use Rattle.std.proofs.Math.Path.{fun_ext}
use Rattle.std.specs.Prelude.{filter_map, is_some}
use Rattle.eq_model.specs.System.{Values, Expr as Formula}
use Rattle.eq_vlex.specs.declared.token.Constant.{Constant}
use Rattle.eq_net.specs.Meaning.{if_there}
use Rattle.eq_net.specs.Numbers.{Digits, some_one}
use Rattle.eq_net.specs.Operators.{Reads, all_reads}
use Rattle.eq_verilog.specs.Trees.{ExprTree, StmtTree, idle, set, sequence, branch, ItemTree, declared, assign, primitive, instance, always, initial, ModuleTree}
use Rattle.eq_verilog.specs.Scopes.{Scope}
use Rattle.eq_verilog.specs.Sizes.{context, own}
use Rattle.eq_verilog.specs.Declarations.{expression, target, nets_in, wholes_of_stmt}
use Rattle.eq_verilog.specs.Designs.{event_bit}
use Rattle.eq_verilog.specs.Equations.{formula, place_below, place_in}
use Rattle.eq_verilog.specs.Expressions.{reads, value}
use Rattle.eq_verilog.specs.Registers.{Initial, Process, Table, chosen, initial_in, itself, process_in, run, sets}
use Rattle.eq_flatten.specs.Rendering.{SameNames}
use Rattle.eq_flatten.proofs.Agreeing.{own_same, reads_same, value_same, wire_same}
use Rattle.eq_flatten.proofs.SameNamed.{same_names, SameOf}
use Rattle.eq_sequential.proofs.FineItems.{fine_both, AreFine, AreItemsFine, IsFine}
use Rattle.eq_sequential.proofs.Matched.{Matched}

-- two always items set the same bits to the same, at the same event
pub record RunsAlike (p q : Process) : Type 0 where
  pub sets_same : (b : ℕ) → sets p.scope p.body b ≡ sets q.scope q.body b
  pub run_same : (b : ℕ) → run p.scope p.body itself b ≡ run q.scope q.body itself b
  pub event_same : event_bit p ≡ event_bit q

-- two initial values begin the same bits with the same
pub record BeginsAlike (i j : Initial) : Type 0 where
  pub place_same : (b : ℕ) → place_in i.scope i.target b ≡ place_in j.scope j.target b
  pub value_same : i.value ≡ j.value

-- a formula of the bits of an expression, and one that chooses
abbrev made : Reads → (Values → Digits) → ℕ → Formula
made a f j = record { reads = a j; value = λ v. f v j }

abbrev picked : ℕ → Reads → (Values → Digits) → Formula → Formula → Formula
picked n a f x y = record {
  reads = all_reads n a ++ (x.reads ++ y.reads);
  value = λ v. cond (some_one n (f v)) (x.value v) (y.value v);
}

module _ (m : ModuleTree) (s r : Scope) (same : SameOf s r (nets_in m)) where
  target_same : (t : ExprTree) → IsFine m (target t) → SameNames s r t
  target_same t h = same_names s r t (λ n i. same n (h.names n i))

  source_same : (e : ExprTree) → IsFine m (expression e) → SameNames s r e
  source_same e h = same_names s r e (λ n i. same n (h.names n i))

  place_alike : (t : ExprTree) (b : ℕ) → SameNames s r t → place_in s t b ≡ place_in r t b
  place_alike t b h = ap₂ (λ n (f : ℕ → Option ℕ). place_below n f b) (own_same s r t h) (fun_ext (wire_same s r t h))

  formula_alike : (t e : ExprTree) → SameNames s r t → SameNames s r e → formula s t s e ≡ formula r t r e
  formula_alike t e h g = fun_ext (λ j.
      ap (λ w. made (reads s e w) (λ v. value s v e w) j)
      (ap₂ (λ k n. max k n) (own_same s r t h) (own_same s r e g))
      ∙ ap₂ (λ (a : Reads) (f : Values → Digits). made a f j) (reads_same s r e (context r t r e) g)
      (fun_ext (λ v. value_same s r v e (context r t r e) g)))

  chosen_alike : (c : ExprTree) (x y : Formula) → SameNames s r c → chosen s c x y ≡ chosen r c x y
  chosen_alike c x y h =
      ap (λ n. picked n (reads s c n) (λ v. value s v c n) x y) (own_same s r c h)
      ∙ ap₂ (λ (a : Reads) (f : Values → Digits). picked (own r c) a f x y) (reads_same s r c (own r c) h)
      (fun_ext (λ v. value_same s r v c (own r c) h))

  sets_alike : (body : StmtTree) → AreFine m (wholes_of_stmt body) → (b : ℕ) → sets s body b ≡ sets r body b
  sets_alike idle h b = refl
  sets_alike (set t e) h b = ap (λ (o : Option ℕ). is_some o) (place_alike t b (target_same t h.0))
  sets_alike (sequence x y) h b =
      let parts = fine_both m (wholes_of_stmt x) (wholes_of_stmt y) h in
      ap₂ (λ u v. u || v) (sets_alike x parts.0 b) (sets_alike y parts.1 b)
  sets_alike (branch c x y) h b =
      let parts = fine_both m (wholes_of_stmt x) (wholes_of_stmt y) h.1 in
      ap₂ (λ u v. u || v) (sets_alike x parts.0 b) (sets_alike y parts.1 b)

  run_alike : (body : StmtTree) → AreFine m (wholes_of_stmt body) → (table : Table) (b : ℕ) →
      run s body table b ≡ run r body table b
  run_alike idle h table b = refl
  run_alike (set t e) h table b =
      ap₂ (λ (f : ℕ → Formula) (o : Option ℕ). if_there (table b) f o)
      (formula_alike t e (target_same t h.0) (source_same e h.1.0)) (place_alike t b (target_same t h.0))
  run_alike (sequence x y) h table b =
      let parts = fine_both m (wholes_of_stmt x) (wholes_of_stmt y) h in
      ap (λ (f : Table). run s y f b) (fun_ext (λ c. run_alike x parts.0 table c))
      ∙ run_alike y parts.1 (run r x table) b
  run_alike (branch c x y) h table b =
      let parts = fine_both m (wholes_of_stmt x) (wholes_of_stmt y) h.1 in
      ap₂ (λ (t : Bool) (f : Formula). cond t f (table b))
      (ap₂ (λ u v. u || v) (sets_alike x parts.0 b) (sets_alike y parts.1 b))
      (ap₂ (λ (f g : Formula). chosen s c f g) (run_alike x parts.0 table b) (run_alike y parts.1 table b)
      ∙ chosen_alike c (run r x table b) (run r y table b) (source_same c h.0))

  process_alike : (event : ExprTree) (body : StmtTree) → AreFine m (target event ∷ wholes_of_stmt body) →
      RunsAlike (record { scope = s; event = event; body = body }) (record { scope = r; event = event; body = body })
  process_alike event body h = record {
    sets_same = λ b. sets_alike body h.1 b;
    run_same = λ b. run_alike body h.1 itself b;
    event_same = wire_same s r event (target_same event h.0) 0;
  }

  initial_alike : (t : ExprTree) (c : Constant) → IsFine m (target t) →
      BeginsAlike (record { scope = s; target = t; value = c }) (record { scope = r; target = t; value = c })
  initial_alike t c h = record { place_same = λ b. place_alike t b (target_same t h); value_same = refl }

  -- the always items of items
  pub processes_alike : (is : List ItemTree) → AreItemsFine m is →
      Matched RunsAlike (filter_map (process_in s) is) (filter_map (process_in r) is)
  processes_alike [] h = tt
  processes_alike (declared k d n ∷ is) h = processes_alike is h.1
  processes_alike (assign t e ∷ is) h = processes_alike is h.1
  processes_alike (primitive k n terms ∷ is) h = processes_alike is h.1
  processes_alike (instance i n conns ∷ is) h = processes_alike is h.1
  processes_alike (always event body ∷ is) h = (process_alike event body h.0.0, processes_alike is h.1)
  processes_alike (initial t c ∷ is) h = processes_alike is h.1

  -- their initial values
  pub initials_alike : (is : List ItemTree) → AreItemsFine m is →
      Matched BeginsAlike (filter_map (initial_in s) is) (filter_map (initial_in r) is)
  initials_alike [] h = tt
  initials_alike (declared k d n ∷ is) h = initials_alike is h.1
  initials_alike (assign t e ∷ is) h = initials_alike is h.1
  initials_alike (primitive k n terms ∷ is) h = initials_alike is h.1
  initials_alike (instance i n conns ∷ is) h = initials_alike is h.1
  initials_alike (always event body ∷ is) h = initials_alike is h.1
  initials_alike (initial t c ∷ is) h = (initial_alike t c h.0.0.0, initials_alike is h.1)
