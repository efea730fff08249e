-- Statements run one after the other.
use Rattle.std.proofs.Common.{◌≡◌, ℕ, zero, suc, ◌+◌, ◌<◌, ◌≤◌, ◌||◌, Bool, true, false, List, [], ◌∷◌, drop, length, map, slice_get, slice_index_or, Some, refl, arith, sym, ap, subst, ◌∙◌, inl, inr}
use Rattle.std.proofs.lemmas.Bool.{cases_Bool, false≢true}
use Rattle.eq_vparse.specs.declared.tree.Stmt.{Stmt}
use Rattle.eq_net.specs.declared.types.NetInfo.{NetInfo}
use Rattle.eq_net.specs.declared.types.WordBit.{WordBit}
use Rattle.eq_net.specs.Tree.{Tree}
use Rattle.eq_net.specs.Net.{AreWords}
use Rattle.eq_verilog.specs.Trees.{Name, StmtTree, idle, sequence, in_sequence, stmt_tree}
use Rattle.eq_verilog.specs.Scopes.{Scope}
use Rattle.eq_verilog.specs.Registers.{run, sets}
use Rattle.eq_analysis.specs.Finding.{scope_of}
use Rattle.eq_registers.specs.Standing.{AreThere}
use Rattle.eq_registers.specs.Running.{AllKeys, HasRun, IsStmtReady}
use Rattle.eq_registers.specs.inner.Stepping.{IsUnderWay}
use Rattle.eq_registers.proofs.Grown.{keeps_all, keeps_twice}
use Rattle.eq_registers.proofs.Branched.{first_false, second_false}

first_true : (a b : Bool) → b ≡ false → (a || b) ≡ true → a ≡ true
first_true true b none e = refl
first_true false b none e = absurd (false≢true (sym none ∙ e))

pub or_left : (a b : Bool) → a ≡ true → (a || b) ≡ true
or_left true b e = refl
or_left false b e = absurd (false≢true e)

pub or_right : (a b : Bool) → b ≡ true → (a || b) ≡ true
or_right true b e = refl
or_right false b e = e

module _ (nets : List NetInfo) (s : Scope) (keys : List ℕ) where
  pub run_idle : (words : List Tree) (before : List WordBit) → AreWords nets words → AreThere words before →
      HasRun nets s idle keys words words before before
  run_idle words before are there = record {
    extends = keeps_all words;
    words = are;
    size = refl;
    there = there;
    next = λ table next p b w key here. next p b w key here;
    fresh = λ p b w key is here. absurd (false≢true is);
    kept = λ p b key is. refl;
    costs = λ n le. omega arith;
  }

  module _ (x y : StmtTree) (old mid new : List Tree) (before between after : List WordBit)
      (one : HasRun nets s x keys old mid before between) (other : HasRun nets s y keys mid new between after)
      (size : length before ≡ length keys) where
    then_fresh : (p b : ℕ) (w : WordBit) → slice_get keys p ≡ Some b → (sets s x b || sets s y b) ≡ true →
        slice_get after p ≡ Some w → length old ≤ w.word
    then_fresh p b w key is here = elim (cases_Bool (sets s y b)) [
      | inl set ↦ (let le = other.fresh p b w key set here in let m = one.extends.more in omega (arith, le, m))
      | inr none ↦
          one.fresh p b w key (first_true (sets s x b) (sets s y b) none is) (sym (other.kept p b key none) ∙ here)
    ]

    pub run_then : HasRun nets s (sequence x y) keys old new before after
    run_then = record {
      extends = keeps_twice old mid new one.extends other.extends;
      words = other.words;
      size = other.size ∙ one.size;
      there = other.there;
      next = λ table next. other.next (run s x table) (one.next table next);
      fresh = then_fresh;
      kept = λ p b key is.
          other.kept p b key (second_false (sets s x b) (sets s y b) is)
          ∙ one.kept p b key (first_false (sets s x b) (sets s y b) is);
      costs = λ n le. (let a = one.costs n le in let b = other.costs n le in omega (arith, a, b));
    }

-- ---- a list of statements

rest_suc : (all : List Stmt) (i : ℕ) (x : Stmt) → i < length all → x ≡ slice_index_or all i x →
    in_sequence (map stmt_tree (drop i all)) ≡ sequence (stmt_tree x) (in_sequence (map stmt_tree (drop (suc i) all)))
rest_suc [] i x lt is = absurd (omega arith)
rest_suc (y ∷ all) zero x lt is = ap (λ (z : Stmt). sequence (stmt_tree z) (in_sequence (map stmt_tree all))) (sym is)
rest_suc (y ∷ all) (suc i) x lt is = rest_suc all i x (omega arith) is

pub no_rest : (all : List Stmt) (i : ℕ) → length all ≤ i → in_sequence (map stmt_tree (drop i all)) ≡ idle
no_rest [] zero le = refl
no_rest [] (suc i) le = refl
no_rest (x ∷ all) zero le = absurd (omega arith)
no_rest (x ∷ all) (suc i) le = no_rest all i (omega arith)

pub rest_next : (all : List Stmt) (i : ℕ) (x : Stmt) → i < length all → x ≡ slice_index_or all i x →
    in_sequence (map stmt_tree (drop i all)) ≡ sequence (stmt_tree x) (in_sequence (map stmt_tree (drop (i + 1) all)))
rest_next all i x lt is =
    let next : suc i ≡ i + 1 = omega arith in
    subst (λ (n : ℕ). in_sequence (map stmt_tree (drop i all))
    ≡ sequence (stmt_tree x) (in_sequence (map stmt_tree (drop n all)))) next (rest_suc all i x lt is)

module _ (nets : List NetInfo) (names : List Name) (from : ℕ) (keys : List ℕ) where
  abbrev Under : StmtTree → StmtTree → List Tree → List Tree → List WordBit → List WordBit → Type 0
  Under all rest old now before entries = IsUnderWay nets names from all rest keys old now before entries

  pub none_run : (all rest : StmtTree) (old : List Tree) (before : List WordBit) → rest ≡ all →
      IsStmtReady nets names from all → AllKeys keys (scope_of nets names from) all → length before ≡ length keys →
      AreThere old before → AreWords nets old → Under all rest old old before before
  none_run all rest old before is ready covered size there words =
      subst (λ (r : StmtTree). Under all r old old before before) (sym is) (record {
        ready = ready;
        keys = covered;
        size = size;
        there = there;
        words = words;
        goes = λ new after h. h;
      })

  pub one_run : (all rest x more : StmtTree) (old now new : List Tree) (before entries after : List WordBit) →
      rest ≡ sequence x more → Under all rest old now before entries →
      HasRun nets (scope_of nets names from) x keys now new entries after → Under all more old new before after
  one_run all rest x more old now new before entries after is h run =
      let s = scope_of nets names from in
      let this : Under all (sequence x more) old now before entries =
      subst (λ (r : StmtTree). Under all r old now before entries) is h in
      record {
        ready = this.ready.1;
        keys = λ b set. this.keys b (or_right (sets s x b) (sets s more b) set);
        size = run.size ∙ this.size;
        there = run.there;
        words = run.words;
        goes = λ last final later.
            this.goes last final (run_then nets s keys x more now new last entries after final run later this.size);
      }

  pub all_run : (all rest : StmtTree) (old now : List Tree) (before entries : List WordBit) → rest ≡ idle →
      Under all rest old now before entries → HasRun nets (scope_of nets names from) all keys old now before entries
  all_run all rest old now before entries is h =
      let s = scope_of nets names from in
      h.goes now entries
      (subst (λ (r : StmtTree). HasRun nets s r keys now now entries entries) (sym is)
      (run_idle nets s keys now entries h.words h.there))
