-- When a bit of a word stands for a formula: a bit of an expression's word does, and it does so still when there are more
-- words.
use Rattle.std.proofs.Common.{◌≡◌, ℕ, ◌<◌, List, [], length, Contains, ◌↔◌, arith, sym, subst, ◌∙◌}
use Rattle.eq_model.specs.System.{Expr as Formula, Values}
use Rattle.eq_net.specs.declared.types.NetInfo.{NetInfo}
use Rattle.eq_net.specs.declared.types.WordBit.{WordBit}
use Rattle.eq_net.specs.Tree.{Tree}
use Rattle.eq_net.specs.Meaning.{all_reads_of, bit_of, reads_of, values_of, width}
use Rattle.eq_net.specs.Net.{HasWordBit, number_of, word_at}
use Rattle.eq_verilog.specs.Trees.{ExprTree}
use Rattle.eq_verilog.specs.Scopes.{Scope}
use Rattle.eq_verilog.specs.Expressions.{reads, value}
use Rattle.eq_verilog.specs.Registers.{Table}
use Rattle.eq_flatten.specs.Rendering.{KeepsFront, Renders}
use Rattle.eq_registers.specs.Standing.{AreNext, AreThere, StandsFor}
use Rattle.eq_registers.proofs.Grown.{row_later}

pub same_lists : (xs ys : List ℕ) → xs ≡ ys → (b : ℕ) → Contains xs b ↔ Contains ys b
same_lists xs ys e b = (λ h. subst (λ (zs : List ℕ). Contains zs b) e h, λ h. subst (λ (zs : List ℕ). Contains zs b) (sym e) h)

pub both_ways : {P Q R : Type 0} → P ↔ Q → Q ↔ R → P ↔ R
both_ways f g = (λ p. g.0 (f.0 p), λ r. f.1 (g.1 r))

module _ (nets : List NetInfo) where
  pub there_later : (old new : List Tree) (w : WordBit) → KeepsFront old new → HasWordBit old (length old) w →
      HasWordBit new (length new) w
  there_later old new w h there =
      let more = h.more in
      let before = there.0 in
      (omega (arith, more, before), subst (λ (t : Tree). w.bit < width t) (sym (h.kept w.word there.0)) there.1)

  pub stands_later : (old new : List Tree) (w : WordBit) (f : Formula) → KeepsFront old new → StandsFor nets old w f →
      StandsFor nets new w f
  stands_later old new w f h stands = record {
    there = there_later old new w h stands.there;
    same = record {
      reads = λ b. both_ways
          (same_lists (all_reads_of (number_of nets) new w.word w.bit) (all_reads_of (number_of nets) old w.word w.bit)
          (row_later [] (reads_of (number_of nets)) old new w.word w.bit h stands.there.0) b)
          (stands.same.reads b);
      value = λ v. row_later _ (bit_of v (number_of nets)) old new w.word w.bit h stands.there.0 ∙ stands.same.value v;
    };
  }

  pub all_there_later : (old new : List Tree) (entries : List WordBit) → KeepsFront old new → AreThere old entries →
      AreThere new entries
  all_there_later old new entries h there p w here = there_later old new w h (there p w here)

  pub next_later : (old new : List Tree) (bits : List ℕ) (entries : List WordBit) (table : Table) → KeepsFront old new →
      AreNext nets old bits entries table → AreNext nets new bits entries table
  next_later old new bits entries table h next p b w key here =
      stands_later old new w (table b) h (next p b w key here)

  -- a bit of the word of an expression
  pub stands_word : (words : List Tree) (s : Scope) (e : ExprTree) (w k j : ℕ) → k < length words →
      Renders nets words s e w (word_at words k) → j < w →
      ((v : Values) (i : ℕ) → values_of v (number_of nets) words k i ≡ value s v e w i) →
      ((i : ℕ) → all_reads_of (number_of nets) words k i ≡ reads s e w i) →
      StandsFor nets words (record { word = k; bit = j }) (record { reads = reads s e w j; value = λ v. value s v e w j })
  stands_word words s e w k j there renders inside values reading = record {
    there = (there, (let size = renders.size in omega (arith, size, inside)));
    same = record {
      reads = λ b. same_lists (all_reads_of (number_of nets) words k j) (reads s e w j) (reading j) b;
      value = λ v. values v j;
    };
  }
