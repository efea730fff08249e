-- What an `if` asks of its branches, and what its branches leave.
use Rattle.std.proofs.Common.{◌≡◌, ℕ, List, [], length, Result, Ok, Err, sym, ap, subst, ◌∙◌}
use Rattle.std.specs.Prelude.{OnOk}
use Rattle.eq_net.specs.declared.types.NetInfo.{NetInfo}
use Rattle.eq_net.specs.declared.types.WordBit.{WordBit}
use Rattle.eq_net.specs.Tree.{Tree}
use Rattle.eq_verilog.specs.Trees.{Name, ExprTree, StmtTree, branch}
use Rattle.eq_verilog.specs.Scopes.{Scope}
use Rattle.eq_verilog.specs.Sizes.{own}
use Rattle.eq_verilog.specs.Registers.{sets}
use Rattle.eq_flatten.specs.Rendering.{KeepsFront}
use Rattle.eq_registers.specs.Standing.{AreThere}
use Rattle.eq_registers.specs.Running.{AllKeys, HasRun, IsStmtReady}
use Rattle.eq_registers.specs.inner.Choosing.{HasCondition, IsChosen}
use Rattle.eq_registers.proofs.Branched.{branch_run}
use Rattle.eq_registers.proofs.Ran.{or_left, or_right}
use Rattle.eq_registers.proofs.Stood.{all_there_later}

-- what follows from an answer follows of the call
pub on_ok : {T E : Type 0} {P Q : Type 0} (r : Result T E) → (P → Q) → OnOk r P → OnOk r Q
on_ok (Ok x) f h = f h
on_ok (Err e) f h = h

module _ (nets : List NetInfo) (names : List Name) (from : ℕ) (body : StmtTree) (c : ExprTree) (a d : StmtTree)
    (is : body ≡ branch c a d) where
  pub first_ready : IsStmtReady nets names from body → IsStmtReady nets names from a
  first_ready h = (subst (λ t. IsStmtReady nets names from t) is h).1

  pub second_ready : IsStmtReady nets names from body → IsStmtReady nets names from d
  second_ready h = (subst (λ t. IsStmtReady nets names from t) is h).2

module _ (keys : List ℕ) (s : Scope) (body : StmtTree) (c : ExprTree) (a d : StmtTree) (is : body ≡ branch c a d) where
  pub first_keys : AllKeys keys s body → AllKeys keys s a
  first_keys h b set = subst (λ t. AllKeys keys s t) is h b (or_left (sets s a b) (sets s d b) set)

  pub second_keys : AllKeys keys s body → AllKeys keys s d
  second_keys h b set = subst (λ t. AllKeys keys s t) is h b (or_right (sets s a b) (sets s d b) set)

-- a copy of the table, where there are more words
pub copy_there : (old new : List Tree) (table copy : List WordBit) → copy ≡ table → KeepsFront old new →
    AreThere old table → AreThere new copy
copy_there old new table copy is h there =
    subst (λ (es : List WordBit). AreThere new es) (sym is) (all_there_later [] old new table h there)

pub copy_size : (keys : List ℕ) (table copy : List WordBit) → copy ≡ table → length table ≡ length keys →
    length copy ≡ length keys
copy_size keys table copy is size = ap (λ (es : List WordBit). length es) is ∙ size

-- both branches have run, each on its copy, and the choice between them is made
pub both_run : (nets : List NetInfo) (s : Scope) (body : StmtTree) (c : ExprTree) (a d : StmtTree) (keys : List ℕ)
    (number w : ℕ) (old start mid words new : List Tree) (before copy firsts slice seconds after : List WordBit)
    → body ≡ branch c a d → copy ≡ before → slice ≡ firsts
    → HasCondition nets s c number old start → HasRun nets s a keys start mid copy firsts
    → HasRun nets s d keys mid words before seconds → IsChosen number w slice seconds after words new
    → w ≡ own s c → length before ≡ length keys → AreThere old before
    → HasRun nets s body keys old new before after
both_run nets s body c a d keys number w old start mid words new before copy firsts slice seconds after is copied sliced
    condition one other made width size there =
    subst (λ t. HasRun nets s t keys old new before after) (sym is)
    (branch_run nets s c a d keys number w old start mid words new before firsts seconds after condition
    (subst (λ (es : List WordBit). HasRun nets s a keys start mid es firsts) copied one) other
    (subst (λ (es : List WordBit). IsChosen number w es seconds after words new) sliced made) width size there)
