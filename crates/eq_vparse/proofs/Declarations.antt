-- Entries of declarations and assignments are read by the grammar.
use Rattle.std.proofs.Common.{◌≡◌, ℕ, List, [], ◌∷◌, ◌++◌, Option, Some, None, refl, ◌∙◌, append_assoc}
use Rattle.eq_vlex.specs.declared.mark.Mark.TheVariants.{Assign as Equals}
use Rattle.eq_vlex.specs.declared.token.Constant.{Constant}
use Rattle.eq_vparse.specs.declared.header.PortKind.TheVariants as kind
use Rattle.eq_vparse.specs.declared.tree.DeclKind.{DeclKind}
use Rattle.eq_vparse.specs.declared.tree.DeclKind.TheVariants.{Output, Wire, Reg}
use Rattle.eq_vparse.specs.declared.tree.Expr.{Expr}
use Rattle.eq_vparse.specs.declared.tree.Item.{Item}
use Rattle.eq_vparse.specs.declared.tree.Item.TheVariants.{Decl, Assign, Init}
use Rattle.eq_vparse.specs.declared.tree.Range.{Range}
use Rattle.eq_vparse.specs.declared.tree.Target.TheVariants.{Net}
use Rattle.eq_vparse.specs.Limits.{Limits}
use Rattle.eq_vparse.specs.Tests.{is_mark}
use Rattle.eq_vparse.specs.Reading.{sized_at}
use Rattle.eq_vparse.specs.Rules.{Rule, name, sized, mark, give, maybe}
use Rattle.eq_vparse.specs.Rules as rule
use Rattle.eq_vparse.specs.Statements.{expr_within, target_within}
use Rattle.eq_vparse.specs.Grammar.{value, init_of, port_items, port, reg, output_reg, assign_of, wire, assignment}
use Rattle.eq_vparse.specs.Machine.{expr_at, EndsExpr}
use Rattle.eq_vparse.specs.TargetReading.{target_at}
use Rattle.eq_vparse.specs.DeclarationReading.{maybe_value_at, maybe_driver_at, with_decl, with_reg, with_assign, port_at, reg_at, output_reg_at, wire_at, assignment_at}
use Rattle.eq_vparse.proofs.Connections.{append}
use Rattle.eq_vparse.proofs.Sound.{expr_sound}
use Rattle.eq_vparse.proofs.Again.{expr_complete}
use Rattle.eq_vparse.proofs.TargetSentences.{target_sound, target_complete}
use Rattle.eq_vparse.proofs.Agreement.{Sound, Complete, SoundInto, CompleteInto, Anything, name_sound, sized_sound, sized_complete, mark_sound, done_sound, then_sound}
use Rattle.eq_vparse.proofs.Follows.{Next, EndsEntry, entry_ends_expr, entry_no_equals, behind_sound, behind_complete, within_then, within_give, covers_then, covers_give, into_sound, into_complete, Completes, completes, simply, given, at_last, before_mark, a_name, a_mark}

-- ---- values and drivers

pub value_sound : Sound value maybe_value_at
unfolding maybe_value_at
value_sound = behind_sound sized sized_at Equals sized_sound

pub value_complete : Complete value maybe_value_at EndsEntry
unfolding maybe_value_at
value_complete = behind_complete sized sized_at Equals Anything EndsEntry sized_complete (λ ts f. tt) entry_no_equals

pub a_value : Completes value.sentence maybe_value_at EndsEntry
a_value = completes value.sentence maybe_value_at EndsEntry value_complete

pub an_expr : (l : Limits) → Completes (expr_within l).sentence (expr_at l.marks) EndsEntry
an_expr l = completes (expr_within l).sentence (expr_at l.marks) EndsEntry (λ us e r h f. expr_complete l.marks us e r h (entry_ends_expr r f))

abbrev pub driver : Limits → Rule (Option Expr)
driver l = maybe (rule.◌>>=◌ (mark Equals) (λ _. expr_within l))

driver_sound : (l : Limits) → Sound (driver l) (maybe_driver_at l)
unfolding maybe_driver_at
driver_sound l = behind_sound (expr_within l) (expr_at l.marks) Equals (expr_sound l.marks)

driver_complete : (l : Limits) → Complete (driver l) (maybe_driver_at l) EndsEntry
unfolding maybe_driver_at
driver_complete l = behind_complete (expr_within l) (expr_at l.marks) Equals EndsExpr EndsEntry (expr_complete l.marks) entry_ends_expr entry_no_equals

a_driver : (l : Limits) → Completes (driver l).sentence (maybe_driver_at l) EndsEntry
a_driver l = completes (driver l).sentence (maybe_driver_at l) EndsEntry (driver_complete l)

-- ---- ports

port_into : DeclKind → Option Range → List Item → Rule (List Item)
port_into k r items = rule.◌>>=◌ name (λ n. give (with_decl items k r n))

pub port_sound : (k : DeclKind) (r : Option Range) → SoundInto (port k r) append (port_at k r)
unfolding port_at port_into
port_sound k r = into_sound (port k r) append (λ items. (port_into k r items).sentence) (port_at k r)
    (λ items. within_then (append items) _ _ _ (λ n. within_give (append items) _ _ refl))
    (λ items. then_sound _ _ _ _ name_sound (λ n. done_sound _))

pub port_complete : (k : DeclKind) (r : Option Range) → CompleteInto (port k r) append (port_at k r) EndsEntry
unfolding port_at port_into
port_complete k r = into_complete (port k r) append (λ items. (port_into k r items).sentence) (port_at k r) EndsEntry
    (λ items. covers_then (append items) _ _ _ (λ n. covers_give (append items) _ _ refl))
    (λ items. simply _ _ _ _ _ a_name (λ n. given _ EndsEntry))

-- ---- registers

pub reg_is : (items : List Item) (r : Option Range) (n : List ℕ) (c : Option Constant) → with_reg items r n c ≡ append items (Decl Reg r n ∷ init_of n c)
unfolding with_reg
reg_is items r n None = refl
reg_is items r n (Some c) = append_assoc items (Decl Reg r n ∷ []) (Init (Net n) c ∷ [])

pub output_reg_is : (items : List Item) (r : Option Range) (n : List ℕ) (c : Option Constant) → with_reg (with_decl items Output r n) r n c ≡ append items (port_items kind.OutputReg r n c)
output_reg_is items r n c = reg_is (with_decl items Output r n) r n c ∙ append_assoc items (Decl Output r n ∷ []) (Decl Reg r n ∷ init_of n c)

reg_into : Option Range → List Item → Rule (List Item)
reg_into r items = rule.◌>>=◌ name (λ n. rule.◌>>=◌ value (λ c. give (with_reg items r n c)))

pub reg_sound : (r : Option Range) → SoundInto (reg r) append (reg_at r)
unfolding reg_at reg_into
reg_sound r = into_sound (reg r) append (λ items. (reg_into r items).sentence) (reg_at r)
    (λ items. within_then (append items) _ _ _ (λ n. within_then (append items) _ _ _ (λ c. within_give (append items) _ _ (reg_is items r n c))))
    (λ items. then_sound _ _ _ _ name_sound (λ n. then_sound _ _ _ _ value_sound (λ c. done_sound _)))

pub reg_complete : (r : Option Range) → CompleteInto (reg r) append (reg_at r) EndsEntry
unfolding reg_at reg_into
reg_complete r = into_complete (reg r) append (λ items. (reg_into r items).sentence) (reg_at r) EndsEntry
    (λ items. covers_then (append items) _ _ _ (λ n. covers_then (append items) _ _ _ (λ c. covers_give (append items) _ _ (reg_is items r n c))))
    (λ items. simply _ _ _ _ _ a_name (λ n. at_last _ _ _ EndsEntry a_value))

output_reg_into : Option Range → List Item → Rule (List Item)
output_reg_into r items = rule.◌>>=◌ name (λ n. rule.◌>>=◌ value (λ c. give (with_reg (with_decl items Output r n) r n c)))

pub output_reg_sound : (r : Option Range) → SoundInto (output_reg r) append (output_reg_at r)
unfolding output_reg_at output_reg_into
output_reg_sound r = into_sound (output_reg r) append (λ items. (output_reg_into r items).sentence) (output_reg_at r)
    (λ items. within_then (append items) _ _ _ (λ n. within_then (append items) _ _ _ (λ c. within_give (append items) _ _ (output_reg_is items r n c))))
    (λ items. then_sound _ _ _ _ name_sound (λ n. then_sound _ _ _ _ value_sound (λ c. done_sound _)))

pub output_reg_complete : (r : Option Range) → CompleteInto (output_reg r) append (output_reg_at r) EndsEntry
unfolding output_reg_at output_reg_into
output_reg_complete r = into_complete (output_reg r) append (λ items. (output_reg_into r items).sentence) (output_reg_at r) EndsEntry
    (λ items. covers_then (append items) _ _ _ (λ n. covers_then (append items) _ _ _ (λ c. covers_give (append items) _ _ (output_reg_is items r n c))))
    (λ items. simply _ _ _ _ _ a_name (λ n. at_last _ _ _ EndsEntry a_value))

-- ---- wires

wire_is : (items : List Item) (r : Option Range) (n : List ℕ) (e : Option Expr) → with_assign (with_decl items Wire r n) n e ≡ append items (Decl Wire r n ∷ assign_of n e)
wire_is items r n None = refl
wire_is items r n (Some e) = append_assoc items (Decl Wire r n ∷ []) (Assign (Net n) e ∷ [])

wire_into : Limits → Option Range → List Item → Rule (List Item)
wire_into l r items = rule.◌>>=◌ name (λ n. rule.◌>>=◌ (driver l) (λ e. give (with_assign (with_decl items Wire r n) n e)))

pub wire_sound : (l : Limits) (r : Option Range) → SoundInto (wire l r) append (wire_at l r)
unfolding wire_at wire_into
wire_sound l r = into_sound (wire l r) append (λ items. (wire_into l r items).sentence) (wire_at l r)
    (λ items. within_then (append items) _ _ _ (λ n. within_then (append items) _ _ _ (λ e. within_give (append items) _ _ (wire_is items r n e))))
    (λ items. then_sound _ _ _ _ name_sound (λ n. then_sound _ _ _ _ (driver_sound l) (λ e. done_sound _)))

pub wire_complete : (l : Limits) (r : Option Range) → CompleteInto (wire l r) append (wire_at l r) EndsEntry
unfolding wire_at wire_into
wire_complete l r = into_complete (wire l r) append (λ items. (wire_into l r items).sentence) (wire_at l r) EndsEntry
    (λ items. covers_then (append items) _ _ _ (λ n. covers_then (append items) _ _ _ (λ e. covers_give (append items) _ _ (wire_is items r n e))))
    (λ items. simply _ _ _ _ _ a_name (λ n. at_last _ _ _ EndsEntry (a_driver l)))

-- ---- assignments

assignment_into : Limits → List Item → Rule (List Item)
assignment_into l items = rule.◌>>=◌ (target_within l) (λ t. rule.◌>>=◌ (mark Equals) (λ _. rule.◌>>=◌ (expr_within l) (λ e. give (items ++ Assign t e ∷ []))))

pub assignment_sound : (l : Limits) → SoundInto (assignment l) append (assignment_at l)
unfolding assignment_at assignment_into
assignment_sound l = into_sound (assignment l) append (λ items. (assignment_into l items).sentence) (assignment_at l)
    (λ items. within_then (append items) _ _ _ (λ t. within_then (append items) _ _ _ (λ _. within_then (append items) _ _ _ (λ e. within_give (append items) _ _ refl))))
    (λ items. then_sound _ _ _ _ (target_sound l.marks) (λ t. then_sound _ _ _ _ (mark_sound Equals) (λ _. then_sound _ _ _ _ (expr_sound l.marks) (λ e. done_sound _))))

-- no bracket stands before `=`
pub target_before_equals : (l : Limits) → Completes (target_within l).sentence (target_at l.marks) (Next Equals)
unfolding is_mark
target_before_equals l = completes (target_within l).sentence (target_at l.marks) (Next Equals) (λ us t r h f. target_complete l.marks us t r h (rw (f.1) refl))

pub assignment_complete : (l : Limits) → CompleteInto (assignment l) append (assignment_at l) EndsEntry
unfolding assignment_at assignment_into
assignment_complete l = into_complete (assignment l) append (λ items. (assignment_into l items).sentence) (assignment_at l) EndsEntry
    (λ items. covers_then (append items) _ _ _ (λ t. covers_then (append items) _ _ _ (λ _. covers_then (append items) _ _ _ (λ e. covers_give (append items) _ _ refl))))
    (λ items. before_mark Equals _ _ _ _ _ (target_before_equals l) (λ t. simply _ _ _ _ _ (a_mark Equals) (λ _. at_last _ _ _ EndsEntry (an_expr l))))
