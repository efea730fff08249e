-- The bits of a net from a position up are those that a name or a select means.
use Rattle.std.proofs.Common.{◌≡◌, ℕ, ◌+◌, ◌<◌, ◌≤◌, nat_lt, cond, List, length, slice_get, true, Option, Some, None, refl, arith, sym, ap, subst, ◌∙◌, inl, inr}
use Rattle.std.proofs.lemmas.Bool.{cases_lt}
use Rattle.std.proofs.lemmas.Option.{slice_get_past}
use Rattle.eq_model.specs.Nets.{range_width}
use Rattle.eq_names.specs.declared.BitName.{BitName}
use Rattle.eq_net.specs.declared.types.NetInfo.{NetInfo}
use Rattle.eq_net.specs.Meaning.{if_there}
use Rattle.eq_net.specs.Net.{HasBit, net_at, number_of}
use Rattle.eq_net.specs.Nets.{width_of}
use Rattle.eq_verilog.specs.Trees.{Name, ExprTree, net, bit, part}
use Rattle.eq_verilog.specs.Scopes.{is_select, position, span, width}
use Rattle.eq_verilog.specs.Sizes.{own}
use Rattle.eq_verilog.specs.Expressions.{selected, wire}
use Rattle.eq_analysis.specs.Finding.{net_in, scope_of}
use Rattle.eq_flatten.specs.Forms.{net_bits}
use Rattle.eq_flatten.specs.Meant.{AreMeant}
use Rattle.eq_flatten.proofs.Listing.{first_false, first_true, numbered_all, numbered_length}
use Rattle.eq_flatten.proofs.Rendered.{read_at, some_wire}
use Rattle.eq_flatten.proofs.Selecting.{one_index, select_inside}

guarded : {A B : Type 0} (f : A → Option B) (xs : List A) (j : ℕ) →
    cond (nat_lt j (length xs)) (if_there None f (slice_get xs j)) None ≡ if_there None f (slice_get xs j)
guarded f xs j = elim (cases_lt j (length xs)) [
  | inl less ↦ ap (λ b. cond b (if_there None f (slice_get xs j)) None) (first_true j (length xs) less)
  | inr more ↦ ap (λ b. cond b (if_there None f (slice_get xs j)) None) (first_false j (length xs) more)
      ∙ sym (ap (if_there None f) (slice_get_past xs j more))
]

module _ (nets : List NetInfo) (names : List Name) (from : ℕ) (name : Name) where
  meant : (p n : ℕ) (e : ExprTree) → own (scope_of nets names from) e ≡ n →
      ((j : ℕ) → wire (scope_of nets names from) e j ≡ selected (scope_of nets names from) name p n j) →
      net_in names from name < length nets → p + n ≤ width_of (net_at nets (net_in names from name)) →
      AreMeant nets (scope_of nets names from) e (net_bits (net_in names from name) p n)
  meant p n e size hw there inside = record {
    there = numbered_all (HasBit nets) (λ j. record { net = net_in names from name; bit = p + j }) n
        (λ j lt. (there, omega arith));
    size = numbered_length {A = BitName} (λ j. record { net = net_in names from name; bit = p + j }) n ∙ sym size;
    wires = λ j. sym (guarded (λ (b : BitName). Some (number_of nets b)) (net_bits (net_in names from name) p n) j)
        ∙ read_at nets names from name p n None (λ b. Some b) j
        ∙ some_wire nets names from name p n (selected (scope_of nets names from) name p n j) ∙ sym (hw j);
  }

  pub name_meant : net_in names from name < length nets →
      AreMeant nets (scope_of nets names from) (net name)
      (net_bits (net_in names from name) 0 (width (scope_of nets names from) name))
  name_meant there = meant 0 (width (scope_of nets names from) name) (net name) refl (λ j. refl) there (omega arith)

  pub bit_meant : (i : ℕ) → net_in names from name < length nets →
      is_select ((scope_of nets names from).range name) i i ≡ true →
      AreMeant nets (scope_of nets names from) (bit name i)
      (net_bits (net_in names from name) (position ((scope_of nets names from).range name) i) 1)
  bit_meant i there inside =
      let o = (scope_of nets names from).range name in
      meant (position o i) 1 (bit name i) refl (λ j. refl) there
      (subst (λ n. position o i + n ≤ range_width o) (one_index i) (select_inside o i i inside))

  pub part_meant : (l r : ℕ) → net_in names from name < length nets →
      is_select ((scope_of nets names from).range name) l r ≡ true →
      AreMeant nets (scope_of nets names from) (part name l r)
      (net_bits (net_in names from name) (position ((scope_of nets names from).range name) r) (span l r))
  part_meant l r there inside =
      let o = (scope_of nets names from).range name in
      meant (position o r) (span l r) (part name l r) refl (λ j. refl) there (select_inside o l r inside)
