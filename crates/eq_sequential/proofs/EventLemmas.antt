-- Events one by one.
use Rattle.std.proofs.Common.{◌≡◌, ℕ, ◌<◌, ◌^◌, List, [], ◌∷◌, ◌++◌, length, map, slice_get, All, Option, Some, None, refl, arith, sym, ap, subst, ◌∙◌}
use Rattle.std.specs.Prelude.{IfSome, flat_map}
use Rattle.std.proofs.lemmas.List.{append_assoc, append-nil, map-append}
use Rattle.std.proofs.lemmas.List.Concat.{flat_map-append}
use Rattle.std.proofs.lemmas.List.Elements.{filter_map-append, All-append, All-cons, All-nil}
use Rattle.eq_names.specs.declared.BitName.{BitName}
use Rattle.eq_net.specs.declared.types.NetInfo.{NetInfo}
use Rattle.eq_net.specs.Meaning.{if_there}
use Rattle.eq_net.specs.Net.{HasBit, bits_of, number_of}
use Rattle.eq_verilog.specs.Trees.{ExprTree, ItemTree}
use Rattle.eq_verilog.specs.Scopes.{Scope}
use Rattle.eq_verilog.specs.Designs.{event_bit}
use Rattle.eq_verilog.specs.Expressions.{wire}
use Rattle.eq_verilog.specs.Registers.{Process}
use Rattle.eq_flatten.specs.Driving.{number_in}
use Rattle.eq_flatten.specs.Equating.{AreStarts}
use Rattle.eq_flatten.specs.Meant.{AreMeant}
use Rattle.eq_flatten.proofs.Numbered.{bits_inside}
use Rattle.eq_registers.proofs.Written.{numbers_agree}
use Rattle.eq_sequential.specs.inner.Happening.{AddsEvent, AddsEvents, AreBelow}
use Rattle.eq_sequential.specs.inner.Processing.{processes_in}

module _ (bits : ℕ) where
  pub adds_no_events : (events : List (Option ℕ)) → AddsEvents bits events events []
  adds_no_events events = record { added = sym (append-nil events); there = λ h. h }

  -- one event
  pub event_added : (s : Scope) (t : ExprTree) (old new : List (Option ℕ)) (e : Option ℕ) → new ≡ old ++ e ∷ [] →
      e ≡ wire s t 0 → IfSome e (λ b. b < bits) → AddsEvent bits s t old new
  event_added s t old new e added is there body = record {
    added = added ∙ ap (λ (o : Option ℕ). old ++ o ∷ []) is;
    there = λ h. subst (λ es. AreBelow bits es) (sym added)
        (All-append (λ (o : Option ℕ). IfSome o (λ b. b < bits)) old (e ∷ []) h
        (All-cons (λ (o : Option ℕ). IfSome o (λ b. b < bits)) e [] there
        (All-nil (λ (o : Option ℕ). IfSome o (λ b. b < bits)))));
  }

  events_then : (a b c : List (Option ℕ)) (ps qs : List Process) → AddsEvents bits a b ps → AddsEvents bits b c qs →
      AddsEvents bits a c (ps ++ qs)
  events_then a b c ps qs one other = record {
    added =
        other.added ∙ ap (λ (es : List (Option ℕ)). es ++ map event_bit qs) one.added
        ∙ append_assoc a (map event_bit ps) (map event_bit qs)
        ∙ ap (λ (es : List (Option ℕ)). a ++ es) (sym (map-append event_bit ps qs));
    there = λ h. other.there (one.there h);
  }

  -- those of one item more
  pub events_next : (s : Scope) (is : List ItemTree) (i : ItemTree) (a b c : List (Option ℕ)) →
      AddsEvents bits a b (processes_in s is) → AddsEvents bits b c (processes_in s (i ∷ [])) →
      AddsEvents bits a c (processes_in s (is ++ i ∷ []))
  events_next s is i a b c so_far one =
      subst (λ ps. AddsEvents bits a c ps) (sym (filter_map-append _ is (i ∷ [])))
      (events_then a b c (processes_in s is) (processes_in s (i ∷ [])) so_far one)

  -- those of one more of anything that has some
  pub events_each : {X : Type 0} (f : X → List Process) (xs : List X) (u : X) (a b c : List (Option ℕ)) →
      AddsEvents bits a b (flat_map f xs) → AddsEvents bits b c (f u) → AddsEvents bits a c (flat_map f (xs ++ u ∷ []))
  events_each f xs u a b c so_far one =
      subst (λ ps. AddsEvents bits a c ps)
      (sym (flat_map-append f xs (u ∷ []) ∙ ap (λ ps. flat_map f xs ++ ps) (append-nil (f u))))
      (events_then a b c (flat_map f xs) (f u) so_far one)

-- ---- the first bit of a target

module _ (nets : List NetInfo) (starts : List ℕ) (are : AreStarts nets starts) where
  -- its bits have numbers
  pub bits_there : (bits : List BitName) → All (HasBit nets) bits → bits_of nets < 2 ^ 32 →
      All (λ (b : BitName). (b.net < length starts) × (number_in starts b < 2 ^ 32)) bits
  bits_there bits has few k d inside =
      let h = bits_inside nets starts are bits (bits_of nets) refl has k d inside in
      let less = h.1 in
      (h.0, omega (arith, less, few))

  by_numbers : (bits : List BitName) → All (HasBit nets) bits →
      if_there None (λ (b : BitName). Some (number_in starts b)) (slice_get bits 0)
      ≡ if_there None (λ (b : BitName). Some (number_of nets b)) (slice_get bits 0)
  by_numbers [] has = refl
  by_numbers (b ∷ bs) has = ap (λ (n : ℕ). Some n) (sym (numbers_agree nets starts are b (has 0 b (omega arith))))

  pub first_wire : (s : Scope) (t : ExprTree) (bits : List BitName) → AreMeant nets s t bits →
      if_there None (λ (b : BitName). Some (number_in starts b)) (slice_get bits 0) ≡ wire s t 0
  first_wire s t bits h = by_numbers bits h.there ∙ h.wires 0

  pub first_below : (bits : List BitName) → All (HasBit nets) bits →
      IfSome (if_there None (λ (b : BitName). Some (number_in starts b)) (slice_get bits 0)) (λ n. n < bits_of nets)
  first_below [] has = tt
  first_below (b ∷ bs) has =
      (bits_inside nets starts are (b ∷ bs) (bits_of nets) refl has 0 b (omega arith)).1
