-- Events told by marks: where copies lead, which nets may be a clock's, and which events have a mark.
use Rattle.std.proofs.Common.{◌≡◌, ℕ, zero, suc, ◌+◌, ◌-◌, ◌<◌, ◌≤◌, ◌==◌, ◌&&◌, List, [], ◌∷◌, Bool, true, false, cond, All, Option, Some, None, length, map, drop, slice_index_or, replicate, refl, arith, sym, ap, ◌∙◌, inl, inr}
use Rattle.std.specs.Prelude.{is_none, is_some, if◌then◌else◌}
use Rattle.std.specs.Option.{option_or}
use Rattle.std.proofs.lemmas.Bool.{lt-ltb, le-ltb}
use Rattle.std.proofs.lemmas.Bool.Decides.{eqb_tells}
use Rattle.std.proofs.Math.ListN.{length-replicate}
use Rattle.std.proofs.lemmas.List.{at_drop_more}
use Rattle.std.proofs.lemmas.List.Elements.{All-head, All-tail}
use Rattle.eq_model.specs.Nets.{Net}
use Rattle.eq_net.specs.declared.types.NetInfo.{NetInfo}
use Rattle.eq_net.specs.Meaning.{if_there}
use Rattle.eq_net.specs.Net.{bits_of, design_of, nets_of, Parts}
use Rattle.eq_net.specs.Nets.{net_of, width_of}
use Rattle.eq_verilog.specs.Clocks.{end_of, is_bit}
use Rattle.eq_verilog.specs.Declarations.{comes_in}
use Rattle.eq_verilog.specs.Firsts.{first_found}
use Rattle.eq_marks.specs.Events.{end_in, first_end, is_event, may_be_clock, IsThere}
use Rattle.eq_marks.specs.inner.Carrying.{mark_of}
use Rattle.eq_marks.specs.inner.Clocking.{IsClass}
use Rattle.eq_marks.specs.inner.Events.{clock_end, ends, first_unmarked, IsEventClass}
use Rattle.eq_marks.specs.inner.Taking.{AreCopies}
use Rattle.eq_marks.proofs.Ends.{end_next}
use Rattle.eq_marks.proofs.TakingLemmas.{ends_same}

-- ---- where copies lead

-- a bit that is no copy is the end
pub ends_here : (copies : List (Option ℕ)) (i from b : ℕ) → i < length copies → None ≡ mark_of copies b →
    end_of (mark_of copies) (length copies) from ≡ end_of (mark_of copies) (length copies - i) b → Some b ≡ ends copies from
ends_here copies i from b lt is so_far =
    let count : length copies - i ≡ suc (length copies - (i + 1)) = omega (arith, lt) in
    sym (so_far ∙ ap (λ n. end_of (mark_of copies) n b) count
    ∙ end_next (mark_of copies) (length copies - (i + 1)) b None (sym is))

-- after as many steps as there are bits there is none
pub ends_nowhere : (copies : List (Option ℕ)) (i from b : ℕ) → length copies ≤ i →
    end_of (mark_of copies) (length copies) from ≡ end_of (mark_of copies) (length copies - i) b → None ≡ ends copies from
ends_nowhere copies i from b all so_far =
    let none : length copies - i ≡ 0 = omega (arith, all) in
    sym (so_far ∙ ap (λ n. end_of (mark_of copies) n b) none)

-- ---- nets

abbrev pub clock_net : Net → Bool
clock_net n = comes_in n.dir && is_none n.range

-- what is still to be gone through while a bit is looked for
pub record IsSought (nets : List NetInfo) (b i left : ℕ) : Type 0 where
  pub same : may_be_clock (map net_of nets) b ≡ may_be_clock (map net_of (drop i nets)) left
  pub fits : left ≤ b

split : (nets : List NetInfo) (i : ℕ) (x : NetInfo) → i < length nets → x ≡ slice_index_or nets i x →
    {Y : Type 0} (F : List NetInfo → Y) → F (drop i nets) ≡ F (x ∷ drop (i + 1) nets)
split nets i x lt is F =
    at_drop_more F nets i x lt ∙ ap (λ (y : NetInfo). F (y ∷ drop (i + 1) nets)) (sym is)

pub sought_next : (nets : List NetInfo) (b i left : ℕ) (x : NetInfo) → i < length nets → x ≡ slice_index_or nets i x →
    width_of x ≤ left → IsSought nets b i left → IsSought nets b (i + 1) (left - width_of x)
sought_next nets b i left x lt is le h =
    let fits = h.fits in
    let rest = may_be_clock (map net_of (drop (i + 1) nets)) (left - width_of x) in
    record {
      same = h.same ∙ split nets i x lt is (λ ns. may_be_clock (map net_of ns) left)
          ∙ ap (λ (t : Bool). if t then clock_net (net_of x) else rest) (le-ltb left (width_of x) le);
      fits = omega (arith, fits);
    }

pub sought_here : (nets : List NetInfo) (b i left : ℕ) (x : NetInfo) → i < length nets → x ≡ slice_index_or nets i x →
    left < width_of x → IsSought nets b i left → may_be_clock (map net_of nets) b ≡ clock_net (net_of x)
sought_here nets b i left x lt is less h =
    let rest = may_be_clock (map net_of (drop (i + 1) nets)) (left - width_of x) in
    h.same ∙ split nets i x lt is (λ ns. may_be_clock (map net_of ns) left)
    ∙ ap (λ (t : Bool). if t then clock_net (net_of x) else rest) (lt-ltb left (width_of x) less)

none_left : (nets : List NetInfo) (i left : ℕ) → length nets ≤ i → may_be_clock (map net_of (drop i nets)) left ≡ false
none_left [] zero left le = refl
none_left [] (suc i) left le = refl
none_left (x ∷ xs) zero left le = absurd (omega (arith, le))
none_left (x ∷ xs) (suc i) left le = none_left xs i left (omega (arith, le))

pub sought_nowhere : (nets : List NetInfo) (b i left : ℕ) → length nets ≤ i → IsSought nets b i left →
    may_be_clock (map net_of nets) b ≡ false
sought_nowhere nets b i left le h = h.same ∙ none_left nets i left le

-- ---- events and their class

turned : (a b : ℕ) → (a == b) ≡ (b == a)
turned a b = elim (eqb_tells a b) [
  | inl e ↦ ap (λ x. a == x) (sym e.1) ∙ ap (λ x. x == a) e.1
  | inr e ↦ elim (eqb_tells b a) [
    | inl k ↦ absurd (e.1 (sym k.1))
    | inr k ↦ e.0 ∙ sym k.0
  ]
]

and_false : (a : Bool) → (a && false) ≡ false
and_false true = refl
and_false false = refl

-- a bit that may be a clock is reached where an event reaches it
timed_by : (nets : List Net) (c : ℕ) → may_be_clock nets c ≡ true → (o : Option ℕ) →
    is_bit c o ≡ if_there false (λ e. may_be_clock nets e && is_bit e (Some c)) o
timed_by nets c may None = refl
timed_by nets c may (Some e) = elim (eqb_tells e c) [
  | inl k ↦ ap (λ t. t && (e == c)) (sym (ap (may_be_clock nets) k.1 ∙ may))
      ∙ ap (λ t. may_be_clock nets e && t) (turned e c)
  | inr k ↦ k.0 ∙ sym (ap (λ t. may_be_clock nets e && t) (turned c e ∙ k.0) ∙ and_false (may_be_clock nets e))
]

-- one that may be none is reached by no event
never_timed : (nets : List Net) (c : ℕ) → may_be_clock nets c ≡ false → (o : Option ℕ) →
    if_there false (λ e. may_be_clock nets e && is_bit e (Some c)) o ≡ false
never_timed nets c not_may None = refl
never_timed nets c not_may (Some e) = elim (eqb_tells e c) [
  | inl k ↦ ap (λ t. t && (c == e)) (ap (may_be_clock nets) k.1 ∙ not_may)
  | inr k ↦ ap (λ t. may_be_clock nets e && t) (turned c e ∙ k.0) ∙ and_false (may_be_clock nets e)
]

no_clock : (nets : List Net) (o : Option ℕ) → if_there false (λ e. may_be_clock nets e && is_bit e None) o ≡ false
no_clock nets None = refl
no_clock nets (Some e) = and_false (may_be_clock nets e)

pub class_of_clock : (nets : List Net) (copies class : List (Option ℕ)) (c : ℕ) → may_be_clock nets c ≡ true →
    IsClass copies c class → IsEventClass nets copies (Some c) class
class_of_clock nets copies class c may is = record {
  size = is.size;
  each = λ b lt. is.each b lt ∙ timed_by nets c may (ends copies b);
}

none_marked : (n b : ℕ) → is_some (mark_of (replicate n None) b) ≡ false
none_marked zero b = refl
none_marked (suc n) zero = refl
none_marked (suc n) (suc b) = none_marked n b

nothing_marked : (class : List (Option ℕ)) (n b : ℕ) → class ≡ replicate n None → is_some (mark_of class b) ≡ false
nothing_marked class n b is = ap (λ (xs : List (Option ℕ)). is_some (mark_of xs b)) is ∙ none_marked n b

nothing_long : (class : List (Option ℕ)) (n : ℕ) → class ≡ replicate n None → length class ≡ n
nothing_long class n is = ap (λ (xs : List (Option ℕ)). length xs) is ∙ length-replicate n None

pub class_of_none : (nets : List Net) (copies class : List (Option ℕ)) → class ≡ replicate (length copies) None →
    IsEventClass nets copies None class
class_of_none nets copies class is = record {
  size = nothing_long class (length copies) is;
  each = λ b lt. nothing_marked class (length copies) b is ∙ sym (no_clock nets (ends copies b));
}

pub class_of_other : (nets : List Net) (copies class : List (Option ℕ)) (c : ℕ) → may_be_clock nets c ≡ false →
    class ≡ replicate (length copies) None → IsEventClass nets copies (Some c) class
class_of_other nets copies class c not_may is = record {
  size = nothing_long class (length copies) is;
  each = λ b lt. nothing_marked class (length copies) b is ∙ sym (never_timed nets c not_may (ends copies b));
}

-- ---- the events of a design

module _ (n : Parts) (copies : List (Option ℕ)) (are : AreCopies n copies) where
  end_is : (b : ℕ) → b < bits_of n.nets → ends copies b ≡ end_of (design_of n).copy_of (bits_of n.nets) b
  end_is b lt =
      ap (λ m. end_of (mark_of copies) m b) are.size
      ∙ ends_same (mark_of copies) (design_of n).copy_of (bits_of n.nets) are.each
      (λ x d lx e. (let s = are.size in let w = are.within x d (omega (arith, lx, s)) e in omega (arith, w, s)))
      (bits_of n.nets) b lt

  end_in_is : (e : Option ℕ) → IsThere (bits_of n.nets) e → if_there None (ends copies) e ≡ end_in (design_of n) e
  end_in_is None h = refl
  end_in_is (Some b) h = end_is b h

  pub clock_is : (es : List (Option ℕ)) → All (IsThere (bits_of n.nets)) es →
      clock_end copies es ≡ first_end (design_of n) es
  clock_is [] h = refl
  clock_is (e ∷ es) h = end_in_is e (All-head (IsThere (bits_of n.nets)) e es h)

  module _ (clock : Option ℕ) (class : List (Option ℕ)) (is : IsEventClass (nets_of n.nets) copies clock class) where
    marked_is : (e : Option ℕ) → IsThere (bits_of n.nets) e →
        if_there false (λ b. is_some (mark_of class b)) e ≡ is_event (design_of n) clock e
    marked_is None h = refl
    marked_is (Some b) h =
        is.each b (let s = are.size in omega (arith, h, s))
        ∙ ap (λ o. if_there false (λ c. may_be_clock (nets_of n.nets) c && is_bit c clock) o) (end_is b h)

    pub unmarked_is : (es : List (Option ℕ)) → All (IsThere (bits_of n.nets)) es →
        first_unmarked class es ≡ first_found (λ e. if is_event (design_of n) clock e then None else e) es
    unmarked_is [] h = refl
    unmarked_is (e ∷ es) h =
        ap (λ t. option_or (cond {A = Option ℕ} t None e) (first_unmarked class es))
        (marked_is e (All-head (IsThere (bits_of n.nets)) e es h))
        ∙ ap (λ o. option_or (cond {A = Option ℕ} (is_event (design_of n) clock e) None e) o)
        (unmarked_is es (All-tail (IsThere (bits_of n.nets)) e es h))
