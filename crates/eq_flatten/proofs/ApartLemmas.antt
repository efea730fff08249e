-- The target of an equation that isn't refused has no bit twice, and no net that is too large.
use Rattle.std.proofs.Common.{◌≡◌, ℕ, zero, suc, ◌+◌, ◌-◌, ◌<◌, ◌≤◌, Bool, true, false, not, ◌&&◌, ◌||◌, ◌==◌, cond, List, [], ◌∷◌, ◌++◌, Option, Some, None, refl, arith, sym, ap, subst, ◌∙◌, inl, inr}
use Rattle.std.specs.List.{list_any}
use Rattle.std.proofs.lemmas.Bool.{cases_Bool, cases_lt}
use Rattle.std.proofs.lemmas.Bool.Decides.{Decides-eqb}
use Rattle.std.proofs.lemmas.List.{append_assoc, append-nil}
use Rattle.std.proofs.lemmas.List.Folds.{list_any-append}
use Rattle.eq_net.specs.Meaning.{if_there}
use Rattle.eq_verilog.specs.Trees.{Name, ExprTree, const, net, bit, part, empty, joined, repeated, unary, binary, choice, ModuleTree}
use Rattle.eq_verilog.specs.Scopes.{Scope, position, span, width}
use Rattle.eq_verilog.specs.Sizes.{own}
use Rattle.eq_verilog.specs.Expressions.{selected, wire}
use Rattle.eq_verilog.specs.Costs.{bits_below, bits_in, has_bit}
use Rattle.eq_verilog.specs.Declarations.{names_in}
use Rattle.eq_verilog.specs.Nets.{module_scope}
use Rattle.eq_verilog.specs.Firsts.{first_found, unless}
use Rattle.eq_verilog.specs.TargetRefusals.{bad_leaf, is_target, leaves, overlaps}
use Rattle.eq_flatten.specs.Driving.{IsApart}
use Rattle.eq_flatten.proofs.Listing.{first_false, first_true}
use Rattle.eq_flatten.proofs.Truths.{and_true, none_some, not_true, or_false, or_left, or_none, or_right, true_false, unless_none}

-- ---- the bits of a function's values

has_more : (b c : ℕ) (bs : List ℕ) → has_bit bs b ≡ true → has_bit (c ∷ bs) b ≡ true
has_more b c bs h = or_right (c == b) (has_bit bs b) h

below_step : (n : ℕ) (f : ℕ → Option ℕ) (b : ℕ) (o : Option ℕ) → f n ≡ o → has_bit (bits_below n f) b ≡ true →
    has_bit (bits_below (suc n) f) b ≡ true
below_step n f b None is h =
    ap (λ (o : Option ℕ). has_bit (if_there (bits_below n f) (λ c. c ∷ bits_below n f) o) b) is ∙ h
below_step n f b (Some c) is h =
    ap (λ (o : Option ℕ). has_bit (if_there (bits_below n f) (λ x. x ∷ bits_below n f) o) b) is
    ∙ has_more b c (bits_below n f) h

-- a value at a position below n is among the bits
among : (n : ℕ) (f : ℕ → Option ℕ) (j b : ℕ) → j < n → f j ≡ Some b → has_bit (bits_below n f) b ≡ true
among zero f j b less is = absurd (omega (arith, less))
among (suc n) f j b less is = elim (cases_lt j n) [
  | inl below ↦ below_step n f b (f n) refl (among n f j b below is)
  | inr last ↦
      let same : j ≡ n = omega (arith, less, last) in
      let here : f n ≡ Some b = ap f (sym same) ∙ is in
      ap (λ (o : Option ℕ). has_bit (if_there (bits_below n f) (λ x. x ∷ bits_below n f) o) b) here
      ∙ or_left (b == b) (has_bit (bits_below n f) b) ((Decides-eqb b b).1 refl)
]

selected_less : (s : Scope) (n : Name) (p k j b : ℕ) → selected s n p k j ≡ Some b → (j < k) × (b ≡ s.first n + (p + j))
selected_less s n p k j b is = elim (cases_lt j k) [
  | inl less ↦
      let e = sym (ap (λ t. cond t (Some (s.first n + (p + j))) None) (first_true j k less)) ∙ is in
      (less, sym (ap (λ (o : Option ℕ). if_there 0 (λ x. x) o) e))
  | inr more ↦
      let e = sym (ap (λ t. cond t (Some (s.first n + (p + j))) None) (first_false j k more)) ∙ is in
      absurd (none_some b e)
]

selected_apart : (s : Scope) (n : Name) (p k : ℕ) → IsApart (selected s n p k)
selected_apart s n p k i j b one other =
    (let a = (selected_less s n p k i b one).1 in
    let c = (selected_less s n p k j b other).1 in
    omega (arith, a, c))

-- all that is seen behind a target
abbrev behind : ModuleTree → List ℕ → ExprTree → List ℕ
behind m seen (net n) = bits_in (module_scope m) (net n) ++ seen
behind m seen (bit n i) = bits_in (module_scope m) (bit n i) ++ seen
behind m seen (part n l r) = bits_in (module_scope m) (part n l r) ++ seen
behind m seen (joined a b) = behind m (behind m seen a) b
behind m seen _ = seen

-- what is known of a target behind others
record IsClear (m : ModuleTree) (right : Name → Bool) (seen : List ℕ) (t : ExprTree) (rest : List ExprTree) : Type 0 where
  apart : IsApart (wire (module_scope m) t)
  new : (j b : ℕ) → wire (module_scope m) t j ≡ Some b → has_bit seen b ≡ false
  small : (j b : ℕ) → wire (module_scope m) t j ≡ Some b → j < own (module_scope m) t
  seen_then : (j b : ℕ) → wire (module_scope m) t j ≡ Some b → has_bit (behind m seen t) b ≡ true
  seen_still : (b : ℕ) → has_bit seen b ≡ true → has_bit (behind m seen t) b ≡ true
  goes_on : bad_leaf m right (behind m seen t) rest ≡ None

no_overlap : (seen bs : List ℕ) (b : ℕ) → list_any (has_bit seen) bs ≡ false → has_bit bs b ≡ true → has_bit seen b ≡ false
no_overlap seen [] b none h = absurd (cc)
no_overlap seen (c ∷ cs) b none h = elim (cases_Bool (c == b)) [
  | inl same ↦
      let e : c ≡ b = (Decides-eqb c b).0 same in
      ap (λ x. has_bit seen x) (sym e) ∙ (or_false (has_bit seen c) (list_any (has_bit seen) cs) none).0
  | inr other ↦
      no_overlap seen cs b (or_false (has_bit seen c) (list_any (has_bit seen) cs) none).1
      (sym (ap (λ t. t || has_bit cs b) other) ∙ h)
]

module _ (m : ModuleTree) (right : Name → Bool) where
  abbrev r : Scope
  r = module_scope m

  -- a name or a select
  leaf_clear : (seen : List ℕ) (n : Name) (p k : ℕ) (e : ExprTree) (rest : List ExprTree) → names_in e ≡ n ∷ []
      → own r e ≡ k → ((j : ℕ) → wire r e j ≡ selected r n p k j)
      → bad_leaf m right seen (e ∷ rest) ≡ None
      → IsApart (wire r e) × ((j b : ℕ) → wire r e j ≡ Some b → has_bit seen b ≡ false)
      × ((j b : ℕ) → wire r e j ≡ Some b → j < own r e)
      × ((j b : ℕ) → wire r e j ≡ Some b → has_bit (bits_in r e ++ seen) b ≡ true)
      × ((b : ℕ) → has_bit seen b ≡ true → has_bit (bits_in r e ++ seen) b ≡ true)
      × (bad_leaf m right (bits_in r e ++ seen) rest ≡ None)
  leaf_clear seen n p k e rest names size wires none =
      let parts = or_none (first_found (λ x. unless (right x && not (overlaps m seen e)) x) (names_in e))
      (bad_leaf m right (bits_in r e ++ seen) rest) none in
      let one = subst (λ (ns : List Name). first_found (λ x. unless (right x && not (overlaps m seen e)) x) ns ≡ None)
      names parts.0 in
      let fine = unless_none (right n && not (overlaps m seen e)) n
      (or_none (unless (right n && not (overlaps m seen e)) n) None one).0 in
      let clear : overlaps m seen e ≡ false = not_true (overlaps m seen e) (and_true (right n) (not (overlaps m seen e)) fine).1 in
      let less : (j b : ℕ) → wire r e j ≡ Some b → j < own r e =
      λ j b is. subst (λ w. j < w) (sym size) (selected_less r n p k j b (sym (wires j) ∙ is)).0 in
      let member : (j b : ℕ) → wire r e j ≡ Some b → has_bit (bits_in r e) b ≡ true =
      λ j b is. among (own r e) (wire r e) j b (less j b is) is in (
        λ i j b one other. selected_apart r n p k i j b (sym (wires i) ∙ one) (sym (wires j) ∙ other),
        λ j b is. no_overlap seen (bits_in r e) b clear (member j b is),
        less,
        λ j b is. list_any-append (λ c. c == b) (bits_in r e) seen ∙ or_left (has_bit (bits_in r e) b) (has_bit seen b) (member j b is),
        λ b h. list_any-append (λ c. c == b) (bits_in r e) seen ∙ or_right (has_bit (bits_in r e) b) (has_bit seen b) h,
        parts.1,
      )

  clear : (t : ExprTree) (seen : List ℕ) (rest : List ExprTree) → is_target t ≡ true →
      bad_leaf m right seen (leaves t ++ rest) ≡ None → IsClear m right seen t rest
  clear (const c) seen rest is none = absurd (cc)
  clear (net n) seen rest is none =
      let h = leaf_clear seen n 0 (width r n) (net n) rest refl refl (λ j. refl) none in
      record { apart = h.0; new = h.1; small = h.2; seen_then = h.3; seen_still = h.4; goes_on = h.5 }
  clear (bit n i) seen rest is none =
      let h = leaf_clear seen n (position (r.range n) i) 1 (bit n i) rest refl refl (λ j. refl) none in
      record { apart = h.0; new = h.1; small = h.2; seen_then = h.3; seen_still = h.4; goes_on = h.5 }
  clear (part n a b) seen rest is none =
      let h = leaf_clear seen n (position (r.range n) b) (span a b) (part n a b) rest refl refl (λ j. refl) none in
      record { apart = h.0; new = h.1; small = h.2; seen_then = h.3; seen_still = h.4; goes_on = h.5 }
  clear empty seen rest is none = record {
    apart = λ i j b one other. absurd (none_some b one);
    new = λ j b one. absurd (none_some b one);
    small = λ j b one. absurd (none_some b one);
    seen_then = λ j b one. absurd (none_some b one);
    seen_still = λ b h. h;
    goes_on = none;
  }
  clear (joined a b) seen rest is none =
      let both = and_true (is_target a) (is_target b) is in
      let one = clear a seen (leaves b ++ rest) both.0
      (sym (ap (λ (es : List ExprTree). bad_leaf m right seen es) (append_assoc (leaves a) (leaves b) rest)) ∙ none) in
      let other = clear b (behind m seen a) rest both.1 one.goes_on in
      let in_b : (j c : ℕ) → j < own r b → wire r (joined a b) j ≡ Some c → wire r b j ≡ Some c =
      λ j c less is. sym (ap (λ t. cond t (wire r b j) (wire r a (j - own r b))) (first_true j (own r b) less)) ∙ is in
      let in_a : (j c : ℕ) → own r b ≤ j → wire r (joined a b) j ≡ Some c → wire r a (j - own r b) ≡ Some c =
      λ j c more is. sym (ap (λ t. cond t (wire r b j) (wire r a (j - own r b))) (first_false j (own r b) more)) ∙ is in
      let cross : (i j c : ℕ) → wire r b i ≡ Some c → wire r a j ≡ Some c → ⊥ =
      λ i j c low high. true_false (has_bit (behind m seen a) c) (one.seen_then j c high) (other.new i c low) in
      record {
        apart = λ i j c first second. elim (cases_lt i (own r b)) [
          | inl i_low ↦ elim (cases_lt j (own r b)) [
            | inl j_low ↦ other.apart i j c (in_b i c i_low first) (in_b j c j_low second)
            | inr j_high ↦ absurd (cross i (j - own r b) c (in_b i c i_low first) (in_a j c j_high second))
          ]
          | inr i_high ↦ elim (cases_lt j (own r b)) [
            | inl j_low ↦ absurd (cross j (i - own r b) c (in_b j c j_low second) (in_a i c i_high first))
            | inr j_high ↦
                let e = one.apart (i - own r b) (j - own r b) c (in_a i c i_high first) (in_a j c j_high second) in
                omega (arith, e, i_high, j_high)
          ]
        ];
        new = λ j c here. elim (cases_lt j (own r b)) [
          | inl low ↦ not_seen seen a c one (other.new j c (in_b j c low here))
          | inr high ↦ one.new (j - own r b) c (in_a j c high here)
        ];
        small = λ j c here. elim (cases_lt j (own r b)) [
          | inl low ↦ omega (arith, low)
          | inr high ↦ (let k = one.small (j - own r b) c (in_a j c high here) in omega (arith, k, high))
        ];
        seen_then = λ j c here. elim (cases_lt j (own r b)) [
          | inl low ↦ other.seen_then j c (in_b j c low here)
          | inr high ↦ other.seen_still c (one.seen_then (j - own r b) c (in_a j c high here))
        ];
        seen_still = λ c h. other.seen_still c (one.seen_still c h);
        goes_on = other.goes_on;
      }
    where
      not_seen : (seen : List ℕ) (a : ExprTree) (c : ℕ) → IsClear m right seen a (leaves b ++ rest) →
          has_bit (behind m seen a) c ≡ false → has_bit seen c ≡ false
      not_seen seen a c h none = elim (cases_Bool (has_bit seen c)) [
        | inl t ↦ absurd (true_false (has_bit (behind m seen a) c) (h.seen_still c t) none)
        | inr f ↦ f
      ]
  clear (repeated n a) seen rest is none = absurd (cc)
  clear (unary op a) seen rest is none = absurd (cc)
  clear (binary op a b) seen rest is none = absurd (cc)
  clear (choice c a b) seen rest is none = absurd (cc)

  -- a target that isn't refused has no bit twice, in its module alone
  pub apart_alone : (t : ExprTree) → is_target t ≡ true → bad_leaf m right [] (leaves t) ≡ None → IsApart (wire r t)
  apart_alone t is none =
      (clear t [] [] is (ap (λ (es : List ExprTree). bad_leaf m right [] es) (append-nil (leaves t)) ∙ none)).apart
