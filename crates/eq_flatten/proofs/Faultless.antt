-- What a module in which nothing is wrong has: its expressions can become words.
use Rattle.std.proofs.Common.{◌≡◌, ℕ, ◌+◌, ◌-◌, ◌*◌, ◌≤◌, max, nat_lt, Bool, true, false, not, ◌||◌, cond, List, [], ◌∷◌, ◌++◌, Option, Some, None, bytes_eq, refl, arith, sym, ap, ap₂, subst, ◌∙◌, inl, inr}
use Rattle.std.specs.Option.{option_or}
use Rattle.std.proofs.lemmas.Bool.{cases_lt}
use Rattle.std.proofs.lemmas.List.Folds.{list_any-append}
use Rattle.std.proofs.lemmas.Slice.Eq.{bytes_eq-Decides}
use Rattle.eq_model.specs.Nets.{range_width}
use Rattle.eq_net.specs.declared.types.NetInfo.{NetInfo}
use Rattle.eq_net.specs.Meaning.{if_there}
use Rattle.eq_verilog.specs.Trees.{Name, ExprTree, const, net, bit, part, empty, joined, repeated, unary, binary, choice, ModuleTree}
use Rattle.eq_verilog.specs.Scopes.{Scope, is_select, position, span, width}
use Rattle.eq_verilog.specs.Sizes.{unary_form, unary_own, sizing, binary_own, own}
use Rattle.eq_verilog.specs.Declarations.{has, names_in, nets_in, range_of}
use Rattle.eq_verilog.specs.Nets.{module_scope}
use Rattle.eq_verilog.specs.Firsts.{unless}
use Rattle.eq_verilog.specs.Expressions.{selected, wire}
use Rattle.eq_verilog.specs.TargetRefusals.{bad_leaf, is_target, leaves}
use Rattle.eq_verilog.specs.ModuleRefusals.{bad_range_in, bad_size, most_size}
use Rattle.eq_analysis.specs.Finding.{scope_of}
use Rattle.eq_analysis.specs.Measuring.{IsFit, IsSmall}
use Rattle.eq_flatten.specs.Items.{IsSource, IsTarget}
use Rattle.eq_flatten.specs.Meant.{AreSlim}
use Rattle.eq_flatten.specs.Spelled.{HasSizes}
use Rattle.eq_flatten.specs.inner.Faultless.{AreNetsOf, HasNames}
use Rattle.eq_flatten.proofs.ApartLemmas.{apart_alone}
use Rattle.eq_flatten.proofs.Selecting.{select_inside}
use Rattle.eq_flatten.proofs.Listing.{first_false, first_true}
use Rattle.eq_flatten.proofs.Truths.{and_true, none_some, or_left, or_none, or_right, unless_none}

-- ---- names of parts

pub in_front : (xs ys : List Name) (n : Name) → has xs n ≡ true → has (xs ++ ys) n ≡ true
in_front xs ys n h = list_any-append (bytes_eq n) xs ys ∙ or_left (has xs n) (has ys n) h

pub in_back : (xs ys : List Name) (n : Name) → has ys n ≡ true → has (xs ++ ys) n ≡ true
in_back xs ys n h = list_any-append (bytes_eq n) xs ys ∙ or_right (has xs n) (has ys n) h

pub first_name : (n : Name) (ns : List Name) → has (n ∷ ns) n ≡ true
first_name n ns = or_left (bytes_eq n n) (has ns n) ((bytes_eq-Decides n n).1 refl)

none_true : true ≡ false → ⊥
none_true e = absurd (cc)

-- a size that isn't bad
size_fits : (m : ModuleTree) (e : ExprTree) → bad_size m false e ≡ None → own (module_scope m) e ≤ most_size
size_fits m e h = elim (cases_lt most_size (own (module_scope m) e)) [
  | inl more ↦
      let t = unless_none (false || not (nat_lt most_size (own (module_scope m) e))) m.name h in
      let u = ap (λ (b : Bool). not b) (first_true most_size (own (module_scope m) e) more) in
      absurd (none_true (sym t ∙ u))
  | inr most ↦ most
]

-- ---- sizes by ranges alone

module _ (s r : Scope) where
  own_alike : (e : ExprTree) → ((n : Name) → has (names_in e) n ≡ true → s.range n ≡ r.range n) → own s e ≡ own r e
  own_alike (const c) h = refl
  own_alike (net n) h = ap range_width (h n (first_name n []))
  own_alike (bit n i) h = refl
  own_alike (part n a b) h = refl
  own_alike empty h = refl
  own_alike (joined a b) h =
      ap₂ (λ m n. m + n) (own_alike a (λ n i. h n (in_front (names_in a) (names_in b) n i)))
      (own_alike b (λ n i. h n (in_back (names_in a) (names_in b) n i)))
  own_alike (repeated n a) h = ap (λ m. n * m) (own_alike a h)
  own_alike (unary op a) h = ap (unary_own (unary_form op)) (own_alike a h)
  own_alike (binary op a b) h =
      ap₂ (binary_own (sizing op)) (own_alike a (λ n i. h n (in_front (names_in a) (names_in b) n i)))
      (own_alike b (λ n i. h n (in_back (names_in a) (names_in b) n i)))
  own_alike (choice c a b) h =
      ap₂ (λ m n. max m n)
      (own_alike a (λ n i. h n (in_front (names_in c ++ names_in a) (names_in b) n (in_back (names_in c) (names_in a) n i))))
      (own_alike b (λ n i. h n (in_back (names_in c ++ names_in a) (names_in b) n i)))

module _ (m : ModuleTree) (nets : List NetInfo) (from : ℕ) (own_nets : AreNetsOf m nets from) where
  abbrev s : Scope
  s = scope_of nets (nets_in m) from

  pub sizes : (e : ExprTree) → HasNames m e → own s e ≡ own (module_scope m) e
  sizes e named = own_alike s (module_scope m) e (λ n i. own_nets.range n (named n i))

  -- an expression whose parts are in range has nets and selects
  pub fit_in : (t : Bool) (e : ExprTree) → HasNames m e → bad_range_in m t e ≡ None → IsFit nets (nets_in m) from e
  fit_in t (const c) named h = tt
  fit_in t (net n) named h = own_nets.there n (named n (first_name n []))
  fit_in t (bit n i) named h = (
    own_nets.there n (named n (first_name n [])),
    ap (λ o. is_select o i i) (own_nets.range n (named n (first_name n []))) ∙ unless_none (is_select (range_of m n) i i) n h,
  )
  fit_in t (part n l r) named h = (
    own_nets.there n (named n (first_name n [])),
    ap (λ o. is_select o l r) (own_nets.range n (named n (first_name n [])))
        ∙ unless_none (is_select (range_of m n) l r) n
        (or_none (unless (is_select (range_of m n) l r) n) (bad_size m t (part n l r)) h).0,
  )
  fit_in t empty named h = tt
  fit_in t (joined a b) named h =
      let one = or_none (bad_size m t (joined a b)) (option_or (bad_range_in m t a) (option_or (bad_range_in m t b) None)) h in
      let two = or_none (bad_range_in m t a) (option_or (bad_range_in m t b) None) one.1 in
      let three = or_none (bad_range_in m t b) None two.1 in (
        fit_in t a (λ n i. named n (in_front (names_in a) (names_in b) n i)) two.0,
        fit_in t b (λ n i. named n (in_back (names_in a) (names_in b) n i)) three.0,
      )
  fit_in t (repeated k a) named h =
      let one = or_none (bad_size m t (repeated k a)) (option_or (unless (nat_lt 0 k) m.name) (option_or (bad_range_in m t a) None)) h in
      let two = or_none (unless (nat_lt 0 k) m.name) (option_or (bad_range_in m t a) None) one.1 in
      fit_in t a named (or_none (bad_range_in m t a) None two.1).0
  fit_in t (unary op a) named h =
      let one = or_none (bad_size m t (unary op a)) (option_or (bad_range_in m t a) None) h in
      fit_in t a named (or_none (bad_range_in m t a) None one.1).0
  fit_in t (binary op a b) named h =
      let one = or_none (bad_size m t (binary op a b)) (option_or (bad_range_in m t a) (option_or (bad_range_in m t b) None)) h in
      let two = or_none (bad_range_in m t a) (option_or (bad_range_in m t b) None) one.1 in
      let three = or_none (bad_range_in m t b) None two.1 in (
        fit_in t a (λ n i. named n (in_front (names_in a) (names_in b) n i)) two.0,
        fit_in t b (λ n i. named n (in_back (names_in a) (names_in b) n i)) three.0,
      )
  fit_in t (choice c a b) named h =
      let one = or_none (bad_size m t (choice c a b))
      (option_or (bad_range_in m t c) (option_or (bad_range_in m t a) (option_or (bad_range_in m t b) None))) h in
      let two = or_none (bad_range_in m t c) (option_or (bad_range_in m t a) (option_or (bad_range_in m t b) None)) one.1 in
      let three = or_none (bad_range_in m t a) (option_or (bad_range_in m t b) None) two.1 in
      let four = or_none (bad_range_in m t b) None three.1 in (
        fit_in t c (λ n i. named n (in_front (names_in c ++ names_in a) (names_in b) n (in_front (names_in c) (names_in a) n i))) two.0,
        fit_in t a (λ n i. named n (in_front (names_in c ++ names_in a) (names_in b) n (in_back (names_in c) (names_in a) n i))) three.0,
        fit_in t b (λ n i. named n (in_back (names_in c ++ names_in a) (names_in b) n i)) four.0,
      )

  -- and is small
  fits : (e : ExprTree) → HasNames m e → bad_size m false e ≡ None → own s e ≤ most_size
  fits e named h = subst (λ k. k ≤ most_size) (sym (sizes e named)) (size_fits m e h)

  pub small_in : (e : ExprTree) → HasNames m e → HasSizes e → bad_range_in m false e ≡ None → IsSmall s e
  small_in (const c) named sized h = sized
  small_in (net n) named sized h = fits (net n) named h
  small_in (bit n i) named sized h = tt
  small_in (part n l r) named sized h =
      let parts = or_none (unless (is_select (range_of m n) l r) n) (bad_size m false (part n l r)) h in (
        fits (part n l r) named parts.1,
        subst (λ o. range_width o ≤ most_size) (sym (own_nets.range n (named n (first_name n []))))
            (let w = own_nets.narrow n (named n (first_name n [])) in omega (arith, w)),
      )
  small_in empty named sized h = tt
  small_in (joined a b) named sized h =
      let one = or_none (bad_size m false (joined a b)) (option_or (bad_range_in m false a) (option_or (bad_range_in m false b) None)) h in
      let two = or_none (bad_range_in m false a) (option_or (bad_range_in m false b) None) one.1 in
      let three = or_none (bad_range_in m false b) None two.1 in (
        fits (joined a b) named one.0,
        small_in a (λ n i. named n (in_front (names_in a) (names_in b) n i)) sized.0 two.0,
        small_in b (λ n i. named n (in_back (names_in a) (names_in b) n i)) sized.1 three.0,
      )
  small_in (repeated k a) named sized h =
      let one = or_none (bad_size m false (repeated k a)) (option_or (unless (nat_lt 0 k) m.name) (option_or (bad_range_in m false a) None)) h in
      let two = or_none (unless (nat_lt 0 k) m.name) (option_or (bad_range_in m false a) None) one.1 in (
        fits (repeated k a) named one.0,
        small_in a named sized (or_none (bad_range_in m false a) None two.1).0,
      )
  small_in (unary op a) named sized h =
      let one = or_none (bad_size m false (unary op a)) (option_or (bad_range_in m false a) None) h in
      small_in a named sized (or_none (bad_range_in m false a) None one.1).0
  small_in (binary op a b) named sized h =
      let one = or_none (bad_size m false (binary op a b)) (option_or (bad_range_in m false a) (option_or (bad_range_in m false b) None)) h in
      let two = or_none (bad_range_in m false a) (option_or (bad_range_in m false b) None) one.1 in
      let three = or_none (bad_range_in m false b) None two.1 in (
        small_in a (λ n i. named n (in_front (names_in a) (names_in b) n i)) sized.0 two.0,
        small_in b (λ n i. named n (in_back (names_in a) (names_in b) n i)) sized.1 three.0,
      )
  small_in (choice c a b) named sized h =
      let one = or_none (bad_size m false (choice c a b))
      (option_or (bad_range_in m false c) (option_or (bad_range_in m false a) (option_or (bad_range_in m false b) None))) h in
      let two = or_none (bad_range_in m false c) (option_or (bad_range_in m false a) (option_or (bad_range_in m false b) None)) one.1 in
      let three = or_none (bad_range_in m false a) (option_or (bad_range_in m false b) None) two.1 in
      let four = or_none (bad_range_in m false b) None three.1 in (
        small_in c (λ n i. named n (in_front (names_in c ++ names_in a) (names_in b) n (in_front (names_in c) (names_in a) n i))) sized.0 two.0,
        small_in a (λ n i. named n (in_front (names_in c ++ names_in a) (names_in b) n (in_back (names_in c) (names_in a) n i))) sized.1.0 three.0,
        small_in b (λ n i. named n (in_back (names_in c ++ names_in a) (names_in b) n i)) sized.1.1 four.0,
      )

  -- ---- targets

  slim_net : (n : Name) → has (nets_in m) n ≡ true → width s n ≤ most_size
  slim_net n member =
      subst (λ o. range_width o ≤ most_size) (sym (own_nets.range n member))
      (let w = own_nets.narrow n member in omega (arith, w))

  -- no net of a target is too large
  slim_in : (u : Bool) (t : ExprTree) → is_target t ≡ true → HasNames m t → bad_range_in m u t ≡ None → AreSlim s t
  slim_in u (const c) is named h = absurd (cc)
  slim_in u (net n) is named h = slim_net n (named n (first_name n []))
  slim_in u (bit n i) is named h = tt
  slim_in u (part n l r) is named h =
      let inside = unless_none (is_select (range_of m n) l r) n
      (or_none (unless (is_select (range_of m n) l r) n) (bad_size m u (part n l r)) h).0 in
      let fits = select_inside (range_of m n) l r inside in
      let narrow = own_nets.narrow n (named n (first_name n [])) in
      (omega (arith, fits, narrow), slim_net n (named n (first_name n [])))
  slim_in u empty is named h = tt
  slim_in u (joined a b) is named h =
      let both = and_true (is_target a) (is_target b) is in
      let one = or_none (bad_size m u (joined a b)) (option_or (bad_range_in m u a) (option_or (bad_range_in m u b) None)) h in
      let two = or_none (bad_range_in m u a) (option_or (bad_range_in m u b) None) one.1 in
      let three = or_none (bad_range_in m u b) None two.1 in (
        slim_in u a both.0 (λ n i. named n (in_front (names_in a) (names_in b) n i)) two.0,
        slim_in u b both.1 (λ n i. named n (in_back (names_in a) (names_in b) n i)) three.0,
      )
  slim_in u (repeated k a) is named h = absurd (cc)
  slim_in u (unary op a) is named h = absurd (cc)
  slim_in u (binary op a b) is named h = absurd (cc)
  slim_in u (choice c a b) is named h = absurd (cc)

  -- a bit of a target, in its module alone
  record Alone (t : ExprTree) (j b : ℕ) : Type 0 where
    bit_there : ℕ
    here : wire (module_scope m) t j ≡ Some bit_there
    is : b ≡ own_nets.start + bit_there

  alone_leaf : (n : Name) (p q k l : ℕ) (t : ExprTree) (j b : ℕ) → has (nets_in m) n ≡ true → p ≡ q → k ≡ l
      → wire s t j ≡ selected s n p k j → wire (module_scope m) t j ≡ selected (module_scope m) n q l j
      → wire s t j ≡ Some b → Alone t j b
  alone_leaf n p q k l t j b member same size one other is = elim (cases_lt j k) [
    | inl less ↦
        let mine = sym (ap (λ t. cond t (Some (s.first n + (p + j))) None) (first_true j k less)) ∙ sym one ∙ is in
        let value : s.first n + (p + j) ≡ b = ap (λ (o : Option ℕ). if_there 0 (λ x. x) o) mine in
        let first = own_nets.first n member in
        record {
          bit_there = (module_scope m).first n + (q + j);
          here = other ∙ ap (λ t. cond t (Some ((module_scope m).first n + (q + j))) None)
              (first_true j l (omega (arith, less, size)));
          is = omega (arith, value, first, same);
        }
    | inr more ↦
        let mine = sym (ap (λ t. cond t (Some (s.first n + (p + j))) None) (first_false j k more)) ∙ sym one ∙ is in
        absurd (none_some b mine)
  ]

  alone_bit : (t : ExprTree) → is_target t ≡ true → HasNames m t → (j b : ℕ) → wire s t j ≡ Some b → Alone t j b
  alone_bit (const c) is named j b here = absurd (cc)
  alone_bit (net n) is named j b here =
      let member = named n (first_name n []) in
      alone_leaf n 0 0 (width s n) (width (module_scope m) n) (net n) j b member refl
      (ap range_width (own_nets.range n member)) refl refl here
  alone_bit (bit n i) is named j b here =
      let member = named n (first_name n []) in
      alone_leaf n (position (s.range n) i) (position ((module_scope m).range n) i) 1 1 (bit n i) j b member
      (ap (λ o. position o i) (own_nets.range n member)) refl refl refl here
  alone_bit (part n l r) is named j b here =
      let member = named n (first_name n []) in
      alone_leaf n (position (s.range n) r) (position ((module_scope m).range n) r) (span l r) (span l r) (part n l r) j b
      member (ap (λ o. position o r) (own_nets.range n member)) refl refl refl here
  alone_bit empty is named j b here = absurd (none_some b here)
  alone_bit (joined x y) is named j b here =
      let both = and_true (is_target x) (is_target y) is in
      let in_x : HasNames m x = λ n i. named n (in_front (names_in x) (names_in y) n i) in
      let in_y : HasNames m y = λ n i. named n (in_back (names_in x) (names_in y) n i) in
      let size = sizes y in_y in
      elim (cases_lt j (own s y)) [
        | inl low ↦
            let h = alone_bit y both.1 in_y j b
            (sym (ap (λ t. cond t (wire s y j) (wire s x (j - own s y))) (first_true j (own s y) low)) ∙ here) in
            record {
              bit_there = h.bit_there;
              here = ap (λ t. cond t (wire (module_scope m) y j) (wire (module_scope m) x (j - own (module_scope m) y)))
                  (first_true j (own (module_scope m) y) (omega (arith, low, size))) ∙ h.here;
              is = h.is;
            }
        | inr high ↦
            let h = alone_bit x both.0 in_x (j - own s y) b
            (sym (ap (λ t. cond t (wire s y j) (wire s x (j - own s y))) (first_false j (own s y) high)) ∙ here) in
            record {
              bit_there = h.bit_there;
              here = ap (λ t. cond t (wire (module_scope m) y j) (wire (module_scope m) x (j - own (module_scope m) y)))
                  (first_false j (own (module_scope m) y) (omega (arith, high, size)))
                  ∙ ap (λ k. wire (module_scope m) x (j - k)) (sym size) ∙ h.here;
              is = h.is;
            }
      ]
  alone_bit (repeated k a) is named j b here = absurd (cc)
  alone_bit (unary op a) is named j b here = absurd (cc)
  alone_bit (binary op x y) is named j b here = absurd (cc)
  alone_bit (choice c x y) is named j b here = absurd (cc)

  -- a target of an equation is ready
  pub target_ready : (u : Bool) (right : Name → Bool) (t : ExprTree) → is_target t ≡ true → HasNames m t →
      bad_range_in m u t ≡ None → bad_leaf m right [] (leaves t) ≡ None → IsTarget nets (nets_in m) from t
  target_ready u right t is named range none = record {
    fit = fit_in u t named range;
    slim = slim_in u t is named range;
    apart = λ i j b one other.
        let x = alone_bit t is named i b one in
        let y = alone_bit t is named j b other in
        let a = x.is in
        let c = y.is in
        apart_alone m right t is none i j x.bit_there x.here
        (y.here ∙ ap (λ k. Some k) (let e : y.bit_there ≡ x.bit_there = omega (arith, a, c) in e));
  }

  pub source_ready : (e : ExprTree) → HasNames m e → HasSizes e → bad_range_in m false e ≡ None →
      IsSource nets (nets_in m) from e
  source_ready e named sized range = record { fit = fit_in false e named range; small = small_in e named sized range }
