-- The connections of an instance can become equations where its module and the one that it stands in aren't refused.
use Rattle.std.proofs.Common.{◌≡◌, ℕ, ◌≤◌, ◌&&◌, ◌||◌, Bool, true, false, not, nat_lt, cond, List, [], ◌∷◌, map, Option, Some, None, bytes_eq, refl, arith, sym, ap, subst, inl, inr}
use Rattle.std.specs.Prelude.{filter_map, find, zip}
use Rattle.std.specs.List.{list_any}
use Rattle.std.specs.Option.{option_or}
use Rattle.std.proofs.lemmas.Bool.{cases_Bool, cases_lt}
use Rattle.std.proofs.lemmas.Slice.Eq.{bytes_eq-Decides}
use Rattle.eq_model.specs.Nets.{Dir, inner, is_input, is_output, range_width}
use Rattle.eq_net.specs.declared.types.NetInfo.{NetInfo}
use Rattle.eq_net.specs.Meaning.{if_there}
use Rattle.eq_verilog.specs.Trees.{Name, ExprTree, net, NamedConnection, ConnectionList, by_order, by_name, ItemTree, declared, assign, primitive, instance, always, initial, ModuleTree}
use Rattle.eq_verilog.specs.Costs.{bits_in, has_bit}
use Rattle.eq_verilog.specs.Declarations.{Declaration, connected_exprs, declaration_in, dir_of, expression, goes_out, has, names_in, nets_in, range_of}
use Rattle.eq_verilog.specs.Equations.{Connection, connected, connections_of}
use Rattle.eq_verilog.specs.Firsts.{first_found, unless}
use Rattle.eq_verilog.specs.Hierarchy.{Path}
use Rattle.eq_verilog.specs.ModuleRefusals.{bad_range, bad_range_at, bad_range_in, bad_range_in_whole, is_same_range, most_bits, most_size}
use Rattle.eq_verilog.specs.Nets.{module_scope}
use Rattle.eq_verilog.specs.Sizes.{own}
use Rattle.eq_verilog.specs.TargetRefusals.{bad_connected, bad_leaf, bad_output, leaves}
use Rattle.eq_flatten.specs.inner.Faultless.{AreNetsOf, HasNames}
use Rattle.eq_flatten.specs.Items.{IsSource, IsTarget}
use Rattle.eq_flatten.specs.Joining.{maybe_connections}
use Rattle.eq_flatten.specs.Linking.{named_connection, ordered, AreJoined, IsJoined, IsMaybeJoined}
use Rattle.eq_flatten.specs.Spelled.{HasSizes, IsSpelled}
use Rattle.eq_flatten.proofs.Faultless.{in_back, in_front, first_name, source_ready, target_ready}
use Rattle.eq_flatten.proofs.Listing.{first_false, first_true}
use Rattle.eq_flatten.proofs.Ready.{output_ready}
use Rattle.eq_flatten.proofs.SameNamed.{kept_mapped, names_all}
use Rattle.eq_flatten.proofs.Scoped.{in_ports, IsScoped}
use Rattle.eq_flatten.proofs.Truths.{and_true, or_none, true_false, unless_none, or_no}

-- ---- the nets of an instance

most_fits : (n : ℕ) → not (nat_lt most_bits n) ≡ true → n ≤ most_bits
most_fits n h = elim (cases_lt most_bits n) [
  | inl more ↦
      let no = ap (λ (b : Bool). not b) (first_true most_bits n more) in
      absurd (true_false (not (nat_lt most_bits n)) h no)
  | inr most ↦ most
]

abbrev width_among : Name → List Declaration → ℕ
width_among n ds =
    range_width (if_there None (λ (d : Declaration). d.range) (find (λ (d : Declaration). bytes_eq n d.name) ds))

-- no net of a module in which ranges are right has too many bits
narrow_in : (m : ModuleTree) (n : Name) (is : List ItemTree) → first_found (bad_range_at m) is ≡ None →
    width_among n (filter_map declaration_in is) ≤ most_bits
narrow_in m n [] h = omega arith
narrow_in m n (declared k r x ∷ is) h =
    let parts = or_none (bad_range_at m (declared k r x)) (first_found (bad_range_at m) is) h in
    let d : Declaration = record { kind = k; range = r; name = x } in
    let others = find (λ (d : Declaration). bytes_eq n d.name) (filter_map declaration_in is) in
    elim (cases_Bool (bytes_eq n x)) [
      | inl t ↦
          let good = unless_none (is_same_range (range_of m x) r && not (nat_lt most_bits (range_width r))) x parts.0 in
          subst (λ (b : Bool). range_width (if_there None (λ (d : Declaration). d.range) (cond b (Some d) others)) ≤ most_bits) (sym t)
          (most_fits (range_width r) (and_true (is_same_range (range_of m x) r) (not (nat_lt most_bits (range_width r))) good).1)
      | inr f ↦
          subst (λ (b : Bool). range_width (if_there None (λ (d : Declaration). d.range) (cond b (Some d) others)) ≤ most_bits) (sym f)
          (narrow_in m n is parts.1)
    ]
narrow_in m n (assign t e ∷ is) h =
    narrow_in m n is (or_none (bad_range_at m (assign t e)) (first_found (bad_range_at m) is) h).1
narrow_in m n (primitive k x terms ∷ is) h =
    narrow_in m n is (or_none (bad_range_at m (primitive k x terms)) (first_found (bad_range_at m) is) h).1
narrow_in m n (instance x k conns ∷ is) h =
    narrow_in m n is (or_none (bad_range_at m (instance x k conns)) (first_found (bad_range_at m) is) h).1
narrow_in m n (always event body ∷ is) h =
    narrow_in m n is (or_none (bad_range_at m (always event body)) (first_found (bad_range_at m) is) h).1
narrow_in m n (initial t c ∷ is) h =
    narrow_in m n is (or_none (bad_range_at m (initial t c)) (first_found (bad_range_at m) is) h).1

-- the nets of an instance are each as its module declares it
pub are_nets_of : (nets : List NetInfo) (p : Path) (from : ℕ) → IsScoped nets p from → bad_range p.of ≡ None →
    AreNetsOf p.of nets from
are_nets_of nets p from s fine = record {
  there = s.there;
  range = λ n h. (s.same n h).0;
  start = s.start;
  first = s.begins;
  narrow = λ n h. narrow_in p.of n p.of.items fine;
}

-- ---- connections: of an instance of d, in m

no_bit : (bs : List ℕ) → list_any (has_bit []) bs ≡ false
no_bit [] = refl
no_bit (b ∷ bs) = no_bit bs

module _ (all : List ModuleTree) (m : ModuleTree) (nets : List NetInfo) (from : ℕ) (outer : AreNetsOf m nets from)
    (d : ModuleTree) (first : ℕ) (inside : AreNetsOf d nets first) where
  port_named : (p : Name) → has (nets_in d) p ≡ true → HasNames d (net p)
  port_named p h n i =
      let same = (bytes_eq-Decides n p).0 (or_no (bytes_eq n p) i) in
      subst (λ (k : Name). has (nets_in d) k ≡ true) (sym same) h

  port_free : (p : Name) → bad_leaf d (λ n. true) [] (leaves (net p)) ≡ None
  port_free p =
      ap (λ (b : Bool). option_or (option_or (unless (true && not b) p) None) None)
      (no_bit (bits_in (module_scope d) (net p)))

  port_target : (p : Name) → has (nets_in d) p ≡ true → IsTarget nets (nets_in d) first (net p)
  port_target p h =
      target_ready d nets first inside true (λ n. true) (net p) refl (port_named p h) refl (port_free p)

  port_source : (p : Name) → has (nets_in d) p ≡ true → IsSource nets (nets_in d) first (net p)
  port_source p h =
      let narrow = inside.narrow p h in
      source_ready d nets first inside (net p) (port_named p h) tt
      (ap (λ (b : Bool). unless (false || not b) d.name)
      (first_false most_size (own (module_scope d) (net p)) (omega (arith, narrow))))

  -- an expression in which nothing is wrong
  abbrev IsGood : Option ExprTree → Type 0
  IsGood None = Unit {0}
  IsGood (Some e) = HasNames m e × ((bad_range_in m false e ≡ None) × HasSizes e)

  abbrev AreGood : List (Option ExprTree) → Type 0
  AreGood [] = Unit {0}
  AreGood (e ∷ es) = IsGood e × AreGood es

  abbrev IsFine : Option Connection → Type 0
  IsFine None = Unit {0}
  IsFine (Some c) = bad_connected m d c ≡ None

  abbrev AreFine : List (Option Connection) → Type 0
  AreFine [] = Unit {0}
  AreFine (c ∷ cs) = IsFine c × AreFine cs

  by_dir : (dir : Dir) (p : Name) (e : ExprTree) → has (nets_in d) p ≡ true → IsGood (Some e) →
      cond (goes_out dir) (bad_output m e) None ≡ None → IsJoined nets (nets_in d) first (nets_in m) from dir p e
  by_dir inner p e h g fine = tt
  by_dir is_input p e h g fine = (port_target p h, source_ready m nets from outer e g.0 g.1.1 g.1.0)
  by_dir is_output p e h g fine = (port_source p h, output_ready all m nets from outer e g.0 g.1.0 fine)

  one_joined : (p : Name) (e : Option ExprTree) → has (nets_in d) p ≡ true → IsGood e → IsFine (connected p e) →
      IsMaybeJoined nets (nets_in d) first (nets_in m) from d (connected p e)
  one_joined p None h g fine = tt
  one_joined p (Some e) h g fine = by_dir (dir_of d p) p e h g fine

  ordered_joined : (ports : List Name) (es : List (Option ExprTree)) →
      ((n : Name) → has ports n ≡ true → has (nets_in d) n ≡ true) → AreGood es → AreFine (ordered ports es) →
      AreJoined nets (nets_in d) first (nets_in m) from d (ordered ports es)
  ordered_joined [] es h g fine = tt
  ordered_joined (p ∷ ps) [] h g fine = tt
  ordered_joined (p ∷ ps) (e ∷ es) h g fine = (
    one_joined p e (h p (first_name p ps)) g.0 fine.0,
    ordered_joined ps es (λ n i. h n (in_back (p ∷ []) ps n i)) g.1 fine.1,
  )

  named_joined : (ns : List NamedConnection) → AreGood (map (λ (n : NamedConnection). n.expr) ns) →
      AreFine (map (named_connection d) ns) →
      AreJoined nets (nets_in d) first (nets_in m) from d (map (named_connection d) ns)
  named_joined [] g fine = tt
  named_joined (n ∷ ns) g fine =
      let rest = named_joined ns g.1 fine.1 in
      elim (cases_Bool (has d.ports n.port)) [
        | inl t ↦
            let here = subst (λ (b : Bool). IsFine (cond b (connected n.port n.expr) None)) t fine.0 in (
              subst (λ (b : Bool). IsMaybeJoined nets (nets_in d) first (nets_in m) from d (cond b (connected n.port n.expr) None)) (sym t)
                  (one_joined n.port n.expr (in_ports d n.port t) g.0 here),
              rest,
            )
        | inr f ↦ (
          subst (λ (b : Bool). IsMaybeJoined nets (nets_in d) first (nets_in m) from d (cond b (connected n.port n.expr) None)) (sym f)
              tt,
          rest,
        )
      ]

  -- expressions in which nothing is wrong
  abbrev pub AreSound : List ExprTree → Type 0
  AreSound es =
      ((n : Name) → has (names_all es) n ≡ true → has (nets_in m) n ≡ true)
      × ((first_found (bad_range_in_whole m) (map expression es) ≡ None) × IsSpelled (map expression es))

  goods : (es : List (Option ExprTree)) → AreSound (filter_map (λ e. e) es) → AreGood es
  goods [] h = tt
  goods (None ∷ es) h = (tt, goods es h)
  goods (Some e ∷ es) h =
      let kept : List ExprTree = filter_map (λ x. x) es in
      let parts = or_none (bad_range_in m false e) (first_found (bad_range_in_whole m) (map expression kept)) h.1.0 in (
        (λ n i. h.0 n (in_front (names_in e) (names_all kept) n i), (parts.0, h.1.1.0)),
        goods es (λ n i. h.0 n (in_back (names_in e) (names_all kept) n i), (parts.1, h.1.1.1)),
      )

  fines : (cs : List (Option Connection)) → first_found (bad_connected m d) (filter_map (λ c. c) cs) ≡ None → AreFine cs
  fines [] h = tt
  fines (None ∷ cs) h = (tt, fines cs h)
  fines (Some c ∷ cs) h =
      let parts = or_none (bad_connected m d c) (first_found (bad_connected m d) (filter_map (λ x. x) cs)) h in
      (parts.0, fines cs parts.1)

  -- the connections as they are written
  pub connections_joined : (cs : ConnectionList) → AreSound (connected_exprs cs) →
      first_found (bad_connected m d) (connections_of d cs) ≡ None →
      AreJoined nets (nets_in d) first (nets_in m) from d (maybe_connections d cs)
  connections_joined (by_order es) h fine =
      ordered_joined d.ports es (in_ports d) (goods es h)
      (fines (ordered d.ports es)
      (subst (λ (cs : List Connection). first_found (bad_connected m d) cs ≡ None)
      (kept_mapped (λ (p : Name × Option ExprTree). connected p.0 p.1) (zip d.ports es)) fine))
  connections_joined (by_name ns) h fine =
      named_joined ns
      (goods (map (λ (n : NamedConnection). n.expr) ns)
      (subst AreSound (kept_mapped (λ (n : NamedConnection). n.expr) ns) h))
      (fines (map (named_connection d) ns)
      (subst (λ (cs : List Connection). first_found (bad_connected m d) cs ≡ None) (kept_mapped (named_connection d) ns) fine))
