-- Scopes that say the same of the names of items and of connections: the equations agree.
use Rattle.std.proofs.Common.{◌≡◌, ℕ, zero, suc, Bool, true, cond, List, [], ◌∷◌, ◌++◌, map, take, drop, Option, Some, None, refl, sym, ap, subst, inl, inr}
use Rattle.std.specs.Prelude.{filter_map, flat_map, zip}
use Rattle.std.specs.List.{cons_option}
use Rattle.std.proofs.lemmas.Bool.{cases_Bool}
use Rattle.eq_model.specs.Nets.{Dir, inner, is_input, is_output}
use Rattle.eq_net.specs.Meaning.{if_there}
use Rattle.eq_vparse.specs.declared.tree.GateKind.{GateKind}
use Rattle.eq_vparse.specs.declared.tree.GateKind.TheVariants as kind
use Rattle.eq_verilog.specs.Trees.{Name, ExprTree, const, net, bit, part, empty, joined, repeated, unary, binary, choice, join_all, NamedConnection, ConnectionList, by_order, by_name, ItemTree, declared, assign, primitive, instance, always, initial, ModuleTree}
use Rattle.eq_verilog.specs.Scopes.{Scope}
use Rattle.eq_verilog.specs.Declarations.{comes_in, connected_exprs, dir_of, expression, goes_out, has, names_in, names_of_item, names_of_whole}
use Rattle.eq_verilog.specs.Equations.{Connection, Equation, assignment, connected, connections_of, gate_inputs, gate_outputs, gated, outputs_among}
use Rattle.eq_flatten.specs.Items.{own_equations}
use Rattle.eq_flatten.specs.Joining.{conns_equations, maybe_connections}
use Rattle.eq_flatten.specs.Linking.{link_equations, maybe_equations, named_connection, ordered}
use Rattle.eq_flatten.specs.Rendering.{SameNames}
use Rattle.eq_flatten.specs.Summing.{AreAgreed, IsAgreed}
use Rattle.eq_flatten.proofs.Faultless.{first_name, in_back, in_front}

pub agreed_append : (es fs gs hs : List Equation) → AreAgreed es fs → AreAgreed gs hs → AreAgreed (es ++ gs) (fs ++ hs)
agreed_append [] [] gs hs p q = q
agreed_append (e ∷ es) (f ∷ fs) gs hs p q = (p.0, agreed_append es fs gs hs p.1 q)
agreed_append [] (f ∷ fs) gs hs p q = absurd p
agreed_append (e ∷ es) [] gs hs p q = absurd p

-- the names of expressions in a row
abbrev pub names_all : List ExprTree → List Name
names_all es = flat_map names_of_whole (map expression es)

abbrev pub SameAt : Scope → Scope → Name → Type 0
SameAt s r n = (s.range n ≡ r.range n) × (s.first n ≡ r.first n)

-- both scopes say the same of these names
abbrev pub SameOf : Scope → Scope → List Name → Type 0
SameOf s r ns = (n : Name) → has ns n ≡ true → SameAt s r n

module _ (s r : Scope) where
  front : (xs ys : List Name) → SameOf s r (xs ++ ys) → SameOf s r xs
  front xs ys h n i = h n (in_front xs ys n i)

  back : (xs ys : List Name) → SameOf s r (xs ++ ys) → SameOf s r ys
  back xs ys h n i = h n (in_back xs ys n i)

  pub same_names : (e : ExprTree) → SameOf s r (names_in e) → SameNames s r e
  same_names (const c) h = tt
  same_names (net n) h = h n (first_name n [])
  same_names (bit n i) h = h n (first_name n [])
  same_names (part n a b) h = h n (first_name n [])
  same_names empty h = tt
  same_names (joined a b) h =
      (same_names a (front (names_in a) (names_in b) h), same_names b (back (names_in a) (names_in b) h))
  same_names (repeated n a) h = same_names a h
  same_names (unary op a) h = same_names a h
  same_names (binary op a b) h =
      (same_names a (front (names_in a) (names_in b) h), same_names b (back (names_in a) (names_in b) h))
  same_names (choice c a b) h =
      let ca = front (names_in c ++ names_in a) (names_in b) h in (
        same_names c (front (names_in c) (names_in a) ca),
        same_names a (back (names_in c) (names_in a) ca),
        same_names b (back (names_in c ++ names_in a) (names_in b) h),
      )

  -- ---- gates

  abbrev AllSame : List ExprTree → Type 0
  AllSame [] = Unit {0}
  AllSame (e ∷ es) = SameNames s r e × AllSame es

  all_same : (es : List ExprTree) → SameOf s r (names_all es) → AllSame es
  all_same [] h = tt
  all_same (e ∷ es) h =
      (same_names e (front (names_in e) (names_all es) h), all_same es (back (names_in e) (names_all es) h))

  taken_same : (k : ℕ) (es : List ExprTree) → AllSame es → AllSame (take k es)
  taken_same zero es h = tt
  taken_same (suc k) [] h = tt
  taken_same (suc k) (e ∷ es) h = (h.0, taken_same k es h.1)

  dropped_same : (k : ℕ) (es : List ExprTree) → AllSame es → AllSame (drop k es)
  dropped_same zero es h = h
  dropped_same (suc k) [] h = tt
  dropped_same (suc k) (e ∷ es) h = dropped_same k es h.1

  join_same : (es : List ExprTree) → AllSame es → SameNames s r (join_all es)
  join_same [] h = tt
  join_same (e ∷ es) h = (h.0, join_same es h.1)

  gated_same : (k : GateKind) (e : ExprTree) → SameNames s r e → SameNames s r (gated k e)
  gated_same kind.And e h = h
  gated_same kind.Nand e h = h
  gated_same kind.Or e h = h
  gated_same kind.Nor e h = h
  gated_same kind.Xor e h = h
  gated_same kind.Xnor e h = h
  gated_same kind.Buf e h = h
  gated_same kind.Not e h = h

  one_agreed : (t e : ExprTree) → SameNames s r t → SameNames s r e → IsAgreed (assignment s t s e) (assignment r t r e)
  one_agreed t e h g = record { target = refl; source = refl; target_names = h; source_names = g }

  outputs_agreed : (ts : List ExprTree) (e : ExprTree) → AllSame ts → SameNames s r e →
      AreAgreed (map (λ t. assignment s t s e) ts) (map (λ t. assignment r t r e) ts)
  outputs_agreed [] e h g = tt
  outputs_agreed (t ∷ ts) e h g = (one_agreed t e h.0 g, outputs_agreed ts e h.1 g)

  -- ---- items

  item_agreed : (i : ItemTree) → SameOf s r (names_of_item i) → AreAgreed (own_equations s i) (own_equations r i)
  item_agreed (declared k d n) h = tt
  item_agreed (assign t e) h =
      let other = back (names_in t) (names_in e ++ []) h in (
        one_agreed t e (same_names t (front (names_in t) (names_in e ++ []) h))
            (same_names e (front (names_in e) [] other)),
        tt,
      )
  item_agreed (primitive k n terms) h =
      let same = all_same terms h in
      outputs_agreed (gate_outputs k terms) (gated k (join_all (gate_inputs k terms)))
      (taken_same (outputs_among k terms) terms same)
      (gated_same k (join_all (gate_inputs k terms))
      (join_same (gate_inputs k terms) (dropped_same (outputs_among k terms) terms same)))
  item_agreed (instance m n conns) h = tt
  item_agreed (always event body) h = tt
  item_agreed (initial t c) h = tt

  -- what items drive by themselves
  pub items_agreed : (is : List ItemTree) → SameOf s r (flat_map names_of_item is) →
      AreAgreed (flat_map (own_equations s) is) (flat_map (own_equations r) is)
  items_agreed [] h = tt
  items_agreed (i ∷ is) h =
      agreed_append (own_equations s i) (own_equations r i) (flat_map (own_equations s) is) (flat_map (own_equations r) is)
      (item_agreed i (front (names_of_item i) (flat_map names_of_item is) h))
      (items_agreed is (back (names_of_item i) (flat_map names_of_item is) h))

  -- ---- what may be connected

  abbrev IsExprSame : Option ExprTree → Type 0
  IsExprSame None = Unit {0}
  IsExprSame (Some e) = SameNames s r e

  first_same : (o : Option ExprTree) (es : List ExprTree) → SameOf s r (names_all (cons_option o es)) → IsExprSame o
  first_same None es h = tt
  first_same (Some e) es h = same_names e (front (names_in e) (names_all es) h)

  rest_same : (o : Option ExprTree) (es : List ExprTree) → SameOf s r (names_all (cons_option o es)) →
      SameOf s r (names_all es)
  rest_same None es h = h
  rest_same (Some e) es h = back (names_in e) (names_all es) h

-- what there is of each is what there is of the results
pub kept_mapped : {A B : Type 0} (f : A → Option B) (xs : List A) → filter_map f xs ≡ filter_map (λ o. o) (map f xs)
kept_mapped f [] = refl
kept_mapped f (x ∷ xs) = ap (λ ys. cons_option (f x) ys) (kept_mapped f xs)

-- ---- connections: of an instance with scope i, or j by full names, in a path with scope o, or q

module _ (i j o q : Scope) (m : ModuleTree) where
  -- as the definitions have it
  abbrev pub connection_of : Connection → List Equation
  connection_of c =
      cond (comes_in (dir_of m c.port)) (assignment j (net c.port) q c.expr ∷ [])
      (cond (goes_out (dir_of m c.port)) (assignment q c.expr j (net c.port) ∷ []) [])

  by_dir : (d : Dir) (p : Name) (e : ExprTree) → SameAt i j p → SameNames o q e →
      AreAgreed (link_equations i o d p e)
      (cond (comes_in d) (assignment j (net p) q e ∷ []) (cond (goes_out d) (assignment q e j (net p) ∷ []) []))
  by_dir inner p e h g = tt
  by_dir is_input p e h g = (record { target = refl; source = refl; target_names = h; source_names = g }, tt)
  by_dir is_output p e h g = (record { target = refl; source = refl; target_names = g; source_names = h }, tt)

  abbrev IsSame : Option Connection → Type 0
  IsSame None = Unit {0}
  IsSame (Some c) = SameAt i j c.port × SameNames o q c.expr

  abbrev AreSame : List (Option Connection) → Type 0
  AreSame [] = Unit {0}
  AreSame (c ∷ cs) = IsSame c × AreSame cs

  maybe_agreed : (c : Option Connection) → IsSame c → AreAgreed (maybe_equations i o m c) (if_there [] connection_of c)
  maybe_agreed None h = tt
  maybe_agreed (Some c) h = by_dir (dir_of m c.port) c.port c.expr h.0 h.1

  one_more : (c : Option Connection) (cs : List Connection) →
      flat_map connection_of (cons_option c cs) ≡ if_there [] connection_of c ++ flat_map connection_of cs
  one_more None cs = refl
  one_more (Some c) cs = refl

  all_agreed : (cs : List (Option Connection)) → AreSame cs →
      AreAgreed (flat_map (maybe_equations i o m) cs) (flat_map connection_of (filter_map (λ c. c) cs))
  all_agreed [] h = tt
  all_agreed (c ∷ cs) h =
      let kept : List Connection = filter_map (λ c. c) cs in
      subst (λ es. AreAgreed (flat_map (maybe_equations i o m) (c ∷ cs)) es) (sym (one_more c kept))
      (agreed_append (maybe_equations i o m c) (if_there [] connection_of c) (flat_map (maybe_equations i o m) cs)
      (flat_map connection_of kept) (maybe_agreed c h.0) (all_agreed cs h.1))

  one_connected : (p : Name) (e : Option ExprTree) → SameAt i j p → IsExprSame o q e → IsSame (connected p e)
  one_connected p None h g = tt
  one_connected p (Some e) h g = (h, g)

  ordered_same : (ports : List Name) (es : List (Option ExprTree)) → SameOf i j ports →
      SameOf o q (names_all (filter_map (λ e. e) es)) → AreSame (ordered ports es)
  ordered_same [] es h g = tt
  ordered_same (p ∷ ps) [] h g = tt
  ordered_same (p ∷ ps) (e ∷ es) h g =
      let kept : List ExprTree = filter_map (λ x. x) es in (
        one_connected p e (h p (first_name p ps)) (first_same o q e kept g),
        ordered_same ps es (back i j (p ∷ []) ps h) (rest_same o q e kept g),
      )

  named_same : (ns : List NamedConnection) → SameOf i j m.ports →
      SameOf o q (names_all (filter_map (λ (n : NamedConnection). n.expr) ns)) → AreSame (map (named_connection m) ns)
  named_same [] h g = tt
  named_same (n ∷ ns) h g =
      let kept = filter_map (λ (n : NamedConnection). n.expr) ns in
      let rest = named_same ns h (rest_same o q n.expr kept g) in
      elim (cases_Bool (has m.ports n.port)) [
        | inl t ↦ (
          subst (λ (b : Bool). IsSame (cond b (connected n.port n.expr) None)) (sym t)
              (one_connected n.port n.expr (h n.port t) (first_same o q n.expr kept g)),
          rest,
        )
        | inr f ↦
            (subst (λ (b : Bool). IsSame (cond b (connected n.port n.expr) None)) (sym f) tt, rest)
      ]

  -- the connections of an instance of m
  pub connections_agreed : (cs : ConnectionList) → SameOf i j m.ports → SameOf o q (names_all (connected_exprs cs)) →
      AreAgreed (conns_equations i o m cs) (flat_map connection_of (connections_of m cs))
  connections_agreed (by_order es) h g =
      subst (λ (xs : List Connection). AreAgreed (conns_equations i o m (by_order es)) (flat_map connection_of xs))
      (sym (kept_mapped (λ (p : Name × Option ExprTree). connected p.0 p.1) (zip m.ports es)))
      (all_agreed (maybe_connections m (by_order es)) (ordered_same m.ports es h g))
  connections_agreed (by_name ns) h g =
      subst (λ (xs : List Connection). AreAgreed (conns_equations i o m (by_name ns)) (flat_map connection_of xs))
      (sym (kept_mapped (named_connection m) ns))
      (all_agreed (maybe_connections m (by_name ns)) (named_same ns h g))
