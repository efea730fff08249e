-- The always items and initial values of a module that isn't refused for its ranges and targets are ready: names have
-- nets, selects lie in ranges, no part is too large, and what is set is a reg and has no bit twice.
use Rattle.std.proofs.Common.{◌≡◌, ℕ, ◌≤◌, true, List, [], ◌∷◌, ◌++◌, None, refl, arith, sym, subst, ◌∙◌}
use Rattle.std.specs.Prelude.{flat_map}
use Rattle.std.specs.Option.{option_or}
use Rattle.std.proofs.lemmas.List.{append_assoc}
use Rattle.eq_model.specs.Nets.{range_width}
use Rattle.eq_net.specs.declared.types.NetInfo.{NetInfo}
use Rattle.eq_verilog.specs.Trees.{Name, ExprTree, const, net, bit, part, empty, joined, repeated, unary, binary, choice, StmtTree, idle, set, sequence, branch, ItemTree, declared, assign, primitive, instance, always, initial, ModuleTree}
use Rattle.eq_verilog.specs.Scopes.{Scope, is_select, width}
use Rattle.eq_verilog.specs.Declarations.{Whole, expression, target, has, is_reg, names_in, names_of_item, names_of_whole, nets_in, range_of, wholes_of_stmt}
use Rattle.eq_verilog.specs.Firsts.{first_found, unless}
use Rattle.eq_verilog.specs.ModuleRefusals.{bad_range, bad_range_at, bad_range_in, bad_range_in_whole, bad_size, most_size}
use Rattle.eq_verilog.specs.TargetRefusals.{bad_register_target, bad_set, bad_target, bad_target_at, is_target}
use Rattle.eq_analysis.specs.Finding.{scope_of}
use Rattle.eq_flatten.specs.Beginning.{AreInitialsReady}
use Rattle.eq_flatten.specs.Items.{IsSource, IsTarget}
use Rattle.eq_flatten.specs.Meant.{AreSlim}
use Rattle.eq_flatten.specs.Spelled.{AreItemsSpelled, IsItemSpelled, IsSpelled, IsWholeSpelled}
use Rattle.eq_flatten.specs.inner.Faultless.{AreNetsOf, HasNames}
use Rattle.eq_flatten.proofs.Faultless.{first_name, fit_in, in_back, in_front, source_ready, target_ready}
use Rattle.eq_flatten.proofs.Ready.{named_items}
use Rattle.eq_flatten.proofs.Selecting.{select_inside}
use Rattle.eq_flatten.proofs.Truths.{and_true, or_none, unless_none}
use Rattle.eq_registers.specs.Running.{IsStmtReady}
use Rattle.eq_sequential.specs.inner.Processing.{AreAlwaysReady, IsEvent}

module _ (m : ModuleTree) where
  -- an expression or a target whose names are nets, and in which nothing is wrong
  pub record IsFine (w : Whole) : Type 0 where
    pub names : (n : Name) → has (names_of_whole w) n ≡ true → has (nets_in m) n ≡ true
    pub range : bad_range_in_whole m w ≡ None
    pub spelled : IsWholeSpelled w

  abbrev pub AreFine : List Whole → Type 0
  AreFine [] = Unit {0}
  AreFine (w ∷ ws) = IsFine w × AreFine ws

  are_fine : (ws : List Whole) →
      ((n : Name) → has (flat_map names_of_whole ws) n ≡ true → has (nets_in m) n ≡ true) →
      first_found (bad_range_in_whole m) ws ≡ None → IsSpelled ws → AreFine ws
  are_fine [] names range spelled = tt
  are_fine (w ∷ ws) names range spelled =
      let parts = or_none (bad_range_in_whole m w) (first_found (bad_range_in_whole m) ws) range in (
        record {
          names = λ n i. names n (in_front (names_of_whole w) (flat_map names_of_whole ws) n i);
          range = parts.0;
          spelled = spelled.0;
        },
        are_fine ws (λ n i. names n (in_back (names_of_whole w) (flat_map names_of_whole ws) n i)) parts.1 spelled.1,
      )

  pub fine_both : (xs ys : List Whole) → AreFine (xs ++ ys) → AreFine xs × AreFine ys
  fine_both [] ys h = (tt, h)
  fine_both (x ∷ xs) ys h = (let rest = fine_both xs ys h.1 in ((h.0, rest.0), rest.1))

  -- an item in which nothing is wrong, as far as registers go
  abbrev pub IsItemFine : ItemTree → Type 0
  IsItemFine (declared k r n) = Unit {0}
  IsItemFine (assign t e) = Unit {0}
  IsItemFine (primitive k n terms) = Unit {0}
  IsItemFine (instance i n conns) = Unit {0}
  IsItemFine (always event body) = AreFine (target event ∷ wholes_of_stmt body) × (bad_set m body ≡ None)
  IsItemFine (initial t c) = AreFine (target t ∷ []) × (bad_register_target m t ≡ None)

  abbrev pub AreItemsFine : List ItemTree → Type 0
  AreItemsFine [] = Unit {0}
  AreItemsFine (i ∷ is) = IsItemFine i × AreItemsFine is

  module _ (all : List ModuleTree) where
    item_fine : (i : ItemTree) → ((n : Name) → has (names_of_item i) n ≡ true → has (nets_in m) n ≡ true)
        → IsItemSpelled i → bad_range_at m i ≡ None → bad_target_at all m i ≡ None → IsItemFine i
    item_fine (declared k r n) names spelled range fine = tt
    item_fine (assign t e) names spelled range fine = tt
    item_fine (primitive k n terms) names spelled range fine = tt
    item_fine (instance i n conns) names spelled range fine = tt
    item_fine (always event body) names spelled range fine =
        (are_fine (target event ∷ wholes_of_stmt body) names range spelled, fine)
    item_fine (initial t c) names spelled range fine = (are_fine (target t ∷ []) names range (spelled, tt), fine)

    items_fine : (before after : List ItemTree) → m.items ≡ before ++ after → AreItemsSpelled after
        → first_found (bad_range_at m) after ≡ None → first_found (bad_target_at all m) after ≡ None
        → AreItemsFine after
    items_fine before [] is spelled range fine = tt
    items_fine before (i ∷ rest) is spelled range fine =
        let a = or_none (bad_range_at m i) (first_found (bad_range_at m) rest) range in
        let b = or_none (bad_target_at all m i) (first_found (bad_target_at all m) rest) fine in (
          item_fine i (named_items m before rest i is) spelled.0 a.0 b.0,
          items_fine (before ++ i ∷ []) rest (is ∙ sym (append_assoc before (i ∷ []) rest)) spelled.1 a.1 b.1,
        )

    -- the items of a module that isn't refused for its ranges and targets
    pub module_fine : AreItemsSpelled m.items → bad_range m ≡ None → bad_target all m ≡ None → AreItemsFine m.items
    module_fine spelled range fine = items_fine [] m.items refl spelled range fine

  -- ---- ready

  module _ (nets : List NetInfo) (from : ℕ) (own_nets : AreNetsOf m nets from) where
    abbrev s : Scope
    s = scope_of nets (nets_in m) from

    slim_net : (n : Name) → has (nets_in m) n ≡ true → width s n ≤ most_size
    slim_net n member =
        subst (λ o. range_width o ≤ most_size) (sym (own_nets.range n member))
        (let w = own_nets.narrow n member in omega (arith, w))

    -- no net of an event is too large
    slim_in : (t : ExprTree) → is_target t ≡ true → HasNames m t → bad_range_in m true t ≡ None → AreSlim s t
    slim_in (const c) is named h = absurd (cc)
    slim_in (net n) is named h = slim_net n (named n (first_name n []))
    slim_in (bit n i) is named h = tt
    slim_in (part n l r) is named h =
        let inside = unless_none (is_select (range_of m n) l r) n
        (or_none (unless (is_select (range_of m n) l r) n) (bad_size m true (part n l r)) h).0 in
        let fits = select_inside (range_of m n) l r inside in
        let narrow = own_nets.narrow n (named n (first_name n [])) in
        (omega (arith, fits, narrow), slim_net n (named n (first_name n [])))
    slim_in empty is named h = tt
    slim_in (joined a b) is named h =
        let both = and_true (is_target a) (is_target b) is in
        let one = or_none (bad_size m true (joined a b))
        (option_or (bad_range_in m true a) (option_or (bad_range_in m true b) None)) h in
        let two = or_none (bad_range_in m true a) (option_or (bad_range_in m true b) None) one.1 in
        let three = or_none (bad_range_in m true b) None two.1 in (
          slim_in a both.0 (λ n i. named n (in_front (names_in a) (names_in b) n i)) two.0,
          slim_in b both.1 (λ n i. named n (in_back (names_in a) (names_in b) n i)) three.0,
        )
    slim_in (repeated k a) is named h = absurd (cc)
    slim_in (unary op a) is named h = absurd (cc)
    slim_in (binary op a b) is named h = absurd (cc)
    slim_in (choice c a b) is named h = absurd (cc)

    event_ready : (t : ExprTree) → IsFine (target t) → IsEvent nets (nets_in m) from t
    event_ready t h = record {
      fit = fit_in m nets from own_nets true t h.names h.range;
      slim = slim_in t h.spelled h.names h.range;
    }

    register_ready : (t : ExprTree) → IsFine (target t) → bad_register_target m t ≡ None →
        IsTarget nets (nets_in m) from t
    register_ready t h fine = target_ready m nets from own_nets true (is_reg m) t h.spelled h.names h.range fine

    right_ready : (e : ExprTree) → IsFine (expression e) → IsSource nets (nets_in m) from e
    right_ready e h = source_ready m nets from own_nets e h.names h.spelled h.range

    stmt_ready : (body : StmtTree) → AreFine (wholes_of_stmt body) → bad_set m body ≡ None →
        IsStmtReady nets (nets_in m) from body
    stmt_ready idle h fine = tt
    stmt_ready (set t e) h fine = (register_ready t h.0 fine, right_ready e h.1.0)
    stmt_ready (sequence a b) h fine =
        let parts = fine_both (wholes_of_stmt a) (wholes_of_stmt b) h in
        let sets = or_none (bad_set m a) (bad_set m b) fine in
        (stmt_ready a parts.0 sets.0, stmt_ready b parts.1 sets.1)
    stmt_ready (branch c a b) h fine =
        let parts = fine_both (wholes_of_stmt a) (wholes_of_stmt b) h.1 in
        let sets = or_none (bad_set m a) (bad_set m b) fine in
        (right_ready c h.0, stmt_ready a parts.0 sets.0, stmt_ready b parts.1 sets.1)

    -- the always items of a module in which nothing is wrong can run
    pub always_ready : (is : List ItemTree) → AreItemsFine is → AreAlwaysReady nets (nets_in m) from is
    always_ready [] h = tt
    always_ready (declared k r n ∷ is) h = (tt, always_ready is h.1)
    always_ready (assign t e ∷ is) h = (tt, always_ready is h.1)
    always_ready (primitive k n terms ∷ is) h = (tt, always_ready is h.1)
    always_ready (instance i n conns ∷ is) h = (tt, always_ready is h.1)
    always_ready (always event body ∷ is) h =
        ((event_ready event h.0.0.0, stmt_ready body h.0.0.1 h.0.1), always_ready is h.1)
    always_ready (initial t c ∷ is) h = (tt, always_ready is h.1)

    -- and what has initial values can be begun
    pub initials_ready : (is : List ItemTree) → AreItemsFine is → AreInitialsReady nets (nets_in m) from is
    initials_ready [] h = tt
    initials_ready (declared k r n ∷ is) h = (tt, initials_ready is h.1)
    initials_ready (assign t e ∷ is) h = (tt, initials_ready is h.1)
    initials_ready (primitive k n terms ∷ is) h = (tt, initials_ready is h.1)
    initials_ready (instance i n conns ∷ is) h = (tt, initials_ready is h.1)
    initials_ready (always event body ∷ is) h = (tt, initials_ready is h.1)
    initials_ready (initial t c ∷ is) h = (register_ready t h.0.0.0 h.0.1, initials_ready is h.1)
