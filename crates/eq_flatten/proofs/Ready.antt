-- The items of a module in which nothing is wrong are ready to become equations.
use Rattle.std.proofs.Common.{◌≡◌, ℕ, zero, suc, ◌<◌, nat_lt, Bool, true, false, ◌||◌, ◌==◌, cond, List, [], ◌∷◌, ◌++◌, length, map, take, Option, None, bytes_eq, refl, sym, ap, ◌∙◌, inl, inr}
use Rattle.std.specs.Prelude.{flat_map, fold}
use Rattle.std.specs.List.{list_all}
use Rattle.std.specs.Option.{option_or}
use Rattle.std.proofs.lemmas.Bool.{cases_Bool, cases_lt}
use Rattle.std.proofs.lemmas.Bool.Decides.{Decides-eqb}
use Rattle.std.proofs.lemmas.Slice.Eq.{bytes_eq-Decides}
use Rattle.std.proofs.lemmas.List.{append_assoc}
use Rattle.eq_names.specs.Tables.{with_name}
use Rattle.eq_vparse.specs.declared.tree.GateKind.{GateKind}
use Rattle.eq_net.specs.declared.types.NetInfo.{NetInfo}
use Rattle.eq_net.specs.Meaning.{if_there}
use Rattle.eq_verilog.specs.Trees.{Name, ExprTree, join_all, ItemTree, declared, assign, primitive, instance, always, initial, ModuleTree}
use Rattle.eq_verilog.specs.Scopes.{Scope}
use Rattle.eq_verilog.specs.Sizes.{own}
use Rattle.eq_verilog.specs.Declarations.{expression, has, names_in, names_of_item, names_of_whole, nets_in}
use Rattle.eq_verilog.specs.Nets.{module_scope}
use Rattle.eq_verilog.specs.Equations.{gate_outputs, outputs_among}
use Rattle.eq_verilog.specs.Firsts.{first_found, unless}
use Rattle.eq_verilog.specs.ModuleRefusals.{bad_range, bad_range_at, bad_range_in, bad_range_in_whole}
use Rattle.eq_verilog.specs.TargetRefusals.{are_terminals, bad_connection, bad_connection_at, bad_equation_target, bad_output, bad_target, bad_target_at, is_target, may_be_driven}
use Rattle.eq_analysis.specs.Finding.{scope_of}
use Rattle.eq_analysis.specs.Measuring.{AllSmall, IsFit}
use Rattle.eq_flatten.specs.Equating.{AreTargets}
use Rattle.eq_flatten.specs.Spelled.{AreItemsSpelled, IsItemSpelled, IsSpelled}
use Rattle.eq_flatten.specs.inner.Faultless.{AreNetsOf, HasNames}
use Rattle.eq_flatten.specs.Gating.{AreBits}
use Rattle.eq_flatten.specs.Items.{AreReady, AreTerminals, IsReady, IsTarget}
use Rattle.eq_flatten.proofs.Faultless.{in_back, in_front, fit_in, sizes, small_in, source_ready, target_ready}
use Rattle.eq_flatten.proofs.Listing.{first_false}
use Rattle.eq_flatten.proofs.Truths.{and_true, or_none, unless_none}

-- ---- a module's nets are all that its items name

module _ (n : Name) where
  still : (seen : List Name) (x : Name) → has seen n ≡ true → has (with_name seen x) n ≡ true
  still seen x h = elim (cases_Bool (has seen x)) [
    | inl known ↦ ap (λ (b : Bool). has (cond b seen (seen ++ x ∷ [])) n) known ∙ h
    | inr new ↦ ap (λ (b : Bool). has (cond b seen (seen ++ x ∷ [])) n) new ∙ in_front seen (x ∷ []) n h
  ]

  still_all : (ns seen : List Name) → has seen n ≡ true → has (fold with_name seen ns) n ≡ true
  still_all [] seen h = h
  still_all (x ∷ xs) seen h = still_all xs (with_name seen x) (still seen x h)

  at_once : (seen : List Name) (x : Name) → n ≡ x → has (with_name seen x) n ≡ true
  at_once seen x same = elim (cases_Bool (has seen x)) [
    | inl known ↦
        ap (λ (b : Bool). has (cond b seen (seen ++ x ∷ [])) n) known ∙ ap (λ (k : Name). has seen k) same ∙ known
    | inr new ↦
        ap (λ (b : Bool). has (cond b seen (seen ++ x ∷ [])) n) new
        ∙ in_back seen (x ∷ []) n (ap (λ (b : Bool). b || false) ((bytes_eq-Decides n x).1 same))
  ]

  -- each name of a list is among those that come once
  pub once : (ns seen : List Name) → has ns n ≡ true → has (fold with_name seen ns) n ≡ true
  once [] seen h = absurd (cc)
  once (x ∷ xs) seen h = elim (cases_Bool (bytes_eq n x)) [
    | inl here ↦ still_all xs (with_name seen x) (at_once seen x ((bytes_eq-Decides n x).0 here))
    | inr other ↦ once xs (with_name seen x) (sym (ap (λ (b : Bool). b || has xs n) other) ∙ h)
  ]

-- the names of an item are nets of its module
pub named_items : (m : ModuleTree) (before after : List ItemTree) (i : ItemTree) → m.items ≡ before ++ i ∷ after →
    (n : Name) → has (names_of_item i) n ≡ true → has (nets_in m) n ≡ true
named_items m before after i is n h =
    once n (m.ports ++ flat_map names_of_item m.items) []
    (in_back m.ports (flat_map names_of_item m.items) n
    (ap (λ (items : List ItemTree). has (flat_map names_of_item items) n) is ∙ among before))
  where
    among : (front : List ItemTree) → has (flat_map names_of_item (front ++ i ∷ after)) n ≡ true
    among [] = in_front (names_of_item i) (flat_map names_of_item after) n h
    among (x ∷ xs) = in_back (names_of_item x) (flat_map names_of_item (xs ++ i ∷ after)) n (among xs)

no_true : true ≡ false → ⊥
no_true e = absurd (cc)

-- ---- items

module _ (all : List ModuleTree) (m : ModuleTree) (nets : List NetInfo) (from : ℕ) (own_nets : AreNetsOf m nets from)
  where
    abbrev s : Scope
    s = scope_of nets (nets_in m) from

    abbrev right : Name → Bool
    right = may_be_driven m

    one_names : (e : ExprTree) → ((n : Name) → has (names_in e ++ []) n ≡ true → has (nets_in m) n ≡ true) → HasNames m e
    one_names e h n i = h n (in_front (names_in e) [] n i)

    -- expressions in a row, each in range
    terms_fit : (es : List ExprTree)
        → ((n : Name) → has (flat_map names_of_whole (map expression es)) n ≡ true → has (nets_in m) n ≡ true)
        → first_found (bad_range_in_whole m) (map expression es) ≡ None → IsFit nets (nets_in m) from (join_all es)
    terms_fit [] named range = tt
    terms_fit (e ∷ es) named range =
        let parts = or_none (bad_range_in m false e) (first_found (bad_range_in_whole m) (map expression es)) range in (
          fit_in m nets from own_nets false e
              (λ n i. named n (in_front (names_in e) (flat_map names_of_whole (map expression es)) n i)) parts.0,
          terms_fit es (λ n i. named n (in_back (names_in e) (flat_map names_of_whole (map expression es)) n i)) parts.1,
        )

    terms_small : (es : List ExprTree)
        → ((n : Name) → has (flat_map names_of_whole (map expression es)) n ≡ true → has (nets_in m) n ≡ true)
        → IsSpelled (map expression es)
        → first_found (bad_range_in_whole m) (map expression es) ≡ None → AllSmall s es
    terms_small [] named sized range = tt
    terms_small (e ∷ es) named sized range =
        let parts = or_none (bad_range_in m false e) (first_found (bad_range_in_whole m) (map expression es)) range in (
          small_in m nets from own_nets e
              (λ n i. named n (in_front (names_in e) (flat_map names_of_whole (map expression es)) n i)) sized.0 parts.0,
          terms_small es (λ n i. named n (in_back (names_in e) (flat_map names_of_whole (map expression es)) n i)) sized.1
              parts.1,
        )

    terms_bits : (es : List ExprTree)
        → ((n : Name) → has (flat_map names_of_whole (map expression es)) n ≡ true → has (nets_in m) n ≡ true)
        → list_all (λ e. own (module_scope m) e == 1) es ≡ true → AreBits s es
    terms_bits [] named bits = tt
    terms_bits (e ∷ es) named bits =
        let parts = and_true (own (module_scope m) e == 1) (list_all (λ x. own (module_scope m) x == 1) es) bits in (
          sizes m nets from own_nets e
              (λ n i. named n (in_front (names_in e) (flat_map names_of_whole (map expression es)) n i))
              ∙ (Decides-eqb (own (module_scope m) e) 1).0 parts.0,
          terms_bits es (λ n i. named n (in_back (names_in e) (flat_map names_of_whole (map expression es)) n i)) parts.1,
        )

    -- an output that isn't refused, as a target
    pub output_ready : (e : ExprTree) → HasNames m e → bad_range_in m false e ≡ None → bad_output m e ≡ None →
        IsTarget nets (nets_in m) from e
    output_ready e named range fine =
        let parts = or_none (unless (is_target e) m.name) (bad_equation_target m e) fine in
        target_ready m nets from own_nets false right e (unless_none (is_target e) m.name parts.0) named range parts.1

    outputs_ready : (k : ℕ) (es : List ExprTree)
        → ((n : Name) → has (flat_map names_of_whole (map expression es)) n ≡ true → has (nets_in m) n ≡ true)
        → first_found (bad_range_in_whole m) (map expression es) ≡ None
        → first_found (bad_output m) (take k es) ≡ None → AreTargets s (take k es)
    outputs_ready zero es named range fine = tt
    outputs_ready (suc k) [] named range fine = tt
    outputs_ready (suc k) (e ∷ es) named range fine =
        let ranges = or_none (bad_range_in m false e) (first_found (bad_range_in_whole m) (map expression es)) range in
        let outputs = or_none (bad_output m e) (first_found (bad_output m) (take k es)) fine in
        let ready = output_ready e
        (λ n i. named n (in_front (names_in e) (flat_map names_of_whole (map expression es)) n i)) ranges.0 outputs.0 in (
          (ready.slim, ready.apart),
          outputs_ready k es (λ n i. named n (in_back (names_in e) (flat_map names_of_whole (map expression es)) n i))
              ranges.1 outputs.1,
        )

    two_terms : (n : ℕ) → nat_lt 1 n ≡ true → 1 < n
    two_terms n h = elim (cases_lt 1 n) [
      | inl more ↦ more
      | inr less ↦ absurd (no_true (sym h ∙ first_false 1 n less))
    ]

    terminals_ready : (k : GateKind) (n : Option Name) (es : List ExprTree)
        → ((x : Name) → has (flat_map names_of_whole (map expression es)) x ≡ true → has (nets_in m) x ≡ true)
        → IsSpelled (map expression es)
        → first_found (bad_range_in_whole m) (map expression es) ≡ None
        → first_found (bad_output m) (gate_outputs k es) ≡ None
        → unless (are_terminals m es) (if_there m.name (λ x. x) n) ≡ None
        → AreTerminals nets (nets_in m) from k es
    terminals_ready k n es named sized range fine connected =
        let good = unless_none (are_terminals m es) (if_there m.name (λ x. x) n) connected in
        let parts = and_true (nat_lt 1 (length es)) (list_all (λ e. own (module_scope m) e == 1) es) good in
        record {
          two = two_terms (length es) parts.0;
          fit = terms_fit es named range;
          small = terms_small es named sized range;
          bits = terms_bits es named parts.1;
          targets = outputs_ready (outputs_among k es) es named range fine;
        }

    -- an item in which nothing is wrong
    pub item_ready : (i : ItemTree) → ((n : Name) → has (names_of_item i) n ≡ true → has (nets_in m) n ≡ true)
        → IsItemSpelled i → bad_range_at m i ≡ None → bad_target_at all m i ≡ None → bad_connection_at all m i ≡ None
        → IsReady nets (nets_in m) from i
    item_ready (declared k r n) named spelled range fine connected = tt
    item_ready (assign t e) named spelled range fine connected =
        let ranges = or_none (bad_range_in m true t) (option_or (bad_range_in m false e) None) range in
        let other = or_none (bad_range_in m false e) None ranges.1 in
        let names : (n : Name) → has (names_in t ++ (names_in e ++ [])) n ≡ true → has (nets_in m) n ≡ true = named in (
          target_ready m nets from own_nets true right t spelled.0
              (λ n i. names n (in_front (names_in t) (names_in e ++ []) n i)) ranges.0 fine,
          source_ready m nets from own_nets e
              (one_names e (λ n i. names n (in_back (names_in t) (names_in e ++ []) n i))) spelled.1 other.0,
        )
    item_ready (primitive k n terms) named spelled range fine connected =
        terminals_ready k n terms named spelled range fine connected
    item_ready (instance i n conns) named spelled range fine connected = tt
    item_ready (always event body) named spelled range fine connected = tt
    item_ready (initial t c) named spelled range fine connected = tt

    items_ready : (before after : List ItemTree) → m.items ≡ before ++ after
        → AreItemsSpelled after
        → first_found (bad_range_at m) after ≡ None → first_found (bad_target_at all m) after ≡ None
        → first_found (bad_connection_at all m) after ≡ None
        → AreReady nets (nets_in m) from after
    items_ready before [] is spelled range fine connected = tt
    items_ready before (i ∷ rest) is spelled range fine connected =
        let a = or_none (bad_range_at m i) (first_found (bad_range_at m) rest) range in
        let b = or_none (bad_target_at all m i) (first_found (bad_target_at all m) rest) fine in
        let c = or_none (bad_connection_at all m i) (first_found (bad_connection_at all m) rest) connected in (
          item_ready i (named_items m before rest i is) spelled.0 a.0 b.0 c.0,
          items_ready (before ++ i ∷ []) rest (is ∙ sym (append_assoc before (i ∷ []) rest)) spelled.1 a.1 b.1 c.1,
        )

    -- the items of a module that isn't refused for its ranges, targets and connections
    pub module_ready : AreItemsSpelled m.items → bad_range m ≡ None → bad_target all m ≡ None → bad_connection all m ≡ None →
        AreReady nets (nets_in m) from m.items
    module_ready spelled range fine connected = items_ready [] m.items refl spelled range fine connected
