-- Always items one by one: what the slots say of the bits that one more sets, and of all others.
use Rattle.std.proofs.Common.{◌≡◌, ℕ, ◌+◌, ◌<◌, Bool, true, false, cond, List, [], ◌∷◌, ◌++◌, length, All, Option, Some, None, refl, arith, sym, ap, subst, ◌∙◌, inl, inr}
use Rattle.std.specs.Prelude.{Contains, find, flat_map, replicate, sum_by}
use Rattle.std.proofs.lemmas.Bool.{cases_Bool}
use Rattle.std.proofs.lemmas.Option.{same_Some}
use Rattle.std.proofs.lemmas.List.{append_assoc, append-nil}
use Rattle.std.proofs.lemmas.List.Concat.{flat_map-append}
use Rattle.std.proofs.lemmas.List.Elements.{Contains-append_cases, Contains-append_left, Contains-append_right, filter_map-append}
use Rattle.std.proofs.lemmas.List.Sums.{sum_by-append}
use Rattle.eq_net.specs.declared.types.NetInfo.{NetInfo}
use Rattle.eq_net.specs.declared.types.WordBit.{WordBit}
use Rattle.eq_net.specs.Meaning.{if_there}
use Rattle.eq_net.specs.Net.{bits_of, number_of}
use Rattle.eq_net.specs.Tree.{Tree}
use Rattle.eq_verilog.specs.Trees.{StmtTree, ItemTree}
use Rattle.eq_verilog.specs.Scopes.{Scope}
use Rattle.eq_verilog.specs.Registers.{Process, following, itself, run, sets}
use Rattle.eq_flatten.specs.declared.driving.Slot.{Slot}
use Rattle.eq_flatten.specs.declared.driving.Slot.TheVariants.{Free, Once, Twice}
use Rattle.eq_flatten.specs.Driving.{after, slot_at}
use Rattle.eq_flatten.specs.Rendering.{KeepsFront}
use Rattle.eq_flatten.proofs.Equated.{count_append, count_one}
use Rattle.eq_flatten.proofs.Listing.{only}
use Rattle.eq_flatten.proofs.Scoped.{get_inside}
use Rattle.eq_flatten.proofs.Truths.{true_false}
use Rattle.eq_layout.specs.Spending.{process_cost}
use Rattle.eq_registers.specs.declared.keys.Keys.{Keys}
use Rattle.eq_registers.specs.declared.stepping.Next.{Next}
use Rattle.eq_registers.specs.Collecting.{IsKeyed}
use Rattle.eq_registers.specs.Following.{HasNext}
use Rattle.eq_registers.specs.Running.{HasKeys}
use Rattle.eq_registers.specs.Standing.{StandsFor}
use Rattle.eq_registers.proofs.Grown.{keeps_all, keeps_twice}
use Rattle.eq_registers.proofs.Placed.{all_places, some_at}
use Rattle.eq_registers.proofs.Stood.{stands_later}
use Rattle.eq_registers.proofs.Written.{bit_below}
use Rattle.eq_sequential.specs.Setting.{setters_of, sets_bit, AreFollowed, SlotFollows}
use Rattle.eq_sequential.specs.inner.Placing.{AreOnce, IsPut}
use Rattle.eq_sequential.proofs.PutLemmas.{free_at}
use Rattle.eq_sequential.specs.inner.Processing.{processes_in, AddsBody, AddsProcesses}

-- the places of keys are one of each
pub keys_once : (keys : Keys) → HasKeys keys.bits keys.places → AreOnce keys.bits
keys_once keys h p q b one other = same_Some p q (sym (h.placed b p one) ∙ h.placed b q other)

module _ (nets : List NetInfo) where
  -- no always item
  pub none_followed : (words : List Tree) (n : ℕ) → AreFollowed nets words [] (replicate n Free)
  none_followed words n b less = subst (λ (s : Slot). SlotFollows nets words [] b s) (sym (free_at n b)) refl

  -- ---- one more

  module _ (old new : List Tree) (grown : KeepsFront old new) where
    later : (ps : List Process) (b : ℕ) (s : Slot) → SlotFollows nets old ps b s → SlotFollows nets new ps b s
    later ps b Free says = says
    later ps b (Once w) says = (
      says.0,
      (
        says.1.0,
        says.1.1,
        record {
          sets_it = says.1.2.sets_it;
          stands = stands_later nets old new w (run says.1.0.scope says.1.0.body itself b) grown says.1.2.stands;
        },
      ),
    )
    later ps b Twice says = says

    module _ (ps : List Process) (p : Process) where
      counted : (b : ℕ) (t : Bool) → sets_bit b p ≡ t →
          setters_of (ps ++ p ∷ []) b ≡ setters_of ps b + cond {A = ℕ} t 1 0
      counted b t is =
          (let c = count_append (sets_bit b) ps (p ∷ []) in
          let o = count_one (sets_bit b) p t is in
          omega (arith, c, o))

      -- a bit that it doesn't set
      other_bit : (b : ℕ) (s : Slot) → sets_bit b p ≡ false → SlotFollows nets old ps b s →
          SlotFollows nets new (ps ++ p ∷ []) b s
      other_bit b Free none says = (let c = counted b false none in omega (arith, c, says))
      other_bit b (Once w) none says =
          let g = later ps b (Once w) says in (
            (let c = counted b false none in let d = says.0 in omega (arith, c, d)),
            (g.1.0, Contains-append_left ps (p ∷ []) g.1.0 g.1.1, g.1.2),
          )
      other_bit b Twice none says = (let c = counted b false none in omega (arith, c, says))

      -- a bit that it sets
      its_bit : (b : ℕ) (w : WordBit) (s : Slot) → sets_bit b p ≡ true →
          StandsFor nets new w (run p.scope p.body itself b) → SlotFollows nets old ps b s →
          SlotFollows nets new (ps ++ p ∷ []) b (after s w)
      its_bit b w Free is stands says = (
        (let c = counted b true is in omega (arith, c, says)),
        (p, Contains-append_right ps (p ∷ []) p (0, omega arith, refl), record { sets_it = is; stands = stands }),
      )
      its_bit b w (Once v) is stands says = (let c = counted b true is in let d = says.0 in omega (arith, c, d))
      its_bit b w Twice is stands says = (let c = counted b true is in omega (arith, c, says))

  module _ (p : Process) (old new : List Tree) (next : Next) (h : HasNext nets p.scope p.body old new next)
      (before filled : List Slot)
      (put : IsPut next.keys.bits next.table before filled (length next.keys.bits)) where
    -- a bit that it sets has an entry
    at_set : (ps : List Process) (b : ℕ) → sets_bit b p ≡ true → SlotFollows nets old ps b (slot_at before b) →
        SlotFollows nets new (ps ++ p ∷ []) b (slot_at filled b)
    at_set ps b is says =
        let key = h.collected.all b is in
        let there = get_inside next.keys.bits key.0 b key.1 in
        let size = h.size in
        let entry = some_at next.table key.0 (omega (arith, there, size)) in
        subst (λ (s : Slot). SlotFollows nets new (ps ++ p ∷ []) b s)
        (sym (put.here key.0 b entry.0 there key.1 entry.1))
        (its_bit old new h.extends ps p b entry.0 (slot_at before b) is
        (h.values key.0 b entry.0 key.1 entry.1) says)

    at_other : (ps : List Process) (b : ℕ) → sets_bit b p ≡ false → SlotFollows nets old ps b (slot_at before b) →
        SlotFollows nets new (ps ++ p ∷ []) b (slot_at filled b)
    at_other ps b none says =
        subst (λ (s : Slot). SlotFollows nets new (ps ++ p ∷ []) b s)
        (sym (put.others b (λ k less is. true_false (sets_bit b p) (h.collected.only b (k, is)) none)))
        (other_bit old new h.extends ps p b (slot_at before b) none says)

    one_followed : (ps : List Process) → AreFollowed nets old ps before → AreFollowed nets new (ps ++ p ∷ []) filled
    one_followed ps so_far b less =
        let size = put.size in
        let says = so_far b (omega (arith, less, size)) in
        elim (cases_Bool (sets_bit b p)) [
          | inl is ↦ at_set ps b is says
          | inr none ↦ at_other ps b none says
        ]

  -- what the body of an always item sets is added
  pub body_added : (s : Scope) (body : StmtTree) (old new : List Tree) (next : Next) (before filled : List Slot) →
      HasNext nets s body old new next →
      IsPut next.keys.bits next.table before filled (length next.keys.bits) →
      AddsBody nets s body old new before filled
  body_added s body old new next before filled h put event = record {
    extends = h.extends;
    words = λ are. h.words;
    size = put.size;
    followed = λ earlier so_far.
        one_followed (record { scope = s; event = event; body = body }) old new next h before filled put earlier so_far;
    costs = h.costs;
  }

  -- ---- several

  pub adds_no_processes : (words : List Tree) (slots : List Slot) → AddsProcesses nets words words slots slots [] 0
  adds_no_processes words slots = record {
    extends = keeps_all words;
    words = λ are. are;
    size = refl;
    followed = λ earlier so_far. subst (λ ps. AreFollowed nets words ps slots) (sym (append-nil earlier)) so_far;
    costs = omega arith;
  }

  processes_then : (a b c : List Tree) (x y z : List Slot) (ps qs : List Process) (m n : ℕ)
      → AddsProcesses nets a b x y ps m → AddsProcesses nets b c y z qs n
      → AddsProcesses nets a c x z (ps ++ qs) (m + n)
  processes_then a b c x y z ps qs m n one other = record {
    extends = keeps_twice a b c one.extends other.extends;
    words = λ are. other.words (one.words are);
    size = other.size ∙ one.size;
    followed = λ earlier so_far.
        subst (λ rs. AreFollowed nets c rs z) (append_assoc earlier ps qs)
        (other.followed (earlier ++ ps) (one.followed earlier so_far));
    costs = (let p = one.costs in let q = other.costs in omega (arith, p, q));
  }

  one_more : {X : Type 0} (g : X → ℕ) (xs : List X) (u : X) → sum_by g (xs ++ u ∷ []) ≡ sum_by g xs + g u
  one_more g xs u =
      (let p = sum_by-append g xs (u ∷ []) in
      let o : sum_by g (u ∷ []) ≡ 0 + g u = refl in
      omega (arith, p, o))

  -- those of one item more
  pub processes_next : (s : Scope) (is : List ItemTree) (i : ItemTree) (a b c : List Tree) (x y z : List Slot)
      → AddsProcesses nets a b x y (processes_in s is) (sum_by (process_cost s) is)
      → AddsProcesses nets b c y z (processes_in s (i ∷ [])) (process_cost s i)
      → AddsProcesses nets a c x z (processes_in s (is ++ i ∷ [])) (sum_by (process_cost s) (is ++ i ∷ []))
  processes_next s is i a b c x y z so_far one =
      subst (λ ps. AddsProcesses nets a c x z ps (sum_by (process_cost s) (is ++ i ∷ [])))
      (sym (filter_map-append _ is (i ∷ [])))
      (subst (λ n. AddsProcesses nets a c x z (processes_in s is ++ processes_in s (i ∷ [])) n)
      (sym (one_more (process_cost s) is i))
      (processes_then a b c x y z (processes_in s is) (processes_in s (i ∷ [])) (sum_by (process_cost s) is)
      (process_cost s i) so_far one))

  -- those of one more of anything that has some
  pub processes_each : {X : Type 0} (f : X → List Process) (g : X → ℕ) (xs : List X) (u : X) (a b c : List Tree)
      (x y z : List Slot) → AddsProcesses nets a b x y (flat_map f xs) (sum_by g xs)
      → AddsProcesses nets b c y z (f u) (g u)
      → AddsProcesses nets a c x z (flat_map f (xs ++ u ∷ [])) (sum_by g (xs ++ u ∷ []))
  processes_each f g xs u a b c x y z so_far one =
      subst (λ ps. AddsProcesses nets a c x z ps (sum_by g (xs ++ u ∷ [])))
      (sym (flat_map-append f xs (u ∷ []) ∙ ap (λ ps. flat_map f xs ++ ps) (append-nil (f u))))
      (subst (λ n. AddsProcesses nets a c x z (flat_map f xs ++ f u) n) (sym (one_more g xs u))
      (processes_then a b c x y z (flat_map f xs) (f u) (sum_by g xs) (g u) so_far one))

-- ---- the first that sets a bit

module _ (b : ℕ) where
  heads : (p : Process) (ps : List Process) (t : Bool) → sets_bit b p ≡ t →
      setters_of (p ∷ ps) b ≡ cond {A = ℕ} t 1 0 + setters_of ps b
  heads p ps t h =
      (let c = count_append (sets_bit b) (p ∷ []) ps in
      let o = count_one (sets_bit b) p t h in
      omega (arith, c, o))

  abbrev first : List Process → Option Process
  first ps = find (λ (p : Process). sets p.scope p.body b) ps

  found_now : (p : Process) (ps : List Process) (t : Bool) → sets_bit b p ≡ t →
      first (p ∷ ps) ≡ cond t (Some p) (first ps)
  found_now p ps t h = ap (λ (t : Bool). cond t (Some p) (first ps)) h

  -- where none sets it, none is found
  none_sets : (ps : List Process) → setters_of ps b ≡ 0 → first ps ≡ None
  none_sets [] h = refl
  none_sets (p ∷ ps) h = elim (cases_Bool (sets_bit b p)) [
    | inl is ↦ absurd (let c = heads p ps true is in omega (arith, c, h))
    | inr none ↦ found_now p ps false none ∙ none_sets ps (let c = heads p ps false none in omega (arith, c, h))
  ]

  some_sets : (ps : List Process) (q : Process) → Contains ps q → sets_bit b q ≡ true → 0 < setters_of ps b
  some_sets [] q has is = absurd (let e = has.1 in omega (arith, e))
  some_sets (p ∷ ps) q has is = elim (Contains-append_cases (p ∷ []) ps q has) [
    | inl here ↦
        let c = heads p ps true (ap (λ (r : Process). sets_bit b r) (only p q here.0 here.1 here.2) ∙ is) in
        omega (arith, c)
    | inr there ↦
        let c = heads p ps (sets_bit b p) refl in
        let d = some_sets ps q there is in
        omega (arith, c, d)
  ]

  -- the only one that sets it is found
  one_sets : (ps : List Process) (q : Process) → Contains ps q → sets_bit b q ≡ true → setters_of ps b ≡ 1 →
      first ps ≡ Some q
  one_sets [] q has is one = absurd (let e = has.1 in omega (arith, e))
  one_sets (p ∷ ps) q has is one = elim (cases_Bool (sets_bit b p)) [
    | inl mine ↦
        let c = heads p ps true mine in
        elim (Contains-append_cases (p ∷ []) ps q has) [
          | inl here ↦ found_now p ps true mine ∙ ap (λ (r : Process). Some r) (only p q here.0 here.1 here.2)
          | inr there ↦ absurd (let d = some_sets ps q there is in omega (arith, c, d, one))
        ]
    | inr other ↦
        let c = heads p ps false other in
        elim (Contains-append_cases (p ∷ []) ps q has) [
          | inl here ↦
              absurd (true_false (sets_bit b p)
              (ap (λ (r : Process). sets_bit b r) (only p q here.0 here.1 here.2) ∙ is) other)
          | inr there ↦ found_now p ps false other ∙ one_sets ps q there is (omega (arith, c, one))
        ]
  ]

  -- a bit that no always item sets keeps its value
  pub none_follows : (ps : List Process) → setters_of ps b ≡ 0 → following ps b ≡ itself b
  none_follows ps h =
      ap (λ (o : Option Process). if_there (itself b) (λ (p : Process). run p.scope p.body itself b) o) (none_sets ps h)

  -- and one that one sets has what that leaves
  pub one_follows : (ps : List Process) (q : Process) → Contains ps q → sets_bit b q ≡ true → setters_of ps b ≡ 1 →
      following ps b ≡ run q.scope q.body itself b
  one_follows ps q has is one =
      ap (λ (o : Option Process). if_there (itself b) (λ (p : Process). run p.scope p.body itself b) o)
      (one_sets ps q has is one)

-- the keys are bits of the nets
pub keys_below : (nets : List NetInfo) (keys : Keys) (m : ℕ) → m ≡ bits_of nets → IsKeyed nets keys →
    All (λ (b : ℕ). b < m) keys.bits
keys_below nets keys m are h = all_places (λ (b : ℕ). b < m) keys.bits (λ p b is.
    let less = get_inside keys.bits p b is in
    let size = h.size in
    let n = some_at keys.names p (omega (arith, less, size)) in
    let named = h.named p n.0 n.1 in
    let below = bit_below nets n.0.net n.0.bit named.0.0 named.0.1 in
    let same : number_of nets n.0 ≡ b = same_Some (number_of nets n.0) b (sym named.1 ∙ is) in
    omega (arith, below, same, are))
