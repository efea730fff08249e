-- Ports one after another, and their nets by name.
use Rattle.std.proofs.Common.{◌≡◌, ◌≢◌, ℕ, zero, suc, ◌+◌, ◌<◌, ◌≤◌, List, [], ◌∷◌, ◌++◌, Bool, true, false, not, ◌||◌, ◌==◌, cond, map, take, length, slice_index_or, AllPairs, Option, Some, None, refl, arith, sym, ap, subst, ◌∙◌, inl, inr}
use Rattle.std.specs.Prelude.{find, bytes_eq, option_map}
use Rattle.std.specs.List.{list_any, position_or_len}
use Rattle.std.specs.Cmp.Lexicographic.{bytes_decides}
use Rattle.std.proofs.lemmas.Bool.{cases_Bool, cases_lt, eqb-true, false≢true, false_from_ne_true, lt-ltb, le-ltb}
use Rattle.std.proofs.lemmas.List.{get_or_default, get_or-map, get_or-take, length-map, take_more}
use Rattle.std.proofs.lemmas.List.Sums.{fails_before_first, passes_at_first}
use Rattle.std.proofs.Math.Seq.{length-take-le}
use Rattle.eq_model.specs.Nets.{Net, NetName, net_width, range_width}
use Rattle.eq_names.specs.Tables.{number_of, with_name}
use Rattle.eq_net.specs.declared.types.NetInfo.{NetInfo}
use Rattle.eq_model.specs.Run.{Design}
use Rattle.eq_net.specs.declared.types.Dir.{Dir}
use Rattle.eq_net.specs.declared.types.Dir.TheVariants.{Inner, Input as InputPort, Output as OutputPort}
use Rattle.eq_net.specs.Meaning.{if_there}
use Rattle.eq_net.specs.Numbers.{differ}
use Rattle.eq_net.specs.Nets.{net_of, range_of, side_of, width_of}
use Rattle.eq_net.specs.Net.{IsClock, IsNet, IsPortNet, Parts, bits_of, name_at, net_at, nets_of, no_net}
use Rattle.eq_verilog.specs.Declarations.{comes_in, has}
use Rattle.eq_marks.specs.Ports.{first_port, is_input_of, net_named, port_width}
use Rattle.eq_marks.specs.inner.Headers.{NonePasses, is_input_net, is_missing}
use Rattle.eq_marks.proofs.Pigeons.{pigeonhole}

-- ---- the first that passes

-- the first place that passes is the answer
first_is : (test : NetName → Bool) (ns : List NetName) (i : ℕ) → i < length ns → NonePasses test ns i → test
    (slice_index_or ns i []) ≡ true → first_port test ns ≡ Some i
first_is test [] i lt none here = absurd (omega arith)
first_is test (n ∷ ns) zero lt none here = ap (λ b. cond b (Some zero) (option_map suc (first_port test ns))) here
first_is test (n ∷ ns) (suc i) lt none here =
    ap (λ b. cond b (Some zero) (option_map suc (first_port test ns))) (none 0 (omega arith))
    ∙ ap (option_map suc) (first_is test ns i (omega arith) (λ j less. none (suc j) (omega arith)) here)

pub first_here : (test : NetName → Bool) (ns : List NetName) (i : ℕ) (n : NetName) → i < length ns → n ≡ slice_index_or
    ns i [] → NonePasses test ns i → test n ≡ true → Some i ≡ first_port test ns
first_here test ns i n lt is none here = sym (first_is test ns i lt none (ap test (sym is) ∙ here))

pub none_more : (test : NetName → Bool) (ns : List NetName) (i : ℕ) (n : NetName) → n ≡ slice_index_or ns i [] →
    NonePasses test ns i → test n ≡ false → NonePasses test ns (i + 1)
none_more test ns i n is none here j lt = elim (cases_lt j i) [
  | inl less ↦ none j less
  | inr more ↦ (let same : j ≡ i = omega arith in ap (λ k. test (slice_index_or ns k [])) same ∙ ap test (sym is) ∙
      here)
]

none_passes : (test : NetName → Bool) (ns : List NetName) → NonePasses test ns (length ns) → first_port test ns ≡ None
none_passes test [] none = refl
none_passes test (n ∷ ns) none =
    ap (λ b. cond b (Some zero) (option_map suc (first_port test ns))) (none 0 (omega arith))
    ∙ ap (option_map suc) (none_passes test ns (λ j less. none (suc j) (omega arith)))

pub first_nowhere : (test : NetName → Bool) (ns : List NetName) (i : ℕ) → length ns ≡ i → NonePasses test ns i → None ≡
    first_port test ns
first_nowhere test ns i all none = sym (none_passes test ns (λ j lt. none j (omega arith)))

map_none : (o : Option ℕ) → option_map suc o ≡ None → o ≡ None
map_none None e = refl
map_none (Some n) e = absurd (cc)

some_none : (n : ℕ) → ◌≡◌ {A = Option ℕ} (Some n) None → ⊥
some_none n e = absurd (cc)

first_rest : (test : NetName → Bool) (n : NetName) (ns : List NetName) → first_port test (n ∷ ns) ≡ None → (test n ≡
    false) × (first_port test ns ≡ None)
first_rest test n ns none = elim (cases_Bool (test n)) [
  | inl here ↦ absurd (some_none 0 (sym (ap (λ b. cond b (Some zero) (option_map suc (first_port test ns))) here) ∙
      none))
  | inr other ↦ (
    other,
    map_none (first_port test ns) (sym (ap (λ b. cond b (Some zero) (option_map suc (first_port
        test ns))) other) ∙ none),
  )
]

-- where none is the first, none passes
pub none_at : (test : NetName → Bool) (ns : List NetName) (i : ℕ) → first_port test ns ≡ None → i < length ns → test
    (slice_index_or ns i []) ≡ false
none_at test [] i none lt = absurd (omega arith)
none_at test (n ∷ ns) zero none lt = (first_rest test n ns none).0
none_at test (n ∷ ns) (suc i) none lt = none_at test ns i (first_rest test n ns none).1 (omega arith)

is_there : (a : Bool) → not a ≡ false → a ≡ true
is_there true e = refl
is_there false e = absurd (false≢true (sym e))

-- where none is missing, each is there
pub has_at : (others ns : List NetName) (i : ℕ) → first_port (is_missing others) ns ≡ None → i < length ns → has others
    (slice_index_or ns i []) ≡ true
has_at others ns i none lt = is_there (has others (slice_index_or ns i [])) (none_at (is_missing others) ns i none lt)

-- ---- names in a list

pub any_at : (ns : List NetName) (n : NetName) → has ns n ≡ true → (j : ℕ) × (j < length ns) × (slice_index_or ns j []
    ≡ n)
any_at [] n any = absurd (false≢true any)
any_at (x ∷ xs) n any = elim (cases_Bool (bytes_eq n x)) [
  | inl here ↦ (0, omega arith, sym ((bytes_decides n x).0 here))
  | inr other ↦
      let Q : Bool → Type 0 = λ b. (b || has xs n) ≡ true in
      let later = any_at xs n (subst Q other any) in
      (suc later.0, (let lt = later.1 in omega arith), later.2)
]

-- the name that was found stands at its number
pub found_at : (ns : List NetName) (n : NetName) (i : ℕ) → Some i ≡ number_of ns n → (i < length ns) × (slice_index_or
    ns i [] ≡ n)
found_at ns n i is =
    let place = position_or_len (λ name. bytes_eq n name) ns in
    elim (cases_lt place (length ns)) [
      | inl less ↦
          let two : Some i ≡ Some place = is ∙ ap (λ b. cond b (Some place) None) (lt-ltb place (length ns) less) in
          let same : i ≡ place = cc in
          let here : bytes_eq n (slice_index_or ns place []) ≡ true = passes_at_first (λ name. bytes_eq n name) ns []
          less in (
            omega arith,
            ap (λ k. slice_index_or ns k []) same ∙ sym ((bytes_decides n (slice_index_or ns place [])).0
                here),
          )
      | inr past ↦ absurd (some_none i (is ∙ ap (λ b. cond b (Some place) None) (le-ltb place (length ns) (omega
          arith))))
    ]

-- ---- nets by name

module _ (nets : List NetInfo) (apart : AllPairs (λ a b. a.name ≢ b.name) nets) where
  -- nets of one name are one net
  pub same_net : (i k : ℕ) → i < length nets → k < length nets → name_at nets i ≡ name_at nets k → i ≡ k
  same_net i k li lk e = elim (cases_lt i k) [
    | inl less ↦ absurd (apart i k no_net less lk e)
    | inr ge ↦ (elim (cases_lt k i) [
      | inl less ↦ absurd (apart k i no_net less li (sym e))
      | inr le ↦ omega arith
    ])
  ]

-- the net with its own name is found
pub found_net : (nets : List NetInfo) → AllPairs (λ a b. a.name ≢ b.name) nets → (k : ℕ) → k < length nets →
    find (λ (m : Net). bytes_eq (name_at nets k) m.name) (nets_of nets) ≡ Some (net_of (net_at nets k))
found_net [] apart k lt = absurd (omega arith)
found_net (x ∷ xs) apart zero lt =
    ap (λ b. cond b (Some (net_of x)) (find (λ (m : Net). bytes_eq x.name m.name) (nets_of xs))) ((bytes_decides x.name
    x.name).1 refl)
found_net (x ∷ xs) apart (suc k) lt =
    let other : bytes_eq (name_at xs k) x.name ≡ false = false_from_ne_true (bytes_eq (name_at xs k) x.name)
    (λ same. apart 0 (suc k) no_net (omega arith) lt (sym ((bytes_decides (name_at xs k) x.name).0 same))) in
    ap (λ b. cond b (Some (net_of x)) (find (λ (m : Net). bytes_eq (name_at xs k) m.name) (nets_of xs))) other
    ∙ found_net xs (λ i j d less there. apart (suc i) (suc j) d (omega arith) (omega arith)) k (omega arith)

-- ---- how many ports there are

range_some : (r : Option (ℕ × ℕ)) → 0 < range_width r
range_some None = omega arith
range_some (Some r) = omega arith

width_some : (n : NetInfo) → 0 < width_of n
width_some n = range_some (range_of n)

no_more_nets : (nets : List NetInfo) → length nets ≤ bits_of nets
no_more_nets [] = omega arith
no_more_nets (x ∷ xs) = (let h = no_more_nets xs in let w = width_some x in omega arith)

-- a port has the name of its net
pub port_named : (n : Parts) (i : ℕ) → i < length n.ports → slice_index_or (map (name_at n.nets) n.ports) i [] ≡
    name_at n.nets (slice_index_or n.ports i 0)
port_named n i lt =
    let m = length-map n.ports (name_at n.nets) in
    get_or_default (map (name_at n.nets) n.ports) i [] (name_at n.nets 0) (omega arith) ∙ get_or-map (name_at n.nets)
    n.ports i 0 (name_at n.nets 0) lt

module _ (n : Parts) (net : IsNet n) where
  one_port : (i j : ℕ) → i < length n.ports → j < length n.ports → slice_index_or n.ports i 0 ≡ slice_index_or n.ports
      j 0 → i ≡ j
  one_port i j li lj e = elim (cases_lt i j) [
    | inl less ↦ absurd (net.ports_apart i j 0 less lj e)
    | inr ge ↦ (elim (cases_lt j i) [
      | inl less ↦ absurd (net.ports_apart j i 0 less li (sym e))
      | inr le ↦ omega arith
    ])
  ]

  pub few_ports : length n.ports ≤ 2000000
  few_ports =
      let a = pigeonhole (length n.ports) (length n.nets) (λ i. slice_index_or n.ports i 0) (λ i lt. (net.ports_are i 0
      lt).0) one_port in
      let b = no_more_nets n.nets in
      let c = net.covered in
      let d = net.limited in
      omega arith

  -- one more name comes behind the others
  pub next_port : (i k : ℕ) (old new : List NetName) → i < length n.ports → k < length n.nets → name_at n.nets k ≡
      slice_index_or (map (name_at n.nets) n.ports) i [] →
      old ≡ take i (map (name_at n.nets) n.ports) → new ≡ with_name old (name_at n.nets k) → new ≡ take (i + 1) (map
      (name_at n.nets) n.ports)
  next_port i k old new lt there named before after =
      let ns = map (name_at n.nets) n.ports in
      let m = length-map n.ports (name_at n.nets) in
      let fresh : has (take i ns) (name_at n.nets k) ≡ false = false_from_ne_true (has (take i ns) (name_at n.nets k))
      (λ any.
      let at = any_at (take i ns) (name_at n.nets k) any in
      let size = length-take-le i ns (omega arith) in
      let within = at.1 in
      let less : at.0 < i = omega arith in
      let lp : at.0 < length n.ports = omega arith in
      let one = sym (port_named n at.0 lp) ∙ sym (get_or-take i ns at.0 [] less) ∙ at.2 ∙ named ∙ port_named n i lt in
      let same = same_net n.nets net.names (slice_index_or n.ports at.0 0) (slice_index_or n.ports i 0) (net.ports_are
      at.0 0 lp).0 (net.ports_are i 0 lt).0 one in
      net.ports_apart at.0 i 0 less lt same) in
      after ∙ ap (λ (os : List NetName). with_name os (name_at n.nets k)) before
      ∙ ap (λ b. cond b (take i ns) (take i ns ++ name_at n.nets k ∷ [])) fresh
      ∙ ap (λ (x : NetName). take i ns ++ x ∷ []) named
      ∙ sym (take_more ns i [] (omega arith))

-- ---- directions and widths

direction_of : (d : Dir) → is_input_net d ≡ comes_in (side_of d)
direction_of Inner = refl
direction_of InputPort = refl
direction_of OutputPort = refl

pub differ_nothing : (x : Bool) → x ≡ differ x false
differ_nothing true = refl
differ_nothing false = refl

module _ (d : Design) (n : NetName) where
  pub is_input_there : (m : NetInfo) → Some (net_of m) ≡ net_named d n → is_input_net m.dir ≡ is_input_of d n
  is_input_there m is = direction_of m.dir ∙ ap (if_there false (λ (x : Net). comes_in x.dir)) is

  pub is_input_nowhere : None ≡ net_named d n → false ≡ is_input_of d n
  is_input_nowhere is = ap (if_there false (λ (x : Net). comes_in x.dir)) is

  pub width_there : (m : NetInfo) → Some (net_of m) ≡ net_named d n → width_of m ≡ port_width d n
  width_there m is = ap (if_there 0 net_width) is

  pub width_nowhere : None ≡ net_named d n → 0 ≡ port_width d n
  width_nowhere is = ap (if_there 0 net_width) is

-- ---- names that are ports

-- the first port of a name has the name's number
pub first_found : (ns : List NetName) (n : NetName) → number_of ns n ≡ first_port (bytes_eq n) ns
first_found ns n =
    let p : NetName → Bool = λ name. bytes_eq n name in
    let place = position_or_len p ns in
    elim (cases_lt place (length ns)) [
      | inl less ↦ ap (λ b. cond b (Some place) None) (lt-ltb place (length ns) less)
          ∙ sym (first_is (bytes_eq n) ns place less (λ j lt. fails_before_first p ns j [] lt) (passes_at_first p ns []
          less))
      | inr past ↦ ap (λ b. cond b (Some place) None) (le-ltb place (length ns) (omega arith))
          ∙ sym (none_passes (bytes_eq n) ns (λ j lt. fails_before_first p ns j [] (omega arith)))
    ]

or_true : (a b : Bool) → b ≡ true → (a || b) ≡ true
or_true true b e = refl
or_true false b e = e

outside : ◌≡◌ {A = Dir} InputPort Inner → ⊥
outside e = absurd (cc)

any_mapped : (f : ℕ → NetName) (ps : List ℕ) (k : ℕ) → list_any (λ p. p == k) ps ≡ true → has (map f ps) (f k) ≡ true
any_mapped f [] k any = absurd (false≢true any)
any_mapped f (p ∷ ps) k any = elim (cases_Bool (p == k)) [
  | inl here ↦
      let same : k ≡ p = sym (eqb-true p k here) in
      ap (λ b. b || has (map f ps) (f k)) ((bytes_decides (f k) (f p)).1 (ap f same))
  | inr other ↦
      let Q : Bool → Type 0 = λ b. (b || list_any (λ p. p == k) ps) ≡ true in
      let later = any_mapped f ps k (subst Q other any) in
      or_true (bytes_eq (f k) (f p)) (has (map f ps) (f k)) later
]

-- a net that is a port has its name in the header
pub has_port : (n : Parts) → IsNet n → (k : ℕ) → IsPortNet n.nets k → has (map (name_at n.nets) n.ports) (name_at
    n.nets k) ≡ true
has_port n net k port = any_mapped (name_at n.nets) n.ports k (net.all_ports k port)

-- where none is missing, the others have each
pub has_other : (others ns : List NetName) (n : NetName) → first_port (is_missing others) ns ≡ None → has ns n ≡ true →
    has others n ≡ true
has_other others ns n none any =
    let at = any_at ns n any in
    ap (has others) (sym at.2) ∙ has_at others ns at.0 none at.1

-- a clock is a port
pub clock_port : (nets : List NetInfo) (k : ℕ) → IsClock nets k → IsPortNet nets k
clock_port nets k c = (c.0, λ e. outside (sym c.2 ∙ e))
