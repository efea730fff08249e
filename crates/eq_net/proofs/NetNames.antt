-- The nets of a netlist as nets of a design: their names, the ports among them, and the clock.
use Rattle.std.proofs.Common.{◌≡◌, ◌≢◌, ℕ, ◌<◌, ◌==◌, List, map, slice_index_or, length, Option, Some, None, IsTrue, All, Any, AllPairs, Contains, true, refl, arith, sym, ap, subst, ◌∙◌, inl, inr}
use Rattle.std.specs.List.{list_any}
use Rattle.std.specs.Option.{ForSome, option_map}
use Rattle.std.proofs.lemmas.Bool.{cases_lt}
use Rattle.std.proofs.lemmas.Bool.Decides.{Decides-eqb}
use Rattle.std.proofs.lemmas.List.{length-map, get_or-map, get_or_default}
use Rattle.std.proofs.lemmas.List.Folds.{Any-from_list_any}
use Rattle.eq_model.specs.Nets.{is_input, IsPort, NetName, Net, net_width, HasNet}
use Rattle.eq_net.specs.declared.types.NetInfo.{NetInfo}
use Rattle.eq_net.specs.declared.types.Dir.{Dir}
use Rattle.eq_net.specs.declared.types.Dir.TheVariants.{Inner, Input as InputPort, Output as OutputPort}
use Rattle.eq_net.specs.Nets.{net_of, side_of}
use Rattle.eq_net.specs.Net.{nets_of, no_net, net_at, name_at, IsClock, IsPortNet}

net_in : (nets : List NetInfo) (k : ℕ) (d : Net) → k < length nets → slice_index_or (nets_of nets) k d ≡ net_of (net_at nets k)
net_in nets k d lt = get_or-map net_of nets k no_net d lt

contained : (nets : List NetInfo) (k : ℕ) → k < length nets → Contains (nets_of nets) (net_of (net_at nets k))
contained nets k lt = (k, (let e = length-map nets net_of in omega arith), net_in nets k (net_of (net_at nets k)) lt)

pub names_apart : (nets : List NetInfo) → AllPairs (λ m n. m.name ≢ n.name) nets → AllPairs (λ m n. m.name ≢ n.name) (nets_of nets)
names_apart nets apart i j d lt lj e =
    let size = length-map nets net_of in
    let name : Net → NetName = λ n. n.name in
    apart i j no_net lt (omega arith) (sym (ap name (net_in nets i d (omega arith))) ∙ e ∙ ap name (net_in nets j d (omega arith)))

same_number : (nets : List NetInfo) → AllPairs (λ m n. m.name ≢ n.name) nets → (i k : ℕ) → i < length nets → k < length nets → name_at nets i ≡ name_at nets k → i ≡ k
same_number nets apart i k li lk e = elim (cases_lt i k) [
  | inl less ↦ absurd (apart i k no_net less lk e)
  | inr ge ↦ (elim (cases_lt k i) [
    | inl less ↦ absurd (apart k i no_net less li (sym e))
    | inr le ↦ omega arith
  ])
]

-- ports

pub ports_apart : (nets : List NetInfo) → AllPairs (λ m n. m.name ≢ n.name) nets → (ports : List ℕ) → AllPairs (λ p q. p ≢ q) ports →
    All (IsPortNet nets) ports → AllPairs (λ p q. p ≢ q) (map (name_at nets) ports)
ports_apart nets names ports apart are i j d lt lj e =
    let size = length-map ports (name_at nets) in
    let p = slice_index_or ports i 0 in
    let q = slice_index_or ports j 0 in
    apart i j 0 lt (omega arith) (same_number nets names p q (are i 0 (omega arith)).0 (are j 0 (omega arith)).0
    (sym (get_or-map (name_at nets) ports i 0 d (omega arith)) ∙ e ∙ get_or-map (name_at nets) ports j 0 d (omega arith)))

port_side : (d : Dir) → d ≢ Inner → IsPort (side_of d)
port_side Inner ne = absurd (ne refl)
port_side InputPort ne = tt
port_side OutputPort ne = tt

side_port : (d : Dir) → IsPort (side_of d) → d ≢ Inner
side_port Inner h = λ e. h
side_port InputPort h = λ e. cc
side_port OutputPort h = λ e. cc

pub port_to : (nets : List NetInfo) (ports : List ℕ) → All (IsPortNet nets) ports → (name : NetName) → Contains (map (name_at nets) ports) name → HasNet (nets_of nets) name (λ n. IsPort n.dir)
port_to nets ports are name c =
    let size = length-map ports (name_at nets) in
    let p = slice_index_or ports c.0 0 in
    let lt : c.0 < length ports = (let at = c.1 in omega arith) in
    let is = are c.0 0 lt in
    (net_of (net_at nets p), contained nets p is.0, sym (get_or-map (name_at nets) ports c.0 0 name lt) ∙ c.2, port_side (net_at nets p).dir is.1)

-- a port's number gives its name
name_listed : (nets : List NetInfo) (ports : List ℕ) (k : ℕ) (name : NetName) → Any (λ p. (p == k) ≡ true) ports → name_at nets k ≡ name → Contains (map (name_at nets) ports) name
name_listed nets ports k name some named =
    let size = length-map ports (name_at nets) in
    let at : slice_index_or ports some.0 0 ≡ k = get_or_default ports some.0 0 some.1 some.2 ∙ some.3 ∙ (Decides-eqb some.1 k).0 some.4 in
    (some.0, (let lt = some.2 in omega arith), get_or-map (name_at nets) ports some.0 0 name some.2 ∙ ap (name_at nets) at ∙ named)

pub port_from : (nets : List NetInfo) (ports : List ℕ) → ((k : ℕ) → IsPortNet nets k → IsTrue (list_any (λ p. p == k) ports)) →
    (name : NetName) → HasNet (nets_of nets) name (λ n. IsPort n.dir) → Contains (map (name_at nets) ports) name
port_from nets ports all name h =
    let c = h.1 in
    let k = c.0 in
    let lt : k < length nets = (let size = length-map nets net_of in let at = c.1 in omega arith) in
    let same : h.0 ≡ net_of (net_at nets k) = sym c.2 ∙ net_in nets k h.0 lt in
    let P : Net → Type 0 = λ n. IsPort n.dir in
    let port = side_port (net_at nets k).dir (subst P same h.3) in
    name_listed nets ports k name (Any-from_list_any (λ (p : ℕ). p == k) ports (all k (lt, port))) (sym (ap (λ (n : Net). n.name) same) ∙ h.2)

-- the clock's net is an input of one bit
pub clock_named : (nets : List NetInfo) (clock : Option ℕ) → ForSome clock (IsClock nets) →
    ForSome (option_map (name_at nets) clock) (λ name. HasNet (nets_of nets) name (λ n. (n.dir ≡ is_input) × (net_width n ≡ 1)))
clock_named nets None is name e = absurd (cc)
clock_named nets (Some k) is name e =
    let h = is k refl in
    let named : name_at nets k ≡ name = cc in
    (net_of (net_at nets k), contained nets k h.0, named, (ap side_of h.2, h.1))
