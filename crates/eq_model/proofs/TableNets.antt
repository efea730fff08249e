-- The nets of a table: one of one bit for each line, and the ports among them.
use Rattle.std.proofs.Common.{◌≡◌, ◌≢◌, ℕ, zero, suc, ◌+◌, ◌-◌, ◌<◌, List, [], ◌∷◌, length, slice_index_or, AllPairs, Contains, ◌⊎◌, ◌↔◌, refl, arith, sym, ap, subst, ◌∙◌, inl, inr}
use Rattle.std.proofs.lemmas.List.{get_or_default}
use Rattle.eq_model.specs.Nets.{Dir, inner, is_input, is_output, IsPort, NetName, Key, Net, total_width, at_bit, HasNet}
use Rattle.eq_model.specs.Run.{key, dir}
use Rattle.eq_model.specs.Table.{Signal, dir_of, signal_at, net_of_line, nets_of_lines, with_port, port_names, design}
use Rattle.eq_model.proofs.Bits.{later}

-- lists

first_contained : {X : Type 0} (x : X) (xs : List X) → Contains (x ∷ xs) x
first_contained x xs = (0, omega arith, refl)

more_contained : {X : Type 0} (x : X) (xs : List X) (y : X) → Contains xs y → Contains (x ∷ xs) y
more_contained x xs y c = (suc c.0, (let lt = c.1 in omega arith), c.2)

pub contained_cases : {X : Type 0} (x : X) (xs : List X) (y : X) → Contains (x ∷ xs) y → (x ≡ y) ⊎ Contains xs y
contained_cases {X} x xs y c = at c.0 c.1 c.2
  where
    at : (k : ℕ) → k < length (x ∷ xs) → slice_index_or (x ∷ xs) k y ≡ y → (x ≡ y) ⊎ Contains xs y
    at zero lt e = inl e
    at (suc k) lt e = inr (k, omega arith, e)

one_more : {X : Type 0} (x : X) (xs : List X) → (Contains xs x → ⊥) → AllPairs (λ p q. p ≢ q) xs →
    AllPairs (λ p q. p ≢ q) (x ∷ xs)
one_more x xs out all zero zero d lt lj e = absurd (omega arith)
one_more x xs out all zero (suc j) d lt lj e = out (j, omega arith, get_or_default xs j x d (omega arith) ∙ sym e)
one_more x xs out all (suc i) zero d lt lj e = absurd (omega arith)
one_more x xs out all (suc i) (suc j) d lt lj e = all i j d (omega arith) (omega arith) e

-- ports

port_cases : (d : Dir) (n : NetName) (ns : List NetName) (name : NetName) → Contains (with_port d n ns) name →
    (IsPort d × (n ≡ name)) ⊎ Contains ns name
port_cases inner n ns name c = inr c
port_cases is_input n ns name c = elim (contained_cases n ns name c) [ inl e ↦ inl (tt, e) | inr f ↦ inr f ]
port_cases is_output n ns name c = elim (contained_cases n ns name c) [ inl e ↦ inl (tt, e) | inr f ↦ inr f ]

port_first : (d : Dir) (n : NetName) (ns : List NetName) → IsPort d → Contains (with_port d n ns) n
port_first inner n ns h = absurd h
port_first is_input n ns h = first_contained n ns
port_first is_output n ns h = first_contained n ns

port_later : (d : Dir) (n : NetName) (ns : List NetName) (name : NetName) → Contains ns name →
    Contains (with_port d n ns) name
port_later inner n ns name c = c
port_later is_input n ns name c = more_contained n ns name c
port_later is_output n ns name c = more_contained n ns name c

port_more : (d : Dir) (n : NetName) (ns : List NetName) → (Contains ns n → ⊥) → AllPairs (λ p q. p ≢ q) ns →
    AllPairs (λ p q. p ≢ q) (with_port d n ns)
port_more inner n ns out all = all
port_more is_input n ns out all = one_more n ns out all
port_more is_output n ns out all = one_more n ns out all

port_named : (nets : List Net) (name : NetName) → Contains (port_names nets) name → HasNet nets name (λ n. IsPort n.dir)
port_named [] name c = (let lt : c.0 < 0 = c.1 in absurd (omega arith))
port_named (n ∷ ns) name c = elim (port_cases n.dir n.name (port_names ns) name c) [
  | inl h ↦ (n, first_contained n ns, h.1, h.0)
  | inr f ↦ (let t = port_named ns name f in (t.0, more_contained n ns t.0 t.1, t.2, t.3))
]

name_of_port : (nets : List Net) (name : NetName) → HasNet nets name (λ n. IsPort n.dir) →
    Contains (port_names nets) name
name_of_port [] name h = (let c = h.1 in let lt : c.0 < 0 = c.1 in absurd (omega arith))
name_of_port (n ∷ ns) name h = elim (contained_cases n ns h.0 h.1) [
  | inl e ↦ (
      let P : Net → Type 0 = λ m. IsPort m.dir in
      let Q : NetName → Type 0 = λ x. Contains (with_port n.dir n.name (port_names ns)) x in
      let same : n.name ≡ name = ap (λ (m : Net). m.name) e ∙ h.2 in
      subst Q same (port_first n.dir n.name (port_names ns) (subst P (sym e) h.3)))
  | inr c ↦ port_later n.dir n.name (port_names ns) name (name_of_port ns name (h.0, c, h.2, h.3))
]

-- the names of ports are just those of the nets that aren't inner
pub ports_are : (nets : List Net) (name : NetName) → Contains (port_names nets) name ↔
    HasNet nets name (λ n. IsPort n.dir)
ports_are nets name = (port_named nets name, name_of_port nets name)

not_twice : (n : Net) (ns : List Net) → AllPairs (λ a b. a.name ≢ b.name) (n ∷ ns) → Contains (port_names ns) n.name → ⊥
not_twice n ns apart c =
    let t = port_named ns n.name c in
    let m = t.0 in
    let at = t.1 in
    let lt : at.0 < length ns = at.1 in
    apart 0 (suc at.0) m (omega arith) (omega arith) (sym t.2 ∙ ap (λ (x : Net). x.name) (sym at.2))

-- where nets have different names, so have the ports
pub ports_once : (nets : List Net) → AllPairs (λ a b. a.name ≢ b.name) nets → AllPairs (λ p q. p ≢ q) (port_names nets)
ports_once [] apart = λ i j d lt lj. absurd (omega arith)
ports_once (n ∷ ns) apart =
    port_more n.dir n.name (port_names ns) (not_twice n ns apart) (ports_once ns (λ i j d lt lj. apart (suc i) (suc j) d (omega arith) (omega arith)))

-- lines

pub table_width : (k : ℕ) (lines : List Signal) → total_width (nets_of_lines k lines) ≡ length lines
table_width k [] = refl
table_width k (s ∷ lines) = (let e = table_width (suc k) lines in omega arith)

named_at : (k : ℕ) (lines : List Signal) (i : ℕ) (d : Net) → i < length (nets_of_lines k lines) →
    (slice_index_or (nets_of_lines k lines) i d).name ≡ (k + i) ∷ []
named_at k [] i d lt = absurd (omega arith)
named_at k (s ∷ lines) zero d lt = (let e : k ≡ k + 0 = omega arith in ap (λ x. x ∷ []) e)
named_at k (s ∷ lines) (suc i) d lt =
    (let e : suc k + i ≡ k + suc i = omega arith in named_at (suc k) lines i d (omega arith) ∙ ap (λ x. x ∷ []) e)

-- the nets of a table have different names
pub table_names : (k : ℕ) (lines : List Signal) → AllPairs (λ m n. m.name ≢ n.name) (nets_of_lines k lines)
table_names k lines i j d lt lj e =
    let f : (k + i) ∷ [] ≡ (k + j) ∷ [] = sym (named_at k lines i d (omega arith)) ∙ e ∙ named_at k lines j d lj in
    let g : k + i ≡ k + j = cc in
    absurd (omega arith)

at_line : {A : Type 0} (o : A) (f : Net → ℕ → A) (k : ℕ) (lines : List Signal) (b : ℕ) → b < length lines →
    at_bit o f (nets_of_lines k lines) b ≡ f (net_of_line (k + b) (signal_at lines b)) 0
at_line o f k [] b lt = absurd (omega arith)
at_line o f k (s ∷ lines) zero lt = (let e : k ≡ k + 0 = omega arith in ap (λ i. f (net_of_line i s) 0) e)
at_line o f k (s ∷ lines) (suc b) lt =
    let e : suc b - 1 ≡ b = omega arith in
    let g : suc k + b ≡ k + suc b = omega arith in
    later o f (net_of_line k s) (nets_of_lines (suc k) lines) (suc b) (omega arith)
    ∙ ap (at_bit o f (nets_of_lines (suc k) lines)) e
    ∙ at_line o f (suc k) lines b (omega arith) ∙ ap (λ i. f (net_of_line i (signal_at lines b)) 0) g

pub table_dir : (lines : List Signal) (b : ℕ) → b < length lines → dir (design lines) b ≡ dir_of (signal_at lines b)
table_dir lines b lt = at_line inner (λ n place. n.dir) 0 lines b lt

pub table_key : (lines : List Signal) (b : ℕ) → b < length lines → ◌≡◌ {A = Key} (key (design lines) b) (b ∷ [], 0)
table_key lines b lt =
    let e : 0 + b ≡ b = omega arith in
    at_line {A = Key} ([], 0) (λ n place. (n.name, place)) 0 lines b lt ∙ (let f : ℕ → Key = λ i. (i ∷ [], 0) in ap f e)
