-- Nets of designs and of none.
use Rattle.std.proofs.Common.{◌≡◌, ◌≢◌, ℕ, zero, suc, ◌<◌, List, [], ◌∷◌, slice_index_or, Option, Some, None, AllPairs, Contains, ◌↔◌, ◌⊎◌, refl, arith, sym, ap, subst, ◌∙◌, inl, inr}
use Rattle.std.specs.Option.{ForSome}
use Rattle.eq_model.specs.System.{IsSystem, IsInput}
use Rattle.eq_model.specs.Nets.{is_input, IsPort, NetName, Net, net_width, HasNet}
use Rattle.eq_model.specs.Run.{IsDesign, dir}
use Rattle.eq_model.specs.DesignExamples.{k_name, w_name, y_name, n_name, k_net, w_net, y_net, n_net, four_nets, without_n, two_of_y, inner_k, input_y, seven_drivers, with_nets, headed}
use Rattle.eq_model.proofs.TableNets.{contained_cases}

-- one net after another

first_or_later : (n : Net) (ns : List Net) (name : NetName) (P : Net → Type 0) → HasNet (n ∷ ns) name P →
    ((n.name ≡ name) × P n) ⊎ HasNet ns name P
first_or_later n ns name P h = elim (contained_cases n ns h.0 h.1) [
  | inl e ↦ inl ((ap (λ (m : Net). m.name) e ∙ h.2), subst P (sym e) h.3)
  | inr c ↦ inr (h.0, c, h.2, h.3)
]

none_left : (name : NetName) (P : Net → Type 0) → HasNet [] name P → ⊥
none_left name P h = (let c = h.1 in let lt : c.0 < 0 = c.1 in absurd (omega arith))

module _ (name : NetName) (P : Net → Type 0) (a b c d : Net) where
  -- where each net has another name or lacks P, no net has both
  no_net : ((a.name ≡ name) → P a → ⊥) → ((b.name ≡ name) → P b → ⊥) → ((c.name ≡ name) → P c → ⊥) →
      ((d.name ≡ name) → P d → ⊥) →
      HasNet (a ∷ b ∷ c ∷ d ∷ []) name P → ⊥
  no_net na nb nc nd h = elim (first_or_later a (b ∷ c ∷ d ∷ []) name P h) [
    | inl x ↦ na x.0 x.1
    | inr h ↦ (elim (first_or_later b (c ∷ d ∷ []) name P h) [
      | inl x ↦ nb x.0 x.1
      | inr h ↦ (elim (first_or_later c (d ∷ []) name P h) [
        | inl x ↦ nc x.0 x.1
        | inr h ↦ (elim (first_or_later d [] name P h) [ inl x ↦ nd x.0 x.1 | inr h ↦ none_left name P h ])
      ])
    ])
  ]

abbrev is_clock_net : Net → Type 0
is_clock_net n = (n.dir ≡ is_input) × (net_width n ≡ 1)

-- the design

sound : IsSystem (with_nets four_nets headed None).system
sound zero lt = tt
sound (suc zero) lt = tt
sound (suc (suc zero)) lt = tt
sound (suc (suc (suc zero))) lt = tt
sound (suc (suc (suc (suc zero)))) lt = record {
  bounded = λ b c. read_there c.0 b c.1 c.2;
  respects = λ v w same. same 2 (0, omega arith, refl);
}
  where
    read_there : (k b : ℕ) → k < 1 → slice_index_or {A = ℕ} (2 ∷ []) k b ≡ b → b < 7
    read_there zero b lt e = omega arith
    read_there (suc k) b lt e = absurd (omega arith)
sound (suc (suc (suc (suc (suc b))))) lt = tt

names_apart : AllPairs (λ m n. m.name ≢ n.name) four_nets
names_apart i zero d lt lj e = absurd (omega arith)
names_apart zero (suc zero) d lt lj e = cc
names_apart (suc i) (suc zero) d lt lj e = absurd (omega arith)
names_apart zero (suc (suc zero)) d lt lj e = cc
names_apart (suc zero) (suc (suc zero)) d lt lj e = cc
names_apart (suc (suc i)) (suc (suc zero)) d lt lj e = absurd (omega arith)
names_apart zero (suc (suc (suc zero))) d lt lj e = cc
names_apart (suc zero) (suc (suc (suc zero))) d lt lj e = cc
names_apart (suc (suc zero)) (suc (suc (suc zero))) d lt lj e = cc
names_apart (suc (suc (suc i))) (suc (suc (suc zero))) d lt lj e = absurd (omega arith)
names_apart i (suc (suc (suc (suc j)))) d lt lj e = absurd (omega arith)

ports_apart : AllPairs (λ p q. p ≢ q) headed
ports_apart i zero d lt lj e = absurd (omega arith)
ports_apart zero (suc zero) d lt lj e = cc
ports_apart (suc i) (suc zero) d lt lj e = absurd (omega arith)
ports_apart zero (suc (suc zero)) d lt lj e = cc
ports_apart (suc zero) (suc (suc zero)) d lt lj e = cc
ports_apart (suc (suc i)) (suc (suc zero)) d lt lj e = absurd (omega arith)
ports_apart i (suc (suc (suc j))) d lt lj e = absurd (omega arith)

seven_inputs : (b : ℕ) → b < 7 → IsInput (seven_drivers b) ↔ (dir (with_nets four_nets headed None) b ≡ is_input)
seven_inputs zero lt = ((λ _. refl), (λ _. tt))
seven_inputs (suc zero) lt = ((λ _. refl), (λ _. tt))
seven_inputs (suc (suc zero)) lt = ((λ _. refl), (λ _. tt))
seven_inputs (suc (suc (suc zero))) lt = ((λ _. refl), (λ _. tt))
seven_inputs (suc (suc (suc (suc zero)))) lt = ((λ h. absurd h), (λ e. absurd (cc)))
seven_inputs (suc (suc (suc (suc (suc zero))))) lt = ((λ h. absurd h), (λ e. absurd (cc)))
seven_inputs (suc (suc (suc (suc (suc (suc zero)))))) lt = ((λ h. absurd h), (λ e. absurd (cc)))
seven_inputs (suc (suc (suc (suc (suc (suc (suc b))))))) lt = absurd (omega arith)

nothing_listed : (name : NetName) → Contains [] name → ⊥
nothing_listed name c = (let lt : c.0 < 0 = c.1 in absurd (omega arith))

to_net : (name : NetName) → Contains headed name → HasNet four_nets name (λ n. IsPort n.dir)
to_net name c = elim (contained_cases y_name (k_name ∷ w_name ∷ []) name c) [
  | inl e ↦ (y_net, (2, omega arith, refl), e, tt)
  | inr c ↦ (elim (contained_cases k_name (w_name ∷ []) name c) [
    | inl e ↦ (k_net, (0, omega arith, refl), e, tt)
    | inr c ↦ (elim (contained_cases w_name [] name c) [
      | inl e ↦ (w_net, (1, omega arith, refl), e, tt)
      | inr c ↦ absurd (nothing_listed name c)
    ])
  ])
]

to_name : (name : NetName) → HasNet four_nets name (λ n. IsPort n.dir) → Contains headed name
to_name name h = elim (first_or_later k_net (w_net ∷ y_net ∷ n_net ∷ []) name (λ n. IsPort n.dir) h) [
  | inl x ↦ (1, omega arith, x.0)
  | inr h ↦ (elim (first_or_later w_net (y_net ∷ n_net ∷ []) name (λ n. IsPort n.dir) h) [
    | inl x ↦ (2, omega arith, x.0)
    | inr h ↦ (elim (first_or_later y_net (n_net ∷ []) name (λ n. IsPort n.dir) h) [
      | inl x ↦ (0, omega arith, x.0)
      | inr h ↦ (elim (first_or_later n_net [] name (λ n. IsPort n.dir) h) [
        | inl x ↦ absurd x.1
        | inr h ↦ absurd (none_left name (λ n. IsPort n.dir) h)
      ])
    ])
  ])
]

-- whatever clock is named, where it is an input of one bit
four_nets_are : (clock : Option NetName) → ForSome clock (λ name. HasNet four_nets name is_clock_net) →
    IsDesign (with_nets four_nets headed clock)
four_nets_are clock is = record {
  drivers = sound;
  widths = refl;
  names = names_apart;
  inputs = seven_inputs;
  ports_once = ports_apart;
  ports = λ name. (to_net name, to_name name);
  clocked = is;
}

k_clock : ForSome (Some k_name) (λ name. HasNet four_nets name is_clock_net)
k_clock name e = (k_net, (0, omega arith, refl), (let f : k_name ≡ name = cc in f), (refl, refl))

pub clocked_is : IsDesign (with_nets four_nets headed (Some k_name))
clocked_is = four_nets_are (Some k_name) k_clock

pub unclocked_is : IsDesign (with_nets four_nets headed None)
unclocked_is = four_nets_are None (λ name e. absurd (cc))

-- what is no design

pub widths_refused : IsDesign (with_nets without_n headed None) → ⊥
widths_refused is = (let e = is.widths in omega arith)

pub names_refused : IsDesign (with_nets two_of_y headed None) → ⊥
names_refused is = is.names 2 3 k_net (omega arith) (omega arith) refl

pub inputs_refused : IsDesign (with_nets inner_k (w_name ∷ y_name ∷ []) None) → ⊥
inputs_refused is = (let e = (is.inputs 0 (omega arith)).0 tt in cc)

pub driven_refused : IsDesign (with_nets input_y headed None) → ⊥
driven_refused is = (is.inputs 4 (omega arith)).1 refl

pub twice_refused : IsDesign (with_nets four_nets (y_name ∷ k_name ∷ w_name ∷ y_name ∷ []) None) → ⊥
twice_refused is = is.ports_once 0 3 [] (omega arith) (omega arith) refl

pub left_out_refused : IsDesign (with_nets four_nets (k_name ∷ w_name ∷ []) None) → ⊥
left_out_refused is =
    elim (contained_cases k_name (w_name ∷ []) y_name ((is.ports y_name).1 (y_net, (2, omega arith, refl), refl, tt))) [
      | inl e ↦ cc
      | inr c ↦ (elim (contained_cases w_name [] y_name c) [ inl e ↦ cc | inr c ↦ nothing_listed y_name c ])
    ]

pub inner_refused : IsDesign (with_nets four_nets (y_name ∷ k_name ∷ w_name ∷ n_name ∷ []) None) → ⊥
inner_refused is =
    no_net n_name (λ n. IsPort n.dir) k_net w_net y_net n_net (λ e p. cc) (λ e p. cc) (λ e p. cc) (λ e p. p) ((is.ports n_name).0 (3, omega arith, refl))

y_no_clock : (y_net.name ≡ y_name) → is_clock_net y_net → ⊥
y_no_clock e p = (let f = p.0 in cc)

w_no_clock : (w_net.name ≡ w_name) → is_clock_net w_net → ⊥
w_no_clock e p = (let f = p.1 in omega arith)

pub output_clock_refused : IsDesign (with_nets four_nets headed (Some y_name)) → ⊥
output_clock_refused is =
    no_net y_name is_clock_net k_net w_net y_net n_net (λ e p. cc) (λ e p. cc) y_no_clock (λ e p. cc)
    (is.clocked y_name refl)

pub wide_clock_refused : IsDesign (with_nets four_nets headed (Some w_name)) → ⊥
wide_clock_refused is =
    no_net w_name is_clock_net k_net w_net y_net n_net (λ e p. cc) w_no_clock (λ e p. cc) (λ e p. cc)
    (is.clocked w_name refl)

pub no_clock_refused : IsDesign (with_nets four_nets headed (Some [])) → ⊥
no_clock_refused is =
    no_net [] is_clock_net k_net w_net y_net n_net (λ e p. cc) (λ e p. cc) (λ e p. cc) (λ e p. cc) (is.clocked [] refl)
