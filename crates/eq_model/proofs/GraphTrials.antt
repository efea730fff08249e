-- Systems of nodes that follow a system's drivers, and such that don't.
use Rattle.std.proofs.Common.{◌≡◌, ℕ, zero, suc, ◌<◌, true, false, ◌||◌, refl, arith, ap}
use Rattle.eq_model.specs.System.{Values, System, IsHeld}
use Rattle.eq_model.specs.Graph.{is_own, InnerComputes, DrivesNode, IsGraphOf}
use Rattle.eq_model.specs.Table.{design}
use Rattle.eq_model.specs.PartExamples.{shared_bits, shared_nodes, own_node, nodes_begun_low, nodes_given, nodes_open_high}

abbrev bits : System
bits = (design shared_bits).system

abbrev nodes : System
nodes = (design shared_nodes).system

pub shared_follows : IsGraphOf bits nodes own_node
shared_follows = record { nodes = there; once = once; others = others; drivers = drivers }
  where
    there : (b : ℕ) → b < 4 → own_node b < 5
    there zero lb = omega arith
    there (suc zero) lb = omega arith
    there (suc (suc zero)) lb = omega arith
    there (suc (suc (suc b))) lb = omega arith

    back : (b : ℕ) → b < 4 → (n : ℕ) → own_node b ≡ n → (c : ℕ) → c < 4 → own_node c ≡ n → b ≡ c
    back zero lb n e zero lc f = refl
    back (suc zero) lb n e (suc zero) lc f = refl
    back (suc (suc zero)) lb n e (suc (suc zero)) lc f = refl
    back (suc (suc (suc b))) lb n e (suc (suc (suc c))) lc f = omega arith
    back zero lb n e (suc zero) lc f = absurd (let g : 0 ≡ n = e in let h : 4 ≡ n = f in omega arith)
    back zero lb n e (suc (suc zero)) lc f = absurd (let g : 0 ≡ n = e in let h : 1 ≡ n = f in omega arith)
    back zero lb n e (suc (suc (suc c))) lc f = absurd (let g : 0 ≡ n = e in let h : 3 ≡ n = f in omega arith)
    back (suc zero) lb n e zero lc f = absurd (let g : 4 ≡ n = e in let h : 0 ≡ n = f in omega arith)
    back (suc zero) lb n e (suc (suc zero)) lc f = absurd (let g : 4 ≡ n = e in let h : 1 ≡ n = f in omega arith)
    back (suc zero) lb n e (suc (suc (suc c))) lc f = absurd (let g : 4 ≡ n = e in let h : 3 ≡ n = f in omega arith)
    back (suc (suc zero)) lb n e zero lc f = absurd (let g : 1 ≡ n = e in let h : 0 ≡ n = f in omega arith)
    back (suc (suc zero)) lb n e (suc zero) lc f = absurd (let g : 1 ≡ n = e in let h : 4 ≡ n = f in omega arith)
    back (suc (suc zero)) lb n e (suc (suc (suc c))) lc f =
        absurd (let g : 1 ≡ n = e in let h : 3 ≡ n = f in omega arith)
    back (suc (suc (suc b))) lb n e zero lc f = absurd (let g : 3 ≡ n = e in let h : 0 ≡ n = f in omega arith)
    back (suc (suc (suc b))) lb n e (suc zero) lc f = absurd (let g : 3 ≡ n = e in let h : 4 ≡ n = f in omega arith)
    back (suc (suc (suc b))) lb n e (suc (suc zero)) lc f =
        absurd (let g : 3 ≡ n = e in let h : 1 ≡ n = f in omega arith)

    once : (a b : ℕ) → a < 4 → b < 4 → own_node a ≡ own_node b → a ≡ b
    once a b la lb e = back a la (own_node b) e b lb refl

    others : (m : ℕ) → m < 5 → is_own 4 own_node m ≡ false → IsHeld (nodes.driver m) → ⊥
    others zero lm e h = cc
    others (suc zero) lm e h = cc
    others (suc (suc zero)) lm e h = h
    others (suc (suc (suc zero))) lm e h = h
    others (suc (suc (suc (suc zero)))) lm e h = h
    others (suc (suc (suc (suc (suc m))))) lm e h = absurd (omega arith)

    drivers : (b : ℕ) → b < 4 → DrivesNode nodes 4 own_node (bits.driver b) (nodes.driver (own_node b))
    drivers zero lb = tt
    drivers (suc zero) lb = λ x inner. ap (λ a. a || x 3) (inner 2 (omega arith) refl)
    drivers (suc (suc zero)) lb = (refl, λ x inner. inner 2 (omega arith) refl)
    drivers (suc (suc (suc zero))) lb = λ x inner. refl
    drivers (suc (suc (suc (suc b)))) lb = absurd (omega arith)

pub initial_refused : IsGraphOf bits (design nodes_begun_low).system own_node → ⊥
initial_refused g = (let e : true ≡ false = (g.drivers 2 (omega arith)).0 in cc)

pub given_refused : IsGraphOf bits (design nodes_given).system own_node → ⊥
given_refused g = g.others 2 (omega arith) refl tt

-- all nodes are 0
abbrev zeros : Values
zeros m = false

zeros_compute : InnerComputes (design nodes_open_high).system 4 own_node zeros
zeros_compute zero lm e = absurd (cc)
zeros_compute (suc zero) lm e = absurd (cc)
zeros_compute (suc (suc zero)) lm e = refl
zeros_compute (suc (suc (suc zero))) lm e = absurd (cc)
zeros_compute (suc (suc (suc (suc zero)))) lm e = absurd (cc)
zeros_compute (suc (suc (suc (suc (suc m))))) lm e = absurd (omega arith)

pub high_refused : IsGraphOf bits (design nodes_open_high).system own_node → ⊥
high_refused g = (let e : true ≡ false = g.drivers 3 (omega arith) zeros zeros_compute in cc)
