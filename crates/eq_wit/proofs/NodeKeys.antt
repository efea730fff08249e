-- Which node a line of the form of one is, by its first word.
use Rattle.std.proofs.Common.{◌≡◌, ℕ, Bool, List, ◌∷◌, refl, sym}
use Rattle.std.specs.Prelude.{codes}
use Rattle.eq_bits.specs.declared.node.Node.{Node}
use Rattle.eq_bits.specs.declared.node.Node.TheVariants.{Const, Input, Not, And, Xor, Mux, Buf, Reg}
use Rattle.eq_wit.specs.Line.{HasForm}
use Rattle.eq_wit.specs.Texts.{node_line}
use Rattle.eq_wit.proofs.InputForms.{differ}
use Rattle.eq_wit.proofs.Words.{Words}

pub node_const : (node : Node) (ws : Words) → HasForm (node_line node) (codes "const" ∷ ws) → (b : Bool) × (node ≡ Const b)
node_const (Const b) ws h = (b, refl)
node_const (Input i) ws h = absurd (differ (codes "input") (codes "const") refl refl (sym h.0))
node_const (Not a) ws h = absurd (differ (codes "not") (codes "const") refl refl (sym h.0))
node_const (And a b) ws h = absurd (differ (codes "and") (codes "const") refl refl (sym h.0))
node_const (Xor a b) ws h = absurd (differ (codes "xor") (codes "const") refl refl (sym h.0))
node_const (Mux s a b) ws h = absurd (differ (codes "mux") (codes "const") refl refl (sym h.0))
node_const (Buf a) ws h = absurd (differ (codes "buf") (codes "const") refl refl (sym h.0))
node_const (Reg next init) ws h = absurd (differ (codes "reg") (codes "const") refl refl (sym h.0))

pub node_input : (node : Node) (ws : Words) → HasForm (node_line node) (codes "input" ∷ ws) → (i : ℕ) × (node ≡ Input i)
node_input (Const b) ws h = absurd (differ (codes "const") (codes "input") refl refl (sym h.0))
node_input (Input i) ws h = (i, refl)
node_input (Not a) ws h = absurd (differ (codes "not") (codes "input") refl refl (sym h.0))
node_input (And a b) ws h = absurd (differ (codes "and") (codes "input") refl refl (sym h.0))
node_input (Xor a b) ws h = absurd (differ (codes "xor") (codes "input") refl refl (sym h.0))
node_input (Mux s a b) ws h = absurd (differ (codes "mux") (codes "input") refl refl (sym h.0))
node_input (Buf a) ws h = absurd (differ (codes "buf") (codes "input") refl refl (sym h.0))
node_input (Reg next init) ws h = absurd (differ (codes "reg") (codes "input") refl refl (sym h.0))

pub node_not : (node : Node) (ws : Words) → HasForm (node_line node) (codes "not" ∷ ws) → (a : ℕ) × (node ≡ Not a)
node_not (Const b) ws h = absurd (differ (codes "const") (codes "not") refl refl (sym h.0))
node_not (Input i) ws h = absurd (differ (codes "input") (codes "not") refl refl (sym h.0))
node_not (Not a) ws h = (a, refl)
node_not (And a b) ws h = absurd (differ (codes "and") (codes "not") refl refl (sym h.0))
node_not (Xor a b) ws h = absurd (differ (codes "xor") (codes "not") refl refl (sym h.0))
node_not (Mux s a b) ws h = absurd (differ (codes "mux") (codes "not") refl refl (sym h.0))
node_not (Buf a) ws h = absurd (differ (codes "buf") (codes "not") refl refl (sym h.0))
node_not (Reg next init) ws h = absurd (differ (codes "reg") (codes "not") refl refl (sym h.0))

pub node_and : (node : Node) (ws : Words) → HasForm (node_line node) (codes "and" ∷ ws) → (a : ℕ) × (b : ℕ) × (node ≡ And a b)
node_and (Const b) ws h = absurd (differ (codes "const") (codes "and") refl refl (sym h.0))
node_and (Input i) ws h = absurd (differ (codes "input") (codes "and") refl refl (sym h.0))
node_and (Not a) ws h = absurd (differ (codes "not") (codes "and") refl refl (sym h.0))
node_and (And a b) ws h = (a, b, refl)
node_and (Xor a b) ws h = absurd (differ (codes "xor") (codes "and") refl refl (sym h.0))
node_and (Mux s a b) ws h = absurd (differ (codes "mux") (codes "and") refl refl (sym h.0))
node_and (Buf a) ws h = absurd (differ (codes "buf") (codes "and") refl refl (sym h.0))
node_and (Reg next init) ws h = absurd (differ (codes "reg") (codes "and") refl refl (sym h.0))

pub node_xor : (node : Node) (ws : Words) → HasForm (node_line node) (codes "xor" ∷ ws) → (a : ℕ) × (b : ℕ) × (node ≡ Xor a b)
node_xor (Const b) ws h = absurd (differ (codes "const") (codes "xor") refl refl (sym h.0))
node_xor (Input i) ws h = absurd (differ (codes "input") (codes "xor") refl refl (sym h.0))
node_xor (Not a) ws h = absurd (differ (codes "not") (codes "xor") refl refl (sym h.0))
node_xor (And a b) ws h = absurd (differ (codes "and") (codes "xor") refl refl (sym h.0))
node_xor (Xor a b) ws h = (a, b, refl)
node_xor (Mux s a b) ws h = absurd (differ (codes "mux") (codes "xor") refl refl (sym h.0))
node_xor (Buf a) ws h = absurd (differ (codes "buf") (codes "xor") refl refl (sym h.0))
node_xor (Reg next init) ws h = absurd (differ (codes "reg") (codes "xor") refl refl (sym h.0))

pub node_mux : (node : Node) (ws : Words) → HasForm (node_line node) (codes "mux" ∷ ws) → (s : ℕ) × (a : ℕ) × (b : ℕ) × (node ≡ Mux s a b)
node_mux (Const b) ws h = absurd (differ (codes "const") (codes "mux") refl refl (sym h.0))
node_mux (Input i) ws h = absurd (differ (codes "input") (codes "mux") refl refl (sym h.0))
node_mux (Not a) ws h = absurd (differ (codes "not") (codes "mux") refl refl (sym h.0))
node_mux (And a b) ws h = absurd (differ (codes "and") (codes "mux") refl refl (sym h.0))
node_mux (Xor a b) ws h = absurd (differ (codes "xor") (codes "mux") refl refl (sym h.0))
node_mux (Mux s a b) ws h = (s, a, b, refl)
node_mux (Buf a) ws h = absurd (differ (codes "buf") (codes "mux") refl refl (sym h.0))
node_mux (Reg next init) ws h = absurd (differ (codes "reg") (codes "mux") refl refl (sym h.0))

pub node_buf : (node : Node) (ws : Words) → HasForm (node_line node) (codes "buf" ∷ ws) → (a : ℕ) × (node ≡ Buf a)
node_buf (Const b) ws h = absurd (differ (codes "const") (codes "buf") refl refl (sym h.0))
node_buf (Input i) ws h = absurd (differ (codes "input") (codes "buf") refl refl (sym h.0))
node_buf (Not a) ws h = absurd (differ (codes "not") (codes "buf") refl refl (sym h.0))
node_buf (And a b) ws h = absurd (differ (codes "and") (codes "buf") refl refl (sym h.0))
node_buf (Xor a b) ws h = absurd (differ (codes "xor") (codes "buf") refl refl (sym h.0))
node_buf (Mux s a b) ws h = absurd (differ (codes "mux") (codes "buf") refl refl (sym h.0))
node_buf (Buf a) ws h = (a, refl)
node_buf (Reg next init) ws h = absurd (differ (codes "reg") (codes "buf") refl refl (sym h.0))

pub node_reg : (node : Node) (ws : Words) → HasForm (node_line node) (codes "reg" ∷ ws) → (next : ℕ) × (init : Bool) × (node ≡ Reg next init)
node_reg (Const b) ws h = absurd (differ (codes "const") (codes "reg") refl refl (sym h.0))
node_reg (Input i) ws h = absurd (differ (codes "input") (codes "reg") refl refl (sym h.0))
node_reg (Not a) ws h = absurd (differ (codes "not") (codes "reg") refl refl (sym h.0))
node_reg (And a b) ws h = absurd (differ (codes "and") (codes "reg") refl refl (sym h.0))
node_reg (Xor a b) ws h = absurd (differ (codes "xor") (codes "reg") refl refl (sym h.0))
node_reg (Mux s a b) ws h = absurd (differ (codes "mux") (codes "reg") refl refl (sym h.0))
node_reg (Buf a) ws h = absurd (differ (codes "buf") (codes "reg") refl refl (sym h.0))
node_reg (Reg next init) ws h = (next, init, refl)

-- a line with another first word is no node's
pub node_key : (node : Node) (w : List ℕ) (ws : Words) → (w ≡ codes "const" → ⊥) → (w ≡ codes "input" → ⊥) → (w ≡ codes "not" → ⊥) → (w ≡ codes "and" → ⊥) → (w ≡ codes "xor" → ⊥) → (w ≡ codes "mux" → ⊥) → (w ≡ codes "buf" → ⊥) → (w ≡ codes "reg" → ⊥) →
    HasForm (node_line node) (w ∷ ws) → ⊥
node_key (Const b) w ws no_const no_input no_not no_and no_xor no_mux no_buf no_reg h = no_const h.0
node_key (Input i) w ws no_const no_input no_not no_and no_xor no_mux no_buf no_reg h = no_input h.0
node_key (Not a) w ws no_const no_input no_not no_and no_xor no_mux no_buf no_reg h = no_not h.0
node_key (And a b) w ws no_const no_input no_not no_and no_xor no_mux no_buf no_reg h = no_and h.0
node_key (Xor a b) w ws no_const no_input no_not no_and no_xor no_mux no_buf no_reg h = no_xor h.0
node_key (Mux s a b) w ws no_const no_input no_not no_and no_xor no_mux no_buf no_reg h = no_mux h.0
node_key (Buf a) w ws no_const no_input no_not no_and no_xor no_mux no_buf no_reg h = no_buf h.0
node_key (Reg next init) w ws no_const no_input no_not no_and no_xor no_mux no_buf no_reg h = no_reg h.0
