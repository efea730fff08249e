-- The bits of a select are bits of its net, and the words of names and selects.
use Rattle.std.proofs.Common.{◌≡◌, ℕ, ◌+◌, ◌-◌, ◌<◌, ◌≤◌, max, min, Bool, true, false, nat_le, ◌&&◌, cond, List, length, Option, Some, None, Result, Ok, Err, IfOk, refl, arith, subst, ◌⊎◌, inl, inr}
use Rattle.std.proofs.lemmas.Bool.{and_parts, leb-true}
use Rattle.std.proofs.lemmas.Bool.Decides.{leb_tells}
use Rattle.eq_model.specs.Nets.{range_width}
use Rattle.eq_vlex.specs.declared.token.Constant.{Constant}
use Rattle.eq_net.specs.declared.types.NetInfo.{NetInfo}
use Rattle.eq_net.specs.Numbers.{digit}
use Rattle.eq_net.specs.Tree as word
use Rattle.eq_net.specs.Tree.{Tree}
use Rattle.eq_verilog.specs.Trees.{Name, Range, const, net, bit, part}
use Rattle.eq_verilog.specs.Scopes.{Scope, is_falling, is_inside, is_select, position, span, width}
use Rattle.eq_analysis.specs.Finding.{net_in, scope_of}
use Rattle.eq_flatten.specs.Forms.{numbered, net_bits}
use Rattle.eq_flatten.specs.Rendering.{Makes}
use Rattle.eq_flatten.proofs.Making.{makes_none}
use Rattle.eq_flatten.proofs.Rendered.{renders_constant, renders_read}

pub if_ok : {T E : Type 0} {P Q : T → Type 0} (r : Result T E) → ((x : T) → P x → Q x) → IfOk r P → IfOk r Q
if_ok (Ok x) f h = f x h
if_ok (Err e) f h = h

between : (l r i : ℕ) → is_inside (l, r) i ≡ true → (min l r ≤ i) × (i ≤ max l r)
between l r i h =
    let parts = and_parts (nat_le (min l r) i) (nat_le i (max l r)) h in
    (leb-true (min l r) i parts.0, leb-true i (max l r) parts.1)

module _ (d e l r : ℕ) (left : (min d e ≤ l) × (l ≤ max d e)) (right : (min d e ≤ r) × (r ≤ max d e)) where
  room_at : (t : Bool) → (t ≡ true) × (e ≤ d) ⊎ ((t ≡ false) × (d < e)) →
      cond {A = ℕ} t (r - e) (e - r) ≤ cond {A = ℕ} t (l - e) (e - l) →
      cond {A = ℕ} t (r - e) (e - r) + ((max l r - min l r) + 1) ≤ (max d e - min d e) + 1
  room_at true (inl h) le = (let a = left.0 in let b = left.1 in let c = right.0 in let f = right.1 in let g = h.1 in
      omega arith)
  room_at false (inl h) le = absurd (cc)
  room_at true (inr h) le = absurd (cc)
  room_at false (inr h) le = (let a = left.0 in let b = left.1 in let c = right.0 in let f = right.1 in let g = h.1 in
      omega arith)

pub select_inside : (o : Option Range) (l r : ℕ) → is_select o l r ≡ true → position o r + span l r ≤ range_width o
select_inside None l r h = absurd (cc)
select_inside (Some d) l r h =
    let one = and_parts (is_inside d l && is_inside d r) (nat_le (position (Some d) r) (position (Some d) l)) h in
    let two = and_parts (is_inside d l) (is_inside d r) one.0 in
    room_at d.0 d.1 l r (between d.0 d.1 l two.0) (between d.0 d.1 r two.1) (is_falling d) (leb_tells d.1 d.0)
    (leb-true (position (Some d) r) (position (Some d) l) one.1)

pub one_index : (i : ℕ) → span i i ≡ 1
one_index i = omega arith

module _ (nets : List NetInfo) (names : List Name) (from : ℕ) where
  pub makes_net : (words : List Tree) (name : Name) (w : ℕ) → width (scope_of nets names from) name ≤ w →
      net_in names from name < length nets →
      Makes nets (scope_of nets names from) (net name) w words words
      (word.extended (word.read (net_bits (net_in names from name) 0 (width (scope_of nets names from) name))) w)
  makes_net words name w fits there =
      makes_none nets (scope_of nets names from) words (net name) w
      (word.extended (word.read (net_bits (net_in names from name) 0 (width (scope_of nets names from) name))) w)
      (renders_read nets names from name 0 (width (scope_of nets names from) name) words (net name) w
      (λ v j. refl) (λ j. refl) (λ j. refl) fits there (omega arith)) (omega arith)

  pub makes_bit : (words : List Tree) (name : Name) (i w : ℕ) → 1 ≤ w → net_in names from name < length nets →
      is_select ((scope_of nets names from).range name) i i ≡ true →
      Makes nets (scope_of nets names from) (bit name i) w words words
      (word.extended (word.read (net_bits (net_in names from name) (position ((scope_of nets names from).range name)
      i) 1)) w)
  makes_bit words name i w fits there inside =
      let o = (scope_of nets names from).range name in
      let bound = select_inside o i i inside in
      let one = one_index i in
      makes_none nets (scope_of nets names from) words (bit name i) w
      (word.extended (word.read (net_bits (net_in names from name) (position o i) 1)) w)
      (renders_read nets names from name (position o i) 1 words (bit name i) w
      (λ v j. refl) (λ j. refl) (λ j. refl) fits there (subst (λ n. position o i + n ≤ range_width o) one bound))
      (omega arith)

  pub makes_part : (words : List Tree) (name : Name) (l r w : ℕ) → span l r ≤ w → net_in names from name < length nets →
      is_select ((scope_of nets names from).range name) l r ≡ true →
      Makes nets (scope_of nets names from) (part name l r) w words words
      (word.extended (word.read (net_bits (net_in names from name) (position ((scope_of nets names from).range name)
      r) (span l r))) w)
  makes_part words name l r w fits there inside =
      let o = (scope_of nets names from).range name in
      makes_none nets (scope_of nets names from) words (part name l r) w
      (word.extended (word.read (net_bits (net_in names from name) (position o r) (span l r))) w)
      (renders_read nets names from name (position o r) (span l r) words (part name l r) w
      (λ v j. refl) (λ j. refl) (λ j. refl) fits there (select_inside o l r inside)) (omega arith)

pub makes_constant : (nets : List NetInfo) (words : List Tree) (s : Scope) (c : Constant) (w : ℕ) → c.size ≤ w →
    Makes nets s (const c) w words words (word.extended (word.const (numbered (digit c.value) c.size)) w)
makes_constant nets words s c w fits =
    makes_none nets s words (const c) w (word.extended (word.const (numbered (digit c.value) c.size)) w)
    (renders_constant nets words s c w fits) (omega arith)
