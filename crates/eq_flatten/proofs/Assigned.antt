-- The equation of an assignment, from the bits of its target and the word of its right side.
use Rattle.std.proofs.Common.{◌≡◌, ℕ, ◌+◌, ◌<◌, max, List, [], ◌∷◌, ◌++◌, length, map, Option, Result, Ok, Err, refl, arith, sym, ap, ap₂, subst, ◌∙◌}
use Rattle.std.specs.Prelude.{sum_by, OnOk}
use Rattle.std.proofs.lemmas.List.{append_assoc, append-nil, length-append, map-append}
use Rattle.std.proofs.lemmas.List.Sums.{sum_by-append}
use Rattle.eq_names.specs.declared.BitName.{BitName}
use Rattle.eq_net.specs.declared.types.NetInfo.{NetInfo}
use Rattle.eq_net.specs.Tree.{Tree}
use Rattle.eq_net.specs.Meaning.{cost_of}
use Rattle.eq_net.specs.Net.{AreWords, word_at}
use Rattle.eq_verilog.specs.Trees.{ExprTree}
use Rattle.eq_verilog.specs.Scopes.{Scope}
use Rattle.eq_verilog.specs.Sizes.{context, own}
use Rattle.eq_verilog.specs.Expressions.{wire}
use Rattle.eq_verilog.specs.Costs.{cost, side_cost}
use Rattle.eq_verilog.specs.Equations.{Equation, assignment, place_below, place_in}
use Rattle.eq_flatten.specs.declared.driving.Slot.{Slot}
use Rattle.eq_flatten.specs.Driving.{filled, slot_at, AreWired, IsApart}
use Rattle.eq_flatten.specs.Equating.{AddsEquations, AreEquated, AreDriven, AreStarts, DrivesAll}
use Rattle.eq_flatten.specs.Meant.{AreMeant}
use Rattle.eq_flatten.specs.Rendering.{KeepsFront, Makes, Renders, SameNames}
use Rattle.eq_flatten.proofs.Agreeing.{own_same, wire_same}
use Rattle.eq_flatten.proofs.Equated.{equated, slots_later}
use Rattle.eq_flatten.proofs.Numbered.{numbered_wired}
use Rattle.eq_flatten.proofs.Making.{added_word, extends_itself, extends_more, extends_twice, renders_later, words_more}

-- what follows from an answer follows of the call
pub on_ok : {T E : Type 0} {P Q : Type 0} (r : Result T E) → (P → Q) → OnOk r P → OnOk r Q
on_ok (Ok x) f h = f h
on_ok (Err e) f h = h

pub on_ok_both : {T E : Type 0} {P Q R : Type 0} (r : Result T E) → (P → Q → R) → OnOk r P → OnOk r Q → OnOk r R
on_ok_both (Ok x) f h g = f h g
on_ok_both (Err e) f h g = h

module _ (nets : List NetInfo) where
  -- the bits of a target in one scope are those in each that says the same of its names
  pub meant_alike : (s r : Scope) (t : ExprTree) (bits : List BitName) → SameNames s r t → AreMeant nets s t bits →
      AreMeant nets r t bits
  meant_alike s r t bits same h = record {
    there = h.there;
    size = h.size ∙ own_same s r t same;
    wires = λ j. h.wires j ∙ wire_same s r t same j;
  }

  pub apart_alike : (s r : Scope) (t : ExprTree) → SameNames s r t → IsApart (wire s t) → IsApart (wire r t)
  apart_alike s r t same h i j b one other =
      h i j b (wire_same s r t same i ∙ one) (wire_same s r t same j ∙ other)

  -- an equation from its parts
  pub adds_one : (ts ss : Scope) (t e : ExprTree) (bits : List BitName) (w : ℕ) (old mid new : List Tree) (x : Tree)
      (before after : List Slot) → AreMeant nets ts t bits → IsApart (wire ts t) → Makes nets ss e w old mid x
      → w ≡ context ts t ss e → AreEquated nets bits x mid new before after
      → AddsEquations nets old new before after (assignment ts t ss e ∷ []) (side_cost ss e (own ts t))
  adds_one ts ss t e bits w old mid new x before after meant apart makes width made =
      let last : KeepsFront mid new = subst (λ ws. KeepsFront mid ws) (sym made.added) (extends_more mid x) in
      let at : word_at new (length mid) ≡ x = ap (λ ws. word_at ws (length mid)) made.added ∙ added_word mid x in
      let there : length mid < length new =
      (let a = ap (λ (ws : List Tree). length ws) made.added in
      let b = length-append mid (x ∷ []) in
      omega (arith, a, b)) in
      let E : Equation = assignment ts t ss e in
      record {
        extends = extends_twice old mid new makes.extends last;
        words = λ are. subst (λ ws. AreWords nets ws) (sym made.added)
            (words_more nets mid x (makes.words are) makes.renders.is_word);
        size = made.size;
        driven = λ earlier so_far.
            equated nets old new (extends_twice old mid new makes.extends last) earlier E (length mid) before after there
            (subst (λ y. Renders nets new ss e (context ts t ss e) y) (sym at)
            (subst (λ n. Renders nets new ss e n x) width
            (renders_later nets mid new ss e w x last makes.renders)))
            made.size
            (λ b. made.filled (wire ts t) meant.wires apart b
            ∙ ap (λ n. filled (slot_at before b) (length mid) (place_below n (wire ts t) b)) meant.size)
            so_far;
        costs =
            (let p = makes.costs in
            let a = ap (λ (ws : List Tree). sum_by cost_of ws) made.added in
            let b = sum_by-append cost_of mid (x ∷ []) in
            let o : sum_by cost_of (x ∷ []) ≡ 0 + cost_of x = refl in
            let c = ap (λ n. cost ss e n) width in
            omega (arith, p, a, b, o, c));
      }

  -- an assignment from one scope to another
  pub assigned : (ts ss : Scope) (t e : ExprTree) (bits : List BitName) (w n : ℕ) (old mid new : List Tree) (x : Tree)
      (before after : List Slot) → AreMeant nets ts t bits → IsApart (wire ts t) → Makes nets ss e w old mid x
      → w ≡ max n (own ss e) → n ≡ length bits → AreEquated nets bits x mid new before after
      → AddsEquations nets old new before after (assignment ts t ss e ∷ []) (side_cost ss e (own ts t))
  assigned ts ss t e bits w n old mid new x before after meant apart makes width size made =
      adds_one ts ss t e bits w old mid new x before after meant apart makes
      (width ∙ ap (λ k. max k (own ss e)) (size ∙ meant.size)) made

  -- the bits of a target, as the code drives them
  pub bits_driven : (s : Scope) (t : ExprTree) (starts : List ℕ) (bits : List BitName) (k : ℕ) (before after : List Slot)
      → AreStarts nets starts → AreMeant nets s t bits
      → ((f : ℕ → Option ℕ) → AreWired starts bits f → IsApart f → (b : ℕ) →
      slot_at after b ≡ filled (slot_at before b) k (place_below (length bits) f b))
      → IsApart (wire s t) → (b : ℕ) → slot_at after b ≡ filled (slot_at before b) k (place_in s t b)
  bits_driven s t starts bits k before after are meant driven apart b =
      driven (wire s t) (numbered_wired nets starts are bits (wire s t) meant.there meant.wires) apart b
      ∙ ap (λ n. filled (slot_at before b) k (place_below n (wire s t) b)) meant.size

  -- an output of one bit is driven by a word of one bit
  pub output_driven : (s : Scope) (t e : ExprTree) (words : List Tree) (k : ℕ) (before after : List Slot)
      → k < length words → Renders nets words s e 1 (word_at words k) → own s t ≡ 1 → own s e ≡ 1
      → length after ≡ length before
      → ((b : ℕ) → slot_at after b ≡ filled (slot_at before b) k (place_in s t b))
      → (earlier : List Equation) → AreDriven nets words earlier before →
      AreDriven nets words (earlier ++ assignment s t s e ∷ []) after
  output_driven s t e words k before after there renders one size same goes earlier so_far =
      equated nets words words (extends_itself words) earlier (assignment s t s e) k before after there
      (subst (λ n. Renders nets words s e n (word_at words k)) (sym (ap₂ (λ a b. max a b) one size)) renders)
      same goes so_far

  -- outputs one by one
  pub outputs_none : (s : Scope) (k : ℕ) (before : List Slot) → DrivesAll nets s k [] before before
  outputs_none s k before = record {
    size = refl;
    driven = λ words e there renders size earlier so_far.
        subst (λ es. AreDriven nets words es before) (sym (append-nil earlier)) so_far;
  }

  pub outputs_more : (s : Scope) (k : ℕ) (ts : List ExprTree) (t : ExprTree) (before mid after : List Slot)
      → DrivesAll nets s k ts before mid → own s t ≡ 1 → length after ≡ length mid
      → ((b : ℕ) → slot_at after b ≡ filled (slot_at mid b) k (place_in s t b))
      → DrivesAll nets s k (ts ++ t ∷ []) before after
  outputs_more s k ts t before mid after so_far one same goes = record {
    size = same ∙ so_far.size;
    driven = λ words e there renders size earlier driven.
        let f : ExprTree → Equation = λ x. assignment s x s e in
        subst (λ es. AreDriven nets words es after)
        (append_assoc earlier (map f ts) (f t ∷ []) ∙ ap (λ es. earlier ++ es) (sym (map-append f ts (t ∷ []))))
        (output_driven s t e words k mid after there renders one size same goes (earlier ++ map f ts)
        (so_far.driven words e there renders size earlier driven));
  }

  -- a gate: its word, and then its outputs
  pub gate_added : (s : Scope) (ts : List ExprTree) (e : ExprTree) (old mid new : List Tree) (x : Tree) (k : ℕ)
      (before after : List Slot) → own s e ≡ 1 → Makes nets s e 1 old mid x → new ≡ mid ++ x ∷ [] → k ≡ length mid
      → DrivesAll nets s k ts before after
      → AddsEquations nets old new before after (map (λ t. assignment s t s e) ts) (cost s e 1)
  gate_added s ts e old mid new x k before after size makes added number drives =
      let last : KeepsFront mid new = subst (λ ws. KeepsFront mid ws) (sym added) (extends_more mid x) in
      let at : word_at new k ≡ x =
      ap (λ n. word_at new n) number ∙ ap (λ ws. word_at ws (length mid)) added ∙ added_word mid x in
      let there : k < length new =
      (let a = ap (λ (ws : List Tree). length ws) added in
      let b = length-append mid (x ∷ []) in
      omega (arith, a, b, number)) in
      record {
        extends = extends_twice old mid new makes.extends last;
        words = λ are. subst (λ ws. AreWords nets ws) (sym added)
            (words_more nets mid x (makes.words are) makes.renders.is_word);
        size = drives.size;
        driven = λ earlier so_far.
            drives.driven new e there
            (subst (λ y. Renders nets new s e 1 y) (sym at) (renders_later nets mid new s e 1 x last makes.renders)) size
            earlier (slots_later nets old new (extends_twice old mid new makes.extends last) earlier before so_far);
        costs =
            (let p = makes.costs in
            let a = ap (λ (ws : List Tree). sum_by cost_of ws) added in
            let b = sum_by-append cost_of mid (x ∷ []) in
            let o : sum_by cost_of (x ∷ []) ≡ 0 + cost_of x = refl in
            omega (arith, p, a, b, o));
      }
