-- Where cells compute and each bit has the value of its cell, the bits solve the cycle, and the rows of cells have the bits of
-- words.
use Rattle.std.proofs.Common.{◌≡◌, ℕ, zero, suc, ◌<◌, List, [], ◌∷◌, Bool, true, false, All, map, length, slice_index_or, refl, arith, sym, ap, ◌∙◌, inl, inr}
use Rattle.std.proofs.lemmas.List.Elements.{All-head, All-tail}
use Rattle.eq_model.specs.Frames.{values}
use Rattle.eq_model.specs.System.{Values, Cycle, IsHeld, Meets, nothing}
use Rattle.eq_net.specs.declared.cells.gates.Cell.{Cell}
use Rattle.eq_net.specs.declared.types.Driver.{Driver}
use Rattle.eq_net.specs.declared.types.Driver.TheVariants.{Input, Undriven, Expr as WordOf, Reg}
use Rattle.eq_net.specs.Net.{IsNet, NamesWord, Parts, bits_of, driver_at, number_of, source_of, system_of}
use Rattle.eq_net.specs.Tree.{Tree}
use Rattle.eq_net.specs.inner.Cells.{Valuation, Computes}
use Rattle.eq_net.specs.inner.Circuits.{AreRight, HasRows, IsSwept, cells_of, constant_number, link_of, open_link, valuation}
use Rattle.eq_net.specs.inner.Marks.{AreMarked}
use Rattle.eq_net.specs.inner.Sized.{HasWords}
use Rattle.eq_net.proofs.CellWords.{constant_value}
use Rattle.eq_net.proofs.Circuited.{length_map, map_at, map_row}
use Rattle.eq_net.proofs.Designed.{net_is_system}
use Rattle.eq_net.proofs.Marked.{mark_there, words_agree}
use Rattle.eq_net.proofs.Rounds.{same_cycle}

-- each driver names a word that is there
pub named_at : (words : List Tree) (ds : List Driver) → All (NamesWord words) ds → (b : ℕ) → NamesWord words (slice_index_or ds b Undriven)
named_at words [] all b = tt
named_at words (d ∷ ds) all zero = All-head (NamesWord words) d ds all
named_at words (d ∷ ds) all (suc b) = named_at words ds (All-tail (NamesWord words) d ds all) b

-- what is held and what is driven make a cycle
pub is_cycle : (n : Parts) (now : List Bool) (v : Values) → ((b : ℕ) → b < bits_of n.nets → IsHeld ((system_of n).driver b) → v b ≡ values now b) →
    ((b : ℕ) → b < bits_of n.nets → Meets ((system_of n).driver b) v (v b)) → Cycle (system_of n) nothing (values now) v
is_cycle n now v held met = record {
  held = λ b lt which. elim which [ inl cut ↦ absurd (cc) | inr h ↦ held b lt h ];
  driven = λ b lt uncut. met b lt;
}

marked_link : (d : Driver) (m x : Bool) (rows : List (List ℕ)) → m ≡ true → link_of d m x rows ≡ constant_number x
marked_link d true x rows e = refl
marked_link d false x rows e = absurd (cc)

open_one : (d : Driver) (m x : Bool) (rows : List (List ℕ)) → m ≡ false → link_of d m x rows ≡ open_link d x rows
open_one d true x rows e = absurd (cc)
open_one d false x rows e = refl

held_link : (n : Parts) (d : Driver) (m x : Bool) (rows : List (List ℕ)) → IsHeld (source_of n.nets n.words d) → link_of d m x rows ≡ constant_number x
held_link n Input true x rows h = refl
held_link n Input false x rows h = refl
held_link n Undriven m x rows h = absurd h
held_link n (WordOf w j) m x rows h = absurd h
held_link n (Reg i w j) true x rows h = refl
held_link n (Reg i w j) false x rows h = refl

met_by : (n : Parts) (cells : List Cell) (v : Valuation) (rows : List (List ℕ)) → Computes cells v → AreRight n v (length n.words) rows →
    (d : Driver) → NamesWord n.words d → (x y : Bool) → y ≡ v.cells (open_link d x rows) → Meets (source_of n.nets n.words d) v.bits y
met_by n cells v rows h right Input named x y e = tt
met_by n cells v rows h right Undriven named x y e = e ∙ h.false_first
met_by n cells v rows h right (WordOf w j) named x y e = e ∙ right w j named.0 named.1
met_by n cells v rows h right (Reg i w j) named x y e = tt

either : (x : Bool) {P : Type 0} → (x ≡ true → P) → (x ≡ false → P) → P
either true f g = f refl
either false f g = g refl

module _ (n : Parts) (is : IsNet n) (now done : List Bool) (words : List (List Bool)) (whole : List Bool) (size : length done ≡ bits_of n.nets) (swept : IsSwept n now done words whole)
    (cells : List Cell) (rows : List (List ℕ)) (has : HasRows n words whole (length n.words) cells rows) (links : List ℕ) (bits : List Bool)
    (linked : (b : ℕ) → b < bits_of n.nets → slice_index_or links b 0 ≡ link_of (driver_at n b) (values done b) (values now b) rows)
    (h : Computes cells (valuation links bits)) where
  v : Valuation
  v = valuation links bits

  constant : (b : ℕ) → b < bits_of n.nets → link_of (driver_at n b) (values done b) (values now b) rows ≡ constant_number (values now b) → cells_of bits (slice_index_or links b 0) ≡ values now b
  constant b lt e = ap (cells_of bits) (linked b lt ∙ e) ∙ constant_value cells (values now b) (valuation links bits) h

  marked : AreMarked (valuation links bits).bits now done
  marked b e =
      let lt : b < bits_of n.nets = (let there = mark_there done b e in omega arith) in
      sym (constant b lt (marked_link (driver_at n b) (values done b) (values now b) rows e))

  right : AreRight n (valuation links bits) (length n.words) rows
  right = has.each (valuation links bits) h (swept.fits (valuation links bits).bits marked)

  met : (b : ℕ) → b < bits_of n.nets → Meets ((system_of n).driver b) (valuation links bits).bits ((valuation links bits).bits b)
  met b lt = either (values done b)
      (λ e. swept.driven (valuation links bits).bits marked b lt e)
      (λ e. met_by n cells (valuation links bits) rows h right (driver_at n b) (named_at n.words n.drivers is.drivers_named b) (values now b) ((valuation links bits).bits b)
      (ap (cells_of bits) (linked b lt ∙ open_one (driver_at n b) (values done b) (values now b) rows e)))

  held : (b : ℕ) → b < bits_of n.nets → IsHeld ((system_of n).driver b) → (valuation links bits).bits b ≡ values now b
  held b lt k = constant b lt (held_link n (driver_at n b) (values done b) (values now b) rows k)

  module _ (new : List Bool) (put : (b : ℕ) → b < bits_of n.nets → values new b ≡ cells_of bits (slice_index_or links b 0)) where
    pub completed_cycle : Cycle (system_of n) nothing (values now) (values new)
    completed_cycle = same_cycle (system_of n) (net_is_system n is) (values now) (valuation links bits).bits (values new) (is_cycle n now (valuation links bits).bits held met) put

    pub completed_held : (b : ℕ) → b < bits_of n.nets → IsHeld ((system_of n).driver b) → values new b ≡ values now b
    completed_held b lt k = put b lt ∙ held b lt k

    pub completed_words : HasWords (values new) (number_of n.nets) n.words (length n.words) (map (map (cells_of bits)) rows)
    completed_words =
        words_agree n.nets n.words is.words_read (valuation links bits).bits (values new) (λ b lt. sym (put b lt)) (length n.words) (map (map (cells_of bits)) rows) (record {
          count = length_map (map (cells_of bits)) rows ∙ has.count;
          sizes = λ w lt. ap length (map_row (cells_of bits) rows w) ∙ length_map (cells_of bits) (slice_index_or rows w []) ∙ has.sizes w lt;
          each = λ w j lt lj. ap (λ (bs : List Bool). slice_index_or bs j false) (map_row (cells_of bits) rows w)
              ∙ map_at (cells_of bits) (slice_index_or rows w []) j (let s = has.sizes w lt in omega arith)
              ∙ right w j lt lj;
        })
