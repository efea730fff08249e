-- Words that grow while drivers are chosen, and what was chosen so far.
use Rattle.std.proofs.Common.{◌≡◌, ℕ, ◌<◌, Bool, true, false, List, [], ◌∷◌, ◌++◌, length, length-append, slice_index_or, arith, sym, ap, subst, inl, inr}
use Rattle.std.proofs.Math.ListN.{get_or-append}
use Rattle.std.proofs.Math.Seq.{get_or-append_seam}
use Rattle.std.proofs.lemmas.Bool.{cases_lt}
use Rattle.eq_names.specs.declared.BitName.{BitName}
use Rattle.eq_vlex.specs.declared.token.Constant.{Constant}
use Rattle.eq_net.specs.declared.types.Driver.{Driver}
use Rattle.eq_net.specs.declared.types.Driver.TheVariants.{Undriven}
use Rattle.eq_net.specs.declared.types.NetInfo.{NetInfo}
use Rattle.eq_net.specs.declared.types.WordBit.{WordBit}
use Rattle.eq_net.specs.Meaning.{all_reads_of, bit_of, reads_of, width}
use Rattle.eq_net.specs.Net.{number_of, AreWords, HasBit, IsWord}
use Rattle.eq_net.specs.Tree.{Tree, read}
use Rattle.eq_verilog.specs.Registers.{itself}
use Rattle.eq_flatten.specs.declared.driving.Slot.{Slot}
use Rattle.eq_flatten.specs.declared.driving.Slot.TheVariants.{Free, Once, Twice}
use Rattle.eq_flatten.specs.Driving.{slot_at}
use Rattle.eq_flatten.specs.Rendering.{KeepsFront}
use Rattle.eq_registers.specs.Standing.{StandsFor}
use Rattle.eq_registers.proofs.Grown.{added_cost, added_word, keeps_all, keeps_more, keeps_twice, row_added, words_more}
use Rattle.eq_registers.proofs.Stood.{same_lists, stands_later}
use Rattle.eq_drivers.specs.declared.slots.Slots.{Slots}
use Rattle.eq_drivers.specs.inner.Choosing.{comes_from_outside, AreChosen, Grows, IsChosen, IsChosenBy, IsNextBy}

module _ (nets : List NetInfo) where
  pub grows_none : (words : List Tree) → AreWords nets words → Grows nets words words
  grows_none words are = record { kept = keeps_all words; words = are; costs = omega arith }

  pub grows_twice : (a b c : List Tree) → Grows nets a b → Grows nets b c → Grows nets a c
  grows_twice a b c one other = record {
    kept = keeps_twice a b c one.kept other.kept;
    words = other.words;
    costs = (let x = one.costs in let y = other.costs in omega (arith, x, y));
  }

  -- ---- a word that reads a bit

  module _ (words : List Tree) (n : BitName) (are : AreWords nets words) (has : HasBit nets n) where
    is_read : IsWord nets words (length words) (read (n ∷ []))
    is_read i d lt = (let first : i ≡ 0 = omega (arith, lt) in subst (λ k. HasBit nets (slice_index_or (n ∷ []) k d)) (sym first) has)

    pub grows_read : Grows nets words (words ++ read (n ∷ []) ∷ [])
    grows_read = record {
      kept = keeps_more words (read (n ∷ []));
      words = words_more nets words (read (n ∷ [])) are is_read;
      costs = (let c = added_cost words (read (n ∷ [])) in omega (arith, c));
    }

    pub stands_read : StandsFor nets (words ++ read (n ∷ []) ∷ []) (record { word = length words; bit = 0 })
        (itself (number_of nets n))
    stands_read = record {
      there = (
        (let e = length-append words (read (n ∷ []) ∷ []) in omega (arith, e)),
        subst (λ (t : Tree). 0 < width t) (sym (added_word words (read (n ∷ [])))) (omega arith),
      );
      same = record {
        reads = λ b. same_lists
            (all_reads_of (number_of nets) (words ++ read (n ∷ []) ∷ []) (length words) 0) (number_of nets n ∷ [])
            (row_added [] (reads_of (number_of nets)) words (read (n ∷ [])) 0) b;
        value = λ v. row_added false (bit_of v (number_of nets)) words (read (n ∷ [])) 0;
      };
    }

  -- ---- drivers that were chosen

  next_later : (old new : List Tree) (b : ℕ) (s : Slot) (w : WordBit) → KeepsFront old new →
      IsNextBy nets old b s w → IsNextBy nets new b s w
  next_later old new b Free w grown h = stands_later nets old new w (itself b) grown h
  next_later old new b (Once v) w grown h = h
  next_later old new b Twice w grown h = stands_later nets old new w (itself b) grown h

  pub chosen_by_later : (old new : List Tree) (b : ℕ) (t o : Bool) (constants : List Constant) (x y z : Slot) (d : Driver) →
      KeepsFront old new → IsChosenBy nets old b t o constants x y z d → IsChosenBy nets new b t o constants x y z d
  chosen_by_later old new b true o constants x y z d grown h = (h.0, next_later old new b y h.0 grown h.1, h.2)
  chosen_by_later old new b false true constants x y z d grown h = h
  chosen_by_later old new b false false constants x y z d grown h = h

  module _ (flags : List Bool) (s : Slots) where
    pub chosen_none : (words : List Tree) (ds : List Driver) → ds ≡ [] → AreChosen nets words flags s ds
    chosen_none words ds none = record { are = λ b lt. absurd (let e = ap (λ (xs : List Driver). length xs) none in omega (arith, e, lt)) }

    pub chosen_later : (old new : List Tree) (ds : List Driver) → KeepsFront old new →
        AreChosen nets old flags s ds → AreChosen nets new flags s ds
    chosen_later old new ds grown h = record {
      are = λ b lt. chosen_by_later old new b (slice_index_or flags b false) (comes_from_outside nets b) s.constants.items
          (slot_at s.driven.items b) (slot_at s.followed.items b) (slot_at s.begun.items b) (slice_index_or ds b Undriven)
          grown (h.are b lt);
    }

    -- one more
    pub chosen_more : (words : List Tree) (ds more : List Driver) (n : ℕ) (d : Driver) → AreChosen nets words flags s ds →
        n ≡ length ds → IsChosen nets words flags s n d → more ≡ ds ++ d ∷ [] → AreChosen nets words flags s more
    chosen_more words ds more n d h size one is =
        subst (AreChosen nets words flags s) (sym is) (record {
          are = λ b lt. elim (cases_lt b (length ds)) [
            | inl less ↦
                subst (IsChosen nets words flags s b) (sym (get_or-append ds (d ∷ []) Undriven b less)) (h.are b less)
            | inr above ↦
                let e = length-append ds (d ∷ []) in
                let last : length ds ≡ b = omega (arith, above, lt, e) in
                subst (λ k. IsChosen nets words flags s k (slice_index_or (ds ++ d ∷ []) k Undriven)) last
                (subst (IsChosen nets words flags s (length ds)) (sym (get_or-append_seam ds d [] Undriven))
                (subst (λ k. IsChosen nets words flags s k d) size one))
          ];
        })
