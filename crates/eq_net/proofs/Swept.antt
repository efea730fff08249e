-- While words are evaluated and bits are marked, whatever values agree with marked bits keep to what was found.
use Rattle.std.proofs.Common.{◌≡◌, ◌≢◌, ℕ, ◌<◌, List, Bool, true, false, Option, Some, None, IfSome, length, refl, arith, sym, ap, subst, ◌∙◌, inl, inr}
use Rattle.std.proofs.lemmas.Bool.{cases_lt}
use Rattle.eq_model.specs.Frames.{values}
use Rattle.eq_model.specs.System.{Values, Cycle, IsHeld, Meets, nothing}
use Rattle.eq_net.specs.declared.types.Driver.{Driver}
use Rattle.eq_net.specs.declared.types.Driver.TheVariants.{Input, Undriven, Expr as WordOf, Reg}
use Rattle.eq_net.specs.Net.{IsNet, NamesWord, Parts, bits_of, driver_at, number_of, source_of, system_of}
use Rattle.eq_net.specs.inner.Circuits.{IsSwept}
use Rattle.eq_net.specs.inner.Marks.{AreMarked, AreWhole, HasValue, IsGiven, IsMarkedAs}
use Rattle.eq_net.specs.inner.Sized.{HasWords}
use Rattle.eq_net.proofs.Completed.{is_cycle, named_at}
use Rattle.eq_net.proofs.Marked.{all_whole, none_whole}

-- values agree with themselves
pub marked_itself : (now done : List Bool) → AreMarked (values now) now done
marked_itself now done b e = refl

met_given : (n : Parts) (d : Driver) (v : Values) (x y : Bool) → IsGiven d x → x ≡ y → Meets (source_of n.nets n.words d) v y
met_given n Input v x y given e = tt
met_given n Undriven v x y given e = sym e ∙ given
met_given n (WordOf w j) v x y given e = absurd given
met_given n (Reg i w j) v x y given e = tt

-- at the start no word is marked, and bits that are given
pub swept_given : (n : Parts) (now done : List Bool) (words : List (List Bool)) (whole : List Bool) → ((w : ℕ) → values whole w ≡ false) →
    ((b : ℕ) → values done b ≡ true → IsGiven (driver_at n b) (values now b)) → IsSwept n now done words whole
swept_given n now done words whole none given = record {
  fits = λ v m. none_whole n v words whole none;
  driven = λ v m b lt e. met_given n (driver_at n b) v (values now b) (v b) (given b e) (m b e);
}

-- words that were evaluated from what is marked
pub swept_words : (n : Parts) (now done : List Bool) (words words' : List (List Bool)) (whole whole' : List Bool) → IsSwept n now done words whole →
    ((v : Values) → AreMarked v now done → AreWhole n v words whole → AreWhole n v words' whole') → IsSwept n now done words' whole'
swept_words n now done words words' whole whole' s more = record { fits = λ v m. more v m (s.fits v m); driven = s.driven }

met_value : (n : Parts) (d : Driver) (words : List (List Bool)) (whole : List Bool) (v : Values) (x y : Bool) → NamesWord n.words d → HasValue d words whole x →
    AreWhole n v words whole → y ≡ x → Meets (source_of n.nets n.words d) v y
met_value n Input words whole v x y named has right e = absurd has
met_value n Undriven words whole v x y named has right e = absurd has
met_value n (WordOf w j) words whole v x y named has right e = e ∙ has.1 ∙ right.each w j has.0 named.1
met_value n (Reg i w j) words whole v x y named has right e = absurd has

pub not_held : (n : Parts) (d : Driver) (words : List (List Bool)) (whole : List Bool) (x : Bool) → HasValue d words whole x → IsHeld (source_of n.nets n.words d) → ⊥
not_held n Input words whole x has h = has
not_held n Undriven words whole x has h = has
not_held n (WordOf w j) words whole x has h = h
not_held n (Reg i w j) words whole x has h = has

-- one bit more
module _ (n : Parts) (now now' done done' : List Bool) (words : List (List Bool)) (whole : List Bool) (b : ℕ) (x : Bool)
    (has : HasValue (driver_at n b) words whole x) (there : values now' b ≡ x) (set : values done' b ≡ true)
    (others : (k : ℕ) → k ≢ b → values now' k ≡ values now k) where
  pub held_more : (k : ℕ) → IsHeld ((system_of n).driver k) → values now' k ≡ values now k
  held_more k h = others k (λ same. (let P : ℕ → Type 0 = λ i. IsHeld (source_of n.nets n.words (driver_at n i)) in not_held n (driver_at n b) words whole x has (subst P same h)))

  module _ (is : IsNet n) (fresh : values done b ≡ false) (marks : (k : ℕ) → k ≢ b → values done' k ≡ values done k) where
    earlier : (v : Values) → AreMarked v now' done' → AreMarked v now done
    earlier v m k e =
        let ne : k ≢ b = λ same. (let f = ap (values done) same in let g : true ≡ false = sym e ∙ f ∙ fresh in absurd (cc)) in
        sym (others k ne) ∙ m k (marks k ne ∙ e)

    pub swept_more : IsSwept n now done words whole → IsSwept n now' done' words whole
    swept_more s = record {
      fits = λ v m. s.fits v (earlier v m);
      driven = λ v m k lt e. elim (cases_lt k b) [
        | inl less ↦ s.driven v (earlier v m) k lt (sym (marks k (λ same. absurd (omega arith))) ∙ e)
        | inr more ↦ elim (cases_lt b k) [
          | inl above ↦ s.driven v (earlier v m) k lt (sym (marks k (λ same. absurd (omega arith))) ∙ e)
          | inr equal ↦ (
              let same : b ≡ k = omega arith in
              let P : ℕ → Type 0 = λ i. Meets ((system_of n).driver i) v (v i) in
              subst P same (met_value n (driver_at n b) words whole v x (v b) (named_at n.words n.drivers is.drivers_named b) has (s.fits v (earlier v m)) (sym (m b set) ∙ there)))
        ]
      ];
    }

-- the same where there may be no value
module _ (n : Parts) (now now' done done' : List Bool) (words : List (List Bool)) (whole : List Bool) (b : ℕ) where
  pub held_marked : (o : Option Bool) → IfSome o (HasValue (driver_at n b) words whole) → IsMarkedAs b o now now' done done' →
      (k : ℕ) → IsHeld ((system_of n).driver k) → values now' k ≡ values now k
  held_marked None has m k h = ap (λ (xs : List Bool). values xs k) m.0
  held_marked (Some x) has m k h = held_more n now now' done done' words whole b x has m.0 m.1 m.2 k h

module _ (n : Parts) (is : IsNet n) (now now' done done' : List Bool) (words : List (List Bool)) (whole : List Bool) (b : ℕ) where
  pub swept_marked : (o : Option Bool) → IfSome o (HasValue (driver_at n b) words whole) → values done b ≡ false → IsMarkedAs b o now now' done done' →
      IsSwept n now done words whole → IsSwept n now' done' words whole
  swept_marked None has fresh m s =
      let P : List Bool → Type 0 = λ xs. IsSwept n xs done words whole in
      let Q : List Bool → Type 0 = λ xs. IsSwept n now' xs words whole in
      subst Q (sym m.1) (subst P (sym m.0) s)
  swept_marked (Some x) has fresh m s = swept_more n now now' done done' words whole b x has m.0 m.1 m.2 is fresh m.3 s

-- where all is marked, the values solve the cycle, and the words are right
module _ (n : Parts) (old now done : List Bool) (words : List (List Bool)) (whole : List Bool) (s : IsSwept n now done words whole) where
  pub swept_cycle : ((b : ℕ) → b < bits_of n.nets → IsHeld ((system_of n).driver b) → values now b ≡ values old b) → ((b : ℕ) → b < bits_of n.nets → values done b ≡ true) →
      Cycle (system_of n) nothing (values old) (values now)
  swept_cycle held all = is_cycle n old (values now) held (λ b lt. s.driven (values now) (marked_itself now done) b lt (all b lt))

  pub swept_all : length words ≡ length n.words → ((w : ℕ) → w < length n.words → values whole w ≡ true) → HasWords (values now) (number_of n.nets) n.words (length n.words) words
  swept_all size all = all_whole n (values now) words whole (s.fits (values now) (marked_itself now done)) size all

-- a cycle over what is held alone
pub cycle_from : (n : Parts) (u w : List Bool) (v : Values) → ((b : ℕ) → b < bits_of n.nets → IsHeld ((system_of n).driver b) → values u b ≡ values w b) →
    Cycle (system_of n) nothing (values u) v → Cycle (system_of n) nothing (values w) v
cycle_from n u w v held cycle = is_cycle n w v (λ b lt h. cycle.held b lt (inr h) ∙ held b lt h) (λ b lt. cycle.driven b lt refl)
