-- Runs of bytes that are names.
use Rattle.std.proofs.Common.{◌≡◌, ℕ, ◌<◌, true, false, List, [], ◌∷◌, length, get_or, take, sym, ap, ◌∙◌, arith}
use Rattle.std.specs.List.{prefix_len, take_while}
use Rattle.std.proofs.lemmas.Bool.{false≢true}
use Rattle.std.proofs.lemmas.List.{get_or-take, length-take}
use Rattle.std.proofs.lemmas.List.Elements.{All-from_get_or, All-same}
use Rattle.std.proofs.lemmas.List.Sums.{prefix_len_passes}
use Rattle.eq_names.specs.Name.{IsNameByte, IsName}
use Rattle.eq_vlex.specs.declared.bytes.Class.{Class}
use Rattle.eq_vlex.specs.declared.bytes.Class.TheVariants as class
use Rattle.eq_vlex.specs.Bytes.{is_in}

pub simple_visible : (b : ℕ) → is_in class.Simple b ≡ true → IsNameByte b
simple_visible b e = grind arith

pub visible_visible : (b : ℕ) → is_in class.Visible b ≡ true → IsNameByte b
visible_visible b e = grind arith

-- where the first byte of a text is of a class that 0 is not of, the run has a byte
pub run_some : (c : Class) (text : List ℕ) → is_in c 0 ≡ false → is_in c (get_or text 0 0) ≡ true → 0 < prefix_len (is_in c) text
run_some c [] zero first = absurd (false≢true (sym zero ∙ first))
run_some c (b ∷ bs) zero first = rw first (omega arith)

-- the longest run of a class of such bytes is a name, where it has a byte
pub run_is_name : (c : Class) → ((b : ℕ) → is_in c b ≡ true → IsNameByte b) → (text run : List ℕ) → run ≡ take_while (is_in c) text → 0 < length run → IsName run
run_is_name c visible text run run-is some =
    let n : ℕ = prefix_len (is_in c) text in
    let each : (i : ℕ) → i < length (take n text) → IsNameByte (get_or (take n text) i 0) = λ i lt.
    let within : i < n = omega (arith, lt, length-take n text) in
    rw (get_or-take n text i 0 within) (visible (get_or text i 0) (prefix_len_passes (is_in c) text i 0 within)) in
    record {
      some = λ nil. let none = ap (λ (xs : List ℕ). length xs) nil in absurd (omega (arith, none, some));
      bytes = All-same IsNameByte run (take n text) run-is (All-from_get_or IsNameByte (take n text) 0 each);
    }
