-- Divisions of positions into classes.
use Rattle.std.specs.Prelude.{◌≡◌, ◌<◌, ℕ, zero, suc, ◌==◌, Bool, not, ◌&&◌, ◌||◌, if◌then◌else◌, List, [], ◌∷◌, ◌++◌}
use Rattle.eq_model.specs.Cut.{any_below}

-- whether two positions stand in one class
abbrev pub Together : Type 0
Together = ℕ → ℕ → Bool

-- two divisions of n positions are the same
abbrev pub SameClasses : ℕ → Together → Together → Type 0
SameClasses n s t = (i j : ℕ) → i < n → j < n → s i j ≡ t i j

-- of the positions below n those that pass, in order
abbrev pub passing : ℕ → (ℕ → Bool) → List ℕ
passing zero test = []
passing (suc n) test = if test n then passing n test ++ (n ∷ []) else passing n test

-- the class of position i, among the n positions of which some are held
abbrev pub class_of : ℕ → (ℕ → Bool) → Together → ℕ → List ℕ
class_of n held together i = passing n (λ j. held j && together i j)

-- position i is held, and is the first of its class
abbrev pub is_first : (ℕ → Bool) → Together → ℕ → Bool
is_first held together i = held i && not (any_below i (λ j. held j && together i j))

-- the classes that have a first position below k, in the order of their first positions, each in order. None is empty
abbrev pub classes_to : ℕ → (ℕ → Bool) → Together → ℕ → List (List ℕ)
classes_to n held together zero = []
classes_to n held together (suc k) =
    if is_first held together k then classes_to n held together k ++ (class_of n held together k ∷ [])
    else classes_to n held together k

abbrev pub classes : ℕ → (ℕ → Bool) → Together → List (List ℕ)
classes n held together = classes_to n held together n

-- ---- how classes change

-- each hit position becomes a class of its own
abbrev pub alone : (ℕ → Bool) → Together → Together
alone hit together i j = (i == j) || (not (hit i) && not (hit j) && together i j)

-- the hit positions leave their classes and make one
abbrev pub gathered : (ℕ → Bool) → Together → Together
gathered hit together i j = (hit i && hit j) || (not (hit i) && not (hit j) && together i j)

-- a hit position that is held stands in the class of i
abbrev pub touches : ℕ → (ℕ → Bool) → (ℕ → Bool) → Together → ℕ → Bool
touches n held hit together i = any_below n (λ j. held j && hit j && together i j)

-- the classes of which all positions are marked are united
abbrev pub united : (ℕ → Bool) → Together → Together
united marked together i j = together i j || (marked i && marked j)
