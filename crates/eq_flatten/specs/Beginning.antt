-- Which initial value begins each bit, of the initial values so far. A slot's word is here the number of a constant.
use Rattle.std.specs.Prelude.{◌≡◌, ◌<◌, ◌+◌, ◌^◌, ◌++◌, ℕ, List, [], ◌∷◌, Contains, Bool, Some, is_some, count_by, filter_map, length, map, slice_get}
use Rattle.eq_vlex.specs.declared.token.Constant.{Constant}
use Rattle.eq_net.specs.declared.types.NetInfo.{NetInfo}
use Rattle.eq_verilog.specs.Trees.{Name, ItemTree, declared, assign, primitive, instance, always, initial, item_tree}
use Rattle.eq_verilog.specs.Scopes.{Scope}
use Rattle.eq_verilog.specs.Equations.{place_in}
use Rattle.eq_verilog.specs.Registers.{Initial, initial_in}
use Rattle.eq_analysis.specs.Finding.{scope_of}
use Rattle.eq_flatten.specs.declared.driving.Slot.{Slot}
use Rattle.eq_flatten.specs.declared.driving.Slot.TheVariants.{Free, Once, Twice}
use Rattle.eq_flatten.specs.declared.paths.Path.{Path}
use Rattle.eq_flatten.specs.Driving.{slot_at}
use Rattle.eq_flatten.specs.Flattening.{names_of}
use Rattle.eq_flatten.specs.Items.{IsTarget}

-- bit b is at position j of what is initialized, and the value is constant k
pub record IsBeginning (constants : List Constant) (i : Initial) (b k j : ℕ) : Type 0 where
  pub place : place_in i.scope i.target b ≡ Some j
  pub value : slice_get constants k ≡ Some i.value

abbrev pub begins_bit : ℕ → Initial → Bool
begins_bit b i = is_some (place_in i.scope i.target b)

-- how many initial values begin the bit
abbrev pub beginnings_of : List Initial → ℕ → ℕ
beginnings_of is b = count_by (begins_bit b) is

-- what a slot says of bit b among these initial values
abbrev pub SlotBegins : List Constant → List Initial → ℕ → Slot → Type 0
SlotBegins constants is b Free = beginnings_of is b ≡ 0
SlotBegins constants is b (Once w) =
    (beginnings_of is b ≡ 1) × ((i : Initial) × Contains is i × IsBeginning constants i b w.word w.bit)
SlotBegins constants is b Twice = 1 < beginnings_of is b

abbrev pub AreBegun : List Constant → List Initial → List Slot → Type 0
AreBegun constants is slots = (b : ℕ) → b < length slots → SlotBegins constants is b (slot_at slots b)

-- constants and slots have grown by these initial values
pub record AddsInitials (old new : List Constant) (before after : List Slot) (is : List Initial) : Type 0 where
  pub kept : (k : ℕ) (c : Constant) → slice_get old k ≡ Some c → slice_get new k ≡ Some c
  pub size : length after ≡ length before
  pub begun : (earlier : List Initial) → AreBegun old earlier before → AreBegun new (earlier ++ is) after

-- ---- items and instances

abbrev pub initials_in : Scope → List ItemTree → List Initial
initials_in s items = filter_map (initial_in s) items

abbrev pub IsInitialReady : List NetInfo → List Name → ℕ → ItemTree → Type 0
IsInitialReady nets names from (declared k r n) = Unit {0}
IsInitialReady nets names from (assign t e) = Unit {0}
IsInitialReady nets names from (primitive k n terms) = Unit {0}
IsInitialReady nets names from (instance m n conns) = Unit {0}
IsInitialReady nets names from (always event body) = Unit {0}
IsInitialReady nets names from (initial t c) = IsTarget nets names from t

abbrev pub AreInitialsReady : List NetInfo → List Name → ℕ → List ItemTree → Type 0
AreInitialsReady nets names from [] = Unit {0}
AreInitialsReady nets names from (i ∷ is) =
    IsInitialReady nets names from i × AreInitialsReady nets names from is

abbrev pub path_initials : List NetInfo → List (List Name) → Path × ℕ → List Initial
path_initials nets owned x =
    initials_in (scope_of nets (names_of owned x.0) x.1) (map item_tree x.0.of.module.now.items)

-- what is initialized in the items of a path can be
pub record IsPathBegun (nets : List NetInfo) (owned : List (List Name)) (x : Path × ℕ) : Type 0 where
  pub there : x.0.of.place < length owned
  pub room : x.1 + length (names_of owned x.0) < 2 ^ 32
  pub items : AreInitialsReady nets (names_of owned x.0) x.1 (map item_tree x.0.of.module.now.items)

abbrev pub ArePathsBegun : List NetInfo → List (List Name) → List (Path × ℕ) → Type 0
ArePathsBegun nets owned [] = Unit {0}
ArePathsBegun nets owned (x ∷ xs) = IsPathBegun nets owned x × ArePathsBegun nets owned xs
