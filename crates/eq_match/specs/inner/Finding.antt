-- Cited by proofs alone; nothing here has to be believed.
use Rattle.std.specs.Prelude.{◌≡◌, ◌≢◌, ℕ, ◌<◌, ◌≤◌, ◌⊎◌, Bool, true, false, List, Option, Some, None}
use Rattle.eq_names.specs.Tables.{number_of}
use Rattle.eq_net.specs.declared.types.NetInfo.{NetInfo}
use Rattle.eq_net.specs.declared.types.Dir.TheVariants.{Inner}
use Rattle.eq_net.specs.Net.{Parts}
use Rattle.eq_net.specs.Nets.{width_of}
use Rattle.eq_match.specs.declared.types.Partner.{Partner}
use Rattle.eq_match.specs.NetPairs.{AreTwins, IsFilling, Pairing}

-- two nets of one name are paired before any line is read, where it is known whether they are seen
pub record AreTwoPorts (gold gate : NetInfo) : Type 0 where
  pub gold_port : gold.dir ≢ Inner
  pub gate_port : gate.dir ≢ Inner

pub record AreTwoSeen (gold : NetInfo) (gold_seen : Bool) (gate : NetInfo) (gate_seen : Bool) : Type 0 where
  pub gold_is : gold_seen ≡ true
  pub gate_is : gate_seen ≡ true
  pub gold_chosen : gold.auto ≡ false
  pub gate_chosen : gate.auto ≡ false
  pub widths : width_of gold ≡ width_of gate

abbrev pub AreTwinNets : NetInfo → Bool → NetInfo → Bool → Type 0
AreTwinNets gold gold_seen gate gate_seen = AreTwoPorts gold gate ⊎ AreTwoSeen gold gold_seen gate gate_seen

-- net k has this partner before any line is read
abbrev pub IsFirst : Parts → Parts → ℕ → Option Partner → Type 0
IsFirst gold gate k o =
    ((h : ℕ) × AreTwins gold gate k h × (o ≡ Some (record { net = h; inverted = false }))) ⊎
    (((h : ℕ) → ¬ AreTwins gold gate k h) × (o ≡ None))

-- the first n nets have their partners, and the others none
pub record IsFirstTo (gold gate : Parts) (n : ℕ) (p : Pairing) : Type 0 where
  pub below : (k : ℕ) → k < n → IsFirst gold gate k (p k)
  pub above : (k : ℕ) → n ≤ k → p k ≡ None

-- the number that was found is that of the name to which the pattern and the template lead
pub record FindsFilling (pattern template name : List ℕ) (names : List (List ℕ)) (found : Option ℕ) : Type 0 where
  pub only : (text : List ℕ) → IsFilling pattern template name text → found ≡ number_of names text
  pub some : (h : ℕ) → found ≡ Some h → (text : List ℕ) × IsFilling pattern template name text
