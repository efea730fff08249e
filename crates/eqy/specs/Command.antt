-- The command line of the first form, and the places where an input is refused, in their order.
use Rattle.std.specs.Prelude.{◌≡◌, ◌≢◌, ℕ, ◌<◌, ◌≤◌, ◌⊎◌, List, [], ◌∷◌, length, None, Some, slice_get, codes}
use Rattle.std.specs.FinMap.{get}
use Rattle.std.specs.Str.{IsUtf8}
use Rattle.eq_io.specs.Files.{Files}
use Rattle.eq_first.specs.declared.job.Job.{Job}
use Rattle.eq_first.specs.declared.job.Side.{Side}
use Rattle.eq_first.specs.declared.module.Module.{Module}
use Rattle.eq_first.specs.declared.module.Port.{Port}
use Rattle.eq_first.specs.Configuration.{IsJob}
use Rattle.eq_first.specs.Design.{IsModule}
use Rattle.eqy.specs.declared.refusal.Refusal.{Refusal}
use Rattle.eqy.specs.declared.refusal.Refusal.TheVariants.{Usage, Absent, NotYet, PortsNotYet, TooWide}
use Rattle.eqy.specs.Inputs.{inputs_of}

-- the most bytes of a file that is read
abbrev pub most_bytes : ℕ
most_bytes = 67108864

-- the most inputs whose values are listed
abbrev pub most_inputs : ℕ
most_inputs = 12

-- a word that names a configuration: not empty, UTF-8, no option and no command
pub record IsFileWord (word : List ℕ) : Type 0 where
  pub some : word ≢ []
  pub text : IsUtf8 word
  pub no_option : slice_get word 0 ≢ Some 45
  pub no_command : word ≢ codes "gen"

-- the words are one word that names a configuration
abbrev pub IsCommand : List (List ℕ) → List ℕ → Type 0
IsCommand words file = (words ≡ file ∷ []) × IsFileWord file

-- the file has this text, which is short enough to be read
abbrev pub HasText : Files → List ℕ → List ℕ → Type 0
HasText files name text = (get files name ≡ Some text) × (length text ≤ most_bytes)

-- the file has the text of this job
abbrev pub HasJob : Files → List ℕ → Job → Type 0
HasJob files name job = (text : List ℕ) × HasText files name text × IsJob text job

-- the file of this side has the text of this design
abbrev pub HasModule : Files → Side → Module → Type 0
HasModule files side m = (text : List ℕ) × HasText files side.file text × IsModule text side.top m

-- a file is refused before it is read: nothing has its name, or it is too long
abbrev pub TextRefused : Files → List ℕ → Refusal → Type 0
TextRefused files name r =
    ((get files name ≡ None) × (r ≡ Absent name)) ⊎ ((text : List ℕ) × (get files name ≡ Some text) × (most_bytes < length text) × (r ≡ NotYet name))

-- a file is refused: nothing has its name, or it is too long, or its text isn't in the form
abbrev pub FileRefused : Files → List ℕ → (List ℕ → Type 0) → Refusal → Type 0
FileRefused files name HasForm r =
    ((get files name ≡ None) × (r ≡ Absent name))
    ⊎ ((text : List ℕ) × (get files name ≡ Some text) × ((most_bytes < length text) ⊎ (HasForm text → ⊥)) × (r ≡ NotYet name))

abbrev pub IsSomeJob : List ℕ → Type 0
IsSomeJob text = (job : Job) × IsJob text job

abbrev pub IsSomeModule : List ℕ → List ℕ → Type 0
IsSomeModule top text = (m : Module) × IsModule text top m

-- two designs are refused: their ports differ, or else they have too many inputs
abbrev pub PairRefused : List Port → List Port → Refusal → Type 0
PairRefused gold gate r =
    ((gold ≢ gate) × (r ≡ PortsNotYet)) ⊎ ((gold ≡ gate) × (most_inputs < inputs_of gold) × (r ≡ TooWide (inputs_of gold)))

-- What is refused once the configuration, gold and gate are looked at, each after the one before.

abbrev pub GateRefused : Files → Job → Module → Refusal → Type 0
GateRefused files job gold r =
    FileRefused files job.gate.file (IsSomeModule job.gate.top) r
    ⊎ ((gate : Module) × HasModule files job.gate gate × PairRefused gold.ports gate.ports r)

abbrev pub GoldRefused : Files → Job → Refusal → Type 0
GoldRefused files job r =
    FileRefused files job.gold.file (IsSomeModule job.gold.top) r
    ⊎ ((gold : Module) × HasModule files job.gold gold × GateRefused files job gold r)

abbrev pub JobRefused : Files → List ℕ → Refusal → Type 0
JobRefused files name r =
    FileRefused files name IsSomeJob r
    ⊎ ((job : Job) × HasJob files name job × GoldRefused files job r)

-- the first refusal that holds
abbrev pub IsRefused : List (List ℕ) → Files → Refusal → Type 0
IsRefused words files r =
    (((file : List ℕ) → IsCommand words file → ⊥) × (r ≡ Usage))
    ⊎ ((file : List ℕ) × IsCommand words file × JobRefused files file r)

-- nothing is refused: these designs are to be compared
pub record IsTask (words : List (List ℕ)) (files : Files) (job : Job) (gold gate : Module) : Type 0 where
  pub file : List ℕ
  pub command : IsCommand words file
  pub asked : HasJob files file job
  pub has_gold : HasModule files job.gold gold
  pub has_gate : HasModule files job.gate gate
  pub ports : gold.ports ≡ gate.ports
  pub narrow : inputs_of gold.ports ≤ most_inputs
