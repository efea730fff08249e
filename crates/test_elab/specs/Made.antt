-- Netlists made by hand from a list of lines.
use Rattle.std.specs.Prelude.{ℕ, zero, suc, List, [], ◌∷◌, ◌++◌, Bool, false, nat_lt, Option, length, flat_map, fold, map, if◌then◌else◌, slice_index_or}
use Rattle.eq_net.specs.declared.types.NetInfo.{NetInfo}
use Rattle.eq_net.specs.declared.types.Dir.{Dir}
use Rattle.eq_net.specs.declared.types.Dir.TheVariants.{Inner, Input as InputPort, Output as OutputPort}
use Rattle.eq_net.specs.declared.types.Driver.{Driver}
use Rattle.eq_net.specs.declared.types.Driver.TheVariants.{Input, Undriven as NoDriver, Expr, Reg}
use Rattle.eq_net.specs.Tree.{Tree, negated, read}
use Rattle.eq_net.specs.Net.{Parts}
use Rattle.eq_net.specs.Decided.{is_net, is_port}
use Rattle.test_elab.specs.declared.types.Draft.{Draft}
use Rattle.test_elab.specs.declared.types.Form.{Form}
use Rattle.test_elab.specs.declared.types.Form.TheVariants.{Copy, Inverted, Next, Undriven}
use Rattle.test_elab.specs.declared.types.Line.{Line}

abbrev pub net_of : Line → NetInfo
net_of l = record { name = l.name.now; left = l.wide; right = 0; ranged = nat_lt 0 l.wide; dir = l.dir; auto = false }

abbrev pub copies : {A : Type 0} → A → ℕ → List A
copies x zero = []
copies x (suc n) = copies x n ++ x ∷ []

-- what drives a net of one bit, whose word this is
abbrev pub driver_of : Form → ℕ → Driver
driver_of Copy word = Expr word 0
driver_of Inverted word = Expr word 0
driver_of Next word = Reg false word 0
driver_of Undriven word = NoDriver

abbrev pub drivers_of : Dir → Form → ℕ → ℕ → List Driver
drivers_of InputPort form wide word = copies Input (suc wide)
drivers_of Inner form wide word = driver_of form word ∷ []
drivers_of OutputPort form wide word = driver_of form word ∷ []

-- the lowest bit of a net
abbrev pub reading : ℕ → Tree
reading net = read (record { net = net; bit = 0 } ∷ [])

abbrev pub word_of : Form → ℕ → Tree
word_of Copy net = reading net
word_of Inverted net = negated (reading net)
word_of Next net = reading net
word_of Undriven net = reading net

abbrev pub with_port : Dir → ℕ → List ℕ → List ℕ
with_port dir k ports = if is_port dir then ports ++ k ∷ [] else ports

abbrev pub none : Draft
none = record { nets = []; drivers = []; ports = [] }

abbrev pub with_line : Draft → Line → Draft
with_line d l = record {
  nets = d.nets ++ net_of l ∷ [];
  drivers = d.drivers ++ drivers_of l.dir l.form l.wide (length d.nets);
  ports = with_port l.dir (length d.nets) d.ports;
}

abbrev pub draft_of : List Line → Draft
draft_of lines = fold with_line none lines

abbrev pub words_of : List Line → List Tree
words_of lines = map (λ (l : Line). word_of l.form l.reads) lines

abbrev pub design : Draft → List Tree → Option ℕ → Parts
design d words clock = record {
  nets = d.nets;
  words = words;
  drivers = d.drivers;
  ports = d.ports;
  clock = clock;
  cost = 2000000;
}

-- the rank of a bit, and above that of its net the rank of the word that reads it
abbrev pub rank_at : List Line → ℕ → ℕ
rank_at lines b = slice_index_or (flat_map (λ (l : Line). copies l.rank (suc l.wide)) lines) b 0

abbrev pub top_at : List Line → ℕ → ℕ
top_at lines k =
    suc (slice_index_or (map (λ (l : Line). l.rank) lines) (slice_index_or (map (λ (l : Line). l.reads) lines) k 0) 0)

abbrev pub is_good : List Line → Option ℕ → Bool
is_good lines clock = is_net (rank_at lines) (top_at lines) (design (draft_of lines) (words_of lines) clock)
