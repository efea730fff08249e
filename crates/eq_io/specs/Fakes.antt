-- What the stores and sinks in memory are seen as: what they hold, and which of their calls fail.
use Rattle.std.specs.Prelude.{ℕ, Bool, List, [], map, nat_eq, string_bytes, String, refl}
use Rattle.std.specs.List.{list_any}
use Rattle.std.specs.Coded.{Coded, code_by, coded×, coded_ℕ, coded_list}
use Rattle.std.specs.FinMap.{code, empty, from_entries}
use Rattle.eq_io.specs.Faults.{one_more}
use Rattle.eq_io.specs.Files.{Files}

-- how many calls were made, and the numbers of those that fail, the first call being 1
pub record Calls : Type 0 where
  pub made : ℕ
  pub failing : List ℕ

abbrev pub calls_code : Coded Calls
calls_code =
    code_by (ℕ × List ℕ) (coded× coded_ℕ (coded_list coded_ℕ)) (λ c. (c.made, c.failing))
    (λ p. record { made = p.0; failing = p.1 }) (λ _. refl)

-- no call was made
abbrev pub no_calls : List ℕ → Calls
no_calls failing = record { made = 0; failing = failing }

-- whether the next call fails
abbrev pub next_fails : Calls → Bool
next_fails calls = list_any (λ k. nat_eq k (one_more calls.made)) calls.failing

-- after one more call
abbrev pub next_call : Calls → Calls
next_call calls = record { made = one_more calls.made; failing = calls.failing }

-- a store in memory
pub record FilesInMemory : Type 0 where
  pub files : Files
  pub reads : Calls
  pub writes : Calls
  pub faults : ℕ

abbrev pub files_code : Coded FilesInMemory
files_code =
    code_by (Files × (Calls × (Calls × ℕ)))
    (coded× (code (coded_list coded_ℕ) (coded_list coded_ℕ)) (coded× calls_code (coded× calls_code coded_ℕ)))
    (λ s. (s.files, (s.reads, (s.writes, s.faults))))
    (λ p. record { files = p.0; reads = p.1.0; writes = p.1.1.0; faults = p.1.1.1 }) (λ _. refl)

-- no files, and no call was made
abbrev pub no_files : List ℕ → List ℕ → FilesInMemory
no_files failing_reads failing_writes =
    record { files = empty; reads = no_calls failing_reads; writes = no_calls failing_writes; faults = 0 }

-- the files of a map whose keys are texts
abbrev pub files_of : {A : Type 0} → List (String A × List ℕ) → Files
files_of entries = from_entries (map (λ e. (string_bytes e.0, e.1)) entries)

-- a sink in memory
pub record OutputInMemory : Type 0 where
  pub written : List ℕ
  pub puts : Calls
  pub faults : ℕ

abbrev pub output_code : Coded OutputInMemory
output_code =
    code_by (List ℕ × (Calls × ℕ)) (coded× (coded_list coded_ℕ) (coded× calls_code coded_ℕ))
    (λ s. (s.written, (s.puts, s.faults))) (λ p. record { written = p.0; puts = p.1.0; faults = p.1.1 }) (λ _. refl)

-- nothing is written, and no call was made
abbrev pub no_output : List ℕ → OutputInMemory
no_output failing = record { written = []; puts = no_calls failing; faults = 0 }
