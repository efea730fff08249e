-- The lines that the program prints, each with its line feed.
use Rattle.std.specs.Prelude.{ℕ, List, ◌++◌, codes, decimal}
use Rattle.eqy.specs.declared.refusal.Refusal.{Refusal}
use Rattle.eqy.specs.declared.report.Verdict.{Verdict}
use Rattle.eqy.specs.declared.report.Verdict.TheVariants.{Proved, Fail}
use Rattle.eqy.specs.declared.refusal.Refusal.TheVariants.{Usage, Absent, NotYet, PortsNotYet, TooWide}

abbrev pub refusal_line : Refusal → List ℕ
refusal_line Usage = codes "eqy: usage: eqy [-j N] [-d DIR] [-r] [-x] [--json NAME] FILE | eqy gen SEED SIZE\n"
refusal_line (Absent name) = codes "eqy: " ++ name ++ codes ": no such file\n"
refusal_line (NotYet name) = codes "eqy: " ++ name ++ codes ": NotYet\n"
refusal_line PortsNotYet = codes "eqy: ports: NotYet\n"
refusal_line (TooWide inputs) = codes "eqy: size: TooWide " ++ decimal inputs ++ codes "\n"

abbrev pub verdict_word : Verdict → List ℕ
verdict_word Proved = codes ": PROVED 1 by "
verdict_word Fail = codes ": FAIL 1 by "

-- the row of an output
abbrev pub row_line : Verdict → List ℕ → List ℕ → List ℕ
row_line verdict output strategy = output ++ verdict_word verdict ++ strategy ++ codes "\n"

abbrev pub counts_line : Verdict → List ℕ
counts_line Proved = codes "proved 1, failed 0, unknown 0, skipped 0, conflicts 0\n"
counts_line Fail = codes "proved 0, failed 1, unknown 0, skipped 0, conflicts 0\n"

abbrev pub whole_line : Verdict → List ℕ
whole_line Proved = codes "PASS\n"
whole_line Fail = codes "FAIL\n"

-- what is printed of a verdict on one output by one strategy
abbrev pub report : Verdict → List ℕ → List ℕ → List ℕ
report verdict output strategy = row_line verdict output strategy ++ (counts_line verdict ++ whole_line verdict)
