-- The first kind of the table that holds for a line, by what its reader found.
use Rattle.std.proofs.Common.{◌≡◌, ℕ, ◌≤◌, true, false, List, Option, Some, None, refl, ap, arith}
use Rattle.std.proofs.lemmas.Bool.{both_ways}
use Rattle.eq_config.specs.declared.fault.ConfigKind.{ConfigKind}
use Rattle.eq_config.specs.declared.fault.ConfigKind.TheVariants.{NotAscii, NoSection, UnknownSection, UnknownLine, BadWord, BadNumber, Twice, TooMany, Missing}
use Rattle.eq_config.specs.declared.keyword.Keyword.{Keyword}
use Rattle.eq_config.specs.declared.said.SectionKind.{SectionKind}
use Rattle.eq_config.specs.declared.said.Said.{Said}
use Rattle.eq_config.specs.Lines.{IsText}
use Rattle.eq_config.specs.Keywords.{keyword_of}
use Rattle.eq_config.specs.Entries.{EntryFault}
use Rattle.eq_config.specs.Headings.{title}
use Rattle.eq_config.specs.Forms.{Form, silent, heading, plain, form_of, HeadingFault, LineFault, FormFault}
use Rattle.eq_config.specs.Limits.{is_twice, is_too_many}
use Rattle.eq_config.specs.Configs.{said_at, Has, rank, IsFirstKind, IsFine}
use Rattle.eq_config.specs.inner.Stopping as inner
use Rattle.eq_config.specs.Sections.{section_of}

-- ---- a line has one fault by itself at most

one_entry : (key : Keyword) (words : List (List ℕ)) (j k : ConfigKind) → EntryFault key words j → EntryFault key words k → j ≡ k
one_entry key words BadWord BadWord a b = refl
one_entry key words BadWord BadNumber a b = absurd (a.1 b)
one_entry key words BadNumber BadWord a b = absurd (b.1 a)
one_entry key words BadNumber BadNumber a b = refl
one_entry key words NotAscii k a b = absurd a
one_entry key words NoSection k a b = absurd a
one_entry key words UnknownSection k a b = absurd a
one_entry key words UnknownLine k a b = absurd a
one_entry key words Twice k a b = absurd a
one_entry key words TooMany k a b = absurd a
one_entry key words Missing k a b = absurd a
one_entry key words BadWord _ a b = absurd b
one_entry key words BadNumber _ a b = absurd b

one_line : (found : Option Keyword) (words : List (List ℕ)) (j k : ConfigKind) → LineFault found words j → LineFault found words k → j ≡ k
one_line None words UnknownLine UnknownLine a b = refl
one_line None words UnknownLine _ a b = absurd b
one_line None words _ k a b = absurd a
one_line (Some key) words j k a b = one_entry key words j k a b

one_heading : (found : Option SectionKind) (words : List (List ℕ)) (j k : ConfigKind) → HeadingFault found words j → HeadingFault found words k → j ≡ k
one_heading None words UnknownSection UnknownSection a b = refl
one_heading None words UnknownSection _ a b = absurd b
one_heading None words _ k a b = absurd a
one_heading (Some kind) words BadWord BadWord a b = refl
one_heading (Some kind) words BadWord _ a b = absurd b
one_heading (Some kind) words _ k a b = absurd a

pub one_fault : (at : Option SectionKind) (form : Form) (j k : ConfigKind) → FormFault at form j → FormFault at form k → j ≡ k
one_fault at silent j k a b = absurd a
one_fault at (heading words) j k a b = one_heading (title words) (Rattle.std.specs.Prelude.drop 1 words) j k a b
one_fault None (plain word words) NoSection NoSection a b = refl
one_fault None (plain word words) NoSection _ a b = absurd b
one_fault None (plain word words) _ k a b = absurd a
one_fault (Some section) (plain word words) j k a b = one_line (keyword_of section word) words j k a b

-- ---- and of a kind between NotAscii and Twice

IsBetween : ConfigKind → Type 0
IsBetween kind = (1 ≤ rank kind) × (rank kind ≤ 5)

entry_between : (key : Keyword) (words : List (List ℕ)) (k : ConfigKind) → EntryFault key words k → IsBetween k
unfolding IsBetween
entry_between key words BadWord a = (omega arith, omega arith)
entry_between key words BadNumber a = (omega arith, omega arith)
entry_between key words _ a = absurd a

line_between : (found : Option Keyword) (words : List (List ℕ)) (k : ConfigKind) → LineFault found words k → IsBetween k
unfolding IsBetween
line_between None words UnknownLine a = (omega arith, omega arith)
line_between None words _ a = absurd a
line_between (Some key) words k a = entry_between key words k a

heading_between : (found : Option SectionKind) (words : List (List ℕ)) (k : ConfigKind) → HeadingFault found words k → IsBetween k
unfolding IsBetween
heading_between None words UnknownSection a = (omega arith, omega arith)
heading_between None words _ a = absurd a
heading_between (Some kind) words BadWord a = (omega arith, omega arith)
heading_between (Some kind) words _ a = absurd a

between : (at : Option SectionKind) (form : Form) (k : ConfigKind) → FormFault at form k → IsBetween k
unfolding IsBetween
between at silent k a = absurd a
between at (heading words) k a = heading_between (title words) (Rattle.std.specs.Prelude.drop 1 words) k a
between None (plain word words) NoSection a = (omega arith, omega arith)
between None (plain word words) _ a = absurd a
between (Some section) (plain word words) k a = line_between (keyword_of section word) words k a

-- ---- the conditions of a line, one by one

-- a condition of a line is one that it has by itself, or one of the three others
cases : (before : List Said) (line : List ℕ) (Goal : Type 0) (k : ConfigKind) → Has k before line
    → (k ≡ NotAscii → ¬ IsText line → Goal) → (FormFault (section_of before) (form_of line) k → Goal)
    → (k ≡ Twice → is_twice before (said_at before line) ≡ true → Goal) → (k ≡ TooMany → is_too_many before (said_at before line) ≡ true → Goal) → Goal
cases before line Goal NotAscii h a b c d = a refl h
cases before line Goal Twice h a b c d = c refl h
cases before line Goal TooMany h a b c d = d refl h
cases before line Goal NoSection h a b c d = b h
cases before line Goal UnknownSection h a b c d = b h
cases before line Goal UnknownLine h a b c d = b h
cases before line Goal BadWord h a b c d = b h
cases before line Goal BadNumber h a b c d = b h
cases before line Goal Missing h a b c d = b h

-- the other way round
form_has : (before : List Said) (line : List ℕ) (k : ConfigKind) → IsBetween k → FormFault (section_of before) (form_of line) k → Has k before line
unfolding IsBetween
form_has before line NotAscii r h = absurd (omega (arith, r.0))
form_has before line Twice r h = absurd (omega (arith, r.1))
form_has before line TooMany r h = absurd (omega (arith, r.1))
form_has before line NoSection r h = h
form_has before line UnknownSection r h = h
form_has before line UnknownLine r h = h
form_has before line BadWord r h = h
form_has before line BadNumber r h = h
form_has before line Missing r h = h

pub not_ascii_first : (before : List Said) (line : List ℕ) → ¬ IsText line → IsFirstKind before line NotAscii
not_ascii_first before line h = record { holds = h; first = λ other below has. absurd (omega arith) }

pub form_first : (before : List Said) (line : List ℕ) (k : ConfigKind) → IsText line → FormFault (section_of before) (form_of line) k → IsFirstKind before line k
unfolding IsBetween
form_first before line k text h =
    let r = between (section_of before) (form_of line) k h in
    let low = r.0 in
    let high = r.1 in
    record {
      holds = form_has before line k r h;
      first = λ other below has. cases before line ⊥ other has
          (λ is not'. not' text)
          (λ own. let same : rank other ≡ rank k = ap rank (one_fault (section_of before) (form_of line) other k own h) in omega arith)
          (λ is twice. let same : rank other ≡ 6 = ap rank is in omega arith)
          (λ is many. let same : rank other ≡ 7 = ap rank is in omega arith);
    }

pub twice_first : (before : List Said) (line : List ℕ) → IsText line → inner.IsFine (section_of before) (form_of line) → is_twice before (said_at before line) ≡ true → IsFirstKind before line Twice
twice_first before line text fine twice = record {
  holds = twice;
  first = λ other below has. cases before line ⊥ other has
      (λ is not'. not' text)
      (λ own. fine other own)
      (λ is again. let same : rank other ≡ 6 = ap rank is in omega arith)
      (λ is many. let same : rank other ≡ 7 = ap rank is in omega arith);
}

pub too_many_first : (before : List Said) (line : List ℕ) → IsText line → inner.IsFine (section_of before) (form_of line) → is_twice before (said_at before line) ≡ false
    → is_too_many before (said_at before line) ≡ true → IsFirstKind before line TooMany
too_many_first before line text fine once many = record {
  holds = many;
  first = λ other below has. cases before line ⊥ other has
      (λ is not'. not' text)
      (λ own. fine other own)
      (λ is again. both_ways (is_twice before (said_at before line)) once again)
      (λ is again. let same : rank other ≡ 7 = ap rank is in omega arith);
}

pub fine_line : (before : List Said) (line : List ℕ) → IsText line → inner.IsFine (section_of before) (form_of line) → is_twice before (said_at before line) ≡ false
    → is_too_many before (said_at before line) ≡ false → IsFine before line
fine_line before line text fine once few = λ k has. cases before line ⊥ k has
    (λ is not'. not' text)
    (λ own. fine k own)
    (λ is again. both_ways (is_twice before (said_at before line)) once again)
    (λ is again. both_ways (is_too_many before (said_at before line)) few again)

-- a line without a fault has none by itself
pub own_fine : (before : List Said) (line : List ℕ) → IsFine before line → inner.IsFine (section_of before) (form_of line)
own_fine before line fine = λ k h. fine k (form_has before line k (between (section_of before) (form_of line) k h) h)
