-- The lines of a text, one after the other.
use Rattle.std.proofs.Common.{◌≡◌, ℕ, ◌+◌, ◌<◌, ◌≤◌, List, [], ◌∷◌, ◌++◌, length, get_or, take, drop, refl, sym, ap, subst, ◌∙◌, arith, below_more}
use Rattle.std.specs.Prelude.{fold}
use Rattle.std.specs.Str.Lines.{lines}
use Rattle.std.proofs.lemmas.List.{length-drop, length-take, length-append, drop_more, take_more, take_all}
use Rattle.std.proofs.lemmas.List.Sums.{fold_push}
use Rattle.eq_config.specs.declared.draft.Draft.{Draft}
use Rattle.eq_config.specs.declared.fault.ConfigKind.{ConfigKind}
use Rattle.eq_config.specs.declared.fault.Stop.{Stop}
use Rattle.eq_config.specs.declared.fault.Stop.TheVariants as stop
use Rattle.eq_config.specs.declared.said.Said.{Said}
use Rattle.eq_config.specs.Configs as spec
use Rattle.eq_config.specs.inner.Drafts.{draft_of}
use Rattle.eq_config.specs.inner.Stopping.{Stops, located, IsAtLine}

-- what the lines up to a place say, with the line there
pub said_more : (all : List (List ℕ)) (line : List ℕ) → spec.saids_of (all ++ line ∷ []) ≡ spec.saids_of all ++ spec.said_at (spec.saids_of all) line ∷ []
said_more all line = fold_push (λ before l. before ++ spec.said_at before l ∷ []) [] all line

-- each line says one thing
said_from : (all : List (List ℕ)) (before : List Said) → length (fold (λ b l. b ++ spec.said_at b l ∷ []) before all) ≡ length before + length all
said_from [] before = omega arith
said_from (line ∷ all) before = omega (arith, said_from all (before ++ spec.said_at before line ∷ []), length-append before (spec.said_at before line ∷ []))

pub length_saids : (all : List (List ℕ)) → length (spec.saids_of all) ≡ length all
length_saids all = omega (arith, said_from all [])

-- the next line
pub record IsNext (all : List (List ℕ)) (at : ℕ) (line : List ℕ) (rest : List (List ℕ)) : Type 0 where
  pub within : at < length all
  pub line_is : get_or all at [] ≡ line
  pub rest_is : drop (at + 1) all ≡ rest

pub next_of : (all : List (List ℕ)) (at : ℕ) (line : List ℕ) (rest : List (List ℕ)) → drop at all ≡ line ∷ rest → IsNext all at line rest
next_of all at line rest is =
    let within : at < length all = omega (arith, length-drop at all, ap (λ (ls : List (List ℕ)). length ls) is) in
    let both : get_or all at [] ∷ drop (at + 1) all ≡ line ∷ rest = sym (drop_more all at [] within) ∙ is in
    record { within = within; line_is = cc; rest_is = cc }

-- The lines up to a place were read, and none is faulty.
pub record IsReached (text rest : List ℕ) (number : ℕ) (draft : Draft) : Type 0 where
  pub rest_is : lines rest ≡ drop number (lines text)
  pub within : number ≤ length (lines text)
  pub room : number + length rest ≤ length text
  pub said : draft ≡ draft_of (spec.before_at (lines text) number)
  pub fine : spec.AreFine (lines text) number

pub nothing_read : (text : List ℕ) (draft : Draft) → draft ≡ draft_of [] → IsReached text text 0 draft
nothing_read text draft new = record {
  rest_is = refl;
  within = omega arith;
  room = omega arith;
  said = new;
  fine = λ at below. absurd (omega arith);
}

-- how many lines were read before the next
pub count_is : (text rest : List ℕ) (number : ℕ) (draft : Draft) → IsReached text rest number draft → number + 1 ≡ length (spec.before_at (lines text) number) + 1
count_is text rest number draft h =
    let within = h.within in
    omega (arith, length_saids (take number (lines text)), length-take number (lines text))

-- one line more
pub reached_more : (text rest line after : List ℕ) (number : ℕ) (draft new : Draft) → IsReached text rest number draft → lines rest ≡ line ∷ lines after → length after < length rest
    → ((before : List Said) → draft ≡ draft_of before → number + 1 ≡ length before + 1 → new ≡ draft_of (before ++ spec.said_at before line ∷ []))
    → ((before : List Said) → draft ≡ draft_of before → number + 1 ≡ length before + 1 → spec.IsFine before line)
    → IsReached text after (number + 1) new
reached_more text rest line after number draft new h next shorter adds fine =
    let all : List (List ℕ) = lines text in
    let before : List Said = spec.before_at all number in
    let n = next_of all number line (lines after) (sym h.rest_is ∙ next) in
    let count = count_is text rest number draft h in
    let room = h.room in
    let within = n.within in
    let front : take (number + 1) all ≡ take number all ++ line ∷ [] = take_more all number [] n.within ∙ ap (λ (l : List ℕ). take number all ++ l ∷ []) n.line_is in
    let saids : spec.before_at all (number + 1) ≡ before ++ spec.said_at before line ∷ [] = ap spec.saids_of front ∙ said_more (take number all) line in
    record {
      rest_is = sym n.rest_is;
      within = omega arith;
      room = omega arith;
      said = adds before h.said count ∙ ap draft_of (sym saids);
      fine = below_more (λ at. spec.IsFine (spec.before_at all at) (spec.line_at all at)) number h.fine (subst (λ (l : List ℕ). spec.IsFine before l) (sym n.line_is) (fine before h.said count));
    }

-- the lines end
pub record IsAllRead (text : List ℕ) (number : ℕ) (draft : Draft) : Type 0 where
  pub said : draft ≡ draft_of (spec.saids_of (lines text))
  pub fine : spec.AreFine (lines text) (length (lines text))
  pub count : number ≡ length (lines text)

pub all_read : (text rest : List ℕ) (number : ℕ) (draft : Draft) → IsReached text rest number draft → length rest ≡ 0 → IsAllRead text number draft
all_read text rest number draft h none =
    let ended : length (lines text) ≤ number = omega (arith, length-drop number (lines text), ap (λ (ls : List (List ℕ)). length ls) h.rest_is, empty rest none) in
    let within = h.within in
    record {
      said = h.said ∙ ap (λ (ls : List (List ℕ)). draft_of (spec.saids_of ls)) (take_all number (lines text) ended);
      fine = λ at below. h.fine at (omega (arith, ended, below));
      count = omega arith;
    }
  where
    empty : (rest : List ℕ) → length rest ≡ 0 → length (lines rest) ≡ 0
    empty [] none = refl
    empty (b ∷ bs) none = absurd (omega arith)

-- a line is faulty
faulty : (text rest line after : List ℕ) (number : ℕ) (draft : Draft) (kind : ConfigKind) → IsReached text rest number draft → lines rest ≡ line ∷ lines after
    → spec.IsFirstKind (spec.before_at (lines text) number) line kind → spec.HasFaultyLine text (number + 1) kind
faulty text rest line after number draft kind h next first =
    let n = next_of (lines text) number line (lines after) (sym h.rest_is ∙ next) in
    record {
      at = number;
      number = refl;
      within = n.within;
      fine = h.fine;
      first = subst (λ (l : List ℕ). spec.IsFirstKind (spec.before_at (lines text) number) l kind) (sym n.line_is) first;
    }

pub faulty_line : (text rest line after : List ℕ) (number : ℕ) (draft : Draft) (reason : Stop) → IsReached text rest number draft → lines rest ≡ line ∷ lines after
    → Stops (λ kind. (before : List Said) → draft ≡ draft_of before → number + 1 ≡ length before + 1 → spec.IsFirstKind before line kind) reason
    → IsAtLine (spec.HasFaultyLine text) (located reason (number + 1))
faulty_line text rest line after number draft (stop.Fault kind) h next first =
    faulty text rest line after number draft kind h next (first (spec.before_at (lines text) number) h.said (count_is text rest number draft h))
faulty_line text rest line after number draft stop.Memory h next first = first
