-- Mirrors src/course.rt; nothing here has to be believed.
use Rattle.std.specs.Prelude.{◌≡◌, ℕ, ◌+◌, ◌≤◌, Option, None, Some, length, slice_get}
use Rattle.eq_bits.specs.declared.part.Part.{Part}
use Rattle.eq_unroll.specs.declared.query.Query.{Query}
use Rattle.eq_induct.specs.declared.course.Course.{Course}
use Rattle.eq_induct.specs.declared.types.Asked.{Asked}
use Rattle.eq_induct.specs.declared.types.End.{End}
use Rattle.eq_induct.specs.Answers.{IsAnswer, LearnsFresh}
use Rattle.eq_induct.specs.Attempts.{AsksNext, IsAttempt, cycles_at, learned, query_at}

-- each query that was asked leads to the next one
pub record IsOpen (part : Part) (depth conflicts : ℕ) (c : Course) : Type 0 where
  pub order : (i : ℕ) (a : Asked) → slice_get c.asked i ≡ Some a → (a.query ≡ query_at i) × (a.k ≡ cycles_at i)
  pub within : (i : ℕ) (a : Asked) → slice_get c.asked i ≡ Some a → a.k ≤ depth
  pub answered : (i : ℕ) (a : Asked) → slice_get c.asked i ≡ Some a → IsAnswer part a.query a.k a.answer
  pub fresh : (i : ℕ) (a : Asked) → slice_get c.asked i ≡ Some a → LearnsFresh part a.query a.k a.answer
  pub goes_on : (i : ℕ) (a : Asked) → slice_get c.asked i ≡ Some a → AsksNext a.query a.answer
  pub left : learned c.asked + c.left ≡ conflicts

-- the query comes next in the order, and isn't above the depth
pub record ComesNext (depth : ℕ) (c : Course) (q : Query) (k : ℕ) : Type 0 where
  pub query : q ≡ query_at (length c.asked)
  pub cycles : k ≡ cycles_at (length c.asked)
  pub within : k ≤ depth

-- an attempt where it has ended so, and else n queries, each of which leads to the next one
abbrev pub ComesTo : Part → ℕ → ℕ → ℕ → Course → Option End → Type 0
ComesTo part depth conflicts n c None = IsOpen part depth conflicts c × (length c.asked ≡ n)
ComesTo part depth conflicts n c (Some end) =
    IsAttempt part depth conflicts (record { asked = c.asked; end = end })
