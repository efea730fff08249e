-- What the queries asked so far come to with one more, and at the depth.
use Rattle.std.proofs.Common.{◌≡◌, ℕ, suc, ◌+◌, ◌-◌, ◌*◌, ◌<◌, ◌≤◌, List, [], ◌∷◌, ◌++◌, length, slice_get, Option, None, Some, arith, sym, ap, subst, ◌∙◌}
use Rattle.std.proofs.lemmas.List.{length_push}
use Rattle.std.proofs.lemmas.List.Sums.{sum_by_push}
use Rattle.std.proofs.lemmas.Option.{none-some}
use Rattle.eq_bits.specs.declared.part.Part.{Part}
use Rattle.eq_unroll.specs.declared.query.Query.{Query}
use Rattle.eq_unroll.specs.declared.query.Query.TheVariants.{Base, Step}
use Rattle.eq_induct.specs.declared.course.Course.{Course}
use Rattle.eq_induct.specs.declared.types.Answer.{Answer}
use Rattle.eq_induct.specs.declared.types.Answer.TheVariants.{Sat, Unsat, Spent}
use Rattle.eq_induct.specs.declared.types.Asked.{Asked}
use Rattle.eq_induct.specs.declared.types.End.{End}
use Rattle.eq_induct.specs.declared.types.End.TheVariants as end
use Rattle.eq_induct.specs.Answers.{IsAnswer, LearnsFresh, learned_for}
use Rattle.eq_induct.specs.Attempts.{AsksNext, EndsSo, IsAttempt, cycles_at, learned, query_at}
use Rattle.eq_induct.specs.inner.Asking.{IsFound, IsNext, SpendsAll}
use Rattle.eq_induct.specs.inner.Courses.{ComesNext, ComesTo, IsOpen}
use Rattle.eq_induct.proofs.Orders.{base_place, step_place}
use Rattle.eq_induct.proofs.Places.{each_pushed, element_at, last_pushed}

-- an answer with which an attempt ends as spent has spent all that was left
spends_all : (left depth : ℕ) (q : Query) (k : ℕ) (answer : Answer) → SpendsAll left answer →
    EndsSo depth q k answer end.Spent → learned_for answer ≡ left
spends_all left depth Base k (Sat run) spends ends = absurd ends
spends_all left depth Step k (Sat run) spends ends = absurd ends
spends_all left depth Base k (Unsat log) spends ends = absurd ends
spends_all left depth Step k (Unsat log) spends ends = absurd ends
spends_all left depth q k (Spent log) spends ends = spends

module _ (part : Part) (depth conflicts : ℕ) (c : Course) (a : Asked) (now : ℕ)
    (so_far : IsOpen part depth conflicts c) (next : ComesNext depth c a.query a.k)
    (found : IsFound part a.query a.k c.left a.answer) where
  more_learned : learned (c.asked ++ a ∷ []) ≡ learned c.asked + learned_for a.answer
  more_learned = sum_by_push (λ (b : Asked). learned_for b.answer) c.asked a

  in_order : (i : ℕ) (b : Asked) → slice_get (c.asked ++ a ∷ []) i ≡ Some b →
      (b.query ≡ query_at i) × (b.k ≡ cycles_at i)
  in_order = each_pushed (λ i b. (b.query ≡ query_at i) × (b.k ≡ cycles_at i)) c.asked a so_far.order
      (next.query, next.cycles)

  all_within : (i : ℕ) (b : Asked) → slice_get (c.asked ++ a ∷ []) i ≡ Some b → b.k ≤ depth
  all_within = each_pushed (λ _ b. b.k ≤ depth) c.asked a so_far.within next.within

  all_answered : (i : ℕ) (b : Asked) → slice_get (c.asked ++ a ∷ []) i ≡ Some b → IsAnswer part b.query b.k b.answer
  all_answered = each_pushed (λ _ b. IsAnswer part b.query b.k b.answer) c.asked a so_far.answered found.right

  all_fresh : (i : ℕ) (b : Asked) → slice_get (c.asked ++ a ∷ []) i ≡ Some b → LearnsFresh part b.query b.k b.answer
  all_fresh = each_pushed (λ _ b. LearnsFresh part b.query b.k b.answer) c.asked a so_far.fresh found.fresh

  -- after an answer that leads to the next query, all lead to the next one
  asks_on : AsksNext a.query a.answer → now + learned_for a.answer ≡ c.left →
      IsOpen part depth conflicts (record { asked = c.asked ++ a ∷ []; left = now })
  asks_on leads left =
      let before = so_far.left in
      let sum = more_learned in
      record {
        order = in_order;
        within = all_within;
        answered = all_answered;
        fresh = all_fresh;
        goes_on = each_pushed (λ _ b. AsksNext b.query b.answer) c.asked a so_far.goes_on leads;
        left = omega arith;
      }

  -- after one that ends the attempt, it is an attempt
  ends_so : (e : End) → EndsSo depth a.query a.k a.answer e →
      IsAttempt part depth conflicts (record { asked = c.asked ++ a ∷ []; end = e })
  ends_so e ends =
      let before = so_far.left in
      let sum = more_learned in
      let within = found.within in
      let long : length (c.asked ++ a ∷ []) ≡ length c.asked + 1 = length_push c.asked a in
      let P : ℕ → Asked → Type 0 = λ i b. suc i < length (c.asked ++ a ∷ []) → AsksNext b.query b.answer in
      let last : length c.asked ≡ length (c.asked ++ a ∷ []) - 1 = omega arith in
      let Q : ℕ → Type 0 = λ i. slice_get (c.asked ++ a ∷ []) i ≡ Some a in
      let R : End → Type 0 = λ x. EndsSo depth a.query a.k a.answer x in
      record {
        order = in_order;
        within = all_within;
        answered = all_answered;
        goes_on = each_pushed P c.asked a (λ i b is _. so_far.goes_on i b is) (λ lt. absurd (omega arith));
        ends = (a, subst Q last (last_pushed c.asked a), ends);
        budget = omega arith;
        spent = λ is. record {
          all = (let all = spends_all c.left depth a.query a.k a.answer found.spends (subst R is ends) in omega arith);
          fresh = all_fresh;
        };
      }

  -- and so for what comes after an answer
  pub comes : (o : Option End) → IsNext a.query a.k a.answer o → now + learned_for a.answer ≡ c.left →
      ComesTo part depth conflicts (length c.asked + 1) (record { asked = c.asked ++ a ∷ []; left = now }) o
  comes None leads left = (asks_on leads left, length_push c.asked a)
  comes (Some e) ends left = ends_so e (ends depth)

-- nothing was asked yet
pub nothing_asked : (part : Part) (depth : ℕ) (c : Course) → c.asked ≡ [] → IsOpen part depth c.left c
nothing_asked part depth c e =
    let none : (i : ℕ) (a : Asked) → slice_get c.asked i ≡ Some a → ⊥ =
    λ i a is. none-some a (ap (λ (xs : List Asked). slice_get xs i) (sym e) ∙ is) in
    let sum : learned c.asked ≡ learned [] = ap learned e in
    record {
      order = λ i a is. absurd (none i a is);
      within = λ i a is. absurd (none i a is);
      answered = λ i a is. absurd (none i a is);
      fresh = λ i a is. absurd (none i a is);
      goes_on = λ i a is. absurd (none i a is);
      left = omega arith;
    }

-- which query comes next

pub base_next : (depth k : ℕ) (c : Course) → length c.asked + 2 ≡ 2 * k → k ≤ depth → ComesNext depth c Base k
base_next depth k c count within =
    let at = base_place (length c.asked) (k - 1) (omega arith) in
    let cycles = at.1 in
    record { query = sym at.0; cycles = omega arith; within = within }

pub step_next : (depth k : ℕ) (c : Course) → length c.asked + 1 ≡ 2 * k → k ≤ depth → ComesNext depth c Step k
step_next depth k c count within =
    let at = step_place (length c.asked) (k - 1) (omega arith) in
    let cycles = at.1 in
    record { query = sym at.0; cycles = omega arith; within = within }

-- a Step that leads to the next query ends an attempt at the depth
ends_deep : (k depth : ℕ) (answer : Answer) → k ≡ depth → AsksNext Step answer → EndsSo depth Step k answer end.Deep
ends_deep k depth (Sat run) is leads = is
ends_deep k depth (Unsat log) is leads = absurd leads
ends_deep k depth (Spent log) is leads = absurd leads

-- where all queries up to the depth lead to the next one, the attempt ends as deep
pub deep : (part : Part) (depth conflicts : ℕ) (c : Course) → IsOpen part depth conflicts c → 1 ≤ depth →
    length c.asked ≡ 2 * depth → IsAttempt part depth conflicts (record { asked = c.asked; end = end.Deep })
deep part depth conflicts c so_far some all =
    let left = so_far.left in
    let last = element_at c.asked (length c.asked - 1) (omega arith) in
    let a = last.0 in
    let is = so_far.order (length c.asked - 1) a last.1 in
    let at = step_place (length c.asked - 1) (depth - 1) (omega arith) in
    let query : a.query ≡ Step = is.0 ∙ at.0 in
    let cycles : a.k ≡ depth = (let e = is.1 in let f = at.1 in omega arith) in
    let P : Query → Type 0 = λ q. AsksNext q a.answer in
    let Q : Query → Type 0 = λ q. EndsSo depth q a.k a.answer end.Deep in
    record {
      order = so_far.order;
      within = so_far.within;
      answered = so_far.answered;
      goes_on = λ i b there _. so_far.goes_on i b there;
      ends = (
        a,
        last.1,
        subst Q (sym query)
            (ends_deep a.k depth a.answer cycles (subst P query (so_far.goes_on (length c.asked - 1) a last.1))),
      );
      budget = omega arith;
      spent = λ is. absurd (cc);
    }
