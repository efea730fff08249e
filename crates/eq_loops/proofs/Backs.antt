-- Nodes from which edges lead back: one node has a rank at first, and one edge gives one more node its rank.
use Rattle.std.proofs.Common.{◌≡◌, ◌≢◌, ℕ, zero, suc, ◌+◌, ◌<◌, ◌≤◌, List, [], ◌∷◌, Bool, true, false, length, slice_index, replicate, refl, arith, sym, ap, subst, ◌∙◌, inl, inr}
use Rattle.std.proofs.lemmas.Bool.Decides.{eqb_tells}
use Rattle.std.proofs.lemmas.List.{get_or-set_same, get_or-set_other}
use Rattle.std.proofs.Math.ListN.{length-replicate, set}
use Rattle.eq_reads.specs.declared.graph.Edge.{Edge}
use Rattle.eq_reads.specs.Graph.{from_at, to_at}
use Rattle.eq_loops.specs.inner.Back.{AreClosed, IsClosedAt, IsStepBack, LeadBack, unranked}

-- a node that had no rank has one
pub fewer_unranked : (ranks : List ℕ) (v r : ℕ) → v < length ranks → slice_index ranks v ≡ 0 → 0 < r →
    suc (unranked (set ranks v r)) ≡ unranked ranks
fewer_unranked [] v r lt is pos = absurd (omega arith)
fewer_unranked (zero ∷ ranks) zero zero lt is pos = absurd (omega arith)
fewer_unranked (zero ∷ ranks) zero (suc r) lt is pos = refl
fewer_unranked (suc a ∷ ranks) zero r lt is pos = absurd (omega arith)
fewer_unranked (zero ∷ ranks) (suc v) r lt is pos = ap suc (fewer_unranked ranks v r (omega arith) is pos)
fewer_unranked (suc a ∷ ranks) (suc v) r lt is pos = fewer_unranked ranks v r (omega arith) is pos

zeros : (n x : ℕ) → slice_index (replicate n 0) x ≡ 0
zeros zero x = refl
zeros (suc n) zero = refl
zeros (suc n) (suc x) = zeros n x

-- one node alone has a rank
pub one_back : (edges : List Edge) (n b : ℕ) (vias : List ℕ) → b < n → LeadBack edges b (set (replicate n 0) b 1) vias
one_back edges n b vias lt =
    let none : List ℕ = replicate n 0 in
    let within : b < length none = subst (λ (m : ℕ). b < m) (sym (length-replicate n 0)) lt in
    let there : slice_index (set none b 1) b ≡ 1 = get_or-set_same none b 1 0 within in
    let other : (v : ℕ) → v ≢ b → slice_index (set none b 1) v ≡ 0 =
    λ v ne. get_or-set_other none b v 1 0 ne ∙ zeros n v in
    record {
      begins = there;
      only = λ v is. elim (eqb_tells v b) [
        | inl same ↦ same.1
        | inr ne ↦ (let e = other v ne.1 in absurd (omega arith))
      ];
      step = λ v more. elim (eqb_tells v b) [
        | inl same ↦ (let e : slice_index (set none b 1) v ≡ 1 =
            subst (λ (u : ℕ). slice_index (set none b 1) u ≡ 1) (sym same.1) there in absurd (omega arith))
        | inr ne ↦ (let e = other v ne.1 in absurd (omega arith))
      ];
    }

-- the same of ranks that were all 0
pub one_back_of : (edges : List Edge) (b : ℕ) (ranks vias : List ℕ) → ranks ≡ replicate (length ranks) 0 → b < length ranks →
    LeadBack edges b (set ranks b 1) vias
one_back_of edges b ranks vias none lt =
    subst (λ (rs : List ℕ). LeadBack edges b (set rs b 1) vias) (sym none) (one_back edges (length ranks) b vias lt)

-- the node that an edge begins at has a rank now
pub one_more : (edges : List Edge) (b e : ℕ) (ranks vias : List ℕ) (f t : ℕ) → from_at edges e ≡ f → to_at edges e ≡ t →
    e < length edges → f < length ranks → length vias ≡ length ranks → slice_index ranks f ≡ 0 → 0 < slice_index ranks t →
    LeadBack edges b ranks vias → LeadBack edges b (set ranks f (slice_index ranks t + 1)) (set vias f e)
one_more edges b e ranks vias f t from to lt within size none some back =
    let next : ℕ = slice_index ranks t + 1 in
    let now : List ℕ = set ranks f next in
    let nows : List ℕ = set vias f e in
    let here : slice_index now f ≡ next = get_or-set_same ranks f next 0 within in
    let via : slice_index nows f ≡ e = get_or-set_same vias f e 0 (omega arith) in
    let other : (v : ℕ) → v ≢ f → slice_index now v ≡ slice_index ranks v = λ v ne. get_or-set_other ranks f v next 0 ne in
    let others : (v : ℕ) → v ≢ f → slice_index nows v ≡ slice_index vias v = λ v ne. get_or-set_other vias f v e 0 ne in
    let apart : (v : ℕ) → 0 < slice_index ranks v → v ≢ f = λ v pos same.
    (let is : slice_index ranks v ≡ 0 = subst (λ (u : ℕ). slice_index ranks u ≡ 0) (sym same) none in absurd (omega arith)) in
    let kept : (v : ℕ) → 0 < slice_index ranks v → slice_index now v ≡ slice_index ranks v = λ v pos. other v (apart v pos) in
    let begins = back.begins in
    let new : IsStepBack edges now f e = (
    let moved : slice_index now (to_at edges e) ≡ slice_index ranks t =
    subst (λ (u : ℕ). slice_index now u ≡ slice_index ranks t) (sym to) (kept t some) in
    record {
      there = lt;
      starts = from;
      ranked = omega arith;
      falls = omega arith;
    }) in
    let old : (v : ℕ) → v ≢ f → 1 < slice_index now v → IsStepBack edges now v (slice_index nows v) = (λ v ne more.
    let same = other v ne in
    let step = back.step v (omega arith) in
    let moved = kept (to_at edges (slice_index vias v)) step.ranked in
    let ranked = step.ranked in
    let falls = step.falls in
    subst (λ (u : ℕ). IsStepBack edges now v u) (sym (others v ne)) (record {
      there = step.there;
      starts = step.starts;
      ranked = omega arith;
      falls = omega arith;
    })) in
    record {
      begins = kept b (omega arith) ∙ begins;
      only = λ v is. elim (eqb_tells v f) [
        | inl same ↦ (let e' : slice_index now v ≡ next = subst (λ (u : ℕ). slice_index now u ≡ next) (sym same.1) here in
            absurd (omega arith))
        | inr ne ↦ back.only v (sym (other v ne.1) ∙ is)
      ];
      step = λ v more. elim (eqb_tells v f) [
        | inl same ↦ subst (λ (u : ℕ). IsStepBack edges now u (slice_index nows u)) (sym same.1)
            (subst (λ (u : ℕ). IsStepBack edges now f u) (sym via) new)
        | inr ne ↦ old v ne.1 more
      ];
    }

-- the first k edges were looked at, and `moved` says whether one gave a node its rank
pub record IsPassing (edges : List Edge) (before befores ranks vias : List ℕ) (moved : Bool) (k : ℕ) : Type 0 where
  pub kept : (b : ℕ) → LeadBack edges b before befores → LeadBack edges b ranks vias
  pub closed : moved ≡ false → AreClosed edges ranks k
  pub fewer : moved ≡ true → unranked ranks < unranked before
  pub most : unranked ranks ≤ unranked before

pub passing_none : (edges : List Edge) (ranks vias : List ℕ) → IsPassing edges ranks vias ranks vias false 0
passing_none edges ranks vias = record {
  kept = λ b back. back;
  closed = λ is e lt. absurd (omega arith);
  fewer = λ is. absurd (cc);
  most = omega arith;
}

pub passing_moved : (edges : List Edge) (before befores ranks vias now nows : List ℕ) (moved : Bool) (k : ℕ) →
    IsPassing edges before befores ranks vias moved k →
    ((b : ℕ) → LeadBack edges b ranks vias → LeadBack edges b now nows) → unranked now < unranked ranks →
    IsPassing edges before befores now nows true (k + 1)
passing_moved edges before befores ranks vias now nows moved k passing kept fewer =
    let most = passing.most in
    record {
      kept = λ b back. kept b (passing.kept b back);
      closed = λ is. absurd (cc);
      fewer = λ is. omega arith;
      most = omega arith;
    }

pub passing_stays : (edges : List Edge) (before befores ranks vias now nows : List ℕ) (moved : Bool) (k : ℕ) →
    IsPassing edges before befores ranks vias moved k →
    ((b : ℕ) → LeadBack edges b ranks vias → LeadBack edges b now nows) → now ≡ ranks → IsClosedAt edges now k →
    IsPassing edges before befores now nows moved (k + 1)
passing_stays edges before befores ranks vias now nows moved k passing kept same closed =
    let count : unranked now ≡ unranked ranks = ap unranked same in
    let most = passing.most in
    record {
      kept = λ b back. kept b (passing.kept b back);
      closed = λ is e lt. elim (eqb_tells e k) [
        | inl at ↦ subst (λ (u : ℕ). IsClosedAt edges now u) (sym at.1) closed
        | inr ne ↦ (let apart = ne.1 in subst (λ (rs : List ℕ). IsClosedAt edges rs e) (sym same) (passing.closed is e (omega arith)))
      ];
      fewer = λ is. (let less = passing.fewer is in omega arith);
      most = omega arith;
    }
