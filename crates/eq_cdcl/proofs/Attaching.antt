-- One clause more is watched.
use Rattle.std.proofs.Common.{◌≡◌, ◌≢◌, ℕ, ◌*◌, ◌<◌, ◌⊎◌, inl, inr, List, [], ◌∷◌, ◌++◌, length, slice_get, Some, arith, refl, sym, ap, ◌∙◌, subst}
use Rattle.std.specs.Prelude.{All, Contains, slice_index_or}
use Rattle.std.proofs.lemmas.List.{length_push, get_or_past}
use Rattle.std.proofs.lemmas.Bool.{cases_lt}
use Rattle.std.proofs.lemmas.Option.{slice_get_within}
use Rattle.eq_proof.specs.Literal.{Literal, code_of}
use Rattle.eq_cdcl.specs.inner.Assignment.{Assignment}
use Rattle.eq_cdcl.specs.inner.Slots.{IsProper}
use Rattle.eq_cdcl.specs.inner.Watched.{StaysTrue, IsListed, IsQuietFor, IsMinded, IsEntry, IsWatched, IsAttached}
use Rattle.eq_cdcl.specs.declared.watches.Pair.{Pair}
use Rattle.eq_cdcl.specs.declared.watches.Watch.{Watch}
use Rattle.eq_cdcl.specs.declared.trail.Reason.{Reason}
use Rattle.eq_cdcl.specs.declared.trail.Reason.TheVariants.{Decision}
use Rattle.eq_cdcl.proofs.Places.{push_cases, push_old, push_last}
use Rattle.eq_cdcl.proofs.Moving.{added_kept, added_only}

-- lists with more entries, each of the new ones of a clause that is known by then
record IsGrown (known : List (List Literal)) (old new : List (List Watch)) : Type 0 where
  same : length new ≡ length old
  kept : (k : ℕ) (v : Watch) → Contains (slice_index_or old k []) v → Contains (slice_index_or new k []) v
  only : (k : ℕ) (v : Watch) → Contains (slice_index_or new k []) v → Contains (slice_index_or old k []) v ⊎ IsEntry known v

entry_kept : (known : List (List Literal)) (clause : List Literal) (w : Watch) → IsEntry known w → IsEntry (known ++ clause ∷ []) w
entry_kept known clause w e = (e.0, push_old known (clause ∷ []) w.clause e.0 e.1, e.2)

listed_grown : (known : List (List Literal)) (old new : List (List Watch)) (n : ℕ) (l : Literal) → IsGrown known old new → IsListed old n l → IsListed new n l
listed_grown known old new n l g h = (h.0, g.kept (code_of l) h.0 h.1, h.2)

minded_grown : (known : List (List Literal)) (a : Assignment) (head : ℕ) (old new : List (List Watch)) (n : ℕ) (clause : List Literal) (pair : Pair) → IsGrown known old new → IsMinded a head old n clause pair → IsMinded a head new n clause pair
minded_grown known a head old new n clause pair g m = record {
  first = m.first;
  second = m.second;
  first_proper = m.first_proper;
  second_proper = m.second_proper;
  watched = elim m.watched [
    | inl s ↦ inl s
    | inr o ↦ inr (record {
      different = o.different;
      first_listed = listed_grown known old new n pair.first g o.first_listed;
      second_listed = listed_grown known old new n pair.second g o.second_listed;
      first_quiet = o.first_quiet;
      second_quiet = o.second_quiet;
    })
  ];
}

-- one clause more, which is minded
watched_grown : (known : List (List Literal)) (a : Assignment) (head : ℕ) (pairs : List Pair) (old new : List (List Watch)) (clause : List Literal) (pair : Pair) → IsWatched known a head pairs old → IsGrown (known ++ clause ∷ []) old new → IsMinded a head new (length known) clause pair → IsWatched (known ++ clause ∷ []) a head (pairs ++ pair ∷ []) new
watched_grown known a head pairs old new clause pair w g m = record {
  count = let count = w.count in omega (arith, length_push pairs pair, length_push known clause);
  room = g.same ∙ w.room;
  entries = λ k v h. elim (g.only k v h) [ inl there ↦ entry_kept known clause v (w.entries k v there) | inr is ↦ is ];
  minded = λ n c p ec ep. elim (push_cases known clause n c ec) [
    | inl before ↦ elim (push_cases pairs pair n p ep) [
      | inl before_too ↦ minded_grown (known ++ clause ∷ []) a head old new n c p g (w.minded n c p before before_too)
      | inr last ↦ absurd (let below = slice_get_within known n c before in let at = last.0 in let count = w.count in omega arith)
    ]
    | inr last ↦ elim (push_cases pairs pair n p ep) [
      | inl before ↦ absurd (let below = slice_get_within pairs n p before in let at = last.0 in let count = w.count in omega arith)
      | inr last_too ↦
          let P : ℕ → Type 0 = λ k. IsMinded a head new k c p in
          let Q : List Literal → Type 0 = λ x. IsMinded a head new (length known) x p in
          let R : Pair → Type 0 = λ x. IsMinded a head new (length known) clause x in
          subst P (sym last.0) (subst Q last.1 (subst R last_too.1 m))
    ]
  ];
  within = w.within;
  last_level = w.last_level;
}

no_change : (known : List (List Literal)) (lists : List (List Watch)) → IsGrown known lists lists
no_change known lists = record { same = refl; kept = λ k v h. h; only = λ k v h. inl h }

-- a clause with a true literal of level 0
pub watched_root : (known : List (List Literal)) (a : Assignment) (head : ℕ) (pairs : List Pair) (lists : List (List Watch)) (clause : List Literal) (l : Literal) → IsWatched known a head pairs lists → Contains clause l → IsProper l → StaysTrue a 0 clause → IsWatched (known ++ clause ∷ []) a head (pairs ++ (record { first = l; second = l }) ∷ []) lists
watched_root known a head pairs lists clause l w member proper stays =
    watched_grown known a head pairs lists lists clause (record { first = l; second = l }) w (no_change (known ++ clause ∷ []) lists) (record {
      first = member;
      second = member;
      first_proper = proper;
      second_proper = proper;
      watched = inl stays;
    })

-- a clause that watches two literals
pub watched_attached : (known : List (List Literal)) (a : Assignment) (head : ℕ) (pairs pairs' : List Pair) (lists lists' : List (List Watch)) (clause : List Literal) (x y : Literal) → IsWatched known a head pairs lists → IsAttached pairs lists pairs' lists' x y → Contains clause x → Contains clause y → x ≢ y → IsQuietFor a head clause x → IsQuietFor a head clause y
    → IsWatched (known ++ clause ∷ []) a head pairs' lists'
watched_attached known a head pairs pairs' lists lists' clause x y w t first second different first_quiet second_quiet =
    let pair : Pair = record { first = x; second = y } in
    let number : length pairs ≡ length known = w.count in
    let here : slice_get (known ++ clause ∷ []) (length known) ≡ Some clause = push_last known clause in
    let entry_of : (v : Watch) → v.clause ≡ length pairs → Contains clause v.blocker → IsEntry (known ++ clause ∷ []) v = λ v at blocked. (clause, ap (λ n. slice_get (known ++ clause ∷ []) n) (at ∙ number) ∙ here, blocked) in
    let one : IsEntry (known ++ clause ∷ []) t.one = entry_of t.one t.one_is.0 (subst (Contains clause) (sym t.one_is.1) second) in
    let two : IsEntry (known ++ clause ∷ []) t.two = entry_of t.two t.two_is.0 (subst (Contains clause) (sym t.two_is.1) first) in
    let grown : IsGrown (known ++ clause ∷ []) lists lists' = record {
      same = t.two_added.same ∙ t.one_added.same;
      kept = λ k v h. added_kept t.between lists' (code_of y) k t.two v t.two_added (added_kept lists t.between (code_of x) k t.one v t.one_added h);
      only = λ k v h. elim (added_only t.between lists' (code_of y) k t.two v t.two_added h) [
        | inl before ↦ elim (added_only lists t.between (code_of x) k t.one v t.one_added before) [
          | inl older ↦ inl older
          | inr is ↦ inr (subst (λ (z : Watch). IsEntry (known ++ clause ∷ []) z) is one)
        ]
        | inr is ↦ inr (subst (λ (z : Watch). IsEntry (known ++ clause ∷ []) z) is two)
      ];
    } in
    let minded : IsMinded a head lists' (length known) clause pair = record {
      first = first;
      second = second;
      first_proper = t.first_proper;
      second_proper = t.second_proper;
      watched = inr (record {
        different = different;
        first_listed = (t.one, added_kept t.between lists' (code_of y) (code_of x) t.two t.one t.two_added t.one_added.there, t.one_is.0 ∙ number);
        second_listed = (t.two, t.two_added.there, t.two_is.0 ∙ number);
        first_quiet = first_quiet;
        second_quiet = second_quiet;
      });
    } in
    let P : List Pair → Type 0 = λ ps. IsWatched (known ++ clause ∷ []) a head ps lists' in
    subst P (sym t.pushed) (watched_grown known a head pairs lists lists' clause pair w grown minded)

-- no clause yet
pub watched_none : (size : ℕ) (pairs : List Pair) (lists : List (List Watch)) → pairs ≡ [] → length lists ≡ 2 * size → All (λ list. list ≡ []) lists → IsWatched [] (record { size = size; lits = []; reasons = [] }) 0 pairs lists
watched_none size pairs lists none room empty = record {
  count = ap (λ (ps : List Pair). length ps) none;
  room = room;
  entries = λ k w h. absurd (
      let e : slice_index_or lists k [] ≡ [] = elim (cases_lt k (length lists)) [
        | inl below ↦ empty k [] below
        | inr past ↦ get_or_past lists k [] past
      ] in
      let P : List Watch → Type 0 = λ ws. Contains ws w in
      let no = subst P e h in
      let lt : no.0 < 0 = no.1 in omega arith);
  minded = λ n clause pair ek ep. absurd (let below = slice_get_within {A = List Literal} [] n clause ek in omega arith);
  within = omega arith;
  last_level = λ d lt e. absurd (let below = slice_get_within {A = Reason} [] d Decision e in omega arith);
}
