-- A `name` line, one position more.
use Rattle.std.proofs.Common.{◌≡◌, ℕ, ◌<◌, ◌+◌, ◌⊎◌, inl, inr, List, Option, None, Bool, true, false, not, ◌&&◌, length, replicate, set, refl, arith, sym, ap, subst, ◌∙◌, get_or-set_same, get_or-set_other}
use Rattle.std.proofs.Math.ListN.{length-set}
use Rattle.std.proofs.lemmas.Bool.{and_from, and_parts, cases_Bool, cases_eq, cases_lt, eqb-true, eq-eqb}
use Rattle.std.proofs.lemmas.List.{get_or-replicate, get_or_past, length-replicate}
use Rattle.eq_model.specs.Frames.{values}
use Rattle.eq_net.specs.Net.{Parts, name_at}
use Rattle.eq_match.specs.declared.types.Pair.{Pair}
use Rattle.eq_match.specs.Groups.{TellsHits, is_held}
use Rattle.eq_match.specs.Leaders.{leader_at}
use Rattle.eq_match.specs.NetPairs.{IsFilling}
use Rattle.eq_match.specs.Pairs.{gold_net}
use Rattle.eq_part.specs.declared.state.State.{State}
use Rattle.eq_part.specs.Partitions.{IsRenamed, renamed}
use Rattle.eq_part.specs.inner.Renaming.{AreRenamed, Gives}
use Rattle.eq_part.specs.inner.States.{division_of, is_chosen, name_at as given}

below : (j i : ℕ) → j < i + 1 → (j < i) ⊎ (j ≡ i)
below j i h = elim (cases_lt j i) [ inl less ↦ inl less | inr more ↦ inr (omega arith) ]

no_mark : (n l : ℕ) → values (replicate n false) l ≡ false
no_mark n l = elim (cases_lt l n) [
  | inl less ↦ get_or-replicate n l false false less
  | inr more ↦ get_or_past (replicate n false) l false (let e = length-replicate {A = Bool} n false in omega arith)
]

module _ (gold : Parts) (pairs : List Pair) (pattern template leaders : List ℕ) (chosen : ℕ → Bool) where
  pub none_renamed : (names : List (Option (List ℕ))) (n : ℕ) → length names ≡ n →
      AreRenamed gold pairs pattern template leaders chosen 0 names (replicate n false) names
  none_renamed names n count = record {
    count = refl;
    marks = length-replicate n false ∙ sym count;
    given_names = λ l e. absurd (let t = sym (no_mark n l) ∙ e in cc);
    none = λ l e k h. absurd (omega arith);
    kept = λ l e. refl;
  }

  module _ (p : ℕ) (before names : List (Option (List ℕ))) (done : List Bool)
      (is : AreRenamed gold pairs pattern template leaders chosen p before done names) where
    later : (l : ℕ) (a b : Option (List ℕ)) → Gives gold pairs pattern template leaders chosen p l a b →
        Gives gold pairs pattern template leaders chosen (p + 1) l a b
    later l a b g = record {
      at = g.at;
      text = g.text;
      there = (let t = g.there in omega arith);
      chosen_at = g.chosen_at;
      leads = g.leads;
      first = g.first;
      filled = g.filled;
      is = g.is;
    }

    -- nothing happens where the position isn't chosen, or its leader has its name
    pub not_due : (chosen p && not (values done (leader_at leaders p))) ≡ false →
        AreRenamed gold pairs pattern template leaders chosen (p + 1) before done names
    not_due fails = record {
      count = is.count;
      marks = is.marks;
      given_names = λ l e. later l (given before l) (given names l) (is.given_names l e);
      none = λ l e k h c same. elim (below k p h) [
        | inl less ↦ is.none l e k less c same
        | inr here ↦ (let t = sym (and_from (chosen p) (not (values done (leader_at leaders p))) (ap chosen (sym here) ∙ c)
            (ap (λ m. not (values done m)) (ap (leader_at leaders) (sym here) ∙ same) ∙ ap not e)) ∙ fails in absurd (cc))
      ];
      kept = is.kept;
    }

    -- its leader gets its name
    pub due : (text : List ℕ) (now : List (Option (List ℕ))) → chosen p ≡ true → values done (leader_at leaders p) ≡ false →
        leader_at leaders p < length names →
        IsFilling pattern template (name_at gold.nets (gold_net pairs p)) text →
        now ≡ set names (leader_at leaders p) (renamed (given names (leader_at leaders p)) text) →
        AreRenamed gold pairs pattern template leaders chosen (p + 1) before (set done (leader_at leaders p) true) now
    due text now c undone within filled now_is =
        let leader = leader_at leaders p in
        let new = set names leader (renamed (given names leader) text) in
        let marks = set done leader true in
        let there : leader < length done = (let a = is.count in let b = is.marks in omega arith) in
        let other : (l : ℕ) → (l ≡ leader → ⊥) → values marks l ≡ values done l =
        λ l apart. get_or-set_other done leader l true false apart in
        let marked : values marks leader ≡ true = get_or-set_same done leader true false there in
        let apart : (l : ℕ) → values marks l ≡ false → l ≡ leader → ⊥ =
        λ l e same. let t : true ≡ false = sym marked ∙ ap (values marks) (sym same) ∙ e in absurd (cc) in
        subst (AreRenamed gold pairs pattern template leaders chosen (p + 1) before marks) (sym now_is) (record {
          count = length-set names leader _ ∙ is.count;
          marks = length-set done leader true ∙ is.marks;
          given_names = λ l e. elim (cases_eq l leader) [
            | inl same ↦ record {
              at = p;
              text = text;
              there = omega arith;
              chosen_at = c;
              leads = sym same;
              first = λ k h chosen_k leads. is.none leader undone k h chosen_k (leads ∙ same);
              filled = filled;
              is = ap (given new) same ∙ get_or-set_same names leader _ None within ∙
                  ap (λ o. renamed o text) (is.kept leader undone ∙ ap (given before) (sym same));
            }
            | inr far ↦ (let g = is.given_names l (sym (other l far) ∙ e) in
                subst (Gives gold pairs pattern template leaders chosen (p + 1) l (given before l))
                (sym (get_or-set_other names leader l _ None far)) (later l (given before l) (given names l) g))
          ];
          none = λ l e k h chosen_k leads. elim (below k p h) [
            | inl less ↦ is.none l (sym (other l (apart l e)) ∙ e) k less chosen_k leads
            | inr here ↦ apart l e (sym leads ∙ ap (leader_at leaders) here)
          ];
          kept = λ l e. get_or-set_other names leader l _ None (apart l e) ∙ is.kept l (sym (other l (apart l e)) ∙ e);
        })

-- at the end each partition has its name
module _ (gold : Parts) (pairs : List Pair) (pattern template : List ℕ) (s after : State) (hits : List Bool)
    (tells : TellsHits gold pairs pattern (values hits)) (same : after.classes ≡ s.classes) (done : List Bool)
    (is : AreRenamed gold pairs pattern template s.classes (is_chosen pairs (values hits)) (length pairs) s.names done after.names) where
  pub all_renamed : IsRenamed gold pairs pattern template (division_of s) (division_of after)
  all_renamed i h held =
      let l = leader_at s.classes i in
      let called : (division_of after).called i ≡ given after.names l = ap (λ ls. given after.names (leader_at ls i)) same in
      elim (cases_Bool (values done l)) [
        | inl holds ↦ (let g = is.given_names l holds in let c = and_parts (is_held pairs g.at) (values hits g.at) g.chosen_at in
            inl (
              g.at,
              g.text,
              record {
                within = g.there;
                held = c.0;
                one = eq-eqb l (leader_at s.classes g.at) (sym g.leads);
                holds = (tells g.at g.there).0 c.1;
                first = λ k less held_k one hit. g.first k less (and_from (is_held pairs k) (values hits k) held_k
                    ((tells k (let t = g.there in omega arith)).1 hit)) (sym (eqb-true l (leader_at s.classes k) one));
              },
              g.filled,
              called ∙ g.is,
            ))
        | inr fails ↦ inr (
          (λ j less held_j one hit. is.none l fails j less (and_from (is_held pairs j) (values hits j) held_j ((tells j less).1 hit))
              (sym (eqb-true l (leader_at s.classes j) one))),
          called ∙ is.kept l fails,
        )
      ]
